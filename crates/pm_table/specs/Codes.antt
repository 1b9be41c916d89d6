-- The command codes of PMBus 1.3 Part II that this project's converter has, by name. Every other
-- definition names a code by these.
use Rattle.std.specs.Prelude.{ℕ}

abbrev pub page : ℕ
page = 0x00

abbrev pub operation : ℕ
operation = 0x01

abbrev pub clear_faults : ℕ
clear_faults = 0x03

abbrev pub page_plus_write : ℕ
page_plus_write = 0x05

abbrev pub page_plus_read : ℕ
page_plus_read = 0x06

abbrev pub write_protect : ℕ
write_protect = 0x10

abbrev pub store_user_all : ℕ
store_user_all = 0x15

abbrev pub restore_user_all : ℕ
restore_user_all = 0x16

abbrev pub capability : ℕ
capability = 0x19

abbrev pub vout_mode : ℕ
vout_mode = 0x20

abbrev pub vout_command : ℕ
vout_command = 0x21

abbrev pub vout_max : ℕ
vout_max = 0x24

abbrev pub vout_margin_high : ℕ
vout_margin_high = 0x25

abbrev pub vout_margin_low : ℕ
vout_margin_low = 0x26

abbrev pub vout_min : ℕ
vout_min = 0x2B

abbrev pub coefficients : ℕ
coefficients = 0x30

abbrev pub status_byte : ℕ
status_byte = 0x78

abbrev pub status_word : ℕ
status_word = 0x79

abbrev pub status_vout : ℕ
status_vout = 0x7A

abbrev pub status_cml : ℕ
status_cml = 0x7E

abbrev pub read_vin : ℕ
read_vin = 0x88

abbrev pub read_vout : ℕ
read_vout = 0x8B

abbrev pub read_iout : ℕ
read_iout = 0x8C

abbrev pub read_temperature_1 : ℕ
read_temperature_1 = 0x8D

abbrev pub pmbus_revision : ℕ
pmbus_revision = 0x98
