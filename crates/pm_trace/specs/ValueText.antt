-- Values as they are shown to a person. The forms are this project's own choice.
use Rattle.std.specs.Prelude.{ℕ, ℤ, pos, negsuc, zero, suc, ◌+◌, ◌*◌, ◌/◌, ◌%◌, true, false, ◌||◌, ◌==◌, bit_and, if◌then◌else◌, List, [], ◌++◌, codes, decimal, Option, Some, None}
use Rattle.std.specs.Fmt.{signed_decimal}
use Rattle.pm_table.specs.declared.vout_mode.VoutMode.{VoutMode}
use Rattle.pm_table.specs.declared.vout_mode.VoutMode.TheVariants.{Linear, Direct}
use Rattle.pm_trace.specs.Statuses.{capability_rows, names_from, on_off_rows, rows_of}
use Rattle.pm_trace.specs.Values.{millionths}
use Rattle.pm_trace.specs.declared.status.Status.{Status}
use Rattle.pm_trace.specs.declared.value.Unit.{Unit as MeasureUnit}
use Rattle.pm_trace.specs.declared.value.Unit.TheVariants.{Volt, Ampere, Celsius}
use Rattle.pm_trace.specs.declared.value.Value.{Value}
use Rattle.pm_trace.specs.declared.value.Value.TheVariants.{Measured, Operates, Protects, Scales, Relative, Vid, Half, Flags, Capable, Controls, Revises}

abbrev pub unit_text : MeasureUnit → List ℕ
unit_text Volt = codes "V"
unit_text Ampere = codes "A"
unit_text Celsius = codes "C"

-- a byte of OPERATION below C0h: bits 7 and 6 turn off at once, off by the delays of the part, or on; bits 5 and 4 select what
-- the voltage is; of a margin bits 3 and 2 say what a fault does, and 00 and 11 are reserved there
abbrev pub fault_bits_text : ℕ → List ℕ
fault_bits_text bits = if bits == 0b01 || bits == 0b10 then [] else codes ", reserved fault bits"

abbrev pub operation_text : ℕ → List ℕ
operation_text byte = if byte / 64 == 0b00 then codes "off"
    else (if byte / 64 == 0b01 then codes "soft off"
    else (if byte / 16 == 0b1000 then codes "on"
    else (if byte / 16 == 0b1001 then codes "on, margin low" ++ fault_bits_text (byte / 4 % 4)
    else (if byte / 16 == 0b1010 then codes "on, margin high" ++ fault_bits_text (byte / 4 % 4)
    else codes "on, AVSBus"))))

-- the writes that a byte of WRITE_PROTECT lets through
abbrev pub protection_text : ℕ → List ℕ
protection_text byte = if byte == 0x00 then codes "all writes"
    else (if byte == 0x20 then codes "writes of WRITE_PROTECT, OPERATION, PAGE, ON_OFF_CONFIG and VOUT_COMMAND"
    else (if byte == 0x40 then codes "writes of WRITE_PROTECT, OPERATION and PAGE" else codes "writes of WRITE_PROTECT"))

abbrev pub mode_text : VoutMode → List ℕ
mode_text (Linear n) = codes "ULINEAR16 " ++ signed_decimal n
mode_text Direct = codes "DIRECT"

-- a relative one, with the exponent of its ULINEAR16
unfoldable pub relative_text : ℤ → List ℕ
relative_text n = codes "ULINEAR16 " ++ (signed_decimal n ++ codes " relative")

-- the digits after the point of so many millionths, fewer than a million: at most this many, and no zero at their end
abbrev pub digits_after_point : ℕ → ℕ → List ℕ
digits_after_point zero part = []
digits_after_point (suc n) part = if part == 0 then [] else decimal (part * 10 / 1000000) ++ digits_after_point n (part * 10 % 1000000)

-- the point and what follows it, if that isn't 0
abbrev pub point_text : ℕ → List ℕ
point_text part = if part == 0 then [] else codes "." ++ digits_after_point 6 part

abbrev pub size_text : ℕ → List ℕ
size_text size = decimal (size / 1000000) ++ point_text (size % 1000000)

unfoldable pub minus : List ℕ
minus = codes "-"

-- millionths as a decimal number
abbrev pub millionths_text : ℤ → List ℕ
millionths_text (pos size) = size_text size
millionths_text (negsuc below) = minus ++ size_text (below + 1)

-- the names of the bits that are set; each bit of a status has a name
abbrev pub flags_text : Status → ℕ → List ℕ
flags_text status bits = if bits == 0 then codes "none" else names_from (codes ", ") [] true (rows_of status) bits

-- the fastest bus of CAPABILITY, its bits 6 and 5
abbrev pub speed_text : ℕ → List ℕ
speed_text byte = if bit_and byte 0x60 == 0x00 then codes "100 kHz"
    else (if bit_and byte 0x60 == 0x20 then codes "400 kHz"
    else (if bit_and byte 0x60 == 0x40 then codes "1 MHz" else codes "reserved speed"))

-- whether it has PEC, its bit 7
abbrev pub pec_text : ℕ → List ℕ
pec_text byte = if bit_and byte 0x80 == 0 then [] else codes "PEC, "

-- a byte of CAPABILITY
unfoldable pub capability_text : ℕ → List ℕ
capability_text byte = pec_text byte ++ (speed_text byte ++ names_from (codes ", ") [] false capability_rows byte)

-- what turns an output on and off, by bits 4 to 2 of ON_OFF_CONFIG
abbrev pub switch_text : ℕ → List ℕ
switch_text byte = if bit_and byte 0x10 == 0 then codes "always on"
    else (if bit_and byte 0x0C == 0x0C then codes "by OPERATION and CONTROL"
    else (if bit_and byte 0x0C == 0x08 then codes "by OPERATION"
    else (if bit_and byte 0x0C == 0x04 then codes "by CONTROL" else codes "by neither")))

-- how CONTROL does, by its bits 1 and 0
abbrev pub polarity_text : ℕ → List ℕ
polarity_text byte = if bit_and byte 0x02 == 0 then codes ", CONTROL active low" else codes ", CONTROL active high"

abbrev pub delay_text : ℕ → List ℕ
delay_text byte = if bit_and byte 0x01 == 0 then codes ", off with delay" else codes ", off at once"

-- the polarity and the delay, if CONTROL acts
abbrev pub control_text : ℕ → List ℕ
control_text byte = if bit_and byte 0x14 == 0x14 then polarity_text byte ++ delay_text byte else []

-- a byte of ON_OFF_CONFIG
unfoldable pub on_off_text : ℕ → List ℕ
on_off_text byte = switch_text byte ++ (control_text byte ++ names_from (codes ", ") [] false on_off_rows byte)

-- a part of the standard by its digit in PMBUS_REVISION, which is below 4
abbrev pub part_text : ℕ → List ℕ
part_text digit = if digit == 0 then codes "1.0"
    else (if digit == 1 then codes "1.1" else (if digit == 2 then codes "1.2" else codes "1.3"))

-- a byte of PMBUS_REVISION
unfoldable pub revision_text : ℕ → List ℕ
revision_text byte = codes "Part I " ++ (part_text (byte / 16) ++ (codes ", Part II " ++ part_text (byte % 16)))

unfoldable pub value_text : Value → List ℕ
value_text (Measured ratio unit) = millionths_text (millionths ratio) ++ (codes " " ++ unit_text unit)
value_text (Operates byte) = operation_text byte
value_text (Protects byte) = protection_text byte
value_text (Scales mode) = mode_text mode
value_text (Relative n) = relative_text n
value_text Vid = codes "VID"
value_text Half = codes "half"
value_text (Flags status bits) = flags_text status bits
value_text (Capable byte) = capability_text byte
value_text (Controls byte) = on_off_text byte
value_text (Revises byte) = revision_text byte

-- what follows a packet's text
abbrev pub known_text : Option Value → List ℕ
known_text None = []
known_text (Some value) = codes " " ++ value_text value
