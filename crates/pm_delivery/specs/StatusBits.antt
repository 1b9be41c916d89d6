-- The bits of STATUS_WORD and of the status registers that it points to, by their numbers (PMBus 1.3 Part II, STATUS_WORD,
-- STATUS_VOUT, STATUS_IOUT, STATUS_INPUT, STATUS_TEMPERATURE).
use Rattle.std.specs.Prelude.{ℕ, ◌/◌, ◌%◌, ◌^◌, ◌==◌, ◌&&◌, nat_lt, Bool, List, [], ◌∷◌}

-- a bit of a word is 1
abbrev pub has_bit : ℕ → ℕ → Bool
has_bit word place = nat_lt place 16 && (word / 2 ^ place) % 2 == 1

-- STATUS_WORD: OFF, the output provides no power, whatever the reason
abbrev pub off : ℕ
off = 6

-- STATUS_WORD: POWER_GOOD#, power good isn't there
abbrev pub power_good_not : ℕ
power_good_not = 11

-- STATUS_WORD: VOUT, IOUT/POUT, INPUT and TEMPERATURE, each the summary of a status register
abbrev pub vout : ℕ
vout = 15

abbrev pub iout_pout : ℕ
iout_pout = 14

abbrev pub input : ℕ
input = 13

abbrev pub temperature : ℕ
temperature = 2

-- The bits that say a fault; a warning, and what is neither, is none of them. Of STATUS_WORD itself: VOUT_OV_FAULT, IOUT_OC_FAULT,
-- VIN_UV_FAULT.
abbrev pub status_word_faults : List ℕ
status_word_faults = 5 ∷ 4 ∷ 3 ∷ []

-- STATUS_VOUT: VOUT_OV_FAULT, VOUT_UV_FAULT, TON_MAX_FAULT
abbrev pub status_vout_faults : List ℕ
status_vout_faults = 7 ∷ 4 ∷ 2 ∷ []

-- STATUS_IOUT: IOUT_OC_FAULT, IOUT_OC_LV_FAULT, IOUT_UC_FAULT, current share fault, POUT_OP_FAULT
abbrev pub status_iout_faults : List ℕ
status_iout_faults = 7 ∷ 6 ∷ 4 ∷ 3 ∷ 1 ∷ []

-- STATUS_INPUT: VIN_OV_FAULT, VIN_UV_FAULT, IIN_OC_FAULT
abbrev pub status_input_faults : List ℕ
status_input_faults = 7 ∷ 4 ∷ 2 ∷ []

-- STATUS_TEMPERATURE: OT_FAULT, UT_FAULT
abbrev pub status_temperature_faults : List ℕ
status_temperature_faults = 7 ∷ 4 ∷ []
