-- The bits of the status registers by name (PMBus 1.3 Part II), each as the number that has only this bit, and the
-- names of those that are set. How a reserved bit is named is this project's own choice.
use Rattle.std.specs.Prelude.{ℕ, Bool, false, ◌==◌, if◌then◌else◌, List, [], ◌∷◌, ◌++◌, codes, bit_and}
use Rattle.pm_trace.specs.declared.status.Status.{Status}
use Rattle.pm_trace.specs.declared.status.Status.TheVariants.{Byte, Word, Vout, Cml, Iout, Input, Temperature, Other, MfrSpecific, Fans12, Fans34}

-- a bit and its name
abbrev pub NamedBit : Type 0
NamedBit = ℕ × List ℕ

abbrev pub byte_rows : List NamedBit
byte_rows = (0x80, codes "BUSY") ∷ (0x40, codes "OFF") ∷ (0x20, codes "VOUT_OV_FAULT") ∷ (0x10, codes "IOUT_OC_FAULT")
    ∷ (0x08, codes "VIN_UV_FAULT") ∷ (0x04, codes "TEMPERATURE") ∷ (0x02, codes "CML")
    ∷ (0x01, codes "NONE_OF_THE_ABOVE") ∷ []

-- STATUS_WORD has the bits of STATUS_BYTE in its lower byte
abbrev pub word_rows : List NamedBit
word_rows = (0x8000, codes "VOUT") ∷ (0x4000, codes "IOUT_POUT") ∷ (0x2000, codes "INPUT")
    ∷ (0x1000, codes "MFR_SPECIFIC") ∷ (0x0800, codes "POWER_GOOD#") ∷ (0x0400, codes "FANS") ∷ (0x0200, codes "OTHER")
    ∷ (0x0100, codes "UNKNOWN") ∷ byte_rows

abbrev pub vout_rows : List NamedBit
vout_rows = (0x80, codes "VOUT_OV_FAULT") ∷ (0x40, codes "VOUT_OV_WARNING") ∷ (0x20, codes "VOUT_UV_WARNING")
    ∷ (0x10, codes "VOUT_UV_FAULT") ∷ (0x08, codes "VOUT_MAX_MIN") ∷ (0x04, codes "TON_MAX_FAULT")
    ∷ (0x02, codes "TOFF_MAX_WARNING") ∷ (0x01, codes "TRACKING") ∷ []

abbrev pub cml_rows : List NamedBit
cml_rows = (0x80, codes "COMMAND") ∷ (0x40, codes "DATA") ∷ (0x20, codes "PEC") ∷ (0x10, codes "MEMORY")
    ∷ (0x08, codes "PROCESSOR") ∷ (0x04, codes "bit 2") ∷ (0x02, codes "COMMUNICATION") ∷ (0x01, codes "OTHER") ∷ []

abbrev pub iout_rows : List NamedBit
iout_rows = (0x80, codes "IOUT_OC_FAULT") ∷ (0x40, codes "IOUT_OC_LV_FAULT") ∷ (0x20, codes "IOUT_OC_WARNING")
    ∷ (0x10, codes "IOUT_UC_FAULT") ∷ (0x08, codes "CURRENT_SHARE_FAULT") ∷ (0x04, codes "POWER_LIMITING")
    ∷ (0x02, codes "POUT_OP_FAULT") ∷ (0x01, codes "POUT_OP_WARNING") ∷ []

abbrev pub input_rows : List NamedBit
input_rows = (0x80, codes "VIN_OV_FAULT") ∷ (0x40, codes "VIN_OV_WARNING") ∷ (0x20, codes "VIN_UV_WARNING")
    ∷ (0x10, codes "VIN_UV_FAULT") ∷ (0x08, codes "UNIT_OFF_LOW_VIN") ∷ (0x04, codes "IIN_OC_FAULT")
    ∷ (0x02, codes "IIN_OC_WARNING") ∷ (0x01, codes "PIN_OP_WARNING") ∷ []

abbrev pub temperature_rows : List NamedBit
temperature_rows = (0x80, codes "OT_FAULT") ∷ (0x40, codes "OT_WARNING") ∷ (0x20, codes "UT_WARNING")
    ∷ (0x10, codes "UT_FAULT") ∷ (0x08, codes "bit 3") ∷ (0x04, codes "bit 2") ∷ (0x02, codes "bit 1")
    ∷ (0x01, codes "bit 0") ∷ []

abbrev pub other_rows : List NamedBit
other_rows = (0x80, codes "bit 7") ∷ (0x40, codes "bit 6") ∷ (0x20, codes "INPUT_A_FUSE") ∷ (0x10, codes "INPUT_B_FUSE")
    ∷ (0x08, codes "INPUT_A_ORING") ∷ (0x04, codes "INPUT_B_ORING") ∷ (0x02, codes "OUTPUT_ORING")
    ∷ (0x01, codes "FIRST_TO_ASSERT_SMBALERT") ∷ []

abbrev pub mfr_specific_rows : List NamedBit
mfr_specific_rows = (0x80, codes "bit 7") ∷ (0x40, codes "bit 6") ∷ (0x20, codes "bit 5") ∷ (0x10, codes "bit 4")
    ∷ (0x08, codes "bit 3") ∷ (0x04, codes "bit 2") ∷ (0x02, codes "bit 1") ∷ (0x01, codes "bit 0") ∷ []

abbrev pub fans_1_2_rows : List NamedBit
fans_1_2_rows = (0x80, codes "FAN_1_FAULT") ∷ (0x40, codes "FAN_2_FAULT") ∷ (0x20, codes "FAN_1_WARNING")
    ∷ (0x10, codes "FAN_2_WARNING") ∷ (0x08, codes "FAN_1_SPEED_OVERRIDDEN") ∷ (0x04, codes "FAN_2_SPEED_OVERRIDDEN")
    ∷ (0x02, codes "AIRFLOW_FAULT") ∷ (0x01, codes "AIRFLOW_WARNING") ∷ []

abbrev pub fans_3_4_rows : List NamedBit
fans_3_4_rows = (0x80, codes "FAN_3_FAULT") ∷ (0x40, codes "FAN_4_FAULT") ∷ (0x20, codes "FAN_3_WARNING")
    ∷ (0x10, codes "FAN_4_WARNING") ∷ (0x08, codes "FAN_3_SPEED_OVERRIDDEN") ∷ (0x04, codes "FAN_4_SPEED_OVERRIDDEN")
    ∷ (0x02, codes "bit 1") ∷ (0x01, codes "bit 0") ∷ []

-- what CAPABILITY says beside PEC and the speed
abbrev pub capability_rows : List NamedBit
capability_rows = (0x10, codes "SMBALERT#") ∷ (0x08, codes "IEEE half precision") ∷ (0x04, codes "AVSBus")
    ∷ (0x02, codes "bit 1") ∷ (0x01, codes "bit 0") ∷ []

-- the reserved bits of ON_OFF_CONFIG
abbrev pub on_off_rows : List NamedBit
on_off_rows = (0x80, codes "bit 7") ∷ (0x40, codes "bit 6") ∷ (0x20, codes "bit 5") ∷ []

-- the bits of a register, the highest first
unfoldable pub rows_of : Status → List NamedBit
rows_of Byte = byte_rows
rows_of Word = word_rows
rows_of Vout = vout_rows
rows_of Cml = cml_rows
rows_of Iout = iout_rows
rows_of Input = input_rows
rows_of Temperature = temperature_rows
rows_of Other = other_rows
rows_of MfrSpecific = mfr_specific_rows
rows_of Fans12 = fans_1_2_rows
rows_of Fans34 = fans_3_4_rows

-- the names of the bits that are set, with a text around each name, and one between two of them
abbrev pub names_from : List ℕ → List ℕ → Bool → List NamedBit → ℕ → List ℕ
names_from between around is_first [] bits = []
names_from between around is_first (row ∷ rows) bits = if bit_and bits row.0 == 0
    then names_from between around is_first rows bits
    else (if is_first then [] else between) ++ (around ++ (row.1 ++ (around ++ names_from between around false rows bits)))
