-- The names of the command codes as PMBus 1.3 Part II prints them, beside those that the command table has. A reserved code
-- has none, and a maker's own code (D0h to FDh) no other name than its number.
use Rattle.std.specs.Prelude.{ℕ, ◌==◌, nat_lt, if◌then◌else◌, List, [], ◌∷◌, codes}
use Rattle.pm_table.specs.Commands.{is_known, name_of}

-- a code and its name
abbrev pub NamedCode : Type 0
NamedCode = ℕ × List ℕ

-- 00h to 1Fh
unfoldable pub rows_from_00 : List NamedCode
rows_from_00 =
    (0x02, codes "ON_OFF_CONFIG") ∷ (0x04, codes "PHASE") ∷ (0x07, codes "ZONE_CONFIG") ∷
    (0x08, codes "ZONE_ACTIVE") ∷ (0x11, codes "STORE_DEFAULT_ALL") ∷ (0x12, codes "RESTORE_DEFAULT_ALL") ∷
    (0x13, codes "STORE_DEFAULT_CODE") ∷ (0x14, codes "RESTORE_DEFAULT_CODE") ∷
    (0x17, codes "STORE_USER_CODE") ∷ (0x18, codes "RESTORE_USER_CODE") ∷ (0x1A, codes "QUERY") ∷
    (0x1B, codes "SMBALERT_MASK") ∷ []

-- 20h to 3Fh
unfoldable pub rows_from_20 : List NamedCode
rows_from_20 =
    (0x22, codes "VOUT_TRIM") ∷ (0x23, codes "VOUT_CAL_OFFSET") ∷ (0x27, codes "VOUT_TRANSITION_RATE") ∷
    (0x28, codes "VOUT_DROOP") ∷ (0x29, codes "VOUT_SCALE_LOOP") ∷ (0x2A, codes "VOUT_SCALE_MONITOR") ∷
    (0x31, codes "POUT_MAX") ∷ (0x32, codes "MAX_DUTY") ∷ (0x33, codes "FREQUENCY_SWITCH") ∷
    (0x34, codes "POWER_MODE") ∷ (0x35, codes "VIN_ON") ∷ (0x36, codes "VIN_OFF") ∷ (0x37, codes "INTERLEAVE") ∷
    (0x38, codes "IOUT_CAL_GAIN") ∷ (0x39, codes "IOUT_CAL_OFFSET") ∷ (0x3A, codes "FAN_CONFIG_1_2") ∷
    (0x3B, codes "FAN_COMMAND_1") ∷ (0x3C, codes "FAN_COMMAND_2") ∷ (0x3D, codes "FAN_CONFIG_3_4") ∷
    (0x3E, codes "FAN_COMMAND_3") ∷ (0x3F, codes "FAN_COMMAND_4") ∷ []

-- 40h to 5Fh
unfoldable pub rows_from_40 : List NamedCode
rows_from_40 =
    (0x40, codes "VOUT_OV_FAULT_LIMIT") ∷ (0x41, codes "VOUT_OV_FAULT_RESPONSE") ∷
    (0x42, codes "VOUT_OV_WARN_LIMIT") ∷ (0x43, codes "VOUT_UV_WARN_LIMIT") ∷
    (0x44, codes "VOUT_UV_FAULT_LIMIT") ∷ (0x45, codes "VOUT_UV_FAULT_RESPONSE") ∷
    (0x46, codes "IOUT_OC_FAULT_LIMIT") ∷ (0x47, codes "IOUT_OC_FAULT_RESPONSE") ∷
    (0x48, codes "IOUT_OC_LV_FAULT_LIMIT") ∷ (0x49, codes "IOUT_OC_LV_FAULT_RESPONSE") ∷
    (0x4A, codes "IOUT_OC_WARN_LIMIT") ∷ (0x4B, codes "IOUT_UC_FAULT_LIMIT") ∷
    (0x4C, codes "IOUT_UC_FAULT_RESPONSE") ∷ (0x4F, codes "OT_FAULT_LIMIT") ∷
    (0x50, codes "OT_FAULT_RESPONSE") ∷ (0x51, codes "OT_WARN_LIMIT") ∷ (0x52, codes "UT_WARN_LIMIT") ∷
    (0x53, codes "UT_FAULT_LIMIT") ∷ (0x54, codes "UT_FAULT_RESPONSE") ∷ (0x55, codes "VIN_OV_FAULT_LIMIT") ∷
    (0x56, codes "VIN_OV_FAULT_RESPONSE") ∷ (0x57, codes "VIN_OV_WARN_LIMIT") ∷
    (0x58, codes "VIN_UV_WARN_LIMIT") ∷ (0x59, codes "VIN_UV_FAULT_LIMIT") ∷
    (0x5A, codes "VIN_UV_FAULT_RESPONSE") ∷ (0x5B, codes "IIN_OC_FAULT_LIMIT") ∷
    (0x5C, codes "IIN_OC_FAULT_RESPONSE") ∷ (0x5D, codes "IIN_OC_WARN_LIMIT") ∷ (0x5E, codes "POWER_GOOD_ON") ∷
    (0x5F, codes "POWER_GOOD_OFF") ∷ []

-- 60h to 7Fh
unfoldable pub rows_from_60 : List NamedCode
rows_from_60 =
    (0x60, codes "TON_DELAY") ∷ (0x61, codes "TON_RISE") ∷ (0x62, codes "TON_MAX_FAULT_LIMIT") ∷
    (0x63, codes "TON_MAX_FAULT_RESPONSE") ∷ (0x64, codes "TOFF_DELAY") ∷ (0x65, codes "TOFF_FALL") ∷
    (0x66, codes "TOFF_MAX_WARN_LIMIT") ∷ (0x68, codes "POUT_OP_FAULT_LIMIT") ∷
    (0x69, codes "POUT_OP_FAULT_RESPONSE") ∷ (0x6A, codes "POUT_OP_WARN_LIMIT") ∷
    (0x6B, codes "PIN_OP_WARN_LIMIT") ∷ (0x7B, codes "STATUS_IOUT") ∷ (0x7C, codes "STATUS_INPUT") ∷
    (0x7D, codes "STATUS_TEMPERATURE") ∷ (0x7F, codes "STATUS_OTHER") ∷ []

-- 80h to 9Fh
unfoldable pub rows_from_80 : List NamedCode
rows_from_80 =
    (0x80, codes "STATUS_MFR_SPECIFIC") ∷ (0x81, codes "STATUS_FANS_1_2") ∷ (0x82, codes "STATUS_FANS_3_4") ∷
    (0x83, codes "READ_KWH_IN") ∷ (0x84, codes "READ_KWH_OUT") ∷ (0x85, codes "READ_KWH_CONFIG") ∷
    (0x86, codes "READ_EIN") ∷ (0x87, codes "READ_EOUT") ∷ (0x89, codes "READ_IIN") ∷
    (0x8A, codes "READ_VCAP") ∷ (0x8E, codes "READ_TEMPERATURE_2") ∷ (0x8F, codes "READ_TEMPERATURE_3") ∷
    (0x90, codes "READ_FAN_SPEED_1") ∷ (0x91, codes "READ_FAN_SPEED_2") ∷ (0x92, codes "READ_FAN_SPEED_3") ∷
    (0x93, codes "READ_FAN_SPEED_4") ∷ (0x94, codes "READ_DUTY_CYCLE") ∷ (0x95, codes "READ_FREQUENCY") ∷
    (0x96, codes "READ_POUT") ∷ (0x97, codes "READ_PIN") ∷ (0x99, codes "MFR_ID") ∷ (0x9A, codes "MFR_MODEL") ∷
    (0x9B, codes "MFR_REVISION") ∷ (0x9C, codes "MFR_LOCATION") ∷ (0x9D, codes "MFR_DATE") ∷
    (0x9E, codes "MFR_SERIAL") ∷ (0x9F, codes "APP_PROFILE_SUPPORT") ∷ []

-- A0h to FFh
unfoldable pub rows_from_A0 : List NamedCode
rows_from_A0 =
    (0xA0, codes "MFR_VIN_MIN") ∷ (0xA1, codes "MFR_VIN_MAX") ∷ (0xA2, codes "MFR_IIN_MAX") ∷
    (0xA3, codes "MFR_PIN_MAX") ∷ (0xA4, codes "MFR_VOUT_MIN") ∷ (0xA5, codes "MFR_VOUT_MAX") ∷
    (0xA6, codes "MFR_IOUT_MAX") ∷ (0xA7, codes "MFR_POUT_MAX") ∷ (0xA8, codes "MFR_TAMBIENT_MAX") ∷
    (0xA9, codes "MFR_TAMBIENT_MIN") ∷ (0xAA, codes "MFR_EFFICIENCY_LL") ∷ (0xAB, codes "MFR_EFFICIENCY_HL") ∷
    (0xAC, codes "MFR_PIN_ACCURACY") ∷ (0xAD, codes "IC_DEVICE_ID") ∷ (0xAE, codes "IC_DEVICE_REV") ∷
    (0xB0, codes "USER_DATA_00") ∷ (0xB1, codes "USER_DATA_01") ∷ (0xB2, codes "USER_DATA_02") ∷
    (0xB3, codes "USER_DATA_03") ∷ (0xB4, codes "USER_DATA_04") ∷ (0xB5, codes "USER_DATA_05") ∷
    (0xB6, codes "USER_DATA_06") ∷ (0xB7, codes "USER_DATA_07") ∷ (0xB8, codes "USER_DATA_08") ∷
    (0xB9, codes "USER_DATA_09") ∷ (0xBA, codes "USER_DATA_10") ∷ (0xBB, codes "USER_DATA_11") ∷
    (0xBC, codes "USER_DATA_12") ∷ (0xBD, codes "USER_DATA_13") ∷ (0xBE, codes "USER_DATA_14") ∷
    (0xBF, codes "USER_DATA_15") ∷ (0xC0, codes "MFR_MAX_TEMP_1") ∷ (0xC1, codes "MFR_MAX_TEMP_2") ∷
    (0xC2, codes "MFR_MAX_TEMP_3") ∷ (0xFE, codes "MFR_SPECIFIC_COMMAND_EXT") ∷
    (0xFF, codes "PMBUS_COMMAND_EXT") ∷ []

-- the rows among which a code stands
abbrev pub rows_near : ℕ → List NamedCode
rows_near code = if nat_lt code 0x20 then rows_from_00
    else (if nat_lt code 0x40 then rows_from_20
    else (if nat_lt code 0x60 then rows_from_40
    else (if nat_lt code 0x80 then rows_from_60
    else (if nat_lt code 0xA0 then rows_from_80 else rows_from_A0))))

abbrev pub name_among : List NamedCode → ℕ → List ℕ
name_among [] code = []
name_among (row ∷ rows) code = if row.0 == code then row.1 else name_among rows code

-- the name of a code, nothing if it has none
abbrev pub standard_name : ℕ → List ℕ
standard_name code = if is_known code then name_of code else name_among (rows_near code) code
