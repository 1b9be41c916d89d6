-- The letters and the names of the refusals of frames and of configurations, as programs print them:
-- `K1 Frame F5 WrongPec 7`, `V2 BadStart 0 OPERATION`. This project's own choice.
use Rattle.std.specs.Prelude.{ℕ, List, [], ◌++◌, Option, Some, None, codes}
use Rattle.std.specs.Option.{option_map_or}
use Rattle.pm_num.specs.FaultWords.{num_fault_words}
use Rattle.pm_table.specs.declared.cell.Cell.TheVariants.{Out, Protect}
use Rattle.pm_table.specs.Cell.{cell_name}
use Rattle.pm_table.specs.FaultWords.{table_fault_words}
use Rattle.pm_frame.specs.FaultWords.{frame_fault_text, place_text}
use Rattle.pm_device.specs.declared.config_fault.ConfigFault.{ConfigFault}
use Rattle.pm_device.specs.declared.config_fault.ConfigFault.TheVariants.{OutputCount, BadStart, Address, BadMode, BadCoefficients}
use Rattle.pm_device.specs.declared.fault.DeviceFault.{DeviceFault}
use Rattle.pm_device.specs.declared.fault.DeviceFault.TheVariants.{Frame, UnsupportedCode, UnsupportedData, BadPage, Protected, Nested}
use Rattle.pm_device.specs.declared.fault.DeviceFault.TheVariants.{ReadOnly}

-- the letter and the name of a refusal
abbrev pub device_fault_words : DeviceFault → List ℕ
device_fault_words (Frame fault) = codes "K1 Frame"
device_fault_words UnsupportedCode = codes "K2 UnsupportedCode"
device_fault_words UnsupportedData = codes "K3 UnsupportedData"
device_fault_words BadPage = codes "K4 BadPage"
device_fault_words Protected = codes "K5 Protected"
device_fault_words Nested = codes "K6 Nested"
device_fault_words ReadOnly = codes "K7 ReadOnly"

-- the number of a fault as `pmpart.h` has it, which no other fault has
abbrev pub device_fault_number : DeviceFault → ℕ
device_fault_number (Frame fault) = 0x41
device_fault_number UnsupportedCode = 0x42
device_fault_number UnsupportedData = 0x43
device_fault_number BadPage = 0x44
device_fault_number Protected = 0x45
device_fault_number Nested = 0x46
device_fault_number ReadOnly = 0x47

-- the words, and the frame's fault after K1
abbrev pub device_fault_text : DeviceFault → List ℕ
device_fault_text (Frame fault) =
    device_fault_words (Frame fault) ++ (codes " " ++ frame_fault_text fault)
device_fault_text UnsupportedCode = device_fault_words UnsupportedCode
device_fault_text UnsupportedData = device_fault_words UnsupportedData
device_fault_text BadPage = device_fault_words BadPage
device_fault_text Protected = device_fault_words Protected
device_fault_text Nested = device_fault_words Nested
device_fault_text ReadOnly = device_fault_words ReadOnly

-- the number of a configuration's fault as `pmpart.h` has it, which no other fault has
abbrev pub config_fault_number : ConfigFault → ℕ
config_fault_number OutputCount = 0x51
config_fault_number (BadStart cell) = 0x52
config_fault_number Address = 0x53
config_fault_number (BadMode output fault) = 0x54
config_fault_number (BadCoefficients fault) = 0x55

-- the letter and the name of a configuration's fault
abbrev pub config_fault_words : ConfigFault → List ℕ
config_fault_words OutputCount = codes "V1 OutputCount"
config_fault_words (BadStart cell) = codes "V2 BadStart"
config_fault_words Address = codes "V3 Address"
config_fault_words (BadMode output fault) = codes "V4 BadMode"
config_fault_words (BadCoefficients fault) = codes "V5 BadCoefficients"

-- the output that it names, where it names one
abbrev pub config_fault_output : ConfigFault → Option ℕ
config_fault_output OutputCount = None
config_fault_output (BadStart (Out output register)) = Some output
config_fault_output (BadStart Protect) = None
config_fault_output Address = None
config_fault_output (BadMode output fault) = Some output
config_fault_output (BadCoefficients fault) = None

-- what else it names, where there is something: a cell's code, or why a format is none
abbrev pub config_fault_detail : ConfigFault → Option (List ℕ)
config_fault_detail OutputCount = None
config_fault_detail (BadStart cell) = Some (cell_name cell)
config_fault_detail Address = None
config_fault_detail (BadMode output fault) = Some (table_fault_words fault)
config_fault_detail (BadCoefficients fault) = Some (num_fault_words fault)

-- the words, and after them the output and the detail
abbrev pub config_fault_text : ConfigFault → List ℕ
config_fault_text fault =
    config_fault_words fault
    ++ (place_text (config_fault_output fault)
    ++ option_map_or (λ detail. codes " " ++ detail) (config_fault_detail fault) [])
