-- The numbers that calls answer, of which no two mean two things: 0 where nothing is refused; what a part makes of a
-- frame, from 81h on; a refusal's own, which stands beside its words, 4 for an output that isn't there, and E0h
-- to E8h for what only a caller in C can ask wrongly. This project's own choice.
use Rattle.std.specs.Prelude.{ℕ, ◌||◌, nat_lt, if◌then◌else◌, Option, Some, None}
use Rattle.pm_num.specs.declared.fault.NumFault.{NumFault}
use Rattle.pm_num.specs.FaultWords.{num_fault_number}
use Rattle.pm_num.specs.Ratio.{far_fault}
use Rattle.pm_table.specs.declared.cell.Cell.{Cell}
use Rattle.pm_table.specs.declared.cell.Cell.TheVariants.{Out, Protect}
use Rattle.pm_table.specs.Cell.{is_cell}
use Rattle.pm_device.specs.declared.config_fault.ConfigFault.{ConfigFault}
use Rattle.pm_device.specs.declared.converter.Heard.{Heard}
use Rattle.pm_device.specs.declared.converter.Heard.TheVariants.{Silent, Taken, Answer, Refused}
use Rattle.pm_device.specs.FaultWords.{config_fault_number, device_fault_number}
use Rattle.pm_device.specs.Held.{Held, is_device_reading, is_output_reading, is_reading}
use Rattle.pm_device_c.specs.Part.{commanded_now}

-- nothing is refused
abbrev pub nothing_refused : ℕ
nothing_refused = 0

-- the output isn't there
abbrev pub no_output : ℕ
no_output = 4

-- the command code is no cell's, or of no cell that is stored
abbrev pub no_part_cell : ℕ
no_part_cell = 0xE1

-- the memory holds no part
abbrev pub no_part : ℕ
no_part = 0xE5

-- the command code is no reading's
abbrev pub no_reading : ℕ
no_reading = 0xE8

-- a part is made
abbrev pub made_number : Option ConfigFault → ℕ
made_number None = nothing_refused
made_number (Some fault) = config_fault_number fault

-- what it makes of a frame
abbrev pub heard_number : Heard → ℕ
heard_number Silent = 0x81
heard_number Taken = 0x82
heard_number (Answer frame) = 0x83
heard_number (Refused fault) = device_fault_number fault

abbrev pub heard_now_number : Option Heard → ℕ
heard_now_number None = no_part
heard_now_number (Some heard) = heard_number heard

-- a part is there
abbrev pub there_number : Option Held → ℕ
there_number None = no_part
there_number (Some held) = nothing_refused

-- an output of a part is asked
abbrev pub part_output_number : Option Held → ℕ → ℕ
part_output_number None output = no_part
part_output_number (Some held) output = if nat_lt output held.config.count then nothing_refused else no_output

-- a cell of a part is asked
abbrev pub part_cell_number : Option Held → Option Cell → ℕ
part_cell_number None cell = no_part
part_cell_number (Some held) None = no_part_cell
part_cell_number (Some held) (Some cell) = if is_cell held.config.count cell then nothing_refused else no_output

-- its word in the store is asked: WRITE_PROTECT has none
abbrev pub stored_number : Option Held → Option Cell → ℕ
stored_number None cell = no_part
stored_number (Some held) None = no_part_cell
stored_number (Some held) (Some Protect) = no_part_cell
stored_number (Some held) (Some (Out output register)) = part_output_number (Some held) output

-- whole microvolts are asked
abbrev pub part_floor_number : Option NumFault → ℕ
part_floor_number None = nothing_refused
part_floor_number (Some fault) = num_fault_number fault

-- the whole microvolts that an output commands are asked
abbrev pub commanded_number : Option Held → ℕ → ℕ
commanded_number None output = no_part
commanded_number (Some held) output = if nat_lt output held.config.count
    then part_floor_number (far_fault (commanded_now held output)) else no_output

-- a reading is set
abbrev pub reading_number : Option Held → ℕ → ℕ → ℕ
reading_number None output code = no_part
reading_number (Some held) output code =
    if is_device_reading code || is_output_reading code
    then (if is_reading held.config.count output code then nothing_refused else no_output) else no_reading
