-- The cells: the settings of a power converter that hold a word. An output has one for each of its
-- registers, and WRITE_PROTECT is the device's. The list of registers stands here alone: every other
-- question on them asks it, or their line of the command table.
use Rattle.std.specs.Prelude.{ℕ, ◌+◌, ◌-◌, ◌*◌, ◌/◌, ◌%◌, ◌<◌, nat_lt, map, Bool, true, false, ◌&&◌, ◌||◌, List, [], ◌∷◌, length, find}
use Rattle.std.specs.Prelude.{position, slice_index_or, unwrap_or, Option, Some, if◌then◌else◌, ◌==◌}
use Rattle.std.specs.List.{range_with_len}
use Rattle.std.specs.Option.{option_map, option_map_or}
use Rattle.pm_table.specs.declared.reg.Reg.{Reg}
use Rattle.pm_table.specs.declared.reg.Reg.TheVariants.{Operation, VoutCommand, VoutMax, MarginHigh, MarginLow, VoutMin}
use Rattle.pm_table.specs.declared.cell.Cell.{Cell}
use Rattle.pm_table.specs.declared.cell.Cell.TheVariants.{Out, Protect}
use Rattle.pm_table.specs.Codes as command
use Rattle.pm_table.specs.Commands.{name_of}
pub use Rattle.pm_table.specs.Operation.{is_operation}

-- the registers of an output, in their order
abbrev pub registers : List Reg
registers = Operation ∷ VoutCommand ∷ VoutMax ∷ MarginHigh ∷ MarginLow ∷ VoutMin ∷ []

-- how many registers an output has
abbrev pub register_count : ℕ
register_count = length registers

-- the command code of an output's register
abbrev pub register_code : Reg → ℕ
register_code Operation = command.operation
register_code VoutCommand = command.vout_command
register_code VoutMax = command.vout_max
register_code MarginHigh = command.vout_margin_high
register_code MarginLow = command.vout_margin_low
register_code VoutMin = command.vout_min

-- OPERATION is a byte, every other register a voltage of two bytes
abbrev pub is_voltage : Reg → Bool
is_voltage Operation = false
is_voltage _ = true

-- two registers are one
abbrev pub same_register : Reg → Reg → Bool
same_register register other = register_code register == register_code other

-- the number of a register among its output's, and the register of a number
abbrev pub register_number : Reg → ℕ
register_number register = unwrap_or (position (same_register register) registers) 0

abbrev pub register_at : ℕ → Reg
register_at number = slice_index_or registers number Operation

-- the command code that reads and writes a cell
abbrev pub cell_code : Cell → ℕ
cell_code (Out output register) = register_code register
cell_code Protect = command.write_protect

-- the output of a cell; the device's own cell has none, and 0 stands for it
abbrev pub output_of : Cell → ℕ
output_of (Out output register) = output
output_of Protect = 0

-- the register that a command code reads and writes, where it is one of an output's
abbrev pub register_of : ℕ → Option Reg
register_of code = find (λ register. register_code register == code) registers

-- the cell that a command code means at an output
abbrev pub cell_at : ℕ → ℕ → Option Cell
cell_at code output = if code == command.write_protect then Some Protect
    else option_map (λ register. Out output register) (register_of code)

-- the cell is a voltage
abbrev pub is_voltage_cell : Cell → Bool
is_voltage_cell (Out output register) = is_voltage register
is_voltage_cell Protect = false

-- the command code reads and writes a voltage
abbrev pub is_voltage_code : ℕ → Bool
is_voltage_code code = option_map_or is_voltage (register_of code) false

-- the name of a cell's code in the command table
abbrev pub cell_name : Cell → List ℕ
cell_name cell = name_of (cell_code cell)

-- how many bytes the word of a cell has on the wire
abbrev pub cell_bytes : Cell → ℕ
cell_bytes cell = if is_voltage_cell cell then 2 else 1

-- the four bytes of WRITE_PROTECT that this project takes
abbrev pub is_protection : ℕ → Bool
is_protection byte = byte == 0x00 || byte == 0x20 || byte == 0x40 || byte == 0x80

-- the words that a register may hold: OPERATION its bytes, a voltage every word
abbrev pub register_accepts : Reg → ℕ → Bool
register_accepts register word = is_voltage register || is_operation word

-- the words that a cell may hold
abbrev pub cell_accepts : Cell → ℕ → Bool
cell_accepts (Out output register) word = register_accepts register word
cell_accepts Protect word = is_protection word

-- the cell is one of an output's, and not the device's own
abbrev pub is_output_cell : Cell → Bool
is_output_cell (Out output register) = true
is_output_cell Protect = false

-- two cells are one
abbrev pub same_cell : Cell → Cell → Bool
same_cell (Out output register) (Out other second) =
    output == other && same_register register second
same_cell (Out output register) Protect = false
same_cell Protect (Out output register) = false
same_cell Protect Protect = true

-- a device with this many outputs has the cell: a register of one of them, or the device's own
abbrev pub is_cell : ℕ → Cell → Bool
is_cell count (Out output register) = nat_lt output count
is_cell count Protect = true

-- a device with this many outputs has the cell: `is_cell` as a fact
abbrev pub IsCell : ℕ → Cell → Type 0
IsCell count (Out output register) = output < count
IsCell count Protect = Unit {0}

-- The place of a cell among those of eight outputs: output by output, each with its registers in
-- their order, and WRITE_PROTECT last. This project's own choice.
abbrev pub protect_place : ℕ
protect_place = 8 * register_count

abbrev pub place_of : Cell → ℕ
place_of (Out output register) = output * register_count + register_number register
place_of Protect = protect_place

-- how many places there are, and the cell of a place
abbrev pub places : ℕ
places = protect_place + 1

abbrev pub cell_in : ℕ → Cell
cell_in place = if place == protect_place then Protect
    else Out (place / register_count) (register_at (place % register_count))

-- the cell of this number on a device with this many outputs: output by output, and WRITE_PROTECT last
abbrev pub nth_cell : ℕ → ℕ → Cell
nth_cell count number = if number == count * register_count then Protect
    else Out (number / register_count) (register_at (number % register_count))

-- the cells of a device from this number on, and all of them
abbrev pub cells_from : ℕ → ℕ → List Cell
cells_from count number =
    map (nth_cell count) (range_with_len number (count * register_count + 1 - number))

abbrev pub device_cells : ℕ → List Cell
device_cells count = cells_from count 0
