-- The kinds of a scenario's words. The forms are this project's own choice; names are printed as in
-- PMBus 1.3 Part II.
use Rattle.std.specs.Prelude.{ℕ, ◌*◌, ◌&&◌, ◌==◌, nat_le, if◌then◌else◌, List, [], ◌∷◌, length, map, take, Option, Some, None, option_map}
use Rattle.std.specs.Prelude.{option_and_then, bytes_eq, codes}
use Rattle.pm_table.specs.declared.cell.Cell.{Cell}
use Rattle.pm_table.specs.declared.cell.Cell.TheVariants.{Protect}
use Rattle.pm_table.specs.declared.reg.Reg.{Reg}
use Rattle.pm_table.specs.Cell.{cell_bytes, cell_name, register_code, registers}
use Rattle.pm_table.specs.Commands.{name_of}
use Rattle.pm_device.specs.Held.{device_readings, output_readings}
use Rattle.pm_lines.specs.Bytes.{word_bytes}
use Rattle.pm_lines.specs.Digits.{hex_of, small_of}
use Rattle.pm_text.specs.Readers.{named}
use Rattle.pm_text.specs.declared.form.Form.{Form}
use Rattle.pm_text.specs.declared.form.Form.TheVariants.{First, Second}

-- the form of a text that calls itself so
abbrev pub form_named : List ℕ → Option Form
form_named = named ((codes "1", First) ∷ (codes "2", Second) ∷ [])

-- the newest form, which names every register
abbrev pub newest_form : Form
newest_form = Second

-- the version that a form is, and the form of a version: every version but 1 has the second one
abbrev pub version_of : Form → ℕ
version_of First = 1
version_of Second = 2

abbrev pub form_of : ℕ → Form
form_of version = if version == 1 then First else Second

-- this word and no other
abbrev pub is_word : List ℕ → List ℕ → Option (Unit {0})
is_word name text = if bytes_eq text name then Some tt else None

-- an output's number, 0 to 255, or `-` for the device: None
abbrev pub output_or_device : List ℕ → Option (Option ℕ)
output_or_device text = if bytes_eq text (codes "-") then Some None
    else option_map (λ output. Some output) (small_of text)

-- the registers that texts of a form name: the first form knows the five that were there when it was made
abbrev pub registers_of : Form → List Reg
registers_of First = take 5 registers
registers_of Second = registers

-- a register by its name in the command table
abbrev pub with_name : Reg → List ℕ × Reg
with_name register = (name_of (register_code register), register)

abbrev pub register_named_in_form : Form → List ℕ → Option Reg
register_named_in_form form = named (map with_name (registers_of form))

-- the device's own cell
abbrev pub device_cell_named : List ℕ → Option Cell
device_cell_named = named ((cell_name Protect, Protect) ∷ [])

-- the codes of an output's readings, and of the device's, by their names
abbrev pub code_with_name : ℕ → List ℕ × ℕ
code_with_name code = (name_of code, code)

abbrev pub output_reading_named : List ℕ → Option ℕ
output_reading_named = named (map code_with_name output_readings)

abbrev pub device_reading_named : List ℕ → Option ℕ
device_reading_named = named (map code_with_name device_readings)

-- how many digits a cell's word has, two for each byte
abbrev pub cell_digits : Cell → ℕ
cell_digits cell = 2 * cell_bytes cell

-- a cell's word in hexadecimal
abbrev pub cell_word : Cell → List ℕ → Option ℕ
cell_word cell text = hex_of (cell_digits cell) text

-- one word of 1 to 16 bytes in hexadecimal
abbrev pub as_frame : List ℕ → Option (List ℕ)
as_frame bytes = if nat_le 1 (length bytes) && nat_le (length bytes) 16 then Some bytes else None

abbrev pub frame_bytes : List ℕ → Option (List ℕ)
frame_bytes text = option_and_then as_frame (word_bytes text)
