-- Codes, registers and cells in words: names are printed as in PMBus 1.3 Part II, the rest is this project's own
-- choice.
use Rattle.std.specs.Prelude.{ℕ, true, ◌/◌, ◌%◌, List, ◌∷◌, ◌++◌, map, Option, find, if◌then◌else◌, bytes_eq, codes}
use Rattle.std.specs.Fmt.{decimal, digit_glyph}
use Rattle.pm_table.specs.declared.cell.Cell.{Cell}
use Rattle.pm_table.specs.declared.cell.Cell.TheVariants.{Out, Protect}
use Rattle.pm_table.specs.declared.commands.Code.{Code}
use Rattle.pm_table.specs.declared.reg.Reg.{Reg}
use Rattle.pm_table.specs.Cell.{register_code, registers, cell_name}
use Rattle.pm_table.specs.Commands.{is_known, name_of, rows}

-- a byte as two hexadecimal digits in upper case, and an h
abbrev pub hex_text : ℕ → List ℕ
hex_text byte = digit_glyph true (byte / 16) ∷ digit_glyph true (byte % 16) ∷ codes "h"

-- a code: its name in the command table, or its number where it isn't there
abbrev pub code_text : ℕ → List ℕ
code_text code = if is_known code then name_of code else hex_text code

-- a register: the name of its code
abbrev pub register_text : Reg → List ℕ
register_text register = name_of (register_code register)

-- a cell: its output and its register, `0 VOUT_COMMAND`, or the device's own, `- WRITE_PROTECT`
abbrev pub cell_text : Cell → List ℕ
cell_text (Out output register) = decimal output ++ (codes " " ++ register_text register)
cell_text Protect = codes "- " ++ cell_name Protect

-- the codes of the command table, in its order
abbrev pub known_codes : List Code
known_codes = map (λ r. record { 0 = r.code }) rows

-- the code of a name
unfoldable pub code_named : List ℕ → Option Code
code_named text = find (λ code. bytes_eq text (name_of code.0)) known_codes

-- the register of a name
unfoldable pub register_named : List ℕ → Option Reg
register_named text = find (λ register. bytes_eq text (register_text register)) registers
