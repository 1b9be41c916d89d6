-- What the laws of this crate say, each by a name that a crate above takes it by.
use Rattle.std.specs.Prelude.{◌≡◌, ℕ, ◌<◌, ◌≤◌, ◌↔◌, IsTrue, Some, if◌then◌else◌}
use Rattle.std.specs.Option.{option_map}
use Rattle.pm_table.specs.declared.reg.Reg.{Reg}
use Rattle.pm_table.specs.declared.cell.Cell.{Cell}
use Rattle.pm_table.specs.declared.cell.Cell.TheVariants.{Out}
use Rattle.pm_table.specs.Cell.{cell_at, cell_in, cell_name, is_voltage, place_of, places, register_code, same_cell, IsCell}
use Rattle.pm_table.specs.Commands.{is_read, is_written, line_of, payload_length}

-- two cells are one exactly where `same_cell` says so
abbrev pub CellsAreToldApart : Type 0
CellsAreToldApart = (cell other : Cell) → IsTrue (same_cell cell other) ↔ (cell ≡ other)

-- each cell of at most eight outputs has a place of its own, and each place a cell
pub record CellsHavePlaces : Type 0 where
  pub below : (cell : Cell) → IsCell 8 cell → place_of cell < places
  pub back : (cell : Cell) → IsCell 8 cell → cell_in (place_of cell) ≡ cell
  pub there : (place : ℕ) → place < places → IsCell 8 (cell_in place)
  pub again : (place : ℕ) → place < places → place_of (cell_in place) ≡ place

-- what the command table says of the code of each register: it leads back to the register, its row has
-- the name of the register's cell, it is read and written, and a voltage has two bytes, OPERATION one
pub record RegistersAreInTheTable : Type 0 where
  pub found : (register : Reg) (output : ℕ) →
      cell_at (register_code register) output ≡ Some (Out output register)
  pub name : (register : Reg) (output : ℕ) →
      option_map (λ line. line.name) (line_of (register_code register))
      ≡ Some (cell_name (Out output register))
  pub length : (register : Reg) →
      payload_length (register_code register) ≡ (if is_voltage register then 2 else 1)
  pub read : (register : Reg) → IsTrue (is_read (register_code register))
  pub written : (register : Reg) → IsTrue (is_written (register_code register))

-- no payload in the command table is longer than two bytes, for a code of any size
abbrev pub PayloadsAreShort : Type 0
PayloadsAreShort = (code : ℕ) → payload_length code ≤ 2
