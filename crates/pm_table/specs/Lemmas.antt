-- Facts on the definitions that proofs above take by name. No public clause cites them.
use Rattle.std.specs.Prelude.{◌≡◌, ◌==◌, ℕ, ◌<◌, ◌≤◌, Bool, true, false, cond, nat_lt, unwrap_or, Option, Some, None, List, [], ◌∷◌, refl}
use Rattle.std.specs.List.{list_all, position_or_len}
use Rattle.std.proofs.Common.{arith, lit<}
use Rattle.std.proofs.lemmas.Bool.{and_parts, eq-eqb, ltb-true}
use Rattle.pm_table.specs.declared.cell.Cell.{Cell}
use Rattle.pm_table.specs.declared.cell.Cell.TheVariants.{Out, Protect}
use Rattle.pm_table.specs.declared.reg.Reg.{Reg}
use Rattle.pm_table.specs.Cell.{is_cell, register_at, register_code, register_count, register_number, registers, same_cell, same_register}
use Rattle.pm_table.specs.Cell.{IsCell}
use Rattle.pm_table.specs.Commands.{Line, Row, line_among}

-- a number that is taken where a test holds, which has it below a bound, and 0 elsewhere
chosen-below : (test : Bool) (number bound : ℕ) → (test ≡ true → number < bound) → 0 < bound
    → unwrap_or (cond test (Some number) None) 0 < bound
chosen-below true number bound below some = below refl
chosen-below false number bound below some = some

-- a register's number is below the number of registers, whatever registers there are
pub register_number-below : (register : Reg) → register_number register < register_count
register_number-below register =
    let number = position_or_len (same_register register) registers in
    chosen-below (nat_lt number register_count) number register_count (ltb-true number register_count) (lit< tt)

-- a cell is the same as itself
pub same_cell-itself : (cell : Cell) → same_cell cell cell ≡ true
same_cell-itself (Out output register) = rw (eq-eqb output output refl, eq-eqb (register_code register) (register_code register) refl) refl
same_cell-itself Protect = refl

-- a cell of at most eight outputs is one of eight
pub IsCell-eight : (count : ℕ) (cell : Cell) → count ≤ 8 → IsCell count cell → IsCell 8 cell
IsCell-eight count (Out output register) few here = omega (arith, few, here)
IsCell-eight count Protect few here = tt

-- The register of a register's number is that register, as `CellsHavePlaces` says of cells.
pub register_at-number : (register : Reg) → register_at (register_number register) ≡ register
register_at-number register = grind arith

-- A cell that passes the test is there.
pub is_cell-there : (count : ℕ) (cell : Cell) → is_cell count cell ≡ true → IsCell count cell
is_cell-there count (Out output register) e = ltb-true output count e
is_cell-there count Protect e = tt

-- What holds of no line, and of each line that passes a test, holds of the line of a code among rows that all pass it.
-- `PayloadsAreShort` says so of the length of a payload.
pub line_among-each : (P : Option Line → Type 0) (test : Line → Bool) → P None → ((line : Line) → test line ≡ true → P (Some line))
    → (rows : List Row) (code : ℕ) → list_all (λ row. test row.line) rows ≡ true → P (line_among rows code)
line_among-each P test none some [] code h = none
line_among-each P test none some (row ∷ rows) code h =
    let parts = and_parts _ _ h in
    go (code == row.code) (some row.line parts.0) (line_among-each P test none some rows code parts.1)
  where
    go : (b : Bool) → P (Some row.line) → P (line_among rows code) → P (cond b (Some row.line) (line_among rows code))
    go true here there = here
    go false here there = there
