-- The places of cells, whatever registers there are.
use Rattle.std.proofs.Common.{◌≡◌, ℕ, ◌+◌, ◌*◌, ◌/◌, ◌%◌, ◌<◌, arith, refl, ap, ap₂, ◌∙◌}
use Rattle.pm_table.specs.declared.cell.Cell.{Cell}
use Rattle.pm_table.specs.declared.cell.Cell.TheVariants.{Out, Protect}
use Rattle.pm_table.specs.Cell.{register_number, register_at, register_count, place_of, places, protect_place, cell_in, IsCell}
use Rattle.pm_table.specs.Lemmas.{register_at-number, register_number-below}
use Rattle.pm_table.proofs.laws.cells_have_places.Goals as goal

-- a number's register has that number
register_number-at : (number : ℕ) → number < register_count
    → register_number (register_at number) ≡ number
register_number-at number below = grind arith

-- the output is what a place divided by the number of registers gives
output-of : (output number : ℕ) → number < register_count
    → (output * register_count + number) / register_count ≡ output
output-of output number below = omega arith

-- the register's number is what the division leaves over
number-of : (output number : ℕ) → number < register_count
    → (output * register_count + number) % register_count ≡ number
number-of output number below = omega arith

-- a cell's place is one of the places
below : (cell : Cell) → IsCell 8 cell → place_of cell < places
below (Out output register) there = omega (arith, register_number-below register)
below Protect there = omega arith

-- each place has a cell
there : (place : ℕ) → place < places → IsCell 8 (cell_in place)
there place h = grind arith

-- the cell of a place that isn't the last one, by its parts
cell_in-out : (place : ℕ) → place < protect_place
    → cell_in place ≡ Out (place / register_count) (register_at (place % register_count))
cell_in-out place below = grind arith

-- the cell of a cell's place is that cell
back : (cell : Cell) → IsCell 8 cell → cell_in (place_of cell) ≡ cell
back (Out output register) there =
    let below = register_number-below register in
    let number = register_number register in
    let place : output * register_count + number < protect_place = omega arith in
    cell_in-out (output * register_count + number) place
    ∙ ap₂ (λ o r. Out o r) (output-of output number below)
    (ap register_at (number-of output number below) ∙ register_at-number register)
back Protect there = refl

-- the place of a place's cell is that place
again : (place : ℕ) → place < places → place_of (cell_in place) ≡ place
again place h = grind (arith, register_number-at (place % register_count) (omega arith))

pub returns : goal.returns
returns c = record {
  below = below;
  back = back;
  there = there;
  again = again;
}
