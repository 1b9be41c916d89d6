-- The words of the registers stand at their places, whatever registers there are.
use Rattle.std.proofs.Common.{◌≡◌, ℕ, ◌+◌, ◌*◌, ◌/◌, ◌%◌, ◌<◌, true, List, [], get_or, arith, sym, subst, ap₂, ◌∙◌}
use Rattle.pm_table.specs.declared.cell.Cell.{Cell}
use Rattle.pm_table.specs.declared.cell.Cell.TheVariants.{Out, Protect}
use Rattle.pm_table.specs.Cell.{IsCell, cell_accepts, protect_place, register_accepts, register_count, register_number}
use Rattle.pm_table.specs.Lemmas.{register_number-below}
use Rattle.pm_model.specs.Settings.{word_at}
use Rattle.pm_model.proofs.plain.Plain.new.Goals as goal

-- the place of a register is among those of the outputs, and its parts are the output and the number
place-below : (output number : ℕ) → output < 8 → number < register_count →
    output * register_count + number < protect_place
place-below output number here below = omega (arith, here, below)

-- the place of a register is found in its output's row
row-of_place : (words : List (List ℕ)) (output number : ℕ) → number < register_count →
    get_or (get_or words ((output * register_count + number) / register_count) [])
    ((output * register_count + number) % register_count) 0
    ≡ get_or (get_or words output []) number 0
row-of_place words output number below =
    ap₂ (λ o n. get_or (get_or words o []) n 0) (omega (arith, below)) (omega (arith, below))

pub returns-clause-registers : goal.returns-clause-registers
unfolding word_at
returns-clause-registers c output register here =
    let number = register_number register in
    let below = register_number-below register in
    c.in_places.ensures.registers (output * register_count + number) (place-below output number here below)
    ∙ row-of_place c.args.words output number below

pub invariant_of-result : goal.invariant_of-result
unfolding word_at
invariant_of-result c = record {
  some = c.requires.some;
  few = c.requires.few;
  words = c.in_places.ensures.whole;
  accepted = accepted;
} where
  accepted : (cell : Cell) → IsCell c.args.count cell → cell_accepts cell (word_at c.in_places.result cell) ≡ true
  accepted (Out output register) here =
      subst (λ word. register_accepts register word ≡ true)
      (sym (returns-clause-registers c output register (omega (arith, here, c.requires.few))))
      (c.requires.registers output register here)
  accepted Protect here =
      subst (λ word. cell_accepts Protect word ≡ true) (sym c.in_places.ensures.protection) c.requires.protection
