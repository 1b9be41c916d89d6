use Rattle.std.proofs.Common.{◌≡◌, ◌≢◌, ℕ, ◌+◌, ◌<◌, Bool, true, false, None, List, length, get_or, set, nat_eq, sym, subst, refl}
use Rattle.std.proofs.Common.{rules}
use Rattle.std.proofs.lemmas.List.{drop-set-lt, get_or-set_same, get_or-set_other}
use Rattle.pm_table.specs.declared.cell.Cell.{Cell}
use Rattle.pm_table.specs.Cell.{nth_cell}
use Rattle.pm_host.specs.Image.{held}
use Rattle.pm_host.specs.Summary.{Summary}
use Rattle.pm_memory.specs.declared.known_cells.KnownCell.{KnownCell}
use Rattle.pm_memory.specs.Known.{AreKnown, IsKnown, no_cell_known}
use Rattle.pm_memory.proofs.known_cells.fill.Goals as goal

-- one more of them has its number
further : (s : Summary) (n : ℕ) (cells : List KnownCell) (known : KnownCell) → n < length cells → AreKnown s n cells
    → IsKnown s (nth_cell s.setup.outputs n) known → AreKnown s (n + 1) (set cells n known)
further s n cells known there before one = λ k below. at k (nat_eq k n) refl below
  where
    at : (k : ℕ) (b : Bool) → nat_eq k n ≡ b → k < n + 1
        → IsKnown s (nth_cell s.setup.outputs k) (get_or (set cells n known) k no_cell_known)
    at k true h below =
        let same : k ≡ n = search rules in
        subst (λ j. IsKnown s (nth_cell s.setup.outputs j) (get_or (set cells n known) j no_cell_known)) (sym same)
        (subst (IsKnown s (nth_cell s.setup.outputs n)) (sym (get_or-set_same cells n known no_cell_known there)) one)
    at k false h below =
        let other : k ≢ n = search rules in
        let less : k < n = search rules in
        subst (IsKnown s (nth_cell s.setup.outputs k)) (sym (get_or-set_other cells n k known no_cell_known other)) (before k less)

pub loop-number-preserved : goal.loop-number-preserved
loop-number-preserved c =
    let s = held None c.args.state.now in
    let is = c.loop-number.invariant in
    let long = is.long in
    let small : c.loop-number.number < length c.loop-number.cells = search rules in
    record {
      known = further s c.loop-number.number c.loop-number.cells c.of_cell.result small is.known
          (subst (λ (cell : Cell). IsKnown s cell c.of_cell.result) c.cell_of_number.ensures.cell c.of_cell.ensures);
      rest = search (rules, drop-set-lt, is.rest);
      long = search rules;
    }
