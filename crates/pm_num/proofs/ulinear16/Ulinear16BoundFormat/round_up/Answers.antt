use Rattle.std.proofs.Common.{pos, ◌≤ℤ◌, subst, arith}
use Rattle.std.proofs.lemmas.Int.{ints}
use Rattle.pm_num.specs.Value.{ulinear16_value}
use Rattle.pm_num.specs.Steps.{Spacing, IsRaised, IsPlaceAbove}
use Rattle.pm_num.specs.Lemmas.Unsigned.{lower-positive, ulinear16-within}
use Rattle.pm_num.proofs.Nearest.{raised_along, IsAtLeast-raised, unsigned_spacing, ulinear16-above, ulinear16-below, ulinear16-at_least}
use Rattle.pm_num.proofs.ulinear16.Ulinear16BoundFormat.round_up.Goals as goal

-- The number that is looked for lies in the range,
raised : (c : goal.After-ceiling)
    → IsRaised (ulinear16_value c.args.self.now.n 0) (ulinear16_value c.args.self.now.n 65535) c.args.x c.in_ok-x.x
raised c = raised_along c.least.result _ c.greatest.result _ c.least.ensures c.greatest.ensures c.in_ok-x.ensures.raised

-- at its place of the grid,
place : (c : goal.After-ceiling) → IsPlaceAbove (unsigned_spacing c.args.self.now.n) c.in_ok-x.x c.ceiling.result
place c = subst (λ (g : Spacing). IsPlaceAbove g c.in_ok-x.x c.ceiling.result) c.grid.ensures c.ceiling.ensures

-- which is a word.
in_word : (c : goal.After-ceiling) → (pos 0 ≤ℤ c.ceiling.result) × (c.ceiling.result ≤ℤ pos 65535)
in_word c = (
  ulinear16-above c.args.self.now.n c.in_ok-x.x c.ceiling.result (place c).within (raised c).between,
  ulinear16-below c.args.self.now.n c.in_ok-x.x c.ceiling.result (place c).within (raised c).between,
)

pub overflow_cast-result : goal.overflow_cast-result
overflow_cast-result c = let h = in_word c in omega (arith, ints)

pub returns-clause-word : goal.returns-clause-word
returns-clause-word c =
    let h = in_word c in
    let n = c.args.self.now.n in
    IsAtLeast-raised (lower-positive n) (ulinear16-within n) (raised c)
    (ulinear16-at_least n c.in_ok-x.x c.ceiling.result _ (place c) (omega (arith, ints)) (omega (arith, ints)))
