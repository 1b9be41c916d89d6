use Rattle.std.proofs.Common.{pos, ◌≤ℤ◌, subst, arith}
use Rattle.std.proofs.lemmas.Int.{ints}
use Rattle.pm_num.specs.Value.{ulinear16_value}
use Rattle.pm_num.specs.Steps.{Spacing, IsCapped, IsPlaceBelow}
use Rattle.pm_num.specs.Lemmas.Unsigned.{lower-positive, ulinear16-within}
use Rattle.pm_num.proofs.Nearest.{capped_along, IsAtMost-capped, unsigned_spacing, ulinear16-above, ulinear16-below, ulinear16-at_most}
use Rattle.pm_num.proofs.ulinear16.Ulinear16BoundFormat.round_down.Goals as goal

-- The number that is looked for lies in the range,
capped : (c : goal.After-floor)
    → IsCapped (ulinear16_value c.args.self.now.n 0) (ulinear16_value c.args.self.now.n 65535) c.args.x c.in_ok-x.x
capped c = capped_along c.least.result _ c.greatest.result _ c.least.ensures c.greatest.ensures c.in_ok-x.ensures.capped

-- at its place of the grid,
place : (c : goal.After-floor) → IsPlaceBelow (unsigned_spacing c.args.self.now.n) c.in_ok-x.x c.floor.result
place c = subst (λ (g : Spacing). IsPlaceBelow g c.in_ok-x.x c.floor.result) c.grid.ensures c.floor.ensures

-- which is a word.
in_word : (c : goal.After-floor) → (pos 0 ≤ℤ c.floor.result) × (c.floor.result ≤ℤ pos 65535)
in_word c = (
  ulinear16-above c.args.self.now.n c.in_ok-x.x c.floor.result (place c).within (capped c).between,
  ulinear16-below c.args.self.now.n c.in_ok-x.x c.floor.result (place c).within (capped c).between,
)

pub overflow_cast-result : goal.overflow_cast-result
overflow_cast-result c = let h = in_word c in omega (arith, ints)

pub returns-clause-word : goal.returns-clause-word
returns-clause-word c =
    let h = in_word c in
    let n = c.args.self.now.n in
    IsAtMost-capped (lower-positive n) (ulinear16-within n) (capped c)
    (ulinear16-at_most n c.in_ok-x.x c.floor.result _ (place c) (omega (arith, ints)) (omega (arith, ints)))
