use Rattle.std.proofs.Common.{pos, ◌≤ℤ◌, subst, refl, arith}
use Rattle.std.proofs.lemmas.Int.{ints}
use Rattle.pm_num.specs.Ratio.{IsBetween}
use Rattle.pm_num.specs.Value.{ulinear16_value}
use Rattle.pm_num.specs.Steps.{Spacing, IsPlace}
use Rattle.pm_num.proofs.Nearest.{between_along, unsigned_spacing, ulinear16-above, ulinear16-below, ulinear16-nearest}
use Rattle.pm_num.proofs.ulinear16.Ulinear16NumFormat.nearest.Goals as goal

-- The number lies in the range,
between : (c : goal.After-nearest) → IsBetween (ulinear16_value c.args.self.now.n 0) (ulinear16_value c.args.self.now.n 65535) c.args.x
between c =
    between_along c.least.result _ c.greatest.result _ c.args.x c.least.ensures c.greatest.ensures (c.in_ok-in_range.ensures.inside.0 refl)

-- at its place of the grid,
place : (c : goal.After-nearest) → IsPlace (unsigned_spacing c.args.self.now.n) c.args.x c.nearest.result
place c = subst (λ (g : Spacing). IsPlace g c.args.x c.nearest.result) c.grid.ensures c.nearest.ensures

-- which is a word.
in_word : (c : goal.After-nearest) → (pos 0 ≤ℤ c.nearest.result) × (c.nearest.result ≤ℤ pos 65535)
in_word c = (
  ulinear16-above c.args.self.now.n c.args.x c.nearest.result (place c).within (between c),
  ulinear16-below c.args.self.now.n c.args.x c.nearest.result (place c).within (between c),
)

pub overflow_cast-result : goal.overflow_cast-result
overflow_cast-result c = let h = in_word c in omega (arith, ints)

pub returns-clause-word : goal.returns-clause-word
returns-clause-word c =
    let h = in_word c in
    ulinear16-nearest c.args.self.now.n c.args.x c.nearest.result _ (place c) (omega (arith, ints)) (omega (arith, ints))
