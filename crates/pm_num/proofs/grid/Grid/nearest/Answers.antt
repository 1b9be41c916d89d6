use Rattle.std.proofs.Common.{◌*◌, ◌<◌, pos, arith}
use Rattle.std.specs.Int.{w128}
use Rattle.std.proofs.Common.{to_z, of_z}
use Rattle.std.proofs.lemmas.Int.{ints}
use Rattle.pm_num.specs.Steps.{IsRounded}
use Rattle.pm_num.proofs.Nearest.{quotient_at, IsWithinWhole-rounded, moved_num, nearest_on_grid, lowest_on_grid, within_from_whole}
use Rattle.pm_num.proofs.grid.Grid.nearest.Goals as goal

-- The rounded quotient that the code computes is that of the moved number.
place : (c : goal.After-rounded)
    → IsRounded (moved_num c.args.self.now c.args.x.now) (pos (c.args.self.now.step * c.args.x.now.den))
    (to_z w128 (of_z w128 c.rounded.result))
place c =
    let g = c.args.self.now in
    let x = c.args.x.now in
    quotient_at IsRounded (moved_num g x) (pos (g.step * x.den)) c.rounded.ensures
    (omega (arith, ints)) (omega (arith, ints)) (omega (arith, ints))

-- The denominator is positive.
den_above : (c : goal.After-rounded) → 0 < c.args.self.now.den
den_above c = omega (arith, ints, c.moved.ensures.sizes)

-- The spacing is positive.
spacing_above : (c : goal.After-rounded) → 0 < c.args.self.now.step * c.args.x.now.den
spacing_above c = omega (arith, ints, c.spacing.ensures.positive)

pub returns : goal.returns
returns c =
    let g = c.args.self.now in
    let x = c.args.x.now in
    record {
      nearest = nearest_on_grid g x _ (den_above c) (place c);
      lowest = lowest_on_grid g x _ (den_above c) (place c);
      within = within_from_whole g x _
          (IsWithinWhole-rounded (moved_num g x) _ (g.step * x.den) (spacing_above c) (place c));
    }
