use Rattle.std.proofs.Common.{◌*◌, ◌<◌, pos, arith}
use Rattle.std.proofs.lemmas.Int.{ints}
use Rattle.pm_num.specs.Steps.{IsFloor}
use Rattle.pm_num.proofs.Nearest.{quotient_at, moved_num, IsPlaceBelow-floor}
use Rattle.pm_num.proofs.grid.Grid.floor.Goals as goal

pub returns : goal.returns
returns c =
    let g = c.args.self.now in
    let x = c.args.x.now in
    let spacing_above : 0 < g.step * x.den = omega (arith, ints, c.spacing.ensures.positive) in
    IsPlaceBelow-floor g x _ spacing_above
    (quotient_at IsFloor (moved_num g x) (pos (g.step * x.den)) c.floor.ensures (omega (arith, ints)) (omega (arith, ints))
    (omega (arith, ints)))
