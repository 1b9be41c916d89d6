use Rattle.std.proofs.Common.{◌*ℤ◌, pos, arith}
use Rattle.std.proofs.lemmas.Int.{ints}
use Rattle.pm_num.proofs.Nearest.{greatest_from_floor}
use Rattle.pm_num.proofs.frac.Frac.floor_micro.Goals as goal

pub returns-clause-greatest : goal.returns-clause-greatest
returns-clause-greatest c = λ k le.
    let x = c.args.self.now in
    greatest_from_floor (x.num *ℤ pos 1000000) k x.den c.floor.ensures
    (omega (arith, ints, c.short_num.ensures.bounds)) (omega (arith, ints, c.short_num.ensures.bounds)) (omega (arith, ints)) le
