use Rattle.std.proofs.Common.{arith}
use Rattle.std.proofs.lemmas.Int.{ints}
use Rattle.pm_num.proofs.Nearest.{floor_size, ceiling-floor}
use Rattle.pm_num.proofs.whole.ceiling.Goals as goal

pub returns : goal.returns
returns c =
    let size = floor_size c.args.d c.requires.positive (omega (arith, ints)) c.floor.ensures (omega (arith, ints)) in
    ceiling-floor c.args.a c.args.d c.requires.positive c.floor.ensures
    (omega (arith, ints)) (omega (arith, ints)) (omega (arith, ints))
