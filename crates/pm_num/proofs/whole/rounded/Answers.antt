use Rattle.std.proofs.Common.{arith}
use Rattle.std.proofs.lemmas.Int.{ints}
use Rattle.pm_num.proofs.Nearest.{rounded-floor}
use Rattle.pm_num.proofs.whole.rounded.Goals as goal

pub returns : goal.returns
returns c =
    rounded-floor c.args.a c.args.d c.requires.positive c.floor.ensures
    (omega (arith, ints)) (omega (arith, ints)) (omega (arith, ints))
