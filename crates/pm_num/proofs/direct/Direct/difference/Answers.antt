use Rattle.std.proofs.Common.{arith}
use Rattle.std.proofs.lemmas.Int.{ints}
use Rattle.pm_num.proofs.Nearest.{parts_small}
use Rattle.pm_num.proofs.direct.Direct.difference.Goals as goal

pub overflow_sub-result : goal.overflow_sub-result
overflow_sub-result c =
    let parts = parts_small c.args.self.now.r c.args.self.now.decimal in
    omega (arith, ints)

pub returns-clause-value : goal.returns-clause-value
returns-clause-value c =
    let parts = parts_small c.args.self.now.r c.args.self.now.decimal in
    omega (arith, ints)

pub returns-clause-small : goal.returns-clause-small
returns-clause-small c =
    let parts = parts_small c.args.self.now.r c.args.self.now.decimal in
    omega (arith, ints)
