use Rattle.std.proofs.Common.{◌≡◌, nat_lt, Bool, true, false, not, Option, w64, to_z, of_z, arith}
use Rattle.std.specs.Option.{option_or}
use Rattle.std.proofs.lemmas.Bool.Decides.{nat_tests}
use Rattle.std.proofs.lemmas.Int.{ints}
use Rattle.pm_table.specs.Rules.{rule}
use Rattle.pm_limits.proofs.guard.Guard.narrow.Goals as goal

-- a fault that comes behind a rule which doesn't apply
behind : {A : Type 0} (holds : Bool) (before : A) (found rest : Option A) → holds ≡ true → found ≡ rest →
    found ≡ option_or (rule (not holds) before) rest
behind true before found rest h is = is
behind false before found rest h is = cc

pub returns-in-Err-clause-fault : goal.returns-in-Err-clause-fault
returns-in-Err-clause-fault c =
    let there : nat_lt c.args.output c.args.self.now.host.setup.outputs ≡ true = grind (arith, nat_tests) in
    let least : to_z w64 (of_z w64 c.args.least) ≡ c.args.least = omega (arith, ints) in
    let most : to_z w64 (of_z w64 c.args.most) ≡ c.args.most = omega (arith, ints) in
    behind _ _ _ _ there (rw (least, most) at c.in-Err.ensures.fault)
