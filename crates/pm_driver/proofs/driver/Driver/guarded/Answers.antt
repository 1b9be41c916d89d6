use Rattle.pm_driver.proofs.Lives.{begins-lived, begins-since}
use Rattle.pm_driver.proofs.driver.Driver.guarded.Goals as goal

pub invariant_of-result : goal.invariant_of-result
invariant_of-result g c =
    begins-lived c.laws_of_lives.ensures c.args.guard.host (g.B.Bus.held c.args.bus) c.requires

pub returns-clause-since : goal.returns-clause-since
returns-clause-since g c = λ cell.
    begins-since c.laws_of_lives.ensures c.args.guard.host (g.B.Bus.held c.args.bus) c.requires cell
