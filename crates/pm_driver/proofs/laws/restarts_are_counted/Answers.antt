use Rattle.pm_driver.proofs.Lives.{leads-since}
use Rattle.pm_driver.proofs.laws.restarts_are_counted.Goals as goal

pub returns : goal.returns
returns g c = leads-since g.B.Bus.gives g.B.Bus.held g.B.Bus.restarts
