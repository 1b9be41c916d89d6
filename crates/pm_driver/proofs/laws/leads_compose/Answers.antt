use Rattle.pm_driver.proofs.Lives.{leads-compose}
use Rattle.pm_driver.proofs.laws.leads_compose.Goals as goal

pub returns : goal.returns
returns g c = leads-compose g.B.Bus.gives g.B.Bus.held g.B.Bus.restarts
