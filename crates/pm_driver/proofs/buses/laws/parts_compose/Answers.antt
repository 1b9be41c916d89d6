use Rattle.pm_driver.proofs.SimulatedBuses.{parts-compose}
use Rattle.pm_driver.proofs.buses.laws.parts_compose.Goals as goal

pub returns : goal.returns
returns c = parts-compose c.requests_may_be_lost.ensures
