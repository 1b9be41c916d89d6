use Rattle.pm_driver.proofs.SimulatedBuses.{never-stays}
use Rattle.pm_driver.proofs.buses.laws.never_restarts_stays.Goals as goal

pub returns : goal.returns
returns c = never-stays c.jobs_restart_nothing.ensures
