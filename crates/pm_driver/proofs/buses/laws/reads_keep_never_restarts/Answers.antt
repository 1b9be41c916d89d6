use Rattle.pm_driver.proofs.SimulatedBuses.{reads-stay}
use Rattle.pm_driver.proofs.buses.laws.reads_keep_never_restarts.Goals as goal

pub returns : goal.returns
returns c = reads-stay c.reads_restart_nothing.ensures
