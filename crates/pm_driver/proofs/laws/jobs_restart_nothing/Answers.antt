use Rattle.pm_driver.proofs.Lives.{jobs-none}
use Rattle.pm_driver.proofs.laws.jobs_restart_nothing.Goals as goal

pub returns : goal.returns
returns g c = jobs-none g.B.Bus.gives g.B.Bus.held g.B.Bus.restarts
