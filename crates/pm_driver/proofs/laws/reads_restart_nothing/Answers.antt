use Rattle.pm_driver.proofs.Lives.{reads-none}
use Rattle.pm_driver.proofs.laws.reads_restart_nothing.Goals as goal

pub returns : goal.returns
returns g c = reads-none g.B.Bus.gives g.B.Bus.held g.B.Bus.restarts
