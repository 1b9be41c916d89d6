use Rattle.pm_world.proofs.Orders.{moves-so}
use Rattle.pm_world.proofs.laws.settings_move_by_the_open_job.Goals as goal

pub returns : goal.returns
returns c = moves-so c.lower_laws.ensures
