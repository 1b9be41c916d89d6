use Rattle.pm_world.proofs.Between.{all-between}
use Rattle.pm_world.proofs.rail_laws.mixtures_lie_between.Goals as goal

pub returns : goal.returns
returns c = all-between
