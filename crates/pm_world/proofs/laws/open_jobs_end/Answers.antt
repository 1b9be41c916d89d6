use Rattle.pm_world.proofs.HonestOrders.{jobs-end}
use Rattle.pm_world.proofs.laws.open_jobs_end.Goals as goal

pub returns : goal.returns
returns c = jobs-end c.lower_laws.ensures
