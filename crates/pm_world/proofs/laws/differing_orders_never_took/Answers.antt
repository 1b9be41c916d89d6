use Rattle.pm_world.proofs.HeldWords.{differs-never}
use Rattle.pm_world.proofs.laws.differing_orders_never_took.Goals as goal

pub returns : goal.returns
returns c = differs-never c.lower_laws.ensures
