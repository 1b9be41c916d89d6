use Rattle.pm_part_laws.proofs.Knowledge.{never-took}
use Rattle.pm_part_laws.proofs.laws.differing_beside.Goals as goal

pub returns : goal.returns
returns c = never-took c.same_settings_live_alike.ensures c.differing_orders_never_took.ensures
