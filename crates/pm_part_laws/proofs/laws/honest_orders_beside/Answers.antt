use Rattle.pm_part_laws.proofs.Knowledge.{honest-through}
use Rattle.pm_part_laws.proofs.laws.honest_orders_beside.Goals as goal

pub returns : goal.returns
returns c = honest-through c.same_settings_live_alike.ensures c.honest_orders_go_through.ensures
