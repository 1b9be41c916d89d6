use Rattle.pm_part_laws.proofs.Limits.{stay-limited}
use Rattle.pm_part_laws.proofs.laws.limits_beside.Goals as goal

pub returns : goal.returns
returns c = stay-limited (record {
  alike = c.same_settings_live_alike.ensures;
  stored = c.stored_configs_start_so.ensures;
  orders = c.lives_are_orders.ensures;
  limits = c.lives_stay_limited.ensures;
}) c.formats_beside.ensures c.guarded_orders_are_within.ensures
