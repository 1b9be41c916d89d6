use Rattle.pm_part_laws.proofs.Limits.{command-own}
use Rattle.pm_part_laws.proofs.laws.own_words_beside.Goals as goal

pub returns : goal.returns
returns c = command-own c.same_settings_live_alike.ensures c.stored_configs_start_so.ensures c.lives_are_orders.ensures
