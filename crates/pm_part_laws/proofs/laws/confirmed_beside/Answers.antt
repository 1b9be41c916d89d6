use Rattle.pm_part_laws.proofs.Knowledge.{confirmed}
use Rattle.pm_part_laws.proofs.laws.confirmed_beside.Goals as goal

pub returns : goal.returns
returns c = confirmed c.same_settings_live_alike.ensures c.confirmed_settings_are_held.ensures c.lists_say_enough.ensures
