use Rattle.pm_part_laws.proofs.Limits.{surveys}
use Rattle.pm_part_laws.proofs.laws.surveys_beside.Goals as goal

pub returns : goal.returns
returns c = surveys c.same_settings_live_alike.ensures c.lists_say_enough.ensures c.surveys_hold_in_lives.ensures
