use Rattle.pm_part_laws.proofs.Limits.{bands-held}
use Rattle.pm_part_laws.proofs.laws.bands_beside.Goals as goal

pub returns : goal.returns
returns c = bands-held c.same_settings_live_alike.ensures c.lists_say_enough.ensures c.bands_are_held.ensures
