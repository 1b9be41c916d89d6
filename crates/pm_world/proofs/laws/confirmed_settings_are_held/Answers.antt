use Rattle.pm_world.proofs.HeldWords.{confirmed-held}
use Rattle.pm_world.proofs.laws.confirmed_settings_are_held.Goals as goal

pub returns : goal.returns
returns c = confirmed-held c.lower_laws.ensures
