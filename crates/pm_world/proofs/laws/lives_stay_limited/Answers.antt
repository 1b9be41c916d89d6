use Rattle.pm_world.proofs.Limits.{stays}
use Rattle.pm_world.proofs.laws.lives_stay_limited.Goals as goal

pub returns : goal.returns
returns c = λ config passes events spelled lived. stays c.lower_laws.ensures config passes events lived spelled
