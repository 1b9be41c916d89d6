use Rattle.pm_world.proofs.Formats.{formats-agree, micros-nearest}
use Rattle.pm_world.proofs.laws.learned_formats_are_true.Goals as goal

pub returns : goal.returns
returns c = record {
  agree = λ config passes events spelled lived. formats-agree c.lower_laws.ensures config passes events lived spelled;
  nearest = λ config passes events spelled lived. micros-nearest c.lower_laws.ensures config passes events lived spelled;
}
