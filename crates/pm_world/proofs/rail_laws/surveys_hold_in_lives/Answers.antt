use Rattle.pm_world.proofs.Plans.{keeps-surveys, follows-surveys}
use Rattle.pm_world.proofs.rail_laws.surveys_hold_in_lives.Goals as goal

pub returns : goal.returns
returns c = record {
  follows = λ config passes events lived. follows-surveys c.lower_laws.ensures config passes events lived;
  keeps = λ config passes events spelled lived.
      keeps-surveys c.lower_laws.ensures c.bands_are_held.ensures c.surveys_end_known.ensures config passes events lived spelled;
}
