use Rattle.pm_world.proofs.Plans.{Plans, keeps-plans, none-missing}
use Rattle.pm_world.proofs.rail_laws.plans_hold_in_lives.Goals as goal

pub returns : goal.returns
returns c =
    let plans : Plans = record {
      glitch = c.plans_are_without_glitch.ensures;
      answers = c.plans_are_of_what_is_held.ensures;
      ends = c.plans_end.ensures;
    } in
    record {
      keeps = λ config passes events spelled lived. keeps-plans c.lower_laws.ensures plans config passes events lived spelled;
      whole = none-missing c.whole_parts_miss_nothing.ensures;
    }
