use Rattle.pm_sequence_laws.proofs.Calls.{steps}
use Rattle.pm_sequence_laws.proofs.laws.exports_are_steps_beside.Goals as goal

pub returns : goal.returns
returns c = steps c.frame_courses_hold_beside.ensures
