use Rattle.pm_course_laws.proofs.Beside.{hold-beside}
use Rattle.pm_course_laws.proofs.laws.frame_courses_hold_beside.Goals as goal

pub returns : goal.returns
returns c = hold-beside c.same_settings_live_alike.ensures c.frame_courses_hold_in_lives.ensures
