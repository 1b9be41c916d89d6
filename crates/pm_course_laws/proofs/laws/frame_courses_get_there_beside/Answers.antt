use Rattle.pm_course_laws.proofs.Beside.{get-there-beside}
use Rattle.pm_course_laws.proofs.laws.frame_courses_get_there_beside.Goals as goal

pub returns : goal.returns
returns c = get-there-beside c.same_settings_live_alike.ensures c.lists_say_enough.ensures c.frame_courses_get_there.ensures
