use Rattle.pm_course_laws.proofs.Beside.{keep-between}
use Rattle.pm_course_laws.proofs.laws.frame_courses_keep_between_beside.Goals as goal

pub returns : goal.returns
returns c = keep-between c.same_settings_live_alike.ensures c.frame_courses_go_their_way.ensures c.courses_keep_between.ensures
