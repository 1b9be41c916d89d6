use Rattle.pm_course_laws.proofs.Beside.{reached-beside}
use Rattle.pm_course_laws.proofs.laws.reached_since_it_read_beside.Goals as goal

pub returns : goal.returns
returns c = reached-beside c.same_settings_live_alike.ensures c.lists_say_enough.ensures c.reached_since_it_read.ensures
