use Rattle.pm_course_laws.proofs.Restarts.{keep-between}
use Rattle.pm_course_laws.proofs.laws.courses_keep_between.Goals as goal

pub returns : goal.returns
returns c = keep-between c.plans_end.ensures c.courses_hold_in_lives.ensures c.events_are_lived.ensures c.restarts_keep_between.ensures
