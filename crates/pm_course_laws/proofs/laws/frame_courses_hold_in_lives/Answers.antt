use Rattle.pm_course_laws.proofs.Worth.{hold-in-lives}
use Rattle.pm_course_laws.proofs.laws.frame_courses_hold_in_lives.Goals as goal

pub returns : goal.returns
returns c = hold-in-lives (record {
  followed = c.lives_are_followed.ensures;
  lives = c.events_are_lived.ensures;
  formats = c.learned_formats_are_true.ensures;
  courses = c.courses_hold_in_lives.ensures;
  ends = c.courses_end.ensures;
})
