use Rattle.pm_course_laws.proofs.Reached.{reached-since-it-read}
use Rattle.pm_course_laws.proofs.laws.reached_since_it_read.Goals as goal

pub returns : goal.returns
returns c = reached-since-it-read (record {
  followed = c.lives_are_followed.ensures;
  lives = c.events_are_lived.ensures;
  formats = c.learned_formats_are_true.ensures;
  courses = c.courses_hold_in_lives.ensures;
  ends = c.courses_end.ensures;
}) c.surveys_hold_in_lives.ensures c.surveys_end_known.ensures c.possible_words_are_held.ensures
