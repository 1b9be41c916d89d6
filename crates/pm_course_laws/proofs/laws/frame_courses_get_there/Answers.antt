use Rattle.pm_course_laws.proofs.Progress.{get-there}
use Rattle.pm_course_laws.proofs.laws.frame_courses_get_there.Goals as goal

pub returns : goal.returns
returns c = get-there (record {
  followed = c.lives_are_followed.ensures;
  lives = c.events_are_lived.ensures;
  formats = c.learned_formats_are_true.ensures;
  courses = c.courses_hold_in_lives.ensures;
  ends = c.courses_end.ensures;
}) (record {
  followed = c.lives_are_followed.ensures;
  lives = c.events_are_lived.ensures;
  good = c.good_frames_end_jobs.ensures;
  turns = c.open_jobs_end.ensures;
  whole = c.whole_frames_are_undisturbed.ensures;
  moves = c.settings_move_by_the_open_job.ensures;
  latch = c.requests_latch_at_most.ensures;
  orders = c.open_orders_are_uncertain.ensures;
  transcripts = c.transcripts_are_followed.ensures;
}) c.cells_are_told_apart.ensures c.chains_end.ensures (record {
  possible = c.possible_words_are_held.ensures;
  origin = c.words_have_an_origin.ensures;
})
