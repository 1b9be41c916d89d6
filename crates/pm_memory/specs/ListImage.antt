-- A list of steps as plain numbers in a caller's memory, and what they mean. This project's own choice.
use Rattle.std.specs.Prelude.{ℕ, ◌==◌, if◌then◌else◌}
use Rattle.std.specs.Prelude.{Option, Some, None, is_some, option_map}
use Rattle.pm_table.specs.Rules.{rule}
use Rattle.pm_rail.specs.declared.wanted.Wanted.{Wanted}
use Rattle.pm_rail.specs.Registers.{nothing}
use Rattle.pm_course.specs.declared.frame_course.FrameCourse.{FrameCourse}
use Rattle.pm_course.specs.FrameCourse.{to_survey}
use Rattle.pm_stairs.specs.declared.sequence.Sequence.{Sequence}
use Rattle.pm_stairs.specs.declared.stairs.Under.{Under}
use Rattle.pm_stairs.specs.declared.step.WordAct.{WordAct}
use Rattle.pm_stairs.specs.declared.step.WordAct.TheVariants as words
use Rattle.pm_stairs.specs.declared.step.WordStep.{WordStep}
use Rattle.pm_memory.specs.declared.course_image.CourseImage.{CourseImage}
use Rattle.pm_memory.specs.declared.list_image.ListImage.{ListImage}
use Rattle.pm_memory.specs.declared.list_image.UnderImage.{UnderImage}
use Rattle.pm_memory.specs.CourseImage.{course_held, course_image, course_in}
use Rattle.pm_memory.specs.Flag.{flag}
use Rattle.pm_memory.specs.Wanted.{wanted_image, wanted_meant}

-- the step under way, in words: 0 there is none, 1 words, 2 a byte, 3 nothing is ordered
abbrev pub under_words : UnderImage → Option WordStep
under_words i = if i.kind == 1 then Some (record { output = i.output; act = words.Sets (wanted_meant i.words) })
    else (if i.kind == 2 then Some (record { output = i.output; act = words.Turns i.byte })
    else (if i.kind == 3 then Some (record { output = i.output; act = words.Nothing }) else None))

abbrev pub with_its_course : FrameCourse → WordStep → Under
with_its_course course step = record { step = step; course = course }

abbrev pub sequence_held : ListImage → FrameCourse → FrameCourse → Sequence
sequence_held i course coming = record {
  stairs = record {
    under = option_map (with_its_course course) (under_words i.under);
    coming = rule (i.under.has_coming == 1) coming;
    reading = i.under.is_reading == 1;
    restarted = i.under.is_restarted == 1;
  };
  tries = i.tries;
  begun = i.begun;
  host = i.host;
  under_host = i.under.host;
  is_free = i.under.is_free == 1;
  is_warned = i.under.is_warned == 1;
  keeps_back = i.keeps_back == 1;
  ends_at_restart = i.ends_at_restart == 1;
}

abbrev pub held_with : ListImage → Option FrameCourse → Option FrameCourse → Option Sequence
held_with i (Some course) (Some coming) = Some (sequence_held i course coming)
held_with i (Some course) None = None
held_with i None coming = None

abbrev pub list_in : ListImage → Option Sequence
list_in i = held_with i (course_in i.course) (course_in i.coming)

-- what the numbers mean of memory that holds them
abbrev pub list_meant : ListImage → Sequence
list_meant i = sequence_held i (course_held i.course) (course_held i.coming)

-- how they are written; a course that there isn't is written as a survey of nothing
abbrev pub course_written : Option FrameCourse → CourseImage
course_written None = course_image (to_survey 0 0)
course_written (Some course) = course_image course

abbrev pub under_numbers : Sequence → ℕ → ℕ → ℕ → Wanted → UnderImage
under_numbers q kind output byte wanted = record {
  kind = kind;
  host = q.under_host;
  output = output;
  is_free = flag q.is_free;
  is_warned = flag q.is_warned;
  is_reading = flag q.stairs.reading;
  is_restarted = flag q.stairs.restarted;
  has_coming = flag (is_some q.stairs.coming);
  byte = byte;
  unused = 0;
  words = wanted_image wanted;
}

abbrev pub under_act : Sequence → ℕ → WordAct → UnderImage
under_act q output (words.Sets wanted) = under_numbers q 1 output 0 wanted
under_act q output (words.Turns byte) = under_numbers q 2 output byte nothing
under_act q output words.Nothing = under_numbers q 3 output 0 nothing

abbrev pub under_image : Sequence → Option Under → UnderImage
under_image q None = under_numbers q 0 0 0 nothing
under_image q (Some under) = under_act q under.step.output under.step.act

abbrev pub list_image : Sequence → ListImage
list_image q = record {
  tries = q.tries;
  begun = q.begun;
  host = q.host;
  keeps_back = flag q.keeps_back;
  ends_at_restart = flag q.ends_at_restart;
  unused = 0;
  under = under_image q q.stairs.under;
  course = course_written (option_map (λ under. under.course) q.stairs.under);
  coming = course_written q.stairs.coming;
}
