-- A list in memory hears what became of a frame: the numbers that this changes are written, and no others. This project's own choice.
use Rattle.std.specs.Prelude.{◌≡◌, Bool, ◌&&◌, ◌||◌, ◌==◌, if◌then◌else◌, Some, option_map}
use Rattle.pm_host.specs.declared.stage.Stage.{Stage}
use Rattle.pm_host.specs.Transcript.{Entry}
use Rattle.pm_limits.specs.Guard.{Guarded}
use Rattle.pm_course.specs.declared.frame_course.FrameCourse.{FrameCourse}
use Rattle.pm_course.specs.declared.hosted.Heard.{Heard}
use Rattle.pm_course.specs.Hosted.{TellsBoth}
use Rattle.pm_stairs.specs.declared.stairs.Stairs.{Stairs}
use Rattle.pm_stairs.specs.OpenCourse.{course_open}
use Rattle.pm_stairs.specs.Sequence.{heard_with}
use Rattle.pm_sequence.specs.declared.sequence.Sequence.{Sequence}
use Rattle.pm_sequence.specs.Frames.{list_heard, shows_restart_at, HearsAt}
use Rattle.pm_memory.specs.declared.course_image.CourseImage.{CourseImage}
use Rattle.pm_memory.specs.declared.list_image.ListImage.{ListImage}
use Rattle.pm_memory.specs.declared.sequence_image.SequenceImage.{SequenceImage}
use Rattle.pm_memory.specs.CourseImage.{course_held, course_image, IsKept}
use Rattle.pm_memory.specs.Flag.{flag}
use Rattle.pm_memory.specs.ListImage.{course_written, list_meant}
use Rattle.pm_memory.specs.SequenceImage.{fresh_number, sequence_in, sequence_meant}

-- the course whose job was named last, and whether a restart was seen
abbrev pub stairs_heard : ListImage → Stairs → ListImage
stairs_heard i s = if s.reading
    then record i { under = record i.under { is_restarted = flag s.restarted }; coming = course_written s.coming }
    else record i {
      under = record i.under { is_restarted = flag s.restarted };
      course = course_written (option_map (λ under. under.course) s.under);
    }

-- the whole memory: its list, and whose survey is fresh
abbrev pub heard_image : SequenceImage → Sequence → SequenceImage
heard_image was is = record was {
  list = stairs_heard was.list is.list.stairs;
  told = record was.told { fresh = fresh_number is.fresh };
}

-- A host and a course in memory hear it, and whether that shows a restart.
pub record CourseHears (old : Guarded) (was : CourseImage) (stage : Stage) (entry : Entry) (result : Heard) (restarted : Bool) (new : Guarded)
    (image : CourseImage) : Type 0 where
  pub is : FrameCourse
  pub hears : TellsBoth old (course_held was) stage entry result new is
  pub shows : restarted ≡ shows_restart_at (course_held was) old.host stage entry
  pub written : image ≡ course_image is

-- the list with such a course
abbrev pub with_restarted : ListImage → Bool → ListImage
with_restarted i restarted =
    record i { under = record i.under { is_restarted = flag (i.under.is_restarted == 1 || (restarted && i.ends_at_restart == 1)) } }

abbrev pub course_heard : ListImage → FrameCourse → Bool → ListImage
course_heard i is restarted = if i.under.is_reading == 1
    then with_restarted (record i { coming = course_image is }) restarted
    else with_restarted (record i { course = course_image is }) restarted

pub record ListHears (old : Guarded) (was : ListImage) (stage : Stage) (entry : Entry) (result : Heard) (new : Guarded) (image : ListImage) :
    Type 0 where
  pub named : FrameCourse
  pub is : FrameCourse
  pub opened : course_open (list_meant was).stairs ≡ Some named
  pub hears : TellsBoth old named stage entry result new is
  pub written : image ≡ course_heard was is (shows_restart_at named old.host stage entry)

-- A host and a list in memory hear it.
pub record HearsInMemory (old : Guarded) (was : SequenceImage) (stage : Stage) (entry : Entry) (result : Heard) (new : Guarded)
    (image : SequenceImage) : Type 0 where
  pub is : Sequence
  pub hears : HearsAt old (sequence_meant was) stage entry result new is
  pub written : image ≡ heard_image was is

-- What this leaves in memory reads as the sequence that has heard it, where memory keeps the course that heard it.
pub record HearingsAreKept : Type 0 where
  pub heard : (was : SequenceImage) (q : Sequence) (named is : FrameCourse) (restarted : Bool) (entry : Entry) →
      sequence_in was ≡ Some q → course_open q.list.stairs ≡ Some named → IsKept is →
      let after = list_heard q entry (heard_with q.list is restarted) in sequence_in (heard_image was after) ≡ Some after
