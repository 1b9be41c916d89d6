-- The course whose job stairs named last. This project's own choice.
use Rattle.std.specs.Prelude.{Bool, false, ◌||◌, if◌then◌else◌, Option, Some, option_map}
use Rattle.std.specs.Option.{option_map_or}
use Rattle.pm_host.specs.declared.stage.Stage.{Stage}
use Rattle.pm_course.specs.declared.frame_course.FrameCourse.{FrameCourse}
use Rattle.pm_course.specs.Heard.{is_job_of}
use Rattle.pm_stairs.specs.declared.stairs.Stairs.{Stairs}
use Rattle.pm_stairs.specs.declared.stairs.Under.{Under}

-- the course whose job was named last
abbrev pub course_open : Stairs → Option FrameCourse
course_open stairs = if stairs.reading then stairs.coming else option_map (λ under. under.course) stairs.under

-- the job that stands at this stage is its
abbrev pub is_job_at : Stairs → Stage → Bool
is_job_at stairs stage = option_map_or (λ course. is_job_of course.course.survey.asked stage) (course_open stairs) false

-- that course has become this one, and an answer showed a restart, or none did
abbrev pub under_with : FrameCourse → Under → Under
under_with course under = record { step = under.step; course = course }

abbrev pub with_course : Stairs → FrameCourse → Bool → Stairs
with_course stairs course surprised = if stairs.reading
    then record stairs { coming = Some course; restarted = stairs.restarted || surprised }
    else record stairs { under = option_map (under_with course) stairs.under; restarted = stairs.restarted || surprised }
