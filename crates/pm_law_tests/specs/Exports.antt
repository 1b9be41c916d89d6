-- A course that memory holds, beside a part as it is, as a caller of the law of exports has it.
use Rattle.std.specs.Prelude.{ℕ, Bool, List, ◌++◌}
use Rattle.pm_device.specs.Held.{Held}
use Rattle.pm_limits.specs.declared.part_registers.PartRegisters.{PartRegisters}
use Rattle.pm_limits.specs.Guard.{Guarded}
use Rattle.pm_course.specs.declared.frame_course.FrameCourse.{FrameCourse}
use Rattle.pm_part_laws.specs.Happenings.{Happening}
use Rattle.pm_course_laws.specs.FramesBeside.{IsFrameCourseBeside}
use Rattle.pm_memory.specs.declared.course_image.CourseImage.{CourseImage}
use Rattle.pm_memory.specs.declared.guard_image.GuardImage.{GuardImage}
use Rattle.pm_sequence_laws.specs.CourseCalls.{AreOf}

-- a part, the registers that it has, the course that began beside it, what happened before and since, and what the memories mean now
pub record CourseLife : Type 0 where
  pub held : Held
  pub passes : ℕ
  pub part : PartRegisters
  pub begun : FrameCourse
  pub before : List Happening
  pub later : List Happening
  pub guard : Guarded
  pub course : FrameCourse
  pub own : Bool

-- what the memories mean is the host beside the part and the course there
pub record IsOf (life : CourseLife) (host : GuardImage) (course : CourseImage) : Type 0 where
  pub means : AreOf life.held life.passes life.part (life.later ++ life.before) host course life.guard life.course
  pub goes : IsFrameCourseBeside life.held life.passes life.part life.begun life.before life.course life.own life.later
