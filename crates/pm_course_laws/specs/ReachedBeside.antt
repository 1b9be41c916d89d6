-- What the end Reached is worth beside a part as it is, by the answers of the last survey: this project's own choice. Lists are newest
-- first.
use Rattle.std.specs.Prelude.{◌≡◌, ◌<◌, ℕ, Bool, false, List, ◌++◌, Some, None, IsSomeAnd}
use Rattle.std.specs.List.{list_any}
use Rattle.pm_table.specs.declared.reg.Reg.{Reg}
use Rattle.pm_device.specs.Held.{Held}
use Rattle.pm_limits.specs.declared.output_limits.OutputLimits.{OutputLimits}
use Rattle.pm_limits.specs.declared.part_registers.PartRegisters.{PartRegisters}
use Rattle.pm_limits.specs.Band.{band_at}
use Rattle.pm_rail.specs.declared.survey.Survey.{Survey}
use Rattle.pm_rail.specs.declared.wanted.Wanted.{Wanted}
use Rattle.pm_rail.specs.Course.{course_of}
use Rattle.pm_rail.specs.Registers.{wants_of}
use Rattle.pm_course.specs.declared.course_end.CourseEnd.TheVariants.{Reached}
use Rattle.pm_course.specs.declared.course_end.CourseNext.TheVariants.{Ended}
use Rattle.pm_course.specs.declared.frame_course.FrameCourse.{FrameCourse}
use Rattle.pm_course.specs.declared.voltages.Voltages.{Voltages}
use Rattle.pm_course.specs.FrameCourse.{SaysNext, going_on, last_end}
use Rattle.pm_world.specs.Bands.{HoldsMissing}
use Rattle.pm_part_laws.specs.Happenings.{Happening, IsLifeBeside, beside, restarts}
use Rattle.pm_part_laws.specs.OwnWords.{commands_beside}
use Rattle.pm_part_laws.specs.Surveys.{AreRead, IsOneValue, MissingUnreadBeside, held_at_beside}
use Rattle.pm_course_laws.specs.FrameLives.{Means}
use Rattle.pm_course_laws.specs.FramesBeside.{IsFrameCourseBeside, goal_at_beside}
use Rattle.pm_course_laws.specs.ProgressBeside.{ReadsStandBeside}

-- Each wanted word is held (`words`), the output commands what is wanted (`commanded`), and its band has that one value (`one`).
pub record HoldsWantedBeside (held : Held) (passes : ℕ) (part : PartRegisters) (output : ℕ) (wanted : Wanted) (happened : List Happening) : Type 0 where
  pub words : (register : Reg) (word : ℕ) → wants_of wanted register ≡ Some word → held_at_beside held passes happened output register
      ≡ word
  pub commanded : commands_beside held passes happened output ≡ goal_at_beside held passes output wanted happened
  pub one : IsSomeAnd (band_at part (beside held passes happened).host output) (λ band. IsOneValue band held passes happened output)

-- Beside any part, what holds in each life: a course to wishes says Reached only where the output is as it is wanted, if the part didn't
-- restart since the answers that its last survey counts as read (`reached`). What a survey counts as read was read since it began (`reads`),
-- so this is so where the part didn't restart since then (`steady`).
pub record ReachedSinceItReadBeside : Type 0 where
  pub reached : (held : Held) (passes : ℕ) (part : PartRegisters) (limits : OutputLimits) (output : ℕ) (words wanted : Wanted)
      (voltages : Voltages) (tries : ℕ) (c is : FrameCourse) (own : Bool) (later before : List Happening) →
      IsLifeBeside held passes (later ++ before) → output < held.config.count → Means held.config output words voltages wanted →
      IsFrameCourseBeside held passes part (going_on (course_of output words tries) voltages) before c own later →
      ReadsStandBeside held passes c.course.survey (later ++ before) → MissingUnreadBeside held passes part output (later ++ before) →
      HoldsMissing part held.config (beside held passes (later ++ before)).device.words output → last_end c.end ≡ None →
      SaysNext part limits (beside held passes (later ++ before)).host c (Ended Reached) is →
      HoldsWantedBeside held passes part output wanted (later ++ before)
  pub steady : (held : Held) (passes : ℕ) (v : Survey) (later before : List Happening) → IsLifeBeside held passes (later ++ before) →
      AreRead held passes v later before → list_any restarts later ≡ false → ReadsStandBeside held passes v (later ++ before)
  pub reads : (held : Held) (passes : ℕ) (part : PartRegisters) (output : ℕ) (words wanted : Wanted) (voltages : Voltages) (tries : ℕ)
      (c : FrameCourse) (own : Bool) (later before : List Happening) → IsLifeBeside held passes (later ++ before) →
      output < held.config.count → Means held.config output words voltages wanted →
      IsFrameCourseBeside held passes part (going_on (course_of output words tries) voltages) before c own later →
      AreRead held passes c.course.survey later before
