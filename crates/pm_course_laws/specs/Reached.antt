-- What the end Reached is worth by the answers of the last survey: this project's own choice. Lists are newest first.
use Rattle.std.specs.Prelude.{◌≡◌, ◌<◌, ℕ, Bool, true, false, List, ◌++◌, Some, None, IsSomeAnd}
use Rattle.std.specs.List.{list_any}
use Rattle.pm_table.specs.declared.cell.Cell.TheVariants.{Out, Protect}
use Rattle.pm_table.specs.declared.reg.Reg.{Reg}
use Rattle.pm_device.specs.declared.config.Config.{Config}
use Rattle.pm_device.specs.Held.{value_for}
use Rattle.pm_limits.specs.declared.output_limits.OutputLimits.{OutputLimits}
use Rattle.pm_limits.specs.declared.part_registers.PartRegisters.{PartRegisters}
use Rattle.pm_limits.specs.Band.{band_at}
use Rattle.pm_rail.specs.declared.survey.Survey.{Survey}
use Rattle.pm_rail.specs.declared.wanted.Wanted.{Wanted}
use Rattle.pm_rail.specs.Course.{course_of}
use Rattle.pm_rail.specs.Plan.{commands_by, goal_of}
use Rattle.pm_rail.specs.Registers.{wants_of}
use Rattle.pm_rail.specs.Survey.{has_read}
use Rattle.pm_course.specs.declared.course_end.CourseEnd.TheVariants.{Reached}
use Rattle.pm_course.specs.declared.course_end.CourseNext.TheVariants.{Ended}
use Rattle.pm_course.specs.declared.frame_course.FrameCourse.{FrameCourse}
use Rattle.pm_course.specs.declared.voltages.Voltages.{Voltages}
use Rattle.pm_course.specs.FrameCourse.{SaysNext, going_on, last_end}
use Rattle.pm_world.specs.declared.event.Event.{Event}
use Rattle.pm_world.specs.Bands.{HoldsMissing}
use Rattle.pm_world.specs.Confirmed.{restarted_since, restarts_converter}
use Rattle.pm_world.specs.Honest.{IsSpelled}
use Rattle.pm_world.specs.Life.{now}
use Rattle.pm_world.specs.Limited.{commands}
use Rattle.pm_world.specs.Lived.{IsLived}
use Rattle.pm_world.specs.Plans.{held_at}
use Rattle.pm_world.specs.Surveys.{AreRead, IsOneValue, MissingUnread}
use Rattle.pm_course_laws.specs.FrameLives.{IsFrameCourse, Means}

-- The converter didn't restart since the host's last good answer for each cell that a survey counts as read.
pub record ReadsStand (config : Config) (passes : ℕ) (v : Survey) (events : List Event) : Type 0 where
  pub registers : (register : Reg) → has_read v.read register ≡ true →
      restarted_since config passes (Out v.output register) events ≡ false
  pub protect : v.read.protect ≡ true → restarted_since config passes Protect events ≡ false

-- Each wanted word is held (`words`), the output commands what is wanted (`commanded`), and its band has that one value (`one`).
pub record HoldsWanted (config : Config) (passes : ℕ) (part : PartRegisters) (output : ℕ) (wanted : Wanted) (events : List Event) : Type 0 where
  pub words : (register : Reg) (word : ℕ) → wants_of wanted register ≡ Some word → held_at config passes events output register ≡ word
  pub commanded : commands config passes events output
      ≡ commands_by (value_for config output) (goal_of (held_at config passes events output) (wants_of wanted))
  pub one : IsSomeAnd (band_at part (now config passes events).host output) (λ band. IsOneValue band config passes events output)

-- In each life, a course to wishes says Reached only where the output is as it is wanted, if the converter didn't restart since the answers
-- that its last survey counts as read. Restarts before them take nothing from that (`reached`), nor does what others order meanwhile.
-- What a survey counts as read was read since it began (`reads`), so this is so where the converter didn't restart since then
-- (`steady`). The host had no good answer for a register that the part doesn't have, and a VOUT_MIN or VOUT_MAX that it doesn't have
-- stands at its word; of a part with every register that says nothing.
pub record ReachedSinceItRead : Type 0 where
  pub reached : (config : Config) (passes : ℕ) (part : PartRegisters) (limits : OutputLimits) (output : ℕ) (words wanted : Wanted)
      (voltages : Voltages) (tries : ℕ) (c is : FrameCourse) (own : Bool) (later before : List Event) →
      IsSpelled config → IsLived config passes (later ++ before) → output < config.count → Means config output words voltages wanted →
      IsFrameCourse config passes part (going_on (course_of output words tries) voltages) before c own later →
      ReadsStand config passes c.course.survey (later ++ before) → MissingUnread config passes part output (later ++ before) →
      HoldsMissing part config (now config passes (later ++ before)).device.words output → last_end c.end ≡ None →
      SaysNext part limits (now config passes (later ++ before)).host c (Ended Reached) is →
      HoldsWanted config passes part output wanted (later ++ before)
  pub steady : (config : Config) (passes : ℕ) (v : Survey) (later before : List Event) → AreRead config passes v later before →
      list_any restarts_converter later ≡ false → ReadsStand config passes v (later ++ before)
  pub reads : (config : Config) (passes : ℕ) (part : PartRegisters) (output : ℕ) (words wanted : Wanted) (voltages : Voltages) (tries : ℕ)
      (c : FrameCourse) (own : Bool) (later before : List Event) → IsSpelled config → IsLived config passes (later ++ before) →
      output < config.count → Means config output words voltages wanted →
      IsFrameCourse config passes part (going_on (course_of output words tries) voltages) before c own later →
      AreRead config passes c.course.survey later before
