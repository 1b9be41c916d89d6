-- A course that hands out frames, carried out over a bus: this project's own choice. Lists are newest first.
use Rattle.std.specs.Prelude.{◌≡◌, ℕ, Bool, false, List, ◌++◌, Some, None}
use Rattle.std.specs.List.{list_any}
use Rattle.pm_device.specs.declared.config.Config.{Config}
use Rattle.pm_device.specs.Held.{Held}
use Rattle.pm_host.specs.declared.job.Job.{Job as Asked}
use Rattle.pm_host.specs.Refusals.{is_busy}
use Rattle.pm_limits.specs.declared.part_registers.PartRegisters.{PartRegisters}
use Rattle.pm_limits.specs.declared.fault.LimitFault.{LimitFault}
use Rattle.pm_limits.specs.FaultWords.{limit_fault_number}
use Rattle.pm_limits.specs.Guard.{Guarded, guard_fault}
use Rattle.pm_course.specs.declared.course_end.CourseEnd.{CourseEnd}
use Rattle.pm_course.specs.declared.course_end.CourseEnd.TheVariants.{Reached, Refused}
use Rattle.pm_course.specs.declared.course_end.CourseNext.TheVariants.{Ended, Job}
use Rattle.pm_course.specs.declared.frame_course.FrameCourse.{FrameCourse}
use Rattle.pm_course.specs.Ends.{refusal_of_job}
use Rattle.pm_course.specs.FrameCourse.{refused_by}
use Rattle.pm_course.specs.Frames.{SaysBy}
use Rattle.pm_course_laws.specs.FrameLives.{IsFrameCourse}
use Rattle.pm_world.specs.declared.event.Event.{Event}
use Rattle.pm_world.specs.Confirmed.{restarts_converter}
use Rattle.pm_driver.specs.Acts.{Act, Call}
use Rattle.pm_driver.specs.Driven.{Driving, driven}
use Rattle.pm_driver.specs.Lives.{Driven, IsLife, Leads}

-- A driver leads from one host and bus to others, asked for some jobs, and a course goes along with it. In each life that led
-- to the old ones, whenever the course began in it and whether or not its job was open (`mine`), the driver's events are
-- further steps of it, and whether its job is open then is known (`own`).
pub record Carries {B : Type 0} (gives : B → Call → B → Type 0) (held : B → Held) (restarts : B → ℕ) (part : PartRegisters)
    (was : FrameCourse) (mine : Bool) (old : Driven B) (is : FrameCourse) (own : Bool) (new : Driven B) : Type 0 where
  pub asked : List Act
  pub leads : Leads gives held restarts asked None old new
  pub steps : (config : Config) (passes : ℕ) (begun : FrameCourse) (later before : List Event) →
      IsLife config passes (later ++ before) old.host (held old.bus) →
      IsFrameCourse config passes part begun before was mine later →
      IsFrameCourse config passes part begun before is own (leads.events ++ later)

-- What stays while a course's open job is carried out: the course's output and the tries that it has left, that it hasn't reached
-- its end, the limits and registers of the guard, and what its host was made for.
pub record KeepsTo (old : Guarded) (was : FrameCourse) (new : Guarded) (is : FrameCourse) : Type 0 where
  pub left : is.course.survey.left ≡ was.course.survey.left
  pub output : is.course.survey.output ≡ was.course.survey.output
  pub fresh : is.end ≡ Some Reached → was.end ≡ Some Reached
  pub limits : new.limits ≡ old.limits
  pub registers : new.registers ≡ old.registers
  pub kept : new.host.setup ≡ old.host.setup

-- A course ends by a guard whose host has no job open: it says that end (`over`), or a job that the guard refuses (`refused`).
pub data EndsAt (g : Guarded) (last : FrameCourse) (end : CourseEnd) (is : FrameCourse) : Type 0 where
  over : SaysBy g last (Ended end) is → EndsAt g last end is
  refused : (job : Asked) (fault : LimitFault) (after : FrameCourse) → SaysBy g last (Job job) after → guard_fault g job ≡ Some fault →
      end ≡ Refused (refusal_of_job (limit_fault_number fault) job) → is ≡ refused_by last (limit_fault_number fault) job →
      EndsAt g last end is

-- What carrying a course out does, while no job is open: the driver leads to where the course has ended, by steps of the course
-- only (`carries`), of which the last is its end (`last`, `ends`). If that is Reached, it is so of the course that was carried out and
-- wasn't so before (`fresh`). The converter didn't restart by its events where the bus counted no restart (`steady`). No job is open
-- then (`idle`). The course's output stays, and so do the driver's limits and registers, and what its host was made for.
pub record RunsCourse {B : Type 0} (gives : B → Call → B → Type 0) (held : B → Held) (restarts : B → ℕ) (old : Driving B)
    (was : FrameCourse) (end : CourseEnd) (new : Driving B) (is : FrameCourse) : Type 0 where
  pub last : FrameCourse
  pub carries : Carries gives held restarts old.guard.registers was false (driven old) last false (driven new)
  pub ends : EndsAt new.guard last end is
  pub fresh : last.end ≡ Some Reached → was.end ≡ Some Reached
  pub steady : restarts new.bus ≡ restarts old.bus → list_any restarts_converter carries.leads.events ≡ false
  pub idle : is_busy new.guard.host ≡ false
  pub output : is.course.survey.output ≡ was.course.survey.output
  pub limits : new.guard.limits ≡ old.guard.limits
  pub registers : new.guard.registers ≡ old.guard.registers
  pub kept : new.guard.host.setup ≡ old.guard.host.setup
