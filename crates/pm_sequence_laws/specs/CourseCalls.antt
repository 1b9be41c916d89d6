-- The calls that C makes of a course, while the host's memory means the host beside a part, and the course's memory a course of it: they are
-- steps of what happens there. This project's own choice.
use Rattle.std.specs.Prelude.{◌≡◌, ℕ, Bool, true, false, List, ◌∷◌, ◌++◌, nat_lt, Some}
use Rattle.pm_device.specs.Held.{Held}
use Rattle.pm_host.specs.Summary.{host_next, step_of}
use Rattle.pm_host.specs.Transcript.{Entry}
use Rattle.pm_limits.specs.declared.part_registers.PartRegisters.{PartRegisters}
use Rattle.pm_limits.specs.Guard.{Guarded}
use Rattle.pm_course.specs.declared.frame_course.FrameCourse.{FrameCourse}
use Rattle.pm_world.specs.declared.event.Event.{Event}
use Rattle.pm_world.specs.Ended.{begins_other}
use Rattle.pm_world.specs.State.{share_of}
use Rattle.pm_part_laws.specs.Happenings.{Happening, Happens, beside}
use Rattle.pm_course_laws.specs.FrameLives.{goes_on}
use Rattle.pm_course_laws.specs.FramesBeside.{HandedBeside, IsFrameCourseBeside}
use Rattle.pm_memory.specs.declared.course_image.CourseImage.{CourseImage}
use Rattle.pm_memory.specs.declared.guard_image.GuardImage.{GuardImage}
use Rattle.pm_memory.specs.declared.sending_image.SendingImage.{SendingImage}
use Rattle.pm_memory.specs.CourseImage.{course_image}
use Rattle.pm_memory.specs.Guard.{guard_of}
use Rattle.pm_memory.specs.declared.host_step.HostStep.{HostStep}
use Rattle.pm_memory.specs.Course.{AreBoth, HandsOutIn, HearsIn, HearsOnIn}

-- the memories mean the host beside a part and a course of one of its outputs
pub record AreOf (held : Held) (passes : ℕ) (part : PartRegisters) (happened : List Happening) (host : GuardImage) (course : CourseImage)
    (g : Guarded) (c : FrameCourse) : Type 0 where
  pub both : AreBoth host course g c
  pub life : g.host ≡ (beside held passes happened).host
  pub registers : g.registers ≡ part

-- a call answers how the job stands, and no refusal
abbrev pub call_is_answered : HostStep → Bool
call_is_answered step = nat_lt step.kind 5

-- after a call that hands out a frame
pub record StepsOn (held : Held) (passes : ℕ) (part : PartRegisters) (begun : FrameCourse) (before : List Happening) (own : Bool)
    (later : List Happening) (g : Guarded) (new : GuardImage) (is : CourseImage) : Type 0 where
  pub next : Guarded
  pub after : FrameCourse
  pub host : guard_of new ≡ Some next
  pub course : is ≡ course_image after
  pub handed : HandedBeside held passes part begun before own later g next after

-- after one that is told what became of a frame, which the event says
pub record StepsTold (held : Held) (passes : ℕ) (part : PartRegisters) (begun : FrameCourse) (before : List Happening) (event : Event)
    (later : List Happening) (entry : Entry) (g : Guarded) (new : GuardImage) (is : CourseImage) : Type 0 where
  pub next : Guarded
  pub after : FrameCourse
  pub host : guard_of new ≡ Some next
  pub told : next.host ≡ host_next g.host entry
  pub registers : next.registers ≡ g.registers
  pub course : is ≡ course_image after
  pub goes : IsFrameCourseBeside held passes part begun before after (goes_on (step_of g.host entry)) (Happens event ∷ later)

-- after one that is told it and hands out a frame, by the host in between
pub record StepsToldOn (held : Held) (passes : ℕ) (part : PartRegisters) (begun : FrameCourse) (before : List Happening) (event : Event)
    (later : List Happening) (entry : Entry) (g : Guarded) (new : GuardImage) (is : CourseImage) : Type 0 where
  pub between : Guarded
  pub told : between.host ≡ host_next g.host entry
  pub steps : StepsOn held passes part begun before (goes_on (step_of g.host entry)) (Happens event ∷ later) between new is

pub record ExportsAreStepsBeside : Type 0 where
  pub frames : (held : Held) (passes : ℕ) (part : PartRegisters) (begun c : FrameCourse) (own : Bool) (later before : List Happening)
      (g : Guarded) (old new : GuardImage) (was is : CourseImage) (number : ℕ) (sending : SendingImage) →
      IsFrameCourseBeside held passes part begun before c own later → AreOf held passes part (later ++ before) old was g c →
      HandsOutIn old was number new is sending → StepsOn held passes part begun before own later g new is
  pub told : (held : Held) (passes : ℕ) (part : PartRegisters) (begun c : FrameCourse) (later before : List Happening)
      (g : Guarded) (old new : GuardImage) (was is : CourseImage) (event : Event) (entry : Entry) (step : HostStep) →
      IsFrameCourseBeside held passes part begun before c true later → AreOf held passes part (later ++ before) old was g c →
      begins_other event ≡ false → (share_of (beside held passes (later ++ before)) event).told ≡ Some entry →
      call_is_answered step ≡ true → HearsIn old was entry step new is →
      StepsTold held passes part begun before event later entry g new is
  pub told_on : (held : Held) (passes : ℕ) (part : PartRegisters) (begun c : FrameCourse) (later before : List Happening)
      (g : Guarded) (stops : Bool) (old new : GuardImage) (was is : CourseImage) (event : Event) (entry : Entry) (step : HostStep)
      (sending : SendingImage) →
      IsFrameCourseBeside held passes part begun before c true later → AreOf held passes part (later ++ before) old was g c →
      begins_other event ≡ false →
      (share_of (beside held passes (later ++ before)) event).told ≡ Some entry →
      call_is_answered step ≡ true → HearsOnIn stops old was entry step new is sending →
      StepsToldOn held passes part begun before event later entry g new is
