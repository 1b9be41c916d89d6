-- What is seen of a guard, and what a sequence hands out and hears.
use Rattle.std.specs.Prelude.{option_map, Ok, Err, IsSomeAnd, MatchOption, nat_lt}
use Rattle.std.proofs.Common.{◌≡◌, ◌∙◌, Bool, true, Option, Some, None, refl, sym, subst}
use Rattle.pm_host.specs.{Refusals.may_come, Told.entry_told, Transcript.Entry, declared.fault.Untold.Untold, declared.host.Told.Told}
use Rattle.pm_host.specs.{declared.stage.Stage.Stage}
use Rattle.pm_host.specs.Summary.{Summary, stage_message}
use Rattle.pm_limits.specs.{declared.output_limits.OutputLimits.OutputLimits, declared.part_registers.PartRegisters.PartRegisters}
use Rattle.pm_limits.specs.Guard.{Guarded, limits_at}
use Rattle.pm_course.specs.{Hosted.IsSentAt, declared.frame_course.FrameCourse.FrameCourse, declared.frames.Sending.Sending}
use Rattle.pm_course.specs.{declared.hosted.Heard.Heard}
use Rattle.pm_course.specs.Frames as course
use Rattle.pm_course.specs.Frames.{Hears as CourseHears, IsSendingOf}
use Rattle.pm_stairs.specs.{OpenCourse.course_open, Sequence.heard_with, declared.stairs.Under.Under}
use Rattle.pm_delivery.specs.declared.delivery.Delivery.{Delivery}
use Rattle.pm_sequence.specs.declared.sequence.Sequence.{Sequence}
use Rattle.pm_sequence.specs.Frames as it
use Rattle.pm_sequence.specs.Frames.{Hears, HearsAt, list_heard, shows_restart, shows_restart_at}
use Rattle.pm_sequence.specs.Lowers.{lowers, lowers_at}
use Rattle.pm_sequence.specs.Sequence.{delivery_due_by, due_in, delivery_verdict_by, verdict_in}

-- What a sequence hands out and hears, by the stage at which a host's job stands.

-- the frame of a stage is that of its message, and none is sent where no job stands anywhere
abbrev pub IsSentBy : Guarded → Option Sending → Option Stage → Type 0
IsSentBy g sent at = MatchOption (option_map stage_message at) (sent ≡ None) (λ message. IsSomeAnd sent (IsSendingOf g.host.setup.addr message))

pub sent-by : (g : Guarded) (sent : Option Sending) (at : Option Stage) → IsSentAt g at sent → IsSentBy g sent at
sent-by g sent None s = s
sent-by g sent (Some stage) s = s

-- ---- What isn't heard changes nothing ----

pub unheard : (old : Guarded) (was : Sequence) (entry : Entry) (named : FrameCourse) (why : Untold) → course_open was.list.stairs ≡ Some named
    → CourseHears old named entry (Err why) old named → Hears old was entry (Err why) old was
unheard old was entry named why opens hears = it.unheard named why opens hears

pub shown-at : (c : FrameCourse) (g : Guarded) (stage : Stage) (t : Told) → g.host.stage ≡ Some stage
    → shows_restart_at c g.host stage (entry_told t) ≡ shows_restart c g (entry_told t)
shown-at c g stage t is = rw is refl

-- ---- What is heard ----

pub hears-told : (old new : Guarded) (was is : Sequence) (stage : Stage) (t : Told) (result : Heard) (named : FrameCourse)
    → course_open was.list.stairs ≡ Some named → old.host.stage ≡ Some stage → may_come old.host (entry_told t) ≡ true
    → HearsAt old was stage (entry_told t) result new is → Hears old was (entry_told t) (Ok tt) new is
hears-told old new was _ stage t result named opens opened comes (it.course by heard from tells) =
    subst (λ (b : Bool). Hears old was (entry_told t) (Ok tt) new (list_heard was (entry_told t) (heard_with was.list heard b)))
    (sym (shown-at by old stage t opened)) (it.heard by heard new from
    (subst (λ (after : FrameCourse). CourseHears old by (entry_told t) (Ok tt) new after) (sym tells.heard)
    (course.heard stage new opened comes tells.after tells.limits tells.registers)))
hears-told old new was _ stage t result named opens opened comes (it.alone none tells) = let wrong : Some named ≡ None = sym opens ∙ none in cc

-- What is seen of a guard is what it is.

module _ (g : Guarded) (part : PartRegisters) (limits : OutputLimits) (s : Summary) (d : Delivery) where
  pub due-seen : part ≡ g.registers → limits ≡ limits_at g d.output → s ≡ g.host → nat_lt d.output 8 ≡ true
      → delivery_due_by part limits s d ≡ due_in g d
  due-seen part_is limits_is s_is small = rw (part_is, limits_is, s_is, small) refl

  pub verdict-seen : part ≡ g.registers → limits ≡ limits_at g d.output → s ≡ g.host → nat_lt d.output 8 ≡ true
      → delivery_verdict_by part limits s d ≡ verdict_in g d
  verdict-seen part_is limits_is s_is small = rw (part_is, limits_is, s_is, small) refl

pub lowers-seen : (g : Guarded) (part : PartRegisters) (s : Summary) (under : Under) → part ≡ g.registers → s ≡ g.host
    → nat_lt under.step.output 8 ≡ true → lowers_at part s under.step.output under.step.act ≡ lowers g (Some under)
lowers-seen g part s under part_is s_is small = rw (part_is, s_is, small) refl
