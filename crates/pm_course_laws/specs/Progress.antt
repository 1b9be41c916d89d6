-- How a course that hands out frames ends, while nothing disturbs these: this project's own choice. Lists are newest first.
use Rattle.std.specs.Prelude.{Bool, List, None, Some, [], false, true, ℕ, ◌++◌, ◌+◌, ◌<◌, ◌∷◌, ◌≡◌, ◌≤◌}
use Rattle.pm_device.specs.declared.config.Config.{Config}
use Rattle.pm_limits.specs.declared.part_registers.PartRegisters.{PartRegisters}
use Rattle.pm_limits.specs.declared.output_limits.OutputLimits.{OutputLimits}
use Rattle.pm_limits.specs.Guard.{guard_fault, limits_at}
use Rattle.pm_device.specs.Held.{Held}
use Rattle.pm_limits.specs.Part.{all_registers, has_register}
use Rattle.pm_table.specs.declared.cell.Cell.TheVariants.{Out, Protect}
use Rattle.pm_table.specs.declared.reg.Reg.TheVariants.{Operation}
use Rattle.pm_table.specs.Cell.{cell_code}
use Rattle.pm_table.specs.Operation.{has_on, selected_register}
use Rattle.pm_table.specs.Protection.{is_allowed}
use Rattle.pm_model.specs.Settings.{word_at}
use Rattle.pm_course.specs.declared.course_end.CourseEnd.TheVariants.{Reached}
use Rattle.pm_world.specs.declared.event.Event.{Event}
use Rattle.pm_world.specs.Life.{now}
use Rattle.pm_course_laws.specs.Chains.{EndsBy, FitsPart, IsAskedFor, IsSwitched, Pair, byte_tries, held_fault, tries_for, output_words_of}
use Rattle.pm_frame.specs.Layout.{is_read_message}
use Rattle.pm_host.specs.declared.job.Job.{Job as Asked}
use Rattle.pm_host.specs.declared.stage.Stage.{Stage}
use Rattle.pm_host.specs.Refusals.{is_busy}
use Rattle.pm_host.specs.Summary.{stage_message, step_of}
use Rattle.pm_host.specs.Transcript.{Entry, Finished}
use Rattle.pm_rail.specs.declared.apply_end.ApplyEnd.{ApplyEnd}
use Rattle.pm_rail.specs.declared.wanted.Wanted.{Wanted}
use Rattle.pm_rail.specs.Course.{course_of}
use Rattle.pm_rail.specs.Registers.{Wants, wants_of}
use Rattle.pm_course.specs.declared.course_end.CourseEnd.{CourseEnd}
use Rattle.pm_course.specs.declared.course_end.CourseNext.TheVariants.{Ended, Job}
use Rattle.pm_course.specs.declared.frame_course.FrameCourse.{FrameCourse}
use Rattle.pm_course.specs.declared.voltages.Voltages.{Voltages}
use Rattle.pm_course.specs.Ends.{end_of}
use Rattle.pm_course.specs.FrameCourse.{SaysNext, going_on, last_end, to_byte, to_survey}
use Rattle.pm_course.specs.Heard.{heard_by}
use Rattle.pm_course.specs.Surprise.{surprises}
use Rattle.pm_course.specs.Wishes.{missing_in}
use Rattle.pm_world.specs.declared.event.Arrival.TheVariants.{Whole}
use Rattle.pm_world.specs.declared.event.Event.TheVariants.{Deliver, Exchange, Finish}
use Rattle.pm_world.specs.Honest.{IsSpelled}
use Rattle.pm_world.specs.Job.{asked_by}
use Rattle.pm_world.specs.Lived.{IsLived}
use Rattle.pm_world.specs.State.{share_of}
use Rattle.pm_course_laws.specs.FrameLives.{IsFrameCourse, Means, goes_on}
use Rattle.pm_world.specs.declared.event.Back.TheVariants as back
use Rattle.pm_course_laws.specs.Reached.{ReadsStand}

-- a guard and a converter at a moment of a life
abbrev pub pair_at : PartRegisters → List OutputLimits → Config → ℕ → List Event → Pair
pair_at part limits config passes events = record {
  guard = record { host = (now config passes events).host; limits = limits; registers = part };
  held = (now config passes events).device;
}

-- How a course stands that nothing disturbs, whether its job is open, and how many jobs it began. It is asked what is next while no job of
-- its own is open, and the host is asked for that (`asks`). Each write of its job is heard once, whole, and is acknowledged (`writes`). Each request
-- is heard whole, and the converter's answer comes back (`reads`). Both are told to it and to the host.
pub data IsUndisturbed (config : Config) (passes : ℕ) (part : PartRegisters) (limits : List OutputLimits) (begun : FrameCourse)
    (before : List Event) : FrameCourse → Bool → ℕ → List Event → Type 0 where
  begins : IsUndisturbed config passes part limits begun before begun false 0 []
  asks : (c is : FrameCourse) (n : ℕ) (later : List Event) (event : Event) (job : Asked) →
      IsUndisturbed config passes part limits begun before c false n later →
      SaysNext part (limits_at (pair_at part limits config passes (later ++ before)).guard c.course.survey.output)
      (now config passes (later ++ before)).host c (Job job) is → asked_by event ≡ Some job →
      IsUndisturbed config passes part limits begun before is true (n + 1) (event ∷ later)
  writes : (c : FrameCourse) (n : ℕ) (later : List Event) (stage : Stage) →
      IsUndisturbed config passes part limits begun before c true n later →
      (now config passes (Deliver Whole ∷ later ++ before)).host.stage ≡ Some stage → is_read_message (stage_message stage) ≡ false →
      IsUndisturbed config passes part limits begun before
      (heard_by c (now config passes (Deliver Whole ∷ later ++ before)).host.setup.addr stage (Finished true)
      (surprises (now config passes (Deliver Whole ∷ later ++ before)).host stage (Finished true))
      (step_of (now config passes (Deliver Whole ∷ later ++ before)).host (Finished true)))
      (goes_on (step_of (now config passes (Deliver Whole ∷ later ++ before)).host (Finished true))) n
      (Finish true ∷ Deliver Whole ∷ later)
  reads : (c : FrameCourse) (n : ℕ) (later : List Event) (stage : Stage) (entry : Entry) →
      IsUndisturbed config passes part limits begun before c true n later →
      (now config passes (later ++ before)).host.stage ≡ Some stage → is_read_message (stage_message stage) ≡ true →
      (share_of (now config passes (later ++ before)) (Exchange Whole back.Whole)).told ≡ Some entry →
      IsUndisturbed config passes part limits begun before
      (heard_by c (now config passes (later ++ before)).host.setup.addr stage entry
      (surprises (now config passes (later ++ before)).host stage entry) (step_of (now config passes (later ++ before)).host entry))
      (goes_on (step_of (now config passes (later ++ before)).host entry)) n (Exchange Whole back.Whole ∷ later)

-- an end of the way, and the end that the course says of it
pub record EndsSo (output : ℕ) (wanted : Wanted) (old new : Pair) (c : FrameCourse) (end : CourseEnd) : Type 0 where
  pub way : ApplyEnd
  pub says : end ≡ end_of c.fault way
  pub ends : EndsBy output (wants_of wanted) old way new (held_fault (limits_at old.guard output) old.held output (wants_of wanted))

-- A course to wishes gets there from one moment to another. It begins no more jobs than so many (`few`). While its job is open that has a
-- frame to send (`sends`). While none is, either it says a job, which is not one too many and which neither the host nor a limit refuses
-- (`free`), or it has ended. What the converter held at the first moment decides the end (`ends`): it is Reached, each wanted word is held
-- and the output commands what is wanted, or it is that refusal, and no word moved.
pub record GetsThere (output : ℕ) (wanted : Wanted) (most : ℕ) (old new : Pair) (c : FrameCourse) (own : Bool) (n : ℕ) : Type 0 where
  pub few : n ≤ most
  pub sends : own ≡ true → is_busy new.guard.host ≡ true
  pub free : own ≡ false → (is : FrameCourse) (job : Asked) →
      SaysNext new.guard.registers (limits_at new.guard c.course.survey.output) new.guard.host c (Job job) is →
      (n + 1 ≤ most) × (guard_fault new.guard job ≡ None)
  pub ends : own ≡ false → (is : FrameCourse) (end : CourseEnd) →
      SaysNext new.guard.registers (limits_at new.guard c.course.survey.output) new.guard.host c (Ended end) is →
      EndsSo output wanted old new c end

-- A course to a byte of OPERATION gets there from one moment to another. It begins no more jobs than so many (`few`), and its open job has a
-- frame to send (`sends`). While none is open, either it says a job, which is not one too many and which nothing refuses, unless it is the
-- order of the byte, before any word moved (`free`); or it has ended Reached, with the byte in OPERATION and each other word as it was
-- (`ends`).
pub record GetsSwitched (output byte most : ℕ) (old new : Pair) (c : FrameCourse) (own : Bool) (n : ℕ) : Type 0 where
  pub few : n ≤ most
  pub sends : own ≡ true → is_busy new.guard.host ≡ true
  pub free : own ≡ false → (is : FrameCourse) (job : Asked) →
      SaysNext new.guard.registers (limits_at new.guard c.course.survey.output) new.guard.host c (Job job) is →
      (n + 1 ≤ most) × IsAskedFor output byte old new job
  pub ends : own ≡ false → (is : FrameCourse) (end : CourseEnd) →
      SaysNext new.guard.registers (limits_at new.guard c.course.survey.output) new.guard.host c (Ended end) is →
      (end ≡ Reached) × IsSwitched output byte old new

-- A survey gets there from one moment to another. It begins no more jobs than so many (`few`), and its open job has a frame to send
-- (`sends`). While none is open, either it says a job, which is not one too many and which nothing refuses (`free`), or it has ended
-- Reached, and no word moved (`ends`).
pub record GetsRead (most : ℕ) (old new : Pair) (c : FrameCourse) (own : Bool) (n : ℕ) : Type 0 where
  pub few : n ≤ most
  pub sends : own ≡ true → is_busy new.guard.host ≡ true
  pub free : own ≡ false → (is : FrameCourse) (job : Asked) →
      SaysNext new.guard.registers (limits_at new.guard c.course.survey.output) new.guard.host c (Job job) is →
      (n + 1 ≤ most) × (guard_fault new.guard job ≡ None)
  pub ends : own ≡ false → (is : FrameCourse) (end : CourseEnd) →
      SaysNext new.guard.registers (limits_at new.guard c.course.survey.output) new.guard.host c (Ended end) is →
      (end ≡ Reached) × (new.held.words ≡ old.held.words)

-- A course to wishes gets there from any moment of any life at which the host is idle, whatever that knew, to a part that has what is
-- wanted.
abbrev pub BeginsThere : Type 0
BeginsThere = (config : Config) (passes : ℕ) (part : PartRegisters) (limits : List OutputLimits) (output : ℕ) (words wanted : Wanted)
    (voltages : Voltages) (tries : ℕ) (c : FrameCourse) (own : Bool) (n : ℕ) (later before : List Event) →
    IsSpelled config → IsLived config passes (later ++ before) → output < config.count → Means config output words voltages wanted →
    is_busy (now config passes before).host ≡ false → missing_in part words voltages ≡ None →
    FitsPart part (now config passes before).device output (wants_of wanted) →
    tries_for (limits_at (pair_at part limits config passes before).guard output) (now config passes before).device output (wants_of wanted) ≤ tries →
    IsUndisturbed config passes part limits (going_on (course_of output words tries) voltages) before c own n later →
    GetsThere output wanted
    (tries_for (limits_at (pair_at part limits config passes before).guard output) (now config passes before).device output (wants_of wanted))
    (pair_at part limits config passes before) (pair_at part limits config passes (later ++ before)) c own n

-- A course that began earlier gets there from any moment on at which no job is open and it has 28 tries left, has no end and no order
-- differed twice, if the converter didn't restart since the answers that its survey counts as read.
abbrev pub GoesThere : Type 0
GoesThere = (config : Config) (passes : ℕ) (part : PartRegisters) (limits : List OutputLimits) (output : ℕ) (words wanted : Wanted)
    (voltages : Voltages) (tries : ℕ) (begun c : FrameCourse) (own mine : Bool) (n : ℕ) (later earlier before : List Event) →
    IsSpelled config → IsLived config passes (later ++ (earlier ++ before)) → output < config.count → Means config output words voltages wanted →
    IsFrameCourse config passes part (going_on (course_of output words tries) voltages) before begun mine earlier →
    is_busy (now config passes (earlier ++ before)).host ≡ false → last_end begun.end ≡ None → begun.course.twice ≡ None →
    28 ≤ begun.course.survey.left → ReadsStand config passes begun.course.survey (earlier ++ before) → missing_in part words voltages ≡ None →
    FitsPart part (now config passes (earlier ++ before)).device output (wants_of wanted) →
    IsUndisturbed config passes part limits begun (earlier ++ before) c own n later →
    GetsThere output wanted 28 (pair_at part limits config passes (earlier ++ before))
    (pair_at part limits config passes (later ++ (earlier ++ before))) c own n

-- A course to a byte gets there from any moment of any life at which the host is idle, if WRITE_PROTECT allows OPERATION and the part has
-- the register that is selected by a byte which leaves the output on.
abbrev pub SwitchesThere : Type 0
SwitchesThere = (config : Config) (passes : ℕ) (part : PartRegisters) (limits : List OutputLimits) (output byte tries : ℕ)
    (c : FrameCourse) (own : Bool) (n : ℕ) (later before : List Event) →
    IsSpelled config → IsLived config passes (later ++ before) → output < config.count →
    is_busy (now config passes before).host ≡ false → (has_on byte ≡ true → has_register part (selected_register byte) ≡ true) →
    is_allowed (word_at (now config passes before).device.words Protect) (cell_code (Out output Operation)) ≡ true →
    byte_tries (now config passes before).device output byte ≤ tries →
    IsUndisturbed config passes part limits (to_byte output byte tries) before c own n later →
    GetsSwitched output byte (byte_tries (now config passes before).device output byte) (pair_at part limits config passes before)
    (pair_at part limits config passes (later ++ before)) c own n

-- A survey gets there from any moment of any life at which the host is idle, if the part has the register that OPERATION selects.
abbrev pub SurveysThere : Type 0
SurveysThere = (config : Config) (passes : ℕ) (part : PartRegisters) (limits : List OutputLimits) (output tries : ℕ) (c : FrameCourse)
    (own : Bool) (n : ℕ) (later before : List Event) → IsSpelled config → IsLived config passes (later ++ before) → output < config.count →
    is_busy (now config passes before).host ≡ false →
    has_register part (selected_register (output_words_of (now config passes before).device output Operation)) ≡ true → 10 ≤ tries →
    IsUndisturbed config passes part limits (to_survey output tries) before c own n later →
    GetsRead 10 (pair_at part limits config passes before) (pair_at part limits config passes (later ++ before)) c own n

-- In each life: a course to wishes as it begins (`begins`) and from the middle (`goes_on`), where a part with every register has what is wanted
-- (`whole`); one to a byte of OPERATION (`switches`); and a survey (`surveys`).
pub record FrameCoursesGetThere : Type 0 where
  pub begins : BeginsThere
  pub goes_on : GoesThere
  pub switches : SwitchesThere
  pub surveys : SurveysThere
  pub whole : (words : Wanted) (voltages : Voltages) (held : Held) (output : ℕ) (wants : Wants) →
      (missing_in all_registers words voltages ≡ None) × FitsPart all_registers held output wants
