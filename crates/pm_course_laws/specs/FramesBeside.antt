-- A course that hands out frames, beside a part as it is, while anybody reads the part: this project's own choice. Lists are newest first.
use Rattle.std.specs.Prelude.{◌≡◌, ◌⊎◌, ◌<◌, ℕ, Bool, true, false, not, ◌&&◌, List, [], ◌∷◌, ◌++◌, Option, Some, None, Ok}
use Rattle.std.specs.List.{list_any}
use Rattle.pm_num.specs.Ratio.{Ratio}
use Rattle.pm_table.specs.declared.reg.Reg.{Reg}
use Rattle.pm_table.specs.declared.reg.Reg.TheVariants.{Operation}
use Rattle.pm_table.specs.Operation.{has_on}
use Rattle.pm_device.specs.declared.converter.Ending.{Ending}
use Rattle.pm_device.specs.Held.{Held, shape_for, value_for}
use Rattle.pm_host.specs.declared.job.Job.{Job as Asked}
use Rattle.pm_host.specs.declared.stage.Stage.{Stage}
use Rattle.pm_host.specs.Refusals.{is_busy}
use Rattle.pm_host.specs.Summary.{step_of}
use Rattle.pm_host.specs.Transcript as host
use Rattle.pm_limits.specs.declared.part_registers.PartRegisters.{PartRegisters}
use Rattle.pm_limits.specs.declared.output_limits.OutputLimits.{OutputLimits}
use Rattle.pm_limits.specs.Guard.{Guarded, LetsBegin, guard_fault, limits_at}
use Rattle.pm_rail.specs.declared.next.Next.TheVariants as said
use Rattle.pm_rail.specs.declared.wanted.Wanted.{Wanted}
use Rattle.pm_rail.specs.Course.{course_of, next_of}
use Rattle.pm_rail.specs.Laws.{IsStep}
use Rattle.pm_rail.specs.Plan.{commands_by, goal_of, put}
use Rattle.pm_rail.specs.Registers.{wants_of}
use Rattle.pm_course.specs.declared.course_end.CourseEnd.{CourseEnd}
use Rattle.pm_course.specs.declared.course_end.CourseEnd.TheVariants.{Reached}
use Rattle.pm_course.specs.declared.course_end.CourseNext.TheVariants.{Job, Ended}
use Rattle.pm_course.specs.declared.course_end.Refusal.{Refusal}
use Rattle.pm_course.specs.declared.frame_course.FrameCourse.{FrameCourse}
use Rattle.pm_course.specs.declared.frames.Sending.{Sending}
use Rattle.pm_course.specs.declared.voltages.Voltages.{Voltages}
use Rattle.pm_course.specs.FrameCourse.{SaysNext, going_on, last_end, refused_by, to_byte, to_survey, with_plan}
use Rattle.pm_course.specs.Frames.{HandsOut, Hears as HearsOf}
use Rattle.pm_course.specs.Heard.{heard_by}
use Rattle.pm_course.specs.Surprise.{surprises}
use Rattle.pm_course.specs.Wishes.{meant_faults}
use Rattle.pm_world.specs.declared.event.Event.{Event}
use Rattle.pm_world.specs.Bands.{HoldsMissing}
use Rattle.pm_world.specs.Courses.{IsBeside, IsNoOrder}
use Rattle.pm_world.specs.Ended.{begins_other}
use Rattle.pm_world.specs.Job.{asked_by}
use Rattle.pm_world.specs.State.{asked, share_of}
use Rattle.pm_part_laws.specs.Happenings.{EachAsks, Happening, Happens, Hears, IsLifeBeside, beside, restarts}
use Rattle.pm_part_laws.specs.OwnWords.{commands_beside}
use Rattle.pm_part_laws.specs.Surveys.{MissingUnreadBeside, held_at_beside}
use Rattle.pm_course_laws.specs.FrameLives.{IsHad, MaySay, Means, goes_on}

-- How a course stands beside a part: as `IsFrameCourse` says of a life. Bytes that are heard and are no job's leave it as it is (`looks`).
pub data IsFrameCourseBeside (held : Held) (passes : ℕ) (part : PartRegisters) (begun : FrameCourse)
    (before : List Happening) : FrameCourse → Bool → List Happening → Type 0 where
  begins : IsFrameCourseBeside held passes part begun before begun false []
  over : (limits : OutputLimits) (c is : FrameCourse) (own : Bool) (later : List Happening) (end : CourseEnd) →
      IsFrameCourseBeside held passes part begun before c own later →
      SaysNext part limits (beside held passes (later ++ before)).host c (Ended end) is →
      IsFrameCourseBeside held passes part begun before is own later
  refused : (limits : OutputLimits) (c is : FrameCourse) (own : Bool) (later : List Happening) (job : Asked) (number : ℕ) →
      IsFrameCourseBeside held passes part begun before c own later →
      SaysNext part limits (beside held passes (later ++ before)).host c (Job job) is →
      IsFrameCourseBeside held passes part begun before (refused_by c number job) own later
  asks : (limits : OutputLimits) (c is : FrameCourse) (own : Bool) (later : List Happening) (event : Event) (job : Asked) →
      IsFrameCourseBeside held passes part begun before c own later →
      SaysNext part limits (beside held passes (later ++ before)).host c (Job job) is → asked_by event ≡ Some job →
      IsFrameCourseBeside held passes part begun before is true (Happens event ∷ later)
  hears : (c : FrameCourse) (later : List Happening) (event : Event) (stage : Stage) (entry : host.Entry) →
      IsFrameCourseBeside held passes part begun before c true later → begins_other event ≡ false →
      (beside held passes (later ++ before)).host.stage ≡ Some stage →
      (share_of (beside held passes (later ++ before)) event).told ≡ Some entry →
      IsFrameCourseBeside held passes part begun before
      (heard_by c (beside held passes (later ++ before)).host.setup.addr stage entry
      (surprises (beside held passes (later ++ before)).host stage entry) (step_of (beside held passes (later ++ before)).host entry))
      (goes_on (step_of (beside held passes (later ++ before)).host entry)) (Happens event ∷ later)
  besides : (c : FrameCourse) (own : Bool) (later : List Happening) (event : Event) →
      IsFrameCourseBeside held passes part begun before c own later →
      IsBeside part begun.course.survey.output (asked (beside held passes (later ++ before)) event) →
      IsFrameCourseBeside held passes part begun before c (own && not (begins_other event)) (Happens event ∷ later)
  looks : (c : FrameCourse) (own : Bool) (later : List Happening) (bytes : List ℕ) (ending : Ending) →
      IsFrameCourseBeside held passes part begun before c own later →
      IsFrameCourseBeside held passes part begun before c own (Hears bytes ending ∷ later)

-- What a call that hands out a frame leads on to, by a guard whose host is that beside the part: nothing begins, or the guard begins the
-- job that the course says, which is asked for by the next event.
pub data HandedBeside (held : Held) (passes : ℕ) (part : PartRegisters) (begun : FrameCourse) (before : List Happening) (own : Bool)
    (later : List Happening) (g new : Guarded) (is : FrameCourse) : Type 0 where
  stays : new ≡ g → IsFrameCourseBeside held passes part begun before is own later → HandedBeside held passes part begun before own later g new is
  begins_job : (job : Asked) → LetsBegin g job (Ok tt) new →
      ((event : Event) → asked_by event ≡ Some job → IsFrameCourseBeside held passes part begun before is true (Happens event ∷ later)) →
      HandedBeside held passes part begun before own later g new is

-- A course began while the host was idle, and the part didn't restart since. The host had no good answer for a register that the part
-- doesn't have; of a part with every register that says nothing.
pub record BeginsBeside (held : Held) (passes : ℕ) (part : PartRegisters) (begun c : FrameCourse) (own : Bool)
    (later before : List Happening) : Type 0 where
  pub here : begun.course.survey.output < held.config.count
  pub idle : is_busy (beside held passes before).host ≡ false
  pub untold : MissingUnreadBeside held passes part begun.course.survey.output before
  pub steady : list_any restarts later ≡ false
  pub is_course : IsFrameCourseBeside held passes part begun before c own later

-- what an output commands where each of its registers has the word that is wanted of it, and otherwise the one that it held then; and where
-- OPERATION has this byte
abbrev pub goal_at_beside : Held → ℕ → ℕ → Wanted → List Happening → Ratio
goal_at_beside held passes output wanted happened =
    commands_by (value_for held.config output) (goal_of (held_at_beside held passes happened output) (wants_of wanted))

abbrev pub power_goal_at_beside : Held → ℕ → ℕ → ℕ → List Happening → Ratio
power_goal_at_beside held passes output byte happened =
    commands_by (value_for held.config output) (put (held_at_beside held passes happened output) Operation byte)

-- each register of the output keeps its word
abbrev pub KeepsWords : Held → ℕ → ℕ → List Happening → List Happening → Type 0
KeepsWords held passes output later before = (register : Reg) →
    held_at_beside held passes (later ++ before) output register ≡ held_at_beside held passes before output register

-- A course to wishes beside a part. Each job that it says is the one that its way to the wished words names (`names`), which no limit and no
-- host refuses (`free`). Of any two moments, the output commands at the later one what it commands at the earlier one, or what is wanted
-- (`steps`), and a register of which no word is wanted keeps its word (`kept`). Where the course comes to the end `Reached`, the part holds
-- each wanted word (`come_true`) and the output commands what is wanted (`commanded`). Until an order of its output is asked for, each
-- register keeps its word (`untouched`).
pub record KeepsCourseBeside (held : Held) (passes : ℕ) (part : PartRegisters) (output : ℕ) (wanted : Wanted) (c : FrameCourse)
    (later before : List Happening) : Type 0 where
  pub names : (limits : OutputLimits) (is : FrameCourse) (job : Asked) →
      SaysNext part limits (beside held passes (later ++ before)).host c (Job job) is →
      next_of part limits (beside held passes (later ++ before)).host (with_plan c.course (Some wanted)) ≡ said.Job job
  pub free : (g : Guarded) (is : FrameCourse) (job : Asked) → g.host ≡ (beside held passes (later ++ before)).host → g.registers ≡ part →
      SaysNext part (limits_at g output) (beside held passes (later ++ before)).host c (Job job) is → guard_fault g job ≡ None
  pub steps : HoldsMissing part held.config (beside held passes before).device.words output →
      (rest newer older : List Happening) → later ≡ rest ++ (newer ++ older) →
      IsStep (goal_at_beside held passes output wanted before)
      (commands_beside held passes (older ++ before) output) (commands_beside held passes ((newer ++ older) ++ before) output)
  pub kept : HoldsMissing part held.config (beside held passes before).device.words output → (register : Reg) →
      wants_of wanted register ≡ None →
      held_at_beside held passes (later ++ before) output register ≡ held_at_beside held passes before output register
  pub come_true : HoldsMissing part held.config (beside held passes before).device.words output → (limits : OutputLimits) (is : FrameCourse)
      (register : Reg) (word : ℕ) → last_end c.end ≡ None →
      SaysNext part limits (beside held passes (later ++ before)).host c (Ended Reached) is → wants_of wanted register ≡ Some word →
      held_at_beside held passes (later ++ before) output register ≡ word
  pub commanded : HoldsMissing part held.config (beside held passes before).device.words output → (limits : OutputLimits) (is : FrameCourse) →
      last_end c.end ≡ None → SaysNext part limits (beside held passes (later ++ before)).host c (Ended Reached) is →
      commands_beside held passes (later ++ before) output ≡ goal_at_beside held passes output wanted before
  pub untouched : EachAsks (IsNoOrder output) held passes later before → KeepsWords held passes output later before

-- A course to a byte of OPERATION beside a part. Of any two moments, each register of the output holds at the later one what it holds at the
-- earlier one, or OPERATION the byte (`words`), so that the output commands what it commands at the earlier one, or what it commands with
-- that byte (`steps`). Where the course comes to the end `Reached`, OPERATION holds the byte (`come_true`).
pub record KeepsByteBeside (held : Held) (passes : ℕ) (part : PartRegisters) (output byte : ℕ) (c : FrameCourse)
    (later before : List Happening) : Type 0 where
  pub words : (register : Reg) (rest newer older : List Happening) → later ≡ rest ++ (newer ++ older) →
      (held_at_beside held passes ((newer ++ older) ++ before) output register
      ≡ held_at_beside held passes (older ++ before) output register)
      ⊎ ((register ≡ Operation) × (held_at_beside held passes ((newer ++ older) ++ before) output register ≡ byte))
  pub steps : (rest newer older : List Happening) → later ≡ rest ++ (newer ++ older) →
      IsStep (power_goal_at_beside held passes output byte before)
      (commands_beside held passes (older ++ before) output) (commands_beside held passes ((newer ++ older) ++ before) output)
  pub come_true : (limits : OutputLimits) (is : FrameCourse) → last_end c.end ≡ None →
      SaysNext part limits (beside held passes (later ++ before)).host c (Ended Reached) is →
      held_at_beside held passes (later ++ before) output Operation ≡ byte
  pub untouched : EachAsks (IsNoOrder output) held passes later before → KeepsWords held passes output later before

-- Beside any part: a course to wishes that have words in the output's format (`words`), one to wishes of which one has none (`unformed`),
-- one to nothing (`surveys`), one to a byte that turns the output off (`off`), and one to a byte that leaves it on, which orders nothing
-- but the byte, once WRITE_PROTECT was read and allows it (`on`, `says`). The last asks that nothing is checked that the part doesn't have,
-- as a guard asks for none. What the calls of a course do is what its way is made of (`hands`, `tells`).
pub record FrameCoursesHoldBeside : Type 0 where
  pub words : (held : Held) (passes : ℕ) (part : PartRegisters) (output : ℕ) (words wanted : Wanted) (voltages : Voltages)
      (tries : ℕ) (c : FrameCourse) (own : Bool) (later before : List Happening) →
      IsLifeBeside held passes (later ++ before) → Means held.config output words voltages wanted →
      BeginsBeside held passes part (going_on (course_of output words tries) voltages) c own later before →
      KeepsCourseBeside held passes part output wanted c later before
  pub unformed : (held : Held) (passes : ℕ) (part : PartRegisters) (output : ℕ) (words : Wanted) (voltages : Voltages)
      (tries : ℕ) (c : FrameCourse) (own : Bool) (later before : List Happening) (refusal : Refusal) →
      IsLifeBeside held passes (later ++ before) → meant_faults (shape_for held.config output) voltages ≡ Some refusal →
      BeginsBeside held passes part (going_on (course_of output words tries) voltages) c own later before →
      KeepsWords held passes output later before
  pub surveys : (held : Held) (passes : ℕ) (part : PartRegisters) (output tries : ℕ) (c : FrameCourse) (own : Bool)
      (later before : List Happening) → IsLifeBeside held passes (later ++ before) →
      BeginsBeside held passes part (to_survey output tries) c own later before → KeepsWords held passes output later before
  pub off : (held : Held) (passes : ℕ) (part : PartRegisters) (output byte tries : ℕ) (c : FrameCourse) (own : Bool)
      (later before : List Happening) → has_on byte ≡ false → IsLifeBeside held passes (later ++ before) →
      BeginsBeside held passes part (to_byte output byte tries) c own later before →
      KeepsByteBeside held passes part output byte c later before
  pub on : (held : Held) (passes : ℕ) (part : PartRegisters) (output byte tries : ℕ) (c : FrameCourse) (own : Bool)
      (later before : List Happening) → has_on byte ≡ true → IsLifeBeside held passes (later ++ before) →
      EachAsks (IsHad part output) held passes later before →
      BeginsBeside held passes part (to_byte output byte tries) c own later before →
      KeepsByteBeside held passes part output byte c later before
  pub says : (held : Held) (passes : ℕ) (part : PartRegisters) (output byte tries : ℕ) (c is : FrameCourse) (own : Bool)
      (later before : List Happening) (limits : OutputLimits) (job : Asked) → has_on byte ≡ true →
      IsLifeBeside held passes (later ++ before) → EachAsks (IsHad part output) held passes later before →
      BeginsBeside held passes part (to_byte output byte tries) c own later before →
      SaysNext part limits (beside held passes (later ++ before)).host c (Job job) is →
      MaySay (beside held passes (later ++ before)).host c output byte job
  pub hands : (held : Held) (passes : ℕ) (part : PartRegisters) (begun c is : FrameCourse) (own : Bool) (later before : List Happening)
      (g new : Guarded) (sent : Option Sending) → IsFrameCourseBeside held passes part begun before c own later →
      g.host ≡ (beside held passes (later ++ before)).host → g.registers ≡ part → HandsOut g c sent new is →
      HandedBeside held passes part begun before own later g new is
  pub tells : (held : Held) (passes : ℕ) (part : PartRegisters) (begun c is : FrameCourse) (later before : List Happening)
      (g new : Guarded) (event : Event) (entry : host.Entry) → IsFrameCourseBeside held passes part begun before c true later →
      g.host ≡ (beside held passes (later ++ before)).host → begins_other event ≡ false →
      (share_of (beside held passes (later ++ before)) event).told ≡ Some entry → HearsOf g c entry (Ok tt) new is →
      IsFrameCourseBeside held passes part begun before is (goes_on (step_of g.host entry)) (Happens event ∷ later)
