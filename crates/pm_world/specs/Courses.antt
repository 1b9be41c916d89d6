-- A course over a life: this project's own choice. Lists are newest first.
use Rattle.std.specs.Prelude.{◌≡◌, ◌≢◌, ◌⊎◌, ◌<◌, ℕ, Bool, true, false, List, [], ◌∷◌, ◌++◌, Option, Some, None}
use Rattle.std.specs.List.{list_any}
use Rattle.pm_num.specs.Ratio.{Ratio}
use Rattle.pm_table.specs.declared.cell.Cell.TheVariants.{Out, Protect}
use Rattle.pm_table.specs.declared.reg.Reg.{Reg}
use Rattle.pm_table.specs.declared.reg.Reg.TheVariants.{Operation}
use Rattle.pm_device.specs.declared.config.Config.{Config}
use Rattle.pm_device.specs.Held.{value_for}
use Rattle.pm_host.specs.declared.command.Command.TheVariants.{RestoreUserAll}
use Rattle.pm_host.specs.declared.job.Job.{Job as Asked}
use Rattle.pm_host.specs.declared.job.Job.TheVariants.{Check, Order}
use Rattle.pm_host.specs.declared.job.JobEnd.{JobEnd}
use Rattle.pm_host.specs.Refusals.{is_busy}
use Rattle.pm_host.specs.Transcript as host
use Rattle.pm_limits.specs.declared.part_registers.PartRegisters.{PartRegisters}
use Rattle.pm_limits.specs.declared.output_limits.OutputLimits.{OutputLimits}
use Rattle.pm_limits.specs.Part.{has_register}
use Rattle.pm_rail.specs.declared.wanted.Wanted.{Wanted}
use Rattle.pm_rail.specs.Laws.{IsStep}
use Rattle.pm_rail.specs.Plan.{commands_by, goal_of, put}
use Rattle.pm_rail.specs.Registers.{wants_of}
use Rattle.pm_rail.specs.declared.apply_end.ApplyEnd.TheVariants.{Reached}
use Rattle.pm_rail.specs.declared.course.Course.{Course}
use Rattle.pm_rail.specs.declared.next.Next.TheVariants.{Job, Ended}
use Rattle.pm_rail.specs.Course.{after_next, course_of, next_of, power_course_of, renewed, told_of}
use Rattle.pm_world.specs.declared.event.Event.{Event}
use Rattle.pm_world.specs.Bands.{HoldsMissing}
use Rattle.pm_world.specs.Confirmed.{restarts_converter}
use Rattle.pm_world.specs.Ended.{begins_other}
use Rattle.pm_world.specs.Honest.{IsSpelled}
use Rattle.pm_world.specs.Job.{asked_by}
use Rattle.pm_world.specs.Life.{now}
use Rattle.pm_world.specs.Limited.{commands}
use Rattle.pm_world.specs.Lived.{IsLived}
use Rattle.pm_world.specs.Plans.{held_at}
use Rattle.pm_world.specs.State.{asked}
use Rattle.pm_world.specs.Surveys.{MissingUnread}

-- What others may ask the host for beside a course of this output: anything but a restore, an order of this output, and a
-- check of a register that the part doesn't have.
abbrev pub IsBeside : PartRegisters → ℕ → Option host.Job → Type 0
IsBeside part output (Some (host.Order (Out other register) word)) = other ≢ output
IsBeside part output (Some (host.Check (Out other register))) = has_register part register ≡ true
IsBeside part output (Some (host.Send RestoreUserAll)) = ⊥
IsBeside part output job = Unit {0}

-- What a course to a byte of OPERATION may ask for in the place of the job that it names: a check of WRITE_PROTECT, or of a register of
-- its output that the part has, and the order of the byte.
pub data IsElse (part : PartRegisters) (output byte : ℕ) : Asked → Type 0 where
  protects : IsElse part output byte (Check Protect)
  selects : (register : Reg) → has_register part register ≡ true → IsElse part output byte (Check (Out output register))
  turns : IsElse part output byte (Order (Out output Operation) byte)

-- the course once it asked for such a job, with so many tries left
abbrev pub asking_else : Course → Asked → ℕ → Bool → Course
asking_else course job left ordered = record course {
  survey = record course.survey { asked = Some job; left = left };
  ordered = ordered;
}

-- How a course that began after some events stands after later ones. It is asked at any moment what is next, by what the
-- host knows then and within some limits (`says`). The host is then asked for the job that it named (`asks`); how that job
-- ended is told, where no other job nor a restart of the host came between (`tells`), or isn't. The format is to be learned again at
-- any moment (`forgets`). One to a byte may ask for another job than the one that it named (`asks_else`), whose end is told as well
-- (`tells_else`). Besides, anything happens: what comes of frames, restarts of either end, and what others may ask for (`beside`).
pub data IsCourse (config : Config) (passes : ℕ) (part : PartRegisters) (begun : Course) (before : List Event) : Course → List Event → Type 0 where
  begins : IsCourse config passes part begun before begun []
  beside : (course : Course) (later : List Event) (event : Event) →
      IsCourse config passes part begun before course later →
      IsBeside part begun.survey.output (asked (now config passes (later ++ before)) event) →
      IsCourse config passes part begun before course (event ∷ later)
  says : (limits : OutputLimits) (course : Course) (later : List Event) →
      IsCourse config passes part begun before course later →
      IsCourse config passes part begun before (after_next part limits (now config passes (later ++ before)).host course) later
  asks : (limits : OutputLimits) (course : Course) (later : List Event) (event : Event) (job : Asked) →
      IsCourse config passes part begun before course later →
      next_of part limits (now config passes (later ++ before)).host course ≡ Job job → asked_by event ≡ Some job →
      IsCourse config passes part begun before (after_next part limits (now config passes (later ++ before)).host course)
      (event ∷ later)
  tells : (limits : OutputLimits) (course : Course) (newer later : List Event) (event : Event) (job : Asked) (end : JobEnd) →
      IsCourse config passes part begun before course later →
      next_of part limits (now config passes (later ++ before)).host course ≡ Job job → asked_by event ≡ Some job →
      list_any begins_other newer ≡ false →
      (now config passes ((newer ++ event ∷ later) ++ before)).end ≡ Some end →
      IsCourse config passes part begun before
      (told_of (after_next part limits (now config passes (later ++ before)).host course) end) (newer ++ event ∷ later)
  asks_else : (limits : OutputLimits) (course : Course) (later : List Event) (event : Event) (byte left : ℕ) (ordered : Bool) (job : Asked) →
      IsCourse config passes part begun before course later → course.byte ≡ Some byte →
      IsElse part course.survey.output byte job → asked_by event ≡ Some job →
      IsCourse config passes part begun before
      (asking_else (renewed part limits (now config passes (later ++ before)).host course) job left ordered) (event ∷ later)
  tells_else : (limits : OutputLimits) (course : Course) (newer later : List Event) (event : Event) (byte left : ℕ) (ordered : Bool)
      (job : Asked) (end : JobEnd) → IsCourse config passes part begun before course later → course.byte ≡ Some byte →
      IsElse part course.survey.output byte job → asked_by event ≡ Some job → list_any begins_other newer ≡ false →
      (now config passes ((newer ++ event ∷ later) ++ before)).end ≡ Some end →
      IsCourse config passes part begun before
      (told_of (asking_else (renewed part limits (now config passes (later ++ before)).host course) job left ordered) end)
      (newer ++ event ∷ later)
  forgets : (course : Course) (later : List Event) → IsCourse config passes part begun before course later →
      IsCourse config passes part begun before (record course { survey = record course.survey { learned = false } }) later

-- A course began while the host was idle, and the converter didn't restart since. The host had no good answer for a register
-- that the part doesn't have; of a part with every register that says nothing.
pub record Begins (config : Config) (passes : ℕ) (part : PartRegisters) (begun course : Course) (later before : List Event) : Type 0 where
  pub here : begun.survey.output < config.count
  pub idle : is_busy (now config passes before).host ≡ false
  pub untold : MissingUnread config passes part begun.survey.output before
  pub steady : list_any restarts_converter later ≡ false
  pub is_course : IsCourse config passes part begun before course later

-- what an output commands where each of its registers has the word that is wanted of it, and otherwise the one that it
-- held after these events; and where OPERATION has this byte
abbrev pub goal_at : Config → ℕ → ℕ → Wanted → List Event → Ratio
goal_at config passes output wanted events = commands_by (value_for config output)
    (goal_of (held_at config passes events output) (wants_of wanted))

abbrev pub power_goal_at : Config → ℕ → ℕ → ℕ → List Event → Ratio
power_goal_at config passes output byte events = commands_by (value_for config output)
    (put (held_at config passes events output) Operation byte)

-- A course to wanted words that these events end with: of any two moments of it, the output commands at the later one what it commands
-- at the earlier one, or what is wanted, however its jobs ended and wherever it was left (`held`). Where it has ended `Reached`, the
-- converter holds each wanted word (`come_true`), and the output commands what is wanted (`commanded`). A register of which no word
-- is wanted keeps its word (`kept`). Where the part doesn't have VOUT_MIN or VOUT_MAX, the converter's cell holds the word that
-- never cuts; of a part with every register that says nothing.
pub record KeepsCourses (config : Config) (passes : ℕ) (events : List Event) : Type 0 where
  pub held : (part : PartRegisters) (output : ℕ) (wanted : Wanted) (tries : ℕ) (course : Course)
      (rest newer later before : List Event) → events ≡ (rest ++ (newer ++ later)) ++ before →
      Begins config passes part (course_of output wanted tries) course (rest ++ (newer ++ later)) before →
      HoldsMissing part config (now config passes before).device.words output →
      IsStep (goal_at config passes output wanted before)
      (commands config passes (later ++ before) output) (commands config passes ((newer ++ later) ++ before) output)
  pub come_true : (part : PartRegisters) (limits : OutputLimits) (output : ℕ) (wanted : Wanted) (tries : ℕ) (course : Course)
      (register : Reg) (word : ℕ) (later before : List Event) → events ≡ later ++ before →
      Begins config passes part (course_of output wanted tries) course later before →
      HoldsMissing part config (now config passes before).device.words output →
      next_of part limits (now config passes events).host course ≡ Ended Reached → wants_of wanted register ≡ Some word →
      held_at config passes events output register ≡ word
  pub kept : (part : PartRegisters) (output : ℕ) (wanted : Wanted) (tries : ℕ) (course : Course)
      (register : Reg) (later before : List Event) → events ≡ later ++ before →
      Begins config passes part (course_of output wanted tries) course later before →
      HoldsMissing part config (now config passes before).device.words output → wants_of wanted register ≡ None →
      held_at config passes events output register ≡ held_at config passes before output register
  pub commanded : (part : PartRegisters) (limits : OutputLimits) (output : ℕ) (wanted : Wanted) (tries : ℕ) (course : Course)
      (later before : List Event) → events ≡ later ++ before →
      Begins config passes part (course_of output wanted tries) course later before →
      HoldsMissing part config (now config passes before).device.words output →
      next_of part limits (now config passes events).host course ≡ Ended Reached →
      commands config passes events output ≡ goal_at config passes output wanted before

-- A course to a byte of OPERATION that these events end with: of any two moments of it, each register of the output holds at the later
-- one what it holds at the earlier one, or OPERATION the byte (`words`); so the output commands what it commands at the earlier
-- one, or what it commands with that byte (`held`). Where it has ended `Reached`, OPERATION holds the byte (`come_true`).
pub record KeepsPower (config : Config) (passes : ℕ) (events : List Event) : Type 0 where
  pub words : (part : PartRegisters) (output byte tries : ℕ) (course : Course) (register : Reg)
      (rest newer later before : List Event) → events ≡ (rest ++ (newer ++ later)) ++ before →
      Begins config passes part (power_course_of output byte tries) course (rest ++ (newer ++ later)) before →
      (held_at config passes ((newer ++ later) ++ before) output register ≡ held_at config passes (later ++ before) output register)
      ⊎ ((register ≡ Operation) × (held_at config passes ((newer ++ later) ++ before) output register ≡ byte))
  pub held : (part : PartRegisters) (output byte tries : ℕ) (course : Course)
      (rest newer later before : List Event) → events ≡ (rest ++ (newer ++ later)) ++ before →
      Begins config passes part (power_course_of output byte tries) course (rest ++ (newer ++ later)) before →
      IsStep (power_goal_at config passes output byte before)
      (commands config passes (later ++ before) output) (commands config passes ((newer ++ later) ++ before) output)
  pub come_true : (part : PartRegisters) (limits : OutputLimits) (output byte tries : ℕ) (course : Course)
      (later before : List Event) → events ≡ later ++ before →
      Begins config passes part (power_course_of output byte tries) course later before →
      next_of part limits (now config passes events).host course ≡ Ended Reached →
      held_at config passes events output Operation ≡ byte

-- no order of this output is asked for, by one event and by each of several
abbrev pub IsNoOrder : ℕ → Option host.Job → Type 0
IsNoOrder output (Some (host.Order (Out other register) word)) = other ≢ output
IsNoOrder output job = Unit {0}

abbrev pub AsksNoOrder : Config → ℕ → ℕ → List Event → List Event → Type 0
AsksNoOrder config passes output [] before = Unit {0}
AsksNoOrder config passes output (event ∷ later) before =
    IsNoOrder output (asked (now config passes (later ++ before)) event) × AsksNoOrder config passes output later before

-- Any course, of these events: until an order of its output is asked for, each register keeps its word. So what is refused
-- before the first order has written nothing.
pub record IsUntouched (config : Config) (passes : ℕ) (events : List Event) : Type 0 where
  pub held : (part : PartRegisters) (begun course : Course) (register : Reg) (later before : List Event) → events ≡ later ++ before →
      Begins config passes part begun course later before → AsksNoOrder config passes begun.survey.output later before →
      held_at config passes events begun.survey.output register ≡ held_at config passes before begun.survey.output register

-- in each life
pub record CoursesHoldInLives : Type 0 where
  pub words : (config : Config) (passes : ℕ) (events : List Event) →
      IsSpelled config → IsLived config passes events → KeepsCourses config passes events
  pub power : (config : Config) (passes : ℕ) (events : List Event) →
      IsSpelled config → IsLived config passes events → KeepsPower config passes events
  pub untouched : (config : Config) (passes : ℕ) (events : List Event) → IsLived config passes events → IsUntouched config passes events
