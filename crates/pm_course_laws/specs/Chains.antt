-- A course carried out by jobs that nothing disturbs, with no bus and no frame, and how it ends: this project's own choice.
use Rattle.std.specs.Prelude.{Bool, Err, List, None, Ok, Option, Some, [], false, if◌then◌else◌, is_none, is_some, not, true, ℕ, ◌&&◌, ◌+◌, ◌<◌, ◌||◌, ◌∷◌, ◌≡◌, ◌≢◌, ◌≤◌, ◌⊎◌, ◌==◌}
use Rattle.pm_table.specs.declared.cell.Cell.{Cell}
use Rattle.pm_table.specs.declared.cell.Cell.TheVariants.{Out, Protect}
use Rattle.pm_table.specs.declared.reg.Reg.{Reg}
use Rattle.pm_table.specs.declared.reg.Reg.TheVariants.{Operation}
use Rattle.pm_table.specs.Cell.{IsCell, cell_code}
use Rattle.pm_table.specs.Operation.{has_on, selected_register}
use Rattle.pm_table.specs.Protection.{is_allowed}
use Rattle.pm_table.specs.Rules.{first}
use Rattle.pm_model.specs.Commanded.{commanded}
use Rattle.pm_model.specs.Settings.{word_at}
use Rattle.pm_device.specs.declared.config.Config.{Config}
use Rattle.pm_device.specs.Held.{Held, shape_for, value_for}
use Rattle.pm_host.specs.declared.job.Job.{Job}
use Rattle.pm_host.specs.declared.job.Job.TheVariants.{Check, Learn, Order}
use Rattle.pm_host.specs.declared.job.JobEnd.{JobEnd}
use Rattle.pm_host.specs.declared.job.JobEnd.TheVariants.{Done, Learned}
use Rattle.pm_host.specs.Known.{known_after, known_possible}
use Rattle.pm_host.specs.Marks.{Good, Put}
use Rattle.pm_host.specs.Possible.{is_possible}
use Rattle.pm_host.specs.Summary.{Summary, format_at, possible_at}
use Rattle.pm_limits.specs.declared.part_registers.PartRegisters.{PartRegisters}
use Rattle.pm_limits.specs.declared.output_limits.OutputLimits.{OutputLimits}
use Rattle.pm_limits.specs.declared.output_limits.OutputLimits.TheVariants.{Unlimited}
use Rattle.pm_limits.specs.Guard.{Guarded, guard_fault, limits_at}
use Rattle.pm_limits.specs.Part.{has_register}
use Rattle.pm_rail.specs.declared.apply_end.ApplyEnd.{ApplyEnd}
use Rattle.pm_rail.specs.declared.apply_end.ApplyEnd.TheVariants.{Reached, Stopped}
use Rattle.pm_rail.specs.declared.apply_end.StopCause.TheVariants.{Refused}
use Rattle.pm_rail.specs.declared.course.Course.{Course}
use Rattle.pm_rail.specs.declared.fault.PlanFault.{PlanFault}
use Rattle.pm_rail.specs.declared.wanted.Wanted.{Wanted}
use Rattle.pm_rail.specs.Course.{after_by, course_of, next_by, power_course_of, survey_course_of, told_of}
use Rattle.pm_rail.specs.Orders.{limits_fault, missing_fault, protection_fault, words_fault}
use Rattle.pm_rail.specs.Plan.{commands_by, goal_of, next_register, put}
use Rattle.pm_rail.specs.Registers.{Held as Registers, Wants, wants_of}
use Rattle.pm_rail.specs.Survey.{has_read}
use Rattle.pm_course.specs.declared.course_end.Refusal.{Refusal}
use Rattle.pm_course.specs.FrameCourse.{asked_for, asking_for}
use Rattle.pm_world.specs.Bands.{HoldsMissing}
use Rattle.pm_world.specs.declared.event.Event.{Event}
use Rattle.pm_world.specs.Honest.{IsSpelled}
use Rattle.pm_world.specs.Life.{now}
use Rattle.pm_world.specs.Lived.{IsLived}
use Rattle.pm_host.specs.Refusals.{is_busy}
use Rattle.pm_rail.specs.declared.next.Next.TheVariants.{Ended, Job as Names}
use Rattle.pm_rail.specs.declared.next.Next.TheVariants as next

-- a guard and a converter at a moment
pub record Pair : Type 0 where
  pub guard : Guarded
  pub held : Held

-- a life led to them
pub record IsLife (config : Config) (passes : ℕ) (events : List Event) (host : Summary) (held : Held) : Type 0 where
  pub lived : IsLived config passes events
  pub host_is : (now config passes events).host ≡ host
  pub held_is : (now config passes events).device ≡ held

pub record HasLife (host : Summary) (held : Held) : Type 0 where
  pub config : Config
  pub passes : ℕ
  pub events : List Event
  pub spelled : IsSpelled config
  pub life : IsLife config passes events host held

-- ---- what one job leaves that nothing disturbs

pub record IsChecked (cell : Cell) (old : Pair) (end : JobEnd) (new : Pair) : Type 0 where
  pub done : end ≡ Done
  pub known : new.guard.host.known ≡ known_after old.guard.host.known (Good cell (word_at old.held.words cell))
  pub formats : new.guard.host.formats ≡ old.guard.host.formats
  pub idle : new.guard.host.stage ≡ None
  pub words : new.held.words ≡ old.held.words
  pub config : new.held.config ≡ old.held.config

pub record IsLearned (output : ℕ) (old : Pair) (end : JobEnd) (new : Pair) : Type 0 where
  pub learned : end ≡ Learned
  pub format : format_at new.guard.host output ≡ Some (shape_for old.held.config output)
  pub known : new.guard.host.known ≡ old.guard.host.known
  pub idle : new.guard.host.stage ≡ None
  pub words : new.held.words ≡ old.held.words
  pub config : new.held.config ≡ old.held.config

pub record IsOrdered (cell : Cell) (word : ℕ) (old : Pair) (end : JobEnd) (new : Pair) : Type 0 where
  pub done : end ≡ Done
  pub known : new.guard.host.known ≡ known_after (known_after old.guard.host.known (Put cell word)) (Good cell word)
  pub formats : new.guard.host.formats ≡ old.guard.host.formats
  pub idle : new.guard.host.stage ≡ None
  pub takes : word_at new.held.words cell ≡ word
  pub others : (other : Cell) → other ≢ cell → IsCell old.guard.host.setup.outputs other →
      word_at new.held.words other ≡ word_at old.held.words other
  pub config : new.held.config ≡ old.held.config

abbrev pub Did : Job → JobEnd → Pair → Pair → Type 0
Did (Check cell) end old new = IsChecked cell old end new
Did (Learn output) end old new = IsLearned output old end new
Did (Order cell word) end old new = is_allowed (word_at old.held.words Protect) (cell_code cell) ≡ true → IsOrdered cell word old end new
Did job end old new = Unit {0}

-- a job was begun and ended so, and nothing disturbed its frames
pub record Step (job : Job) (end : JobEnd) (old new : Pair) : Type 0 where
  pub did : Did job end old new
  pub registers : new.guard.registers ≡ old.guard.registers
  pub limits : new.guard.limits ≡ old.guard.limits
  pub kept : new.guard.host.setup ≡ old.guard.host.setup
  pub lived : HasLife new.guard.host new.held

-- the job reads a cell whose word the host didn't think possible
abbrev pub is_surprised : Job → Pair → Bool
is_surprised (Check cell) old = not (is_possible (word_at old.held.words cell) (known_possible old.guard.host.known cell))
is_surprised job old = false

-- the words that a converter holds for an output
abbrev pub output_words_of : Held → ℕ → Registers
output_words_of held output register = word_at held.words (Out output register)

-- why a plan to these words is refused, by the words that the converter holds
abbrev pub held_fault : OutputLimits → Held → ℕ → Wants → Option PlanFault
held_fault limits held output wants = first (
    limits_fault limits (value_for held.config output) wants ∷
    words_fault (value_for held.config output) (output_words_of held output) wants ∷
    protection_fault (word_at held.words Protect) (output_words_of held output) wants ∷
    [])

-- the part has what is wanted, and what OPERATION selects; a limit that it lacks stands at its word
pub record FitsPart (part : PartRegisters) (held : Held) (output : ℕ) (wants : Wants) : Type 0 where
  pub wanted : missing_fault part wants ≡ None
  pub selected : has_register part (selected_register (output_words_of held output Operation)) ≡ true
  pub missing : HoldsMissing part held.config held.words output

-- the format is to be learned again, where this is so
abbrev pub forgotten : Bool → Course → Course
forgotten b course = record course { survey = record course.survey { learned = not b && course.survey.learned } }

-- A course carried out job by job. After a check that surprised the format is learned again, as `FrameCourse` does; or it isn't.
pub data Chain (begun : Course) (first : Pair) : Course → Pair → ℕ → Type 0 where
  no_job : Chain begun first begun first 0
  one_more : (course : Course) (job : Job) (end : JobEnd) (middle last : Pair) (n : ℕ) (again : Bool) →
      Chain begun first course middle n → next_by middle.guard course ≡ next.Job job → Step job end middle last →
      (again ≡ true → is_surprised job middle ≡ true) →
      Chain begun first (forgotten again (told_of (after_by middle.guard course) end)) last (n + 1)

-- the end by that fault
pub record IsReached (output : ℕ) (wants : Wants) (old : Pair) (end : ApplyEnd) (new : Pair) : Type 0 where
  pub reached : end ≡ Reached
  pub words : (register : Reg) → output_words_of new.held output register ≡ goal_of (output_words_of old.held output) wants register
  pub commands : commanded (value_for new.held.config output) new.held.words output
      ≡ commands_by (value_for old.held.config output) (goal_of (output_words_of old.held output) wants)
  pub protect : word_at new.held.words Protect ≡ word_at old.held.words Protect

pub record IsRefused (fault : PlanFault) (old : Pair) (end : ApplyEnd) (new : Pair) : Type 0 where
  pub refused : end ≡ Stopped (Refused fault)
  pub words : new.held.words ≡ old.held.words

abbrev pub EndsBy : ℕ → Wants → Pair → ApplyEnd → Pair → Option PlanFault → Type 0
EndsBy output wants old end new None = IsReached output wants old end new
EndsBy output wants old end new (Some fault) = IsRefused fault old end new

-- how many tries are enough: one more than without the format that is learned again
abbrev pub tries_for : OutputLimits → Held → ℕ → Wants → ℕ
tries_for limits held output wants =
    if is_some (held_fault limits held output wants)
    || is_none (next_register (value_for held.config output) (output_words_of held output) wants) then 15 else 28

-- A course to wanted words is under way while no job is open: no order differed twice, and each cell that its survey counts as read may
-- hold, by what the host knows, what it holds.
pub record IsUnderWay (output : ℕ) (wanted : Wanted) (d : Pair) (course : Course) : Type 0 where
  pub own : course.survey.output ≡ output
  pub plan : course.survey.plan ≡ Some wanted
  pub byte : course.byte ≡ None
  pub once : course.twice ≡ None
  pub may : (register : Reg) → has_read course.survey.read register ≡ true →
      is_possible (output_words_of d.held output register) (possible_at d.guard.host (Out output register)) ≡ true
  pub protect : course.survey.read.protect ≡ true → is_possible (word_at d.held.words Protect) (possible_at d.guard.host Protect) ≡ true

-- It has begun at most so many jobs (`few`), one more if it names one (`more`), which WRITE_PROTECT allows if that is an order (`allowed`).
-- No order differed twice, no job is open, what its survey counts as read may be held, and its end is decided by what was held (`ends`).
pub record ChainEnds (output : ℕ) (wanted : Wanted) (most n : ℕ) (old new : Pair) (course : Course) : Type 0 where
  pub few : n ≤ most
  pub more : (job : Job) → next_by new.guard course ≡ Names job → n + 1 ≤ most
  pub once : course.twice ≡ None
  pub allowed : (cell : Cell) (word : ℕ) → next_by new.guard course ≡ Names (Order cell word) →
      is_allowed (word_at new.held.words Protect) (cell_code cell) ≡ true
  pub idle : is_busy new.guard.host ≡ false
  pub may : (register : Reg) → has_read course.survey.read register ≡ true →
      is_possible (output_words_of new.held output register) (possible_at new.guard.host (Out output register)) ≡ true
  pub ends : (end : ApplyEnd) → next_by new.guard course ≡ Ended end →
      EndsBy output (wants_of wanted) old end new (held_fault (limits_at old.guard output) old.held output (wants_of wanted))

-- A course to a byte of OPERATION carried out job by job: each is the one that it asks for in the place of the job that its way names.
pub data ByteChain (byte : ℕ) (begun : Course) (first : Pair) : Course → Pair → ℕ → Type 0 where
  none_yet : ByteChain byte begun first begun first 0
  one_on : (course : Course) (named job : Job) (end : JobEnd) (middle last : Pair) (n : ℕ) (again : Bool) →
      ByteChain byte begun first course middle n → next_by middle.guard course ≡ next.Job named →
      asked_for middle.guard.host course (Some byte) named ≡ Ok job → Step job end middle last →
      (again ≡ true → is_surprised job middle ≡ true) →
      ByteChain byte begun first (forgotten again (told_of (asking_for course (after_by middle.guard course) named job) end)) last (n + 1)

-- OPERATION holds the byte and each other cell its word, so the output commands what it does with that byte.
pub record IsSwitched (output byte : ℕ) (old new : Pair) : Type 0 where
  pub takes : output_words_of new.held output Operation ≡ byte
  pub others : (other : Cell) → other ≢ Out output Operation → IsCell old.guard.host.setup.outputs other →
      word_at new.held.words other ≡ word_at old.held.words other
  pub commands : commanded (value_for new.held.config output) new.held.words output
      ≡ commands_by (value_for old.held.config output) (put (output_words_of old.held output) Operation byte)

-- How many tries are enough to turn an output on, or to change what it is on with: two surveys of five jobs where OPERATION holds the byte,
-- since at most one answer of all surprises; and otherwise two of seven, which read WRITE_PROTECT and the register that the byte selects
-- too, the order, and one more survey of five. One is enough to turn it off.
abbrev pub byte_tries : Held → ℕ → ℕ → ℕ
byte_tries held output byte = if has_on byte then (if output_words_of held output Operation == byte then 10 else 20) else 1

-- A job that such a course asks for: nothing refuses it; or it is the order of the byte, which WRITE_PROTECT allows, and no word moved yet.
-- An order that turns the output on is refused by its limits alone.
pub record IsAskedFor (output byte : ℕ) (old d : Pair) (job : Job) : Type 0 where
  pub allowed : (cell : Cell) (word : ℕ) → job ≡ Order cell word → is_allowed (word_at d.held.words Protect) (cell_code cell) ≡ true
  pub free : (guard_fault d.guard job ≡ None)
      ⊎ ((job ≡ Order (Out output Operation) byte) × (d.held.words ≡ old.held.words)
      × (has_on byte ≡ true → limits_at d.guard output ≢ Unlimited))

-- It has begun at most so many jobs, one more if it asks for one (`asks`), and refuses none (`unrefused`). No order differed twice, no job is
-- open, and it ends Reached, with the byte in OPERATION.
pub record ByteEnds (output byte most n : ℕ) (old new : Pair) (course : Course) : Type 0 where
  pub few : n ≤ most
  pub once : course.twice ≡ None
  pub idle : is_busy new.guard.host ≡ false
  pub asks : (named job : Job) → next_by new.guard course ≡ next.Job named → asked_for new.guard.host course (Some byte) named ≡ Ok job →
      (n + 1 ≤ most) × IsAskedFor output byte old new job
  pub unrefused : (named : Job) (refusal : Refusal) → next_by new.guard course ≡ next.Job named →
      asked_for new.guard.host course (Some byte) named ≡ Err refusal → ⊥
  pub ends : (end : ApplyEnd) → next_by new.guard course ≡ Ended end → (end ≡ Reached) × IsSwitched output byte old new

-- A survey for no plan has begun at most so many jobs (`few`), one more if it names one, which neither the host nor a limit refuses (`more`),
-- and which is no order (`reads`). No order differed twice, no job is open, no word moved, what it counts as read may be held, and it ends
-- Reached.
pub record SurveyEnds (output most n : ℕ) (old new : Pair) (course : Course) : Type 0 where
  pub few : n ≤ most
  pub more : (job : Job) → next_by new.guard course ≡ Names job → (n + 1 ≤ most) × (guard_fault new.guard job ≡ None)
  pub reads : (cell : Cell) (word : ℕ) → next_by new.guard course ≢ Names (Order cell word)
  pub once : course.twice ≡ None
  pub idle : is_busy new.guard.host ≡ false
  pub words : new.held.words ≡ old.held.words
  pub may : (register : Reg) → has_read course.survey.read register ≡ true →
      is_possible (output_words_of new.held output register) (possible_at new.guard.host (Out output register)) ≡ true
  pub ends : (end : ApplyEnd) → next_by new.guard course ≡ Ended end → end ≡ Reached

-- A course carried out by jobs that nothing disturbs: to words, as it begins, with so many tries (`begins`), and under way, with 28 of them
-- left (`goes_on`); to a byte of OPERATION, if WRITE_PROTECT allows OPERATION, and the part has the register that is selected by a byte which
-- leaves the output on (`switches`); and a survey, with ten tries, if the part has the register that OPERATION selects (`surveys`).
pub record ChainsEnd : Type 0 where
  pub begins : (output : ℕ) (wanted : Wanted) (tries n : ℕ) (old new : Pair) (course : Course) → HasLife old.guard.host old.held →
      is_busy old.guard.host ≡ false → output < old.guard.host.setup.outputs →
      FitsPart old.guard.registers old.held output (wants_of wanted) →
      tries_for (limits_at old.guard output) old.held output (wants_of wanted) ≤ tries →
      Chain (course_of output wanted tries) old course new n →
      ChainEnds output wanted (tries_for (limits_at old.guard output) old.held output (wants_of wanted)) n old new course
  pub goes_on : (output : ℕ) (wanted : Wanted) (n : ℕ) (old new : Pair) (begun course : Course) → HasLife old.guard.host old.held →
      is_busy old.guard.host ≡ false → output < old.guard.host.setup.outputs →
      FitsPart old.guard.registers old.held output (wants_of wanted) → IsUnderWay output wanted old begun → 28 ≤ begun.survey.left →
      Chain begun old course new n → ChainEnds output wanted 28 n old new course
  pub switches : (output byte tries n : ℕ) (old new : Pair) (course : Course) → HasLife old.guard.host old.held →
      is_busy old.guard.host ≡ false → output < old.guard.host.setup.outputs →
      (has_on byte ≡ true → has_register old.guard.registers (selected_register byte) ≡ true) →
      is_allowed (word_at old.held.words Protect) (cell_code (Out output Operation)) ≡ true → byte_tries old.held output byte ≤ tries →
      ByteChain byte (power_course_of output byte tries) old course new n →
      ByteEnds output byte (byte_tries old.held output byte) n old new course
  pub surveys : (output tries n : ℕ) (old new : Pair) (course : Course) → HasLife old.guard.host old.held →
      is_busy old.guard.host ≡ false → output < old.guard.host.setup.outputs →
      has_register old.guard.registers (selected_register (output_words_of old.held output Operation)) ≡ true → 10 ≤ tries →
      Chain (survey_course_of output tries) old course new n → SurveyEnds output 10 n old new course
