-- What the laws of this crate say.
use Rattle.std.specs.Prelude.{◌≡◌, ◌≢◌, ◌⊎◌, ◌<◌, ◌+◌, ℕ, Bool, true, false, Option, Some, None, IsSomeAnd, is_none, is_some, option_map}
use Rattle.std.specs.Prelude.{Ok}
use Rattle.pm_num.specs.AnyFormat.{Shape, shape_value}
use Rattle.pm_num.specs.Ratio.{Ratio}
use Rattle.pm_table.specs.declared.reg.Reg.{Reg}
use Rattle.pm_table.specs.declared.reg.Reg.TheVariants.{Operation, VoutMax, VoutMin}
use Rattle.pm_table.specs.Operation.{selected_register}
use Rattle.pm_model.specs.Commanded.{Scale, is_outside}
use Rattle.pm_table.specs.declared.cell.Cell.TheVariants.{Out, Protect}
use Rattle.pm_host.specs.declared.job.Job.TheVariants.{Order, Check}
use Rattle.pm_host.specs.declared.job.Job.{Job as Asked}
use Rattle.pm_host.specs.declared.job.JobEnd.{JobEnd}
use Rattle.pm_host.specs.Possible.{is_possible}
use Rattle.pm_host.specs.Summary.{Summary, format_at, possible_at}
use Rattle.pm_limits.specs.declared.part_registers.PartRegisters.{PartRegisters}
use Rattle.pm_limits.specs.Band.{band_at}
use Rattle.pm_limits.specs.declared.output_limits.OutputLimits.{OutputLimits}
use Rattle.pm_limits.specs.Guard.{Guarded, guard_fault, limits_at}
use Rattle.pm_limits.specs.Part.{all_registers, has_register}
use Rattle.pm_rail.specs.declared.course.Course.{Course}
use Rattle.pm_rail.specs.declared.apply_end.ApplyEnd.TheVariants.{Reached}
use Rattle.pm_rail.specs.declared.next.Next.TheVariants.{Ended, Job}
use Rattle.pm_rail.specs.declared.orders.PlanOrder.{PlanOrder}
use Rattle.pm_rail.specs.declared.survey.Survey.{Survey}
use Rattle.pm_rail.specs.Course.{after_next, is_order, next_of, told_of}
use Rattle.pm_rail.specs.Known.{cells_of, known_at, known_of, known_word}
use Rattle.pm_rail.specs.Orders.{is_needed, order_of, plan_of}
use Rattle.pm_rail.specs.Plan.{words_after_orders, commands_by, goal_of, is_cut_by, next_register, words_after_next_order}
use Rattle.pm_rail.specs.Registers.{Held, Wants, wants_of}
use Rattle.pm_rail.specs.Survey.{asking, has_read, is_stuck, is_surveyed, next_job, wanted_in}

-- each word has a value with a positive denominator, as in each format
abbrev pub ScaleHasDens : Scale → Type 0
ScaleHasDens value = (word : ℕ) → 0 < (value word).den

-- what is commanded stays, or becomes what is wanted
abbrev pub IsStep : Ratio → Ratio → Ratio → Type 0
IsStep goal old new = (new ≡ old) ⊎ (new ≡ goal)

-- a register that a byte of OPERATION may select would be cut, were it selected
abbrev pub would_be_cut : Scale → Held → ℕ → Bool
would_be_cut value held byte =
    is_outside (value (held (selected_register byte))) (value (held VoutMin)) (value (held VoutMax))

-- Each order of the plan leaves what the output commands, or makes it what it commands at the end (`one`), and so does
-- any number of them from any moment on (`any`), if the output isn't cut by the words at the end. So it never commands
-- anything but its first value and its last, and changes once at most.
pub record PlansAreWithoutGlitch : Type 0 where
  pub one : (value : Scale) (held : Held) (wants : Wants) → ScaleHasDens value → wants Operation ≡ None →
      is_cut_by value (goal_of held wants) ≡ false →
      IsStep (commands_by value (goal_of held wants)) (commands_by value held)
      (commands_by value (words_after_next_order value wants held))
  pub any : (value : Scale) (held : Held) (wants : Wants) (n more : ℕ) → ScaleHasDens value → wants Operation ≡ None →
      is_cut_by value (goal_of held wants) ≡ false →
      IsStep (commands_by value (goal_of held wants)) (commands_by value (words_after_orders value wants held n))
      (commands_by value (words_after_orders value wants (words_after_orders value wants held n) more))

-- Each order is of a wanted word that its register doesn't have (`due`); where none is left, each register has its
-- wanted word (`done`), and that is so after five orders at most (`five`).
pub record PlansEnd : Type 0 where
  pub due : (value : Scale) (held : Held) (wants : Wants) (register : Reg) →
      next_register value held wants ≡ Some register → goal_of held wants register ≢ held register
  pub done : (value : Scale) (held : Held) (wants : Wants) → wants Operation ≡ None →
      next_register value held wants ≡ None → (register : Reg) → held register ≡ goal_of held wants register
  pub five : (value : Scale) (held : Held) (wants : Wants) → wants Operation ≡ None →
      (register : Reg) → words_after_orders value wants held 5 register ≡ goal_of held wants register

-- The words of the registers that a plan needs are ones that they may hold. A part without VOUT_MIN or VOUT_MAX holds
-- there the word at which it stands, which never cuts.
abbrev pub MayHold : PartRegisters → Summary → ℕ → Wants → Held → Type 0
MayHold part s output wants held = (shape : Shape) → format_at s output ≡ Some shape →
    let cells = cells_of part shape s in
    (register : Reg) → is_needed (known_of cells output) wants register ≡ true →
    is_possible (held register) (cells (Out output register)) ≡ true

-- What a plan answers by what is known is what it answers for the words that are held, whichever of the possible
-- ones these are: the next order is theirs (`next`), the output isn't cut by the words at the end (`uncut`), and where
-- no order is left each wanted word is held (`done`). By these the other laws speak of what a plan answers.
pub record PlansAreOfWhatIsHeld : Type 0 where
  pub next : (part : PartRegisters) (s : Summary) (limits : OutputLimits) (output : ℕ) (wants : Wants) (order : Option PlanOrder)
      (held : Held) →
      wants Operation ≡ None → MayHold part s output wants held → plan_of part s limits output wants ≡ Ok order →
      IsSomeAnd (format_at s output)
      (λ shape. option_map (order_of held wants) (next_register (shape_value shape) held wants) ≡ order)
  pub uncut : (part : PartRegisters) (s : Summary) (limits : OutputLimits) (output : ℕ) (wants : Wants) (order : Option PlanOrder)
      (held : Held) →
      wants Operation ≡ None → MayHold part s output wants held → plan_of part s limits output wants ≡ Ok order →
      IsSomeAnd (format_at s output) (λ shape. is_cut_by (shape_value shape) (goal_of held wants) ≡ false)
  pub done : (part : PartRegisters) (s : Summary) (limits : OutputLimits) (output : ℕ) (wants : Wants) (held : Held)
      (register : Reg) (word : ℕ) →
      wants Operation ≡ None → MayHold part s output wants held → plan_of part s limits output wants ≡ Ok None →
      wants register ≡ Some word → held register ≡ word

-- An order that a plan gives by a guard's limits is one that the guard lets through and its host accepts: nothing
-- refuses it.
abbrev pub PlansAreAccepted : Type 0
PlansAreAccepted = (g : Guarded) (output : ℕ) (wants : Wants) (register : Reg) (word : ℕ) →
    output < g.host.setup.outputs → wants Operation ≡ None →
    plan_of g.registers g.host (limits_at g output) output wants ≡ Ok (Some (record { register = register; word = word })) →
    guard_fault g (Order (Out output register) word) ≡ None

-- A survey that has ended by its own rule has its answers: since it began the format was learned and is known
-- (`format`), each register that is needed is known, and was read where the part has it (`known`), and for a plan
-- WRITE_PROTECT was read and is known too (`protection`). Where it has tries left it asks as long as this isn't so, and
-- each job takes one (`asks`), unless it is stuck at a register that is needed and that the part doesn't have; a part
-- with every register never is the reason (`whole`). It never asks for a register that the part doesn't have (`unread`).
-- Where it has ended by its own rule the output has a band (`band`).
pub record SurveysEndKnown : Type 0 where
  pub format : (part : PartRegisters) (v : Survey) (s : Summary) → is_surveyed part v s ≡ true →
      (v.learned ≡ true) × (is_none (format_at s v.output) ≡ false)
  pub known : (part : PartRegisters) (v : Survey) (s : Summary) (shape : Shape) (register : Reg) →
      is_surveyed part v s ≡ true → format_at s v.output ≡ Some shape →
      let cells = cells_of part shape s in
      is_needed (known_of cells v.output) (wants_of (wanted_in v.plan)) register ≡ true →
      (has_register part register ≡ true → has_read v.read register ≡ true)
      × (is_none (known_at cells (Out v.output register)) ≡ false)
  pub protection : (part : PartRegisters) (v : Survey) (s : Summary) → is_surveyed part v s ≡ true →
      is_some v.plan ≡ true → (v.read.protect ≡ true) × (is_none (known_word Protect (possible_at s Protect)) ≡ false)
  pub asks : (part : PartRegisters) (v : Survey) (s : Summary) → is_surveyed part v s ≡ false →
      is_stuck part v s ≡ false → 0 < v.left →
      (is_some (next_job part v s) ≡ true) × ((asking v (next_job part v s)).left + 1 ≡ v.left)
  pub whole : (v : Survey) (s : Summary) → is_stuck all_registers v s ≡ false
  pub unread : (part : PartRegisters) (v : Survey) (s : Summary) (output : ℕ) (register : Reg) →
      next_job part v s ≡ Some (Check (Out output register)) → has_register part register ≡ true
  pub band : (part : PartRegisters) (v : Survey) (s : Summary) → is_surveyed part v s ≡ true →
      is_none (band_at part s v.output) ≡ false

-- Each job that a course names takes a try (`takes`), and being told of an end takes none (`told`): so it names as many jobs
-- as it has tries at most. What one to wanted words, or to nothing, names is refused by nothing: neither by the guard's limits
-- nor by its host (`free`). One to nothing names no order (`reads`). Where one to words or to nothing has reached its end, its
-- survey has ended by its own rule (`surveyed`), of which `SurveysEndKnown` speaks.
pub record CoursesEnd : Type 0 where
  pub takes : (part : PartRegisters) (limits : OutputLimits) (s : Summary) (course : Course) (job : Asked) →
      next_of part limits s course ≡ Job job → (after_next part limits s course).survey.left < course.survey.left
  pub told : (course : Course) (end : JobEnd) → (told_of course end).survey.left ≡ course.survey.left
  pub free : (g : Guarded) (course : Course) (job : Asked) → course.byte ≡ None → course.survey.output < g.host.setup.outputs →
      next_of g.registers (limits_at g course.survey.output) g.host course ≡ Job job → guard_fault g job ≡ None
  pub reads : (part : PartRegisters) (limits : OutputLimits) (s : Summary) (course : Course) (job : Asked) → course.byte ≡ None →
      course.survey.plan ≡ None → next_of part limits s course ≡ Job job → is_order job ≡ false
  pub surveyed : (part : PartRegisters) (limits : OutputLimits) (s : Summary) (course : Course) → course.byte ≡ None →
      next_of part limits s course ≡ Ended Reached → is_surveyed part (after_next part limits s course).survey s ≡ true
