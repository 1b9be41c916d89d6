-- What the stairs say, by what a host knows alone: this project's own choice. No life is spoken of.
use Rattle.std.specs.Prelude.{◌≡◌, ℕ, true, false, Bool, Option, Some, None, option_map}
use Rattle.pm_table.specs.declared.cell.Cell.TheVariants.{Out}
use Rattle.pm_host.specs.declared.job.Job.{Job as Asked}
use Rattle.pm_host.specs.declared.job.Job.TheVariants.{Order, Check, Learn, OrderMicro, Send}
use Rattle.pm_host.specs.Summary.{Summary}
use Rattle.pm_limits.specs.declared.part_registers.PartRegisters.{PartRegisters}
use Rattle.pm_limits.specs.declared.output_limits.OutputLimits.{OutputLimits}
use Rattle.pm_limits.specs.Guard.{Guarded}
use Rattle.pm_rail.specs.declared.orders.PlanOrder.{PlanOrder}
use Rattle.pm_rail.specs.declared.wanted.Wanted.{Wanted}
use Rattle.pm_stairs.specs.declared.stairs.Move.{Move}
use Rattle.pm_stairs.specs.declared.stairs.Move.TheVariants.{Job, Begins, Passes, Reached, Stops}
use Rattle.pm_stairs.specs.declared.stairs.Stairs.{Stairs}
use Rattle.pm_stairs.specs.declared.step.Step.{Step}
use Rattle.pm_stairs.specs.declared.step.WordStep.{WordStep}
use Rattle.pm_stairs.specs.declared.said.StepEnd.{StepEnd}
use Rattle.pm_stairs.specs.Due.{due_now}
use Rattle.pm_stairs.specs.Stairs.{Goes}
use Rattle.pm_stairs.specs.Steps.{noted, step_with}

-- the step that is under way
abbrev pub word_step_under : Stairs → Option WordStep
word_step_under stairs = option_map (λ under. under.step) stairs.under

-- a job that reads
abbrev pub is_reading_job : Asked → Bool
is_reading_job (Check cell) = true
is_reading_job (Learn output) = true
is_reading_job (Order cell word) = false
is_reading_job (OrderMicro cell x) = false
is_reading_job (Send command) = false

-- the job is the order that is due in a step, within some limits
pub record IsDueOrder (part : PartRegisters) (s : Summary) (step : WordStep) (job : Asked) : Type 0 where
  pub limits : OutputLimits
  pub order : PlanOrder
  pub due : (due_now part limits s step).order ≡ Some order
  pub is_job : job ≡ Order (Out step.output order.register) order.word

-- The step is over; nothing is asked where none is under way.
abbrev pub IsStepOver : PartRegisters → Summary → Option WordStep → Type 0
IsStepOver part s None = Unit {0}
IsStepOver part s (Some step) = (limits : OutputLimits) × ((due_now part limits s step).over ≡ true)

-- the step may begin: what it changes is known
abbrev pub LacksNone : PartRegisters → Summary → WordStep → Type 0
LacksNone part s step = (limits : OutputLimits) × ((due_now part limits s step).lacks ≡ None)

-- a step in words is this one: its words where it has some, and otherwise words of its wishes
abbrev pub IsOf : Step → WordStep → Type 0
IsOf wishes step = (words : Wanted) × (step ≡ step_with wishes words)

abbrev pub IsFirst : Option Step → WordStep → Type 0
IsFirst ahead step = (wishes : Step) × ((ahead ≡ Some wishes) × IsOf wishes step)

-- What the stairs say next of a part, by what a host knows, where this is the first step ahead. A job that leaves the step under way
-- reads (`reads`), or is the order that is due in it (`orders`). Where the first step ahead begins, the step before it is over by what is
-- known then, that order is due in it and nothing that it changes is unknown (`begins`), or it is over itself (`passes`); and the step that undoes
-- it has the words that are known. Where all is reached, no step is ahead, and the last is over (`reached`).
pub data Means (part : PartRegisters) (s : Summary) (ahead : Option Step) (old new : Option WordStep) : Move → Type 0 where
  reads : (job : Asked) → is_reading_job job ≡ true → new ≡ old → Means part s ahead old new (Job job)
  orders : (job : Asked) (step : WordStep) → old ≡ Some step → IsDueOrder part s step job → new ≡ old → Means part s ahead old new (Job job)
  begins : (job : Asked) (step : WordStep) → IsStepOver part s old → IsFirst ahead step → IsDueOrder part s step job →
      LacksNone part s step → new ≡ Some step → Means part s ahead old new (Begins job (noted s step))
  passes : (step : WordStep) → IsStepOver part s old → IsFirst ahead step → IsStepOver part s (Some step) → new ≡ Some step →
      Means part s ahead old new (Passes (noted s step))
  reached : IsStepOver part s old → ahead ≡ None → new ≡ old → Means part s ahead old new Reached
  stops : (why : StepEnd) → new ≡ old → Means part s ahead old new (Stops why)

abbrev pub MovesAreDue : Type 0
MovesAreDue = (g : Guarded) (tries : ℕ) (ahead : Option Step) (old new : Stairs) (next : Move) → Goes g tries ahead old next new →
    Means g.registers g.host ahead (word_step_under old) (word_step_under new) next
