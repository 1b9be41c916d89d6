-- A caller that carries out a list of steps by the stairs, over a life: this project's own choice. Lists are newest first, but for the
-- steps that are ahead, which stand as they come.
use Rattle.std.specs.Prelude.{◌≡◌, ◌<◌, ℕ, false, List, [], ◌∷◌, ◌++◌, Option, Some, None, map}
use Rattle.pm_table.specs.declared.reg.Reg.{Reg}
use Rattle.pm_device.specs.declared.config.Config.{Config}
use Rattle.pm_host.specs.declared.job.Job.{Job as Asked}
use Rattle.pm_host.specs.Refusals.{is_busy}
use Rattle.pm_limits.specs.declared.part_registers.PartRegisters.{PartRegisters}
use Rattle.pm_limits.specs.Guard.{Guarded}
use Rattle.pm_rail.specs.Registers.{wants_of}
use Rattle.pm_stairs.specs.declared.stairs.Move.{Move}
use Rattle.pm_stairs.specs.declared.stairs.Move.TheVariants.{Job, Begins, Passes, Reached}
use Rattle.pm_stairs.specs.declared.stairs.Stairs.{Stairs}
use Rattle.pm_stairs.specs.declared.step.Step.{Step}
use Rattle.pm_stairs.specs.declared.step.WordAct.{WordAct}
use Rattle.pm_stairs.specs.declared.step.WordAct.TheVariants as act
use Rattle.pm_stairs.specs.declared.step.WordStep.{WordStep}
use Rattle.pm_stairs.specs.Stairs.{Goes, stairs_new}
use Rattle.pm_stairs.specs.Steps.{step_of_words}
use Rattle.pm_world.specs.declared.event.Event.{Event}
use Rattle.pm_world.specs.Confirmed.{restarts_converter}
use Rattle.pm_world.specs.Honest.{IsSpelled}
use Rattle.pm_world.specs.Job.{asked_by}
use Rattle.pm_world.specs.Life.{now}
use Rattle.pm_world.specs.Lived.{IsLived}
use Rattle.pm_world.specs.State.{asked}
use Rattle.pm_sequence_laws.specs.Back.{back_step, counted_step, downs_of}
use Rattle.pm_sequence_laws.specs.Due.{IsOf, word_step_under}
use Rattle.pm_sequence_laws.specs.Stairs.{AreOver, AreSound, Deed, IsStairs, MayRest, Nothing, RailStep, Rails, Sets, Turns, counts_at, stair_start_of}

-- what a step in words does
abbrev pub deed_of : WordAct → Deed
deed_of (act.Sets words) = Sets (wants_of words)
deed_of (act.Turns byte) = Turns byte
deed_of act.Nothing = Nothing

abbrev pub rail_step : WordStep → RailStep
rail_step step = record { output = step.output; deed = deed_of step.act }

abbrev pub rail_steps : List WordStep → List RailStep
rail_steps steps = map rail_step steps

-- the first of the steps ahead
abbrev pub first_step_ahead : List Step → Option Step
first_step_ahead [] = None
first_step_ahead (step ∷ steps) = Some step

-- a guard whose host is that of the life, and whose part has these registers
pub record IsGuardAt (config : Config) (passes : ℕ) (part : PartRegisters) (events : List Event) (g : Guarded) : Type 0 where
  pub host : g.host ≡ (now config passes events).host
  pub registers : g.registers ≡ part

-- A caller of the stairs: the steps that have begun, those that undo them, and those that are ahead. It starts where the host is idle. Events
-- that ask for no order of an output and no restore, and restart no converter, may come at any moment (`beside`). The stairs are asked
-- what is next: nothing is done then (`says`), or the host is asked for the job that they name (`asks`). The first step ahead begins with
-- the order that they name (`begins`), or is over as it begins (`passes`); as it begins, the step that undoes it is noted. What a step under
-- way and the first one ahead have read may change at any moment, as where an end is told (`tells`).
pub data IsClimb (config : Config) (passes : ℕ) (part : PartRegisters) (steps : List Step) (before : List Event) :
    List WordStep → List WordStep → List Step → Stairs → List Event → Type 0 where
  starts : is_busy (now config passes before).host ≡ false → IsClimb config passes part steps before [] [] steps stairs_new before
  beside : (begun backs : List WordStep) (ahead : List Step) (stairs : Stairs) (events : List Event) (event : Event) →
      IsClimb config passes part steps before begun backs ahead stairs events → restarts_converter event ≡ false →
      MayRest (asked (now config passes events) event) → IsClimb config passes part steps before begun backs ahead stairs (event ∷ events)
  says : (g : Guarded) (tries : ℕ) (next : Move) (begun backs : List WordStep) (ahead : List Step) (stairs new : Stairs) (events : List Event) →
      IsClimb config passes part steps before begun backs ahead stairs events → IsGuardAt config passes part events g →
      Goes g tries (first_step_ahead ahead) stairs next new → word_step_under new ≡ word_step_under stairs →
      IsClimb config passes part steps before begun backs ahead new events
  asks : (g : Guarded) (tries : ℕ) (job : Asked) (begun backs : List WordStep) (ahead : List Step) (stairs new : Stairs) (events : List Event)
      (event : Event) →
      IsClimb config passes part steps before begun backs ahead stairs events → IsGuardAt config passes part events g →
      Goes g tries (first_step_ahead ahead) stairs (Job job) new → asked_by event ≡ Some job →
      IsClimb config passes part steps before begun backs ahead new (event ∷ events)
  begins : (g : Guarded) (tries : ℕ) (job : Asked) (step back : WordStep) (wishes : Step) (begun backs : List WordStep) (ahead : List Step)
      (stairs new : Stairs) (events : List Event) (event : Event) →
      IsClimb config passes part steps before begun backs (wishes ∷ ahead) stairs events → IsGuardAt config passes part events g →
      Goes g tries (Some wishes) stairs (Begins job back) new → word_step_under new ≡ Some step → asked_by event ≡ Some job →
      IsClimb config passes part steps before (step ∷ begun) (back ∷ backs) ahead new (event ∷ events)
  passes_by : (g : Guarded) (tries : ℕ) (step back : WordStep) (wishes : Step) (begun backs : List WordStep) (ahead : List Step)
      (stairs new : Stairs) (events : List Event) →
      IsClimb config passes part steps before begun backs (wishes ∷ ahead) stairs events → IsGuardAt config passes part events g →
      Goes g tries (Some wishes) stairs (Passes back) new → word_step_under new ≡ Some step →
      IsClimb config passes part steps before (step ∷ begun) (back ∷ backs) ahead new events
  tells : (begun backs : List WordStep) (ahead : List Step) (stairs new : Stairs) (events : List Event) →
      IsClimb config passes part steps before begun backs ahead stairs events → word_step_under new ≡ word_step_under stairs →
      IsClimb config passes part steps before begun backs ahead new events

-- steps that undo those that have begun, each by the words of its own stair, as far as they count
abbrev pub AreBacks : Rails → List RailStep → List RailStep → Type 0
AreBacks start [] [] = Unit {0}
AreBacks start (step ∷ done) (back ∷ backs) = (counted_step back ≡ back_step start done step) × AreBacks start done backs
AreBacks start steps backs = ⊥

-- the steps that have begun, the newest first, and those ahead are these
abbrev pub AreOf : List WordStep → List Step → List Step → Type 0
AreOf [] ahead steps = ahead ≡ steps
AreOf (step ∷ begun) ahead steps = (wishes : Step) × (IsOf wishes step × AreOf begun (wishes ∷ ahead) steps)

-- Such a caller carries out its steps in their order (`order`), one after another (`stairs`), and those that it has noted undo them (`backs`). Where the stairs say that
-- all is reached, no step is ahead, and the last is over (`reached`).
pub record ClimbsAreStairs : Type 0 where
  pub order : (config : Config) (passes : ℕ) (part : PartRegisters) (steps : List Step) (before : List Event) (begun backs : List WordStep)
      (ahead : List Step) (stairs : Stairs) (events : List Event) →
      IsClimb config passes part steps before begun backs ahead stairs events → AreOf begun ahead steps
  pub stairs : (config : Config) (passes : ℕ) (part : PartRegisters) (steps : List Step) (before : List Event) (begun backs : List WordStep)
      (ahead : List Step) (stairs : Stairs) (events : List Event) →
      IsClimb config passes part steps before begun backs ahead stairs events → IsStairs config passes part before (rail_steps begun) events
  pub backs : (config : Config) (passes : ℕ) (part : PartRegisters) (steps : List Step) (before : List Event) (begun backs : List WordStep)
      (ahead : List Step) (stairs : Stairs) (events : List Event) →
      IsSpelled config → IsLived config passes events → IsClimb config passes part steps before begun backs ahead stairs events →
      AreSound config passes part before (rail_steps begun) →
      AreBacks (stair_start_of config passes before) (rail_steps begun) (rail_steps backs)
  pub reached : (config : Config) (passes : ℕ) (part : PartRegisters) (steps : List Step) (before : List Event) (step : WordStep)
      (begun backs : List WordStep) (ahead : List Step) (stairs new : Stairs) (events : List Event) (g : Guarded) (tries : ℕ) →
      IsClimb config passes part steps before (step ∷ begun) backs ahead stairs events → IsGuardAt config passes part events g →
      Goes g tries (first_step_ahead ahead) stairs Reached new → (ahead ≡ [])
      × AreOver config passes part (rail_steps (step ∷ begun)) events

-- steps that undo the newest of those that had begun, the newest first: they are on the way back
pub record IsOnWayBack (start : Rails) (begun downs : List RailStep) : Type 0 where
  pub newest : List RailStep
  pub left : List RailStep
  pub is : begun ≡ newest ++ left
  pub down : map counted_step downs ≡ downs_of start newest left []

-- A caller that stops wherever it will, and then carries out the steps that it has noted by stairs of their own: it is on the way back
-- (`way`), and where the stairs say that all is reached, each register of each output has its word of before, but for bits of
-- OPERATION that don't count (`back`).
pub record ClimbsComeBack : Type 0 where
  pub way : (config : Config) (passes : ℕ) (part : PartRegisters) (steps : List Step) (before : List Event) (begun backs : List WordStep)
      (ahead : List Step) (stairs : Stairs) (stop : List Event) (downs ups : List WordStep) (left : List Step) (back : Stairs) (events : List Event) →
      IsSpelled config → IsLived config passes stop → IsClimb config passes part steps before begun backs ahead stairs stop →
      AreSound config passes part before (rail_steps begun) →
      IsClimb config passes part (map step_of_words backs) stop downs ups left back events →
      IsOnWayBack (stair_start_of config passes before) (rail_steps begun) (rail_steps downs)
  pub back : (config : Config) (passes : ℕ) (part : PartRegisters) (steps : List Step) (before : List Event) (begun backs : List WordStep)
      (ahead : List Step) (stairs : Stairs) (stop : List Event) (downs ups : List WordStep) (left : List Step) (back new : Stairs)
      (events : List Event) (g : Guarded) (tries : ℕ) →
      IsSpelled config → IsLived config passes stop → IsLived config passes events →
      IsClimb config passes part steps before begun backs ahead stairs stop → AreSound config passes part before (rail_steps begun) →
      IsClimb config passes part (map step_of_words backs) stop downs ups left back events → IsGuardAt config passes part events g →
      Goes g tries (first_step_ahead left) back Reached new → (output : ℕ) (register : Reg) → output < config.count →
      counts_at config passes events output register ≡ counts_at config passes before output register
