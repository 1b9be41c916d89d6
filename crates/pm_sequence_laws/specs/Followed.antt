-- How steps are carried out event by event, and what is known where one begins: this project's own choice. Lists are
-- newest first.
use Rattle.std.specs.Prelude.{◌≡◌, ℕ, false, List, [], ◌∷◌, Option, Some, Ok}
use Rattle.pm_table.specs.declared.cell.Cell.TheVariants.{Out}
use Rattle.pm_table.specs.declared.reg.Reg.{Reg}
use Rattle.pm_table.specs.declared.reg.Reg.TheVariants.{Operation}
use Rattle.pm_device.specs.declared.config.Config.{Config}
use Rattle.pm_host.specs.declared.command.Command.TheVariants.{RestoreUserAll}
use Rattle.pm_host.specs.Refusals.{is_busy}
use Rattle.pm_host.specs.Summary.{possible_at}
use Rattle.pm_host.specs.Transcript as host
use Rattle.pm_limits.specs.declared.part_registers.PartRegisters.{PartRegisters}
use Rattle.pm_limits.specs.declared.output_limits.OutputLimits.{OutputLimits}
use Rattle.pm_rail.specs.declared.orders.PlanOrder.{PlanOrder}
use Rattle.pm_rail.specs.Known.{known_word, sole}
use Rattle.pm_rail.specs.Orders.{plan_of}
use Rattle.pm_world.specs.declared.event.Event.{Event}
use Rattle.pm_world.specs.Confirmed.{restarts_converter}
use Rattle.pm_world.specs.Honest.{IsSpelled}
use Rattle.pm_world.specs.Life.{now}
use Rattle.pm_world.specs.Lived.{IsLived}
use Rattle.pm_world.specs.State.{asked}
use Rattle.pm_stairs.specs.Command.{command_of}
use Rattle.pm_sequence_laws.specs.Stairs.{AreOver, AreSound, Deed, IsStairs, MayRest, Nothing, RailStep, Sets, Turns, stair_of}
use Rattle.pm_sequence_laws.specs.Stairs.{stair_start_of}

-- an order that a deed has next, by what the host knows now
abbrev pub IsNextOrder : Config → ℕ → PartRegisters → ℕ → Deed → List Event → Reg → ℕ → Type 0
IsNextOrder config passes part output (Sets wants) events register word = (limits : OutputLimits)
    × (plan_of part (now config passes events).host limits output wants ≡ Ok (Some (record { register = register; word = word })))
IsNextOrder config passes part output (Turns byte) events register word = (register ≡ Operation) × (word ≡ byte)
IsNextOrder config passes part output Nothing events register word = ⊥

-- what the host is asked for is no restore, and no order but such a one
abbrev pub MayNext : Config → ℕ → PartRegisters → ℕ → Deed → List Event → Option host.Job → Type 0
MayNext config passes part output deed events (Some (host.Order (Out other register) word)) =
    (other ≡ output) × IsNextOrder config passes part output deed events register word
MayNext config passes part output deed events (Some (host.Send RestoreUserAll)) = ⊥
MayNext config passes part output deed events job = Unit {0}

-- what is known of an output where a step begins: of each word that is wanted the old one, and of OPERATION the old command
abbrev pub IsKnownFrom : Config → ℕ → PartRegisters → List Event → List RailStep → ℕ → Deed → List Event → Type 0
IsKnownFrom config passes part before done output (Sets wants) events =
    (limits : OutputLimits) (order : Option PlanOrder) (register : Reg) (word : ℕ) →
    plan_of part (now config passes events).host limits output wants ≡ Ok order → wants register ≡ Some word →
    known_word (Out output register) (possible_at (now config passes events).host (Out output register))
    ≡ Some (stair_of (stair_start_of config passes before) done output register)
IsKnownFrom config passes part before done output (Turns byte) events = (word : ℕ) →
    sole (possible_at (now config passes events).host (Out output Operation)) ≡ Some word →
    command_of word ≡ stair_of (stair_start_of config passes before) done output Operation
IsKnownFrom config passes part before done output Nothing events = Unit {0}

-- Steps are carried out event by event. None has begun where the host is idle at first (`none`), and an event that asks for
-- no order of an output, no restore, and restarts no converter, leaves it so (`rest`); where those that have begun are over, another may
-- begin (`begin`); an event that restarts no converter, and asks for no order but the next one of the step under way, leaves
-- that under way (`more`). Where a step begins and its plan has an answer, each word that it is to change is known, and is
-- that of its stair, so that the way back can be noted; and so it is of OPERATION, where that is known (`known`).
pub record StairsAreFollowed : Type 0 where
  pub none : (config : Config) (passes : ℕ) (part : PartRegisters) (before : List Event) →
      is_busy (now config passes before).host ≡ false → IsStairs config passes part before [] before
  pub rest : (config : Config) (passes : ℕ) (part : PartRegisters) (before events : List Event) (event : Event) →
      IsStairs config passes part before [] events → restarts_converter event ≡ false →
      MayRest (asked (now config passes events) event) → IsStairs config passes part before [] (event ∷ events)
  pub begin : (config : Config) (passes : ℕ) (part : PartRegisters) (before events : List Event) (step : RailStep)
      (done : List RailStep) →
      IsStairs config passes part before done events → AreOver config passes part done events →
      IsStairs config passes part before (step ∷ done) events
  pub more : (config : Config) (passes : ℕ) (part : PartRegisters) (before events : List Event) (event : Event) (step : RailStep)
      (done : List RailStep) →
      IsStairs config passes part before (step ∷ done) events → restarts_converter event ≡ false →
      MayNext config passes part step.output step.deed events (asked (now config passes events) event) →
      IsStairs config passes part before (step ∷ done) (event ∷ events)
  pub known : (config : Config) (passes : ℕ) (part : PartRegisters) (before events : List Event) (step : RailStep)
      (done : List RailStep) →
      IsSpelled config → IsLived config passes events → AreSound config passes part before (step ∷ done) →
      IsStairs config passes part before done events → AreOver config passes part done events →
      IsKnownFrom config passes part before done step.output step.deed events
