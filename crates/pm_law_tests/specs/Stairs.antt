-- What steps of several outputs are worth for a caller, of the events of a run.
use Rattle.std.specs.Prelude.{◌≡◌, ◌⊎◌, ◌<◌, ℕ, Bool, true, false, List, [], ◌∷◌, ◌++◌, map}
use Rattle.pm_table.specs.declared.cell.Cell.{Cell}
use Rattle.pm_table.specs.declared.reg.Reg.{Reg}
use Rattle.pm_table.specs.Cell.{IsCell}
use Rattle.pm_model.specs.Settings.{word_at}
use Rattle.pm_device.specs.declared.config.Config.{Config}
use Rattle.pm_host.specs.Refusals.{is_busy}
use Rattle.pm_limits.specs.declared.part_registers.PartRegisters.{PartRegisters}
use Rattle.pm_limits.specs.Guard.{Guarded}
use Rattle.pm_stairs.specs.declared.stairs.Move.TheVariants.{Reached}
use Rattle.pm_stairs.specs.declared.stairs.Stairs.{Stairs}
use Rattle.pm_stairs.specs.declared.step.Step.{Step}
use Rattle.pm_stairs.specs.declared.step.WordStep.{WordStep}
use Rattle.pm_stairs.specs.Stairs.{Goes}
use Rattle.pm_stairs.specs.Steps.{step_of_words}
use Rattle.pm_world.specs.declared.event.Event.{Event}
use Rattle.pm_world.specs.Life.{now}
use Rattle.pm_world.specs.Lived.{IsLived}
use Rattle.pm_world.specs.Moves.{words_at}
use Rattle.pm_sequence_laws.specs.Back.{GoesBack, counted_step, downs_of}
use Rattle.pm_sequence_laws.specs.Climb.{IsClimb, IsGuardAt, first_step_ahead, rail_steps}
use Rattle.pm_sequence_laws.specs.Ordered.{OrdersOnly}
use Rattle.pm_sequence_laws.specs.Stairs.{AreOver, AreSound, IsStairs, RailStep, counts_at, stair_start_of}

-- a cell takes what is ordered for it, and nothing else
abbrev pub CellsTake : Config → ℕ → List Event → Type 0
CellsTake config passes events = (cell : Cell) (allowed : ℕ → Bool) (newer later before : List Event) →
    events ≡ newer ++ (later ++ before) → IsCell config.count cell → is_busy (now config passes before).host ≡ false →
    OrdersOnly config passes cell allowed later before → OrdersOnly config passes cell allowed newer (later ++ before) →
    (word_at (words_at config passes events) cell ≡ word_at (words_at config passes (later ++ before)) cell)
    ⊎ (allowed (word_at (words_at config passes events) cell) ≡ true)

-- wherever steps were stopped, there is a way back
abbrev pub StopsHaveAWayBack : Config → ℕ → List Event → Type 0
StopsHaveAWayBack config passes events = (part : PartRegisters) (before : List Event) (step : RailStep) (newest left : List RailStep) →
    AreSound config passes part before (step ∷ newest ++ left) → IsStairs config passes part before (step ∷ newest ++ left) events →
    GoesBack config passes part before events step newest left

-- each register has its word of before where that way is over, but for bits of OPERATION that don't count
abbrev pub ComesBack : Config → ℕ → List Event → Type 0
ComesBack config passes events = (part : PartRegisters) (before stop : List Event) (step : RailStep) (newest downs : List RailStep) →
    AreSound config passes part before (step ∷ newest) → IsStairs config passes part before (step ∷ newest) stop →
    map counted_step downs ≡ downs_of (stair_start_of config passes before) (step ∷ newest) [] [] →
    IsStairs config passes part stop downs events → AreOver config passes part downs events →
    (output : ℕ) (register : Reg) → output < config.count →
    counts_at config passes events output register ≡ counts_at config passes before output register

-- a caller that stopped, and went back by the stairs until they said that all is reached
abbrev pub ClimbsReturn : Config → ℕ → List Event → Type 0
ClimbsReturn config passes events = (part : PartRegisters) (steps : List Step) (before : List Event) (begun backs : List WordStep)
    (ahead : List Step) (stairs : Stairs) (stop : List Event) (downs ups : List WordStep) (left : List Step) (back new : Stairs)
    (g : Guarded) (tries : ℕ) → IsLived config passes stop →
    IsClimb config passes part steps before begun backs ahead stairs stop → AreSound config passes part before (rail_steps begun) →
    IsClimb config passes part (map step_of_words backs) stop downs ups left back events → IsGuardAt config passes part events g →
    Goes g tries (first_step_ahead left) back Reached new → (output : ℕ) (register : Reg) → output < config.count →
    counts_at config passes events output register ≡ counts_at config passes before output register
