-- The way back: the steps undone, the newest first: this project's own choice. Lists are newest first.
use Rattle.std.specs.Prelude.{◌≡◌, ◌<◌, ℕ, List, [], ◌∷◌, ◌++◌, map, option_map}
use Rattle.pm_table.specs.declared.reg.Reg.{Reg}
use Rattle.pm_table.specs.declared.reg.Reg.TheVariants.{Operation}
use Rattle.pm_device.specs.declared.config.Config.{Config}
use Rattle.pm_limits.specs.declared.part_registers.PartRegisters.{PartRegisters}
use Rattle.pm_rail.specs.Registers.{Held}
use Rattle.pm_world.specs.declared.event.Event.{Event}
use Rattle.pm_world.specs.Honest.{IsSpelled}
use Rattle.pm_world.specs.Lived.{IsLived}
use Rattle.pm_stairs.specs.Command.{command_of}
use Rattle.pm_sequence_laws.specs.Stairs.{AreOver, AreSound, Deed, IsStairs, Nothing, RailStep, Rails, Sets, Turns, counts_at, stair_of, stair_start_of}

-- what undoes a deed, by the words of before: each register of which a word was wanted gets its old one
abbrev pub undoing_deed : Held → Deed → Deed
undoing_deed held (Sets wants) = Sets (λ register. option_map (λ word. held register) (wants register))
undoing_deed held (Turns byte) = Turns (held Operation)
undoing_deed held Nothing = Nothing

-- the step that undoes a step, which came after those that are done
abbrev pub back_step : Rails → List RailStep → RailStep → RailStep
back_step start done step =
    record { output = step.output; deed = undoing_deed (stair_of start done step.output) step.deed }

-- a step, of whose byte only the command counts
abbrev pub counted_deed : Deed → Deed
counted_deed (Sets wants) = Sets wants
counted_deed (Turns byte) = Turns (command_of byte)
counted_deed Nothing = Nothing

abbrev pub counted_step : RailStep → RailStep
counted_step step = record { output = step.output; deed = counted_deed step.deed }

-- The steps that undo the newest ones, so that these are left: the newest is undone first. They come upon those that have
-- undone others already.
abbrev pub downs_of : Rails → List RailStep → List RailStep → List RailStep → List RailStep
downs_of start [] left downs = downs
downs_of start (step ∷ newest) left downs = downs_of start newest left (back_step start (newest ++ left) step ∷ downs)

-- At any moment of steps that are carried out one after another, wherever they were stopped: the steps that undo the newest
-- of them, that under way at least, lead from there to the stair of those that are left (`words`), and what is asked of
-- steps is so of them (`sound`). So they are steps of which `KeepsStairs` speaks, and their stairs are those of the way up,
-- the other way round. Where all are undone and the last is over, each register of each output has its word of before, but for bits of
-- OPERATION that don't count (`back`).
pub record GoesBack (config : Config) (passes : ℕ) (part : PartRegisters) (before stop : List Event) (step : RailStep)
    (newest left : List RailStep) : Type 0 where
  pub words : (output : ℕ) (register : Reg) → output < config.count →
      stair_of (stair_start_of config passes stop) (downs_of (stair_start_of config passes before) (step ∷ newest) left []) output register
      ≡ stair_of (stair_start_of config passes before) left output register
  pub sound : AreSound config passes part stop (downs_of (stair_start_of config passes before) (step ∷ newest) left [])

pub record StairsGoBack : Type 0 where
  pub there : (config : Config) (passes : ℕ) (part : PartRegisters) (before stop : List Event) (step : RailStep)
      (newest left : List RailStep) →
      IsSpelled config → IsLived config passes stop →
      AreSound config passes part before (step ∷ newest ++ left) → IsStairs config passes part before (step ∷ newest ++ left) stop →
      GoesBack config passes part before stop step newest left
  pub back : (config : Config) (passes : ℕ) (part : PartRegisters) (before stop events : List Event) (step : RailStep)
      (newest downs : List RailStep) →
      IsSpelled config → IsLived config passes events →
      AreSound config passes part before (step ∷ newest) → IsStairs config passes part before (step ∷ newest) stop →
      map counted_step downs ≡ downs_of (stair_start_of config passes before) (step ∷ newest) [] [] →
      IsStairs config passes part stop downs events → AreOver config passes part downs events →
      (output : ℕ) (register : Reg) → output < config.count →
      counts_at config passes events output register ≡ counts_at config passes before output register
