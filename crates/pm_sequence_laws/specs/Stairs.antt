-- Steps of several outputs, one after another: this project's own choice. Lists are newest first; a list of steps has the
-- step that is under way first, and then those that are over.
use Rattle.std.specs.Prelude.{◌≡◌, ◌⊎◌, ◌<◌, ◌==◌, if◌then◌else◌, ℕ, Bool, true, false, List, [], ◌∷◌, ◌++◌, Option, Some, None, Ok}
use Rattle.pm_num.specs.Ratio.{Ratio}
use Rattle.pm_table.specs.declared.cell.Cell.{Cell}
use Rattle.pm_table.specs.declared.cell.Cell.TheVariants.{Out}
use Rattle.pm_table.specs.declared.reg.Reg.{Reg}
use Rattle.pm_table.specs.declared.reg.Reg.TheVariants.{Operation}
use Rattle.pm_table.specs.Operation.{has_on}
use Rattle.pm_model.specs.Commanded.{Scale}
use Rattle.pm_device.specs.declared.config.Config.{Config}
use Rattle.pm_device.specs.Held.{value_for}
use Rattle.pm_host.specs.declared.command.Command.TheVariants.{RestoreUserAll}
use Rattle.pm_host.specs.Refusals.{is_busy}
use Rattle.pm_host.specs.Summary.{possible_at}
use Rattle.pm_host.specs.Transcript as host
use Rattle.pm_limits.specs.declared.part_registers.PartRegisters.{PartRegisters}
use Rattle.pm_limits.specs.declared.output_limits.OutputLimits.{OutputLimits}
use Rattle.pm_rail.specs.Known.{known_word}
use Rattle.pm_rail.specs.Orders.{is_needed, plan_of}
use Rattle.pm_rail.specs.Plan.{commands_by, goal_of, put}
use Rattle.pm_rail.specs.Registers.{Held, Wants}
use Rattle.pm_world.specs.declared.event.Event.{Event}
use Rattle.pm_world.specs.Bands.{HoldsMissing}
use Rattle.pm_world.specs.Confirmed.{restarted_since, restarts_converter}
use Rattle.pm_world.specs.Honest.{IsSpelled}
use Rattle.pm_world.specs.Life.{now}
use Rattle.pm_world.specs.Limited.{commands}
use Rattle.pm_world.specs.Lived.{IsLived}
use Rattle.pm_world.specs.Plans.{IsPlansOrder, held_at}
use Rattle.pm_world.specs.Possible.{host_has_read}
use Rattle.pm_world.specs.State.{asked}
use Rattle.pm_stairs.specs.Command.{command_of, same_command}

-- ---- Steps and stairs ----

-- what a step does to its output: it gives its settings the wanted words, by the plan, or it turns it on or off by this
-- byte of OPERATION, or it orders nothing
pub data Deed : Type 0 where
  Sets : (wants : Wants) → Deed
  Turns : (byte : ℕ) → Deed
  Nothing : Deed

pub record RailStep : Type 0 where
  pub output : ℕ
  pub deed : Deed

-- A word of a register that counts: of OPERATION its command, without the bits that don't count.
abbrev pub counting_word : Reg → ℕ → ℕ
counting_word Operation word = command_of word
counting_word register word = word

abbrev pub counts : Held → Held
counts held register = counting_word register (held register)

-- the words of an output after a deed, as far as they count
abbrev pub done_to : Held → Deed → Held
done_to held (Sets wants) = goal_of held wants
done_to held (Turns byte) = put held Operation (command_of byte)
done_to held Nothing = held

-- the words of each output's registers
abbrev pub Rails : Type 0
Rails = ℕ → Held

-- A stair: the words of each output after these steps, which are newest first, as far as they count.
abbrev pub stair_of : Rails → List RailStep → Rails
stair_of start [] output = start output
stair_of start (step ∷ done) output =
    if output == step.output then done_to (stair_of start done output) step.deed else stair_of start done output

-- what an output does by its words: whether it is on, and which voltage it commands, of the register that OPERATION selects
-- where it is off too
pub record Stand : Type 0 where
  pub on : Bool
  pub volts : Ratio

abbrev pub stand_by : Scale → Held → Stand
stand_by value held = record { on = has_on (held Operation); volts = commands_by value held }

abbrev pub stands_at : Config → ℕ → List Event → ℕ → Stand
stands_at config passes events output =
    record { on = has_on (held_at config passes events output Operation); volts = commands config passes events output }

-- the words of an output's registers at a moment, as far as they count
abbrev pub counts_at : Config → ℕ → List Event → ℕ → Held
counts_at config passes events output = counts (held_at config passes events output)

-- the stair of these steps, from what each output's words were before
abbrev pub stair_start_of : Config → ℕ → List Event → Rails
stair_start_of config passes before output = counts_at config passes before output

abbrev pub stair_stand : Config → ℕ → List Event → List RailStep → ℕ → Stand
stair_stand config passes before steps output =
    stand_by (value_for config output) (stair_of (stair_start_of config passes before) steps output)

-- ---- What is done, one step after another ----

-- the order is one of a deed's: of the plan's next one, or the last one again; or of the byte of OPERATION; or there is none
abbrev pub IsDeedsOrder : Config → ℕ → PartRegisters → ℕ → Deed → List Event → List Event → Reg → ℕ → Type 0
IsDeedsOrder config passes part output (Sets wants) later before register word =
    IsPlansOrder config passes part output wants later before (record { register = register; word = word })
IsDeedsOrder config passes part output (Turns byte) later before register word = (register ≡ Operation) × (word ≡ byte)
IsDeedsOrder config passes part output Nothing later before register word = ⊥

-- what the host is asked for is no restore, and no order of any output but one of this deed for its own
abbrev pub AsksWithinDeed : Config → ℕ → PartRegisters → ℕ → Deed → List Event → List Event → Option host.Job → Type 0
AsksWithinDeed config passes part output deed later before (Some (host.Order (Out other register) word)) =
    (other ≡ output) × IsDeedsOrder config passes part output deed later before register word
AsksWithinDeed config passes part output deed later before (Some (host.Send RestoreUserAll)) = ⊥
AsksWithinDeed config passes part output deed later before job = Unit {0}

-- each of the later events asks for nothing but such a job, and restarts no converter
abbrev pub IsOfStep : Config → ℕ → PartRegisters → ℕ → Deed → List Event → List Event → Type 0
IsOfStep config passes part output deed [] before = Unit {0}
IsOfStep config passes part output deed (event ∷ later) before =
    (restarts_converter event ≡ false)
    × AsksWithinDeed config passes part output deed later before (asked (now config passes (later ++ before)) event)
    × IsOfStep config passes part output deed later before

-- before the first step: no order of any output, and no restore; what the host knows may be read
abbrev pub MayRest : Option host.Job → Type 0
MayRest (Some (host.Order (Out output register) word)) = ⊥
MayRest (Some (host.Send RestoreUserAll)) = ⊥
MayRest job = Unit {0}

abbrev pub IsAtRest : Config → ℕ → List Event → List Event → Type 0
IsAtRest config passes [] before = Unit {0}
IsAtRest config passes (event ∷ later) before =
    (restarts_converter event ≡ false)
    × MayRest (asked (now config passes (later ++ before)) event)
    × IsAtRest config passes later before

-- A step is over by what the host knows: the plan has no further order, whatever the limits are; or the host is idle, and
-- OPERATION is known to hold a byte that is the command which is wanted; or the host is idle, where nothing is ordered
abbrev pub IsOver : Config → ℕ → PartRegisters → ℕ → Deed → List Event → Type 0
IsOver config passes part output (Sets wants) events =
    (limits : OutputLimits) × (plan_of part (now config passes events).host limits output wants ≡ Ok None)
IsOver config passes part output (Turns byte) events =
    (is_busy (now config passes events).host ≡ false)
    × ((word : ℕ) × (known_word (Out output Operation) (possible_at (now config passes events).host (Out output Operation)) ≡ Some word)
    × (same_command byte word ≡ true))
IsOver config passes part output Nothing events = is_busy (now config passes events).host ≡ false

-- the last of the steps is over; where there is none, the host is idle
abbrev pub AreOver : Config → ℕ → PartRegisters → List RailStep → List Event → Type 0
AreOver config passes part [] events = is_busy (now config passes events).host ≡ false
AreOver config passes part (step ∷ done) events = IsOver config passes part step.output step.deed events

-- The steps, from a moment on at which the host is idle: none has begun, and nothing was ordered; or those before the newest
-- were carried out by the older events, the last of these was over then, and what came since is of the newest step, which is
-- under way.
pub data IsStairs (config : Config) (passes : ℕ) (part : PartRegisters) (before : List Event) :
    List RailStep → List Event → Type 0 where
  stands : (later : List Event) → is_busy (now config passes before).host ≡ false → IsAtRest config passes later before →
      IsStairs config passes part before [] (later ++ before)
  climbs : (step : RailStep) (done : List RailStep) (newer older : List Event) →
      IsStairs config passes part before done older → AreOver config passes part done older →
      IsOfStep config passes part step.output step.deed newer older → IsStairs config passes part before (step ∷ done) (newer ++ older)

-- ---- What is asked of the steps ----

-- The converter didn't restart since the host last read a register that a step needs, at its own stair, where it did since
-- the host's start. Of a host that has just started this says nothing.
abbrev pub IsReadFor : Config → ℕ → ℕ → Deed → Held → List Event → Type 0
IsReadFor config passes output (Sets wants) held before = (register : Reg) →
    is_needed held wants register ≡ true →
    host_has_read config passes (Out output register) before ≡ true →
    restarted_since config passes (Out output register) before ≡ false
IsReadFor config passes output (Turns byte) held before =
    host_has_read config passes (Out output Operation) before ≡ true →
    restarted_since config passes (Out output Operation) before ≡ false
IsReadFor config passes output Nothing held before = Unit {0}

-- the settings of a step have no word of OPERATION
abbrev pub TurnsNothing : Deed → Type 0
TurnsNothing (Sets wants) = wants Operation ≡ None
TurnsNothing (Turns byte) = Unit {0}
TurnsNothing Nothing = Unit {0}

-- The output is there; what the host has read of it was read since the converter's last restart; and where the part doesn't
-- have VOUT_MIN or VOUT_MAX, the converter's cell holds the word that never cuts.
pub record IsSoundStep (config : Config) (passes : ℕ) (part : PartRegisters) (before : List Event) (step : RailStep) (held : Held)
    : Type 0 where
  pub here : step.output < config.count
  pub still : TurnsNothing step.deed
  pub read : IsReadFor config passes step.output step.deed held before
  pub missing : HoldsMissing part config (now config passes before).device.words step.output

-- each of the steps, at its own stair
abbrev pub AreSound : Config → ℕ → PartRegisters → List Event → List RailStep → Type 0
AreSound config passes part before [] = Unit {0}
AreSound config passes part before (step ∷ done) =
    IsSoundStep config passes part before step (stair_of (stair_start_of config passes before) done step.output)
    × AreSound config passes part before done

-- ---- What holds ----

-- The outputs stand at the start, where no step has begun. Otherwise all but that of the step under way hold the words
-- of the stair of those before it, but for bits of OPERATION that don't count; and that one stands as at this stair, or as at the next.
abbrev pub IsBetween : Config → ℕ → List Event → List RailStep → List Event → Type 0
IsBetween config passes before [] events = (output : ℕ) (register : Reg) → output < config.count →
    held_at config passes events output register ≡ held_at config passes before output register
IsBetween config passes before (step ∷ done) events =
    ((output : ℕ) (register : Reg) → output < config.count → (output == step.output) ≡ false →
    counts_at config passes events output register ≡ stair_of (stair_start_of config passes before) done output register)
    × ((stands_at config passes events step.output ≡ stair_stand config passes before done step.output)
    ⊎ (stands_at config passes events step.output ≡ stair_stand config passes before (step ∷ done) step.output))

-- while a step is under way its output goes on as it stands, or as at its own stair
abbrev pub GoesOn : Config → ℕ → List Event → List RailStep → List Event → List Event → Type 0
GoesOn config passes before [] earlier events = Unit {0}
GoesOn config passes before (step ∷ done) earlier events =
    (stands_at config passes events step.output ≡ stands_at config passes earlier step.output)
    ⊎ (stands_at config passes events step.output ≡ stair_stand config passes before (step ∷ done) step.output)

-- An earlier moment of the same steps: the first so many of them had begun by then, and the outputs were at their stairs.
-- Where it was as many, the step under way was the same, and went on.
pub record WasBetween (config : Config) (passes : ℕ) (part : PartRegisters) (before : List Event) (steps : List RailStep)
    (earlier events : List Event) : Type 0 where
  pub ahead : List RailStep
  pub begun : List RailStep
  pub is : steps ≡ ahead ++ begun
  pub climbed : IsStairs config passes part before begun earlier
  pub between : IsBetween config passes before begun earlier
  pub on : ahead ≡ [] → GoesOn config passes before begun earlier events

-- Steps are carried out one after another, whatever is lost, cut, damaged, repeated or falsely acknowledged, and
-- however orders end: at each moment the outputs are at the stair of the steps before the one under way, but for the output
-- of that, which stands as at this stair or as at the next (`between`), so that each stands as at one of these two (`each`);
-- at an earlier moment fewer steps or the same had begun, and it held there too (`earlier`): so no stair is skipped, and none
-- comes again. Where the last step is over, by what the host knows, each output holds the words of its stair, but for bits of OPERATION
-- that don't count (`over`). What is
-- asked of other steps before is so afterwards (`read`, `missing`), so that others may follow, wherever these were stopped.
pub record KeepsStairs (config : Config) (passes : ℕ) (events : List Event) : Type 0 where
  pub between : (part : PartRegisters) (steps : List RailStep) (before : List Event) →
      AreSound config passes part before steps → IsStairs config passes part before steps events →
      IsBetween config passes before steps events
  pub each : (part : PartRegisters) (step : RailStep) (done : List RailStep) (before : List Event) →
      AreSound config passes part before (step ∷ done) → IsStairs config passes part before (step ∷ done) events →
      (output : ℕ) → output < config.count →
      (stands_at config passes events output ≡ stair_stand config passes before done output)
      ⊎ (stands_at config passes events output ≡ stair_stand config passes before (step ∷ done) output)
  pub earlier : (part : PartRegisters) (steps : List RailStep) (newer later before : List Event) →
      events ≡ newer ++ (later ++ before) →
      AreSound config passes part before steps → IsStairs config passes part before steps events →
      WasBetween config passes part before steps (later ++ before) events
  pub over : (part : PartRegisters) (steps : List RailStep) (before : List Event) →
      AreSound config passes part before steps → IsStairs config passes part before steps events →
      AreOver config passes part steps events → (output : ℕ) (register : Reg) → output < config.count →
      counts_at config passes events output register ≡ stair_of (stair_start_of config passes before) steps output register
  pub read : (part : PartRegisters) (steps : List RailStep) (before : List Event) (cell : Cell) →
      AreSound config passes part before steps → IsStairs config passes part before steps events →
      (host_has_read config passes cell before ≡ true → restarted_since config passes cell before ≡ false) →
      host_has_read config passes cell events ≡ true → restarted_since config passes cell events ≡ false
  pub missing : (part : PartRegisters) (steps : List RailStep) (before : List Event) (output : ℕ) →
      AreSound config passes part before steps → IsStairs config passes part before steps events → output < config.count →
      HoldsMissing part config (now config passes before).device.words output →
      HoldsMissing part config (now config passes events).device.words output

-- in each life
abbrev pub StairsHoldInLives : Type 0
StairsHoldInLives = (config : Config) (passes : ℕ) (events : List Event) →
    IsSpelled config → IsLived config passes events → KeepsStairs config passes events
