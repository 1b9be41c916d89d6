-- A plan over a life: this project's own choice. Lists are newest first.
use Rattle.std.specs.Prelude.{◌≡◌, ◌⊎◌, ◌<◌, ◌==◌, if◌then◌else◌, ℕ, true, false, List, [], ◌∷◌, ◌++◌, Option, Some, None, Ok}
use Rattle.pm_table.specs.declared.cell.Cell.TheVariants.{Out}
use Rattle.pm_table.specs.declared.reg.Reg.{Reg}
use Rattle.pm_table.specs.declared.reg.Reg.TheVariants.{Operation}
use Rattle.pm_model.specs.Settings.{Words, word_at}
use Rattle.pm_device.specs.declared.config.Config.{Config}
use Rattle.pm_device.specs.Held.{value_for}
use Rattle.pm_host.specs.declared.command.Command.TheVariants.{RestoreUserAll}
use Rattle.pm_host.specs.Refusals.{is_busy}
use Rattle.pm_host.specs.Summary.{possible_at}
use Rattle.pm_host.specs.Transcript as host
use Rattle.pm_limits.specs.declared.part_registers.PartRegisters.{PartRegisters}
use Rattle.pm_limits.specs.declared.output_limits.OutputLimits.{OutputLimits}
use Rattle.pm_limits.specs.Part.{all_registers}
use Rattle.pm_rail.specs.declared.orders.PlanOrder.{PlanOrder}
use Rattle.pm_rail.specs.Known.{known_word}
use Rattle.pm_rail.specs.Laws.{IsStep}
use Rattle.pm_rail.specs.Orders.{is_needed, plan_of}
use Rattle.pm_rail.specs.Plan.{commands_by, goal_of}
use Rattle.pm_rail.specs.Registers.{Held, Wants}
use Rattle.pm_world.specs.declared.event.Event.{Event}
use Rattle.pm_world.specs.Bands.{HoldsMissing}
use Rattle.pm_world.specs.Confirmed.{restarted_since, restarts_converter}
use Rattle.pm_world.specs.Honest.{IsSpelled}
use Rattle.pm_world.specs.Life.{now}
use Rattle.pm_world.specs.Limited.{commands}
use Rattle.pm_world.specs.Lived.{IsLived}
use Rattle.pm_world.specs.Possible.{host_has_read}
use Rattle.pm_world.specs.State.{asked}

-- the words that an output's registers hold after some events
abbrev pub held_at : Config → ℕ → List Event → ℕ → Held
held_at config passes events output register = word_at (now config passes events).device.words (Out output register)

-- the newest order of the output that the later of these events ask for
abbrev pub newest_order : ℕ → Option host.Job → Option PlanOrder → Option PlanOrder
newest_order output (Some (host.Order (Out other register) word)) older =
    if other == output then Some (record { register = register; word = word }) else older
newest_order output job older = older

abbrev pub last_order : Config → ℕ → ℕ → List Event → List Event → Option PlanOrder
last_order config passes output [] before = None
last_order config passes output (event ∷ later) before = newest_order output
    (asked (now config passes (later ++ before)) event) (last_order config passes output later before)

-- the order is the plan's next one by what the host knows of a part with these registers, whatever the limits are, or
-- the last one again
abbrev pub IsPlansOrder : Config → ℕ → PartRegisters → ℕ → Wants → List Event → List Event → PlanOrder → Type 0
IsPlansOrder config passes part output wants later before order =
    ((limits : OutputLimits) × (plan_of part (now config passes (later ++ before)).host limits output wants ≡ Ok (Some order)))
    ⊎ (last_order config passes output later before ≡ Some order)

-- what the host is asked for is no restore, and no order of this output but such a one
abbrev pub MayAsk : Config → ℕ → PartRegisters → ℕ → Wants → List Event → List Event → Option host.Job → Type 0
MayAsk config passes part output wants later before (Some (host.Order (Out other register) word)) = other ≡ output →
    IsPlansOrder config passes part output wants later before (record { register = register; word = word })
MayAsk config passes part output wants later before (Some (host.Send RestoreUserAll)) = ⊥
MayAsk config passes part output wants later before job = Unit {0}

-- each of the later events asks for nothing but such a job, and restarts no converter
abbrev pub Follows : Config → ℕ → PartRegisters → ℕ → Wants → List Event → List Event → Type 0
Follows config passes part output wants [] before = Unit {0}
Follows config passes part output wants (event ∷ later) before =
    (restarts_converter event ≡ false)
    × MayAsk config passes part output wants later before (asked (now config passes (later ++ before)) event)
    × Follows config passes part output wants later before

-- The converter didn't restart since the host last read a register of the output that the plan needs, where it did
-- since the host's start. Of a host that has just started this says nothing.
abbrev pub IsReadSince : Config → ℕ → ℕ → Wants → List Event → Type 0
IsReadSince config passes output wants events = (register : Reg) →
    is_needed (held_at config passes events output) wants register ≡ true →
    host_has_read config passes (Out output register) events ≡ true →
    restarted_since config passes (Out output register) events ≡ false

-- The host is idle before the later ones of these events, and what it has read by then of what the plan needs was read since the
-- converter's last restart. From then on no restore is asked for, each order of the output is the plan's next one by what the host knows as
-- it is accepted, or the last one again, and the converter doesn't restart. Of any two moments from then on, the output commands at the
-- later one what it commands at the earlier one, or what is wanted (`held`): whatever was lost, cut, damaged, repeated or falsely
-- acknowledged, however orders ended, and whatever else was asked for, orders of other outputs too. What has been read by the end was read
-- since the converter's last restart (`read`). Each wanted word, if that is so and the plan has no further order, is the only one that the
-- host calls possible, and the one that the converter holds (`come_true`). What is to be held at the end stays what it was, so that a
-- register of which no word is wanted keeps its word (`goal`). The converter's cell of a VOUT_MIN or VOUT_MAX that the part doesn't have
-- holds the word that never cuts, before the later events and so after them (`missing`).
pub record KeepsPlans (config : Config) (passes : ℕ) (events : List Event) : Type 0 where
  pub held : (part : PartRegisters) (output : ℕ) (wants : Wants) (newer later before : List Event) →
      events ≡ (newer ++ later) ++ before → output < config.count → wants Operation ≡ None →
      is_busy (now config passes before).host ≡ false → IsReadSince config passes output wants before →
      HoldsMissing part config (now config passes before).device.words output →
      Follows config passes part output wants (newer ++ later) before →
      IsStep (commands_by (value_for config output) (goal_of (held_at config passes before output) wants))
      (commands config passes (later ++ before) output) (commands config passes events output)
  pub read : (part : PartRegisters) (output : ℕ) (wants : Wants) (later before : List Event) →
      events ≡ later ++ before → output < config.count → wants Operation ≡ None →
      is_busy (now config passes before).host ≡ false → IsReadSince config passes output wants before →
      HoldsMissing part config (now config passes before).device.words output →
      Follows config passes part output wants later before → IsReadSince config passes output wants events
  pub goal : (part : PartRegisters) (output : ℕ) (wants : Wants) (register : Reg) (later before : List Event) →
      events ≡ later ++ before → output < config.count → wants Operation ≡ None →
      is_busy (now config passes before).host ≡ false → IsReadSince config passes output wants before →
      HoldsMissing part config (now config passes before).device.words output →
      Follows config passes part output wants later before →
      goal_of (held_at config passes events output) wants register ≡ goal_of (held_at config passes before output) wants register
  pub missing : (part : PartRegisters) (output : ℕ) (wants : Wants) (later before : List Event) →
      events ≡ later ++ before → output < config.count → wants Operation ≡ None →
      is_busy (now config passes before).host ≡ false → IsReadSince config passes output wants before →
      HoldsMissing part config (now config passes before).device.words output →
      Follows config passes part output wants later before →
      HoldsMissing part config (now config passes events).device.words output
  pub come_true : (part : PartRegisters) (output : ℕ) (limits : OutputLimits) (wants : Wants) (register : Reg) (word : ℕ) →
      output < config.count → wants Operation ≡ None → IsReadSince config passes output wants events →
      HoldsMissing part config (now config passes events).device.words output →
      plan_of part (now config passes events).host limits output wants ≡ Ok None → wants register ≡ Some word →
      (known_word (Out output register) (possible_at (now config passes events).host (Out output register)) ≡ Some word)
      × (held_at config passes events output register ≡ word)

-- In each life. Of a part with every register nothing is missing (`whole`).
pub record PlansHoldInLives : Type 0 where
  pub keeps : (config : Config) (passes : ℕ) (events : List Event) →
      IsSpelled config → IsLived config passes events → KeepsPlans config passes events
  pub whole : (config : Config) (words : Words) (output : ℕ) → HoldsMissing all_registers config words output
