-- What limits of an output are worth over a life: this project's own choice. Lists are newest first.
use Rattle.std.specs.Prelude.{◌≡◌, ◌⊎◌, ◌<◌, ℕ, true, None, Some, List, [], ◌∷◌, ◌++◌, option_and_then, slice_index_or}
use Rattle.pm_num.specs.Ratio.{Ratio, AtMost, micros}
use Rattle.pm_table.specs.declared.reg.Reg.{Reg}
use Rattle.pm_table.specs.declared.reg.Reg.TheVariants.{VoutMax, VoutMin}
use Rattle.pm_table.specs.declared.cell.Cell.TheVariants.{Out}
use Rattle.pm_table.specs.Cell.{is_voltage}
use Rattle.pm_model.specs.Commanded.{commanded}
use Rattle.pm_device.specs.declared.config.Config.{Config}
use Rattle.pm_device.specs.Held.{value_for}
use Rattle.pm_device.specs.Start.{start_word}
use Rattle.pm_host.specs.Transcript as host
use Rattle.pm_limits.specs.declared.part_registers.PartRegisters.{PartRegisters}
use Rattle.pm_limits.specs.declared.output_limits.OutputLimits.{OutputLimits}
use Rattle.pm_limits.specs.declared.output_limits.OutputLimits.TheVariants.{Unlimited, Between}
use Rattle.pm_limits.specs.Bounds.{Bounds, IsWithin}
use Rattle.pm_limits.specs.Guard.{guard_fault}
use Rattle.pm_world.specs.declared.event.Event.{Event}
use Rattle.pm_world.specs.Job.{asked_by}
use Rattle.pm_world.specs.Life.{now}
use Rattle.pm_world.specs.Retelling.{IsOwnWord}
use Rattle.pm_world.specs.State.{asked}

-- the voltage that an output commands after some events
abbrev pub commands : Config → ℕ → List Event → ℕ → Ratio
commands config passes events output =
    commanded (value_for config output) (now config passes events).device.words output

-- What limits ask of a word: of a register that a byte of OPERATION may select, that its value lies within them; of
-- VOUT_MAX, that its value is at least the least of them; of VOUT_MIN, that it is at most the most. A value within the
-- limits that is cut to such a VOUT_MIN and VOUT_MAX stays within them.
abbrev pub WordWithin : Reg → Bounds → Ratio → Type 0
WordWithin VoutMax bounds value = AtMost (micros bounds.least) value
WordWithin VoutMin bounds value = AtMost value (micros bounds.most)
WordWithin register bounds value = IsWithin bounds value

-- Each start word of an output's voltages is one that the limits allow, and so is each that was ordered for one.
abbrev pub OwnWithin : Config → ℕ → List Event → ℕ → Bounds → Type 0
OwnWithin config passes events output bounds = (register : Reg) (word : ℕ) → is_voltage register ≡ true →
    IsOwnWord config passes events (Out output register) word → WordWithin register bounds (value_for config output word)

-- the start words alone
abbrev pub StartsWithin : Config → ℕ → Bounds → Type 0
StartsWithin config output bounds = (register : Reg) → is_voltage register ≡ true →
    WordWithin register bounds (value_for config output (start_word config (Out output register)))

-- each order of an output's voltages that the later of these events ask for, as the host takes it, is of a word
-- within these limits
abbrev pub OrdersWithin : Config → ℕ → List Event → List Event → ℕ → Bounds → Type 0
OrdersWithin config passes [] before output bounds = Unit {0}
OrdersWithin config passes (event ∷ later) before output bounds =
    ((register : Reg) (word : ℕ) → is_voltage register ≡ true →
    asked (now config passes (later ++ before)) event ≡ Some (host.Order (Out output register) word) →
    IsWithin bounds (value_for config output word))
    × OrdersWithin config passes later before output bounds

-- each word of VOUT_MAX has a value of at most this
abbrev pub MaxAtMost : Config → ℕ → List Event → ℕ → Ratio → Type 0
MaxAtMost config passes events output most = (word : ℕ) →
    IsOwnWord config passes events (Out output VoutMax) word → AtMost (value_for config output word) most

-- each word of VOUT_MIN has a value of at least this, and of at most that of each word of VOUT_MAX
pub record MinAtLeast (config : Config) (passes : ℕ) (events : List Event) (output : ℕ) (least : Ratio) : Type 0 where
  pub above : (word : ℕ) →
      IsOwnWord config passes events (Out output VoutMin) word → AtMost least (value_for config output word)
  pub below : (word most : ℕ) →
      IsOwnWord config passes events (Out output VoutMin) word →
      IsOwnWord config passes events (Out output VoutMax) most →
      AtMost (value_for config output word) (value_for config output most)

-- each job that was asked for is one that a guard with these limits, of a part with these registers, lets through
abbrev pub AreGuarded : Config → ℕ → PartRegisters → List OutputLimits → List Event → Type 0
AreGuarded config passes part limits [] = Unit {0}
AreGuarded config passes part limits (event ∷ before) =
    (option_and_then (guard_fault (record { host = (now config passes before).host; limits = limits; registers = part }))
    (asked_by event) ≡ None)
    × AreGuarded config passes part limits before

-- At each moment of the events, whatever was lost, cut, damaged or repeated, and whichever end restarted: an output
-- whose own words are all within limits commands a voltage within them (`limited`); it commands no more than the
-- most of all words of its VOUT_MAX, whatever else was ordered (`most`), and no less than the least of VOUT_MIN's
-- (`least`). Where each job went through a guard, each own word that isn't the start word lies within its limits
-- (`ordered`), so where the limits allow the start words they allow all own words (`guarded`). An own word is one of
-- before, or lies within limits that all later orders are within (`newer`), so words that are all allowed stay so (`kept`).
pub record StaysLimited (config : Config) (passes : ℕ) (events : List Event) : Type 0 where
  pub limited : (output : ℕ) (bounds : Bounds) (later before : List Event) → output < config.count →
      events ≡ later ++ before → OwnWithin config passes events output bounds →
      IsWithin bounds (commands config passes before output)
  pub most : (output : ℕ) (most : Ratio) (later before : List Event) → output < config.count →
      events ≡ later ++ before → MaxAtMost config passes events output most →
      AtMost (commands config passes before output) most
  pub least : (output : ℕ) (least : Ratio) (later before : List Event) → output < config.count →
      events ≡ later ++ before → MinAtLeast config passes events output least →
      AtMost least (commands config passes before output)
  pub guarded : (output : ℕ) (bounds : Bounds) (part : PartRegisters) (limits : List OutputLimits) → output < config.count →
      slice_index_or limits output Unlimited ≡ Between bounds → AreGuarded config passes part limits events →
      StartsWithin config output bounds → OwnWithin config passes events output bounds
  pub ordered : (output : ℕ) (bounds : Bounds) (part : PartRegisters) (limits : List OutputLimits) → output < config.count →
      slice_index_or limits output Unlimited ≡ Between bounds → AreGuarded config passes part limits events →
      (register : Reg) (word : ℕ) → is_voltage register ≡ true →
      IsOwnWord config passes events (Out output register) word →
      (word ≡ start_word config (Out output register)) ⊎ IsWithin bounds (value_for config output word)
  pub newer : (output : ℕ) (bounds : Bounds) (later before : List Event) → events ≡ later ++ before →
      OrdersWithin config passes later before output bounds →
      (register : Reg) (word : ℕ) → is_voltage register ≡ true →
      IsOwnWord config passes events (Out output register) word →
      IsOwnWord config passes before (Out output register) word ⊎ IsWithin bounds (value_for config output word)
  pub kept : (output : ℕ) (bounds : Bounds) (later before : List Event) → events ≡ later ++ before →
      OwnWithin config passes before output bounds → OrdersWithin config passes later before output bounds →
      OwnWithin config passes events output bounds
