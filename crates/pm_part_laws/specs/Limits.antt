-- What limits and bands are worth beside a part as it is: this project's own choice. Lists are newest first.
use Rattle.std.specs.Prelude.{◌≡◌, ◌≢◌, ◌⊎◌, ◌<◌, ℕ, true, false, None, Some, List, [], ◌∷◌, ◌++◌, option_and_then, slice_index_or}
use Rattle.pm_num.specs.Ratio.{Ratio, AtMost}
use Rattle.pm_table.specs.declared.reg.Reg.{Reg}
use Rattle.pm_table.specs.declared.reg.Reg.TheVariants.{VoutMax, VoutMin}
use Rattle.pm_table.specs.declared.cell.Cell.TheVariants.{Out}
use Rattle.pm_table.specs.Cell.{is_voltage}
use Rattle.pm_model.specs.Settings.{word_at}
use Rattle.pm_device.specs.Held.{Held, value_for}
use Rattle.pm_host.specs.declared.knowledge.Possible.TheVariants.{Any}
use Rattle.pm_host.specs.Summary.{possible_at}
use Rattle.pm_host.specs.Transcript as host
use Rattle.pm_limits.specs.declared.band.Band.{Band}
use Rattle.pm_limits.specs.declared.part_registers.PartRegisters.{PartRegisters}
use Rattle.pm_limits.specs.declared.output_limits.OutputLimits.{OutputLimits}
use Rattle.pm_limits.specs.declared.output_limits.OutputLimits.TheVariants.{Unlimited, Between}
use Rattle.pm_limits.specs.Band.{InBand, band_at, decides}
use Rattle.pm_limits.specs.Bounds.{Bounds, IsWithin}
use Rattle.pm_limits.specs.Guard.{guard_fault}
use Rattle.pm_world.specs.Bands.{AreShort, HoldsMissing}
use Rattle.pm_world.specs.Job.{asked_by}
use Rattle.pm_world.specs.Limited.{WordWithin}
use Rattle.pm_world.specs.State.{asked}
use Rattle.pm_part_laws.specs.Answers.{restarted_since_beside}
use Rattle.pm_part_laws.specs.Happenings.{Happening, Happens, Hears, IsLifeBeside, beside}
use Rattle.pm_part_laws.specs.OwnWords.{IsOwnWordBeside, commands_beside}

-- the limits allow each of an output's own words
abbrev pub OwnWithinBeside : Held → ℕ → List Happening → ℕ → Bounds → Type 0
OwnWithinBeside held passes happened output bounds = (register : Reg) (word : ℕ) → is_voltage register ≡ true →
    IsOwnWordBeside held passes happened output register word → WordWithin register bounds (value_for held.config output word)

-- the limits allow what the part held and had stored of the output's voltages as the host began
abbrev pub BeginsWithin : Held → ℕ → Bounds → Type 0
BeginsWithin held output bounds = (register : Reg) → is_voltage register ≡ true →
    WordWithin register bounds (value_for held.config output (word_at held.words (Out output register)))
    × WordWithin register bounds (value_for held.config output (word_at held.store (Out output register)))

-- each own word of VOUT_MAX has a value of at most this
abbrev pub MaxAtMostBeside : Held → ℕ → List Happening → ℕ → Ratio → Type 0
MaxAtMostBeside held passes happened output most = (word : ℕ) →
    IsOwnWordBeside held passes happened output VoutMax word → AtMost (value_for held.config output word) most

-- each own word of VOUT_MIN has a value of at least this, and of at most that of each own word of VOUT_MAX
pub record MinAtLeast (held : Held) (passes : ℕ) (happened : List Happening) (output : ℕ) (least : Ratio) : Type 0 where
  pub above : (word : ℕ) → IsOwnWordBeside held passes happened output VoutMin word → AtMost least (value_for held.config output word)
  pub below : (word most : ℕ) → IsOwnWordBeside held passes happened output VoutMin word →
      IsOwnWordBeside held passes happened output VoutMax most →
      AtMost (value_for held.config output word) (value_for held.config output most)

-- each order of an output's voltages that the host accepted later is of a word within these limits
abbrev pub OrdersWithinBeside : Held → ℕ → List Happening → List Happening → ℕ → Bounds → Type 0
OrdersWithinBeside held passes [] before output bounds = Unit {0}
OrdersWithinBeside held passes (Happens event ∷ later) before output bounds =
    ((register : Reg) (word : ℕ) → is_voltage register ≡ true →
    asked (beside held passes (later ++ before)) event ≡ Some (host.Order (Out output register) word) →
    IsWithin bounds (value_for held.config output word))
    × OrdersWithinBeside held passes later before output bounds
OrdersWithinBeside held passes (Hears bytes ending ∷ later) before output bounds = OrdersWithinBeside held passes later before output bounds

-- each job that was asked for is one that a guard with these limits, of a part with these registers, lets through
abbrev pub AreGuardedBeside : Held → ℕ → PartRegisters → List OutputLimits → List Happening → Type 0
AreGuardedBeside held passes part limits [] = Unit {0}
AreGuardedBeside held passes part limits (Happens event ∷ before) =
    (option_and_then (guard_fault (record { host = (beside held passes before).host; limits = limits; registers = part })) (asked_by event) ≡ None)
    × AreGuardedBeside held passes part limits before
AreGuardedBeside held passes part limits (Hears bytes ending ∷ before) = AreGuardedBeside held passes part limits before

-- At each moment: an output whose own words the limits allow commands a voltage within them (`limited`). It commands no more than the most
-- of its own words of VOUT_MAX (`most`), and no less than the least of VOUT_MIN's (`least`). Where each job went through a guard, each own
-- word is one that the part held or had stored as the host began, or lies within the guard's limits (`ordered`); so they allow all own words
-- where they allow those of the beginning (`guarded`). An own word is one of before, or lies within limits that all later orders are within
-- (`newer`), so words that are all allowed stay so (`kept`).
pub record PartsStayLimited : Type 0 where
  pub limited : (held : Held) (passes : ℕ) (output : ℕ) (bounds : Bounds) (later before : List Happening) →
      IsLifeBeside held passes (later ++ before) → output < held.config.count →
      OwnWithinBeside held passes (later ++ before) output bounds → IsWithin bounds (commands_beside held passes before output)
  pub most : (held : Held) (passes : ℕ) (output : ℕ) (most : Ratio) (later before : List Happening) →
      IsLifeBeside held passes (later ++ before) → output < held.config.count →
      MaxAtMostBeside held passes (later ++ before) output most → AtMost (commands_beside held passes before output) most
  pub least : (held : Held) (passes : ℕ) (output : ℕ) (least : Ratio) (later before : List Happening) →
      IsLifeBeside held passes (later ++ before) → output < held.config.count →
      MinAtLeast held passes (later ++ before) output least → AtMost least (commands_beside held passes before output)
  pub guarded : (held : Held) (passes : ℕ) (output : ℕ) (bounds : Bounds) (part : PartRegisters) (limits : List OutputLimits)
      (happened : List Happening) → IsLifeBeside held passes happened → output < held.config.count →
      slice_index_or limits output Unlimited ≡ Between bounds → AreGuardedBeside held passes part limits happened →
      BeginsWithin held output bounds → OwnWithinBeside held passes happened output bounds
  pub ordered : (held : Held) (passes : ℕ) (output : ℕ) (bounds : Bounds) (part : PartRegisters) (limits : List OutputLimits)
      (happened : List Happening) → IsLifeBeside held passes happened → output < held.config.count →
      slice_index_or limits output Unlimited ≡ Between bounds → AreGuardedBeside held passes part limits happened →
      (register : Reg) (word : ℕ) → is_voltage register ≡ true → IsOwnWordBeside held passes happened output register word →
      IsOwnWordBeside held passes [] output register word ⊎ IsWithin bounds (value_for held.config output word)
  pub newer : (held : Held) (passes : ℕ) (output : ℕ) (bounds : Bounds) (later before : List Happening) →
      IsLifeBeside held passes (later ++ before) → output < held.config.count → OrdersWithinBeside held passes later before output bounds →
      (register : Reg) (word : ℕ) → is_voltage register ≡ true → IsOwnWordBeside held passes (later ++ before) output register word →
      IsOwnWordBeside held passes before output register word ⊎ IsWithin bounds (value_for held.config output word)
  pub kept : (held : Held) (passes : ℕ) (output : ℕ) (bounds : Bounds) (later before : List Happening) →
      IsLifeBeside held passes (later ++ before) → output < held.config.count →
      OwnWithinBeside held passes before output bounds → OrdersWithinBeside held passes later before output bounds →
      OwnWithinBeside held passes (later ++ before) output bounds

-- the part didn't restart since the good answers that the band of an output rests on
abbrev pub BandStandsBeside : Held → ℕ → List Happening → ℕ → Type 0
BandStandsBeside held passes happened output = (register : Reg) →
    decides (λ r. possible_at (beside held passes happened).host (Out output r)) register ≡ true →
    possible_at (beside held passes happened).host (Out output register) ≢ Any →
    restarted_since_beside held passes (Out output register) happened ≡ false

-- What the part commands lies in the band that the host gives, unless the part restarted since the good answers that the band rests on. Of
-- a part that lacks VOUT_MIN or VOUT_MAX its cell holds the word that never cuts.
abbrev pub BandsAreHeldBeside : Type 0
BandsAreHeldBeside = (held : Held) (passes : ℕ) (part : PartRegisters) (happened : List Happening) (output : ℕ) (band : Band) →
    IsLifeBeside held passes happened → output < held.config.count → AreShort (beside held passes happened).device.words output →
    BandStandsBeside held passes happened output → HoldsMissing part held.config (beside held passes happened).device.words output →
    band_at part (beside held passes happened).host output ≡ Some band → InBand band (commands_beside held passes happened output)
