-- What the band of an output is worth over a life: this project's own choice. Lists are newest first.
use Rattle.std.specs.Prelude.{◌≡◌, ◌≢◌, ◌<◌, ◌^◌, ℕ, true, false, List, Some}
use Rattle.pm_table.specs.declared.cell.Cell.TheVariants.{Out, Protect}
use Rattle.pm_table.specs.declared.reg.Reg.{Reg}
use Rattle.pm_model.specs.Settings.{Words, word_at}
use Rattle.pm_device.specs.declared.config.Config.{Config}
use Rattle.pm_device.specs.Held.{shape_for}
use Rattle.pm_host.specs.declared.knowledge.Possible.TheVariants.{Any}
use Rattle.pm_host.specs.Summary.{Summary, possible_at}
use Rattle.pm_limits.specs.declared.part_registers.PartRegisters.{PartRegisters}
use Rattle.pm_limits.specs.declared.ends.Side.{Side}
use Rattle.pm_limits.specs.Band.{decides, end_choice, known_of_output}
use Rattle.pm_limits.specs.Part.{missing_word}
use Rattle.pm_world.specs.declared.event.Event.{Event}
use Rattle.pm_world.specs.Confirmed.{restarted_since}
use Rattle.pm_world.specs.Uncertainty.{Choice}

-- the words of an output's registers have 16 bits, as each word of a program has
abbrev pub AreShort : Words → ℕ → Type 0
AreShort words output = (register : Reg) → word_at words (Out output register) < 2 ^ 16

-- the converter didn't restart since the good answers that the band of an output rests on
abbrev pub BandStands : Config → ℕ → List Event → Summary → ℕ → Type 0
BandStands config passes events host output = (register : Reg) →
    decides (λ r. possible_at host (Out output r)) register ≡ true → possible_at host (Out output register) ≢ Any →
    restarted_since config passes (Out output register) events ≡ false

-- The converter holds, in the cell of a VOUT_MIN or VOUT_MAX that the part doesn't have, the word at which that register stands: one that
-- never cuts. Nothing is asked of a part with every register.
abbrev pub HoldsMissing : PartRegisters → Config → Words → ℕ → Type 0
HoldsMissing part config words output = (register : Reg) (word : ℕ) →
    missing_word part (shape_for config output) register ≡ Some word → word_at words (Out output register) ≡ word

-- the host was told nothing of such a register
abbrev pub MissingUntold : PartRegisters → Config → Summary → Type 0
MissingUntold part config host = (output : ℕ) (register : Reg) (word : ℕ) → output < config.count →
    missing_word part (shape_for config output) register ≡ Some word → possible_at host (Out output register) ≡ Any

-- the words with which each output commands an end of its band, at a side of its own choice; 00h for WRITE_PROTECT
abbrev pub end_choices : PartRegisters → Config → Summary → (ℕ → Side) → Choice
end_choices part config host sides (Out output register) =
    end_choice (sides output) (shape_for config output) (known_of_output part (shape_for config output) host output) register
end_choices part config host sides Protect = 0x00
