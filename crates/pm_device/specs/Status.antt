-- The status registers of PMBus 1.3 Part II, as far as this converter sets them. STATUS_VOUT and
-- STATUS_CML are latched, and are looked up in the past here; STATUS_BYTE and STATUS_WORD follow from
-- them and from OPERATION. Which refusal sets which bit of STATUS_CML, that CLEAR_FAULTS acts on one
-- output, and that POWER_GOOD# is OFF, are this project's own choice.
use Rattle.std.specs.Prelude.{ℕ, ◌+◌, Bool, true, false, not, ◌&&◌, ◌==◌, nat_lt, if◌then◌else◌, bit_and, List, [], ◌∷◌, slice_index_or}
use Rattle.std.specs.List.{list_any}
use Rattle.pm_table.specs.declared.reg.Reg.TheVariants.{Operation}
use Rattle.pm_table.specs.Operation.{has_on}
use Rattle.pm_table.specs.declared.cell.Cell.TheVariants.{Out}
use Rattle.pm_frame.specs.declared.fault.FrameFault.{FrameFault}
use Rattle.pm_frame.specs.declared.fault.FrameFault.TheVariants as frame
use Rattle.pm_model.specs.Settings.{Words, word_at}
use Rattle.pm_model.specs.Commanded.{is_cut}
use Rattle.pm_device.specs.declared.act.Act.{Act}
use Rattle.pm_device.specs.declared.act.Act.TheVariants.{ClearFaults, ClearVout, ClearCml}
use Rattle.pm_device.specs.declared.config.Config.{Config}
use Rattle.pm_device.specs.declared.fault.DeviceFault.{DeviceFault}
use Rattle.pm_device.specs.declared.fault.DeviceFault.TheVariants.{Frame, UnsupportedCode, UnsupportedData, BadPage, Protected, Nested}
use Rattle.pm_device.specs.declared.fault.DeviceFault.TheVariants.{ReadOnly}
use Rattle.pm_device.specs.declared.verdict.Verdict.TheVariants.{Refuses, Takes}
use Rattle.pm_device.specs.Held.{Held, CmlFaults, value_for}
use Rattle.pm_device.specs.Effect.{Event, Kept, Outcome, Heard, Restarts, outcome_of, kept_by, started}

-- the byte has the bit set
abbrev pub has_bit_set : ℕ → ℕ → Bool
has_bit_set byte bit = bit_and byte bit == bit

-- the bits of STATUS_CML that are set here
pub data CmlBit : Type 0 where
  Command : CmlBit
  Data : CmlBit
  Pec : CmlBit
  OtherCommunication : CmlBit

-- bit 7, 6, 5 and 1
abbrev pub cml_mask : CmlBit → ℕ
cml_mask Command = 0x80
cml_mask Data = 0x40
cml_mask Pec = 0x20
cml_mask OtherCommunication = 0x02

-- the bit that a faulty frame sets: a wrong PEC its own, every other fault bit 1. A frame for another
-- device is no refusal, and one whose code is unknown, of the other direction or not carried is one of a
-- kind of its own, so these four never come here.
abbrev pub frame_bit : FrameFault → CmlBit
frame_bit frame.NotOurs = OtherCommunication
frame_bit (frame.Short place) = OtherCommunication
frame_bit (frame.Long place) = OtherCommunication
frame_bit (frame.WrongCount place) = OtherCommunication
frame_bit (frame.WrongPec place) = Pec
frame_bit (frame.UnknownCode place) = OtherCommunication
frame_bit (frame.WrongDirection place) = OtherCommunication
frame_bit (frame.Nested place) = OtherCommunication

-- the bit that a refusal sets
abbrev pub fault_bit : DeviceFault → CmlBit
fault_bit (Frame fault) = frame_bit fault
fault_bit UnsupportedCode = Command
fault_bit Protected = Command
fault_bit Nested = Command
fault_bit ReadOnly = Command
fault_bit UnsupportedData = Data
fault_bit BadPage = Data

-- what an event came to, and the words of the cells just after it
pub record Moment : Type 0 where
  pub outcome : Outcome
  pub words : Words

-- what a converter keeps after a past, newest event first
unfoldable pub kept : Config → List Event → Kept
kept config [] = started config
kept config (event ∷ past) =
    let before = kept config past in kept_by before (outcome_of config before event)

-- the moments since a converter was made, which counts as a restart
unfoldable pub moments : Config → List Event → List Moment
moments config [] = record { outcome = Restarts; words = (started config).words } ∷ []
moments config (event ∷ past) = record {
  outcome = outcome_of config (kept config past) event;
  words = (kept config (event ∷ past)).words;
} ∷ moments config past

-- the moments from the last one that passes a test on, newest first
abbrev pub from_last : (Outcome → Bool) → List Moment → List Moment
from_last test [] = []
from_last test (moment ∷ before) =
    moment ∷ (if test moment.outcome then [] else from_last test before)

-- an act clears the STATUS_VOUT of an output: CLEAR_FAULTS, or bit 3 written to it
abbrev pub act_clears_vout : ℕ → Act → Bool
act_clears_vout output (ClearFaults cleared) = cleared == output
act_clears_vout output (ClearVout cleared byte) = cleared == output && has_bit_set byte 0x08
act_clears_vout output _ = false

-- an act clears a bit of STATUS_CML: CLEAR_FAULTS of any output, or that bit written to it
abbrev pub act_clears_cml : CmlBit → Act → Bool
act_clears_cml bit (ClearFaults output) = true
act_clears_cml bit (ClearCml byte) = has_bit_set byte (cml_mask bit)
act_clears_cml bit _ = false

-- what an event came to clears a bit: it is an act that does by `test`, or a restart, which clears all
abbrev pub clears : (Act → Bool) → Outcome → Bool
clears test (Heard (Takes act)) = test act
clears test Restarts = true
clears test _ = false

-- two bits are one
abbrev pub same_bit : CmlBit → CmlBit → Bool
same_bit bit other = cml_mask bit == cml_mask other

-- what an event came to sets a bit of STATUS_CML: a refusal the bit of its kind
abbrev pub sets_cml : CmlBit → Outcome → Bool
sets_cml bit (Heard (Refuses fault)) = same_bit (fault_bit fault) bit
sets_cml bit _ = false

-- the output is there, and its selected value is above VOUT_MAX or below VOUT_MIN
unfoldable pub is_output_cut : Config → Words → ℕ → Bool
is_output_cut config words output =
    nat_lt output config.count && is_cut (value_for config output) words output

-- bit 3 of an output's STATUS_VOUT after a past: its selected value was above VOUT_MAX or below
-- VOUT_MIN at some moment from the last clearing on
unfoldable pub vout_in : Config → List Event → ℕ → Bool
vout_in config past output = list_any (λ moment. is_output_cut config moment.words output)
    (from_last (clears (act_clears_vout output)) (moments config past))

-- a bit of STATUS_CML after a past: some refusal since the last clearing set it
unfoldable pub cml_in : Config → List Event → CmlBit → Bool
cml_in config past bit = list_any (λ moment. sets_cml bit moment.outcome)
    (from_last (clears (act_clears_cml bit)) (moments config past))

-- a bit of a register, where it is set
abbrev pub bit_if_set : ℕ → Bool → ℕ
bit_if_set bit is_set = if is_set then bit else 0

-- OPERATION has the output on
abbrev pub is_output_on : Held → ℕ → Bool
is_output_on held output = has_on (word_at held.words (Out output Operation))

-- what is latched of an output
abbrev pub cut_at : List Bool → ℕ → Bool
cut_at cut output = slice_index_or cut output false

-- STATUS_VOUT: bit 3, VOUT_MAX_MIN warning
abbrev pub status_vout_of : Held → ℕ → ℕ
status_vout_of held output = bit_if_set 0x08 (cut_at held.cut output)

-- STATUS_CML: bit 7, an unsupported command; bit 6, unsupported data; bit 5, a wrong PEC; bit 1,
-- another communication fault
abbrev pub cml_byte : CmlFaults → ℕ
cml_byte faults = bit_if_set 0x80 faults.command + bit_if_set 0x40 faults.data + bit_if_set 0x20 faults.pec
    + bit_if_set 0x02 faults.other_communication

abbrev pub status_cml_of : Held → ℕ
status_cml_of held = cml_byte held.faults

-- STATUS_BYTE: bit 6, the output is off; bit 1, a bit of STATUS_CML is set; bit 0, a bit of
-- STATUS_VOUT is
abbrev pub status_byte_of : Held → ℕ → ℕ
status_byte_of held output =
    bit_if_set 0x40 (not (is_output_on held output)) + bit_if_set 0x02 (not (status_cml_of held == 0))
    + bit_if_set 0x01 (cut_at held.cut output)

-- STATUS_WORD: STATUS_BYTE; bit 15, a bit of STATUS_VOUT is set; bit 11, the power isn't good, which
-- is that the output is off
abbrev pub status_word_of : Held → ℕ → ℕ
status_word_of held output =
    status_byte_of held output + bit_if_set 0x8000 (cut_at held.cut output)
    + bit_if_set 0x0800 (not (is_output_on held output))

-- one bit of what is latched, and the same with one bit set
abbrev pub cml_at : CmlFaults → CmlBit → Bool
cml_at faults Command = faults.command
cml_at faults Data = faults.data
cml_at faults Pec = faults.pec
cml_at faults OtherCommunication = faults.other_communication

abbrev pub with_bit : CmlFaults → CmlBit → CmlFaults
with_bit faults Command = record faults { command = true }
with_bit faults Data = record faults { «data» = true }
with_bit faults Pec = record faults { pec = true }
with_bit faults OtherCommunication = record faults { other_communication = true }
