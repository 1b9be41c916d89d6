-- A converter's past, newest event first, and what it holds after it; and what one event makes of
-- what it holds, where the status bits are latched.
use Rattle.std.specs.Prelude.{◌≡◌, ◌⊎◌, ℕ, ◌<◌, ◌^◌, Bool, false, ◌||◌, true, ◌&&◌, not, ◌==◌, if◌then◌else◌, List, [], ◌∷◌, ◌++◌, map}
use Rattle.std.specs.Prelude.{slice_set, Some}
use Rattle.std.specs.List.{range_with_len}
use Rattle.pm_table.specs.declared.cell.Cell.{Cell}
use Rattle.pm_table.specs.declared.cell.Cell.TheVariants.{Out}
use Rattle.pm_table.specs.Cell.{cell_at, is_output_cell}
use Rattle.pm_frame.specs.declared.message.Message.{Message}
use Rattle.pm_frame.specs.Layout.{AreBytes, IsWrite, write_address}
use Rattle.pm_frame.specs.View.{message_code}
use Rattle.pm_model.specs.Settings.{Words, word_at}
use Rattle.pm_device.specs.declared.act.Act.{Act}
use Rattle.pm_device.specs.declared.act.Act.TheVariants.{Put, ClearFaults, ClearVout, Store, Restore}
use Rattle.pm_device.specs.declared.config.Config.{Config}
use Rattle.pm_device.specs.declared.converter.Ending.TheVariants.{Stop, Restart}
use Rattle.pm_device.specs.declared.converter.Heard.TheVariants.{Taken}
use Rattle.pm_device.specs.declared.verdict.Verdict.TheVariants.{Takes}
use Rattle.pm_device.specs.Held.{Held, Measured, CmlFaults, no_readings, no_faults, is_reading, with_reading}
use Rattle.pm_device.specs.Start.{start_word}
use Rattle.pm_device.specs.Verdict.{output_in, written_word}
use Rattle.pm_device.specs.Effect.{Event, Hearing, Restarted, Reading, Outcome, Heard, Restarts, Measures, outcome_in, outcome_of, kept_by}
use Rattle.pm_device.specs.Effect.{kept_in, started}
use Rattle.pm_device.specs.Status.{CmlBit, Command, Data, Pec, OtherCommunication, has_bit_set, kept, is_output_cut, cut_at, vout_in}
use Rattle.pm_device.specs.Status.{cml_in}
use Rattle.pm_device.specs.Status.{clears, act_clears_cml, sets_cml}
use Rattle.pm_device.specs.Reply.{reply_of}

-- one bit for each of the eight places for an output
unfoldable pub each_output : (ℕ → Bool) → List Bool
each_output bit_of = map bit_of (range_with_len 0 8)

-- the readings after what an event came to
abbrev pub readings_by : Config → Measured → Outcome → Measured
readings_by config readings (Measures output code word) =
    if is_reading config.count output code then with_reading readings output code word else readings
readings_by config readings _ = readings

-- the readings after a past: a restart keeps them
abbrev pub readings_in : Config → List Event → Measured
readings_in config [] = no_readings
readings_in config (event ∷ past) =
    readings_by config (readings_in config past) (outcome_of config (kept config past) event)

-- what a converter holds after its past: words, store, page and readings one event after another, the
-- status bits by looking back
unfoldable pub device_now : Config → List Event → Held
device_now config past = record {
  config = config;
  words = (kept config past).words;
  store = (kept config past).store;
  page = (kept config past).page;
  readings = readings_in config past;
  cut = each_output (vout_in config past);
  faults = record {
    command = cml_in config past Command;
    «data» = cml_in config past Data;
    pec = cml_in config past Pec;
    other_communication = cml_in config past OtherCommunication;
  };
}

-- what a converter that is made of a configuration holds
unfoldable pub start_of : Config → Held
start_of config = record {
  config = config;
  words = (started config).words;
  store = (started config).store;
  page = (started config).page;
  readings = no_readings;
  cut = each_output (is_output_cut config (started config).words);
  faults = no_faults;
}

-- an output's latch that is cleared, or set: what is outside its limits now shows at once
abbrev pub cleared : Config → Words → List Bool → ℕ → List Bool
cleared config words cut output = slice_set cut output (is_output_cut config words output)

abbrev pub latched : Config → Words → List Bool → ℕ → List Bool
latched config words cut output =
    slice_set cut output (cut_at cut output || is_output_cut config words output)

-- the latches of STATUS_VOUT after an act, which leaves these words
abbrev pub cut_by_act : Config → Words → List Bool → Act → List Bool
cut_by_act config words cut (Put (Out output register) word) = latched config words cut output
cut_by_act config words cut (ClearFaults output) = cleared config words cut output
cut_by_act config words cut (ClearVout output byte) =
    if has_bit_set byte 0x08 then cleared config words cut output else cut
cut_by_act config words cut Restore =
    each_output (λ output. cut_at cut output || is_output_cut config words output)
cut_by_act config words cut _ = cut

-- the latches after what an event came to
abbrev pub cut_by : Config → Words → List Bool → Outcome → List Bool
cut_by config words cut (Heard (Takes act)) = cut_by_act config words cut act
cut_by config words cut Restarts = each_output (is_output_cut config words)
cut_by config words cut _ = cut

-- a bit of STATUS_CML after what an event came to
abbrev pub cml_bit_after : Outcome → CmlBit → Bool → Bool
cml_bit_after outcome bit before =
    sets_cml bit outcome || (if clears (act_clears_cml bit) outcome then false else before)

abbrev pub faults_by : CmlFaults → Outcome → CmlFaults
faults_by faults outcome = record {
  command = cml_bit_after outcome Command faults.command;
  «data» = cml_bit_after outcome Data faults.data;
  pec = cml_bit_after outcome Pec faults.pec;
  other_communication = cml_bit_after outcome OtherCommunication faults.other_communication;
}

-- what a converter holds after what an event came to
unfoldable pub after_outcome : Held → Outcome → Held
after_outcome held outcome =
    let kept = kept_by (kept_in held) outcome in
    record {
      config = held.config;
      words = kept.words;
      store = kept.store;
      page = kept.page;
      readings = readings_by held.config held.readings outcome;
      cut = cut_by held.config kept.words held.cut outcome;
      faults = faults_by held.faults outcome;
    }

-- what one event makes of what a converter holds
unfoldable pub device_next : Held → Event → Held
device_next held event = after_outcome held (outcome_in held event)

-- what was heard is bytes, and what was measured are words
abbrev pub AreHeard : List Event → Type 0
AreHeard [] = Unit {0}
AreHeard (Restarted ∷ past) = AreHeard past
AreHeard (Hearing bytes ending ∷ past) = AreBytes bytes × AreHeard past
AreHeard (Reading output code word ∷ past) = (word < 2 ^ 16) × AreHeard past

-- an act is a RESTORE_USER_ALL, and a STORE_USER_ALL
abbrev pub act_restores : Act → Bool
act_restores Restore = true
act_restores _ = false

abbrev pub act_stores : Act → Bool
act_stores Store = true
act_stores _ = false

-- what an event came to brings a cell its word in the store: a restart, or for an output's cell a
-- RESTORE_USER_ALL
abbrev pub loads : Cell → Outcome → Bool
loads cell Restarts = true
loads cell (Heard (Takes act)) = is_output_cell cell && act_restores act
loads cell _ = false

-- what an event came to copies a cell's word to the store
abbrev pub saves : Cell → Outcome → Bool
saves cell (Heard (Takes act)) = is_output_cell cell && act_stores act
saves cell _ = false

-- the word that the last such event brought a cell; its start word where there was none
unfoldable pub loaded_word : Config → List Event → Cell → ℕ
loaded_word config [] cell = start_word config cell
loaded_word config (event ∷ past) cell =
    if loads cell (outcome_of config (kept config past) event)
    then word_at (kept config past).store cell else loaded_word config past cell

-- the word that a cell had when it was last copied to the store; its start word where it never was
unfoldable pub stored_word : Config → List Event → Cell → ℕ
stored_word config [] cell = start_word config cell
stored_word config (event ∷ past) cell =
    if saves cell (outcome_of config (kept config past) event)
    then word_at (kept config past).words cell else stored_word config past cell

-- none of the later events, which came upon these before, brought the cell its word in the store
abbrev pub IsUnbroken : Config → Cell → List Event → List Event → Type 0
IsUnbroken config cell [] before = Unit {0}
IsUnbroken config cell (event ∷ later) before =
    (loads cell (outcome_of config (kept config (later ++ before)) event) ≡ false)
    × IsUnbroken config cell later before

-- a frame that was taken carried this word for this very cell; where it named no page, its output is what PAGE
-- was then
pub record WasEverCarried (config : Config) (past : List Event) (cell : Cell) (word : ℕ) : Type 0 where
  pub later : List Event
  pub before : List Event
  pub bytes : List ℕ
  pub message : Message
  pub heard : past ≡ later ++ Hearing bytes Stop ∷ before
  pub carries : IsWrite config.addr message bytes
  pub taken : reply_of (device_now config before) bytes Stop ≡ Taken
  pub names : cell_at (message_code message) (output_in (device_now config before).page message) ≡ Some cell
  pub number : written_word message ≡ word

-- such a frame was taken since the cell last got its word in the store
pub record WasCarried (config : Config) (past : List Event) (cell : Cell) (word : ℕ) : Type 0 where
  pub frame : WasEverCarried config past cell word
  pub since : IsUnbroken config cell frame.later (Hearing frame.bytes Stop ∷ frame.before)

-- a word is the one that the converter was made with, or one that a frame carried for this very cell
abbrev pub IsEverHad : Config → List Event → Cell → ℕ → Type 0
IsEverHad config past cell word = (word ≡ start_word config cell) ⊎ WasEverCarried config past cell word

-- the past without the hearings that a repeated start ended, which are requests
abbrev pub without_requests : List Event → List Event
without_requests [] = []
without_requests (Hearing bytes Restart ∷ past) = without_requests past
without_requests (Hearing bytes Stop ∷ past) = Hearing bytes Stop ∷ without_requests past
without_requests (Restarted ∷ past) = Restarted ∷ without_requests past
without_requests (Reading output code word ∷ past) = Reading output code word ∷ without_requests past

-- bytes are for another device: there is none, or the first isn't this address with the write bit, as it is of each frame
-- for this device (SMBus)
abbrev pub is_for_other : ℕ → List ℕ → Bool
is_for_other addr [] = true
is_for_other addr (first ∷ rest) = not (first == write_address addr)

-- the past without the hearings of bytes for other devices
abbrev pub without_others : ℕ → List Event → List Event
without_others addr [] = []
without_others addr (Hearing bytes ending ∷ past) =
    if is_for_other addr bytes then without_others addr past else Hearing bytes ending ∷ without_others addr past
without_others addr (Restarted ∷ past) = Restarted ∷ without_others addr past
without_others addr (Reading output code word ∷ past) = Reading output code word ∷ without_others addr past
