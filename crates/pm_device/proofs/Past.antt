-- What a converter keeps over its past: the words of its cells, their origin, readings and latched status bits.
use Rattle.std.specs.List.{list_any}
use Rattle.std.specs.Option.{option_map, option_map_or}
use Rattle.std.proofs.Common.{◌≡◌, ℕ, ◌<◌, Bool, false, List, length, arith, true, cond, eqb, ltb, not, ◌||◌, Option, Some, None, unwrap_or}
use Rattle.std.proofs.Common.{refl, sym, ◌∙◌, ap, subst, ◌≤◌, [], ◌∷◌, ◌≢◌, inl, inr, ◌&&◌, get_or, set, ◌⊎◌, ap₂}
use Rattle.std.proofs.Math.Bool.{and-false, or-false, or_comm}
use Rattle.std.proofs.lemmas.Bool.{ltb-true, or_parts, cases_eq, cond-false, eq-eqb, ne_eqb, cond-true, eqb-true}
use Rattle.std.proofs.lemmas.List.{get_or-set_same, get_or-set_other, length-set}
use Rattle.std.proofs.lemmas.List.FromFn.{fill_by_all, length-map-range_with_len, get_or-map-range_with_len}
use Rattle.pm_table.specs.{Commands.line_of, Laws.CellsAreToldApart, Lemmas.IsCell-eight, Protection.is_allowed, declared.cell.Cell.Cell}
use Rattle.pm_table.specs.{declared.reg.Reg.Reg}
use Rattle.pm_table.specs.Cell.{cell_at, register_of, same_cell, same_register, IsCell, cell_accepts, is_output_cell}
use Rattle.pm_table.specs.Codes as command
use Rattle.pm_table.specs.declared.cell.Cell.TheVariants.{Out, Protect}
use Rattle.pm_frame.specs.{Laws.WritesAreExact, declared.fault.FrameFault.FrameFault, declared.message.Message.Message}
use Rattle.pm_frame.specs.{declared.message.Payload.Payload}
use Rattle.pm_frame.specs.Fault.{write_fault, request_fault}
use Rattle.pm_frame.specs.Layout.{AreBytes, IsWrite}
use Rattle.pm_frame.specs.View.{message_in, message_page, message_code}
use Rattle.pm_frame.specs.declared.fault.FrameFault.TheVariants as frame
use Rattle.pm_frame.specs.declared.message.Message.TheVariants.{SendByte, WriteByte, WriteWord, PagePlusWrite, ReadCommand, PagePlusRead}
use Rattle.pm_frame.specs.declared.message.Message.TheVariants.{ReadCoefficients}
use Rattle.pm_model.specs.Laws.{SettingsAreAMap, OutputsStandAlone}
use Rattle.pm_model.specs.Settings.{Words, word_at, AreWords, with_word, with_outputs}
use Rattle.pm_device.specs.{declared.act.Act.Act, declared.config.Config.Config, declared.converter.Ending.Ending}
use Rattle.pm_device.specs.{declared.converter.Heard.TheVariants.Taken, declared.verdict.Verdict.Verdict}
use Rattle.pm_device.specs.Effect.{Event, Hearing, Restarted, Reading, Kept, Outcome, Heard, Restarts, outcome_of, kept_by, started}
use Rattle.pm_device.specs.Effect.{kept_in, kept_after}
use Rattle.pm_device.specs.Held.{Held, Measured, CmlFaults, value_for}
use Rattle.pm_device.specs.History.{each_output, device_now, start_of, cleared as history_cleared, cut_by, cml_bit_after, faults_by}
use Rattle.pm_device.specs.History.{after_outcome, device_next}
use Rattle.pm_device.specs.History.{AreHeard, IsEverHad, WasCarried, WasEverCarried, loads, saves, loaded_word, stored_word}
use Rattle.pm_device.specs.Reply.{reply_to, reply_of}
use Rattle.pm_device.specs.Start.{start_word, start_words, IsSound}
use Rattle.pm_device.specs.Status.{cut_at, kept, CmlBit, Command, Data, Pec, OtherCommunication, Moment, has_bit_set, moments, from_last}
use Rattle.pm_device.specs.Status.{act_clears_vout, act_clears_cml, clears, sets_cml, is_output_cut, vout_in, cml_in}
use Rattle.pm_device.specs.Verdict.{written_word, output_in, names_no_output, act_in, selects_no_output, is_act_accepted, act_verdict}
use Rattle.pm_device.specs.Verdict.{write_verdict, read_verdict, answers_coefficients, fault_verdict, unless_faulty, verdict_of, CanAct}
use Rattle.pm_device.specs.Verdict.{ActsOn, payload_word}
use Rattle.pm_device.specs.declared.act.Act.TheVariants.{Put, Select, ClearFaults, ClearVout, ClearCml, Store, Restore}
use Rattle.pm_device.specs.declared.converter.Ending.TheVariants.{Stop, Restart}
use Rattle.pm_device.specs.declared.fault.DeviceFault.TheVariants.{UnsupportedCode, UnsupportedData, BadPage, Protected}
use Rattle.pm_device.specs.declared.verdict.Verdict.TheVariants.{Refuses, Takes, Answers, Ignores}

-- Lists with a bit for each of the eight places for an output.

-- a list of eight bits by its places
pub each_output-by : (bits : List Bool) (bit_of : ℕ → Bool) → length bits ≡ 8
    → ((output : ℕ) → output < 8 → cut_at bits output ≡ bit_of output) → bits ≡ each_output bit_of
unfolding each_output
each_output-by bits bit_of long at = fill_by_all bit_of bits 8 false long at

-- there are eight of them
pub length-each_output : (bit_of : ℕ → Bool) → length (each_output bit_of) ≡ 8
unfolding each_output
length-each_output bit_of = length-map-range_with_len bit_of 0 8

-- each at its place
pub cut_at-each_output : (bit_of : ℕ → Bool) (output : ℕ) → output < 8 → cut_at (each_output bit_of) output ≡ bit_of output
unfolding each_output
cut_at-each_output bit_of output there = get_or-map-range_with_len bit_of 0 8 output output false there (omega arith)

-- What a hearing that is taken was: a write without a fault, whose act was asked for, allowed and accepted.

-- the facts of an act that is taken
pub record IsTaken (config : Config) (words : Words) (page : ℕ) (message : Message) (act : Act) : Type 0 where
  pub asked : act_in (message_code message) (output_in page message) (written_word message) ≡ Some act
  pub there : names_no_output config.count message ≡ false
  pub selected : selects_no_output config.count act ≡ false
  pub allowed : is_allowed (word_at words Protect) (message_code message) ≡ true
  pub accepted : is_act_accepted act ≡ true

-- what an act results in is taken only where nothing refuses it
chosen : (a b c : Bool) (found act : Act)
    → cond a (Refuses BadPage) (cond (not b) (Refuses Protected) (cond (not c) (Refuses UnsupportedData) (Takes found))) ≡ Takes act
    → (a ≡ false) × (b ≡ true) × (c ≡ true) × (found ≡ act)
chosen true b c found act e = cc
chosen false false c found act e = cc
chosen false true false found act e = cc
chosen false true true found act e = (refl, refl, refl, cc)

-- what a write is whose act is taken
pub write-taken : (config : Config) (words : Words) (page : ℕ) (message : Message) (act : Act)
    → write_verdict config words page message ≡ Takes act → IsTaken config words page message act
write-taken config words page message act e =
    go (act_in (message_code message) (output_in page message) (written_word message)) refl e where
      go : (found : Option Act) → act_in (message_code message) (output_in page message) (written_word message) ≡ found
          → option_map_or (λ a. act_verdict config.count (word_at words Protect) message a) found (Refuses UnsupportedCode) ≡ Takes act
          → IsTaken config words page message act
      go None is none = cc
      go (Some found) is taken =
          let parts = chosen (names_no_output config.count message || selects_no_output config.count found)
          (is_allowed (word_at words Protect) (message_code message)) (is_act_accepted found) found act taken in
          let outside = or_parts (names_no_output config.count message) (selects_no_output config.count found) parts.0 in
          record {
            asked = is ∙ ap (λ a. Some a) parts.3;
            there = outside.0;
            selected = subst (λ a. selects_no_output config.count a ≡ false) parts.3 outside.1;
            allowed = parts.1;
            accepted = subst (λ a. is_act_accepted a ≡ true) parts.3 parts.2;
          }

-- no fault is a write that is taken
fault-not_taken : (fault : FrameFault) (act : Act) → fault_verdict fault ≡ Takes act → ⊥
fault-not_taken frame.NotOurs act e = cc
fault-not_taken (frame.Short place) act e = cc
fault-not_taken (frame.Long place) act e = cc
fault-not_taken (frame.WrongCount place) act e = cc
fault-not_taken (frame.WrongPec place) act e = cc
fault-not_taken (frame.UnknownCode place) act e = cc
fault-not_taken (frame.WrongDirection place) act e = cc
fault-not_taken (frame.Nested place) act e = cc

-- neither is a request
cond-not_taken : (b : Bool) (x y : Verdict) (act : Act) → (x ≡ Takes act → ⊥) → (y ≡ Takes act → ⊥) → cond b x y ≡ Takes act → ⊥
cond-not_taken true x y act nx ny e = nx e
cond-not_taken false x y act nx ny e = ny e

-- what a read results in isn't taken
read-not_taken : (config : Config) (message : Message) (act : Act) → read_verdict config message ≡ Takes act → ⊥
read-not_taken config (ReadCoefficients code side) act e =
    cond-not_taken (answers_coefficients config code side) (Answers (ReadCoefficients code side)) (Refuses UnsupportedData) act (λ x. cc)
    (λ x. cc) e
read-not_taken config (PagePlusRead page code) act e =
    cond-not_taken (ltb page config.count) (Answers (PagePlusRead page code)) (Refuses BadPage) act (λ x. cc) (λ x. cc) e
read-not_taken config (ReadCommand code) act e = cc
read-not_taken config (SendByte code) act e = cc
read-not_taken config (WriteByte code byte) act e = cc
read-not_taken config (WriteWord code word) act e = cc
read-not_taken config (PagePlusWrite page code payload) act e = cc

-- what a hearing that is taken was
pub record WasTaken (config : Config) (words : Words) (page : ℕ) (bytes : List ℕ) (ending : Ending) (act : Act) : Type 0 where
  pub stopped : ending ≡ Stop
  pub faultless : write_fault config.addr bytes ≡ None
  pub act_taken : IsTaken config words page (message_in bytes) act

-- what a hearing that is taken was
pub verdict-taken : (config : Config) (words : Words) (page : ℕ) (bytes : List ℕ) (ending : Ending) (act : Act)
    → verdict_of config words page bytes ending ≡ Takes act → WasTaken config words page bytes ending act
unfolding verdict_of
verdict-taken config words page bytes Stop act e = go (write_fault config.addr bytes) refl e where
  go : (fault : Option FrameFault) → write_fault config.addr bytes ≡ fault
      → unless_faulty fault (write_verdict config words page (message_in bytes)) ≡ Takes act → WasTaken config words page bytes Stop act
  go None is taken = record { stopped = refl; faultless = is; act_taken = write-taken config words page (message_in bytes) act taken }
  go (Some fault) is taken = absurd (fault-not_taken fault act taken)
verdict-taken config words page bytes Restart act e = absurd (go (request_fault config.addr bytes) e) where
  go : (fault : Option FrameFault) → unless_faulty fault (read_verdict config (message_in bytes)) ≡ Takes act → ⊥
  go None taken = read-not_taken config (message_in bytes) act taken
  go (Some fault) taken = fault-not_taken fault act taken

-- a request changes nothing
pub request-not_taken : (config : Config) (words : Words) (page : ℕ) (bytes : List ℕ) (act : Act)
    → verdict_of config words page bytes Restart ≡ Takes act → ⊥
request-not_taken config words page bytes act e =
    let stopped : Restart ≡ Stop = (verdict-taken config words page bytes Restart act e).stopped in cc

-- the output that an act names is the one that was asked for
acts-on_code : (code output word : ℕ) (b : Bool) (act : Act)
    → option_map (λ cell. Put cell word) (cond b (Some Protect) (option_map (λ register. Out output register) (register_of code))) ≡ Some
    act → ActsOn output act
acts-on_code code output word true act e = subst (λ a. ActsOn output a) (some-one (Put Protect word) act e) tt where
  some-one : (x y : Act) → Some x ≡ Some y → x ≡ y
  some-one x y h = cc
acts-on_code code output word false act e = go (register_of code) e where
  some-one : (x y : Act) → Some x ≡ Some y → x ≡ y
  some-one x y h = cc

  go : (found : Option Reg) → option_map (λ cell. Put cell word) (option_map (λ register. Out output register) found) ≡ Some act
      → ActsOn output act
  go None h = cc
  go (Some register) h = subst (λ a. ActsOn output a) (some-one (Put (Out output register) word) act h) refl

-- two acts that are some are one
pub some-act : (x y : Act) → Some x ≡ Some y → x ≡ y
some-act x y h = cc

-- the act of any code names it
pub acts-on : (code output word : ℕ) (act : Act) → act_in code output word ≡ Some act → ActsOn output act
acts-on code output word act e =
    first (eqb code command.page) (eqb code command.clear_faults) (eqb code command.status_vout) (eqb code command.status_cml) e
  where
    rest : Option Act
    rest = option_map (λ cell. Put cell word) (cell_at code output)

    last : (a b : Bool) → cond a (Some Store) (cond b (Some Restore) rest) ≡ Some act → ActsOn output act
    last true b h = subst (λ x. ActsOn output x) (some-act Store act h) tt
    last false true h = subst (λ x. ActsOn output x) (some-act Restore act h) tt
    last false false h = acts-on_code code output word (eqb code command.write_protect) act h

    first : (a b c d : Bool) → cond a (Some (Select word))
        (cond b (Some (ClearFaults output)) (cond c (Some (ClearVout output word)) (cond d (Some (ClearCml word))
        (cond (eqb code command.store_user_all) (Some Store) (cond (eqb code command.restore_user_all) (Some Restore) rest)))))
        ≡ Some act
        → ActsOn output act
    first true b c d h = subst (λ x. ActsOn output x) (some-act (Select word) act h) tt
    first false true c d h = subst (λ x. ActsOn output x) (some-act (ClearFaults output) act h) refl
    first false false true d h = subst (λ x. ActsOn output x) (some-act (ClearVout output word) act h) refl
    first false false false true h = subst (λ x. ActsOn output x) (some-act (ClearCml word) act h) tt
    first false false false false h = last (eqb code command.store_user_all) (eqb code command.restore_user_all) h

-- a page that is named is there, or PAGE is
pub output-there : (count page : ℕ) (message : Message) → names_no_output count message ≡ false → page < count
    → output_in page message < count
output-there count page message e here = go (message_page message) e where
  within : (named : ℕ) (b : Bool) → ltb named count ≡ b → not b ≡ false → named < count
  within named true is h = ltb-true named count is
  within named false is h = cc

  go : (named : Option ℕ) → option_map_or (λ n. not (ltb n count)) named false ≡ false → unwrap_or named page < count
  go None h = here
  go (Some named) h = within named (ltb named count) refl h

-- an act that is taken names an output that exists, and a word that its cell accepts
can-act : (count output : ℕ) (act : Act) → output < count → ActsOn output act → selects_no_output count act ≡ false → is_act_accepted act
    ≡ true
    → CanAct count act
can-act count output (Put (Out named register) word) here on selected accepted = (subst (λ n. n < count) (sym on) here, accepted)
can-act count output (Put Protect word) here on selected accepted = (tt, accepted)
can-act count output (Select page) here on selected accepted = go (ltb page count) refl selected where
  go : (b : Bool) → ltb page count ≡ b → not b ≡ false → page < count
  go true is h = ltb-true page count is
  go false is h = cc
can-act count output (ClearFaults named) here on selected accepted = subst (λ n. n < count) (sym on) here
can-act count output (ClearVout named byte) here on selected accepted = subst (λ n. n < count) (sym on) here
can-act count output _ here on selected accepted = tt

-- an act that is taken can be done
pub taken-can : (config : Config) (words : Words) (page : ℕ) (message : Message) (act : Act) → IsTaken config words page message act
    → page < config.count → CanAct config.count act
taken-can config words page message act h here =
    can-act config.count (output_in page message) act (output-there config.count page message h.there here)
    (acts-on (message_code message) (output_in page message) (written_word message) act h.asked) h.selected h.accepted

-- an act that is heard in bytes and taken can be done
pub verdict-can : (config : Config) (words : Words) (page : ℕ) (bytes : List ℕ) (ending : Ending) (act : Act)
    → verdict_of config words page bytes ending ≡ Takes act → page < config.count → CanAct config.count act
verdict-can config words page bytes ending act e here =
    taken-can config words page (message_in bytes) act (verdict-taken config words page bytes ending act e).act_taken here

-- What a converter keeps over its past: a word for each cell, in the store too, and a PAGE that names an output.

-- there is a word for each cell, in the store too
pub record AreFull (kept : Kept) : Type 0 where
  pub words : AreWords kept.words
  pub store : AreWords kept.store

-- at the start
start-full : SettingsAreAMap → (config : Config) → AreFull (started config)
unfolding start_words
start-full map config =
    let words = (map.made (start_word config)).0 in record { words = words; store = words }

-- each cell has a word after what an event came to
full-kept : SettingsAreAMap → (before : Kept) (outcome : Outcome) → AreFull before → AreFull (kept_by before outcome)
full-kept map before (Heard (Takes (Put cell word))) full =
    record { words = map.kept before.words cell word full.words; store = full.store }
full-kept map before (Heard (Takes (Select page))) full = record { words = full.words; store = full.store }
full-kept map before (Heard (Takes Store)) full =
    record { words = full.words; store = map.whole before.store before.words full.words }
full-kept map before (Heard (Takes Restore)) full =
    record { words = map.whole before.words before.store full.store; store = full.store }
full-kept map before Restarts full = record { words = full.store; store = full.store }
full-kept map before _ full = full

-- each cell has a word after any past
pub kept-full : SettingsAreAMap → (config : Config) (past : List Event) → AreFull (kept config past)
unfolding kept
kept-full map config [] = start-full map config
kept-full map config (event ∷ past) =
    full-kept map (kept config past) (outcome_of config (kept config past) event) (kept-full map config past)

-- what an event that is taken asks for can be done
pub outcome-can : (config : Config) (before : Kept) (event : Event) (act : Act) →
    outcome_of config before event ≡ Heard (Takes act) → before.page < config.count → CanAct config.count act
outcome-can config before (Hearing bytes ending) act e there =
    let same : verdict_of config before.words before.page bytes ending ≡ Takes act = cc in
    verdict-can config before.words before.page bytes ending act same there
outcome-can config before Restarted act e there = cc
outcome-can config before (Reading output code word) act e there = cc

-- PAGE names an output after each event
page-kept : (config : Config) (before : Kept) (outcome : Outcome) →
    ((act : Act) → outcome ≡ Heard (Takes act) → CanAct config.count act) →
    1 ≤ config.count → before.page < config.count → (kept_by before outcome).page < config.count
page-kept config before (Heard (Takes (Select page))) can some there = can (Select page) refl
page-kept config before Restarts can some there = omega arith
page-kept config before _ can some there = there

-- PAGE names an output after any past
pub kept-page : (config : Config) (past : List Event) → 1 ≤ config.count → (kept config past).page < config.count
unfolding kept
kept-page config [] some = omega arith
kept-page config (event ∷ past) some =
    let there = kept-page config past some in
    page-kept config (kept config past) (outcome_of config (kept config past) event)
    (λ act e. outcome-can config (kept config past) event act e there) some there

-- What a converter holds after its past is what one event after another makes of its start.

-- what is held, by its parts
held-of : Config → Kept → Measured → List Bool → CmlFaults → Held
held-of config after readings cut faults = record {
  config = config;
  words = after.words;
  store = after.store;
  page = after.page;
  readings = readings;
  cut = cut;
  faults = faults;
}

-- what is held is the same where its parts are
held-same : (config : Config) (after : Kept) {readings readings' : Measured} {cut cut' : List Bool} {faults faults' : CmlFaults} →
    readings ≡ readings' → cut ≡ cut' → faults ≡ faults' →
    held-of config after readings cut faults ≡ held-of config after readings' cut' faults'
held-same config after er ec ef = cc

-- a count of outputs that can be
pub record IsCount (config : Config) : Type 0 where
  pub some : 1 ≤ config.count
  pub few : config.count ≤ 8

-- what one more event results in
came : Config → List Event → Event → Outcome
came config past event = outcome_of config (kept config past) event

-- a look back that stops here
any-stopped : (test : Moment → Bool) (stops : Bool) (before : List Moment) →
    list_any test (cond stops [] before) ≡ cond stops false (list_any test before)
any-stopped test true before = refl
any-stopped test false before = refl

-- one more moment of a bit of STATUS_CML
cml-step : (config : Config) (past : List Event) (event : Event) (bit : CmlBit) →
    cml_in config (event ∷ past) bit ≡ cml_bit_after (came config past event) bit (cml_in config past bit)
unfolding cml_in moments came
cml-step config past event bit =
    let outcome = outcome_of config (kept config past) event in
    ap (λ b. sets_cml bit outcome || b)
    (any-stopped (λ moment. sets_cml bit moment.outcome) (clears (act_clears_cml bit) outcome)
    (from_last (clears (act_clears_cml bit)) (moments config past)))

-- an output's bit of STATUS_VOUT after what one event came to
vout_by : Config → Kept → Outcome → (ℕ → Bool) → ℕ → Bool
vout_by config after outcome before output =
    is_output_cut config after.words output || cond (clears (act_clears_vout output) outcome) false (before output)

-- one more moment of it
vout-step : (config : Config) (past : List Event) (event : Event) (output : ℕ) →
    vout_in config (event ∷ past) output
    ≡ vout_by config (kept config (event ∷ past)) (came config past event) (vout_in config past) output
unfolding vout_in moments came vout_by
vout-step config past event output =
    let outcome = outcome_of config (kept config past) event in
    ap (λ b. is_output_cut config (kept config (event ∷ past)).words output || b)
    (any-stopped (λ moment. is_output_cut config moment.words output) (clears (act_clears_vout output) outcome)
    (from_last (clears (act_clears_vout output)) (moments config past)))

-- an output that starts cut shows it
vout-shows_start : (config : Config) (output : ℕ) →
    is_output_cut config (kept config []).words output ≡ true → vout_in config [] output ≡ true
unfolding vout_in moments kept
vout-shows_start config output e = ap (λ b. b || false) e

-- what is cut now shows
pub vout-shows : (config : Config) (past : List Event) (output : ℕ) →
    is_output_cut config (kept config past).words output ≡ true → vout_in config past output ≡ true
unfolding vout_by
vout-shows config [] output h = vout-shows_start config output h
vout-shows config (event ∷ past) output h =
    vout-step config past event output
    ∙ ap (λ b. b || cond (clears (act_clears_vout output) (came config past event)) false (vout_in config past output)) h

-- a bit that shows what holds is as it was
shown : (a b : Bool) → (a ≡ true → b ≡ true) → (a || b) ≡ b
shown true b h = sym (h refl)
shown false b h = refl

-- two lists of bits that are the same, output by output
each_output-same : (f g : ℕ → Bool) → ((output : ℕ) → output < 8 → f output ≡ g output) → each_output f ≡ each_output g
each_output-same f g same =
    each_output-by (each_output f) g (length-each_output f) (λ output there. cut_at-each_output f output there ∙ same output there)

-- the bits of all outputs after one bit was set
each_output-set : (f g : ℕ → Bool) (place : ℕ) (bit : Bool) → (place < 8 → bit ≡ g place) →
    ((output : ℕ) → output < 8 → output ≢ place → f output ≡ g output) → set (each_output f) place bit ≡ each_output g
each_output-set f g place bit here others =
    each_output-by (set (each_output f) place bit) g (length-set (each_output f) place bit ∙ length-each_output f) at
  where
    same : (output : ℕ) → output < 8 → output ≡ place → get_or (set (each_output f) place bit) output false ≡ g output
    same output there e =
        let within : place < length (each_output f) = omega (arith, length-each_output f) in
        subst (λ o. get_or (set (each_output f) place bit) o false ≡ g o) (sym e)
        (get_or-set_same (each_output f) place bit false within ∙ here (omega arith))

    other : (output : ℕ) → output < 8 → output ≢ place → get_or (set (each_output f) place bit) output false ≡ g output
    other output there ne =
        get_or-set_other (each_output f) place output bit false ne
        ∙ (cut_at-each_output f output there ∙ others output there ne)

    at : (output : ℕ) → output < 8 → cut_at (set (each_output f) place bit) output ≡ g output
    at output there = elim (cases_eq output place) [ inl e ↦ same output there e | inr ne ↦ other output there ne ]

-- a write for another cell changes nothing of whether an output is cut
is_output_cut-kept : SettingsAreAMap → OutputsStandAlone → (config : Config) (words : Words) (cell : Cell) (word output : ℕ) →
    AreWords words × IsCell 8 cell × (output < 8) × ((register : Reg) → same_cell cell (Out output register) ≡ false) →
    is_output_cut config (with_word words cell word) output ≡ is_output_cut config words output
unfolding is_output_cut
is_output_cut-kept map alone config words cell word output (are, here, there, other) =
    ap (λ b. ltb output config.count && b)
    (alone.cut (value_for config output) (with_word words cell word) words output
    (alone.own (with_word words cell word) words output
    (λ register. map.read words cell (Out output register) word are here there ∙ cond-false _ _ _ (other register))))

-- the cells of two outputs are two
other-output : (place output : ℕ) (register second : Reg) → output ≢ place →
    same_cell (Out place register) (Out output second) ≡ false
other-output place output register second ne =
    ap (λ b. b && same_register register second) (ne_eqb place output (λ e. ne (sym e)))

-- the latches after an event, from those of the past
module _ (map : SettingsAreAMap) (alone : OutputsStandAlone) (config : Config) (count : IsCount config) (past : List Event) where
  -- the latches of the past, and those after what an event came to
  before : ℕ → Bool
  before = vout_in config past

  found : Outcome → ℕ → Bool
  found outcome = vout_by config (kept_by (kept config past) outcome) outcome before

  -- a bit that isn't cleared, of an output whose settings stay
  stays : (output : ℕ) → before output ≡ (is_output_cut config (kept config past).words output || before output)
  unfolding before
  stays output =
      sym (shown (is_output_cut config (kept config past).words output) (vout_in config past output)
      (vout-shows config past output))

  -- all bits stay where nothing is cleared and no settings change
  all-stay : each_output before ≡ each_output (λ output. is_output_cut config (kept config past).words output || before output)
  all-stay =
      each_output-same before (λ output. is_output_cut config (kept config past).words output || before output)
      (λ output there. stays output)

  -- what CLEAR_FAULTS, and a byte written to STATUS_VOUT, leave
  one-cleared : (place : ℕ) (b : Bool) →
      cond b (history_cleared config (kept config past).words (each_output before) place) (each_output before)
      ≡ each_output (λ output.
      is_output_cut config (kept config past).words output || cond (eqb place output && b) false (before output))
  one-cleared place true =
      each_output-set before
      (λ output. is_output_cut config (kept config past).words output || cond (eqb place output && true) false (before output))
      place (is_output_cut config (kept config past).words place)
      (λ within.
      sym (ap (λ b. is_output_cut config (kept config past).words place || cond (b && true) false (before place))
      (eq-eqb place place refl) ∙ or-false (is_output_cut config (kept config past).words place)))
      (λ output there ne.
      stays output
      ∙ ap (λ b. is_output_cut config (kept config past).words output || cond (b && true) false (before output))
      (sym (ne_eqb place output (λ e. ne (sym e)))))
  one-cleared place false =
      each_output-same before
      (λ output. is_output_cut config (kept config past).words output || cond (eqb place output && false) false (before output))
      (λ output there.
      stays output
      ∙ ap (λ b. is_output_cut config (kept config past).words output || cond b false (before output))
      (sym (and-false (eqb place output))))

  -- a bit beside `true` is that bit
  and-holds : (b : Bool) → (b && true) ≡ b
  and-holds true = refl
  and-holds false = refl

  -- a word for an output's register latches that output's bit
  one-put : (place : ℕ) (register : Reg) (word : ℕ) → place < config.count →
      let words = with_word (kept config past).words (Out place register) word in
      set (each_output before) place (cut_at (each_output before) place || is_output_cut config words place)
      ≡ each_output (λ output. is_output_cut config words output || before output)
  one-put place register word here =
      let words = with_word (kept config past).words (Out place register) word in
      each_output-set before (λ output. is_output_cut config words output || before output)
      place (cut_at (each_output before) place || is_output_cut config words place)
      (λ within.
      ap (λ b. b || is_output_cut config words place) (cut_at-each_output before place within)
      ∙ or_comm (before place) (is_output_cut config words place))
      (λ output there ne.
      stays output
      ∙ ap (λ b. b || before output)
      (sym (is_output_cut-kept map alone config (kept config past).words (Out place register) word output
      ((kept-full map config past).words, omega (arith, here, count.few), there, λ second. other-output place output register second ne))))

  -- WRITE_PROTECT cuts no output
  protect-put : (word : ℕ) → each_output before
      ≡ each_output (λ output. is_output_cut config (with_word (kept config past).words Protect word) output || before output)
  protect-put word =
      each_output-same before
      (λ output. is_output_cut config (with_word (kept config past).words Protect word) output || before output)
      (λ output there.
      stays output
      ∙ ap (λ b. b || before output)
      (sym (is_output_cut-kept map alone config (kept config past).words Protect word output
      ((kept-full map config past).words, tt, there, λ second. refl))))

  -- words from the store latch the bit of each output
  all-restored :
      let words = with_outputs (kept config past).words (kept config past).store in
      each_output (λ output. cut_at (each_output before) output || is_output_cut config words output)
      ≡ each_output (λ output. is_output_cut config words output || before output)
  all-restored =
      let words = with_outputs (kept config past).words (kept config past).store in
      each_output-same (λ output. cut_at (each_output before) output || is_output_cut config words output)
      (λ output. is_output_cut config words output || before output)
      (λ output there.
      ap (λ b. b || is_output_cut config words output) (cut_at-each_output before output there)
      ∙ or_comm (before output) (is_output_cut config words output))

  -- the latches after what an event came to are those that looking back finds
  cut-step : (outcome : Outcome) → ((act : Act) → outcome ≡ Heard (Takes act) → CanAct config.count act) →
      cut_by config (kept_by (kept config past) outcome).words (each_output before) outcome
      ≡ each_output (found outcome)
  unfolding found vout_by
  cut-step (Heard (Takes (Put (Out place register) word))) can =
      let able = can (Put (Out place register) word) refl in one-put place register word able.0
  cut-step (Heard (Takes (Put Protect word))) can = protect-put word
  cut-step (Heard (Takes Restore)) can = all-restored
  cut-step (Heard (Takes (ClearFaults place))) can =
      one-cleared place true
      ∙ each_output-same
      (λ output. is_output_cut config (kept config past).words output || cond (eqb place output && true) false (before output))
      (λ output. is_output_cut config (kept config past).words output || cond (eqb place output) false (before output))
      (λ output there.
      ap (λ b. is_output_cut config (kept config past).words output || cond b false (before output))
      (and-holds (eqb place output)))
  cut-step (Heard (Takes (ClearVout place byte))) can = one-cleared place (has_bit_set byte 0x08)
  cut-step Restarts can =
      let store = (kept config past).store in
      each_output-same (is_output_cut config store) (λ output. is_output_cut config store output || false)
      (λ output there. sym (or-false (is_output_cut config store output)))
  cut-step _ can = all-stay

  -- the latches after one more event
  vout-table : (event : Event) → each_output (vout_in config (event ∷ past))
      ≡ cut_by config (kept_by (kept config past) (came config past event)).words (each_output (vout_in config past))
      (came config past event)
  unfolding found before kept came
  vout-table event =
      each_output-same (vout_in config (event ∷ past)) (found (came config past event))
      (λ output there. vout-step config past event output)
      ∙ sym (cut-step (came config past event)
      (λ act e. outcome-can config (kept config past) event act e (kept-page config past count.some)))

  -- the bits of STATUS_CML after one more event
  faults-step : (event : Event) →
      (device_now config (event ∷ past)).faults ≡ faults_by (device_now config past).faults (came config past event)
  unfolding device_now
  faults-step event =
      let command = cml-step config past event Command in
      let unsupported = cml-step config past event Data in
      let pec = cml-step config past event Pec in
      let other = cml-step config past event OtherCommunication in
      cc

  -- what is held after one more event
  pub now-next : (event : Event) → device_now config (event ∷ past) ≡ device_next (device_now config past) event
  unfolding device_now device_next after_outcome kept came held-of
  now-next event =
      held-same config (kept_by (kept config past) (came config past event))
      refl (vout-table event) (faults-step event)

-- what is held at the start
pub now-nil : (config : Config) → device_now config [] ≡ start_of config
unfolding device_now start_of kept vout_in cml_in moments
now-nil config =
    let cut =
    each_output-same (λ output. is_output_cut config (started config).words output || false)
    (is_output_cut config (started config).words)
    (λ output there. or-false (is_output_cut config (started config).words output)) in
    cc

-- PAGE names an output
pub now-page : (config : Config) (past : List Event) → 1 ≤ config.count → (device_now config past).page < config.count
unfolding device_now
now-page config past some = kept-page config past some

-- there is a word for each cell
pub now-words : SettingsAreAMap → (config : Config) (past : List Event) → AreWords (device_now config past).words
unfolding device_now
now-words map config past = (kept-full map config past).words

-- each cell has a word in the store
pub now-store : SettingsAreAMap → (config : Config) (past : List Event) → AreWords (device_now config past).store
unfolding device_now
now-store map config past = (kept-full map config past).store

-- The frames and start words that the words of the cells come from, over a converter's whole past.

-- two acts that put a word put the same one into the same cell
put-one : (cell other : Cell) (word number : ℕ) → Some (Put cell word) ≡ Some (Put other number) →
    (Some cell ≡ Some other) × (word ≡ number)
put-one cell other word number e = (cc, cc)

-- the cell that an act puts a word into is the one that its code and output name
pub put-names : (code output word number : ℕ) (cell : Cell) → act_in code output word ≡ Some (Put cell number) →
    (cell_at code output ≡ Some cell) × (word ≡ number)
put-names code output word number cell e =
    first (eqb code command.page) (eqb code command.clear_faults) (eqb code command.status_vout) (eqb code command.status_cml) e
  where
    last : (a b : Bool) (found : Option Cell) →
        cond a (Some Store) (cond b (Some Restore) (option_map (λ x. Put x word) found)) ≡ Some (Put cell number) →
        (found ≡ Some cell) × (word ≡ number)
    last true b found h = cc
    last false true found h = cc
    last false false None h = cc
    last false false (Some x) h = put-one x cell word number h

    first : (a b c d : Bool) →
        cond a (Some (Select word)) (cond b (Some (ClearFaults output)) (cond c (Some (ClearVout output word))
        (cond d (Some (ClearCml word)) (cond (eqb code command.store_user_all) (Some Store)
        (cond (eqb code command.restore_user_all) (Some Restore) (option_map (λ x. Put x word) (cell_at code output)))))))
        ≡ Some (Put cell number) → (cell_at code output ≡ Some cell) × (word ≡ number)
    first true b c d h = cc
    first false true c d h = cc
    first false false true d h = cc
    first false false false true h = cc
    first false false false false h =
        last (eqb code command.store_user_all) (eqb code command.restore_user_all) (cell_at code output) h

-- bytes without a fault are a write of what they say by their places
written-message : WritesAreExact → (addr : ℕ) (bytes : List ℕ) → AreBytes bytes → write_fault addr bytes ≡ None →
    IsWrite addr (message_in bytes) bytes
written-message exact addr bytes are none =
    let some = exact.faultless addr bytes are none in
    subst (λ m. IsWrite addr m bytes) (sym (exact.places addr some.0 bytes some.1)) some.1

-- a frame of the past is one of a longer past
later-ever : (config : Config) (past : List Event) (event : Event) (cell : Cell) (word : ℕ) →
    WasEverCarried config past cell word → WasEverCarried config (event ∷ past) cell word
later-ever config past event cell word h = record {
  later = event ∷ h.later;
  before = h.before;
  bytes = h.bytes;
  message = h.message;
  heard = ap (λ p. event ∷ p) h.heard;
  carries = h.carries;
  taken = h.taken;
  names = h.names;
  number = h.number;
}

-- a word carried since the cell last got its word in the store is so after one more event, if that doesn't bring the cell that word
later-carried : (config : Config) (past : List Event) (event : Event) (cell : Cell) (word : ℕ) →
    loads cell (outcome_of config (kept config past) event) ≡ false →
    WasCarried config past cell word → WasCarried config (event ∷ past) cell word
unfolding later-ever
later-carried config past event cell word unbroken h = record {
  frame = later-ever config past event cell word h.frame;
  since = (subst (λ p. loads cell (outcome_of config (kept config p) event) ≡ false) h.frame.heard unbroken, h.since);
}

-- what was ever had is so in a longer past
later-had : (config : Config) (past : List Event) (event : Event) (cell : Cell) (word : ℕ) →
    IsEverHad config past cell word → IsEverHad config (event ∷ past) cell word
later-had config past event cell word (inl e) = inl e
later-had config past event cell word (inr h) = inr (later-ever config past event cell word h)

-- a frame that is taken is answered so
taken-now : (config : Config) (past : List Event) (bytes : List ℕ) (act : Act) →
    verdict_of config (kept config past).words (kept config past).page bytes Stop ≡ Takes act →
    reply_of (device_now config past) bytes Stop ≡ Taken
unfolding reply_of device_now
taken-now config past bytes act e = ap (λ v. reply_to (device_now config past) v) e

-- a frame that puts a word now carried it
carried-now : WritesAreExact → (config : Config) (past : List Event) (bytes : List ℕ) (ending : Ending) (cell : Cell) (word : ℕ) →
    AreBytes bytes × (verdict_of config (kept config past).words (kept config past).page bytes ending ≡ Takes (Put cell word)) →
    WasCarried config (Hearing bytes ending ∷ past) cell word
unfolding device_now
carried-now exact config past bytes ending cell word (are, e) =
    let words = (kept config past).words in
    let page = (kept config past).page in
    let message = message_in bytes in
    let was = verdict-taken config words page bytes ending (Put cell word) e in
    let names =
    put-names (message_code message) (output_in page message) (written_word message) word cell was.act_taken.asked in
    record {
      frame = record {
        later = [];
        before = past;
        bytes = bytes;
        message = message;
        heard = ap (λ x. Hearing bytes x ∷ past) was.stopped;
        carries = written-message exact config.addr bytes are was.faultless;
        taken =
            taken-now config past bytes (Put cell word)
            (subst (λ x. verdict_of config words page bytes x ≡ Takes (Put cell word)) was.stopped e);
        names = names.0;
        number = names.1;
      };
      since = tt;
    }

-- what is put by an event is carried by it
carried-event : WritesAreExact → (config : Config) (past : List Event) (event : Event) (cell : Cell) (word : ℕ) →
    AreHeard (event ∷ past) → outcome_of config (kept config past) event ≡ Heard (Takes (Put cell word)) →
    WasCarried config (event ∷ past) cell word
carried-event exact config past (Hearing bytes ending) cell word heard e =
    let same : verdict_of config (kept config past).words (kept config past).page bytes ending ≡ Takes (Put cell word) = cc in
    carried-now exact config past bytes ending cell word (heard.0, same)
carried-event exact config past Restarted cell word heard e = cc
carried-event exact config past (Reading output code number) cell word heard e = cc

-- what was heard before an event
heard-before : (event : Event) (past : List Event) → AreHeard (event ∷ past) → AreHeard past
heard-before (Hearing bytes ending) past heard = heard.1
heard-before Restarted past heard = heard
heard-before (Reading output code word) past heard = heard.1

-- a word is the one that the cell was last loaded with, or one that was carried for it
HasOrigin : Config → List Event → Cell → ℕ → Type 0
HasOrigin config past cell word = (word ≡ loaded_word config past cell) ⊎ WasCarried config past cell word

-- a word has its origin where the cell wasn't loaded since
origin-later : (config : Config) (past : List Event) (event : Event) (cell : Cell) (word : ℕ) →
    loads cell (outcome_of config (kept config past) event) ≡ false →
    HasOrigin config past cell word → HasOrigin config (event ∷ past) cell word
unfolding HasOrigin loaded_word
origin-later config past event cell word unbroken (inl e) = inl (e ∙ sym (cond-false _ _ _ unbroken))
origin-later config past event cell word unbroken (inr w) = inr (later-carried config past event cell word unbroken w)

module _ (map : SettingsAreAMap) (told : CellsAreToldApart) where
  -- what holds of a cell's word, and of the word that it may get, holds after a write
  put-word : (words : Words) (cell other : Cell) (word : ℕ) (P : ℕ → Type 0) →
      AreWords words × IsCell 8 cell × IsCell 8 other → (cell ≡ other → P word) → P (word_at words other) →
      P (word_at (with_word words cell word) other)
  put-word words cell other word P (are, here, there) put before = go (same_cell cell other) refl where
    go : (b : Bool) → same_cell cell other ≡ b → P (word_at (with_word words cell word) other)
    go true is =
        subst P (sym (map.read words cell other word are here there ∙ cond-true _ _ _ is)) (put ((told cell other).0 is))
    go false is = subst P (sym (map.read words cell other word are here there ∙ cond-false _ _ _ is)) before

  -- what holds of a cell's word where it isn't loaded, of its word in the store where it is, and of the word that
  -- it may get, holds after what an event came to
  outcome-word : (before : Kept) (outcome : Outcome) (cell : Cell) (P : ℕ → Type 0) →
      AreFull before × IsCell 8 cell →
      ((other : Cell) (word : ℕ) → outcome ≡ Heard (Takes (Put other word)) → IsCell 8 other × (other ≡ cell → P word)) →
      (loads cell outcome ≡ false → P (word_at before.words cell)) →
      (loads cell outcome ≡ true → P (word_at before.store cell)) →
      P (word_at (kept_by before outcome).words cell)
  outcome-word before (Heard (Takes (Put other word))) cell P (full, there) put holds loaded =
      let puts = put other word refl in
      put-word before.words other cell word P (full.words, puts.0, there) puts.1 (holds (and-false (is_output_cell cell)))
  outcome-word before (Heard (Takes Restore)) (Out output register) P (full, there) put holds loaded =
      subst P (sym (map.outputs before.words before.store output register full.store there)) (loaded refl)
  outcome-word before (Heard (Takes Restore)) Protect P (full, there) put holds loaded =
      subst P (sym (map.protect before.words before.store full.store)) (holds refl)
  outcome-word before (Heard (Takes act)) cell P facts put holds loaded = holds (and-false (is_output_cell cell))
  outcome-word before Restarts cell P facts put holds loaded = loaded refl
  outcome-word before _ cell P facts put holds loaded = holds refl

  -- a cell's word in the store after what an event came to
  outcome-stored : (before : Kept) (outcome : Outcome) (cell : Cell) → AreFull before × IsCell 8 cell →
      word_at (kept_by before outcome).store cell
      ≡ cond (saves cell outcome) (word_at before.words cell) (word_at before.store cell)
  outcome-stored before (Heard (Takes Store)) (Out output register) (full, there) =
      map.outputs before.store before.words output register full.words there
  outcome-stored before (Heard (Takes Store)) Protect (full, there) = map.protect before.store before.words full.words
  outcome-stored before (Heard (Takes act)) cell facts = sym (cond-false _ _ _ (and-false (is_output_cell cell)))
  outcome-stored before _ cell facts = refl

  -- a cell's word as a converter starts
  start-at : (config : Config) (cell : Cell) → IsCell 8 cell → word_at (start_words config) cell ≡ start_word config cell
  unfolding start_words
  start-at config cell here = (map.made (start_word config)).1 cell here

  -- each cell's word has an origin
  kept-origin : WritesAreExact → (config : Config) (past : List Event) (cell : Cell) →
      IsCount config → AreHeard past → IsCell config.count cell → HasOrigin config past cell (word_at (kept config past).words cell)
  unfolding HasOrigin kept loaded_word
  kept-origin exact config [] cell count heard here =
      inl (start-at config cell (IsCell-eight config.count cell count.few here))
  kept-origin exact config (event ∷ past) cell count heard here =
      let before = kept config past in
      outcome-word before (outcome_of config before event) cell (HasOrigin config (event ∷ past) cell)
      (kept-full map config past, IsCell-eight config.count cell count.few here)
      (λ other word e.
      let can = outcome-can config before event (Put other word) e (kept-page config past count.some) in (
        IsCell-eight config.count other count.few can.0,
        λ same. inr (subst (λ c. WasCarried config (event ∷ past) c word) same (carried-event exact config past event other word heard e)),
      ))
      (λ unbroken. origin-later config past event cell (word_at before.words cell) unbroken
      (kept-origin exact config past cell count (heard-before event past heard) here))
      (λ loaded. inl (sym (cond-true _ _ _ loaded)))

  pub now-origin : WritesAreExact → (config : Config) (past : List Event) (cell : Cell) →
      IsCount config → AreHeard past → IsCell config.count cell →
      (word_at (device_now config past).words cell ≡ loaded_word config past cell)
      ⊎ WasCarried config past cell (word_at (device_now config past).words cell)
  unfolding device_now HasOrigin
  now-origin exact config past cell count heard here = kept-origin exact config past cell count heard here

  -- each cell's word, and the one in the store, was ever had
  kept-ever : WritesAreExact → (config : Config) (past : List Event) (cell : Cell) →
      IsCount config → AreHeard past → IsCell config.count cell →
      IsEverHad config past cell (word_at (kept config past).words cell)
      × IsEverHad config past cell (word_at (kept config past).store cell)
  unfolding kept
  kept-ever exact config [] cell count heard here =
      let start : IsEverHad config [] cell (word_at (start_words config) cell) =
      inl (start-at config cell (IsCell-eight config.count cell count.few here)) in (start, start)
  kept-ever exact config (event ∷ past) cell count heard here =
      let before = kept config past in
      let outcome = outcome_of config before event in
      let facts : AreFull before × IsCell 8 cell = (kept-full map config past, IsCell-eight config.count cell count.few here) in
      let both = kept-ever exact config past cell count (heard-before event past heard) here in
      let words = later-had config past event cell (word_at before.words cell) both.0 in
      let store = later-had config past event cell (word_at before.store cell) both.1 in (
        outcome-word before outcome cell (IsEverHad config (event ∷ past) cell) facts
            (λ other word e.
            let can = outcome-can config before event (Put other word) e (kept-page config past count.some) in (
              IsCell-eight config.count other count.few can.0,
              λ same. inr (subst (λ c. WasEverCarried config (event ∷ past) c word) same
                  (carried-event exact config past event other word heard e).frame),
            ))
            (λ unbroken. words) (λ loaded. store),
        subst (IsEverHad config (event ∷ past) cell) (sym (outcome-stored before outcome cell facts))
            (either (saves cell outcome) (word_at before.words cell) (word_at before.store cell) words store),
      )
    where
      either : (b : Bool) (one two : ℕ) → IsEverHad config (event ∷ past) cell one →
          IsEverHad config (event ∷ past) cell two → IsEverHad config (event ∷ past) cell (cond b one two)
      either true one two h k = h
      either false one two h k = k

  pub now-ever : WritesAreExact → (config : Config) (past : List Event) (cell : Cell) →
      IsCount config → AreHeard past → IsCell config.count cell →
      IsEverHad config past cell (word_at (device_now config past).words cell)
      × IsEverHad config past cell (word_at (device_now config past).store cell)
  unfolding device_now
  now-ever exact config past cell count heard here = kept-ever exact config past cell count heard here

  -- a cell has its word in the store
  kept-stored : (config : Config) (past : List Event) (cell : Cell) → IsCell 8 cell →
      word_at (kept config past).store cell ≡ stored_word config past cell
  unfolding kept stored_word
  kept-stored config [] cell here = start-at config cell here
  kept-stored config (event ∷ past) cell here =
      let before = kept config past in
      outcome-stored before (outcome_of config before event) cell (kept-full map config past, here)
      ∙ ap (λ w. cond (saves cell (outcome_of config before event)) (word_at before.words cell) w) (kept-stored config past cell here)

  pub now-stored : (config : Config) (past : List Event) (cell : Cell) → config.count ≤ 8 → IsCell config.count cell →
      word_at (device_now config past).store cell ≡ stored_word config past cell
  unfolding device_now
  now-stored config past cell few here = kept-stored config past cell (IsCell-eight config.count cell few here)

  -- each cell accepts its word, and the one in the store
  kept-accepted : (config : Config) (past : List Event) (cell : Cell) → IsSound config → IsCell config.count cell →
      (cell_accepts cell (word_at (kept config past).words cell) ≡ true)
      × (cell_accepts cell (word_at (kept config past).store cell) ≡ true)
  unfolding kept
  kept-accepted config [] cell sound here =
      let start =
      subst (λ w. cell_accepts cell w ≡ true)
      (sym (start-at config cell (IsCell-eight config.count cell sound.few here))) (sound.starts cell here) in (start, start)
  kept-accepted config (event ∷ past) cell sound here =
      let before = kept config past in
      let outcome = outcome_of config before event in
      let facts : AreFull before × IsCell 8 cell = (kept-full map config past, IsCell-eight config.count cell sound.few here) in
      let both = kept-accepted config past cell sound here in (
        outcome-word before outcome cell (λ w. cell_accepts cell w ≡ true) facts
            (λ other word e.
            let can = outcome-can config before event (Put other word) e (kept-page config past sound.some) in (
              IsCell-eight config.count other sound.few can.0,
              λ same. subst (λ c. cell_accepts c word ≡ true) same can.1,
            ))
            (λ unbroken. both.0) (λ loaded. both.1),
        subst (λ w. cell_accepts cell w ≡ true) (sym (outcome-stored before outcome cell facts))
            (either (saves cell outcome) (word_at before.words cell) (word_at before.store cell) both.0 both.1),
      )
    where
      either : (b : Bool) (one two : ℕ) → cell_accepts cell one ≡ true → cell_accepts cell two ≡ true →
          cell_accepts cell (cond b one two) ≡ true
      either true one two h k = h
      either false one two h k = k

  pub now-accepted : (config : Config) (past : List Event) (cell : Cell) → IsSound config → IsCell config.count cell →
      cell_accepts cell (word_at (device_now config past).words cell) ≡ true
  unfolding device_now
  now-accepted config past cell sound here = (kept-accepted config past cell sound here).0

  pub now-stored_accepted : (config : Config) (past : List Event) (cell : Cell) → IsSound config → IsCell config.count cell →
      cell_accepts cell (word_at (device_now config past).store cell) ≡ true
  unfolding device_now
  now-stored_accepted config past cell sound here = (kept-accepted config past cell sound here).1

-- What a hearing leaves of the words of the cells, of the store and of PAGE.

-- an event leaves what is kept after it
pub kept-next : (held : Held) (event : Event) → kept_in (device_next held event) ≡ kept_after held event
unfolding device_next after_outcome
kept-next held event = refl

-- words, store and PAGE stay
Stays : Held → Verdict → Type 0
Stays held verdict = kept_by (kept_in held) (Heard verdict) ≡ kept_in held

-- what isn't taken changes nothing
stays-not_taken : (held : Held) (verdict : Verdict) → ((act : Act) → verdict ≡ Takes act → ⊥) → Stays held verdict
unfolding Stays
stays-not_taken held Ignores not_taken = refl
stays-not_taken held (Refuses fault) not_taken = refl
stays-not_taken held (Answers request) not_taken = refl
stays-not_taken held (Takes act) not_taken = absurd (not_taken act refl)

-- a request leaves them
pub requested : (held : Held) (bytes : List ℕ) → kept_after held (Hearing bytes Restart) ≡ kept_in held
unfolding Stays
requested held bytes =
    stays-not_taken held (verdict_of held.config held.words held.page bytes Restart)
    (λ act e. request-not_taken held.config held.words held.page bytes act e)

-- the verdict of a fault leaves them
faulty-stays : (held : Held) (fault : FrameFault) → Stays held (fault_verdict fault)
unfolding Stays
faulty-stays held frame.NotOurs = refl
faulty-stays held (frame.Short place) = refl
faulty-stays held (frame.Long place) = refl
faulty-stays held (frame.WrongCount place) = refl
faulty-stays held (frame.WrongPec place) = refl
faulty-stays held (frame.UnknownCode place) = refl
faulty-stays held (frame.WrongDirection place) = refl
faulty-stays held (frame.Nested place) = refl

-- a faulty write leaves them
pub faulty : (held : Held) (bytes : List ℕ) → write_fault held.config.addr bytes ≢ None →
    kept_after held (Hearing bytes Stop) ≡ kept_in held
unfolding Stays verdict_of
faulty held bytes some = go (write_fault held.config.addr bytes) refl where
  go : (fault : Option FrameFault) → write_fault held.config.addr bytes ≡ fault →
      Stays held (unless_faulty fault (write_verdict held.config held.words held.page (message_in bytes)))
  go None e = absurd (some e)
  go (Some fault) e = faulty-stays held fault

-- a write results in what its message results in
pub heard-write : WritesAreExact → (held : Held) (message : Message) (bytes : List ℕ) →
    IsWrite held.config.addr message bytes →
    verdict_of held.config held.words held.page bytes Stop ≡ write_verdict held.config held.words held.page message
unfolding verdict_of
heard-write exact held message bytes h =
    ap₂ (λ fault m. unless_faulty fault (write_verdict held.config held.words held.page m))
    (exact.spelled held.config.addr message bytes h) (exact.places held.config.addr message bytes h)

-- a code that means no cell isn't that of one
none-cell : (code output n : ℕ) (cell : Cell) → eqb code n ≡ true → cell_at n output ≡ None →
    cell_at code output ≡ Some cell → ⊥
none-cell code output n cell same none some =
    let e : cell_at code output ≡ None = ap (λ c. cell_at c output) (eqb-true code n same) ∙ none in
    let f : Some cell ≡ None = sym some ∙ e in cc

-- a write of a code that asks for an act results in what the act does
acted : WritesAreExact → (held : Held) (message : Message) (act : Act) (bytes : List ℕ) →
    IsWrite held.config.addr message bytes →
    act_in (message_code message) (output_in held.page message) (written_word message) ≡ Some act →
    kept_after held (Hearing bytes Stop)
    ≡ kept_by (kept_in held) (Heard (act_verdict held.config.count (word_at held.words Protect) message act))
acted exact held message act bytes h asked =
    let protect = word_at held.words Protect in
    ap (λ v. kept_by (kept_in held) (Heard v)) (heard-write exact held message bytes h
    ∙ ap (λ found. option_map_or (λ a. act_verdict held.config.count protect message a) found (Refuses UnsupportedCode)) asked)

-- the act of a cell's code
pub act-cell : (code output word : ℕ) (cell : Cell) → cell_at code output ≡ Some cell →
    act_in code output word ≡ Some (Put cell word)
act-cell code output word cell e = first (eqb code command.page) refl where
  -- the acts from each test on
  sixth : Option Act
  sixth = cond (eqb code command.restore_user_all) (Some Restore) (option_map (λ x. Put x word) (cell_at code output))

  fifth : Option Act
  fifth = cond (eqb code command.store_user_all) (Some Store) sixth

  fourth : Option Act
  fourth = cond (eqb code command.status_cml) (Some (ClearCml word)) fifth

  third : Option Act
  third = cond (eqb code command.status_vout) (Some (ClearVout output word)) fourth

  second : Option Act
  second = cond (eqb code command.clear_faults) (Some (ClearFaults output)) third

  restores : (b : Bool) → eqb code command.restore_user_all ≡ b →
      cond b (Some Restore) (option_map (λ x. Put x word) (cell_at code output)) ≡ Some (Put cell word)
  restores true is = absurd (none-cell code output command.restore_user_all cell is refl e)
  restores false is = ap (λ found. option_map (λ x. Put x word) found) e

  stores : (b : Bool) → eqb code command.store_user_all ≡ b → cond b (Some Store) sixth ≡ Some (Put cell word)
  stores true is = absurd (none-cell code output command.store_user_all cell is refl e)
  stores false is = restores (eqb code command.restore_user_all) refl

  cml : (b : Bool) → eqb code command.status_cml ≡ b → cond b (Some (ClearCml word)) fifth ≡ Some (Put cell word)
  cml true is = absurd (none-cell code output command.status_cml cell is refl e)
  cml false is = stores (eqb code command.store_user_all) refl

  vout : (b : Bool) → eqb code command.status_vout ≡ b → cond b (Some (ClearVout output word)) fourth ≡ Some (Put cell word)
  vout true is = absurd (none-cell code output command.status_vout cell is refl e)
  vout false is = cml (eqb code command.status_cml) refl

  clears : (b : Bool) → eqb code command.clear_faults ≡ b → cond b (Some (ClearFaults output)) third ≡ Some (Put cell word)
  clears true is = absurd (none-cell code output command.clear_faults cell is refl e)
  clears false is = vout (eqb code command.status_vout) refl

  first : (b : Bool) → eqb code command.page ≡ b → cond b (Some (Select word)) second ≡ Some (Put cell word)
  first true is = absurd (none-cell code output command.page cell is refl e)
  first false is = clears (eqb code command.clear_faults) refl

-- what is kept after a word for a cell, with the three tests of it
put-kept : (held : Held) (cell : Cell) (word : ℕ) (away allowed accepted : Bool) →
    kept_by (kept_in held) (Heard (cond (away || false) (Refuses BadPage)
    (cond (not allowed) (Refuses Protected) (cond (not accepted) (Refuses UnsupportedData) (Takes (Put cell word))))))
    ≡ record (kept_in held) {
      words = cond (not away && allowed && accepted) (with_word held.words cell word) held.words;
    }
put-kept held cell word false true true = refl
put-kept held cell word false true false = refl
put-kept held cell word false false true = refl
put-kept held cell word false false false = refl
put-kept held cell word true true true = refl
put-kept held cell word true true false = refl
put-kept held cell word true false true = refl
put-kept held cell word true false false = refl

-- a write of a cell's code reaches that cell
pub cell-written : WritesAreExact → (held : Held) (message : Message) (cell : Cell) (bytes : List ℕ) →
    IsWrite held.config.addr message bytes → cell_at (message_code message) (output_in held.page message) ≡ Some cell →
    kept_after held (Hearing bytes Stop) ≡ record (kept_in held) {
      words = cond (not (names_no_output held.config.count message)
          && is_allowed (word_at held.words Protect) (message_code message) && cell_accepts cell (written_word message))
          (with_word held.words cell (written_word message)) held.words;
    }
cell-written exact held message cell bytes h names =
    let word = written_word message in
    acted exact held message (Put cell word) bytes h (act-cell (message_code message) (output_in held.page message) word cell names)
    ∙ put-kept held cell word (names_no_output held.config.count message)
    (is_allowed (word_at held.words Protect) (message_code message)) (cell_accepts cell word)

-- a carried one does where its page is there
pub carried : WritesAreExact → (held : Held) (output code : ℕ) (payload : Payload) (cell : Cell) (bytes : List ℕ) →
    IsWrite held.config.addr (PagePlusWrite output code payload) bytes × (cell_at code output ≡ Some cell) →
    kept_after held (Hearing bytes Stop) ≡ record (kept_in held) {
      words = cond (ltb output held.config.count && is_allowed (word_at held.words Protect) code
          && cell_accepts cell (payload_word payload)) (with_word held.words cell (payload_word payload)) held.words;
    }
carried exact held output code payload cell bytes (h, names) =
    cell-written exact held (PagePlusWrite output code payload) cell bytes h names
    ∙ ap (λ b. record (kept_in held) {
      words = cond (b && is_allowed (word_at held.words Protect) code && cell_accepts cell (payload_word payload))
          (with_word held.words cell (payload_word payload)) held.words;
    }) (not-not (ltb output held.config.count))
  where
    not-not : (b : Bool) → not (not b) ≡ b
    not-not true = refl
    not-not false = refl

-- a plain one of WRITE_PROTECT does
pub plain-protect : WritesAreExact → (held : Held) (byte : ℕ) (bytes : List ℕ) →
    IsWrite held.config.addr (WriteByte command.write_protect byte) bytes →
    kept_after held (Hearing bytes Stop) ≡ record (kept_in held) {
      words = cond (is_allowed (word_at held.words Protect) command.write_protect && cell_accepts Protect byte)
          (with_word held.words Protect byte) held.words;
    }
plain-protect exact held byte bytes h =
    cell-written exact held (WriteByte command.write_protect byte) Protect bytes h refl

-- a write of PAGE selects an output
pub selected : WritesAreExact → (held : Held) (byte : ℕ) (bytes : List ℕ) →
    IsWrite held.config.addr (WriteByte command.page byte) bytes →
    kept_after held (Hearing bytes Stop) ≡ record (kept_in held) {
      page = cond (ltb byte held.config.count && is_allowed (word_at held.words Protect) command.page) byte held.page;
    }
selected exact held byte bytes h =
    acted exact held (WriteByte command.page byte) (Select byte) bytes h refl
    ∙ go (ltb byte held.config.count) (is_allowed (word_at held.words Protect) command.page)
  where
    go : (there allowed : Bool) →
        kept_by (kept_in held) (Heard (cond (not there) (Refuses BadPage)
        (cond (not allowed) (Refuses Protected) (Takes (Select byte)))))
        ≡ record (kept_in held) { page = cond (there && allowed) byte held.page }
    go true true = refl
    go true false = refl
    go false true = refl
    go false false = refl

-- CLEAR_FAULTS leaves words, store and PAGE
pub cleared : WritesAreExact → (held : Held) (output : ℕ) (payload : Payload) (bytes : List ℕ) →
    IsWrite held.config.addr (PagePlusWrite output command.clear_faults payload) bytes →
    kept_after held (Hearing bytes Stop) ≡ kept_in held
unfolding line_of
cleared exact held output payload bytes h =
    acted exact held (PagePlusWrite output command.clear_faults payload) (ClearFaults output) bytes h refl
    ∙ go (ltb output held.config.count)
  where
    go : (there : Bool) →
        kept_by (kept_in held) (Heard (cond (not there || false) (Refuses BadPage) (Takes (ClearFaults output))))
        ≡ kept_in held
    go true = refl
    go false = refl

-- STORE_USER_ALL copies the outputs' words to the store
pub stored : WritesAreExact → (held : Held) (message : Message) (bytes : List ℕ) →
    IsWrite held.config.addr message bytes → message_code message ≡ command.store_user_all →
    kept_after held (Hearing bytes Stop) ≡ record (kept_in held) {
      store = cond (not (names_no_output held.config.count message)
          && is_allowed (word_at held.words Protect) command.store_user_all)
          (with_outputs held.store held.words) held.store;
    }
stored exact held message bytes h code =
    acted exact held message Store bytes h (ap (λ c. act_in c (output_in held.page message) (written_word message)) code)
    ∙ (go (names_no_output held.config.count message) (is_allowed (word_at held.words Protect) (message_code message))
    ∙ ap (λ c. record (kept_in held) {
      store = cond (not (names_no_output held.config.count message) && is_allowed (word_at held.words Protect) c)
          (with_outputs held.store held.words) held.store;
    }) code)
  where
    go : (away allowed : Bool) →
        kept_by (kept_in held) (Heard (cond (away || false) (Refuses BadPage) (cond (not allowed) (Refuses Protected) (Takes Store))))
        ≡ record (kept_in held) { store = cond (not away && allowed) (with_outputs held.store held.words) held.store }
    go true true = refl
    go true false = refl
    go false true = refl
    go false false = refl

-- RESTORE_USER_ALL brings them back
pub restored : WritesAreExact → (held : Held) (message : Message) (bytes : List ℕ) →
    IsWrite held.config.addr message bytes → message_code message ≡ command.restore_user_all →
    kept_after held (Hearing bytes Stop) ≡ record (kept_in held) {
      words = cond (not (names_no_output held.config.count message)
          && is_allowed (word_at held.words Protect) command.restore_user_all)
          (with_outputs held.words held.store) held.words;
    }
restored exact held message bytes h code =
    acted exact held message Restore bytes h (ap (λ c. act_in c (output_in held.page message) (written_word message)) code)
    ∙ (go (names_no_output held.config.count message) (is_allowed (word_at held.words Protect) (message_code message))
    ∙ ap (λ c. record (kept_in held) {
      words = cond (not (names_no_output held.config.count message) && is_allowed (word_at held.words Protect) c)
          (with_outputs held.words held.store) held.words;
    }) code)
  where
    go : (away allowed : Bool) →
        kept_by (kept_in held) (Heard (cond (away || false) (Refuses BadPage) (cond (not allowed) (Refuses Protected) (Takes Restore))))
        ≡ record (kept_in held) { words = cond (not away && allowed) (with_outputs held.words held.store) held.words }
    go true true = refl
    go true false = refl
    go false true = refl
    go false false = refl
