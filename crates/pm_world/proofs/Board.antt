-- Several converters on one bus: what overhears, what answers with ones, what shares a code.
use Rattle.std.specs.{Bool.beq, Cmp.Lexicographic.pointwise, Int.Bits.xor_assoc}
use Rattle.std.specs.List.{starts_with, list_all, Contains}
use Rattle.std.specs.Option.{option_map, option_or, option_map_or}
use Rattle.std.specs.Prelude.{nat_lt, bytes_eq}
use Rattle.std.proofs.{Math.Dec.ltb, lemmas.List.Elements.All-contains, lemmas.List.Sums.AllPass-from_list_all}
use Rattle.std.proofs.{lemmas.List.length-replicate, lemmas.Slice.Eq.bytes_eq-Decides}
use Rattle.std.proofs.Common.{◌≡◌, ◌≢◌, ℕ, zero, suc, ◌+◌, ◌<◌, Bool, true, false, not, ◌&&◌, eqb, Option, Some, None, is_none, List, []}
use Rattle.std.proofs.Common.{◌∷◌, length, replicate, get_or, refl, sym, ap, ◌∙◌, arith, cond, ◌⊎◌, inl, inr, ◌||◌, take, subst, lit<}
use Rattle.std.proofs.Common.{bit_xor}
use Rattle.std.proofs.lemmas.Bool.{agree_below_at, and_parts, eq-eqb, eqb-true, false≢true, not-false, ne_eqb, or_cases, or_right}
use Rattle.std.proofs.lemmas.Bool.{agree_below, ltb-true}
use Rattle.pm_table.specs.{Laws.RegistersAreInTheTable, declared.cell.Cell.Cell, declared.reg.Reg.Reg}
use Rattle.pm_table.specs.Cell.{cell_accepts, register_code, cell_at}
use Rattle.pm_table.specs.Codes as command
use Rattle.pm_table.specs.Commands.{line_of, payload_length}
use Rattle.pm_table.specs.RuleLemmas.{or-none, rule-none}
use Rattle.pm_table.specs.declared.cell.Cell.TheVariants.{Out, Protect}
use Rattle.pm_table.specs.declared.reg.Reg.TheVariants.{Operation, VoutCommand, VoutMax, MarginHigh, MarginLow, VoutMin}
use Rattle.pm_frame.specs.{Betrayal.is_betrayed, LateAnswers.request_code, Laws.BetrayalIsRefused, declared.fault.FrameFault.FrameFault}
use Rattle.pm_frame.specs.{declared.message.Message.Message}
use Rattle.pm_frame.specs.Fault.{address_fault, answer_fault, length_fault, pec_fault, whole_answer, request_fault, write_fault}
use Rattle.pm_frame.specs.Layout.{answer_length, has_count, read_address, sent, write_address, answered, is_read_message, with_pec}
use Rattle.pm_frame.specs.Lemmas.{length_fault-found, cancel_left, cancel_right}
use Rattle.pm_frame.specs.Pec.{pec_of, residues_of, residue, doubled}
use Rattle.pm_frame.specs.View.{answer_payload, message_in}
use Rattle.pm_frame.specs.declared.fault.FrameFault.TheVariants as frame
use Rattle.pm_frame.specs.declared.fault.FrameFault.TheVariants.{NotOurs, WrongCount, WrongPec}
use Rattle.pm_frame.specs.declared.message.Message.TheVariants.{PagePlusRead, ReadCommand, SendByte, WriteByte, WriteWord, PagePlusWrite}
use Rattle.pm_frame.specs.declared.message.Message.TheVariants.{ReadCoefficients}
use Rattle.pm_model.specs.Settings.{word_at}
use Rattle.pm_device.specs.{Start.IsSound, declared.config.Config.Config, declared.converter.Ending.Ending}
use Rattle.pm_device.specs.{declared.converter.Heard.TheVariants.Answer}
use Rattle.pm_device.specs.Effect as device
use Rattle.pm_device.specs.Held.{CmlFaults, Held}
use Rattle.pm_device.specs.History.{after_outcome, is_for_other, device_next, device_now}
use Rattle.pm_device.specs.Laws.{FramesForOthersAreSilent, RequestsLatchAtMost}
use Rattle.pm_device.specs.Reply.{payload_for, plain_register, register_bytes, register_word, reply_of, reply_to}
use Rattle.pm_device.specs.Verdict.{answers_coefficients, fault_verdict, read_verdict, unless_faulty, verdict_of, write_verdict}
use Rattle.pm_device.specs.declared.converter.Ending.TheVariants.{Stop, Restart}
use Rattle.pm_host.specs.{Refusals.IsSetup, declared.stage.Stage.Stage}
use Rattle.pm_host.specs.Answers.{good_payload, good_word, word_in}
use Rattle.pm_host.specs.Messages.{cell_read, coefficients_read, mode_read}
use Rattle.pm_host.specs.Summary.{stage_message, sending_in}
use Rattle.pm_host.specs.Transcript as host
use Rattle.pm_host.specs.declared.command.Command.TheVariants.{ClearFaults, RestoreUserAll, StoreUserAll}
use Rattle.pm_host.specs.declared.question.Question.TheVariants.{Coefficients, Mode, Word}
use Rattle.pm_host.specs.declared.stage.Stage.TheVariants.{Asks, Reads, Sends, Writes}
use Rattle.pm_world.specs.{Job.refusal_of_event, Laws.LivesAreFollowed, Setup.setup_of, Uncertainty.IsLegal, declared.event.Arrival.Arrival}
use Rattle.pm_world.specs.{declared.event.Back.Back, declared.event.Event.Event}
use Rattle.pm_world.specs.Legal.{frame_of, is_legal_hearing, answer_in, back_bytes, heard_bytes, heard_ending, is_heard_whole}
use Rattle.pm_world.specs.Legal.{is_legal_return, is_restart, whole_ending}
use Rattle.pm_world.specs.Life.{now, state_of}
use Rattle.pm_world.specs.Lived.{EventsAreLived, IsLived}
use Rattle.pm_world.specs.Neighbours.{AreLegalFor, Board, Happening, gives_return, on_board, own, with_faults, AllPassBy, Overheard}
use Rattle.pm_world.specs.Neighbours.{overhearing, passes_by}
use Rattle.pm_world.specs.Ones.{is_good_protection, ones_behind}
use Rattle.pm_world.specs.SharedCodes.{read_codes, shares}
use Rattle.pm_world.specs.State.{Share, State, answer_to, asked, event_counted, device_after, event_cause, exchange_cause, exchanged}
use Rattle.pm_world.specs.State.{hearing_cause, next, refused, return_cause, rule, share_beside, share_of, shared, cause_beside, tells}
use Rattle.pm_world.specs.declared.cause.Cause.TheVariants.{NotBetrayed, WrongKind}
use Rattle.pm_world.specs.declared.event.Arrival.TheVariants as arrives
use Rattle.pm_world.specs.declared.event.Back.TheVariants as returns
use Rattle.pm_world.specs.declared.event.Event.TheVariants.{Check, Clear, Deliver, Exchange, Finish, Learn, Order, OrderMicro, Reading}
use Rattle.pm_world.specs.declared.event.Event.TheVariants.{RestartDevice, RestartHost, Restore, Store}

-- Which answers of nothing but ones have no fault.

-- an answer with a fault has no payload
no_payload : (addr : ℕ) (request : Message) (bytes : List ℕ) → answer_fault addr request bytes ≢ None
    → good_payload addr request bytes ≡ None
unfolding good_payload
no_payload addr request bytes some = go (answer_fault addr request bytes) some where
  go : (fault : Option FrameFault) → fault ≢ None → cond (is_none fault) (Some (answer_payload request bytes)) None ≡ None
  go None some = absurd (some refl)
  go (Some fault) some = refl

-- what ones without a fault say: as many came as a whole answer has, and their count is right where there is one
ones_fit : (addr opening count : ℕ) (request : Message) → answer_fault addr request (ones_behind opening count) ≡ None
    → (address_fault (read_address addr) (ones_behind opening count) ≡ None)
    × (1 + count ≡ whole_answer request)
    × ((has_count request && not (eqb (get_or (ones_behind opening count) 1 0) (answer_length request))) ≡ false)
    × (pec_fault (sent addr request) (ones_behind opening count) ≡ None)
unfolding answer_fault
ones_fit addr opening count request h =
    let opened = or-none (address_fault (read_address addr) (ones_behind opening count)) _ h in
    let long = or-none (length_fault (whole_answer request) (ones_behind opening count)) _ opened.1 in
    let counted = or-none _ _ long.1 in
    let many = length_fault-found (whole_answer request) (ones_behind opening count) long.0 in (
      opened.0,
      omega (arith, length-replicate {A = ℕ} count 255),
      rule-none _ (WrongCount 1) counted.0,
      (or-none (pec_fault (sent addr request) (ones_behind opening count)) None counted.1).0,
    )

-- a count of FFh is wrong for each request that asks for fewer bytes
wrong_count : (addr opening count : ℕ) (request : Message) → has_count request ≡ true → answer_length request < 255
    → answer_fault addr request (ones_behind opening count) ≢ None
wrong_count addr opening count request has few h =
    let fit = ones_fit addr opening count request h in
    go count (has_count request) has fit.1 fit.2
  where
    go : (count : ℕ) (has : Bool) → has ≡ true → 1 + count ≡ cond has 3 2 + answer_length request
        → (has && not (eqb (get_or (opening ∷ replicate count 255) 1 0) (answer_length request))) ≡ false → ⊥
    go count false is many right = false≢true is
    go zero true is many right = absurd (omega arith)
    go (suc more) true is many right =
        let same : 255 ≡ answer_length request = eqb-true 255 (answer_length request) (not-false _ right) in
        absurd (omega arith)

-- ones give no payload for a request that has a count and asks for fewer than FFh bytes
pub counted-none : (addr opening count : ℕ) (request : Message) → has_count request ≡ true → answer_length request < 255
    → good_payload addr request (ones_behind opening count) ≡ None
counted-none addr opening count request has few = no_payload addr request _ (wrong_count addr opening count request has few)

-- ones are no answer for any register
pub register-none : (addr opening count output : ℕ) (register : Reg)
    → good_payload addr (PagePlusRead output (register_code register)) (ones_behind opening count) ≡ None
unfolding line_of
register-none addr opening count output register =
    counted-none addr opening count (PagePlusRead output (register_code register)) refl (few register)
  where
    few : (register : Reg) → payload_length (register_code register) < 255
    few Operation = omega arith
    few VoutCommand = omega arith
    few VoutMax = omega arith
    few MarginHigh = omega arith
    few MarginLow = omega arith
    few VoutMin = omega arith

-- a byte of VOUT_MODE
pub mode-none : (addr opening count output : ℕ) → good_payload addr (PagePlusRead output 0x20) (ones_behind opening count) ≡ None
unfolding line_of
mode-none addr opening count output = counted-none addr opening count (PagePlusRead output 0x20) refl (omega arith)

-- the packet error code of FFh for WRITE_PROTECT is FFh at one address alone
one_address : (addr : ℕ) → addr < 128
    → eqb (pec_of (write_address addr ∷ 0x10 ∷ read_address addr ∷ 255 ∷ [])) 255 ≡ eqb addr 0x4a
unfolding pec_of residues_of residue doubled
one_address addr small =
    agree_below_at (λ a. eqb (pec_of (write_address a ∷ 0x10 ∷ read_address a ∷ 255 ∷ [])) 255) (λ a. eqb a 0x4a) 128 addr refl small

-- ones for WRITE_PROTECT that have no fault
fit_alone : (addr opening count : ℕ) → addr < 128
    → answer_fault addr (ReadCommand 0x10) (ones_behind opening count) ≡ None → is_good_protection addr opening count ≡ true
unfolding address_fault pec_fault line_of
fit_alone addr opening count small h =
    let fit = ones_fit addr opening count (ReadCommand 0x10) h in
    go count fit.1 fit.0 fit.3
  where
    go : (count : ℕ) → 1 + count ≡ 3 → address_fault (read_address addr) (opening ∷ replicate count 255) ≡ None
        → pec_fault (sent addr (ReadCommand 0x10)) (opening ∷ replicate count 255) ≡ None
        → is_good_protection addr opening count ≡ true
    go zero many opened covered = absurd (omega arith)
    go (suc zero) many opened covered = absurd (omega arith)
    go (suc (suc (suc more))) many opened covered = absurd (omega arith)
    go (suc (suc zero)) many opened covered =
        let first : opening ≡ read_address addr = eqb-true _ _ (not-false _ (rule-none _ NotOurs opened)) in
        let code : eqb 255 (pec_of (write_address addr ∷ 0x10 ∷ opening ∷ 255 ∷ [])) ≡ true =
        not-false _ (rule-none _ (WrongPec 2) covered) in
        let ends : pec_of (write_address addr ∷ 0x10 ∷ read_address addr ∷ 255 ∷ []) ≡ 255 =
        sym (eqb-true _ _ code ∙ ap (λ x. pec_of (write_address addr ∷ 0x10 ∷ x ∷ 255 ∷ [])) first) in
        let at : addr ≡ 0x4a = eqb-true _ _ (sym (one_address addr small) ∙ eq-eqb _ _ ends) in
        rw (eq-eqb addr 0x4a at, eq-eqb opening (read_address addr) first) refl

-- what they say: the word FFh, at that address alone
pub protection-word : (addr opening count : ℕ) → addr < 128
    → good_word addr Protect (ones_behind opening count) ≡ cond (is_good_protection addr opening count) (Some 255) None
unfolding good_payload answer_fault address_fault length_fault pec_fault line_of pec_of residues_of residue doubled
protection-word addr opening count small = go (is_good_protection addr opening count) refl where
  fit : is_good_protection addr opening count ≡ true
      → good_word addr Protect (ones_behind opening count) ≡ Some 255
  fit is =
      let parts = and_parts (eqb addr 0x4a) _ is in
      let more = and_parts (eqb opening (read_address addr)) (eqb count 2) parts.1 in
      let at : addr ≡ 0x4a = eqb-true addr 0x4a parts.0 in
      let two : count ≡ 2 = eqb-true count 2 more.1 in
      let first : opening ≡ 0x95 = eqb-true opening (read_address addr) more.0 ∙ ap read_address at in
      (λ i. good_word (at i) Protect (ones_behind (first i) (two i)))

  go : (good : Bool) → is_good_protection addr opening count ≡ good
      → good_word addr Protect (ones_behind opening count) ≡ cond good (Some 255) None
  go true is = fit is
  go false is = ap (λ o. option_map word_in o) (no_payload addr (ReadCommand 0x10) (ones_behind opening count)
      (λ h. false≢true (sym is ∙ fit_alone addr opening count small h)))

-- a cell that is given a word doesn't take it
pub given-refused : (addr opening count : ℕ) (cell : Cell) (given : ℕ) → addr < 128
    → good_word addr cell (ones_behind opening count) ≡ Some given → cell_accepts cell given ≡ false
given-refused addr opening count (Out output register) given small h =
    cc (ap (λ o. option_map word_in o) (register-none addr opening count output register), h)
given-refused addr opening count Protect given small h =
    go (is_good_protection addr opening count) (sym (protection-word addr opening count small) ∙ h)
  where
    go : (good : Bool) → cond good (Some 255) None ≡ Some given → cell_accepts Protect given ≡ false
    go true is = let same : 255 ≡ given = cc is in ap (cell_accepts Protect) (sym same)
    go false is = cc is

-- What a converter that overhears its neighbours keeps, and what its host is told.

-- ---- what is overheard

-- A converter is like another where they differ in latched bits of STATUS_CML alone.
abbrev pub AreAlike : Held → Held → Type 0
AreAlike held other = held ≡ record other { faults = held.faults }

-- A converter that is like a second one is like a third that the second one is like.
alike-by : (a b c : Held) → AreAlike a b → AreAlike b c → AreAlike a c
alike-by a b c first second = first ∙ ap (λ (h : Held). record h { faults = a.faults }) second

-- A converter after a faulty frame is like itself before it.
fault-alike : (held : Held) (fault : FrameFault) → AreAlike (after_outcome held (device.Heard (fault_verdict fault))) held
unfolding after_outcome
fault-alike held frame.NotOurs = refl
fault-alike held (frame.Short place) = refl
fault-alike held (frame.Long place) = refl
fault-alike held (frame.WrongCount place) = refl
fault-alike held (frame.WrongPec place) = refl
fault-alike held (frame.UnknownCode place) = refl
fault-alike held (frame.WrongDirection place) = refl
fault-alike held (frame.Nested place) = refl

-- A converter after a write with a fault is like itself before it.
faulty-alike : (held : Held) (bytes : List ℕ) → write_fault held.config.addr bytes ≢ None
    → AreAlike (device_next held (device.Hearing bytes Stop)) held
unfolding device_next verdict_of
faulty-alike held bytes wrong = go (write_fault held.config.addr bytes) refl where
  go : (fault : Option FrameFault) → write_fault held.config.addr bytes ≡ fault
      → AreAlike
      (after_outcome held (device.Heard (unless_faulty fault (write_verdict held.config held.words held.page (message_in bytes))))) held
  go None e = absurd (wrong e)
  go (Some fault) e = fault-alike held fault

-- the laws that this rests on
pub record Below : Type 0 where
  pub table : RegistersAreInTheTable
  pub silent : FramesForOthersAreSilent
  pub requests : RequestsLatchAtMost
  pub betrayal : BetrayalIsRefused
  pub followed : LivesAreFollowed
  pub lived : EventsAreLived

-- A converter after what passes by is like itself before it.
passing-alike : Below → (held : Held) (heard : Overheard) → passes_by held.config.addr heard ≡ true
    → AreAlike (device_next held (device.Hearing heard.bytes heard.ending)) held
passing-alike laws held heard passes = by_ending heard.bytes heard.ending passes where
  by_ending : (bytes : List ℕ) (ending : Ending) → passes_by held.config.addr (record { bytes = bytes; ending = ending }) ≡ true
      → AreAlike (device_next held (device.Hearing bytes ending)) held
  by_ending bytes Restart passes = laws.requests.alone held bytes
  by_ending bytes Stop passes = go (or_cases (is_for_other held.config.addr bytes) (is_betrayed [] bytes) passes) where
    go : (is_for_other held.config.addr bytes ≡ true) ⊎ (is_betrayed [] bytes ≡ true)
        → AreAlike (device_next held (device.Hearing bytes Stop)) held
    go (inl other) = let same = laws.silent.unchanged held bytes Stop other in
        same ∙ ap (λ (h : Held). record held { faults = h.faults }) (sym same)
    go (inr wrong) = faulty-alike held bytes (laws.betrayal.write held.config.addr bytes wrong)

-- A converter after all that passes by is like itself before it.
pub overheard-alike : Below → (held : Held) (heard : List Overheard) → AllPassBy held.config.addr heard
    → AreAlike (overhearing held heard) held
unfolding overhearing
overheard-alike laws held [] passes = refl
overheard-alike laws held (one ∷ before) (passes, all) =
    let so_far = overheard-alike laws held before all in
    let addr_is : (overhearing held before).config.addr ≡ held.config.addr = ap (λ (h : Held). h.config.addr) so_far in
    alike-by _ (overhearing held before) held
    (passing-alike laws (overhearing held before) one (ap (λ a. passes_by a one) addr_is ∙ passes)) so_far

-- ---- what is answered

-- A register's word doesn't depend on what is latched.
register-same : RegistersAreInTheTable → (held : Held) (faults : CmlFaults) (output : ℕ) (register : Reg)
    → register_word (record held { faults = faults }) output (register_code register) ≡ register_word held output (register_code register)
register-same table held faults output register =
    let code : ℕ = register_code register in
    let kept : (plain : ℕ) → option_map_or (λ cell. word_at held.words cell) (cell_at code output) plain
    ≡ word_at held.words (Out output register) =
    λ plain. ap (λ o. option_map_or (λ cell. word_at held.words cell) o plain) (table.found register output) in
    kept (plain_register (record held { faults = faults }) output code) ∙ sym (kept (plain_register held output code))

-- The payload for a cell's read doesn't depend on what is latched.
cell-same : RegistersAreInTheTable → (held : Held) (faults : CmlFaults) (cell : Cell)
    → payload_for (record held { faults = faults }) (cell_read cell) ≡ payload_for held (cell_read cell)
cell-same table held faults (Out output register) =
    ap (register_bytes (register_code register)) (register-same table held faults output register)
cell-same table held faults Protect = refl

-- The payload for each message of a host doesn't depend on what is latched.
payload-same : RegistersAreInTheTable → (held : Held) (faults : CmlFaults) (stage : Stage)
    → payload_for (record held { faults = faults }) (stage_message stage) ≡ payload_for held (stage_message stage)
payload-same table held faults (Writes (Out output register) word pass) = refl
payload-same table held faults (Writes Protect word pass) = refl
payload-same table held faults (Reads cell word pass) = cell-same table held faults cell
payload-same table held faults (Asks (Word cell) tries) = cell-same table held faults cell
payload-same table held faults (Asks (Mode output) tries) = refl
payload-same table held faults (Asks (Coefficients output) tries) = refl
payload-same table held faults (Sends (ClearFaults output) tries) = refl
payload-same table held faults (Sends StoreUserAll tries) = refl
payload-same table held faults (Sends RestoreUserAll tries) = refl

-- two functions agree on a choice of two where they agree on both
agree_on_choice : {X Y : Type 0} (f g : X → Y) (b : Bool) (x y : X) → f x ≡ g x → f y ≡ g y → f (cond b x y) ≡ g (cond b x y)
agree_on_choice f g true x y h k = h
agree_on_choice f g false x y h k = k

-- A request without a fault is answered alike, whatever is latched, where its payload doesn't depend on it.
answer-same : (held : Held) (faults : CmlFaults) (request : Message)
    → payload_for (record held { faults = faults }) request ≡ payload_for held request
    → reply_to (record held { faults = faults }) (read_verdict held.config request) ≡ reply_to held (read_verdict held.config request)
answer-same held faults (ReadCommand code) h =
    ap (λ payload. Answer (record {
      items = with_pec (sent held.config.addr (ReadCommand code))
          (answered held.config.addr (ReadCommand code) payload);
    })) h
answer-same held faults (PagePlusRead page code) h =
    agree_on_choice (reply_to (record held { faults = faults })) (reply_to held) (nat_lt page held.config.count) _ _
    (ap (λ payload. Answer (record {
      items = with_pec (sent held.config.addr (PagePlusRead page code))
          (answered held.config.addr (PagePlusRead page code) payload);
    })) h) refl
answer-same held faults (ReadCoefficients code side) h =
    agree_on_choice (reply_to (record held { faults = faults })) (reply_to held) (answers_coefficients held.config code side) _ _ refl refl
answer-same held faults (SendByte code) h = refl
answer-same held faults (WriteByte code byte) h = refl
answer-same held faults (WriteWord code word) h = refl
answer-same held faults (PagePlusWrite page code payload) h = refl

-- A request that may have a fault is answered alike, whatever is latched, where its payload doesn't depend on it.
unless-same : (held : Held) (faults : CmlFaults) (fault : Option FrameFault) (request : Message)
    → payload_for (record held { faults = faults }) request ≡ payload_for held request
    → reply_to (record held { faults = faults }) (unless_faulty fault (read_verdict held.config request))
    ≡ reply_to held (unless_faulty fault (read_verdict held.config request))
unless-same held faults None request h = answer-same held faults request h
unless-same held faults (Some frame.NotOurs) request h = refl
unless-same held faults (Some (frame.Short place)) request h = refl
unless-same held faults (Some (frame.Long place)) request h = refl
unless-same held faults (Some (frame.WrongCount place)) request h = refl
unless-same held faults (Some (frame.WrongPec place)) request h = refl
unless-same held faults (Some (frame.UnknownCode place)) request h = refl
unless-same held faults (Some (frame.WrongDirection place)) request h = refl
unless-same held faults (Some (frame.Nested place)) request h = refl

-- the request that a host sends is what its bytes say
heard-as : (addr : ℕ) (stage : Stage) → is_read_message (stage_message stage) ≡ true
    → message_in (frame_of addr (stage_message stage)) ≡ stage_message stage
unfolding frame_of message_in
heard-as addr (Writes (Out output register) word pass) reads = absurd (false≢true reads)
heard-as addr (Writes Protect word pass) reads = absurd (false≢true reads)
heard-as addr (Reads (Out output register) word pass) reads = refl
heard-as addr (Reads Protect word pass) reads = refl
heard-as addr (Asks (Word (Out output register)) tries) reads = refl
heard-as addr (Asks (Word Protect) tries) reads = refl
heard-as addr (Asks (Mode output) tries) reads = refl
heard-as addr (Asks (Coefficients output) tries) reads = refl
heard-as addr (Sends (ClearFaults output) tries) reads = absurd (false≢true reads)
heard-as addr (Sends StoreUserAll tries) reads = absurd (false≢true reads)
heard-as addr (Sends RestoreUserAll tries) reads = absurd (false≢true reads)

-- A host's own request that is heard whole is answered alike, whatever is latched in STATUS_CML.
pub own-same : RegistersAreInTheTable
    → (held : Held) (faults : CmlFaults) (addr : ℕ) (stage : Stage) → is_read_message (stage_message stage) ≡ true
    → reply_of (record held { faults = faults }) (frame_of addr (stage_message stage)) Restart
    ≡ reply_of held (frame_of addr (stage_message stage)) Restart
unfolding reply_of verdict_of
own-same table held faults addr stage reads =
    unless-same held faults (request_fault held.config.addr (frame_of addr (stage_message stage)))
    (message_in (frame_of addr (stage_message stage)))
    (subst (λ m. payload_for (record held { faults = faults }) m ≡ payload_for held m) (sym (heard-as addr stage reads))
    (payload-same table held faults stage))

-- ---- what is on the wire for another pair

-- a host's frame begins with the address of its converter
frame-opens : (addr : ℕ) (message : Message) → (rest : List ℕ) × (frame_of addr message ≡ write_address addr ∷ rest)
unfolding frame_of
frame-opens addr (SendByte code) = (_, refl)
frame-opens addr (WriteByte code byte) = (_, refl)
frame-opens addr (WriteWord code word) = (_, refl)
frame-opens addr (PagePlusWrite page code payload) = (_, refl)
frame-opens addr (ReadCommand code) = (_, refl)
frame-opens addr (PagePlusRead page code) = (_, refl)
frame-opens addr (ReadCoefficients code side) = (_, refl)

-- A front of a frame for another address is for another device.
front-other : FramesForOthersAreSilent → (addr other : ℕ) (rest bytes : List ℕ) → addr ≢ other
    → starts_with eqb (write_address other ∷ rest) bytes ≡ true → is_for_other addr bytes ≡ true
front-other silent addr other rest [] differ front = refl
front-other silent addr other rest (first ∷ more) differ front =
    let same = eqb-true first (write_address other)
    (and_parts (eqb first (write_address other)) (pointwise eqb more (take (length more) rest)) front).0 in
    subst (λ b. is_for_other addr (b ∷ more) ≡ true) (sym same) (silent.neighbour addr other more (λ e. differ (sym e))).0

-- A frame for another address passes by however it may legally arrive.
pub frame-passes : FramesForOthersAreSilent → (addr other : ℕ) (message : Message) (bytes : List ℕ) (ending : Ending) → addr ≢ other
    → is_legal_hearing (frame_of other message) bytes ending ≡ true
    → passes_by addr (record { bytes = bytes; ending = ending }) ≡ true
unfolding is_legal_hearing
frame-passes silent addr other message bytes Restart differ legal = refl
frame-passes silent addr other message bytes Stop differ legal =
    go (or_cases (starts_with eqb (frame_of other message) bytes) (is_betrayed [] bytes) legal)
  where
    go : (starts_with eqb (frame_of other message) bytes ≡ true) ⊎ (is_betrayed [] bytes ≡ true)
        → (is_for_other addr bytes || is_betrayed [] bytes) ≡ true
    go (inl front) =
        let opens = frame-opens other message in
        ap (λ b. b || is_betrayed [] bytes)
        (front-other silent addr other opens.0 bytes differ (subst (λ l. starts_with eqb l bytes ≡ true) opens.1 front))
    go (inr wrong) = or_right (is_for_other addr bytes) (is_betrayed [] bytes) wrong

-- What begins with another's read address passes by.
pub answer-passes : (addr other : ℕ) (rest : List ℕ) (ending : Ending)
    → passes_by addr (record { bytes = read_address other ∷ rest; ending = ending }) ≡ true
answer-passes addr other rest Restart = refl
answer-passes addr other rest Stop =
    ap (λ b. b || is_betrayed [] (read_address other ∷ rest))
    (ap not (ne_eqb (read_address other) (write_address addr) (λ e. absurd (omega arith))))

-- ---- worlds

-- a request of the host's own that was heard whole is answered alike
reply-whole : RegistersAreInTheTable → (held : Held) (faults : CmlFaults) (addr : ℕ) (stage : Stage) (bytes : List ℕ) (ending : Ending)
    → is_read_message (stage_message stage) ≡ true → is_heard_whole (frame_of addr (stage_message stage)) bytes ending ≡ true
    → answer_in (reply_of (record held { faults = faults }) bytes ending) ≡ answer_in (reply_of held bytes ending)
reply-whole table held faults addr stage bytes Stop reads whole = absurd (false≢true whole)
reply-whole table held faults addr stage bytes Restart reads whole =
    let frame : List ℕ = frame_of addr (stage_message stage) in
    subst (λ b. answer_in (reply_of (record held { faults = faults }) b Restart) ≡ answer_in (reply_of held b Restart))
    (sym ((bytes_eq-Decides bytes frame).0 whole)) (ap answer_in (own-same table held faults addr stage reads))

-- one that arrives whole was heard whole
arrives-whole : (frame : List ℕ) (message : Message) → is_read_message message ≡ true
    → is_heard_whole frame frame (whole_ending message) ≡ true
arrives-whole frame message reads =
    ap (λ b. is_restart (cond b Restart Stop) && bytes_eq frame frame) reads ∙ (bytes_eq-Decides frame frame).1 refl

-- A return is judged without the answer, if the request wasn't heard whole.
cut-same : (request : List ℕ) (needed : ℕ) (whole : Bool) (answer other bytes : List ℕ) → whole ≡ false
    → is_legal_return request needed whole answer bytes ≡ is_legal_return request needed whole other bytes
unfolding is_legal_return
cut-same request needed false answer other bytes e = refl
cut-same request needed true answer other bytes e = absurd (false≢true (sym e))

-- a return is given: the request arrives whole, or the bytes are said
gives-cases : (arrival : Arrival) (back : Back) → gives_return (Exchange arrival back) ≡ true
    → (arrival ≡ arrives.Whole) ⊎ ((answer other : List ℕ) → back_bytes answer back ≡ back_bytes other back)
gives-cases arrives.Whole back gives = inl refl
gives-cases (arrives.Cut count) returns.Whole gives = absurd (false≢true gives)
gives-cases (arrives.Cut count) (returns.Cut few) gives = absurd (false≢true gives)
gives-cases (arrives.Cut count) (returns.Bytes bytes) gives = inr (λ answer other. refl)
gives-cases (arrives.Bytes heard ending) returns.Whole gives = absurd (false≢true gives)
gives-cases (arrives.Bytes heard ending) (returns.Cut few) gives = absurd (false≢true gives)
gives-cases (arrives.Bytes heard ending) (returns.Bytes bytes) gives = inr (λ answer other. refl)

-- What comes back for a request of the host's own is the same, whatever is latched.
came-same : RegistersAreInTheTable → (held : Held) (faults : CmlFaults) (addr : ℕ) (stage : Stage) (arrival : Arrival) (back : Back)
    → is_read_message (stage_message stage) ≡ true → gives_return (Exchange arrival back) ≡ true
    → back_bytes (answer_to (record held { faults = faults }) addr (stage_message stage) arrival) back
    ≡ back_bytes (answer_to held addr (stage_message stage) arrival) back
came-same table held faults addr stage arrival back reads gives = go (gives-cases arrival back gives) where
  message : Message
  message = stage_message stage

  Same : Arrival → Type 0
  Same a = back_bytes (answer_to (record held { faults = faults }) addr (stage_message stage) a) back
      ≡ back_bytes (answer_to held addr (stage_message stage) a) back

  go : (arrival ≡ arrives.Whole) ⊎ ((answer other : List ℕ) → back_bytes answer back ≡ back_bytes other back) → Same arrival
  go (inl whole) = subst Same (sym whole)
      (ap (λ a. back_bytes a back) (reply-whole table held faults addr stage (frame_of addr (stage_message stage))
      (whole_ending (stage_message stage)) reads (arrives-whole (frame_of addr (stage_message stage)) (stage_message stage) reads)))
  go (inr said) = said _ _

-- What comes back for a request of the host's own is judged alike, whatever is latched.
return-same : RegistersAreInTheTable → (held : Held) (faults : CmlFaults) (addr : ℕ) (stage : Stage) (arrival : Arrival) (back : Back)
    → is_read_message (stage_message stage) ≡ true → gives_return (Exchange arrival back) ≡ true
    → return_cause (record held { faults = faults }) addr (stage_message stage) arrival back
    ≡ return_cause held addr (stage_message stage) arrival back
return-same table held faults addr stage arrival back reads gives = go _ refl where
  frame : List ℕ
  frame = frame_of addr (stage_message stage)

  heard : List ℕ
  heard = heard_bytes (frame_of addr (stage_message stage)) arrival

  ending : Ending
  ending = heard_ending (stage_message stage) arrival

  one : List ℕ
  one = answer_to (record held { faults = faults }) addr (stage_message stage) arrival

  two : List ℕ
  two = answer_to held addr (stage_message stage) arrival

  by : is_legal_return frame (whole_answer (stage_message stage)) (is_heard_whole frame heard ending) one (back_bytes one back)
      ≡ is_legal_return frame (whole_answer (stage_message stage)) (is_heard_whole frame heard ending) two (back_bytes two back)
      → return_cause (record held { faults = faults }) addr (stage_message stage) arrival back
      ≡ return_cause held addr (stage_message stage) arrival back
  by same = ap (λ b. rule (not b) NotBetrayed) same

  go : (whole : Bool) → is_heard_whole frame heard ending ≡ whole
      → return_cause (record held { faults = faults }) addr (stage_message stage) arrival back
      ≡ return_cause held addr (stage_message stage) arrival back
  go true whole = by (ap (λ a.
      is_legal_return frame (whole_answer (stage_message stage)) (is_heard_whole frame heard ending) a (back_bytes a back))
      (reply-whole table held faults addr stage heard ending reads whole))
  go false cut = by (cut-same frame (whole_answer (stage_message stage)) (is_heard_whole frame heard ending) one two
      (back_bytes one back) cut
      ∙ ap (λ b. is_legal_return frame (whole_answer (stage_message stage)) (is_heard_whole frame heard ending) two b)
      (came-same table held faults addr stage arrival back reads gives))

-- what follows a rule is the same where the rule doesn't apply
after-rule : {X : Type 0} (applies : Bool) (fault : X) (x y : Option X) → (applies ≡ false → x ≡ y)
    → option_or (rule applies fault) x ≡ option_or (rule applies fault) y
after-rule true fault x y h = refl
after-rule false fault x y h = h refl

-- An exchange is judged alike, whatever is latched.
exchange-same : RegistersAreInTheTable
    → (t : State) (faults : CmlFaults) (arrival : Arrival) (back : Back) → gives_return (Exchange arrival back) ≡ true
    → exchange_cause (with_faults t faults) arrival back (sending_in t.host) ≡ exchange_cause t arrival back (sending_in t.host)
exchange-same table t faults arrival back gives = go t.host.stage where
  go : (stage : Option Stage) → exchange_cause (with_faults t faults) arrival back (option_map stage_message stage)
      ≡ exchange_cause t arrival back (option_map stage_message stage)
  go None = refl
  go (Some stage) = after-rule (not (is_read_message (stage_message stage))) WrongKind _ _ (λ e.
      ap (option_or (hearing_cause t.host.setup.addr (stage_message stage) arrival))
      (return-same table t.device faults t.host.setup.addr stage arrival back (not-false _ e) gives))

-- Each event is judged alike but for the job that it asks for, whatever is latched.
beside-same : RegistersAreInTheTable → (t : State) (faults : CmlFaults) (event : Event) → gives_return event ≡ true
    → cause_beside (with_faults t faults) event ≡ cause_beside t event
beside-same table t faults (Order cell word) gives = refl
beside-same table t faults (OrderMicro cell x) gives = refl
beside-same table t faults (Check cell) gives = refl
beside-same table t faults (Learn output) gives = refl
beside-same table t faults (Clear output) gives = refl
beside-same table t faults Store gives = refl
beside-same table t faults Restore gives = refl
beside-same table t faults (Deliver arrival) gives = refl
beside-same table t faults (Finish acked) gives = refl
beside-same table t faults (Exchange arrival back) gives = exchange-same table t faults arrival back gives
beside-same table t faults RestartDevice gives = refl
beside-same table t faults RestartHost gives = refl
beside-same table t faults (Reading output code word) gives = refl

cause-same : RegistersAreInTheTable → (t : State) (faults : CmlFaults) (event : Event) → gives_return event ≡ true
    → event_cause (with_faults t faults) event ≡ event_cause t event
cause-same table t faults event gives = ap (option_or (refused (refusal_of_event t.host event))) (beside-same table t faults event gives)

-- An exchange that is legal tells both ends the same, whatever is latched.
exchanged-same : RegistersAreInTheTable
    → (t : State) (faults : CmlFaults) (arrival : Arrival) (back : Back) → gives_return (Exchange arrival back) ≡ true
    → exchange_cause t arrival back (sending_in t.host) ≡ None
    → exchanged (with_faults t faults) arrival back (sending_in t.host) ≡ exchanged t arrival back (sending_in t.host)
exchanged-same table t faults arrival back gives = go t.host.stage where
  go : (stage : Option Stage) → exchange_cause t arrival back (option_map stage_message stage) ≡ None
      → exchanged (with_faults t faults) arrival back (option_map stage_message stage)
      ≡ exchanged t arrival back (option_map stage_message stage)
  go None free = refl
  go (Some stage) free =
      let reads = not-false (is_read_message (stage_message stage))
      (rule-none (not (is_read_message (stage_message stage))) WrongKind (or-none _ _ free).0) in
      ap (λ b. record (exchanged t arrival back (Some (stage_message stage))) { told = Some (host.Got b) })
      (came-same table t.device faults t.host.setup.addr stage arrival back reads gives)

-- Each event that is legal tells both ends the same, whatever is latched.
tells-same : RegistersAreInTheTable
    → (t : State) (faults : CmlFaults) (event : Event) → gives_return event ≡ true → cause_beside t event ≡ None
    → share_beside (with_faults t faults) event ≡ share_beside t event
tells-same table t faults (Order cell word) gives free = refl
tells-same table t faults (OrderMicro cell x) gives free = refl
tells-same table t faults (Check cell) gives free = refl
tells-same table t faults (Learn output) gives free = refl
tells-same table t faults (Clear output) gives free = refl
tells-same table t faults Store gives free = refl
tells-same table t faults Restore gives free = refl
tells-same table t faults (Deliver arrival) gives free = refl
tells-same table t faults (Finish acked) gives free = refl
tells-same table t faults (Exchange arrival back) gives free = exchanged-same table t faults arrival back gives free
tells-same table t faults RestartDevice gives free = refl
tells-same table t faults RestartHost gives free = refl
tells-same table t faults (Reading output code word) gives free = refl

share-same : RegistersAreInTheTable
    → (t : State) (faults : CmlFaults) (event : Event) → gives_return event ≡ true → event_cause t event ≡ None
    → share_of (with_faults t faults) event ≡ share_of t event
share-same table t faults event gives free =
    ap (option_map_or (λ job. tells (host.Accepted job)) (asked t event))
    (tells-same table t faults event gives (or-none (refused (refusal_of_event t.host event)) (cause_beside t event) free).1)

-- What the converter makes of what it hears doesn't depend on what is latched, but for latched bits of STATUS_CML.
device-same : (held : Held) (faults : CmlFaults) (heard : Option device.Event)
    → AreAlike (device_after (record held { faults = faults }) heard) (device_after held heard)
unfolding device_next after_outcome
device-same held faults None = refl
device-same held faults (Some event) = refl

-- the world after an event of its own, with other latched bits
next-same : RegistersAreInTheTable
    → (t : State) (faults : CmlFaults) (event : Event) → gives_return event ≡ true → event_cause t event ≡ None
    → next (with_faults t faults) event ≡ with_faults (next t event) (next (with_faults t faults) event).device.faults
unfolding next
next-same table t faults event gives free =
    let share : Share = share_of t event in
    let same = share-same table t faults event gives free in
    ap (λ (x : Share). event_counted (shared (with_faults t faults) x)) same
    ∙ ap (λ (d : Held). record (event_counted (shared t share)) { device = d }) (device-same t.device faults share.heard)
    ∙ ap (λ (x : Share). with_faults (event_counted (shared t share)) (event_counted (shared (with_faults t faults) x)).device.faults)
    (sym same)

-- ---- a pair on the board

-- a state that a pair may have on the board, and its own events
pub record IsApart (config : Config) (passes : ℕ) (s : State) (events : List Event) : Type 0 where
  pub lived : IsLived config passes events
  pub alone : s ≡ with_faults (now config passes events) s.device.faults

-- A state that a pair may have is such a state after one more event of its own.
own-apart : Below → (config : Config) (passes : ℕ) (s : State) (events : List Event) (event : Event) → IsApart config passes s events
    → IsLegal s event → gives_return event ≡ true → IsApart config passes (next s event) (event ∷ events)
own-apart laws config passes s events event before legal gives =
    let t : State = now config passes events in
    let free : event_cause t event ≡ None =
    sym (cause-same laws.table t s.device.faults event gives)
    ∙ subst (λ x. event_cause x event ≡ None) before.alone legal.free in
    let lived = laws.lived.more config passes events event before.lived free in
    record {
      lived = lived;
      alone = ap (λ x. next x event) before.alone
          ∙ next-same laws.table t s.device.faults event gives free
          ∙ ap (λ x. with_faults x (next (with_faults t s.device.faults) event).device.faults)
          (sym (laws.followed.more config passes events event lived))
          ∙ ap (λ x. with_faults (now config passes (event ∷ events)) (next x event).device.faults) (sym before.alone);
    }

-- A state that a pair may have is such a state after what it overhears.
overheard-apart : Below → (config : Config) (passes : ℕ) (s : State) (events : List Event) (heard : List Overheard)
    → IsApart config passes s events → AllPassBy config.addr heard
    → IsApart config passes (record s { device = overhearing s.device heard }) events
unfolding now state_of device_now
overheard-apart laws config passes s events heard before passes_all =
    let config_is : s.device.config ≡ config = ap (λ (x : State). x.device.config) before.alone in
    let alike = overheard-alike laws s.device heard (subst (λ (c : Config). AllPassBy c.addr heard) (sym config_is) passes_all) in
    record {
      lived = before.lived;
      alone = ap (λ (d : Held). record s { device = d }) alike
          ∙ ap (λ (x : State). with_faults x (overhearing s.device heard).faults) before.alone;
    }

-- A pair's state after all events of the board is one that it may have.
pub board-apart : Below → (board : Board) (pair : ℕ) (events : List Happening)
    → IsSound (board.config pair) → IsSetup (setup_of (board.config pair) (board.passes pair)) → AreLegalFor board pair events
    → IsApart (board.config pair) (board.passes pair) (on_board board pair events) (own pair events)
unfolding on_board own
board-apart laws board pair [] sound made legal =
    record { lived = laws.lived.none (board.config pair) (board.passes pair) sound made; alone = refl }
board-apart laws board pair (happening ∷ before) sound made (mine, others, rest) =
    go (eqb happening.pair pair) refl (board-apart laws board pair before sound made rest)
  where
    go : (b : Bool) → eqb happening.pair pair ≡ b
        → IsApart (board.config pair) (board.passes pair) (on_board board pair before) (own pair before)
        → IsApart (board.config pair) (board.passes pair)
        (cond b (next (on_board board pair before) happening.event)
        (record (on_board board pair before) { device = overhearing (on_board board pair before).device (happening.heard pair) }))
        (cond b (happening.event ∷ own pair before) (own pair before))
    go true e so_far =
        let here = mine (eqb-true happening.pair pair e) in
        own-apart laws (board.config pair) (board.passes pair) (on_board board pair before) (own pair before) happening.event
        so_far here.0 here.1
    go false e so_far =
        overheard-apart laws (board.config pair) (board.passes pair) (on_board board pair before) (own pair before) (happening.heard pair)
        so_far (others (λ same. false≢true (sym e ∙ eq-eqb happening.pair pair same)))

-- The codes of a host's requests, compared.

-- truth values that are found to be one
same_from_beq : (b c : Bool) → beq b c ≡ true → b ≡ c
same_from_beq true true e = refl
same_from_beq false false e = refl
same_from_beq true false e = absurd (false≢true e)
same_from_beq false true e = absurd (false≢true e)

-- two comparisons that decide the same
eqb-same : (a b c d : ℕ) → (a ≡ b → c ≡ d) → (c ≡ d → a ≡ b) → eqb a b ≡ eqb c d
eqb-same a b c d to from = go (eqb a b) (eqb c d) refl refl where
  go : (p q : Bool) → eqb a b ≡ p → eqb c d ≡ q → p ≡ q
  go true true e f = refl
  go false false e f = refl
  go true false e f = absurd (false≢true (sym f ∙ eq-eqb c d (to (eqb-true a b e))))
  go false true e f = absurd (false≢true (sym e ∙ eq-eqb a b (from (eqb-true c d f))))

-- ---- the code of a request of five bytes and of the read address

-- what the two bytes after the count give
ends : ℕ → ℕ → ℕ
ends third fourth = bit_xor (residues_of third 16 8) (residues_of fourth 8 8)

-- what the two bytes after the count give, with what stands before and after them
around : ℕ → ℕ → ℕ → ℕ
around addr second middle =
    bit_xor (residues_of (write_address addr) 40 8)
    (bit_xor (residues_of second 32 8) (bit_xor (residues_of 2 24 8) (bit_xor middle (pec_of (read_address addr ∷ [])))))

six : (addr second third fourth : ℕ)
    → pec_of (write_address addr ∷ second ∷ 2 ∷ third ∷ fourth ∷ read_address addr ∷ []) ≡ around addr second (ends third fourth)
unfolding around ends pec_of
six addr second third fourth =
    ap (λ (t : ℕ). bit_xor (residues_of (write_address addr) 40 8) (bit_xor (residues_of second 32 8) (bit_xor (residues_of 2 24 8) t)))
    (sym (xor_assoc (residues_of third 16 8) (residues_of fourth 8 8) (pec_of (read_address addr ∷ []))))

-- two such requests with one code and one second byte have one middle
same_second : (addr second x y : ℕ) → around addr second x ≡ around addr second y → x ≡ y
unfolding around
same_second addr second x y h =
    cancel_right (pec_of (read_address addr ∷ [])) x y
    (cancel_left (residues_of 2 24 8) _ _
    (cancel_left (residues_of second 32 8) _ _ (cancel_left (residues_of (write_address addr) 40 8) _ _ h)))

-- all before the read address
before : ℕ → ℕ → ℕ
before second middle = bit_xor (residues_of second 32 8) (bit_xor (residues_of 2 24 8) middle)

around-before : (addr second middle : ℕ)
    → around addr second middle
    ≡ bit_xor (residues_of (write_address addr) 40 8) (bit_xor (before second middle) (pec_of (read_address addr ∷ [])))
unfolding around before
around-before addr second middle =
    ap (bit_xor (residues_of (write_address addr) 40 8))
    (ap (bit_xor (residues_of second 32 8)) (sym (xor_assoc (residues_of 2 24 8) middle (pec_of (read_address addr ∷ []))))
    ∙ sym (xor_assoc (residues_of second 32 8) (bit_xor (residues_of 2 24 8) middle) (pec_of (read_address addr ∷ []))))

same_before : (addr second other x y : ℕ) → around addr second x ≡ around addr other y → before second x ≡ before other y
same_before addr second other x y h =
    cancel_right (pec_of (read_address addr ∷ [])) _ _
    (cancel_left (residues_of (write_address addr) 40 8) _ _ (sym (around-before addr second x) ∙ h ∙ around-before addr other y))

-- ---- tables

-- an element of a list that passes as a whole
passes_at : (test : ℕ → Bool) (numbers : List ℕ) (number : ℕ) → list_all test numbers ≡ true → Contains numbers number → test number ≡ true
passes_at test numbers number all there =
    All-contains (λ x. test x ≡ true) numbers number (AllPass-from_list_all test numbers all) there

-- two reads of outputs
pair_agrees : ℕ → ℕ → ℕ → ℕ → Bool
pair_agrees page other code another = beq (eqb (ends page code) (ends other another)) (shares page code other another)

pages_agree : ℕ → ℕ → Bool
pages_agree page other = list_all (λ code. list_all (pair_agrees page other code) read_codes) read_codes

page_agrees : ℕ → Bool
page_agrees page = agree_below (pages_agree page) (λ other. true) 8

all_agree : agree_below page_agrees (λ page. true) 8 ≡ true
unfolding page_agrees pages_agree pair_agrees ends residues_of residue doubled
all_agree = refl

pair-agrees : (page code other another : ℕ) → page < 8 → other < 8 → Contains read_codes code → Contains read_codes another
    → eqb (ends page code) (ends other another) ≡ shares page code other another
unfolding page_agrees pages_agree pair_agrees
pair-agrees page code other another h k there then =
    let page_passes : page_agrees page ≡ true = agree_below_at page_agrees (λ page. true) 8 page all_agree h in
    let pages_pass : pages_agree page other ≡ true = agree_below_at (pages_agree page) (λ other. true) 8 other page_passes k in
    let code_passes = passes_at (λ code. list_all (pair_agrees page other code) read_codes) read_codes code pages_pass there in
    same_from_beq _ _ (passes_at (pair_agrees page other code) read_codes another code_passes then)

pub outputs-share : (addr page code other another : ℕ) → page < 8 → other < 8 → Contains read_codes code → Contains read_codes another
    → eqb (request_code addr (PagePlusRead page code)) (request_code addr (PagePlusRead other another)) ≡ shares page code other another
unfolding request_code
outputs-share addr page code other another h k there then =
    let one : request_code addr (PagePlusRead page code) ≡ around addr command.page_plus_read (ends page code) =
    six addr command.page_plus_read page code in
    let two : request_code addr (PagePlusRead other another) ≡ around addr command.page_plus_read (ends other another) =
    six addr command.page_plus_read other another in
    eqb-same _ _ (ends page code) (ends other another)
    (λ e. same_second addr command.page_plus_read (ends page code) (ends other another) (sym one ∙ e ∙ two))
    (λ e. one ∙ ap (around addr command.page_plus_read) e ∙ sym two)
    ∙ pair-agrees page code other another h k there then

-- VOUT_MODE crosses nothing
mode_agrees : ℕ → ℕ → ℕ → Bool
mode_agrees page other another = beq (shares page command.vout_mode other another) (eqb page other && eqb another command.vout_mode)

modes_agree : ℕ → ℕ → Bool
modes_agree page other = list_all (mode_agrees page other) read_codes

mode_page : ℕ → Bool
mode_page page = agree_below (modes_agree page) (λ other. true) 8

all_modes : agree_below mode_page (λ page. true) 8 ≡ true
unfolding mode_page modes_agree mode_agrees
all_modes = refl

pub mode-alone : (addr page other another : ℕ) → page < 8 → other < 8 → Contains read_codes another
    → request_code addr (mode_read page) ≡ request_code addr (PagePlusRead other another)
    → (page ≡ other) × (another ≡ command.vout_mode)
unfolding mode_page modes_agree mode_agrees
mode-alone addr page other another h k there same =
    let page_passes : mode_page page ≡ true = agree_below_at mode_page (λ page. true) 8 page all_modes h in
    let pages_pass : modes_agree page other ≡ true = agree_below_at (modes_agree page) (λ other. true) 8 other page_passes k in
    let one = same_from_beq _ _ (passes_at (mode_agrees page other) read_codes another pages_pass there) in
    let shared = outputs-share addr page command.vout_mode other another h k (0, lit< tt, refl) there in
    let parts = and_parts (eqb page other) (eqb another command.vout_mode) (sym one ∙ sym shared ∙ eq-eqb _ _ same) in
    (eqb-true page other parts.0, eqb-true another command.vout_mode parts.1)

-- the coefficients and a read of an output
coefficients_agree : ℕ → ℕ → Bool
coefficients_agree page code =
    beq (eqb (before command.coefficients (ends command.vout_command 0)) (before command.page_plus_read (ends page code))) false

coefficients_page : ℕ → Bool
coefficients_page page = list_all (coefficients_agree page) read_codes

all_coefficients : agree_below coefficients_page (λ page. true) 8 ≡ true
unfolding coefficients_page coefficients_agree before ends residues_of residue doubled
all_coefficients = refl

pub coefficients-alone : (addr page code : ℕ) → page < 8 → Contains read_codes code
    → request_code addr coefficients_read ≢ request_code addr (PagePlusRead page code)
unfolding request_code coefficients_page coefficients_agree
coefficients-alone addr page code h there same =
    let page_passes : coefficients_page page ≡ true = agree_below_at coefficients_page (λ page. true) 8 page all_coefficients h in
    let differ = same_from_beq _ _ (passes_at (coefficients_agree page) read_codes code page_passes there) in
    let sums = same_before addr command.coefficients command.page_plus_read (ends command.vout_command 0) (ends page code)
    (sym (six addr command.coefficients command.vout_command 0) ∙ same ∙ six addr command.page_plus_read page code) in
    false≢true (sym differ ∙ eq-eqb _ _ sums)

-- ---- lengths

-- the answer to a read of a code of an output is longer than the one to a read of WRITE_PROTECT
is_longer : ℕ → Bool
is_longer code = ltb (whole_answer (cell_read Protect)) (whole_answer (PagePlusRead 0 code))

all_longer : list_all is_longer read_codes ≡ true
unfolding is_longer line_of
all_longer = refl

pub protect-shorter : (page code : ℕ) → Contains read_codes code
    → whole_answer (cell_read Protect) < whole_answer (PagePlusRead page code)
unfolding is_longer
protect-shorter page code there = ltb-true _ _ (passes_at is_longer read_codes code all_longer there)

-- the answer for WRITE_PROTECT is shorter than the one to a read of the coefficients
pub protect-shortest : whole_answer (cell_read Protect) < whole_answer coefficients_read
unfolding line_of
protect-shortest = lit< tt
