-- What a hearing leaves and what a request is answered, by its ending and its code.
use Rattle.std.specs.{Prelude.nat_lt}
use Rattle.std.specs.Option.{option_map_or, option_or}
use Rattle.std.proofs.lemmas.Bool.Decides.{nat_tests}
use Rattle.std.proofs.Common.{◌≡◌, ℕ, ◌<◌, ◌≤◌, Bool, true, false, cond, ◌&&◌, List, refl, sym, ◌∙◌, ap, arith, eqb, ltb, not, ◌||◌}
use Rattle.std.proofs.Common.{Option, Some, None, [], ◌∷◌, subst, zero, suc, ◌+◌, ◌*◌, ◌/◌, ◌%◌, length, take, ap₂, ◌≢◌, ◌-◌}
use Rattle.std.proofs.Common.{get_or}
use Rattle.std.proofs.lemmas.Bool.{lt-ltb, cond-true, or_right, ne_eqb, or_from}
use Rattle.pm_table.specs.{Protection.is_allowed, Rules.rule, declared.cell.Cell.Cell}
use Rattle.pm_table.specs.Cell.{cell_at, cell_accepts, cell_code, is_operation, is_protection, is_voltage, register_code}
use Rattle.pm_table.specs.Codes as command
use Rattle.pm_table.specs.Commands.{line_of, payload_length, is_known}
use Rattle.pm_table.specs.Commands.{is_read}
use Rattle.pm_table.specs.Laws.{PayloadsAreShort, RegistersAreInTheTable}
use Rattle.pm_table.specs.declared.cell.Cell.TheVariants.{Protect, Out}
use Rattle.pm_frame.specs.{declared.fault.FrameFault.FrameFault, declared.fault.FrameFault.TheVariants.NotOurs}
use Rattle.pm_frame.specs.{declared.message.Message.Message}
use Rattle.pm_frame.specs.Fault.{write_fault, request_fault, address_fault, opening_fault, length_fault, carried_count_fault, size_fault}
use Rattle.pm_frame.specs.Fault.{pec_fault, carried_fault, plain_fault, block_request_fault}
use Rattle.pm_frame.specs.Laws.{RequestsAreExact}
use Rattle.pm_frame.specs.Layout.{is_read_message, IsRequest, IsAnswer, answer_length, write_address}
use Rattle.pm_frame.specs.Layout.{read_address, is_carried}
use Rattle.pm_frame.specs.View.{message_in, message_code, payload_in}
use Rattle.pm_frame.specs.declared.fault.FrameFault.TheVariants as frame
use Rattle.pm_frame.specs.declared.message.Message.TheVariants.{SendByte, WriteByte, WriteWord, PagePlusWrite, ReadCommand, PagePlusRead}
use Rattle.pm_frame.specs.declared.message.Message.TheVariants.{ReadCoefficients}
use Rattle.pm_model.specs.Commanded.{is_cut}
use Rattle.pm_model.specs.Settings.{Words, word_at}
use Rattle.pm_device.specs.{Start.has_direct, declared.act.Act.Act, declared.config.Config.Config, declared.converter.Ending.Ending}
use Rattle.pm_device.specs.{declared.converter.Heard.Heard, declared.fault.DeviceFault.DeviceFault, declared.verdict.Verdict.Verdict}
use Rattle.pm_device.specs.Effect as effect
use Rattle.pm_device.specs.Effect.{Event, Hearing, Heard as EffectHeard, Restarted, Reading, kept_in}
use Rattle.pm_device.specs.Held.{Held, CmlFaults, value_for}
use Rattle.pm_device.specs.History.{faults_by, after_outcome, device_next, device_now, without_requests, is_for_other, without_others}
use Rattle.pm_device.specs.Laws.{AnswersWith, PastsAreFollowed}
use Rattle.pm_device.specs.Reply.{reply_to, reply_of, answer_bytes, plain_register, register_bytes, register_word, payload_for}
use Rattle.pm_device.specs.Status.{CmlBit, Command, Data, Pec, OtherCommunication, fault_bit, cml_at, with_bit, act_clears_cml}
use Rattle.pm_device.specs.Status.{is_output_cut, bit_if_set, status_vout_of, kept, vout_in, cml_in, sets_cml}
use Rattle.pm_device.specs.Verdict.{verdict_of, act_in, act_verdict, answers_coefficients, fault_verdict, is_act_accepted, names_no_output}
use Rattle.pm_device.specs.Verdict.{output_in, read_verdict, selects_no_output, unless_faulty, write_verdict, written_word, payload_word}
use Rattle.pm_device.specs.Verdict.{is_answered}
use Rattle.pm_device.specs.declared.converter.Ending.TheVariants.{Stop, Restart}
use Rattle.pm_device.specs.declared.converter.Heard.TheVariants.{Silent, Taken, Refused, Answer}
use Rattle.pm_device.specs.declared.fault.DeviceFault.TheVariants.{UnsupportedCode, UnsupportedData, BadPage, Protected}
use Rattle.pm_device.specs.declared.verdict.Verdict.TheVariants.{Ignores, Refuses, Takes, Answers}
use Rattle.pm_device.proofs.Past.{cut_at-each_output, vout-shows, request-not_taken}

-- What a hearing leaves, by its answer.

-- a refusal sets the bit of its kind
noted : (faults : CmlFaults) (fault : DeviceFault) (bit : CmlBit) → fault_bit fault ≡ bit
    → faults_by faults (effect.Heard (Refuses fault)) ≡ with_bit faults bit
noted faults fault Command e = rw e refl
noted faults fault Data e = rw e refl
noted faults fault Pec e = rw e refl
noted faults fault OtherCommunication e = rw e refl

-- a refusal changes that bit alone
after-refused : (held : Held) (verdict : Verdict) (fault : DeviceFault) → reply_to held verdict ≡ Refused fault
    → after_outcome held (effect.Heard verdict) ≡ record held { faults = with_bit held.faults (fault_bit fault) }
unfolding after_outcome
after-refused held Ignores fault e = cc
after-refused held (Takes act) fault e = cc
after-refused held (Answers request) fault e = cc
after-refused held (Refuses found) fault e =
    let same : found ≡ fault = cc in
    ap (λ f. record held { faults = f })
    (noted held.faults found (fault_bit found) refl ∙ ap (λ f. with_bit held.faults (fault_bit f)) same)

-- bytes that are refused set the bit of the refusal's kind, and nothing else changes
pub next-refused : (held : Held) (bytes : List ℕ) (ending : Ending) (fault : DeviceFault) → reply_of held bytes ending ≡ Refused fault
    → device_next held (Hearing bytes ending) ≡ record held { faults = with_bit held.faults (fault_bit fault) }
unfolding reply_of device_next
next-refused held bytes ending fault e = after-refused held (verdict_of held.config held.words held.page bytes ending) fault e

-- silence changes nothing
after-silent : (held : Held) (verdict : Verdict) → reply_to held verdict ≡ Silent → after_outcome held (effect.Heard verdict) ≡ held
unfolding after_outcome
after-silent held Ignores e = refl
after-silent held (Takes act) e = cc
after-silent held (Answers request) e = cc
after-silent held (Refuses found) e = cc

-- bytes that are met with silence change nothing
pub next-silent : (held : Held) (bytes : List ℕ) (ending : Ending) → reply_of held bytes ending ≡ Silent
    → device_next held (Hearing bytes ending) ≡ held
unfolding reply_of device_next
next-silent held bytes ending e = after-silent held (verdict_of held.config held.words held.page bytes ending) e

-- an answer changes nothing
after-answered : (held : Held) (verdict : Verdict) (request : Message) → verdict ≡ Answers request
    → after_outcome held (effect.Heard verdict) ≡ held
unfolding after_outcome
after-answered held verdict request e = ap (λ v. after_outcome held (effect.Heard v)) e

-- a read changes nothing
read-answered : (held : Held) (verdict : Verdict) (answer : Heard) → reply_to held verdict ≡ answer → (answer ≡ Silent → ⊥)
    → (answer ≡ Taken → ⊥) → ((fault : DeviceFault) → answer ≡ Refused fault → ⊥) → (request : Message) × (verdict ≡ Answers request)
read-answered held Ignores answer e silent taken refused = absurd (silent (sym e))
read-answered held (Takes act) answer e silent taken refused = absurd (taken (sym e))
read-answered held (Refuses fault) answer e silent taken refused = absurd (refused fault (sym e))
read-answered held (Answers request) answer e silent taken refused = (request, refl)

-- what is neither silence, taken nor refused changes nothing
pub next-answered : (held : Held) (bytes : List ℕ) (ending : Ending) → (reply_of held bytes ending ≡ Silent → ⊥)
    → (reply_of held bytes ending ≡ Taken → ⊥) → ((fault : DeviceFault) → reply_of held bytes ending ≡ Refused fault → ⊥)
    → device_next held (Hearing bytes ending) ≡ held
unfolding reply_of device_next
next-answered held bytes ending silent taken refused =
    let verdict = verdict_of held.config held.words held.page bytes ending in
    let read = read-answered held verdict (reply_to held verdict) refl silent taken refused in
    after-answered held verdict read.0 read.1

-- a write that is taken sets no bit of STATUS_CML
unset : (b before : Bool) → cond b false before ≡ true → before ≡ true
unset true before e = cc
unset false before e = e

-- a bit that is set after a taken write was set before it
after-taken : (held : Held) (verdict : Verdict) (bit : CmlBit) → reply_to held verdict ≡ Taken
    → cml_at (after_outcome held (effect.Heard verdict)).faults bit ≡ true → cml_at held.faults bit ≡ true
unfolding after_outcome
after-taken held Ignores bit e h = cc
after-taken held (Answers request) bit e h = cc
after-taken held (Refuses found) bit e h = cc
after-taken held (Takes act) Command e h = unset (act_clears_cml Command act) held.faults.command h
after-taken held (Takes act) Data e h = unset (act_clears_cml Data act) held.faults.data h
after-taken held (Takes act) Pec e h = unset (act_clears_cml Pec act) held.faults.pec h
after-taken held (Takes act) OtherCommunication e h = unset (act_clears_cml OtherCommunication act) held.faults.other_communication h

-- a bit that is set after bytes that are a taken write was set before them
pub next-taken : (held : Held) (bytes : List ℕ) (ending : Ending) (bit : CmlBit) → reply_of held bytes ending ≡ Taken
    → cml_at (device_next held (Hearing bytes ending)).faults bit ≡ true → cml_at held.faults bit ≡ true
unfolding reply_of device_next
next-taken held bytes ending bit e h = after-taken held (verdict_of held.config held.words held.page bytes ending) bit e h

-- the status registers look back
pub vout-looked_up : (config : Config) (past : List Event) (output : ℕ) → output < 8
    → status_vout_of (device_now config past) output ≡ bit_if_set 0x08 (vout_in config past output)
unfolding device_now
vout-looked_up config past output there = ap (λ b. bit_if_set 0x08 b) (cut_at-each_output (vout_in config past) output there)

-- the bits of STATUS_CML are those of the events
pub cml-looked_up : (config : Config) (past : List Event) (bit : CmlBit) → cml_at (device_now config past).faults bit
    ≡ cml_in config past bit
unfolding device_now
cml-looked_up config past Command = refl
cml-looked_up config past Data = refl
cml-looked_up config past Pec = refl
cml-looked_up config past OtherCommunication = refl

-- what is outside its limits now shows
cut-now : (config : Config) (words : Words) (output : ℕ) → output < config.count → is_cut (value_for config output) words output ≡ true
    → is_output_cut config words output ≡ true
unfolding is_output_cut
cut-now config words output there cut = ap (λ b. b && is_cut (value_for config output) words output) (lt-ltb output config.count there)
    ∙ cut

-- STATUS_VOUT shows that an output is cut
pub now-shows : (config : Config) (past : List Event) (output : ℕ) → config.count ≤ 8 → output < config.count
    → is_cut (value_for config output) (device_now config past).words output ≡ true → status_vout_of (device_now config past) output ≡ 0x08
unfolding device_now
now-shows config past output few there cut =
    ap (λ b. bit_if_set 0x08 b) (cut_at-each_output (vout_in config past) output (omega (arith, few, there))
    ∙ vout-shows config past output (cut-now config (kept config past).words output there cut))

-- Which replies come after which endings, and for which codes.

-- the reply to what an act results in: a refusal that isn't K2, or that it is taken
act-reply : (held : Held) (away allowed accepted : Bool) (act : Act) → Heard
act-reply held away allowed accepted act =
    reply_to held (cond away (Refuses BadPage) (cond (not allowed) (Refuses Protected)
    (cond (not accepted) (Refuses UnsupportedData) (Takes act))))

-- it is no answer
act-not_answer : (held : Held) (away allowed accepted : Bool) (act : Act) (items : List ℕ) →
    act-reply held away allowed accepted act ≡ Answer (record { items = items }) → ⊥
unfolding act-reply
act-not_answer held true allowed accepted act items e = cc
act-not_answer held false false accepted act items e = cc
act-not_answer held false true false act items e = cc
act-not_answer held false true true act items e = cc

-- no fault is answered
pub fault-not_answer : (held : Held) (fault : FrameFault) (items : List ℕ) →
    reply_to held (fault_verdict fault) ≡ Answer (record { items = items }) → ⊥
fault-not_answer held frame.NotOurs items e = cc
fault-not_answer held (frame.Short place) items e = cc
fault-not_answer held (frame.Long place) items e = cc
fault-not_answer held (frame.WrongCount place) items e = cc
fault-not_answer held (frame.WrongPec place) items e = cc
fault-not_answer held (frame.UnknownCode place) items e = cc
fault-not_answer held (frame.WrongDirection place) items e = cc
fault-not_answer held (frame.Nested place) items e = cc

-- a stop is never answered
pub stop-not_answer : (held : Held) (bytes items : List ℕ) → reply_of held bytes Stop ≡ Answer (record { items = items }) → ⊥
unfolding reply_of verdict_of act-reply
stop-not_answer held bytes items e = go (write_fault held.config.addr bytes) e where
  acts : (message : Message) (found : Option Act) →
      reply_to held (option_map_or (λ act. act_verdict held.config.count (word_at held.words Protect) message act) found
      (Refuses UnsupportedCode))
      ≡ Answer (record { items = items }) → ⊥
  acts message None h = cc
  acts message (Some act) h =
      act-not_answer held (names_no_output held.config.count message || selects_no_output held.config.count act)
      (is_allowed (word_at held.words Protect) (message_code message)) (is_act_accepted act) act items h

  go : (fault : Option FrameFault) →
      reply_to held (unless_faulty fault (write_verdict held.config held.words held.page (message_in bytes)))
      ≡ Answer (record { items = items }) → ⊥
  go (Some fault) h = fault-not_answer held fault items h
  go None h =
      let message = message_in bytes in
      acts message (act_in (message_code message) (output_in held.page message) (written_word message)) h

-- a repeated start is never taken
pub restart-not_taken : (held : Held) (bytes : List ℕ) → reply_of held bytes Restart ≡ Taken → ⊥
unfolding reply_of
restart-not_taken held bytes e = go (verdict_of held.config held.words held.page bytes Restart) refl e where
  go : (verdict : Verdict) → verdict_of held.config held.words held.page bytes Restart ≡ verdict → reply_to held verdict ≡ Taken → ⊥
  go Ignores is h = cc
  go (Refuses fault) is h = cc
  go (Answers request) is h = cc
  go (Takes act) is h = request-not_taken held.config held.words held.page bytes act is

-- What a request is answered.

-- a word's bytes are as many as its code has
register_bytes-length : (code word : ℕ) → payload_length code ≤ 2 → length (register_bytes code word) ≡ payload_length code
register_bytes-length code word short = go (payload_length code) short where
  go : (n : ℕ) → n ≤ 2 → length (take n (word % 256 ∷ word / 256 ∷ [])) ≡ n
  go zero h = refl
  go (suc zero) h = refl
  go (suc (suc zero)) h = refl
  go (suc (suc (suc n))) h = absurd (omega (arith, h))

-- the payload that answers a request is as long as the answer has it
payload_for-length : PayloadsAreShort → (held : Held) (request : Message) → is_read_message request ≡ true →
    length (payload_for held request) ≡ answer_length request
payload_for-length short held (ReadCommand code) reads =
    register_bytes-length code (register_word held held.page code) (short code)
payload_for-length short held (PagePlusRead page code) reads =
    register_bytes-length code (register_word held page code) (short code)
payload_for-length short held (ReadCoefficients code side) reads = refl
payload_for-length short held (SendByte code) reads = cc
payload_for-length short held (WriteByte code byte) reads = cc
payload_for-length short held (WriteWord code word) reads = cc
payload_for-length short held (PagePlusWrite page code payload) reads = cc

-- the bytes that answer a request are an answer to it
answer-fits : PayloadsAreShort → (held : Held) (request : Message) (bytes : List ℕ) →
    IsRequest held.config.addr request bytes →
    IsAnswer held.config.addr request (payload_for held request) (answer_bytes held request)
answer-fits short held request bytes h = record {
  reads = h.reads;
  fits = h.fits;
  counted = payload_for-length short held request h.reads;
  spelled = refl;
}

-- a request results in what its message results in
heard-request : RequestsAreExact → (held : Held) (request : Message) (bytes : List ℕ) →
    IsRequest held.config.addr request bytes →
    verdict_of held.config held.words held.page bytes Restart ≡ read_verdict held.config request
unfolding verdict_of
heard-request exact held request bytes h =
    ap₂ (λ fault m. unless_faulty fault (read_verdict held.config m))
    (exact.spelled held.config.addr request bytes h) (exact.places held.config.addr request bytes h)

-- it is answered where its page, or its coefficients, are there
verdict-answers : (held : Held) (request : Message) → is_answered held.config request ≡ true →
    read_verdict held.config request ≡ Answers request
verdict-answers held (ReadCommand code) e = refl
verdict-answers held (PagePlusRead page code) e = cond-true _ _ _ e
verdict-answers held (ReadCoefficients code side) e = cond-true _ _ _ e
verdict-answers held (SendByte code) e = cc
verdict-answers held (WriteByte code byte) e = cc
verdict-answers held (WriteWord code word) e = cc
verdict-answers held (PagePlusWrite page code payload) e = cc

-- a request for what is answered gets its answer
pub request-answered : RequestsAreExact → PayloadsAreShort → (held : Held) (request : Message) (bytes : List ℕ) →
    IsRequest held.config.addr request bytes → is_answered held.config request ≡ true →
    AnswersWith held bytes request (payload_for held request)
unfolding reply_of
request-answered exact short held request bytes h can = (
  answer_bytes held request,
  ap (λ v. reply_to held v) (heard-request exact held request bytes h ∙ verdict-answers held request can),
  answer-fits short held request bytes h,
)

-- coefficients are refused where no output is DIRECT
pub coefficients-refused : RequestsAreExact → (held : Held) (bytes : List ℕ) →
    IsRequest held.config.addr (ReadCoefficients command.vout_command 0x00) bytes → has_direct held.config ≡ false →
    reply_of held bytes Restart ≡ Refused UnsupportedData
unfolding reply_of
coefficients-refused exact held bytes h none =
    ap (λ v. reply_to held v) (heard-request exact held (ReadCoefficients command.vout_command 0x00) bytes h)
    ∙ ap (λ b. reply_to held (cond b (Answers (ReadCoefficients command.vout_command 0x00)) (Refuses UnsupportedData))) none

-- the bytes of an answer
bytes_in : Heard → List ℕ
bytes_in (Answer frame) = frame.items
bytes_in _ = []

-- two answers that are one have the same bytes
answer-one : (items others : List ℕ) → Answer (record { items = items }) ≡ Answer (record { items = others }) → others ≡ items
unfolding bytes_in
answer-one items others e = sym (ap bytes_in e)

-- what a request that is answered results in
verdict-answer : (held : Held) (request : Message) (items : List ℕ) →
    reply_to held (read_verdict held.config request) ≡ Answer (record { items = items }) → items ≡ answer_bytes held request
verdict-answer held (ReadCommand code) items e = answer-one (answer_bytes held (ReadCommand code)) items e
verdict-answer held (PagePlusRead page code) items e = go (ltb page held.config.count) e where
  go : (b : Bool) → reply_to held (cond b (Answers (PagePlusRead page code)) (Refuses BadPage)) ≡ Answer (record { items = items }) →
      items ≡ answer_bytes held (PagePlusRead page code)
  go true h = answer-one (answer_bytes held (PagePlusRead page code)) items h
  go false h = cc
verdict-answer held (ReadCoefficients code side) items e = go (answers_coefficients held.config code side) e where
  go : (b : Bool) → reply_to held (cond b (Answers (ReadCoefficients code side)) (Refuses UnsupportedData)) ≡ Answer
      (record { items = items }) →
      items ≡ answer_bytes held (ReadCoefficients code side)
  go true h = answer-one (answer_bytes held (ReadCoefficients code side)) items h
  go false h = cc
verdict-answer held (SendByte code) items e = cc
verdict-answer held (WriteByte code byte) items e = cc
verdict-answer held (WriteWord code word) items e = cc
verdict-answer held (PagePlusWrite page code payload) items e = cc

-- an answer is one to the request that was heard
pub answer-is : RequestsAreExact → PayloadsAreShort → (held : Held) (bytes items : List ℕ) →
    reply_of held bytes Restart ≡ Answer (record { items = items }) →
    (request : Message) × IsRequest held.config.addr request bytes
    × IsAnswer held.config.addr request (payload_for held request) items
unfolding reply_of verdict_of
answer-is exact short held bytes items e = go (request_fault held.config.addr bytes) refl e where
  go : (fault : Option FrameFault) → request_fault held.config.addr bytes ≡ fault →
      reply_to held (unless_faulty fault (read_verdict held.config (message_in bytes))) ≡ Answer (record { items = items }) →
      (request : Message) × IsRequest held.config.addr request bytes
      × IsAnswer held.config.addr request (payload_for held request) items
  go (Some fault) is h = absurd (fault-not_answer held fault items h)
  go None is h =
      let some = exact.faultless held.config.addr bytes is in
      let places = exact.places held.config.addr some.0 bytes some.1 in
      let same = verdict-answer held some.0 items
      (subst (λ m. reply_to held (read_verdict held.config m) ≡ Answer (record { items = items })) places h) in (
        some.0,
        some.1,
        subst (IsAnswer held.config.addr some.0 (payload_for held some.0)) (sym same)
            (answer-fits short held some.0 bytes some.1),
      )

-- what a cell's code is answered
pub cell-answered : RequestsAreExact → PayloadsAreShort → (held : Held) (output code : ℕ) (cell : Cell) (bytes : List ℕ) →
    IsRequest held.config.addr (PagePlusRead output code) bytes × (output < held.config.count) × (cell_at code output ≡ Some cell) →
    AnswersWith held bytes (PagePlusRead output code) (register_bytes code (word_at held.words cell))
cell-answered exact short held output code cell bytes (h, there, names) =
    subst (AnswersWith held bytes (PagePlusRead output code))
    (ap (λ found. register_bytes code (option_map_or (λ c. word_at held.words c) found (plain_register held output code))) names)
    (request-answered exact short held (PagePlusRead output code) bytes h (lt-ltb output held.config.count there))

-- an accepted word is read back from its bytes
operation-byte : (word : ℕ) → is_operation word ≡ true → word < 256
operation-byte word e = grind (arith, nat_tests, e)

-- a word of WRITE_PROTECT is a byte
protection-byte : (word : ℕ) → is_protection word ≡ true → word < 256
protection-byte word e = grind (arith, nat_tests, e)

-- a byte is read from its one byte
one-byte : (word : ℕ) → word < 256 → word % 256 ≡ word
one-byte word h = omega (arith, h)

-- a word is read from its two bytes
two-bytes : (word : ℕ) → word % 256 + 256 * (word / 256) ≡ word
two-bytes word = omega arith

-- each accepted word is read back
pub read-back : RegistersAreInTheTable → (cell : Cell) (word : ℕ) → cell_accepts cell word ≡ true →
    payload_word (payload_in (register_bytes (cell_code cell) word)) ≡ word
unfolding line_of
read-back table Protect word e = one-byte word (protection-byte word e)
read-back table (Out output register) word e =
    go (is_voltage register) (payload_length (register_code register)) (table.length register) e
  where
    go : (voltage : Bool) (n : ℕ) → n ≡ cond voltage 2 1 → (voltage || is_operation word) ≡ true →
        payload_word (payload_in (take n (word % 256 ∷ word / 256 ∷ []))) ≡ word
    go true n is h = rw is (two-bytes word)
    go false n is h = rw is (one-byte word (operation-byte word h))

-- What a hearing that a repeated start ended leaves.

-- a verdict that asks for no act
IsNoAct : Verdict → Type 0
IsNoAct (Takes act) = ⊥
IsNoAct Ignores = Unit {0}
IsNoAct (Refuses fault) = Unit {0}
IsNoAct (Answers request) = Unit {0}

-- The verdict of a fault asks for no act.
fault-no_act : (fault : FrameFault) → IsNoAct (fault_verdict fault)
unfolding IsNoAct
fault-no_act frame.NotOurs = tt
fault-no_act (frame.Short place) = tt
fault-no_act (frame.Long place) = tt
fault-no_act (frame.WrongCount place) = tt
fault-no_act (frame.WrongPec place) = tt
fault-no_act (frame.UnknownCode place) = tt
fault-no_act (frame.WrongDirection place) = tt
fault-no_act (frame.Nested place) = tt

-- The verdict of a request asks for no act.
read-no_act : (config : Config) (message : Message) → IsNoAct (read_verdict config message)
unfolding IsNoAct
read-no_act config (ReadCommand code) = tt
read-no_act config (PagePlusRead page code) = go (nat_lt page config.count) where
  go : (b : Bool) → IsNoAct (cond b (Answers (PagePlusRead page code)) (Refuses BadPage))
  go true = tt
  go false = tt
read-no_act config (ReadCoefficients code side) = go (answers_coefficients config code side) where
  go : (b : Bool) → IsNoAct (cond b (Answers (ReadCoefficients code side)) (Refuses UnsupportedData))
  go true = tt
  go false = tt
read-no_act config (SendByte code) = tt
read-no_act config (WriteByte code byte) = tt
read-no_act config (WriteWord code word) = tt
read-no_act config (PagePlusWrite page code payload) = tt

-- The verdict of bytes that a repeated start ended asks for no act.
request-no_act : (config : Config) (words : Words) (page : ℕ) (bytes : List ℕ) → IsNoAct (verdict_of config words page bytes Restart)
unfolding verdict_of
request-no_act config words page bytes = go (request_fault config.addr bytes) where
  go : (fault : Option FrameFault) → IsNoAct (unless_faulty fault (read_verdict config (message_in bytes)))
  go (Some fault) = fault-no_act fault
  go None = read-no_act config (message_in bytes)

-- A verdict without an act changes nothing but the latched bits of STATUS_CML.
after-alone : (held : Held) (verdict : Verdict) → IsNoAct verdict
    → after_outcome held (EffectHeard verdict) ≡ record held { faults = (after_outcome held (EffectHeard verdict)).faults }
unfolding after_outcome IsNoAct
after-alone held (Takes act) none = absurd none
after-alone held Ignores none = refl
after-alone held (Refuses fault) none = refl
after-alone held (Answers request) none = refl

-- A request changes nothing but the latched bits of STATUS_CML.
pub request-alone : (held : Held) (bytes : List ℕ)
    → device_next held (Hearing bytes Restart) ≡ record held { faults = (device_next held (Hearing bytes Restart)).faults }
unfolding device_next
request-alone held bytes =
    after-alone held (verdict_of held.config held.words held.page bytes Restart) (request-no_act held.config held.words held.page bytes)

-- What a restart keeps stays the same after a request.
pub request-kept : (held : Held) (bytes : List ℕ) → kept_in (device_next held (Hearing bytes Restart)) ≡ kept_in held
request-kept held bytes = ap kept_in (request-alone held bytes)

-- A verdict without an act clears no latched bit of STATUS_CML.
after-rises : (held : Held) (verdict : Verdict) (bit : CmlBit) → IsNoAct verdict → cml_at held.faults bit ≡ true
    → cml_at (after_outcome held (EffectHeard verdict)).faults bit ≡ true
unfolding after_outcome IsNoAct
after-rises held (Takes act) bit none set = absurd none
after-rises held Ignores Command none set = set
after-rises held Ignores Data none set = set
after-rises held Ignores Pec none set = set
after-rises held Ignores OtherCommunication none set = set
after-rises held (Refuses fault) Command none set = or_right (sets_cml Command (EffectHeard (Refuses fault))) _ set
after-rises held (Refuses fault) Data none set = or_right (sets_cml Data (EffectHeard (Refuses fault))) _ set
after-rises held (Refuses fault) Pec none set = or_right (sets_cml Pec (EffectHeard (Refuses fault))) _ set
after-rises held (Refuses fault) OtherCommunication none set = or_right (sets_cml OtherCommunication (EffectHeard (Refuses fault))) _ set
after-rises held (Answers request) Command none set = set
after-rises held (Answers request) Data none set = set
after-rises held (Answers request) Pec none set = set
after-rises held (Answers request) OtherCommunication none set = set

-- A request clears no latched bit of STATUS_CML.
pub request-rises : (held : Held) (bytes : List ℕ) (bit : CmlBit) → cml_at held.faults bit ≡ true
    → cml_at (device_next held (Hearing bytes Restart)).faults bit ≡ true
unfolding device_next
request-rises held bytes bit set =
    after-rises held (verdict_of held.config held.words held.page bytes Restart) bit
    (request-no_act held.config held.words held.page bytes) set

-- what an event makes of the rest doesn't depend on the latched bits of STATUS_CML
next-beside : (held : Held) (faults : CmlFaults) (event : Event)
    → device_next (record held { faults = faults }) event
    ≡ record (device_next held event) { faults = (device_next (record held { faults = faults }) event).faults }
unfolding device_next after_outcome
next-beside held faults event = refl

-- Two pasts that came to the same but for the latched bits of STATUS_CML do so after one event more.
one_more : (config : Config) (past other : List Event) (event : Event) → device_now config (event ∷ past)
    ≡ device_next (device_now config past) event
    → device_now config (event ∷ other) ≡ device_next (device_now config other) event
    → device_now config past ≡ record (device_now config other) { faults = (device_now config past).faults }
    → device_now config (event ∷ past) ≡ record (device_now config (event ∷ other)) { faults = (device_now config (event ∷ past)).faults }
one_more config past other event first second same =
    let beside : device_next (device_now config past) event
    ≡ record (device_next (device_now config other) event) { faults = (device_next (device_now config past) event).faults } =
    ap (λ h. device_next h event) same ∙ next-beside (device_now config other) (device_now config past).faults event
    ∙ ap (λ h. record (device_next (device_now config other) event) { faults = (device_next h event).faults }) (sym same) in
    first ∙ beside ∙ ap (λ (h : Held). record h { faults = (device_next (device_now config past) event).faults }) (sym second)
    ∙ ap (λ (h : Held). record (device_now config (event ∷ other)) { faults = h.faults }) (sym first)

-- What is held after a past is what is held after the past without requests, but for those bits.
pub past-without_requests : PastsAreFollowed → (config : Config) (past : List Event) → 1 ≤ config.count → config.count ≤ 8
    → device_now config past ≡ record (device_now config (without_requests past)) { faults = (device_now config past).faults }
past-without_requests followed config [] some few = refl
past-without_requests followed config (Hearing bytes Restart ∷ past) some few =
    let more = followed.more config past (Hearing bytes Restart) some few in
    let before = past-without_requests followed config past some few in
    let alone = request-alone (device_now config past) bytes in
    more ∙ alone
    ∙ ap (λ (h : Held). record h { faults = (device_next (device_now config past) (Hearing bytes Restart)).faults }) before
    ∙ ap (λ (h : Held). record (device_now config (without_requests past)) { faults = h.faults }) (sym more)
past-without_requests followed config (Hearing bytes Stop ∷ past) some few =
    one_more config past (without_requests past) (Hearing bytes Stop) (followed.more config past _ some few)
    (followed.more config (without_requests past) _ some few) (past-without_requests followed config past some few)
past-without_requests followed config (Restarted ∷ past) some few =
    one_more config past (without_requests past) Restarted (followed.more config past _ some few)
    (followed.more config (without_requests past) _ some few) (past-without_requests followed config past some few)
past-without_requests followed config (Reading output code word ∷ past) some few =
    one_more config past (without_requests past) (Reading output code word) (followed.more config past _ some few)
    (followed.more config (without_requests past) _ some few) (past-without_requests followed config past some few)

-- What is heard for another device.

-- Bytes for another device break the rule on the address, F1.
other-address_fault : (addr : ℕ) (bytes : List ℕ) → is_for_other addr bytes ≡ true → address_fault (write_address addr) bytes ≡ Some NotOurs
unfolding address_fault
other-address_fault addr [] other = refl
other-address_fault addr (first ∷ rest) other =
    ap (λ b. rule b NotOurs) (or_right (eqb (length (first ∷ rest)) 0) (not (eqb first (write_address addr))) other)

-- Bytes for another device have the fault F1 as a write.
other-write_fault : (addr : ℕ) (bytes : List ℕ) → is_for_other addr bytes ≡ true → write_fault addr bytes ≡ Some NotOurs
unfolding write_fault opening_fault
other-write_fault addr bytes other = rw (other-address_fault addr bytes other) refl

-- Bytes for another device have the fault F1 as a request.
other-request_fault : (addr : ℕ) (bytes : List ℕ) → is_for_other addr bytes ≡ true → request_fault addr bytes ≡ Some NotOurs
unfolding request_fault opening_fault
other-request_fault addr bytes other = rw (other-address_fault addr bytes other) refl

-- Bytes for another device are met with silence.
pub other-silent : (held : Held) (bytes : List ℕ) (ending : Ending) → is_for_other held.config.addr bytes ≡ true
    → reply_of held bytes ending ≡ Silent
unfolding reply_of verdict_of
other-silent held bytes Stop other = rw (other-write_fault held.config.addr bytes other) refl
other-silent held bytes Restart other = rw (other-request_fault held.config.addr bytes other) refl

-- Bytes for another device change nothing.
pub other-unchanged : (held : Held) (bytes : List ℕ) (ending : Ending) → is_for_other held.config.addr bytes ≡ true
    → device_next held (Hearing bytes ending) ≡ held
other-unchanged held bytes ending other = next-silent held bytes ending (other-silent held bytes ending other)

-- Bytes that begin with another address, with either direction, are for another device.
pub neighbour-other : (addr other : ℕ) (rest : List ℕ) → other ≢ addr
    → (is_for_other addr (write_address other ∷ rest) ≡ true) × (is_for_other addr (read_address other ∷ rest) ≡ true)
neighbour-other addr other rest differ = (
  ap not (ne_eqb (write_address other) (write_address addr) (λ e. differ (omega arith))),
  ap not (ne_eqb (read_address other) (write_address addr) (λ e. absurd (omega arith))),
)

-- Bytes that begin with the own address and the read bit are for another device.
pub read_bit-other : (addr : ℕ) (rest : List ℕ) → is_for_other addr (read_address addr ∷ rest) ≡ true
read_bit-other addr rest = ap not (ne_eqb (read_address addr) (write_address addr) (λ e. absurd (omega arith)))

-- the configuration stays what it was
config-now : (config : Config) (past : List Event) → (device_now config past).config.addr ≡ config.addr
unfolding device_now
config-now config past = refl

-- Two pasts that came to the same do so after one event more.
others_one_more : (config : Config) (past other : List Event) (event : Event) → device_now config (event ∷ past)
    ≡ device_next (device_now config past) event
    → device_now config (event ∷ other) ≡ device_next (device_now config other) event → device_now config past ≡ device_now config other
    → device_now config (event ∷ past) ≡ device_now config (event ∷ other)
others_one_more config past other event first second same = first ∙ ap (λ h. device_next h event) same ∙ sym second

-- What is held after a past is what is held after the past without the bytes for others.
pub past-without_others : PastsAreFollowed → (config : Config) (past : List Event) → 1 ≤ config.count → config.count ≤ 8
    → device_now config past ≡ device_now config (without_others config.addr past)
past-without_others followed config [] some few = refl
past-without_others followed config (Hearing bytes ending ∷ past) some few =
    go (is_for_other config.addr bytes) refl (past-without_others followed config past some few)
  where
    addr_is : (device_now config past).config.addr ≡ config.addr
    addr_is = config-now config past

    skipped : is_for_other config.addr bytes ≡ true → device_next (device_now config past) (Hearing bytes ending) ≡ device_now config past
    skipped other = other-unchanged (device_now config past) bytes ending (ap (λ a. is_for_other a bytes) addr_is ∙ other)

    go : (b : Bool) → is_for_other config.addr bytes ≡ b → device_now config past ≡ device_now config (without_others config.addr past)
        → device_now config (Hearing bytes ending ∷ past)
        ≡ device_now config (cond b (without_others config.addr past) (Hearing bytes ending ∷ without_others config.addr past))
    go true other before =
        followed.more config past (Hearing bytes ending) some few ∙ skipped other ∙ before
    go false own before =
        others_one_more config past (without_others config.addr past) (Hearing bytes ending) (followed.more config past _ some few)
        (followed.more config (without_others config.addr past) _ some few) before
past-without_others followed config (Restarted ∷ past) some few =
    others_one_more config past (without_others config.addr past) Restarted (followed.more config past _ some few)
    (followed.more config (without_others config.addr past) _ some few) (past-without_others followed config past some few)
past-without_others followed config (Reading output code word ∷ past) some few =
    others_one_more config past (without_others config.addr past) (Reading output code word) (followed.more config past _ some few)
    (followed.more config (without_others config.addr past) _ some few) (past-without_others followed config past some few)

-- ---- nothing else is met with silence

-- There is no fault, or it isn't F1.
record IsOther (fault : Option FrameFault) : Type 0 where
  differs : fault ≡ Some NotOurs → ⊥

-- The absence of a fault isn't F1.
none-other : IsOther None
none-other = record { differs = λ e. cc }

-- The first of two faults isn't F1 where neither is.
IsOther-or : (a b : Option FrameFault) → IsOther a → IsOther b → IsOther (option_or a b)
IsOther-or None b h k = k
IsOther-or (Some fault) b h k = h

-- A choice of two faults isn't F1 where neither is.
IsOther-cond : (b : Bool) (x y : Option FrameFault) → IsOther x → IsOther y → IsOther (cond b x y)
IsOther-cond true x y h k = h
IsOther-cond false x y h k = k

-- A fault that is another than F1 isn't F1 where there is one.
IsOther-some : (fault : FrameFault) → (fault ≡ NotOurs → ⊥) → IsOther (Some fault)
IsOther-some fault differs = record { differs = λ e. let same : fault ≡ NotOurs = cc in differs same }

-- A rule whose fault isn't F1 doesn't give F1.
IsOther-rule : (b : Bool) (fault : FrameFault) → (fault ≡ NotOurs → ⊥) → IsOther (rule b fault)
IsOther-rule true fault differs = IsOther-some fault differs
IsOther-rule false fault differs = none-other

-- The rules on the length don't give F1.
length-other : (wanted : ℕ) (bytes : List ℕ) → IsOther (length_fault wanted bytes)
unfolding length_fault
length-other wanted bytes =
    IsOther-or _ _ (IsOther-rule _ (frame.Short (length bytes)) (λ e. cc))
    (IsOther-or _ _ (IsOther-rule _ (frame.Long wanted) (λ e. cc)) none-other)

-- The rules on the count of a PAGE_PLUS_WRITE don't give F1.
count-other : (bytes : List ℕ) → IsOther (carried_count_fault bytes)
unfolding carried_count_fault
count-other bytes = IsOther-or _ _ (IsOther-rule _ (frame.WrongCount 2) (λ e. cc))
    (IsOther-or _ _ (IsOther-rule _ (frame.WrongCount 2) (λ e. cc)) none-other)

-- The rules on the size of a write don't give F1.
size-other : (bytes : List ℕ) → IsOther (size_fault bytes)
unfolding size_fault
size-other bytes =
    IsOther-cond _ _ _ (length-other _ bytes)
    (IsOther-cond _ _ _ (IsOther-some (frame.Short 2) (λ e. cc))
    (IsOther-cond _ _ _ (IsOther-or _ _ (length-other _ bytes) (count-other bytes)) none-other))

-- The rule on the PEC doesn't give F1.
pec-other : (before bytes : List ℕ) → IsOther (pec_fault before bytes)
unfolding pec_fault
pec-other before bytes = IsOther-rule _ (frame.WrongPec (length bytes - 1)) (λ e. cc)

-- Bytes for this device open without F1.
opening-other : (addr : ℕ) (bytes : List ℕ) → is_for_other addr bytes ≡ false → IsOther (opening_fault (write_address addr) bytes)
unfolding opening_fault address_fault
opening-other addr [] own = cc
opening-other addr (first ∷ rest) own =
    let ours : rule (eqb (length (first ∷ rest)) 0 || not (eqb first (write_address addr))) NotOurs ≡ None =
    ap (λ b. rule b NotOurs) (or_from _ _ (ne_eqb (length (first ∷ rest)) 0 (λ e. absurd (omega arith))) own) in
    IsOther-or _ _ (subst IsOther (sym ours) none-other) (IsOther-rule _ (frame.Short 1) (λ e. cc))

-- The fault of bytes for this device, as a write, isn't F1.
write-other : (addr : ℕ) (bytes : List ℕ) → is_for_other addr bytes ≡ false → IsOther (write_fault addr bytes)
unfolding write_fault carried_fault plain_fault
write-other addr bytes own =
    IsOther-or _ _ (opening-other addr bytes own)
    (IsOther-or _ _ (size-other bytes)
    (IsOther-or _ _ (pec-other [] bytes)
    (IsOther-or _ _ (IsOther-cond _ _ _
    (IsOther-or _ _ (IsOther-rule _ (frame.Nested 4) (λ e. cc))
    (IsOther-or _ _ (IsOther-rule _ (frame.UnknownCode 4) (λ e. cc))
    (IsOther-or _ _ (IsOther-rule _ (frame.WrongDirection 4) (λ e. cc)) none-other)))
    (IsOther-or _ _ (IsOther-rule _ (frame.UnknownCode 1) (λ e. cc))
    (IsOther-or _ _ (IsOther-rule _ (frame.WrongDirection 1) (λ e. cc)) none-other))) none-other)))

-- The fault of a request with a count isn't F1.
block-other : (bytes : List ℕ) → IsOther (block_request_fault bytes)
unfolding block_request_fault carried_fault
block-other bytes =
    let code = get_or bytes 4 0 in
    IsOther-or _ _ (length-other 5 bytes)
    (IsOther-or _ _ (IsOther-rule (not (eqb (get_or bytes 2 0) 2)) (frame.WrongCount 2) (λ e. cc))
    (IsOther-or _ _ (IsOther-cond _ _ _
    (IsOther-or _ _ (IsOther-rule (not (is_carried code)) (frame.Nested 4) (λ e. cc))
    (IsOther-or _ _ (IsOther-rule (not (is_known code)) (frame.UnknownCode 4) (λ e. cc))
    (IsOther-or _ _ (IsOther-rule (not (is_read code)) (frame.WrongDirection 4) (λ e. cc)) none-other))) none-other) none-other))

-- The fault of bytes for this device, as a request, isn't F1.
request-other : (addr : ℕ) (bytes : List ℕ) → is_for_other addr bytes ≡ false → IsOther (request_fault addr bytes)
unfolding request_fault plain_fault
request-other addr bytes own =
    let code = get_or bytes 1 0 in
    IsOther-or _ _ (opening-other addr bytes own)
    (IsOther-cond _ _ _ (block-other bytes)
    (IsOther-or _ _
    (IsOther-or _ _ (IsOther-rule (not (is_known code)) (frame.UnknownCode 1) (λ e. cc))
    (IsOther-or _ _ (IsOther-rule (not (is_read code)) (frame.WrongDirection 1) (λ e. cc)) none-other))
    (IsOther-rule (nat_lt 2 (length bytes)) (frame.Long 2) (λ e. cc))))

-- The verdict isn't to ignore what was heard.
record IsHeeded (verdict : Verdict) : Type 0 where
  differs : verdict ≡ Ignores → ⊥

-- A choice of two verdicts isn't to ignore what was heard where neither is.
IsHeeded-cond : (b : Bool) (x y : Verdict) → IsHeeded x → IsHeeded y → IsHeeded (cond b x y)
IsHeeded-cond true x y h k = h
IsHeeded-cond false x y h k = k

-- A refusal isn't to ignore what was heard.
refuses-heeded : (fault : DeviceFault) → IsHeeded (Refuses fault)
refuses-heeded fault = record { differs = λ e. cc }

-- An act isn't to ignore what was heard.
takes-heeded : (act : Act) → IsHeeded (Takes act)
takes-heeded act = record { differs = λ e. cc }

-- An answer isn't to ignore what was heard.
answers-heeded : (request : Message) → IsHeeded (Answers request)
answers-heeded request = record { differs = λ e. cc }

-- The verdict of a write without a fault isn't to ignore it.
write-heeded : (config : Config) (words : Words) (page : ℕ) (message : Message) → IsHeeded (write_verdict config words page message)
write-heeded config words page message = go (act_in (message_code message) (output_in page message) (written_word message)) where
  go : (act : Option Act)
      → IsHeeded (option_map_or (λ act. act_verdict config.count (word_at words Protect) message act) act (Refuses UnsupportedCode))
  go None = refuses-heeded UnsupportedCode
  go (Some act) =
      IsHeeded-cond _ _ _ (refuses-heeded BadPage)
      (IsHeeded-cond _ _ _ (refuses-heeded Protected) (IsHeeded-cond _ _ _ (refuses-heeded UnsupportedData) (takes-heeded act)))

-- The verdict of a request without a fault isn't to ignore it.
read-heeded : (config : Config) (message : Message) → IsHeeded (read_verdict config message)
read-heeded config (ReadCommand code) = answers-heeded (ReadCommand code)
read-heeded config (PagePlusRead page code) = IsHeeded-cond _ _ _ (answers-heeded (PagePlusRead page code)) (refuses-heeded BadPage)
read-heeded config (ReadCoefficients code side) =
    IsHeeded-cond _ _ _ (answers-heeded (ReadCoefficients code side)) (refuses-heeded UnsupportedData)
read-heeded config (SendByte code) = refuses-heeded UnsupportedCode
read-heeded config (WriteByte code byte) = refuses-heeded UnsupportedCode
read-heeded config (WriteWord code word) = refuses-heeded UnsupportedCode
read-heeded config (PagePlusWrite page code payload) = refuses-heeded UnsupportedCode

-- The verdict isn't to ignore what was heard where the fault isn't F1.
unless-heeded : (fault : Option FrameFault) (verdict : Verdict) → IsOther fault → IsHeeded verdict → IsHeeded (unless_faulty fault verdict)
unless-heeded None verdict other heeded = heeded
unless-heeded (Some frame.NotOurs) verdict other heeded = absurd (other.differs refl)
unless-heeded (Some (frame.Short place)) verdict other heeded = refuses-heeded _
unless-heeded (Some (frame.Long place)) verdict other heeded = refuses-heeded _
unless-heeded (Some (frame.WrongCount place)) verdict other heeded = refuses-heeded _
unless-heeded (Some (frame.WrongPec place)) verdict other heeded = refuses-heeded _
unless-heeded (Some (frame.UnknownCode place)) verdict other heeded = refuses-heeded _
unless-heeded (Some (frame.WrongDirection place)) verdict other heeded = refuses-heeded _
unless-heeded (Some (frame.Nested place)) verdict other heeded = refuses-heeded _

-- Another verdict than to ignore what was heard isn't met with silence.
heeded-heard : (held : Held) (verdict : Verdict) → IsHeeded verdict → reply_to held verdict ≡ Silent → ⊥
heeded-heard held Ignores heeded e = heeded.differs refl
heeded-heard held (Refuses fault) heeded e = cc
heeded-heard held (Takes act) heeded e = cc
heeded-heard held (Answers request) heeded e = cc

-- Bytes for this device aren't met with silence.
own-heard : (held : Held) (bytes : List ℕ) (ending : Ending) → is_for_other held.config.addr bytes ≡ false
    → reply_of held bytes ending ≡ Silent → ⊥
unfolding reply_of verdict_of
own-heard held bytes Stop own =
    heeded-heard held _ (unless-heeded _ _ (write-other held.config.addr bytes own)
    (write-heeded held.config held.words held.page (message_in bytes)))
own-heard held bytes Restart own =
    heeded-heard held _ (unless-heeded _ _ (request-other held.config.addr bytes own) (read-heeded held.config (message_in bytes)))

-- Bytes that are met with silence are for another device.
pub silent-other : (held : Held) (bytes : List ℕ) (ending : Ending) → reply_of held bytes ending ≡ Silent
    → is_for_other held.config.addr bytes ≡ true
silent-other held bytes ending silent = go (is_for_other held.config.addr bytes) refl where
  go : (b : Bool) → is_for_other held.config.addr bytes ≡ b → b ≡ true
  go true e = refl
  go false own = absurd (own-heard held bytes ending own silent)
