-- The formats that a host learns are the converter's, and stay until a learn or a restart.
use Rattle.std.specs.Result.{result_ok}
use Rattle.std.specs.List.{list_any, range_with_len}
use Rattle.std.specs.Option.{option_or, option_map_or}
use Rattle.std.specs.Prelude.{bytes_eq, nat_lt, slice_index_or, Result, slice_index, option_to_list, IsSomeAnd}
use Rattle.std.proofs.{lemmas.List.FromFn.get_or-map-range_with_len, lemmas.Simd.map-map, lemmas.Slice.Eq.bytes_eq-Decides}
use Rattle.std.proofs.Common.{◌≡◌, ℕ, zero, suc, ◌^◌, ◌<◌, true, not, cond, ◌&&◌, ◌||◌, List, [], ◌∷◌, map, take, length, get_or, Option}
use Rattle.std.proofs.Common.{Some, None, Ok, is_none, option_map, refl, sym, ◌∙◌, ap, subst, inl, inr, arith, Bool, false, Err, unwrap_or}
use Rattle.std.proofs.Common.{option_and_then, ◌+◌, ltb, ap₂, ◌⊎◌, ◌++◌, is_some, IsSome, ◌≢◌, eqb, set, replicate, ℤ}
use Rattle.std.proofs.lemmas.Bool.{and_parts, or_cases, or_left, or_right, ltb-true, lt-ltb, true≢false, false≢true, or_parts, cases_eq}
use Rattle.std.proofs.lemmas.Bool.{cases_lt}
use Rattle.std.proofs.lemmas.List.{get_or-set_same, get_or-set_other, get_or-replicate, get_or_past}
use Rattle.std.proofs.lemmas.Option.{none-some, same_Some}
use Rattle.pm_num.specs.{NearestWord.nearest_word, Ratio.micros}
use Rattle.pm_num.specs.AnyFormat.{Shape, InLinear11, InUlinear16, shape_value, shape_rank}
use Rattle.pm_table.specs.{Commands.line_of, Format.shape_in, VoutMode.mode_of, declared.cell.Cell.Cell}
use Rattle.pm_table.specs.{declared.coefficients.Coefficients.Coefficients as AnyCoefficients, declared.fault.TableFault.TableFault}
use Rattle.pm_table.specs.{declared.reg.Reg.Reg, declared.vout_mode.VoutMode.VoutMode}
use Rattle.pm_table.specs.Cell.{cell_accepts, IsCell, register_code, output_of}
use Rattle.pm_table.specs.Codes as command
use Rattle.pm_table.specs.Coefficients.{coefficients_of, coefficient_bytes}
use Rattle.pm_table.specs.declared.cell.Cell.TheVariants.{Out, Protect}
use Rattle.pm_table.specs.declared.vout_mode.VoutMode.TheVariants.{Direct, Linear}
use Rattle.pm_frame.specs.{Betrayal.is_betrayed, View.answer_payload, declared.fault.FrameFault.FrameFault}
use Rattle.pm_frame.specs.{declared.message.Message.Message}
use Rattle.pm_frame.specs.Fault.{answer_fault, whole_answer}
use Rattle.pm_frame.specs.Layout.{IsRequest, IsAnswer, is_read_message, fits_layout, answered, answer_length, has_count, sent, with_pec}
use Rattle.pm_model.specs.Settings.{word_at}
use Rattle.pm_device.specs.{Laws.AnswersWith, declared.config.Config.Config, declared.converter.Ending.Ending}
use Rattle.pm_device.specs.{declared.converter.Heard.Heard, declared.output_start.OutputStart.OutputStart}
use Rattle.pm_device.specs.Held.{Held, mode_for, shape_for, shape_made, value_for}
use Rattle.pm_device.specs.Reply.{register_bytes, reply_of, payload_for}
use Rattle.pm_device.specs.Start.{is_direct, IsSound, has_direct, register_start, start_with_words, start_word}
use Rattle.pm_device.specs.declared.converter.Ending.TheVariants.{Stop, Restart}
use Rattle.pm_device.specs.declared.converter.Heard.TheVariants.{Silent, Taken, Answer, Refused}
use Rattle.pm_host.specs.{Jobs.accepted_job, Lemmas.writes_cell, Refusals.may_come, Told.is_of_frame, declared.command.Command.Command}
use Rattle.pm_host.specs.{declared.command.Command.TheVariants.RestoreUserAll, declared.job.Job.Job, declared.job.JobEnd.JobEnd}
use Rattle.pm_host.specs.{declared.question.Question.Question, declared.stage.Stage.Stage}
use Rattle.pm_host.specs.Answers.{good_payload, word_in, good_word}
use Rattle.pm_host.specs.Ended.{job_in, stage_job, StepTells, EndTells}
use Rattle.pm_host.specs.Frames.{reads_coefficients, reads_mode}
use Rattle.pm_host.specs.Marks.{read_by, Good}
use Rattle.pm_host.specs.Messages.{mode_read, coefficients_read, cell_read}
use Rattle.pm_host.specs.Now.{host_now, job_stage, stage_of, AreTold}
use Rattle.pm_host.specs.Question.{question_message, IsQuestion}
use Rattle.pm_host.specs.Sound.{IsStage, IsSound as IsSoundHost}
use Rattle.pm_host.specs.Summary.{Summary, stage_message, host_next, step_by, format_at, Change, begins as summary_begins, finished}
use Rattle.pm_host.specs.Summary.{request_answered as summary_answered, answer_taken, read_back, learned, mode_taken}
use Rattle.pm_host.specs.Summary.{question_answered as asks_again, another}
use Rattle.pm_host.specs.Summary.{sends, ends, goes_on_at, writes, idle, marked, no_formats}
use Rattle.pm_host.specs.Transcript as host
use Rattle.pm_host.specs.declared.job.JobEnd.TheVariants as job_end
use Rattle.pm_host.specs.declared.job.JobEnd.TheVariants.{Done, Differs, Unknown, Learned}
use Rattle.pm_host.specs.declared.question.Question.TheVariants.{Mode, Coefficients, Word}
use Rattle.pm_host.specs.declared.stage.Stage.TheVariants.{Asks, Writes, Reads, Sends}
use Rattle.pm_world.specs.{Below.Below, Ended.begins_other, Job.asked_by, Possible.restarts_host, declared.event.Arrival.Arrival}
use Rattle.pm_world.specs.{declared.event.Back.Back, declared.event.Event.Event, declared.event.Event.TheVariants.OrderMicro}
use Rattle.pm_world.specs.Honest.{IsSpelled, FormatsAgree, OrdersNearest, MicrosAreNearest}
use Rattle.pm_world.specs.Legal.{frame_of, heard_bytes, heard_ending, is_restart, is_legal_return, is_heard_whole, answer_in, back_bytes}
use Rattle.pm_world.specs.Lemmas.{entries-more, now-config}
use Rattle.pm_world.specs.Life.{life, now, state_of}
use Rattle.pm_world.specs.Setup.{setup_of, world_start}
use Rattle.pm_world.specs.State.{State, hearing_cause, return_cause, exchange_cause, answer_to, rule, Share, asked, share_of, tells}
use Rattle.pm_world.specs.State.{exchanged, host_after, next, event_cause, no_share}
use Rattle.pm_world.specs.Uncertainty.{Choice, IsLike, start_with, witness_start}
use Rattle.pm_world.specs.declared.cause.Cause.TheVariants.{WrongKind, NotBetrayed}
use Rattle.pm_world.proofs.Events.{or-none, rule-none, not-false, frame-request, good-answer, asked-next, IsLived, earlier, life-told}
use Rattle.pm_world.proofs.Events.{now-next, IsShare, shares_begins, exchanges, finishes, restarts_host as host_restarts, share-is}
use Rattle.pm_world.proofs.Events.{lived-before, newest, now-nil, now-setup, now-sound, share-entries}

-- The formats that a host learns are the converter's.

-- a good answer has no fault
good-free : (fault : Option FrameFault) (payload found : List ℕ) → cond (is_none fault) (Some found) None ≡ Some payload → fault ≡ None
good-free None payload found h = refl
good-free (Some fault) payload found h = cc

-- the answer of which it is the payload
pub good-faultless : (addr : ℕ) (request : Message) (bytes payload : List ℕ) → good_payload addr request bytes ≡ Some payload →
    answer_fault addr request bytes ≡ None
unfolding good_payload
good-faultless addr request bytes payload h = good-free (answer_fault addr request bytes) payload (answer_payload request bytes) h

-- an ending is a repeated start by the test
restart-is : (ending : Ending) → is_restart ending ≡ true → ending ≡ Restart
restart-is Stop h = cc
restart-is Restart h = refl

-- bytes that are the answer to a request which was heard whole
pub whole-same : (held : Held) (frame heard : List ℕ) (ending : Ending) (bytes : List ℕ) →
    (is_heard_whole frame heard ending && bytes_eq bytes (answer_in (reply_of held heard ending))) ≡ true →
    bytes ≡ answer_in (reply_of held frame Restart)
whole-same held frame heard ending bytes same =
    let answer = answer_in (reply_of held heard ending) in
    let parts = and_parts (is_heard_whole frame heard ending) (bytes_eq bytes answer) same in
    let whole = and_parts (is_restart ending) (bytes_eq heard frame) parts.0 in
    (bytes_eq-Decides bytes answer).0 parts.1
    ∙ (ap (λ e. answer_in (reply_of held heard e)) (restart-is ending whole.0)
    ∙ ap (λ b. answer_in (reply_of held b Restart)) ((bytes_eq-Decides heard frame).0 whole.1))

-- a good answer whose return is legal is the converter's to the whole request
pub legal-good : Below → (held : Held) (addr : ℕ) (request : Message) (heard : List ℕ) (ending : Ending) {bytes : List ℕ} →
    (is_read_message request ≡ true)
    × (is_legal_return (frame_of addr request) (whole_answer request) (is_heard_whole (frame_of addr request) heard ending)
    (answer_in (reply_of held heard ending)) bytes ≡ true) →
    answer_fault addr request bytes ≡ None → bytes ≡ answer_in (reply_of held (frame_of addr request) Restart)
unfolding is_legal_return
legal-good laws held addr request heard ending {bytes = bytes} (reads, legal) free =
    let frame = frame_of addr request in
    let answer = answer_in (reply_of held heard ending) in
    elim (or_cases (is_heard_whole frame heard ending && bytes_eq bytes answer)
    (nat_lt (length bytes) (whole_answer request) || is_betrayed frame bytes) legal) [
      | inl same ↦ whole-same held frame heard ending bytes same
      | inr damaged ↦
          elim (or_cases (nat_lt (length bytes) (whole_answer request)) (is_betrayed frame bytes) damaged) [
            | inl short ↦ absurd (laws.damage_is_refused.answer_short addr request bytes
                (ltb-true (length bytes) (whole_answer request) short) free)
            | inr betrayed ↦ absurd
                (laws.betrayal_is_refused.answer addr request bytes
                (subst (λ f. is_betrayed f bytes ≡ true) (frame-request addr request reads) betrayed) free)
          ]
    ]

-- the return of an exchange that is taken is legal
pub exchange-legal : (s : State) (arrival : Arrival) (back : Back) (request : Message) →
    exchange_cause s arrival back (Some request) ≡ None →
    is_legal_return (frame_of s.host.setup.addr request) (whole_answer request)
    (is_heard_whole (frame_of s.host.setup.addr request) (heard_bytes (frame_of s.host.setup.addr request) arrival)
    (heard_ending request arrival))
    (answer_to s.device s.host.setup.addr request arrival) (back_bytes (answer_to s.device s.host.setup.addr request arrival) back) ≡ true
exchange-legal s arrival back request free =
    let addr = s.host.setup.addr in
    let answer = answer_to s.device addr request arrival in
    let legal = is_legal_return (frame_of addr request) (whole_answer request)
    (is_heard_whole (frame_of addr request) (heard_bytes (frame_of addr request) arrival) (heard_ending request arrival)) answer
    (back_bytes answer back) in
    let past_kind = (or-none (rule (not (is_read_message request)) WrongKind)
    (option_or (hearing_cause addr request arrival) (return_cause s.device addr request arrival back)) free).1 in
    not-false legal (rule-none (not legal) NotBetrayed
    (or-none (hearing_cause addr request arrival) (rule (not legal) NotBetrayed) past_kind).1)

-- what the converter answers is its VOUT_MODE, and its coefficients
is-answer : Below → (held : Held) {addr : ℕ} {request : Message} {payload frame bytes found : List ℕ} → bytes ≡ frame →
    IsAnswer addr request payload frame →
    good_payload addr request bytes ≡ Some found → found ≡ payload
is-answer laws held {addr = addr} {request = request} {payload = payload} {frame = frame} {found = found} same is good =
    same_Some found payload (sym good ∙ (ap (good_payload addr request) same ∙ good-answer laws addr request payload frame is))

-- the frame of a request is one
pub is_request : (addr : ℕ) (request : Message) → is_read_message request ≡ true → fits_layout request ≡ true →
    IsRequest addr request (frame_of addr request)
is_request addr request reads fits = record { reads = reads; fits = fits; spelled = frame-request addr request reads }

-- some output is DIRECT where this one is
pub direct-found : (starts : List OutputStart) (count output : ℕ) → output < count →
    mode_of (get_or (map (λ s. s.mode) starts) output 0) ≡ Ok Direct →
    list_any (λ s. is_direct (mode_of s.mode)) (take count starts) ≡ true
direct-found [] count output below h = cc
direct-found (s ∷ starts) zero output below h = absurd (omega arith)
direct-found (s ∷ starts) (suc count) zero below h = or_left (is_direct (mode_of s.mode)) _ (ap is_direct h)
direct-found (s ∷ starts) (suc count) (suc output) below h =
    or_right (is_direct (mode_of s.mode)) _ (direct-found starts count output (omega arith) h)

-- what a payload says of a format is true of the converter
abbrev pub SaysTrue : Config → Question → List ℕ → Type 0
SaysTrue config (Mode output) payload = word_in payload ≡ mode_for config output
SaysTrue config (Coefficients output) payload = coefficients_of payload ≡ config.coefficients
SaysTrue config question payload = Unit {0}

-- that of a good answer is
abbrev pub GoodTrue : Config → Question → Option (List ℕ) → Type 0
GoodTrue config question good = (payload : List ℕ) → good ≡ Some payload → SaysTrue config question payload

-- what a learn is told is true of the converter
abbrev pub ToldTrue : Config → ℕ → Option Stage → List ℕ → Type 0
ToldTrue config addr (Some (Asks question tries)) bytes = GoodTrue config question (good_payload addr (question_message question) bytes)
ToldTrue config addr stage bytes = Unit {0}

-- coefficients are asked for where VOUT_MODE is DIRECT
abbrev pub AsksFor : Config → Question → Type 0
AsksFor config (Coefficients output) = mode_of (mode_for config output) ≡ Ok Direct
AsksFor config question = Unit {0}

-- at each stage
abbrev pub AsksSo : Config → Option Stage → Type 0
AsksSo config (Some (Asks question tries)) = AsksFor config question
AsksSo config stage = Unit {0}

-- the known formats are the converter's
abbrev pub Agree : Config → List (Option Shape) → Type 0
Agree config formats = (output : ℕ) (shape : Shape) → slice_index_or formats output None ≡ Some shape → shape ≡ shape_for config output

pub record IsTrueHost (config : Config) (s : Summary) : Type 0 where
  pub formats : Agree config s.formats
  pub asks : AsksSo config s.stage

-- some payload, where its word is some
pub from_some : {A B : Type 0} (f : A → B) (o : Option A) (b : B) → option_map f o ≡ Some b → (a : A) × (o ≡ Some a) × (f a ≡ b)
from_some f None b h = absurd (none-some b h)
from_some f (Some a) b h = (a, refl, same_Some (f a) b h)

-- a byte of VOUT_MODE is the word of its payload
mode_word : (n : ℕ) → n < 2 ^ 8 → word_in (register_bytes command.vout_mode n) ≡ n
unfolding line_of
mode_word n below = omega arith

-- a good answer to the read of VOUT_MODE is the converter's byte
pub mode-true : Below → (held : Held) (output : ℕ) {bytes payload : List ℕ} → IsSpelled held.config →
    (output < 8) × (output < held.config.count) → fits_layout (mode_read output) ≡ true →
    (good_payload held.config.addr (mode_read output) bytes ≡ Some payload →
    bytes ≡ answer_in (reply_of held (frame_of held.config.addr (mode_read output)) Restart)) →
    good_payload held.config.addr (mode_read output) bytes ≡ Some payload → word_in payload ≡ mode_for held.config output
mode-true laws held output spelled (eight, below) fits same good =
    let addr = held.config.addr in
    let request = is_request addr (mode_read output) refl fits in
    let found = laws.reads_are_answered.mode held output (frame_of addr (mode_read output)) request below in
    let is = is-answer laws held (same good ∙ ap answer_in found.1) found.2 good in
    ap word_in is ∙ mode_word (mode_for held.config output) (spelled.modes output eight)

-- a good answer to the read of COEFFICIENTS is the converter's
pub coefficients-true : Below → (held : Held) (setup : host.Setup) (output : ℕ) {bytes payload : List ℕ} →
    IsSpelled held.config → (output < held.config.count) × (mode_of (mode_for held.config output) ≡ Ok Direct) →
    (good_payload held.config.addr coefficients_read bytes ≡ Some payload →
    bytes ≡ answer_in (reply_of held (frame_of held.config.addr coefficients_read) Restart)) →
    good_payload held.config.addr coefficients_read bytes ≡ Some payload → coefficients_of payload ≡ held.config.coefficients
coefficients-true laws held setup output spelled (below, direct) same good =
    let addr = held.config.addr in
    let request = is_request addr coefficients_read refl (laws.frames_are_named.fits setup coefficients_read reads_coefficients) in
    let found = laws.reads_are_answered.coefficients held (frame_of addr coefficients_read) request
    (direct-found held.config.starts held.config.count output below direct) in
    let is = is-answer laws held (same good ∙ ap answer_in found.1) found.2 good in
    ap coefficients_of is ∙ spelled.coefficients

-- The start of the retelling: each output's cells have the words that are due, in the same formats.

-- what is read of each output's start
each-start : (config : Config) (words : Choice) (read : OutputStart → ℕ) (output : ℕ) → output < 8 →
    slice_index (map read (witness_start config words).starts) output ≡ read (start_with config words output)
each-start config words read output below =
    ap (λ l. slice_index l output) (map-map read (start_with config words) (range_with_len 0 8))
    ∙ get_or-map-range_with_len (λ o. read (start_with config words o)) 0 8 output output 0 below (omega arith)

-- its words
register-of : (mode : ℕ) (word : Reg → ℕ) (register : Reg) → register_start register (start_with_words mode word) ≡ word register
register-of mode word register = grind arith

-- are those that are given
pub witness-word : (config : Config) (words : Choice) (output : ℕ) (register : Reg) → output < 8 →
    start_word (witness_start config words) (Out output register) ≡ words (Out output register)
witness-word config words output register below =
    each-start config words (register_start register) output below
    ∙ register-of (mode_for config output) (λ r. words (Out output r)) register

-- the modes stay, and so do the formats
witness-mode : (config : Config) (words : Choice) (output : ℕ) → output < 8 →
    mode_for (witness_start config words) output ≡ mode_for config output
witness-mode config words output below = each-start config words (λ start. start.mode) output below

-- the format of an output
witness-made : (config : Config) (words : Choice) (output : ℕ) → output < 8 →
    shape_made (witness_start config words) output ≡ shape_made config output
witness-made config words output below =
    ap (λ m. option_and_then (λ mode. result_ok (shape_in mode config.coefficients)) (result_ok (mode_of m)))
    (witness-mode config words output below)

-- the format of what stands for a configuration
witness-shape : (config : Config) (words : Choice) (output : ℕ) → output < 8 →
    shape_for (witness_start config words) output ≡ shape_for config output
unfolding shape_for
witness-shape config words output below = ap (λ o. unwrap_or o InLinear11) (witness-made config words output below)

-- what stands for a configuration is like it
pub witness-like : (config : Config) (words : Choice) → IsSound config → IsLike config (witness_start config words)
witness-like config words sound = record {
  addr = refl;
  count = refl;
  shapes = λ output below. witness-shape config words output (let few = sound.few in omega arith);
}

-- it is sound where each word is one that its cell accepts
pub witness-sound : (config : Config) (words : Choice) → IsSound config →
    ((output : ℕ) (register : Reg) → output < config.count → cell_accepts (Out output register) (words (Out output register)) ≡ true) →
    IsSound (witness_start config words)
witness-sound config words sound accepted = record {
  some = sound.some;
  few = sound.few;
  address = sound.address;
  starts = starts;
  formats = λ output below.
      let inside : output < 8 = (let few = sound.few in omega arith) in
      witness-made config words output inside
      ∙ (sound.formats output below ∙ ap (λ (s : Shape). Some s) (sym (witness-shape config words output inside)));
}
  where
    starts : (cell : Cell) → IsCell config.count cell → cell_accepts cell (start_word (witness_start config words) cell) ≡ true
    starts (Out output register) below =
        ap (cell_accepts (Out output register)) (witness-word config words output register (let few = sound.few in omega arith))
        ∙ accepted output register below
    starts Protect there = refl

-- two configurations whose converters answer alike where their words do
pub record IsKin (config other : Config) : Type 0 where
  pub addr : other.addr ≡ config.addr
  pub count : other.count ≡ config.count
  pub modes : (output : ℕ) → output < config.count → mode_for other output ≡ mode_for config output
  pub coefficients : other.coefficients ≡ config.coefficients
  pub direct : has_direct other ≡ has_direct config

-- a mode that is that of DIRECT
direct-is : (mode : Result VoutMode TableFault) → is_direct mode ≡ true → mode ≡ Ok Direct
direct-is (Ok Direct) h = refl
direct-is (Ok (Linear exponent)) h = cc
direct-is (Err fault) h = cc

-- an output is DIRECT if the test of all finds one
direct-at : (starts : List OutputStart) (count : ℕ) → list_any (λ s. is_direct (mode_of s.mode)) (take count starts) ≡ true →
    (output : ℕ) × (output < count) × (mode_of (get_or (map (λ s. s.mode) starts) output 0) ≡ Ok Direct)
direct-at starts zero h = cc
direct-at [] (suc count) h = cc
direct-at (s ∷ starts) (suc count) h =
    elim (or_cases (is_direct (mode_of s.mode)) (list_any (λ s. is_direct (mode_of s.mode)) (take count starts)) h) [
      | inl here ↦ (zero, omega arith, direct-is (mode_of s.mode) here)
      | inr later ↦ (let found = direct-at starts count later in (suc found.0, (let below = found.1 in omega arith), found.2))
    ]

-- a configuration has a DIRECT output if another one with its count and modes has one
direct-too : (config other : Config) → other.count ≡ config.count →
    ((output : ℕ) → output < config.count → mode_for other output ≡ mode_for config output) →
    has_direct config ≡ true → has_direct other ≡ true
direct-too config other count modes h =
    let found = direct-at config.starts config.count h in
    let below : found.0 < other.count = (let inside = found.1 in omega arith) in
    direct-found other.starts other.count found.0 below (ap mode_of (modes found.0 found.1) ∙ found.2)

-- two tests that follow from one another are one
both-ways : (a b : Bool) → (a ≡ true → b ≡ true) → (b ≡ true → a ≡ true) → b ≡ a
both-ways true b to from = to refl
both-ways false true to from = sym (from refl)
both-ways false false to from = refl

-- the retelling's converter answers alike
pub witness-kin : (config : Config) (words : Choice) → IsSound config → IsKin config (witness_start config words)
witness-kin config words sound =
    let modes : (output : ℕ) → output < config.count → mode_for (witness_start config words) output ≡ mode_for config output =
    λ output below. witness-mode config words output (let few = sound.few in omega arith) in
    record {
      addr = refl;
      count = refl;
      modes = modes;
      coefficients = refl;
      direct = both-ways (has_direct config) (has_direct (witness_start config words))
          (direct-too config (witness_start config words) refl modes)
          (direct-too (witness_start config words) config refl (λ output below. sym (modes output below)));
    }

-- What two converters answer to one request, and what bytes may come back that are no good answer.

-- the cell that an open job reads
abbrev pub stage_cell : Option Stage → Option Cell
stage_cell (Some (Reads cell word pass)) = Some cell
stage_cell (Some (Asks (Word cell) tries)) = Some cell
stage_cell stage = None

-- is the one that the marks go by
pub stage_cell-is : (setup : host.Setup) (entries : List host.Entry) →
    stage_cell (host_now setup entries).stage ≡ read_by (host.open_job setup entries) (host.told_since entries)
unfolding host_now stage_of
stage_cell-is setup entries = go (host.open_job setup entries) where
  by_turn : (b : Bool) (cell : Cell) (word n : ℕ) →
      stage_cell (Some (cond b (Writes cell word n) (Reads cell word n))) ≡ cond b None (Some cell)
  by_turn true cell word n = refl
  by_turn false cell word n = refl

  by_mode : (b : Bool) (output m n : ℕ) → stage_cell (Some (cond b (Asks (Coefficients output) m) (Asks (Mode output) n))) ≡ None
  by_mode true output m n = refl
  by_mode false output m n = refl

  go : (job : Option host.Job) →
      stage_cell (option_map (λ j. job_stage setup j (host.told_since entries)) job) ≡ read_by job (host.told_since entries)
  go None = refl
  go (Some (host.Order cell word)) = by_turn _ cell word _
  go (Some (host.Check cell)) = refl
  go (Some (host.Learn output)) = by_mode _ output _ _
  go (Some (host.Send sent)) = refl

-- two answers to a request with the same payload, of the same address
same-answers : (s t : Held) (bytes : List ℕ) {request : Message} {payload other : List ℕ} → t.config.addr ≡ s.config.addr →
    other ≡ payload → AnswersWith s bytes request payload → AnswersWith t bytes request other →
    answer_in (reply_of t bytes Restart) ≡ answer_in (reply_of s bytes Restart)
same-answers s t bytes {request = request} addr same one two =
    ap answer_in two.1
    ∙ (two.2.spelled
    ∙ (ap₂ (λ a p. with_pec (sent a request) (answered a request p)) addr same
    ∙ (sym one.2.spelled ∙ sym (ap answer_in one.1))))

-- to the read of a cell
cell-answers : Below → (s t : Held) (cell : Cell) → IsKin s.config t.config → IsCell s.config.count cell →
    fits_layout (cell_read cell) ≡ true → word_at t.words cell ≡ word_at s.words cell →
    answer_in (reply_of t (frame_of s.config.addr (cell_read cell)) Restart)
    ≡ answer_in (reply_of s (frame_of s.config.addr (cell_read cell)) Restart)
cell-answers laws s t (Out output register) kin there fits same =
    let request = cell_read (Out output register) in
    let frame = frame_of s.config.addr request in
    let asked = is_request s.config.addr request refl fits in
    let code = laws.registers_are_in_the_table.found register output in
    same-answers s t frame kin.addr (ap (register_bytes (register_code register)) same)
    (laws.reads_are_answered.cell s output (register_code register) (Out output register) frame asked there code)
    (laws.reads_are_answered.cell t output (register_code register) (Out output register) frame
    (subst (λ a. IsRequest a request frame) (sym kin.addr) asked) (subst (λ n. output < n) (sym kin.count) there) code)
cell-answers laws s t Protect kin there fits same =
    let request = cell_read Protect in
    let frame = frame_of s.config.addr request in
    let asked = is_request s.config.addr request refl fits in
    same-answers s t frame kin.addr (ap (register_bytes command.write_protect) same) (laws.reads_are_answered.protect s frame asked)
    (laws.reads_are_answered.protect t frame (subst (λ a. IsRequest a request frame) (sym kin.addr) asked))

-- to the read of VOUT_MODE
mode-answers : Below → (s t : Held) (output : ℕ) → IsKin s.config t.config → output < s.config.count →
    fits_layout (mode_read output) ≡ true →
    answer_in (reply_of t (frame_of s.config.addr (mode_read output)) Restart)
    ≡ answer_in (reply_of s (frame_of s.config.addr (mode_read output)) Restart)
mode-answers laws s t output kin there fits =
    let request = mode_read output in
    let frame = frame_of s.config.addr request in
    let asked = is_request s.config.addr request refl fits in
    same-answers s t frame kin.addr (ap (register_bytes command.vout_mode) (kin.modes output there))
    (laws.reads_are_answered.mode s output frame asked there)
    (laws.reads_are_answered.mode t output frame (subst (λ a. IsRequest a request frame) (sym kin.addr) asked)
    (subst (λ n. output < n) (sym kin.count) there))

-- to the read of COEFFICIENTS
coefficients-answers : Below → (s t : Held) → IsKin s.config t.config → fits_layout coefficients_read ≡ true →
    answer_in (reply_of t (frame_of s.config.addr coefficients_read) Restart)
    ≡ answer_in (reply_of s (frame_of s.config.addr coefficients_read) Restart)
coefficients-answers laws s t kin fits = go (has_direct s.config) refl where
  frame : List ℕ
  frame = frame_of s.config.addr coefficients_read

  asked : IsRequest s.config.addr coefficients_read (frame_of s.config.addr coefficients_read)
  asked = is_request s.config.addr coefficients_read refl fits

  also : IsRequest t.config.addr coefficients_read (frame_of s.config.addr coefficients_read)
  also = subst (λ a. IsRequest a coefficients_read (frame_of s.config.addr coefficients_read)) (sym kin.addr) asked

  go : (b : Bool) → has_direct s.config ≡ b →
      answer_in (reply_of t (frame_of s.config.addr coefficients_read) Restart)
      ≡ answer_in (reply_of s (frame_of s.config.addr coefficients_read) Restart)
  go true e = same-answers s t frame kin.addr (ap coefficient_bytes kin.coefficients)
      (laws.reads_are_answered.coefficients s frame asked e) (laws.reads_are_answered.coefficients t frame also (kin.direct ∙ e))
  go false e = ap answer_in (laws.reads_are_answered.no_coefficients t frame also (kin.direct ∙ e))
      ∙ sym (ap answer_in (laws.reads_are_answered.no_coefficients s frame asked e))

-- a request that an open job sends
pub record IsReading (h : Summary) (s : Held) (stage : Stage) : Type 0 where
  pub outputs : h.setup.outputs ≡ s.config.count
  pub is : IsStage h (Some stage)
  pub reads : is_read_message (stage_message stage) ≡ true
  pub fits : fits_layout (stage_message stage) ≡ true

-- both answer it alike, where the word of the cell that is read is the same
pub stage-answers : Below → {h : Summary} (s t : Held) (stage : Stage) → IsKin s.config t.config → IsReading h s stage →
    ((read : Cell) → stage_cell (Some stage) ≡ Some read → word_at t.words read ≡ word_at s.words read) →
    answer_in (reply_of t (frame_of s.config.addr (stage_message stage)) Restart)
    ≡ answer_in (reply_of s (frame_of s.config.addr (stage_message stage)) Restart)
stage-answers laws s t (Writes cell word pass) kin asks same = absurd (true≢false (sym asks.reads ∙ writes_cell cell word))
stage-answers laws s t (Reads cell word pass) kin asks same =
    cell-answers laws s t cell kin (subst (λ n. IsCell n cell) asks.outputs asks.is.there) asks.fits (same cell refl)
stage-answers laws s t (Asks (Word cell) tries) kin asks same =
    cell-answers laws s t cell kin (subst (λ n. IsCell n cell) asks.outputs asks.is.there) asks.fits (same cell refl)
stage-answers laws s t (Asks (Mode output) tries) kin asks same =
    mode-answers laws s t output kin (subst (λ n. output < n) asks.outputs asks.is.there) asks.fits
stage-answers laws s t (Asks (Coefficients output) tries) kin asks same = coefficients-answers laws s t kin asks.fits
stage-answers laws s t (Sends RestoreUserAll tries) kin asks same = absurd (true≢false (sym asks.reads))
stage-answers laws s t (Sends sent tries) kin asks same = absurd (true≢false (sym asks.reads))

-- an answer has some bytes
some-bytes : (b : Bool) (n : ℕ) → ltb 0 (cond b 3 2 + n) ≡ true
some-bytes true n = lt-ltb 0 (3 + n) (omega arith)
some-bytes false n = lt-ltb 0 (2 + n) (omega arith)

-- the bytes are too few, or their packet error code betrays them
abbrev pub is_lost : ℕ → Message → List ℕ → Bool
is_lost addr request bytes = nat_lt (length bytes) (whole_answer request) || is_betrayed (frame_of addr request) bytes

-- no bytes are lost ones
none-lost : (addr : ℕ) (request : Message) (bytes : List ℕ) → bytes ≡ [] → is_lost addr request bytes ≡ true
none-lost addr request bytes e =
    or_left (nat_lt (length bytes) (whole_answer request)) _
    (ap (λ (b : List ℕ). nat_lt (length b) (whole_answer request)) e ∙ some-bytes (has_count request) (answer_length request))

-- What comes back by a legal return, and is no good answer, is lost: a converter answers a request that it hears
-- whole with a good answer, or with no bytes.
pub lost-by : Below → (held : Held) (request : Message) (heard : List ℕ) (ending : Ending) (bytes : List ℕ) →
    (is_read_message request ≡ true) × (fits_layout request ≡ true)
    × (is_legal_return (frame_of held.config.addr request) (whole_answer request)
    (is_heard_whole (frame_of held.config.addr request) heard ending) (answer_in (reply_of held heard ending)) bytes ≡ true) →
    good_payload held.config.addr request bytes ≡ None → is_lost held.config.addr request bytes ≡ true
unfolding is_legal_return
lost-by laws held request heard ending bytes (reads, fits, legal) bad =
    elim (or_cases (is_heard_whole frame heard ending && bytes_eq bytes (answer_in (reply_of held heard ending)))
    (is_lost held.config.addr request bytes) legal) [
      | inl same ↦ go (reply_of held frame Restart) refl (whole-same held frame heard ending bytes same)
      | inr lost ↦ lost
    ]
  where
    frame : List ℕ
    frame = frame_of held.config.addr request

    asked : IsRequest held.config.addr request (frame_of held.config.addr request)
    asked = is_request held.config.addr request reads fits

    go : (reply : Heard) → reply_of held (frame_of held.config.addr request) Restart ≡ reply → bytes ≡ answer_in reply →
        is_lost held.config.addr request bytes ≡ true
    go Silent e same = none-lost held.config.addr request bytes same
    go Taken e same = none-lost held.config.addr request bytes same
    go (Refused fault) e same = none-lost held.config.addr request bytes same
    go (Answer answer) e same =
        let found = laws.reads_are_answered.answer held (frame_of held.config.addr request) answer.items e in
        let one = laws.requests_are_exact.one held.config.addr found.0 request (frame_of held.config.addr request) found.1 asked in
        let is = subst (λ m. IsAnswer held.config.addr m (payload_for held found.0) answer.items) one found.2 in
        absurd (none-some (payload_for held found.0)
        (sym bad ∙ (ap (good_payload held.config.addr request) same
        ∙ good-answer laws held.config.addr request (payload_for held found.0) answer.items is)))

-- What the host is told while no other job begins, and how the last job stands.

-- a test that holds of no element of two lists together holds of none of either
pub any-parts : {X : Type 0} (test : X → Bool) (xs ys : List X) → list_any test (xs ++ ys) ≡ false →
    (list_any test xs ≡ false) × (list_any test ys ≡ false)
any-parts test [] ys h = (refl, h)
any-parts test (x ∷ xs) ys h =
    let parts = or_parts (test x) (list_any test (xs ++ ys)) h in
    let rest = any-parts test xs ys parts.1 in
    (ap (λ b. b || list_any test xs) parts.0 ∙ rest.0, rest.1)

-- the host is told what came of a frame, or nothing
abbrev pub TellsFrame : Option host.Entry → Type 0
TellsFrame None = Unit {0}
TellsFrame (Some entry) = is_of_frame entry ≡ true

-- an event that asks for a job begins another one
asks-other : (s : State) (event : Event) (job : host.Job) → asked s event ≡ Some job → begins_other event ≡ false → ⊥
asks-other s event job is alone = go (asked_by event) is (or_parts (is_some (asked_by event)) (restarts_host event) alone).0 where
  go : (o : Option Job) → option_and_then (accepted_job s.host) o ≡ Some job → is_some o ≡ false → ⊥
  go None e h = cc
  go (Some one) e h = cc

-- an event that begins no other job tells the host what came of a frame, or nothing
pub beside-tells : (s : State) (event : Event) → begins_other event ≡ false → TellsFrame (share_of s event).told
beside-tells s event alone = by (share-is s event) alone where
  by : {event : Event} {share : Share} → IsShare s event share → begins_other event ≡ false → TellsFrame share.told
  by (shares_begins event job is) alone = absurd (asks-other s event job is alone)
  by (finishes acked) alone = refl
  by (exchanges arrival back message is) alone = refl
  by host_restarts alone = cc
  by share alone = tt

-- an event that asks the host for nothing, and doesn't restart it, tells the host what came of a frame, or nothing
pub beside-frame : (s : State) (event : Event) → asked s event ≡ None → restarts_host event ≡ false → TellsFrame (share_of s event).told
beside-frame s event none stays = by (share-is s event) none stays where
  by : {event : Event} {share : Share} → IsShare s event share → asked s event ≡ None → restarts_host event ≡ false → TellsFrame share.told
  by (shares_begins event job is) none stays = absurd (none-some job (sym none ∙ is))
  by (finishes acked) none stays = refl
  by (exchanges arrival back message is) none stays = refl
  by host_restarts none stays = cc
  by share none stays = tt

-- a job's end is none while it is open
pub open-end : (setup : host.Setup) (entries : List host.Entry) → IsSome (host.open_job setup entries) → host.last_job_end setup entries
    ≡ None
unfolding host.open_job
open-end setup entries some = go (host.last_job_end setup entries) some where
  go : (end : Option JobEnd) → IsSome (cond (is_none end) (host.last_job entries) None) → end ≡ None
  go None some = refl
  go (Some end) some = cc

-- a job is open while the end of a frame, or what came back for it, may be told
comes-open : (stage : Option Stage) (test : Message → Bool) → option_map_or test (option_map stage_message stage) false ≡ true →
    IsSome (option_map stage_job stage)
comes-open None test h = absurd (false≢true h)
comes-open (Some stage) test h = refl

-- a job is open while an entry of a frame may come
frame-open : (s : Summary) (entry : host.Entry) → may_come s entry ≡ true → is_of_frame entry ≡ true → IsSome (job_in s)
frame-open s (host.Finished acked) comes frame = comes-open s.stage (λ message. not (is_read_message message)) comes
frame-open s (host.Got bytes) comes frame = comes-open s.stage is_read_message comes
frame-open s (host.Accepted job) comes frame = absurd (false≢true frame)
frame-open s host.Restarted comes frame = absurd (false≢true frame)

-- What an event says that tells the host what came of a frame: until then the job was open, and the call told of it.
pub record Frame (config : Config) (passes : ℕ) (before : List Event) (event : Event) (entry : host.Entry) : Type 0 where
  pub open' : IsSome (job_in (now config passes before).host)
  pub going : (now config passes before).end ≡ None
  pub tells : StepTells (now config passes before).host entry (step_by (now config passes (event ∷ before)).end)
      (now config passes (event ∷ before)).host

-- an event of a life that tells the host what came of a frame does so as `Frame` says
pub by-frame : Below → (config : Config) (passes : ℕ) (before : List Event) (event : Event) (entry : host.Entry) →
    IsLived config passes (event ∷ before) → (share_of (now config passes before) event).told ≡ Some entry → is_of_frame entry ≡ true →
    Frame config passes before event entry
unfolding now state_of
by-frame laws config passes before event entry lived told frame =
    let setup = setup_of config passes in
    let entries = (life config passes before).entries in
    let all : (life config passes (event ∷ before)).entries ≡ entry ∷ entries =
    entries-more config passes before event ∙ ap (λ o. option_to_list o ++ entries) told in
    let came = subst (AreTold setup) all (life-told config passes (event ∷ before) lived.legal) in
    let some = frame-open (host_now setup entries) entry came.0 frame in
    record {
      open' = some;
      going = open-end setup entries (subst IsSome (laws.ends_are_told.job setup entries) some);
      tells = subst (λ es. StepTells (host_now setup entries) entry (step_by (host.last_job_end setup es)) (host_now setup es)) (sym all)
          (laws.ends_are_told.tells setup entries entry lived.made came frame);
    }

-- an event that tells the host nothing leaves it
pub by-silence : (config : Config) (passes : ℕ) (before : List Event) (event : Event) →
    (share_of (now config passes before) event).told ≡ None →
    ((now config passes (event ∷ before)).host ≡ (now config passes before).host)
    × ((now config passes (event ∷ before)).end ≡ (now config passes before).end)
unfolding now state_of
by-silence config passes before event told =
    let setup = setup_of config passes in
    let entries = (life config passes before).entries in
    let all : (life config passes (event ∷ before)).entries ≡ entries =
    entries-more config passes before event ∙ ap (λ o. option_to_list o ++ entries) told in
    (ap (host_now setup) all, ap (host.last_job_end setup) all)

-- a job that begins is open, and leaves the formats
begun-job : (s : Summary) (job : host.Job) → (job_in (host_next s (host.Accepted job)) ≡ Some job)
    × ((host_next s (host.Accepted job)).formats ≡ s.formats)
unfolding host_next
begun-job s (host.Order cell word) = (refl, refl)
begun-job s (host.Check cell) = (refl, refl)
begun-job s (host.Learn output) = (refl, refl)
begun-job s (host.Send command) = (refl, refl)

-- after its acceptance
pub record Begun (config : Config) (passes : ℕ) (before : List Event) (event : Event) (job : host.Job) : Type 0 where
  pub open' : job_in (now config passes (event ∷ before)).host ≡ Some job
  pub formats : (now config passes (event ∷ before)).host.formats ≡ (now config passes before).host.formats
  pub going : (now config passes (event ∷ before)).end ≡ None

-- a job is open in a life after the event that it was accepted by
pub by-acceptance : Below → (config : Config) (passes : ℕ) (before : List Event) (event : Event) (job : host.Job) →
    IsLived config passes (event ∷ before) → asked (now config passes before) event ≡ Some job → Begun config passes before event job
unfolding now state_of
by-acceptance laws config passes before event job lived asks =
    let s = now config passes before in
    let after : (now config passes (event ∷ before)).host ≡ host_next s.host (host.Accepted job) =
    ap (λ (t : State). t.host) (now-next laws config passes before event lived ∙ asked-next s event job asks) in
    let begun = begun-job s.host job in
    let open' : job_in (now config passes (event ∷ before)).host ≡ Some job = ap job_in after ∙ begun.0 in
    record {
      open' = open';
      formats = ap (λ (h : Summary). h.formats) after ∙ begun.1;
      going = open-end (setup_of config passes) (life config passes (event ∷ before)).entries
          (ap is_some (sym (laws.ends_are_told.job (setup_of config passes) (life config passes (event ∷ before)).entries) ∙ open'));
    }

-- a job that is open stays so or is over, and one that is over stays over
abbrev pub IsOrOver : host.Job → Summary → Type 0
IsOrOver job h = (job_in h ≡ Some job) ⊎ (job_in h ≡ None)

-- a job that is open stays so or is over after a frame
frame-job : (job : host.Job) (s new : Summary) (entry : host.Entry) (end : Option JobEnd) → StepTells s entry (step_by end) new →
    IsOrOver job s → IsOrOver job new
frame-job job s new entry (Some end) tells before = inr tells.0
frame-job job s new entry None tells (inl is) = inl (tells.0 ∙ is)
frame-job job s new entry None tells (inr is) = inr (tells.0 ∙ is)

-- a job that is open stays so or is over after any event that begins no other
event-job : Below → (config : Config) (passes : ℕ) (before : List Event) (event : Event) (job : host.Job) →
    IsLived config passes (event ∷ before) → begins_other event ≡ false →
    IsOrOver job (now config passes before).host → IsOrOver job (now config passes (event ∷ before)).host
event-job laws config passes before event job lived alone so_far =
    go _ refl (beside-tells (now config passes before) event alone) where
      go : (told : Option host.Entry) → (share_of (now config passes before) event).told ≡ told → TellsFrame told →
          IsOrOver job (now config passes (event ∷ before)).host
      go None is frame = subst (IsOrOver job) (sym (by-silence config passes before event is).0) so_far
      go (Some entry) is frame =
          frame-job job _ _ entry _ (by-frame laws config passes before event entry lived is frame).tells so_far

-- while no other job begins, the job stays open or is over
pub span-job : Below → (config : Config) (passes : ℕ) (later before : List Event) (event : Event) (job : host.Job) →
    IsLived config passes (later ++ event ∷ before) → asked (now config passes before) event ≡ Some job →
    list_any begins_other later ≡ false → IsOrOver job (now config passes (later ++ event ∷ before)).host
span-job laws config passes [] before event job lived asks alone =
    inl (by-acceptance laws config passes before event job lived asks).open'
span-job laws config passes (newest' ∷ later) before event job lived asks alone =
    let parts = or_parts (begins_other newest') (list_any begins_other later) alone in
    event-job laws config passes (later ++ event ∷ before) newest' job lived parts.0
    (span-job laws config passes later before event job (earlier lived) asks parts.1)

-- A format stays until a learn of its output leaves another, or the host restarts.

-- no end but that of a learn that learned changes a format
ends-keep : (old new : Summary) (entry : host.Entry) (end : Option JobEnd) → StepTells old entry (step_by end) new →
    end ≢ Some Learned → new.formats ≡ old.formats
ends-keep old new entry None tells other = tells.1
ends-keep old new entry (Some end) tells other = go (job_in old) end tells.1 other where
  go : (job : Option host.Job) (end : JobEnd) → IsSomeAnd job (λ j. EndTells j entry end old new) → Some end ≢ Some Learned →
      new.formats ≡ old.formats
  go None end h other = absurd h
  go (Some (host.Order cell word)) end h other = h.1
  go (Some (host.Check cell)) end h other = h.1
  go (Some (host.Send command)) end h other = h.1
  go (Some (host.Learn output)) Learned h other = absurd (other refl)
  go (Some (host.Learn output)) Unknown h other = h.0
  go (Some (host.Learn output)) Done h other = absurd h
  go (Some (host.Learn output)) (Differs read) h other = absurd h

-- an end that there isn't
pub none-other : {X : Type 0} {x : X} (o : Option X) → o ≡ None → o ≢ Some x
none-other o is some = cc

-- over an event that begins no other job, where the last one has no such end
kept-once : Below → (config : Config) (passes : ℕ) (before : List Event) (event : Event) (formats : List (Option Shape)) →
    IsLived config passes (event ∷ before) → begins_other event ≡ false → (now config passes (event ∷ before)).end ≢ Some Learned →
    ((now config passes before).end ≢ Some Learned → (now config passes before).host.formats ≡ formats) →
    (now config passes (event ∷ before)).host.formats ≡ formats
kept-once laws config passes before event formats lived alone other so_far =
    go _ refl (beside-tells (now config passes before) event alone) where
      go : (told : Option host.Entry) → (share_of (now config passes before) event).told ≡ told → TellsFrame told →
          (now config passes (event ∷ before)).host.formats ≡ formats
      go None is frame =
          let same = by-silence config passes before event is in
          ap (λ (h : Summary). h.formats) same.0 ∙ so_far (λ learned. other (same.1 ∙ learned))
      go (Some entry) is frame =
          let told = by-frame laws config passes before event entry lived is frame in
          ends-keep _ _ entry _ told.tells other ∙ so_far (none-other (now config passes before).end told.going)

-- formats stay while no other job begins
pub formats-kept : Below → (config : Config) (passes : ℕ) (later before : List Event) (event : Event) (job : host.Job) →
    IsLived config passes (later ++ event ∷ before) → asked (now config passes before) event ≡ Some job →
    list_any begins_other later ≡ false → (now config passes (later ++ event ∷ before)).end ≢ Some Learned →
    (now config passes (later ++ event ∷ before)).host.formats ≡ (now config passes before).host.formats
formats-kept laws config passes [] before event job lived asks alone other =
    (by-acceptance laws config passes before event job lived asks).formats
formats-kept laws config passes (newest' ∷ later) before event job lived asks alone other =
    let parts = or_parts (begins_other newest') (list_any begins_other later) alone in
    kept-once laws config passes (later ++ event ∷ before) newest' (now config passes before).host.formats lived parts.0 other
    (λ otherwise. formats-kept laws config passes later before event job (earlier lived) asks parts.1 otherwise)

-- a learn that learned has left a format
ends-leave : (old new : Summary) (entry : host.Entry) (output : ℕ) → StepTells old entry (step_by (Some Learned)) new →
    job_in old ≡ Some (host.Learn output) → IsSome (format_at new output)
ends-leave old new entry output tells is =
    let learn = subst (λ o. IsSomeAnd o (λ j. EndTells j entry Learned old new)) is tells.1 in learn.0

-- the job that is open is that one
pub open-is : (job : host.Job) (open' : Option host.Job) → IsSome open' → (open' ≡ Some job) ⊎ (open' ≡ None) → open' ≡ Some job
open-is job open' some (inl is) = is
open-is job open' some (inr is) = cc

-- after an event that begins no other job
left-once : Below → (config : Config) (passes : ℕ) (before : List Event) (event : Event) (output : ℕ) →
    IsLived config passes (event ∷ before) → begins_other event ≡ false → (now config passes (event ∷ before)).end ≡ Some Learned →
    IsOrOver (host.Learn output) (now config passes before).host →
    ((now config passes before).end ≡ Some Learned → IsSome (format_at (now config passes before).host output)) →
    IsSome (format_at (now config passes (event ∷ before)).host output)
left-once laws config passes before event output lived alone ended job so_far =
    go _ refl (beside-tells (now config passes before) event alone) where
      go : (told : Option host.Entry) → (share_of (now config passes before) event).told ≡ told → TellsFrame told →
          IsSome (format_at (now config passes (event ∷ before)).host output)
      go None is frame =
          let same = by-silence config passes before event is in
          subst (λ (h : Summary). IsSome (format_at h output)) (sym same.0) (so_far (sym same.1 ∙ ended))
      go (Some entry) is frame =
          let told = by-frame laws config passes before event entry lived is frame in
          ends-leave _ _ entry output
          (subst (λ end. StepTells (now config passes before).host entry (step_by end) (now config passes (event ∷ before)).host) ended
          told.tells)
          (open-is (host.Learn output) _ told.open' job)

-- a format that was left stays while no other job begins
pub format-left : Below → (config : Config) (passes : ℕ) (later before : List Event) (event : Event) (output : ℕ) →
    IsLived config passes (later ++ event ∷ before) → asked (now config passes before) event ≡ Some (host.Learn output) →
    list_any begins_other later ≡ false → (now config passes (later ++ event ∷ before)).end ≡ Some Learned →
    IsSome (format_at (now config passes (later ++ event ∷ before)).host output)
format-left laws config passes [] before event output lived asks alone ended =
    absurd (none-other (now config passes (event ∷ before)).end
    (by-acceptance laws config passes before event (host.Learn output) lived asks).going ended)
format-left laws config passes (newest' ∷ later) before event output lived asks alone ended =
    let parts = or_parts (begins_other newest') (list_any begins_other later) alone in
    left-once laws config passes (later ++ event ∷ before) newest' output lived parts.0 ended
    (span-job laws config passes later before event (host.Learn output) (earlier lived) asks parts.1)
    (λ is. format-left laws config passes later before event output (earlier lived) asks parts.1 is)

-- the end of any job leaves a format that is there
ends-stay : (old new : Summary) (entry : host.Entry) (end : Option JobEnd) (output : ℕ) → StepTells old entry (step_by end) new →
    IsSome (format_at old output) → IsSome (format_at new output)
ends-stay old new entry end output tells there = by_end end tells where
  same : new.formats ≡ old.formats → IsSome (format_at new output)
  same is = subst (λ fs. IsSome (get_or fs output None)) (sym is) there

  by_job : (job : Option host.Job) → IsSomeAnd job (λ j. EndTells j entry Learned old new) → IsSome (format_at new output)
  by_job None h = absurd h
  by_job (Some (host.Order cell word)) h = same h.1
  by_job (Some (host.Check cell)) h = same h.1
  by_job (Some (host.Send command)) h = same h.1
  by_job (Some (host.Learn other)) h = elim (cases_eq output other) [
    | inl is ↦ subst (λ o. IsSome (format_at new o)) (sym is) h.0
    | inr apart ↦ subst IsSome (sym (h.1 output apart)) there
  ]

  by_end : (end : Option JobEnd) → StepTells old entry (step_by end) new → IsSome (format_at new output)
  by_end None tells = same tells.1
  by_end (Some Learned) tells = by_job (job_in old) tells.1
  by_end (Some Done) tells = same (ends-keep old new entry (Some Done) tells (λ e. cc))
  by_end (Some (Differs read)) tells = same (ends-keep old new entry (Some (Differs read)) tells (λ e. cc))
  by_end (Some Unknown) tells = same (ends-keep old new entry (Some Unknown) tells (λ e. cc))

-- a format that is there stays over one event, and until the host restarts
stays-once : Below → (config : Config) (passes : ℕ) (before : List Event) (event : Event) (output : ℕ) →
    IsLived config passes (event ∷ before) → restarts_host event ≡ false → IsSome (format_at (now config passes before).host output) →
    IsSome (format_at (now config passes (event ∷ before)).host output)
stays-once laws config passes before event output lived stays there = by_job (asked (now config passes before) event) refl where
  by_job : (job : Option host.Job) → asked (now config passes before) event ≡ job →
      IsSome (format_at (now config passes (event ∷ before)).host output)
  by_job (Some job) is = subst (λ fs. IsSome (get_or fs output None))
      (sym (by-acceptance laws config passes before event job lived is).formats) there
  by_job None is = by_told _ refl (beside-frame (now config passes before) event is stays) where
    by_told : (told : Option host.Entry) → (share_of (now config passes before) event).told ≡ told → TellsFrame told →
        IsSome (format_at (now config passes (event ∷ before)).host output)
    by_told None told frame =
        subst (λ (h : Summary). IsSome (format_at h output)) (sym (by-silence config passes before event told).0) there
    by_told (Some entry) told frame =
        ends-stay _ _ entry _ output (by-frame laws config passes before event entry lived told frame).tells there

-- over any number of them
pub format-stays : Below → (config : Config) (passes : ℕ) (newer before : List Event) (output : ℕ) →
    IsLived config passes (newer ++ before) → list_any restarts_host newer ≡ false →
    IsSome (format_at (now config passes before).host output) → IsSome (format_at (now config passes (newer ++ before)).host output)
format-stays laws config passes [] before output lived stays there = there
format-stays laws config passes (event ∷ newer) before output lived stays there =
    let parts = or_parts (restarts_host event) (list_any restarts_host newer) stays in
    stays-once laws config passes (newer ++ before) event output lived parts.0
    (format-stays laws config passes newer before output (earlier lived) parts.1 there)

-- a format that is there and can be no other is that one
some-agrees : (format : Option Shape) (shape : Shape) → IsSome format → ((found : Shape) → format ≡ Some found → found ≡ shape) →
    format ≡ Some shape
some-agrees None shape some agrees = cc
some-agrees (Some found) shape some agrees = ap Some (agrees found refl)

-- what a learn left is there until the host restarts
pub format-ended : Below → (config : Config) (passes : ℕ) (newer later before : List Event) (event : Event) (output : ℕ) →
    IsLived config passes (newer ++ (later ++ event ∷ before)) →
    asked (now config passes before) event ≡ Some (host.Learn output) → list_any begins_other later ≡ false →
    (now config passes (later ++ event ∷ before)).end ≡ Some Learned → list_any restarts_host newer ≡ false →
    ((found : Shape) → format_at (now config passes (newer ++ (later ++ event ∷ before))).host output ≡ Some found →
    found ≡ shape_for config output) →
    format_at (now config passes (newer ++ (later ++ event ∷ before))).host output ≡ Some (shape_for config output)
format-ended laws config passes newer later before event output lived asks alone ended stays agrees =
    some-agrees _ (shape_for config output)
    (format-stays laws config passes newer (later ++ event ∷ before) output lived stays
    (format-left laws config passes later before event output (lived-before config passes newer (later ++ event ∷ before) lived)
    asks alone ended)) agrees

-- A host whose known formats are the converter's, event by event.

-- one more format
agree-set : (config : Config) (formats : List (Option Shape)) (output : ℕ) (shape : Shape) → Agree config formats →
    output < length formats → shape ≡ shape_for config output → Agree config (set formats output (Some shape))
agree-set config formats output shape agree inside is other found h =
    elim (cases_eq other output) [
      | inl e ↦
          let at : get_or (set formats output (Some shape)) other None ≡ Some shape =
          ap (λ k. get_or (set formats output (Some shape)) k None) e ∙ get_or-set_same formats output (Some shape) None inside in
          same_Some found shape (sym h ∙ at) ∙ (is ∙ ap (shape_for config) (sym e))
      | inr apart ↦ agree other found (sym (get_or-set_other formats output other (Some shape) None apart) ∙ h)
    ]

-- no format
pub agree-none : (config : Config) → Agree config no_formats
unfolding no_formats
agree-none config other found h =
    elim (cases_lt other 8) [
      | inl inside ↦ absurd (none-some found (sym (get_or-replicate {A = Option Shape} 8 other None None inside) ∙ h))
      | inr past ↦ absurd (none-some found (sym (get_or_past {X = Option Shape} (replicate 8 None) other None past) ∙ h))
    ]

-- either of two changes
either : (config : Config) (b : Bool) (t u : Change) → IsTrueHost config t.after → IsTrueHost config u.after →
    IsTrueHost config (cond b t u).after
either config true t u p q = p
either config false t u p q = q

-- another try
another-true : (config : Config) (s : Summary) (question : Question) (tries : ℕ) → Agree config s.formats → AsksFor config question →
    IsTrueHost config (another s question tries).after
another-true config s question tries agree asks =
    either config (eqb (tries + 1) s.setup.passes) (ends s job_end.Unknown) (goes_on_at s (Asks question (tries + 1)))
    (record { formats = agree; asks = tt }) (record { formats = agree; asks = asks })

-- an order that read its cell back
read_back-true : (config : Config) (s : Summary) (cell : Cell) (word pass : ℕ) (read : Option ℕ) → Agree config s.formats →
    IsTrueHost config (read_back s cell word pass read).after
read_back-true config s cell word pass None agree =
    either config (eqb (pass + 1) s.setup.passes) (ends s job_end.Unknown) (writes s cell word (pass + 1))
    (record { formats = agree; asks = tt }) (record { formats = agree; asks = tt })
read_back-true config s cell word pass (Some read) agree =
    let after = marked s (Good cell read) in
    either config (eqb read word) (ends after job_end.Done)
    (cond (eqb (pass + 1) s.setup.passes) (ends after (job_end.Differs read)) (writes after cell word (pass + 1)))
    (record { formats = agree; asks = tt })
    (either config (eqb (pass + 1) s.setup.passes) (ends after (job_end.Differs read)) (writes after cell word (pass + 1))
    (record { formats = agree; asks = tt }) (record { formats = agree; asks = tt }))

-- a learn that ends
learned-true : (config : Config) (s : Summary) (output : ℕ) (shape : Option Shape) → Agree config s.formats → output < length s.formats →
    ((found : Shape) → shape ≡ Some found → found ≡ shape_for config output) → IsTrueHost config (learned s output shape).after
learned-true config s output None agree inside is = record { formats = agree; asks = tt }
learned-true config s output (Some shape) agree inside is =
    record { formats = agree-set config s.formats output shape agree inside (is shape refl); asks = tt }

-- the format that a mode and the coefficients make
pub mode-shape : (config : Config) (output : ℕ) (mode : VoutMode) (shape : Shape) →
    shape_made config output ≡ Some (shape_for config output) → mode_of (mode_for config output) ≡ Ok mode →
    result_ok (shape_in mode config.coefficients) ≡ Some shape → shape ≡ shape_for config output
mode-shape config output mode shape made is found =
    same_Some shape (shape_for config output)
    (sym found ∙ (ap (λ m. option_and_then (λ (v : VoutMode). result_ok (shape_in v config.coefficients)) (result_ok m)) (sym is) ∙ made))

-- a learn that read VOUT_MODE
mode_taken-true : (config : Config) (s : Summary) (output : ℕ) (mode : Result VoutMode TableFault) → Agree config s.formats →
    output < length s.formats →
    shape_made config output ≡ Some (shape_for config output) → mode_of (mode_for config output) ≡ mode →
    IsTrueHost config (mode_taken s output mode).after
mode_taken-true config s output (Err fault) agree inside made is =
    learned-true config s output None agree inside (λ found h. absurd (none-some found h))
mode_taken-true config s output (Ok (Linear exponent)) agree inside made is =
    learned-true config s output (Some (InUlinear16 exponent)) agree inside
    (λ found h. mode-shape config output (Linear exponent) found made is h)
mode_taken-true config s output (Ok Direct) agree inside made is = record { formats = agree; asks = is }

-- a good answer
answer-true : (config : Config) (s : Summary) (question : Question) (payload : List ℕ) → IsSound config × (length s.formats ≡ 8) →
    Agree config s.formats → AsksFor config question × IsQuestion config.count question → SaysTrue config question payload →
    IsTrueHost config (answer_taken s question payload).after
answer-true config s (Word cell) payload sized agree asks says = record { formats = agree; asks = tt }
answer-true config s (Mode output) payload (sound, long) agree (asks, inside) says =
    mode_taken-true config s output (mode_of (word_in payload)) agree (let few = sound.few in omega arith) (sound.formats output inside)
    (ap mode_of (sym says))
answer-true config s (Coefficients output) payload (sound, long) agree (direct, inside) says =
    learned-true config s output (result_ok (shape_in Direct (coefficients_of payload))) agree (let few = sound.few in omega arith)
    (λ found h. mode-shape config output Direct found (sound.formats output inside) direct
    (ap (λ (c : AnyCoefficients). result_ok (shape_in Direct c)) (sym says) ∙ h))

-- well or not
asked-true : (config : Config) (s : Summary) (question : Question) (tries : ℕ) (good : Option (List ℕ)) →
    (IsSound config × (length s.formats ≡ 8)) × Agree config s.formats → AsksFor config question × IsQuestion config.count question →
    GoodTrue config question good → IsTrueHost config (asks_again s question tries good).after
asked-true config s question tries None (sized, agree) (asks, inside) told = another-true config s question tries agree asks
asked-true config s question tries (Some payload) (sized, agree) asks told =
    answer-true config s question payload sized agree asks (told payload refl)

-- what is asked for is there
abbrev Inside : ℕ → Option Stage → Type 0
Inside count (Some (Asks question tries)) = IsQuestion count question
Inside count stage = Unit {0}

-- what a sound host asks for is there, by its stage
stage-inside : (s : Summary) (stage : Option Stage) → IsStage s stage → Inside s.setup.outputs stage
stage-inside s (Some (Asks question tries)) is = is.there
stage-inside s stage is = tt

-- an entry
answered-true : (config : Config) (s : Summary) (stage : Option Stage) (bytes : List ℕ) → IsSound config × (length s.formats ≡ 8) →
    Agree config s.formats → AsksSo config stage × Inside config.count stage →
    ToldTrue config s.setup.addr stage bytes → IsTrueHost config (summary_answered s stage bytes).after
answered-true config s (Some (Reads cell word pass)) bytes sized agree asks told =
    read_back-true config s cell word pass (good_word s.setup.addr cell bytes) agree
answered-true config s (Some (Asks question tries)) bytes sized agree asks told =
    asked-true config s question tries (good_payload s.setup.addr (question_message question) bytes) (sized, agree) asks told
answered-true config s stage bytes sized agree asks told = record { formats = agree; asks = tt }

-- a command that begins to be sent
sends-true : (config : Config) (s : Summary) (sent : Command) (tries : ℕ) → Agree config s.formats →
    IsTrueHost config (sends s sent tries).after
sends-true config s RestoreUserAll tries agree = record { formats = agree; asks = tt }
sends-true config s sent tries agree = record { formats = agree; asks = tt }

-- the end of a write
finished-true : (config : Config) (s : Summary) (stage : Option Stage) (acked : Bool) → Agree config s.formats → AsksSo config stage →
    IsTrueHost config (finished s stage acked).after
finished-true config s (Some (Asks question tries)) acked agree asks = record { formats = agree; asks = asks }
finished-true config s (Some (Sends sent tries)) acked agree asks =
    let last = eqb (tries + 1) s.setup.passes in
    either config acked (ends s job_end.Done) (cond last (ends s job_end.Unknown) (sends s sent (tries + 1)))
    (record { formats = agree; asks = tt })
    (either config last (ends s job_end.Unknown) (sends s sent (tries + 1)) (record { formats = agree; asks = tt })
    (sends-true config s sent (tries + 1) agree))
finished-true config s stage acked agree asks = record { formats = agree; asks = tt }

-- a job that begins
begins-true : (config : Config) (s : Summary) (job : host.Job) → Agree config s.formats → IsTrueHost config (summary_begins s job).after
begins-true config s (host.Order cell word) agree = record { formats = agree; asks = tt }
begins-true config s (host.Send sent) agree = sends-true config s sent 0 agree
begins-true config s job agree = record { formats = agree; asks = tt }

-- what holds of a world throughout
pub record Stands (s : State) : Type 0 where
  pub addr : s.host.setup.addr ≡ s.device.config.addr
  pub outputs : s.host.setup.outputs ≡ s.device.config.count
  pub sound : IsSound s.device.config
  pub host : IsSoundHost s.host
  pub spelled : IsSpelled s.device.config

-- what comes back of a request that is sent
pub record ComesBack (s : State) (arrival : Arrival) (back : Back) (request : Message) (bytes : List ℕ) : Type 0 where
  pub addr : s.host.setup.addr ≡ s.device.config.addr
  pub reads : is_read_message request ≡ true
  pub free : exchange_cause s arrival back (Some request) ≡ None
  pub is : bytes ≡ back_bytes (answer_to s.device s.host.setup.addr request arrival) back

-- a good answer that is legal is the converter's to the whole request
pub good-same : Below → (s : State) (arrival : Arrival) (back : Back) (request : Message) (bytes : List ℕ) {payload : List ℕ} →
    ComesBack s arrival back request bytes →
    good_payload s.device.config.addr request bytes ≡ Some payload →
    bytes ≡ answer_in (reply_of s.device (frame_of s.device.config.addr request) Restart)
good-same laws s arrival back request bytes {payload = payload} came good =
    let a = s.host.setup.addr in
    came.is
    ∙ (legal-good laws s.device a request (heard_bytes (frame_of a request) arrival) (heard_ending request arrival)
    (came.reads, exchange-legal s arrival back request came.free)
    (good-faultless a request _ payload
    (subst (λ b. good_payload a request b ≡ Some payload) came.is (ap (λ x. good_payload x request bytes) came.addr ∙ good)))
    ∙ ap (λ x. answer_in (reply_of s.device (frame_of x request) Restart)) came.addr)

-- what a good answer to a question says is true
question-true : Below → {s : State} (arrival : Arrival) (back : Back) (question : Question) → Stands s →
    AsksFor s.device.config question → IsQuestion s.device.config.count question →
    exchange_cause s arrival back (Some (question_message question)) ≡ None →
    GoodTrue s.device.config question (good_payload s.device.config.addr (question_message question)
    (back_bytes (answer_to s.device s.host.setup.addr (question_message question) arrival) back))
question-true laws arrival back (Word cell) stands asks inside free = λ payload good. tt
question-true laws {s = s} arrival back (Mode output) stands asks inside free = λ payload good.
    mode-true laws s.device output stands.spelled (let few = stands.sound.few in omega arith, inside)
    (laws.frames_are_named.fits s.host.setup (mode_read output) (reads_mode output (subst (λ n. output < n) (sym stands.outputs) inside)))
    (good-same laws s arrival back (mode_read output) _ (record { addr = stands.addr; reads = refl; free = free; is = refl })) good
question-true laws {s = s} arrival back (Coefficients output) stands asks inside free = λ payload good.
    coefficients-true laws s.device s.host.setup output stands.spelled (inside, asks)
    (good-same laws s arrival back coefficients_read _ (record { addr = stands.addr; reads = refl; free = free; is = refl })) good

-- what a stage is told is true
told-true : Below → {s : State} (arrival : Arrival) (back : Back) (stage : Stage) → Stands s → AsksSo s.device.config (Some stage) →
    Inside s.device.config.count (Some stage) →
    exchange_cause s arrival back (Some (stage_message stage)) ≡ None →
    ToldTrue s.device.config s.device.config.addr (Some stage)
    (back_bytes (answer_to s.device s.host.setup.addr (stage_message stage) arrival) back)
told-true laws arrival back (Asks question tries) stands asks inside free = question-true laws arrival back question stands asks inside free
told-true laws arrival back stage stands asks inside free = tt

-- an exchange
exchange-true : Below → {s : State} (arrival : Arrival) (back : Back) (stage : Option Stage) → Stands s →
    IsTrueHost s.device.config s.host → s.host.stage ≡ stage →
    exchange_cause s arrival back (option_map stage_message stage) ≡ None →
    IsTrueHost s.device.config (host_after s.host (exchanged s arrival back (option_map stage_message stage)).told)
unfolding host_next
exchange-true laws arrival back None stands is e free = cc
exchange-true laws {s = s} arrival back (Some stage) stands is e free =
    let inside : Inside s.device.config.count (Some stage) =
    subst (λ (o : Option Stage). Inside s.device.config.count o) e
    (subst (λ n. Inside n s.host.stage) stands.outputs (stage-inside s.host s.host.stage stands.host.stage)) in
    let asks : AsksSo s.device.config (Some stage) = subst (AsksSo s.device.config) e is.asks in
    let bytes = back_bytes (answer_to s.device s.host.setup.addr (stage_message stage) arrival) back in
    let told = told-true laws arrival back stage stands asks inside free in
    subst (λ (o : Option Stage). IsTrueHost s.device.config (summary_answered (idle s.host) o bytes).after) (sym e)
    (answered-true s.device.config (idle s.host) (Some stage) bytes (stands.sound, stands.host.formats) is.formats (asks, inside)
    (subst (λ a. ToldTrue s.device.config a (Some stage) bytes) (sym stands.addr) told))

-- any event
pub next-true : Below → (s : State) (event : Event) → Stands s → IsTrueHost s.device.config s.host → event_cause s event ≡ None →
    IsTrueHost s.device.config (next s event).host
unfolding next host_next
next-true laws s event stands is free = by (share-is s event) free where
  by : {event : Event} {share : Share} → IsShare s event share → event_cause s event ≡ None →
      IsTrueHost s.device.config (host_after s.host share.told)
  by (shares_begins event job asks) free = begins-true s.device.config s.host job is.formats
  by (finishes acked) free = finished-true s.device.config (idle s.host) s.host.stage acked is.formats is.asks
  by (exchanges arrival back message sends) free =
      subst (λ o. IsTrueHost s.device.config (host_after s.host (exchanged s arrival back o).told)) sends
      (exchange-true laws arrival back s.host.stage stands is refl free)
  by host_restarts free = record { formats = agree-none s.device.config; asks = tt }
  by share free = is

-- The formats that a host learns in a life.

-- what holds of a world throughout holds after each life
stands : Below → (config : Config) (passes : ℕ) (events : List Event) → IsLived config passes events → IsSpelled config →
    Stands (now config passes events)
stands laws config passes events lived spelled =
    let same = sym (now-config config passes events) in
    let setup = now-setup config passes events in
    record {
      addr = ap (λ (u : host.Setup). u.addr) setup ∙ ap (λ (k : Config). k.addr) same;
      outputs = ap (λ (u : host.Setup). u.outputs) setup ∙ ap (λ (k : Config). k.count) same;
      sound = subst IsSound same lived.sound;
      host = now-sound laws config passes events lived;
      spelled = subst IsSpelled same spelled;
    }

-- no format is known at the start
true-start : (config : Config) (passes : ℕ) → IsTrueHost config (world_start config passes).host
unfolding world_start
true-start config passes = record { formats = agree-none config; asks = tt }

-- the known formats are true after each life
pub true-host : Below → (config : Config) (passes : ℕ) (events : List Event) → IsLived config passes events → IsSpelled config →
    IsTrueHost config (now config passes events).host
true-host laws config passes [] lived spelled =
    subst (λ (s : State). IsTrueHost config s.host) (sym (now-nil laws config passes lived.made)) (true-start config passes)
true-host laws config passes (event ∷ before) lived spelled =
    let s = now config passes before in
    let same = sym (now-config config passes before) in
    let so_far = true-host laws config passes before (earlier lived) spelled in
    subst (λ (t : State). IsTrueHost config t.host) (sym (now-next laws config passes before event lived))
    (subst (λ (k : Config). IsTrueHost k (next s event).host) (sym same)
    (next-true laws s event (stands laws config passes before (earlier lived) spelled)
    (subst (λ (k : Config). IsTrueHost k s.host) same so_far) (newest lived)))

-- the promise on formats
pub formats-agree : Below → (config : Config) (passes : ℕ) (events : List Event) → IsLived config passes events → IsSpelled config →
    FormatsAgree config passes events
unfolding now state_of
formats-agree laws config passes events lived spelled = record {
  held = (true-host laws config passes events lived spelled).formats;
  learned = λ output shape there found. laws.transcripts_are_followed.format (setup_of config passes) (life config passes events).entries
      output (let few = lived.sound.few in omega arith) ∙ found;
  ended = λ newer later before event output is asks alone ended stays.
      subst (λ es. format_at (now config passes es).host output ≡ Some (shape_for config output)) (sym is)
      (format-ended laws config passes newer later before event output (subst (IsLived config passes) is lived) asks alone ended stays
      (subst (λ es. (shape : Shape) → format_at (now config passes es).host output ≡ Some shape → shape ≡ shape_for config output) is
      ((true-host laws config passes events lived spelled).formats output)));
  kept = λ newer later before event job output is asks alone other.
      ap (λ fs. get_or fs output None)
      (formats-kept laws config passes later before event job
      (lived-before config passes newer (later ++ event ∷ before) (subst (IsLived config passes) is lived)) asks alone other);
}

-- the word of an order in microvolts
some-of : (o : Option ℕ) → IsSome o → (word : ℕ) × (o ≡ Some word)
some-of None h = cc
some-of (Some word) h = (word, refl)

-- the nearest word in a format that is the converter's
nearest-found : (config : Config) (output : ℕ) (x : ℤ) (format : Option Shape) →
    ((shape : Shape) → format ≡ Some shape → shape ≡ shape_for config output) →
    IsSome (option_and_then (λ shape. nearest_word (shape_value shape) (shape_rank shape) (micros x)) format) →
    (word : ℕ) × (option_and_then (λ shape. nearest_word (shape_value shape) (shape_rank shape) (micros x)) format ≡ Some word)
    × (nearest_word (value_for config output) (shape_rank (shape_for config output)) (micros x) ≡ Some word)
nearest-found config output x None agree some = cc
nearest-found config output x (Some shape) agree some =
    let found = some-of (nearest_word (shape_value shape) (shape_rank shape) (micros x)) some in (
      found.0,
      found.1,
      subst (λ (t : Shape). nearest_word (shape_value t) (shape_rank t) (micros x) ≡ Some found.0) (agree shape refl)
          found.1,
    )

-- one order in microvolts
orders-nearest : Below → (config : Config) (passes : ℕ) (before : List Event) (cell : Cell) (x : ℤ) →
    IsLived config passes (OrderMicro cell x ∷ before) → IsSpelled config → OrdersNearest config passes cell x before
orders-nearest laws config passes before cell x lived spelled =
    let s = now config passes before in
    let found = nearest-found config (output_of cell) x (format_at s.host (output_of cell))
    (λ shape h. (true-host laws config passes before (earlier lived) spelled).formats (output_of cell) shape h) lived.legal.0.word in
    record {
      word = found.0;
      nearest = found.2;
      ordered = share-entries config passes before (OrderMicro cell x) (Some (host.Accepted (host.Order cell found.0)))
          (ap (λ (w : Option ℕ). (option_map_or (λ j. tells (host.Accepted j)) (option_map (λ w. host.Order cell w) w) no_share).told)
          found.1);
    }

-- the promise on orders in microvolts
pub micros-nearest : Below → (config : Config) (passes : ℕ) (events : List Event) → IsLived config passes events → IsSpelled config →
    MicrosAreNearest config passes events
micros-nearest laws config passes events lived spelled = record {
  nearest = λ later before cell x is.
      orders-nearest laws config passes before cell x
      (lived-before config passes later (OrderMicro cell x ∷ before) (subst (IsLived config passes) is lived)) spelled;
}
