-- Converters that have the same settings, whatever their PAGE, their readings and their latched status bits are.
use Rattle.std.proofs.Common.{◌≡◌, ◌⊎◌, inl, inr, ℕ, Bool, true, false, cond, eqb, List, [], ◌∷◌, ◌++◌, length, take, drop, Option, Some}
use Rattle.std.proofs.Common.{None, zero, suc, ◌||◌, ◌&&◌, map}
use Rattle.std.specs.Prelude.{slice_index}
use Rattle.std.specs.List.{list_any}
use Rattle.pm_table.specs.VoutMode.{mode_of}
use Rattle.pm_frame.specs.Layout.{answered, sent, with_pec}
use Rattle.pm_device.specs.declared.converter.Heard.TheVariants.{Answer}
use Rattle.pm_device.specs.declared.output_start.OutputStart.{OutputStart}
use Rattle.pm_device.specs.Start.{is_direct}
use Rattle.std.proofs.Math.Seq.{take-append_seam}
use Rattle.std.proofs.lemmas.List.{append-nil, take-append-drop}
use Rattle.std.proofs.Common.{refl, sym, ◌∙◌, ap, ap₂, option_map, subst}
use Rattle.std.specs.Prelude.{◌≢◌, nat_eq, nat_lt}
use Rattle.std.specs.List.{starts_with}
use Rattle.std.proofs.lemmas.Bool.{or_cases}
use Rattle.std.proofs.lemmas.Bool.Decides.{Decides-eqb}
use Rattle.std.proofs.lemmas.Slice.Eq.{bytes_eq-Decides, starts_is}
use Rattle.pm_table.specs.declared.cell.Cell.{Cell}
use Rattle.pm_table.specs.declared.cell.Cell.TheVariants.{Out, Protect}
use Rattle.pm_table.specs.Codes as command
use Rattle.pm_table.specs.Cell.{cell_at, register_code}
use Rattle.pm_table.specs.declared.reg.Reg.{Reg}
use Rattle.pm_table.specs.declared.reg.Reg.TheVariants.{Operation}
use Rattle.pm_frame.specs.declared.fault.FrameFault.{FrameFault}
use Rattle.pm_frame.specs.declared.fault.FrameFault.TheVariants.{NotOurs}
use Rattle.pm_frame.specs.declared.message.Message.{Message}
use Rattle.pm_frame.specs.Betrayal.{is_betrayed}
use Rattle.pm_frame.specs.Fault.{write_fault, request_fault}
use Rattle.pm_frame.specs.Laws.{BetrayalIsRefused, DamageIsRefused, RequestsAreExact, WritesAreExact}
use Rattle.pm_frame.specs.Layout.{IsRequest, IsWrite, is_read_message}
use Rattle.pm_frame.specs.View.{message_in}
use Rattle.pm_frame.specs.declared.message.Payload.TheVariants.{Empty}
use Rattle.pm_device.specs.declared.config.Config.{Config}
use Rattle.pm_device.specs.declared.converter.Ending.{Ending}
use Rattle.pm_device.specs.declared.converter.Ending.TheVariants.{Stop, Restart}
use Rattle.pm_device.specs.declared.converter.Heard.{Heard}
use Rattle.pm_device.specs.Effect as device
use Rattle.pm_device.specs.Held.{Held}
use Rattle.pm_device.specs.History.{after_outcome, device_next}
use Rattle.pm_device.specs.Laws.{WritesReachOneCell}
use Rattle.pm_device.specs.Reply.{register_bytes, reply_of, reply_to}
use Rattle.pm_device.specs.Verdict.{answers_coefficients, has_coefficients, fault_verdict, read_verdict, unless_faulty, verdict_of}
use Rattle.pm_host.specs.declared.command.Command.{Command}
use Rattle.pm_host.specs.declared.command.Command.TheVariants.{ClearFaults, RestoreUserAll, StoreUserAll}
use Rattle.pm_host.specs.declared.question.Question.TheVariants.{Word, Mode, Coefficients}
use Rattle.pm_host.specs.declared.stage.Stage.{Stage}
use Rattle.pm_host.specs.declared.stage.Stage.TheVariants.{Asks, Reads, Sends, Writes}
use Rattle.pm_host.specs.Messages.{cell_read, cell_write, coefficients_read, command_message, mode_read, register_payload, values_written}
use Rattle.pm_host.specs.Summary.{Summary, sending_in, stage_message}
use Rattle.pm_world.specs.declared.event.Arrival.{Arrival}
use Rattle.pm_world.specs.declared.event.Arrival.TheVariants as arrival
use Rattle.pm_world.specs.declared.event.Back.{Back}
use Rattle.pm_world.specs.Legal.{answer_in, back_bytes, ending_of, heard_bytes, is_heard_whole, is_legal_hearing, is_legal_return}
use Rattle.pm_world.specs.State.{device_after}
use Rattle.pm_part_laws.specs.Alike.{back_of}
use Rattle.pm_part_laws.specs.Settings.{HaveSameSettings, modes_of, moved}

-- the answer of a converter to a request as it arrives
abbrev pub answer_of : Held → List ℕ → Arrival → List ℕ
answer_of held request arrival =
    answer_in (reply_of held (heard_bytes request arrival) (ending_of Restart arrival))

-- the words and the store of what is kept
abbrev pub kept_words_and_store : device.Kept → List ℕ × List ℕ
kept_words_and_store kept = (kept.words, kept.store)

-- what is the same of both makes the same settings
pub settings-of : (one other : Held) → one.config ≡ record other.config { starts = one.config.starts; protect = one.config.protect } →
    modes_of one.config ≡ modes_of other.config → kept_words_and_store (device.kept_in one) ≡ kept_words_and_store (device.kept_in other) →
    HaveSameSettings one other
settings-of one other made modes kept = record {
  same = ap₂ (λ (c : Config) (k : List ℕ × List ℕ). record one { config = c; words = k.0; store = k.1 }) made kept;
  modes = modes;
}

-- some output is DIRECT
any-mode : (n : ℕ) (starts : List OutputStart) → list_any (λ (s : OutputStart). is_direct (mode_of s.mode)) (take n starts)
    ≡ list_any (λ m. is_direct (mode_of m)) (take n (map (λ (s : OutputStart). s.mode) starts))
any-mode zero starts = refl
any-mode (suc n) [] = refl
any-mode (suc n) (s ∷ starts) = ap (λ b. is_direct (mode_of s.mode) || b) (any-mode n starts)

direct-same : (count : ℕ) (one other : List OutputStart) →
    map (λ (s : OutputStart). s.mode) one ≡ map (λ (s : OutputStart). s.mode) other →
    list_any (λ (s : OutputStart). is_direct (mode_of s.mode)) (take count one)
    ≡ list_any (λ (s : OutputStart). is_direct (mode_of s.mode)) (take count other)
direct-same count one other modes = any-mode count one
    ∙ (ap (λ (l : List ℕ). list_any (λ m. is_direct (mode_of m)) (take count l)) modes ∙ sym (any-mode count other))

-- ---- what an event makes of the words and of the store, whatever PAGE is

-- bytes that are a write of a host's to this address
pub record IsOwnWrite (addr : ℕ) (bytes : List ℕ) : Type 0 where
  stage : Stage
  writes : is_read_message (stage_message stage) ≡ false
  is : IsWrite addr (stage_message stage) bytes

-- bytes that a stop ended and that are no write, or are a host's
abbrev pub ArePageless : ℕ → List ℕ → Type 0
ArePageless addr bytes = (write_fault addr bytes ≢ None) ⊎ IsOwnWrite addr bytes

-- what a converter of this address hears is such
abbrev pub IsHeardPageless : ℕ → Option device.Event → Type 0
IsHeardPageless addr (Some (device.Hearing bytes Stop)) = ArePageless addr bytes
IsHeardPageless addr _ = Unit {0}

-- A host's write makes the same of both.
own-after : WritesReachOneCell → (held one : Held) (stage : Stage) (bytes : List ℕ) → is_read_message (stage_message stage) ≡ false →
    IsWrite held.config.addr (stage_message stage) bytes →
    kept_words_and_store (device.kept_after (moved held one) (device.Hearing bytes Stop))
    ≡ kept_words_and_store (device.kept_after held (device.Hearing bytes Stop))
own-after reach held one (Writes (Out output register) word pass) bytes writes is =
    ap kept_words_and_store (reach.carried (moved held one) output (register_code register) (register_payload register word)
    (Out output register) bytes is (found register))
    ∙ sym (ap kept_words_and_store (reach.carried held output (register_code register) (register_payload register word)
    (Out output register) bytes is (found register)))
  where
    found : (r : Reg) → cell_at (register_code r) output ≡ Some (Out output r)
    found Operation = refl
    found register = refl
own-after reach held one (Writes Protect word pass) bytes writes is =
    ap kept_words_and_store (reach.plain (moved held one) word bytes is) ∙ sym (ap kept_words_and_store (reach.plain held word bytes is))
own-after reach held one (Sends (ClearFaults output) tries) bytes writes is =
    ap kept_words_and_store (reach.clears (moved held one) output Empty bytes is)
    ∙ sym (ap kept_words_and_store (reach.clears held output Empty bytes is))
own-after reach held one (Sends StoreUserAll tries) bytes writes is =
    ap kept_words_and_store (reach.stores (moved held one) (command_message StoreUserAll) bytes is refl)
    ∙ sym (ap kept_words_and_store (reach.stores held (command_message StoreUserAll) bytes is refl))
own-after reach held one (Sends RestoreUserAll tries) bytes writes is =
    ap kept_words_and_store (reach.restores (moved held one) (command_message RestoreUserAll) bytes is refl)
    ∙ sym (ap kept_words_and_store (reach.restores held (command_message RestoreUserAll) bytes is refl))
own-after reach held one (Reads (Out output register) word pass) bytes writes is = cc
own-after reach held one (Reads Protect word pass) bytes writes is = cc
own-after reach held one (Asks (Word (Out output register)) tries) bytes writes is = cc
own-after reach held one (Asks (Word Protect) tries) bytes writes is = cc
own-after reach held one (Asks (Mode output) tries) bytes writes is = cc
own-after reach held one (Asks (Coefficients output) tries) bytes writes is = cc

-- what is kept after an event at both
kept-alike : WritesReachOneCell → (held one : Held) (event : device.Event) → IsHeardPageless held.config.addr (Some event) →
    kept_words_and_store (device.kept_after (moved held one) event) ≡ kept_words_and_store (device.kept_after held event)
kept-alike reach held one (device.Hearing bytes Stop) (inl faulty) =
    ap kept_words_and_store (reach.faulty (moved held one) bytes faulty) ∙ sym (ap kept_words_and_store (reach.faulty held bytes faulty))
kept-alike reach held one (device.Hearing bytes Stop) (inr own) = own-after reach held one own.stage bytes own.writes own.is
kept-alike reach held one (device.Hearing bytes Restart) pageless =
    ap kept_words_and_store (reach.request (moved held one) bytes) ∙ sym (ap kept_words_and_store (reach.request held bytes))
kept-alike reach held one device.Restarted pageless = refl
kept-alike reach held one (device.Reading output code word) pageless = refl

-- an event keeps the configuration
next-made : (held one : Held) (event : device.Event) → (device_next (moved held one) event).config
    ≡ record (device_next held event).config {
      starts = (device_next (moved held one) event).config.starts;
      protect = (device_next (moved held one) event).config.protect;
    }
unfolding device_next after_outcome
next-made held one event = refl

next-modes : (held one : Held) (event : device.Event) → modes_of one.config ≡ modes_of held.config →
    modes_of (device_next (moved held one) event).config ≡ modes_of (device_next held event).config
unfolding device_next after_outcome
next-modes held one event modes = modes

-- an event makes the same settings of both
next-same : WritesReachOneCell → (held one : Held) (event : device.Event) → modes_of one.config ≡ modes_of held.config →
    IsHeardPageless held.config.addr (Some event) → HaveSameSettings (device_next (moved held one) event) (device_next held event)
next-same reach held one event modes pageless =
    settings-of (device_next (moved held one) event) (device_next held event) (next-made held one event)
    (next-modes held one event modes)
    (ap kept_words_and_store (reach.kept (moved held one) event)
    ∙ (kept-alike reach held one event pageless ∙ sym (ap kept_words_and_store (reach.kept held event))))

pub after-same : WritesReachOneCell → (one other : Held) (heard : Option device.Event) → IsHeardPageless other.config.addr heard →
    HaveSameSettings one other → HaveSameSettings (device_after one heard) (device_after other heard)
after-same reach one other None pageless same = same
after-same reach one other (Some event) pageless same =
    subst (λ x. HaveSameSettings (device_next x event) (device_next other event)) (sym same.same)
    (next-same reach other one event same.modes pageless)

-- ---- the host's own frames

-- bytes that a frame starts with are that many of its first ones
pub first-bytes : (frame bytes : List ℕ) → starts_with eqb frame bytes ≡ true → take (length bytes) frame ≡ bytes
first-bytes frame bytes starts =
    ap (take (length bytes)) ((starts_is Decides-eqb frame bytes (starts_with eqb frame bytes) refl).0 starts)
    ∙ take-append_seam bytes (drop (length bytes) frame)

-- the write that a host is sending is one of a host's
sent-own : (addr : ℕ) (stage : Option Stage) (message : Message) (frame : List ℕ) → option_map stage_message stage ≡ Some message →
    IsWrite addr message frame → IsOwnWrite addr frame
sent-own addr None message frame sending is = cc
sent-own addr (Some stage) message frame sending is =
    let same : message ≡ stage_message stage = cc in
    let write = subst (λ m. IsWrite addr m frame) same is in
    record { stage = stage; writes = write.writes; is = write }

-- bytes that are cut off a frame, or that are the whole frame
cut-or-whole : (count : ℕ) (frame : List ℕ) → (drop count frame ≡ [] → ⊥) ⊎ (take count frame ≡ frame)
cut-or-whole count frame = go (drop count frame) refl where
  go : (rest : List ℕ) → drop count frame ≡ rest → (drop count frame ≡ [] → ⊥) ⊎ (take count frame ≡ frame)
  go [] at = inr (sym (append-nil (take count frame)) ∙ (ap (λ l. take count frame ++ l) (sym at) ∙ take-append-drop count frame))
  go (byte ∷ rest) at = inl (λ none. let no : byte ∷ rest ≡ [] = sym at ∙ none in cc)

-- A write of the host's that is heard legally is no write, or the host's own whatever PAGE is.
pub write-pageless : WritesAreExact → DamageIsRefused → BetrayalIsRefused → (host : Summary) (message : Message) (frame bytes : List ℕ)
    (ending : Ending) → sending_in host ≡ Some message → IsWrite host.setup.addr message frame →
    is_legal_hearing frame bytes ending ≡ true → IsHeardPageless host.setup.addr (Some (device.Hearing bytes ending))
unfolding is_legal_hearing
write-pageless exact damage betrayal host message frame bytes Restart sending is legal = tt
write-pageless exact damage betrayal host message frame bytes Stop sending is legal =
    go (or_cases (starts_with eqb frame bytes) (is_betrayed [] bytes) legal)
  where
    addr : ℕ
    addr = host.setup.addr

    front-of : (count : ℕ) → (drop count frame ≡ [] → ⊥) ⊎ (take count frame ≡ frame) → ArePageless addr (take count frame)
    front-of count (inl some) = inl (damage.write_cut addr (take count frame) (drop count frame)
        (subst (λ l. write_fault addr l ≡ None) (sym (take-append-drop count frame)) (exact.spelled addr message frame is)) some)
    front-of count (inr whole) = inr (subst (IsOwnWrite addr) (sym whole) (sent-own addr host.stage message frame sending is))

    go : (starts_with eqb frame bytes ≡ true) ⊎ (is_betrayed [] bytes ≡ true) → ArePageless addr bytes
    go (inl front) = subst (ArePageless addr) (first-bytes frame bytes front) (front-of (length bytes) (cut-or-whole (length bytes) frame))
    go (inr wrong) = inl (betrayal.write addr bytes wrong)

-- A request of the host's that is heard legally is no write.
pub request-pageless : RequestsAreExact → DamageIsRefused → BetrayalIsRefused → (addr : ℕ) (message : Message) (request bytes : List ℕ)
    (ending : Ending) → IsRequest addr message request → is_legal_hearing request bytes ending ≡ true →
    IsHeardPageless addr (Some (device.Hearing bytes ending))
unfolding is_legal_hearing
request-pageless exact damage betrayal addr message request bytes Restart is legal = tt
request-pageless exact damage betrayal addr message request bytes Stop is legal =
    go (or_cases (starts_with eqb request bytes) (is_betrayed [] bytes) legal)
  where
    go : (starts_with eqb request bytes ≡ true) ⊎ (is_betrayed [] bytes ≡ true) → ArePageless addr bytes
    go (inl front) = inl (subst (λ l. write_fault addr l ≢ None) (first-bytes request bytes front)
        (damage.request_written addr addr (take (length bytes) request) (drop (length bytes) request)
        (subst (λ l. request_fault addr l ≡ None) (sym (take-append-drop (length bytes) request)) (exact.spelled addr message request is))))
    go (inr wrong) = inl (betrayal.write addr bytes wrong)

-- ---- answers to the host's own requests

-- both answer alike where it isn't with bytes
faulty-alike : (held : Held) (one : Held) (fault : FrameFault) →
    reply_to (moved held one) (fault_verdict fault) ≡ reply_to held (fault_verdict fault)
faulty-alike held one NotOurs = refl
faulty-alike held one fault = refl

-- whichever of two verdicts is chosen makes both answers alike, if each of the two does
either-alike : {V : Type 0} (one other : V → Heard) (b : Bool) (x y : V) → one x ≡ other x → one y ≡ other y →
    one (cond b x y) ≡ other (cond b x y)
either-alike one other true x y first second = first
either-alike one other false x y first second = second

-- no write is a read
no-read : (cell : Cell) (word : ℕ) → is_read_message (cell_write cell word) ≡ true → ⊥
no-read (Out output register) word h = cc
no-read Protect word h = cc

no-sent : (sent : Command) → is_read_message (command_message sent) ≡ true → ⊥
no-sent (ClearFaults output) h = cc
no-sent sent h = cc

-- the read of a cell, whose word is no status
cell-alike : (held : Held) (one : Held) (cell : Cell) →
    reply_to (moved held one) (read_verdict (moved held one).config (cell_read cell))
    ≡ reply_to held (read_verdict held.config (cell_read cell))
cell-alike held one (Out output Operation) =
    either-alike (reply_to (moved held one)) (reply_to held) (nat_lt output held.config.count) _ _ refl refl
cell-alike held one (Out output register) =
    either-alike (reply_to (moved held one)) (reply_to held) (nat_lt output held.config.count) _ _ refl refl
cell-alike held one Protect = refl

-- the read of VOUT_MODE, and of the coefficients
mode-alike : (held one : Held) (output : ℕ) → modes_of one.config ≡ modes_of held.config →
    reply_to (moved held one) (read_verdict (moved held one).config (mode_read output)) ≡ reply_to held (read_verdict held.config (mode_read output))
mode-alike held one output modes =
    either-alike (reply_to (moved held one)) (reply_to held) (nat_lt output held.config.count) _ _
    (ap (λ (l : List ℕ). Answer (record {
      items = with_pec (sent held.config.addr (mode_read output))
          (answered held.config.addr (mode_read output) (register_bytes command.vout_mode (slice_index l output)));
    })) modes) refl

-- whichever of two verdicts is chosen, both are by the same test
either-both : {V : Type 0} (one other : V → Heard) (b c : Bool) (x y : V) → b ≡ c → one x ≡ other x → one y ≡ other y →
    one (cond b x y) ≡ other (cond c x y)
either-both one other b c x y same first second = ap (λ d. one (cond d x y)) same ∙ either-alike one other c x y first second

coefficients-alike : (held one : Held) → modes_of one.config ≡ modes_of held.config →
    reply_to (moved held one) (read_verdict (moved held one).config coefficients_read)
    ≡ reply_to held (read_verdict held.config coefficients_read)
coefficients-alike held one modes =
    either-both (reply_to (moved held one)) (reply_to held)
    (answers_coefficients (moved held one).config command.vout_command values_written)
    (answers_coefficients held.config command.vout_command values_written) _ _
    (ap (λ b. has_coefficients command.vout_command && (nat_eq values_written 0x00 || nat_eq values_written 0x01) && b)
    (direct-same held.config.count one.config.starts held.config.starts modes)) refl refl

-- what a host asks for
stage-alike : (held one : Held) (stage : Stage) → modes_of one.config ≡ modes_of held.config → is_read_message (stage_message stage) ≡ true →
    reply_to (moved held one) (read_verdict (moved held one).config (stage_message stage))
    ≡ reply_to held (read_verdict held.config (stage_message stage))
stage-alike held one (Writes cell word pass) modes reads = absurd (no-read cell word reads)
stage-alike held one (Reads cell word pass) modes reads = cell-alike held one cell
stage-alike held one (Asks (Word cell) tries) modes reads = cell-alike held one cell
stage-alike held one (Asks (Mode output) tries) modes reads = mode-alike held one output modes
stage-alike held one (Asks (Coefficients output) tries) modes reads = coefficients-alike held one modes
stage-alike held one (Sends sent' tries) modes reads = absurd (no-sent sent' reads)

-- a message that a host sends and that reads
own-alike : (held one : Held) (stage : Option Stage) (message : Message) → modes_of one.config ≡ modes_of held.config →
    option_map stage_message stage ≡ Some message → is_read_message message ≡ true →
    reply_to (moved held one) (read_verdict (moved held one).config message) ≡ reply_to held (read_verdict held.config message)
own-alike held one None message modes sending reads = cc
own-alike held one (Some stage) message modes sending reads =
    let same : stage_message stage ≡ message = cc in
    subst (λ m. reply_to (moved held one) (read_verdict (moved held one).config m) ≡ reply_to held (read_verdict held.config m)) same
    (stage-alike held one stage modes (ap is_read_message same ∙ reads))

-- the host's own request is answered alike
reply-alike : RequestsAreExact → (held one : Held) (host : Summary) (message : Message) (request : List ℕ) →
    modes_of one.config ≡ modes_of held.config → sending_in host ≡ Some message → IsRequest host.setup.addr message request →
    reply_of (moved held one) request Restart ≡ reply_of held request Restart
unfolding reply_of verdict_of
reply-alike exact held one host message request modes sending is = go (request_fault held.config.addr request) where
  so : reply_to (moved held one) (read_verdict (moved held one).config (message_in request))
      ≡ reply_to held (read_verdict held.config (message_in request))
  so = subst (λ m. reply_to (moved held one) (read_verdict (moved held one).config m) ≡ reply_to held (read_verdict held.config m))
      (sym (exact.places host.setup.addr message request is)) (own-alike held one host.stage message modes sending is.reads)

  go : (fault : Option FrameFault) →
      reply_to (moved held one) (unless_faulty fault (read_verdict (moved held one).config (message_in request)))
      ≡ reply_to held (unless_faulty fault (read_verdict held.config (message_in request)))
  go (Some fault) = faulty-alike held one fault
  go None = so

-- Converters with the same settings answer a request of the host by the same bytes.
pub own-same : RequestsAreExact → (one other : Held) (host : Summary) (message : Message) (request : List ℕ) → HaveSameSettings one other →
    sending_in host ≡ Some message → IsRequest host.setup.addr message request →
    answer_in (reply_of one request Restart) ≡ answer_in (reply_of other request Restart)
own-same exact one other host message request same sending is =
    ap (λ x. answer_in (reply_of x request Restart)) same.same
    ∙ ap answer_in (reply-alike exact other one host message request same.modes sending is)

-- ---- what comes back

-- whether a return is legal asks for the answer only where the request was heard whole
return-same : (request : List ℕ) (needed : ℕ) (whole : Bool) (one other came : List ℕ) → (whole ≡ true → other ≡ one) →
    is_legal_return request needed whole one came ≡ true → is_legal_return request needed whole other came ≡ true
unfolding is_legal_return
return-same request needed true one other came alike legal =
    subst (λ a. is_legal_return request needed true a came ≡ true) (sym (alike refl)) legal
return-same request needed false one other came alike legal = legal

-- a request that was heard whole is the request
pub heard-so : (request : List ℕ) (way : Arrival) → is_heard_whole request (heard_bytes request way) (ending_of Restart way) ≡ true →
    (heard_bytes request way ≡ request) × (ending_of Restart way ≡ Restart)
heard-so request arrival.Whole h = (refl, refl)
heard-so request (arrival.Cut count) h = cc
heard-so request (arrival.Bytes bytes Stop) h = cc
heard-so request (arrival.Bytes bytes Restart) h = ((bytes_eq-Decides bytes.items request).0 h, refl)

-- what came back of one converter's answer is a legal return of the other's, the same bytes
pub record ComesBack (request : List ℕ) (needed : ℕ) (held : Held) (way : Arrival) (so : Back) (came : List ℕ) : Type 0 where
  pub returned : is_legal_return request needed (is_heard_whole request (heard_bytes request way) (ending_of Restart way))
      (answer_of held request way) (back_bytes (answer_of held request way) so) ≡ true
  pub came_is : back_bytes (answer_of held request way) so ≡ came

pub comes-same : (request : List ℕ) (needed : ℕ) (one other : Held) (way : Arrival) (so : Back) (came : List ℕ) →
    answer_in (reply_of other request Restart) ≡ answer_in (reply_of one request Restart) →
    ComesBack request needed one way so came → ComesBack request needed other way (back_of way so came) came
comes-same request needed one other way so came alike comes = go way refl comes where
  bytes-back : (w : Arrival) → ComesBack request needed one w so came →
      is_legal_return request needed (is_heard_whole request (heard_bytes request w) (ending_of Restart w))
      (answer_of other request w) came ≡ true
  bytes-back w back =
      return-same request needed (is_heard_whole request (heard_bytes request w) (ending_of Restart w)) (answer_of one request w)
      (answer_of other request w) came
      (λ whole.
      let so' = heard-so request w whole in
      let at : (held : Held) → answer_of held request w ≡ answer_in (reply_of held request Restart) =
      λ held. ap₂ (λ b e. answer_in (reply_of held b e)) so'.0 so'.1 in
      at other ∙ (alike ∙ sym (at one)))
      (subst (λ b. is_legal_return request needed (is_heard_whole request (heard_bytes request w) (ending_of Restart w))
      (answer_of one request w) b ≡ true) back.came_is back.returned)

  go : (w : Arrival) → way ≡ w → ComesBack request needed one w so came → ComesBack request needed other w (back_of w so came) came
  go arrival.Whole e back = record {
    returned = subst (λ a. is_legal_return request needed (is_heard_whole request request Restart) a (back_bytes a so) ≡ true) (sym alike)
        back.returned;
    came_is = ap (λ a. back_bytes a so) alike ∙ back.came_is;
  }
  go (arrival.Cut count) e back = record { returned = bytes-back (arrival.Cut count) back; came_is = refl }
  go (arrival.Bytes bytes ending) e back = record { returned = bytes-back (arrival.Bytes bytes ending) back; came_is = refl }
