-- What comes back is bytes, and what becomes of damaged frames.
use Rattle.std.specs.List.{starts_with}
use Rattle.std.specs.Int.{bit_at, cast_signed, cast_unsigned, w8, w16}
use Rattle.std.specs.Option.{option_map_or}
use Rattle.std.specs.Prelude.{bytes_eq, nat_lt, slice_index, option_to_list, slice_set, nat_eq}
use Rattle.std.proofs.Common.{◌≡◌, ◌≢◌, ◌⊎◌, inl, inr, ℕ, ◌+◌, ◌-◌, ◌/◌, ◌%◌, ◌^◌, ◌<◌, ◌≤◌, Bool, true, false, not, eqb, ◌&&◌, List, []}
use Rattle.std.proofs.Common.{◌∷◌, ◌++◌, length, take, get_or, refl, sym, ◌∙◌, ap, ap₂, subst, arith, length-append, lit<, zero, suc, ◌*◌}
use Rattle.std.proofs.Common.{ℤ, pos, negsuc, cond, ltb, Option, Some, None, option_map, ◌||◌, replicate, option_and_then}
use Rattle.std.proofs.Math.Seq.{get_or-append_seam, take-append_seam}
use Rattle.std.proofs.lemmas.Bool.{cases_lt, eqb-true, lt-ltb, or_left, or_right, cases_Bool, cond-false, ltb-true, false_from_ne_true}
use Rattle.std.proofs.lemmas.List.{get_or_append_left, get_or-append_right, get_or_past}
use Rattle.std.proofs.lemmas.Option.{none-some, same_Some}
use mir.Val.{sel}
use Rattle.pm_num.specs.Ratio.{micros}
use Rattle.pm_num.specs.AnyFormat.{Shape, shape_rank, shape_value}
use Rattle.pm_num.specs.NearestWord.{found_below, is_nearest, nearest_word}
use Rattle.pm_table.specs.{Commands.payload_length, declared.cell.Cell.Cell, declared.coefficients.Coefficients.Coefficients}
use Rattle.pm_table.specs.{declared.reg.Reg.Reg}
use Rattle.pm_table.specs.Cell.{IsCell, register_of, is_protection, output_of}
use Rattle.pm_table.specs.Codes as command
use Rattle.pm_table.specs.Coefficients.{coefficient_bytes, coefficients_of}
use Rattle.pm_table.specs.declared.cell.Cell.TheVariants.{Out, Protect}
use Rattle.pm_frame.specs.{Betrayal.is_betrayed, Fault.whole_answer, Laws.RequestsAreExact, Pec.pec_of, declared.message.Message.Message}
use Rattle.pm_frame.specs.Damage.{DifferWithinEight, message_bit}
use Rattle.pm_frame.specs.Layout.{AreBytes, answered, IsRequest, has_count, read_address, IsWrite, IsAnswer}
use Rattle.pm_frame.specs.Layout.{sent}
use Rattle.pm_frame.specs.Lemmas.{bytes-more, pec_of-lt}
use Rattle.pm_frame.specs.declared.message.Message.TheVariants.{SendByte, WriteByte, WriteWord, PagePlusWrite, ReadCommand, PagePlusRead}
use Rattle.pm_frame.specs.declared.message.Message.TheVariants.{ReadCoefficients}
use Rattle.pm_model.specs.Settings.{word_at}
use Rattle.pm_device.specs.{Start.IsSound, declared.config.Config.Config, declared.converter.Ending.Ending, declared.converter.Heard.Heard}
use Rattle.pm_device.specs.Effect as device
use Rattle.pm_device.specs.Held.{Held, reading_at, Measured, device_readings, is_reading, no_readings, output_readings, place_among}
use Rattle.pm_device.specs.Held.{with_reading, reading_words_at}
use Rattle.pm_device.specs.History.{device_now, readings_in}
use Rattle.pm_device.specs.Laws.{ReadsAreAnswered, RepliesFollowEndings}
use Rattle.pm_device.specs.Reply.{payload_for, reply_of, answer_bytes, plain_register, register_bytes, register_word, reply_to}
use Rattle.pm_device.specs.Status.{bit_if_set, status_word_of}
use Rattle.pm_device.specs.Verdict.{answers_coefficients, is_answered, read_verdict, unless_faulty, verdict_of}
use Rattle.pm_device.specs.declared.converter.Ending.TheVariants.{Restart, Stop}
use Rattle.pm_device.specs.declared.converter.Heard.TheVariants.{Answer, Silent, Taken, Refused}
use Rattle.pm_device.specs.declared.fault.DeviceFault.TheVariants.{BadPage, UnsupportedData}
use Rattle.pm_host.specs.{Refusals.micro_word}
use Rattle.pm_host.specs.Summary.{Summary, format_at}
use Rattle.pm_host.specs.Transcript as host
use Rattle.pm_world.specs.{Below.Below, Honest.IsSpelled, Lemmas.Orders.told-asked, Retelling.WasOrdered}
use Rattle.pm_world.specs.{declared.event.Back.Back, declared.event.Event.Event}
use Rattle.pm_world.specs.Bytes.{CarriesBytes, CarryBytes, ReturnsInBytes, StartsShort}
use Rattle.pm_world.specs.Damage.{AreOthers, IsBetrayedDamage, burst, few as damage_few, odd}
use Rattle.pm_world.specs.Legal.{answer_in, is_legal_return, back_bytes, frame_of, heard_bytes, heard_ending, is_restart}
use Rattle.pm_world.specs.Legal.{is_legal_hearing}
use Rattle.pm_world.specs.Lemmas.{entries-more}
use Rattle.pm_world.specs.Life.{life, now, state_of}
use Rattle.pm_world.specs.State.{Share, State, answer_to, asked, share_of}
use Rattle.pm_world.specs.Uncertainty.{AreOfBytes, since_restart}
use Rattle.pm_world.specs.declared.event.Arrival.TheVariants as arrival
use Rattle.pm_world.specs.declared.event.Back.TheVariants as back
use Rattle.pm_world.specs.declared.event.Event.TheVariants.{Order, OrderMicro}
use Rattle.pm_world.proofs.Events.{IsLived, earlier, IsShare, exchanges, measures, share-is}
use Rattle.pm_world.proofs.Orders.{life-own}
use Rattle.pm_world.proofs.Standings.{first-bytes}

-- The answer to a request that was damaged: its packet error code (PEC) covers other bytes than the
-- host sent.

-- a byte of a list with others after it
behind : (bytes rest : List ℕ) (place : ℕ) → length bytes ≤ place →
    slice_index (bytes ++ rest) place ≡ slice_index rest (place - length bytes)
behind bytes rest place past = get_or-append_right bytes rest (length bytes) place 0 refl past

-- bytes with bytes after them, and bytes without the last of them
pub bytes-append : (bytes rest : List ℕ) → AreBytes bytes → AreBytes rest → AreBytes (bytes ++ rest)
bytes-append bytes rest first later place = elim (cases_lt place (length bytes)) [
  | inl inside ↦ subst (λ n. n < 2 ^ 8) (sym (get_or_append_left bytes rest 0 place inside)) (first place)
  | inr past ↦ subst (λ n. n < 2 ^ 8) (sym (behind bytes rest place past)) (later (place - length bytes))
]

-- a prefix of bytes is bytes
bytes-front : (bytes rest : List ℕ) → AreBytes (bytes ++ rest) → AreBytes bytes
bytes-front bytes rest are place = elim (cases_lt place (length bytes)) [
  | inl inside ↦ subst (λ n. n < 2 ^ 8) (get_or_append_left bytes rest 0 place inside) (are place)
  | inr past ↦ subst (λ n. n < 2 ^ 8) (sym (get_or_past bytes place 0 past)) (omega arith)
]

-- bits that are the same stay so with the same bytes after them
bit-behind : (bytes others rest : List ℕ) (place : ℕ) → length bytes ≡ length others → message_bit bytes place ≡ message_bit others place →
    message_bit (bytes ++ rest) place ≡ message_bit (others ++ rest) place
bit-behind bytes others rest place long same = elim (cases_lt (place / 8) (length bytes)) [
  | inl inside ↦
      ap (λ n. bit_at n (7 - place % 8)) (get_or_append_left bytes rest 0 (place / 8) inside)
      ∙ (same ∙ sym (ap (λ n. bit_at n (7 - place % 8))
      (get_or_append_left others rest 0 (place / 8) (subst (λ n. place / 8 < n) long inside))))
  | inr past ↦
      ap (λ n. bit_at n (7 - place % 8)) (behind bytes rest (place / 8) past
      ∙ (ap (λ n. slice_index rest (place / 8 - n)) long ∙ sym (behind others rest (place / 8) (subst (λ n. n ≤ place / 8) long past))))
]

-- a burst stays one where the same bytes follow
burst-behind : (bytes others rest : List ℕ) → length bytes ≡ length others → DifferWithinEight bytes others →
    DifferWithinEight (bytes ++ rest) (others ++ rest)
burst-behind bytes others rest long within = record {
  first = within.first;
  before = λ place below. bit-behind bytes others rest place long (within.before place below);
  after = λ place past. bit-behind bytes others rest place long (within.after place past);
}

-- the fronts of two lists of one length with the same end
same-fronts : (bytes others rest : List ℕ) → length bytes ≡ length others → bytes ++ rest ≡ others ++ rest → bytes ≡ others
same-fronts bytes others rest long same =
    sym (take-append_seam bytes rest) ∙ (ap₂ (λ n l. take n l) long same ∙ take-append_seam others rest)

-- the test of the last byte
betrayed-last : (before body : List ℕ) (last : ℕ) → is_betrayed before (body ++ last ∷ []) ≡ not (eqb last (pec_of (before ++ body)))
unfolding is_betrayed
betrayed-last before [] last = refl
betrayed-last before (x ∷ xs) last =
    let long : length (xs ++ last ∷ []) ≡ length (x ∷ xs) = length-append xs (last ∷ []) ∙ omega arith in
    ap₂ (λ (l : ℕ) (front : List ℕ). not (eqb l (pec_of (before ++ front))))
    (ap (λ n. get_or (x ∷ (xs ++ last ∷ [])) n 0) long ∙ get_or-append_seam (x ∷ xs) last [] 0)
    (ap (λ n. take n (x ∷ (xs ++ last ∷ []))) long ∙ take-append_seam (x ∷ xs) (last ∷ []))

-- two numbers that differ aren't equal by the test
not-equal : (a b : ℕ) → a ≢ b → not (eqb a b) ≡ true
not-equal a b other = go (eqb a b) refl where
  go : (same : Bool) → eqb a b ≡ same → not same ≡ true
  go false e = refl
  go true e = absurd (other (eqb-true a b e))

-- a change within eight neighbouring bits changes the code
abbrev pub Bursts : Type 0
Bursts = (bytes others : List ℕ) → AreBytes bytes → AreBytes others → length bytes ≡ length others → bytes ≢ others →
    DifferWithinEight bytes others → pec_of bytes ≢ pec_of others

-- an answer is none, or its PEC covers what was heard
abbrev EndsBehind : List ℕ → List ℕ → Type 0
EndsBehind heard answer = (answer ≡ []) ⊎ ((body : List ℕ) × (answer ≡ body ++ pec_of (heard ++ body) ∷ []))

-- an answer ends in the PEC of what was heard and of itself
reply-ends : Below → (held : Held) (heard : List ℕ) → EndsBehind heard (answer_in (reply_of held heard Restart))
reply-ends laws held heard = go (reply_of held heard Restart) refl where
  go : (reply : Heard) → reply_of held heard Restart ≡ reply → EndsBehind heard (answer_in reply)
  go (Answer frame) e =
      let found = laws.reads_are_answered.answer held heard frame.items e in
      let body = answered held.config.addr found.0 (payload_for held found.0) in
      inr (body, found.2.spelled ∙ ap (λ (request : List ℕ). body ++ pec_of (request ++ body) ∷ []) (sym found.1.spelled))
  go reply e = inl refl

-- no answer is shorter than a whole one
not-whole : (request : Message) → nat_lt 0 (whole_answer request) ≡ true
not-whole (SendByte code) = refl
not-whole (WriteByte code byte) = refl
not-whole (WriteWord code word) = refl
not-whole (PagePlusWrite page code payload) = refl
not-whole (ReadCommand code) = lt-ltb 0 (whole_answer (ReadCommand code)) (omega arith)
not-whole (PagePlusRead page code) = lt-ltb 0 (whole_answer (PagePlusRead page code)) (omega arith)
not-whole (ReadCoefficients code side) = refl

-- the answer to a request that eight neighbouring bits changed
changed-betrayed : Bursts → {frame heard answer : List ℕ} (body : List ℕ) → answer ≡ body ++ pec_of (heard ++ body) ∷ [] →
    AreOthers frame heard →
    DifferWithinEight frame heard → AreBytes answer →
    is_betrayed frame answer ≡ true
changed-betrayed bursts {frame = frame} {heard = heard} body spelled others within are =
    let body_bytes : AreBytes body = bytes-front body (pec_of (heard ++ body) ∷ []) (subst AreBytes spelled are) in
    let long : length (frame ++ body) ≡ length (heard ++ body) =
    length-append frame body ∙ (ap (λ n. n + length body) others.as_many ∙ sym (length-append heard body)) in
    let codes : pec_of (frame ++ body) ≢ pec_of (heard ++ body) =
    bursts (frame ++ body) (heard ++ body) (bytes-append frame body others.were_bytes body_bytes)
    (bytes-append heard body others.are_bytes body_bytes) long
    (λ same. others.other (same-fronts frame heard body others.as_many same)) (burst-behind frame heard body others.as_many within) in
    ap (is_betrayed frame) spelled ∙
    (betrayed-last frame body (pec_of (heard ++ body))
    ∙ not-equal (pec_of (heard ++ body)) (pec_of (frame ++ body)) (λ same. codes (sym same)))

-- the answer to a damaged request is a legal return
pub answered-legal : Below → (held : Held) (request : Message) {frame heard : List ℕ} (whole : Bool) → AreOthers frame heard →
    DifferWithinEight frame heard →
    AreBytes (answer_in (reply_of held heard Restart)) →
    is_legal_return frame (whole_answer request) whole (answer_in (reply_of held heard Restart))
    (answer_in (reply_of held heard Restart)) ≡ true
unfolding is_legal_return
answered-legal laws held request {frame = frame} {heard = heard} whole others within are =
    let answer : List ℕ = answer_in (reply_of held heard Restart) in
    or_right (whole && bytes_eq answer answer) _ (elim (reply-ends laws held heard) [
      | inl none ↦ or_left (nat_lt (length answer) (whole_answer request)) (is_betrayed frame answer)
          (ap (λ (bytes : List ℕ). nat_lt (length bytes) (whole_answer request)) none ∙ not-whole request)
      | inr ends ↦ or_right (nat_lt (length answer) (whole_answer request)) (is_betrayed frame answer)
          (changed-betrayed laws.bursts_are_betrayed.code ends.0 ends.1 others within are)
    ])

-- What a converter answers are bytes, where what it holds are numbers of a program.

-- ---- bytes

-- no byte, and one more
no-bytes : AreBytes []
no-bytes place = lit< tt

-- ---- what a converter holds

-- what it holds are numbers of a program: each output's mode is a byte, and each other number has at most two
pub record HoldsBytes (held : Held) : Type 0 where
  pub sound : IsSound held.config
  pub spelled : IsSpelled held.config
  pub page : held.page < held.config.count
  pub words : (cell : Cell) → IsCell held.config.count cell → word_at held.words cell < 2 ^ 16
  pub readings : (output code : ℕ) → reading_at held.readings output code < 2 ^ 16

-- one of two words
either : (b : Bool) (word other : ℕ) → word < 2 ^ 16 → other < 2 ^ 16 → cond b word other < 2 ^ 16
either true word other one two = one
either false word other one two = two

-- a bit that may be set
marked-most : (bit : ℕ) (b : Bool) → bit_if_set bit b ≤ bit
marked-most bit true = omega arith
marked-most bit false = omega arith

-- the status registers
bits-short : (a b c d e : ℕ) → a ≤ 0x40 → b ≤ 0x02 → c ≤ 0x01 → d ≤ 0x8000 → e ≤ 0x0800 → a + b + c + d + e < 2 ^ 16
bits-short a b c d e ha hb hc hd he = omega arith

-- STATUS_WORD has two bytes, whatever a converter holds
status-short : (held : Held) (output : ℕ) → status_word_of held output < 2 ^ 16
status-short held output = bits-short _ _ _ _ _ (marked-most 0x40 _) (marked-most 0x02 _) (marked-most 0x01 _) (marked-most 0x8000 _)
    (marked-most 0x0800 _)

-- the bits of STATUS_BYTE, each set or not, make a word of two bytes
byte-short : (a b c : ℕ) → a ≤ 0x40 → b ≤ 0x02 → c ≤ 0x01 → a + b + c < 2 ^ 16
byte-short a b c ha hb hc = omega arith

-- the bits of STATUS_CML, each set or not, make a word of two bytes
cml-short : (a b c d : ℕ) → a ≤ 0x80 → b ≤ 0x40 → c ≤ 0x20 → d ≤ 0x02 → a + b + c + d < 2 ^ 16
cml-short a b c d ha hb hc hd = omega arith

-- the one bit of STATUS_VOUT, set or not, makes a word of two bytes
vout-short : (a : ℕ) → a ≤ 0x08 → a < 2 ^ 16
vout-short a ha = omega arith

-- a register that isn't a cell's
plain-short : (held : Held) (output code : ℕ) → HoldsBytes held → output < held.config.count → plain_register held output code < 2 ^ 16
plain-short held output code h there =
    let few = h.sound.few in
    let page = h.page in
    let mode = h.spelled.modes output (omega arith) in
    either (eqb code command.page) _ _ (omega arith)
    (either (eqb code command.capability) _ _ (lit< tt)
    (either (eqb code command.vout_mode) _ _ (omega arith)
    (either (eqb code command.status_byte) _ _ (byte-short _ _ _ (marked-most 0x40 _) (marked-most 0x02 _) (marked-most 0x01 _))
    (either (eqb code command.status_word) _ _ (status-short held output)
    (either (eqb code command.status_vout) _ _ (vout-short _ (marked-most 0x08 _))
    (either (eqb code command.status_cml) _ _
    (cml-short _ _ _ _ (marked-most 0x80 _) (marked-most 0x40 _) (marked-most 0x20 _) (marked-most 0x02 _))
    (either (eqb code command.pmbus_revision) _ _ (lit< tt) (h.readings output code))))))))

-- the word of any code
register-short : (held : Held) (output code : ℕ) → HoldsBytes held → output < held.config.count → register_word held output code < 2 ^ 16
register-short held output code h there = go (eqb code command.write_protect) (register_of code) where
  go : (b : Bool) (register : Option Reg) →
      option_map_or (λ cell. word_at held.words cell) (cond b (Some Protect) (option_map (λ r. Out output r) register))
      (plain_register held output code) < 2 ^ 16
  go true register = h.words Protect tt
  go false (Some register) = h.words (Out output register) there
  go false None = plain-short held output code h there

-- ---- an answer

-- the two bytes of a word are its own, and are bytes
both-bytes : (word : ℕ) → word ≡ word % 256 + 256 * (word / 256)
both-bytes word = omega arith

-- the low byte of a word is a byte
low-byte : (word : ℕ) → word % 256 < 2 ^ 8
low-byte word = omega arith

-- the high byte of a word of two bytes is a byte
high-byte : (word : ℕ) → word < 2 ^ 16 → word / 256 < 2 ^ 8
high-byte word short = omega arith

-- the bytes of a word
register-bytes : (code word : ℕ) → word < 2 ^ 16 → AreBytes (register_bytes code word)
register-bytes code word short place =
    first-bytes (payload_length code) (word % 256 ∷ word / 256 ∷ []) place
    (bytes-more (word % 256) (word / 256 ∷ []) (low-byte word) (bytes-more (word / 256) [] (high-byte word short) no-bytes))

-- a number that its bits spell has as many
spelled-word : (z : ℤ) → cast_signed w16 (cast_unsigned w16 z) ≡ z → cast_unsigned w16 z < 2 ^ 16
spelled-word (pos n) is = go (ltb n (2 ^ 15)) refl is where
  go : (b : Bool) → ltb n (2 ^ 15) ≡ b → sel b (pos n) (negsuc (2 ^ 16 - suc n)) ≡ pos n → n < 2 ^ 16
  go true e h = let below = ltb-true n (2 ^ 15) e in omega arith
  go false e h = cc
spelled-word (negsuc n) is = omega arith

-- the eight bits that spell a number are a byte
spelled-byte : (z : ℤ) → cast_signed w8 (cast_unsigned w8 z) ≡ z → cast_unsigned w8 z < 2 ^ 8
spelled-byte (pos n) is = go (ltb n (2 ^ 7)) refl is where
  go : (b : Bool) → ltb n (2 ^ 7) ≡ b → sel b (pos n) (negsuc (2 ^ 8 - suc n)) ≡ pos n → n < 2 ^ 8
  go true e h = let below = ltb-true n (2 ^ 7) e in omega arith
  go false e h = cc
spelled-byte (negsuc n) is = omega arith

-- five bytes
five-bytes : (a b c d e : ℕ) → a < 2 ^ 8 → b < 2 ^ 8 → c < 2 ^ 8 → d < 2 ^ 8 → e < 2 ^ 8 → AreBytes (a ∷ b ∷ c ∷ d ∷ e ∷ [])
five-bytes a b c d e first second third fourth fifth =
    bytes-more a (b ∷ c ∷ d ∷ e ∷ []) first
    (bytes-more b (c ∷ d ∷ e ∷ []) second (bytes-more c (d ∷ e ∷ []) third (bytes-more d (e ∷ []) fourth (bytes-more e [] fifth no-bytes))))

-- the coefficients
coefficients-bytes : (c : Coefficients) → coefficients_of (coefficient_bytes c) ≡ c → AreBytes (coefficient_bytes c)
coefficients-bytes c is =
    let m = spelled-word c.m (ap (cast_signed w16) (both-bytes (cast_unsigned w16 c.m)) ∙ ap (λ (k : Coefficients). k.m) is) in
    let b = spelled-word c.b (ap (cast_signed w16) (both-bytes (cast_unsigned w16 c.b)) ∙ ap (λ (k : Coefficients). k.b) is) in
    let r = spelled-byte c.r (ap (λ (k : Coefficients). k.r) is) in
    let bits_m = cast_unsigned w16 c.m in
    let bits_b = cast_unsigned w16 c.b in
    five-bytes (bits_m % 256) (bits_m / 256) (bits_b % 256) (bits_b / 256) (cast_unsigned w8 c.r) (low-byte bits_m) (high-byte bits_m m)
    (low-byte bits_b) (high-byte bits_b b) r

-- the payload of a request that is answered
payload-bytes : (held : Held) (request : Message) → HoldsBytes held → is_answered held.config request ≡ true →
    AreBytes (payload_for held request)
payload-bytes held (ReadCommand code) h answers = register-bytes code _ (register-short held held.page code h h.page)
payload-bytes held (PagePlusRead page code) h answers =
    register-bytes code _ (register-short held page code h (ltb-true page held.config.count answers))
payload-bytes held (ReadCoefficients code side) h answers = coefficients-bytes held.config.coefficients h.spelled.coefficients
payload-bytes held (SendByte code) h answers = cc
payload-bytes held (WriteByte code byte) h answers = cc
payload-bytes held (WriteWord code word) h answers = cc
payload-bytes held (PagePlusWrite page code payload) h answers = cc

-- its length
taken-few : (n a b : ℕ) → length (take n (a ∷ b ∷ [])) ≤ 2
taken-few zero a b = omega arith
taken-few (suc zero) a b = omega arith
taken-few (suc (suc n)) a b = go n where
  go : (n : ℕ) → length (a ∷ b ∷ take n []) ≤ 2
  go zero = omega arith
  go (suc n) = omega arith

-- a length of at most two is one of at most five
at-most-five : (n : ℕ) → n ≤ 2 → n ≤ 5
at-most-five n few = omega arith

-- the payload that answers a request, whichever it is, has at most five bytes
payload-few : (held : Held) (request : Message) → length (payload_for held request) ≤ 5
payload-few held (ReadCommand code) = at-most-five _ (taken-few (payload_length code) _ _)
payload-few held (PagePlusRead page code) = at-most-five _ (taken-few (payload_length code) _ _)
payload-few held (ReadCoefficients code side) = omega arith
payload-few held (SendByte code) = omega arith
payload-few held (WriteByte code byte) = omega arith
payload-few held (WriteWord code word) = omega arith
payload-few held (PagePlusWrite page code payload) = omega arith

-- a count of at most five is a byte
few-byte : (n : ℕ) → n ≤ 5 → n < 2 ^ 8
few-byte n few = omega arith

-- an answer
answer-bytes : (held : Held) (request : Message) → HoldsBytes held → is_answered held.config request ≡ true →
    AreBytes (answer_bytes held request)
answer-bytes held request h answers =
    bytes-append (answered held.config.addr request (payload_for held request)) (pec_of _ ∷ [])
    (go (has_count request)) (bytes-more (pec_of _) [] (pec_of-lt _) no-bytes)
  where
    payload : AreBytes (payload_for held request)
    payload = payload-bytes held request h answers

    address : read_address held.config.addr < 2 ^ 8
    address = let most = h.sound.address.1 in omega arith

    go : (b : Bool) → AreBytes (cond b (read_address held.config.addr ∷ length (payload_for held request) ∷ payload_for held request)
        (read_address held.config.addr ∷ payload_for held request))
    go true =
        bytes-more (read_address held.config.addr) (length (payload_for held request) ∷ payload_for held request) address
        (bytes-more (length (payload_for held request)) (payload_for held request) (few-byte _ (payload-few held request)) payload)
    go false = bytes-more (read_address held.config.addr) (payload_for held request) address payload

-- ---- what is answered to bytes

-- a request that is answered is one whose page is there, or whose coefficients are
read-answers : (held : Held) (request : Message) (items : List ℕ) →
    reply_to held (read_verdict held.config request) ≡ Answer (record { items = items }) → is_answered held.config request ≡ true
read-answers held (ReadCommand code) items is = refl
read-answers held (PagePlusRead page code) items is = elim (cases_Bool (nat_lt page held.config.count)) [
  | inl there ↦ there
  | inr none ↦
      let refused : reply_to held (read_verdict held.config (PagePlusRead page code)) ≡ Refused BadPage =
      ap (reply_to held) (cond-false (nat_lt page held.config.count) _ _ none) in cc
]
read-answers held (ReadCoefficients code side) items is = elim (cases_Bool (answers_coefficients held.config code side)) [
  | inl there ↦ there
  | inr none ↦
      let refused : reply_to held (read_verdict held.config (ReadCoefficients code side)) ≡ Refused UnsupportedData =
      ap (reply_to held) (cond-false (answers_coefficients held.config code side) _ _ none) in cc
]
read-answers held (SendByte code) items is = cc
read-answers held (WriteByte code byte) items is = cc
read-answers held (WriteWord code word) items is = cc
read-answers held (PagePlusWrite page code payload) items is = cc

-- a request whose bytes a converter answers asks for a page or for coefficients that are there, if for either
reply-answers : RequestsAreExact → (held : Held) (bytes items : List ℕ) (request : Message) → IsRequest held.config.addr request bytes →
    reply_of held bytes Restart ≡ Answer (record { items = items }) → is_answered held.config request ≡ true
unfolding reply_of verdict_of
reply-answers exact held bytes items request asked is =
    read-answers held request items
    (sym (ap₂ (λ fault m. reply_to held (unless_faulty fault (read_verdict held.config m)))
    (exact.spelled held.config.addr request bytes asked) (exact.places held.config.addr request bytes asked)) ∙ is)

-- the laws of the crates below that this rests on
pub record Replies : Type 0 where
  pub requests : RequestsAreExact
  pub reads : ReadsAreAnswered
  pub endings : RepliesFollowEndings

-- whatever bytes were heard
pub reply-bytes : Replies → (held : Held) (bytes : List ℕ) (ending : Ending) → HoldsBytes held →
    AreBytes (answer_in (reply_of held bytes ending))
reply-bytes laws held bytes Stop h = go (reply_of held bytes Stop) refl where
  go : (heard : Heard) → reply_of held bytes Stop ≡ heard → AreBytes (answer_in heard)
  go Silent is = no-bytes
  go Taken is = no-bytes
  go (Refused fault) is = no-bytes
  go (Answer frame) is = absurd (laws.endings.stop held bytes frame.items is)
reply-bytes laws held bytes Restart h = go (reply_of held bytes Restart) refl where
  go : (heard : Heard) → reply_of held bytes Restart ≡ heard → AreBytes (answer_in heard)
  go Silent is = no-bytes
  go Taken is = no-bytes
  go (Refused fault) is = no-bytes
  go (Answer frame) is =
      let found = laws.reads.answer held bytes frame.items is in
      subst AreBytes (sym found.2.spelled)
      (answer-bytes held found.0 h (reply-answers laws.requests held bytes frame.items found.0 found.1 is))

-- What comes back to the host over a life are bytes, where its configuration and its events are those of a program.

-- ---- the words of the cells

-- a number that is sought below a bound lies below it
found-below : (test : ℕ → Bool) (n word : ℕ) → found_below test n ≡ Some word → word < n
unfolding found_below
found-below test zero word is = absurd (none-some word is)
found-below test (suc n) word is = go (test n) (found-below test n word) is where
  go : (b : Bool) → (found_below test n ≡ Some word → word < n) → cond b (Some n) (found_below test n) ≡ Some word → word < suc n
  go true before h = let same = same_Some n word h in omega arith
  go false before h = let below = before h in omega arith

-- the word of an order in microvolts has two bytes
micro-short : (s : Summary) (cell : Cell) (x : ℤ) (word : ℕ) → micro_word s cell x ≡ Some word → word < 2 ^ 16
unfolding nearest_word
micro-short s cell x word is = go (format_at s (output_of cell)) is where
  go : (format : Option Shape) →
      option_and_then (λ shape. nearest_word (shape_value shape) (shape_rank shape) (micros x)) format ≡ Some word → word < 2 ^ 16
  go None h = absurd (none-some word h)
  go (Some shape) h = found-below (is_nearest (shape_value shape) (shape_rank shape) (micros x)) (2 ^ 16) word h

-- each word that is ordered has two bytes
ordered-word : {cell other : Cell} {word number : ℕ} → Some (host.Order cell word) ≡ Some (host.Order other number) → word ≡ number
ordered-word is = cc

-- the word of an order that an event asks for has two bytes, where the event carries bytes
ordered-short : (s : State) (event : Event) (cell : Cell) (word : ℕ) → asked s event ≡ Some (host.Order cell word) → CarriesBytes event →
    word < 2 ^ 16
ordered-short s (Order other number) cell word is carries = subst (λ n. n < 2 ^ 16) (ordered-word is) carries
ordered-short s (OrderMicro other x) cell word is carries = go (micro_word s.host other x) refl is where
  go : (found : Option ℕ) → micro_word s.host other x ≡ found → option_map (λ n. host.Order other n) found ≡ Some (host.Order cell word) →
      word < 2 ^ 16
  go None e h = cc
  go (Some number) e h = subst (λ n. n < 2 ^ 16) (ordered-word h) (micro-short s.host other x number e)
ordered-short s event cell word is carries = cc

-- one of the events
carries-among : (later before : List Event) (event : Event) → CarryBytes (later ++ event ∷ before) → CarriesBytes event
carries-among [] before event (carries, rest) = carries
carries-among (other ∷ later) before event (carries, rest) = carries-among later before event rest

-- a word that was ordered among them
own-short : (config : Config) (passes : ℕ) (events : List Event) (cell : Cell) (word : ℕ) → CarryBytes events →
    WasOrdered config passes events cell word → word < 2 ^ 16
own-short config passes events cell word carry was =
    ordered-short (now config passes was.before) was.event cell word (told-asked config passes was.before was.event cell word was.orders)
    (carries-among was.later was.before was.event (subst CarryBytes was.is carry))

-- a byte that WRITE_PROTECT accepts
protection-short : (word : ℕ) → is_protection word ≡ true → word < 2 ^ 16
protection-short word is = go (eqb word 0x00) (eqb word 0x20) (eqb word 0x40) (eqb word 0x80) refl refl refl refl is where
  small : (byte : ℕ) → eqb word byte ≡ true → byte < 2 ^ 16 → word < 2 ^ 16
  small byte e below = subst (λ n. n < 2 ^ 16) (sym (eqb-true word byte e)) below

  go : (a b c d : Bool) → eqb word 0x00 ≡ a → eqb word 0x20 ≡ b → eqb word 0x40 ≡ c → eqb word 0x80 ≡ d →
      (a || b || c || d) ≡ true → word < 2 ^ 16
  go true b c d one two three four h = small 0x00 one (lit< tt)
  go false true c d one two three four h = small 0x20 two (lit< tt)
  go false false true d one two three four h = small 0x40 three (lit< tt)
  go false false false true one two three four h = small 0x80 four (lit< tt)
  go false false false false one two three four h = cc

-- ---- the readings

-- each number of a list has two bytes
abbrev WordsShort : List ℕ → Type 0
WordsShort words = (place : ℕ) → get_or words place 0 < 2 ^ 16

-- each reading is a word of two bytes
record AreShort (readings : Measured) : Type 0 where
  device : WordsShort readings.device
  outputs : (place : ℕ) → WordsShort (reading_words_at readings place)

-- as they begin
zeros-short : (n : ℕ) → WordsShort (replicate n 0)
zeros-short zero place = lit< tt
zeros-short (suc n) zero = lit< tt
zeros-short (suc n) (suc place) = zeros-short n place

-- rows of eight zeros have words of two bytes, whichever row and place is asked for
rows-short : (n place : ℕ) → WordsShort (get_or (replicate n (replicate 8 0)) place [])
rows-short zero place = zeros-short 0
rows-short (suc n) zero = zeros-short 8
rows-short (suc n) (suc place) = rows-short n place

-- each reading of a new converter has two bytes
none-short : AreShort no_readings
none-short = record { device = zeros-short (length device_readings); outputs = rows-short (length output_readings) }

-- with another word for one of them
set-short : (words : List ℕ) (place word : ℕ) → WordsShort words → word < 2 ^ 16 → WordsShort (slice_set words place word)
set-short [] place word are short p = are p
set-short (x ∷ words) zero word are short zero = short
set-short (x ∷ words) zero word are short (suc p) = are (suc p)
set-short (x ∷ words) (suc place) word are short zero = are 0
set-short (x ∷ words) (suc place) word are short (suc p) = set-short words place word (λ q. are (suc q)) short p

-- with another row of words
row-short : (rows : List (List ℕ)) (place : ℕ) (row : List ℕ) → ((p : ℕ) → WordsShort (get_or rows p [])) → WordsShort row →
    (p : ℕ) → WordsShort (get_or (slice_set rows place row) p [])
row-short [] place row are short p = are p
row-short (x ∷ rows) zero row are short zero = short
row-short (x ∷ rows) zero row are short (suc p) = are (suc p)
row-short (x ∷ rows) (suc place) row are short zero = are 0
row-short (x ∷ rows) (suc place) row are short (suc p) = row-short rows place row (λ q. are (suc q)) short p

-- readings that have two bytes have them after one takes another word of two bytes
with-short : (readings : Measured) (output code word : ℕ) → AreShort readings → word < 2 ^ 16 →
    AreShort (with_reading readings output code word)
with-short readings output code word are short =
    go (place_among device_readings code) (place_among output_readings code) where
      go : (a b : Option ℕ) →
          AreShort (option_map_or (λ place. record readings { device = slice_set readings.device place word }) a
          (option_map_or (λ place. record readings
          { outputs = slice_set readings.outputs place (slice_set (reading_words_at readings place) output word) }) b readings))
      go (Some place) b = record { device = set-short readings.device place word are.device short; outputs = are.outputs }
      go None (Some place) = record {
        device = are.device;
        outputs = row-short readings.outputs place _ are.outputs
            (set-short (reading_words_at readings place) output word (are.outputs place) short);
      }
      go None None = are

-- what was measured
abbrev AreMeasured : List device.Event → Type 0
AreMeasured [] = Unit {0}
AreMeasured (device.Hearing bytes ending ∷ past) = AreMeasured past
AreMeasured (device.Restarted ∷ past) = AreMeasured past
AreMeasured (device.Reading output code word ∷ past) = (word < 2 ^ 16) × AreMeasured past

-- the readings after a past have two bytes
past-short : (config : Config) (past : List device.Event) → AreMeasured past → AreShort (readings_in config past)
past-short config [] are = none-short
past-short config (device.Hearing bytes ending ∷ past) are = past-short config past are
past-short config (device.Restarted ∷ past) are = past-short config past are
past-short config (device.Reading output code word ∷ past) (short, are) =
    go (is_reading config.count output code) (past-short config past are) where
      go : (b : Bool) → AreShort (readings_in config past) →
          AreShort (cond b (with_reading (readings_in config past) output code word) (readings_in config past))
      go true before = with-short (readings_in config past) output code word before short
      go false before = before

-- each of them
reading-short : (readings : Measured) (output code : ℕ) → AreShort readings → reading_at readings output code < 2 ^ 16
reading-short readings output code are = go (place_among device_readings code) (place_among output_readings code) where
  go : (a b : Option ℕ) →
      option_map_or (λ place. slice_index readings.device place) a
      (option_map_or (λ place. slice_index (reading_words_at readings place) output) b 0) < 2 ^ 16
  go (Some place) b = are.device place
  go None (Some place) = are.outputs place output
  go None None = lit< tt

-- what a converter hears by an event
abbrev IsMeasured : Option device.Event → Type 0
IsMeasured None = Unit {0}
IsMeasured (Some (device.Hearing bytes ending)) = Unit {0}
IsMeasured (Some device.Restarted) = Unit {0}
IsMeasured (Some (device.Reading output code word)) = word < 2 ^ 16

-- each reading of a converter's past has two bytes with one more event too, where a reading that the event brings has
measured-more : (heard : Option device.Event) (past : List device.Event) → IsMeasured heard → AreMeasured past →
    AreMeasured (option_to_list heard ++ past)
measured-more None past is are = are
measured-more (Some (device.Hearing bytes ending)) past is are = are
measured-more (Some device.Restarted) past is are = are
measured-more (Some (device.Reading output code word)) past is are = (is, are)

-- a reading that an event tells the converter has two bytes, where the event carries bytes
event-measured : (s : State) (event : Event) → CarriesBytes event → IsMeasured (share_of s event).heard
event-measured s event carries = by (share-is s event) carries where
  by : {event : Event} {share : Share} → IsShare s event share → CarriesBytes event → IsMeasured share.heard
  by (measures output code word) carries = carries
  by share carries = tt

-- each reading in the converter's past of a life has two bytes, where the events carry bytes
life-measured : (config : Config) (passes : ℕ) (events : List Event) → CarryBytes events → AreMeasured (life config passes events).past
unfolding life now
life-measured config passes [] carry = tt
life-measured config passes (event ∷ before) (carries, carry) =
    measured-more (share_of (now config passes before) event).heard (life config passes before).past
    (event-measured (now config passes before) event carries) (life-measured config passes before carry)

-- ---- what comes back

-- the configuration of a program
pub record IsOfBytes (config : Config) : Type 0 where
  pub spelled : IsSpelled config
  pub short : StartsShort config

-- each word that the converter holds has two bytes
pub held-short : Below → (config : Config) (passes : ℕ) (events : List Event) → IsOfBytes config → IsLived config passes events →
    CarryBytes events → (cell : Cell) → IsCell config.count cell → word_at (now config passes events).device.words cell < 2 ^ 16
unfolding now state_of device_now
held-short laws config passes events numbers lived carry (Out output register) there =
    elim (life-own laws config passes events (Out output register) lived there) [
      | inl start ↦ subst (λ n. n < 2 ^ 16) (sym start) (numbers.short output register there)
      | inr was ↦ own-short config passes events (Out output register) _ carry was
    ]
held-short laws config passes events numbers lived carry Protect there =
    protection-short _ (laws.words_have_an_origin.accepted config (life config passes events).past Protect lived.sound tt)

-- the converter holds numbers of a program
holds : Below → (config : Config) (passes : ℕ) (events : List Event) → IsOfBytes config → IsLived config passes events → CarryBytes events →
    HoldsBytes (now config passes events).device
unfolding now state_of device_now
holds laws config passes events numbers lived carry = record {
  sound = lived.sound;
  spelled = numbers.spelled;
  page = laws.pasts_are_followed.page config (life config passes events).past lived.sound.some;
  words = held-short laws config passes events numbers lived carry;
  readings = λ output code.
      reading-short (readings_in config (life config passes events).past) output code
      (past-short config (life config passes events).past (life-measured config passes events carry));
}

-- what the host is told
abbrev TellsBytes : Option host.Entry → Type 0
TellsBytes None = Unit {0}
TellsBytes (Some (host.Got bytes)) = AreBytes bytes
TellsBytes (Some (host.Accepted job)) = Unit {0}
TellsBytes (Some (host.Finished acked)) = Unit {0}
TellsBytes (Some host.Restarted) = Unit {0}

-- what came back is bytes in a transcript with one more entry, where it is in the entry and in the transcript before
tells-more : (told : Option host.Entry) (entries : List host.Entry) → TellsBytes told → AreOfBytes entries →
    AreOfBytes (option_to_list told ++ entries)
tells-more None entries is are = are
tells-more (Some (host.Got bytes)) entries is are = (is, are)
tells-more (Some (host.Accepted job)) entries is are = are
tells-more (Some (host.Finished acked)) entries is are = are
tells-more (Some host.Restarted) entries is are = are

-- what comes back of an answer are bytes, if the answer has bytes and any that come in its place are bytes
returned-bytes : (answer : List ℕ) (returned : Back) → AreBytes answer → ReturnsInBytes returned → AreBytes (back_bytes answer returned)
returned-bytes answer back.Whole are carries = are
returned-bytes answer (back.Cut count) are carries = λ place. first-bytes count answer place are
returned-bytes answer (back.Bytes bytes) are carries = carries

-- what comes back to the host by an event are bytes, where the converter holds a program's numbers and the event
-- carries bytes
event-tells : Replies → (s : State) (event : Event) → HoldsBytes s.device → CarriesBytes event → TellsBytes (share_of s event).told
event-tells replies s event holds carries = by (share-is s event) carries where
  by : {event : Event} {share : Share} → IsShare s event share → CarriesBytes event → TellsBytes share.told
  by (exchanges arrival returned message is) carries =
      returned-bytes (answer_to s.device s.host.setup.addr message arrival) returned
      (reply-bytes replies s.device (heard_bytes (frame_of s.host.setup.addr message) arrival) (heard_ending message arrival) holds)
      carries.1
  by share carries = tt

-- over a life
life-bytes : Below → Replies → (config : Config) (passes : ℕ) (events : List Event) → IsOfBytes config → IsLived config passes events →
    CarryBytes events → AreOfBytes (life config passes events).entries
unfolding life
life-bytes laws replies config passes [] numbers lived carry = tt
life-bytes laws replies config passes (event ∷ before) numbers lived (carries, carry) =
    subst AreOfBytes (sym (entries-more config passes before event))
    (tells-more (share_of (now config passes before) event).told (life config passes before).entries
    (event-tells replies (now config passes before) event (holds laws config passes before numbers (earlier lived) carry) carries)
    (life-bytes laws replies config passes before numbers (earlier lived) carry))

-- what came back since the host's last restart are bytes
since-bytes : (entries : List host.Entry) → AreOfBytes entries → AreOfBytes (since_restart entries)
since-bytes [] are = tt
since-bytes (host.Accepted job ∷ before) are = since-bytes before are
since-bytes (host.Finished acked ∷ before) are = since-bytes before are
since-bytes (host.Got bytes ∷ before) (is, are) = (is, since-bytes before are)
since-bytes (host.Restarted ∷ before) are = tt

-- what came back since the host's last restart are bytes, in a life of a program's configuration and events
pub came-in-bytes : Below → RepliesFollowEndings → (config : Config) (passes : ℕ) (events : List Event) → IsOfBytes config →
    IsLived config passes events → CarryBytes events → AreOfBytes (since_restart (life config passes events).entries)
came-in-bytes laws endings config passes events numbers lived carry =
    let replies : Replies = record { requests = laws.requests_are_exact; reads = laws.reads_are_answered; endings = endings } in
    since-bytes (life config passes events).entries (life-bytes laws replies config passes events numbers lived carry)

-- Damage that the packet error code always betrays is legal, and so no cause against an event.

-- what wasn't betrayed is, where it came so
damaged : Below → (before bytes came : List ℕ) → is_betrayed before bytes ≡ false → IsBetrayedDamage bytes came →
    is_betrayed before came ≡ true
damaged laws before bytes came good (burst others within) =
    laws.damage_is_betrayed.burst before bytes came others.were_bytes others.are_bytes good others.as_many others.other within
damaged laws before bytes came good (damage_few others short changed) =
    laws.damage_is_betrayed.few before bytes came others.were_bytes others.are_bytes good others.as_many others.other short changed
damaged laws before bytes came good (odd others changed) =
    laws.damage_is_betrayed.odd before bytes came others.were_bytes others.are_bytes good others.as_many changed

-- such damage of a write is a legal hearing
pub heard-legal : Below → (addr : ℕ) (message : Message) (frame bytes : List ℕ) (ending : Ending) → IsWrite addr message frame →
    IsBetrayedDamage frame bytes →
    is_legal_hearing frame bytes ending ≡ true
unfolding is_legal_hearing
heard-legal laws addr message frame bytes ending is damage =
    let good = false_from_ne_true (is_betrayed [] frame)
    (λ e. laws.betrayal_is_refused.write addr frame e (laws.writes_are_exact.spelled addr message frame is)) in
    or_right (is_restart ending) _
    (or_right (starts_with nat_eq frame bytes) (is_betrayed [] bytes) (damaged laws [] frame bytes good damage))

-- such damage of an answer is a legal return
pub return-legal : Below → {addr : ℕ} {request : Message} {frame payload answer bytes : List ℕ} (whole : Bool) →
    IsRequest addr request frame → IsAnswer addr request payload answer →
    IsBetrayedDamage answer bytes → is_legal_return frame (whole_answer request) whole answer bytes ≡ true
unfolding is_legal_return
return-legal laws {addr = addr} {request = request} {frame = frame} {payload = payload} {answer = answer} {bytes = bytes} whole asked is
    damage =
    let good = false_from_ne_true (is_betrayed (sent addr request) answer)
    (λ e. laws.betrayal_is_refused.answer addr request answer e (laws.answers_are_exact.spelled addr request payload answer is)) in
    let betrayed = subst (λ f. is_betrayed f bytes ≡ true) (sym asked.spelled) (damaged laws (sent addr request) answer bytes good damage)
    in
    or_right (whole && bytes_eq bytes answer) _ (or_right (nat_lt (length bytes) (whole_answer request)) (is_betrayed frame bytes) betrayed)
