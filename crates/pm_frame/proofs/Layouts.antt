-- A packet has no fault exactly where it has its layout.
use Rattle.std.specs.Prelude.{slice_range}
use Rattle.std.specs.Option.{option_map_or, option_or}
use Rattle.std.proofs.lemmas.Bool.Decides.{nat_tests}
use Rattle.std.proofs.Common.{Option, Some, None, is_some, ◌≡◌, ℕ, Bool, true, false, eqb, sym, ◌∙◌, refl, ap, ◌-◌, ◌<◌, not, List, [], ◌∷◌}
use Rattle.std.proofs.Common.{◌++◌, length, length-append, take, get_or, arith, suc, ◌+◌, ◌*◌, ◌/◌, ◌%◌, ◌≤◌, cond, length-take}
use Rattle.std.proofs.Common.{length-drop, get_or-take, get_or-drop, add-zero, zero, drop, ap₂, ◌&&◌, subst, ◌⊎◌, inl, inr, append_assoc}
use Rattle.std.proofs.Common.{IfSome, ◌≢◌, ◌||◌, ltb}
use Rattle.std.proofs.lemmas.Bool.{eqb-true, false≢true, eq-eqb, ne_eqb, not-false, or_parts, or_from, not_from_true, le-ltb, and_from}
use Rattle.std.proofs.lemmas.Bool.{cond-false, cond-true, and_parts, and_right, not_from_false, not-true, both_ways, ltb-false, eqb-false}
use Rattle.std.proofs.lemmas.List.{take-append-le, get_or-append_right, take_all, get_or_append_left}
use Rattle.pm_table.specs.Rules.{rule}
use Rattle.pm_table.specs.Codes as command
use Rattle.pm_table.specs.Commands.{Line, line_of, is_ever_written, is_known, is_written, is_read, payload_length}
use Rattle.pm_table.specs.RuleLemmas.{none-or, none-rule, or-none, rule-none}
use Rattle.pm_frame.specs.{Damage.EndsInPec, Lemmas.length_fault-found, Pec.pec_of, Whole.IsWhole, declared.message.Message.Message}
use Rattle.pm_frame.specs.{declared.message.Payload.Payload, declared.rules.Direction.Direction}
use Rattle.pm_frame.specs.BlockRead.{IsBlockAnswer, block_payload, block_fault}
use Rattle.pm_frame.specs.Fault.{codes_of, address_fault, opening_fault, length_fault, pec_fault, carried_fault, plain_fault, size_fault}
use Rattle.pm_frame.specs.Fault.{carried_count_fault, write_fault, whole_answer, answer_fault, block_request_fault, request_fault}
use Rattle.pm_frame.specs.Layout.{is_carried, payload_bytes, sent, write_address, fits_layout, is_read_message, is_plain_write, AreBytes}
use Rattle.pm_frame.specs.Layout.{IsWrite, with_pec, IsAnswer, answered, read_address, has_count, answer_length, IsRequest, is_plain_read}
use Rattle.pm_frame.specs.PagedRead.{IsPagedAnswer, is_other_count, paged_fault, paged_request}
use Rattle.pm_frame.specs.PlainRead.{IsPlainAnswer, code_request, most_read, plain_payload, plain_read_fault}
use Rattle.pm_frame.specs.View.{payload_in, plain_write, message_in, message_code, message_payload, answer_payload}
use Rattle.pm_frame.specs.declared.fault.FrameFault.TheVariants.{NotOurs, Short, Long, WrongPec, UnknownCode, WrongDirection, Nested}
use Rattle.pm_frame.specs.declared.fault.FrameFault.TheVariants.{WrongCount}
use Rattle.pm_frame.specs.declared.message.Message.TheVariants.{PagePlusWrite, ReadCommand, ReadCoefficients, SendByte, WriteByte}
use Rattle.pm_frame.specs.declared.message.Message.TheVariants.{WriteWord, PagePlusRead}
use Rattle.pm_frame.specs.declared.message.Payload.TheVariants.{Empty, Byte, Word}
use Rattle.pm_frame.specs.declared.rules.Direction.TheVariants.{Write, Read}

-- What the command table says of the codes that have a layout of their own.

-- a test that fails at one code tells another code from it
other_code : (test : ℕ → Bool) (code one : ℕ) → test one ≡ false → test code ≡ true → eqb code one ≡ false
other_code test code one at_one at_code = go (eqb code one) refl where
  go : (b : Bool) → eqb code one ≡ b → b ≡ false
  go false e = refl
  go true e = absurd (false≢true (sym at_one ∙ (ap test (sym (eqb-true code one e)) ∙ at_code)))

-- PAGE_PLUS_WRITE is written
pub wrapper-is_written : is_written command.page_plus_write ≡ true
unfolding line_of
wrapper-is_written = refl

-- PAGE_PLUS_READ is not written,
pub written-is_no_page_plus_read : (code : ℕ) → is_written code ≡ true → eqb code command.page_plus_read ≡ false
unfolding line_of
written-is_no_page_plus_read code h = other_code is_written code command.page_plus_read refl h

-- a code that is written isn't COEFFICIENTS
pub written-is_no_coefficients : (code : ℕ) → is_written code ≡ true → eqb code command.coefficients ≡ false
unfolding line_of
written-is_no_coefficients code h = other_code is_written code command.coefficients refl h

-- a code that is read isn't PAGE_PLUS_WRITE
pub read-is_no_page_plus_write : (code : ℕ) → is_read code ≡ true → eqb code command.page_plus_write ≡ false
unfolding line_of
read-is_no_page_plus_write code h = other_code is_read code command.page_plus_write refl h

-- a code of which the table says something stands in it
known_if : (line : Option Line) (field : Line → Bool) → option_map_or field line false ≡ true → is_some line ≡ true
known_if None field h = h
known_if (Some l) field h = refl

-- a code that goes one way stands in the table
pub codes_of-is_known : (direction : Direction) (code : ℕ) → codes_of direction code ≡ true → is_known code ≡ true
codes_of-is_known Write code h = known_if (line_of code) (λ l. is_ever_written l.protection) h
codes_of-is_known Read code h = known_if (line_of code) (λ l. l.reads) h

-- What follows where a rule of a frame doesn't apply, and where it's the first one that does.

-- the test of equality at one number,
pub eqb-same : (n : ℕ) → eqb n n ≡ true
eqb-same n = eq-eqb n n refl

-- a test for one number fails at a greater one
pub eqb-below : (m n : ℕ) → m < n → eqb n m ≡ false
eqb-below m n h = ne_eqb n m (λ e. omega arith)

-- the address byte is the wanted one
pub address_fault-none : (wanted : ℕ) (bytes : List ℕ) → address_fault wanted (wanted ∷ bytes) ≡ None
unfolding address_fault
address_fault-none wanted bytes =
    none-rule _ NotOurs (or_from _ _ (eqb-below 0 (length (wanted ∷ bytes)) (omega arith)) (not_from_true _ (eqb-same wanted)))

-- bytes with no fault there begin with the wanted one
pub address_fault-found : (wanted : ℕ) (bytes : List ℕ) → address_fault wanted bytes ≡ None → (rest : List ℕ) × (bytes ≡ wanted ∷ rest)
unfolding address_fault
address_fault-found wanted [] h = cc
address_fault-found wanted (byte ∷ rest) h =
    (rest, ap (λ x. x ∷ rest) (eqb-true byte wanted (not-false _ (or_parts _ _ (rule-none _ NotOurs h)).1)))

-- the address and another byte have no fault at the opening
pub opening_fault-none : (wanted second : ℕ) (bytes : List ℕ) → opening_fault wanted (wanted ∷ second ∷ bytes) ≡ None
unfolding opening_fault
opening_fault-none wanted second bytes =
    none-or _ _ (address_fault-none wanted (second ∷ bytes))
    (none-rule _ (Short 1) (eqb-below 1 (length (wanted ∷ second ∷ bytes)) (omega arith)))

-- bytes with no fault at the opening begin with the wanted byte and another
pub opening_fault-found : (wanted : ℕ) (bytes : List ℕ) → opening_fault wanted bytes ≡ None
    → (second : ℕ) × (rest : List ℕ) × (bytes ≡ wanted ∷ second ∷ rest)
unfolding opening_fault
opening_fault-found wanted bytes h = go bytes (or-none _ _ h) where
  go : (bytes : List ℕ) → (address_fault wanted bytes ≡ None) × (rule (eqb (length bytes) 1) (Short 1) ≡ None)
      → (second : ℕ) × (rest : List ℕ) × (bytes ≡ wanted ∷ second ∷ rest)
  go [] e = let found = address_fault-found wanted [] e.0 in cc (found.1)
  go (byte ∷ []) e = cc (e.1)
  go (byte ∷ second ∷ rest) e = let found = address_fault-found wanted (byte ∷ second ∷ rest) e.0 in (second, rest, cc (found.1))

-- there are as many bytes as wanted
pub length_fault-none : (wanted : ℕ) (bytes : List ℕ) → length bytes ≡ wanted → length_fault wanted bytes ≡ None
unfolding length_fault
length_fault-none wanted bytes h =
    none-or _ _ (none-rule _ (Short (length bytes)) (le-ltb (length bytes) wanted (omega arith)))
    (none-or _ _ (none-rule _ (Long wanted) (le-ltb wanted (length bytes) (omega arith))) refl)

-- what the rule on the PEC says where the last byte is seen
pub pec_fault-last : (before front : List ℕ) (last : ℕ)
    → pec_fault before (front ++ last ∷ []) ≡ rule (not (eqb last (pec_of (before ++ front)))) (WrongPec (length front))
unfolding pec_fault
pec_fault-last before front last =
    let place : length (front ++ last ∷ []) - 1 ≡ length front = rw length-append (omega arith) in
    let start : length front - length front ≡ 0 = omega arith in
    let at_last : get_or (front ++ last ∷ []) (length front) 0 ≡ last =
    get_or-append_right front (last ∷ []) (length front) (length front) 0 refl (omega arith) ∙ ap (λ n. get_or (last ∷ []) n 0) start in
    let before_last : take (length front) (front ++ last ∷ []) ≡ front =
    take-append-le (length front) front (last ∷ []) (omega arith) ∙ take_all (length front) front (omega arith) in
    rw (place, at_last, before_last) refl

-- bytes that end in their PEC have no fault on it,
pub pec_fault-none : (before front : List ℕ) → pec_fault before (front ++ pec_of (before ++ front) ∷ []) ≡ None
pec_fault-none before front =
    pec_fault-last before front _ ∙ none-rule _ (WrongPec (length front)) (not_from_true _ (eqb-same (pec_of (before ++ front))))

-- bytes with no fault of their PEC end in it
pub pec_fault-found : (before front : List ℕ) (last : ℕ) → pec_fault before (front ++ last ∷ []) ≡ None → last ≡ pec_of (before ++ front)
pec_fault-found before front last h =
    eqb-true _ _ (not-false _ (rule-none _ (WrongPec (length front)) (sym (pec_fault-last before front last) ∙ h)))

-- a plain code has no fault exactly where it goes this way
pub plain_fault-none : (direction : Direction) (code : ℕ) → codes_of direction code ≡ true → plain_fault direction code ≡ None
unfolding plain_fault
plain_fault-none direction code h =
    none-or _ _ (none-rule _ (UnknownCode 1) (not_from_true _ (codes_of-is_known direction code h)))
    (none-or _ _ (none-rule _ (WrongDirection 1) (not_from_true _ h)) refl)

-- a plain code with no fault goes this way
pub plain_fault-found : (direction : Direction) (code : ℕ) → plain_fault direction code ≡ None → codes_of direction code ≡ true
unfolding plain_fault
plain_fault-found direction code h = not-false _ (rule-none _ (WrongDirection 1) (or-none _ _ (or-none _ _ h).1).0)

-- a carried code has no fault exactly where PAGE_PLUS carries it and it goes this way
pub carried_fault-none : (direction : Direction) (code : ℕ) → is_carried code ≡ true → codes_of direction code ≡ true
    → carried_fault direction code ≡ None
unfolding carried_fault
carried_fault-none direction code carried h =
    none-or _ _ (none-rule _ (Nested 4) (not_from_true _ carried))
    (none-or _ _ (none-rule _ (UnknownCode 4) (not_from_true _ (codes_of-is_known direction code h)))
    (none-or _ _ (none-rule _ (WrongDirection 4) (not_from_true _ h)) refl))

-- a carried code with no fault is carried, and goes this way
pub carried_fault-found : (direction : Direction) (code : ℕ) → carried_fault direction code ≡ None
    → (is_carried code ≡ true) × (codes_of direction code ≡ true)
unfolding carried_fault
carried_fault-found direction code h =
    let nested = or-none _ _ h in
    let unknown = or-none _ _ nested.1 in
    (not-false _ (rule-none _ (Nested 4) nested.0), not-false _ (rule-none _ (WrongDirection 4) (or-none _ _ unknown.1).0))

-- A packet's bytes, seen as those before its payload, the payload, and the last one.

-- a list that isn't empty has a last element
pub last_of : (bytes : List ℕ) → 0 < length bytes → (front : List ℕ) × (last : ℕ) × (bytes ≡ front ++ last ∷ [])
last_of [] h = absurd (omega arith)
last_of (byte ∷ []) h = ([], byte, refl)
last_of (byte ∷ next ∷ bytes) h =
    let more = last_of (next ∷ bytes) (omega arith) in
    (byte ∷ more.0, more.1, ap (λ xs. byte ∷ xs) more.2)

-- what stands between the first places and the last byte
pub take-front : (front : List ℕ) (last n : ℕ) → n ≡ length front → take n (front ++ last ∷ []) ≡ front
take-front front last n h =
    ap (λ n. take n (front ++ last ∷ [])) h
    ∙ (take-append-le (length front) front (last ∷ []) (omega arith) ∙ take_all (length front) front (omega arith))

-- a payload is the one that its bytes are,
pub payload_in-bytes : (payload : Payload) → payload_in (payload_bytes payload) ≡ payload
payload_in-bytes Empty = refl
payload_in-bytes (Byte byte) = refl
payload_in-bytes (Word word) = ap (λ n. Word n) (omega arith)

-- at most two bytes are those of the payload that they are
pub bytes-payload_in : (bytes : List ℕ) → length bytes ≤ 2 → get_or bytes 0 0 < 256 → payload_bytes (payload_in bytes) ≡ bytes
bytes-payload_in [] h low = refl
bytes-payload_in (byte ∷ []) h low = refl
bytes-payload_in (first ∷ second ∷ []) h low =
    let low_byte : (first + 256 * second) % 256 ≡ first = omega arith in
    let high_byte : (first + 256 * second) / 256 ≡ second = omega arith in
    ap₂ (λ x y. x ∷ y ∷ []) low_byte high_byte
bytes-payload_in (first ∷ second ∷ third ∷ bytes) h low = absurd (omega arith)

-- a plain packet that writes, whatever its payload
pub sent-plain : (addr code : ℕ) (payload : Payload)
    → sent addr (plain_write code payload) ≡ write_address addr ∷ code ∷ payload_bytes payload
sent-plain addr code Empty = refl
sent-plain addr code (Byte byte) = refl
sent-plain addr code (Word word) = refl

-- such a packet is no read
pub is_read-plain : (code : ℕ) (payload : Payload) → is_read_message (plain_write code payload) ≡ false
is_read-plain code Empty = refl
is_read-plain code (Byte byte) = refl
is_read-plain code (Word word) = refl

-- a plain write fits where the code has a payload of that length
pub fits-plain : (code : ℕ) (payload : Payload) → is_plain_write code ≡ true → payload_length code ≡ length (payload_bytes payload)
    → fits_layout (plain_write code payload) ≡ true
fits-plain code Empty plain h = and_from _ _ plain (eq-eqb _ _ h)
fits-plain code (Byte byte) plain h = and_from _ _ plain (eq-eqb _ _ h)
fits-plain code (Word word) plain h = and_from _ _ plain (eq-eqb _ _ h)

-- the message that a plain write's bytes are
pub message_in-plain : (first code : ℕ) (payload : List ℕ) (last : ℕ) → eqb code command.page_plus_write ≡ false
    → eqb code command.page_plus_read ≡ false → eqb code command.coefficients ≡ false
    → message_in (first ∷ code ∷ (payload ++ last ∷ [])) ≡ plain_write code (payload_in payload)
unfolding message_in
message_in-plain first code payload last not_05 not_06 not_30 =
    let many : eqb (length (first ∷ code ∷ (payload ++ last ∷ []))) 2 ≡ false =
    eqb-below 2 _ (omega (arith, length-append payload (last ∷ []))) in
    let between : slice_range (first ∷ code ∷ (payload ++ last ∷ [])) 2 (length (first ∷ code ∷ (payload ++ last ∷ [])) - 1) ≡ payload =
    take-front payload last _ (omega (arith, length-append payload (last ∷ []))) in
    rw (not_05, not_06, not_30, many) (ap (λ bytes. plain_write code (payload_in bytes)) between)

-- the message that the bytes of a PAGE_PLUS_WRITE are
pub message_in-carried : (first count page code : ℕ) (payload : List ℕ) (last : ℕ)
    → message_in (first ∷ command.page_plus_write ∷ count ∷ page ∷ code ∷ (payload ++ last ∷ []))
    ≡ PagePlusWrite page code (payload_in payload)
unfolding message_in
message_in-carried first count page code payload last =
    let between : slice_range (first ∷ command.page_plus_write ∷ count ∷ page ∷ code ∷ (payload ++ last ∷ [])) 5
    (length (first ∷ command.page_plus_write ∷ count ∷ page ∷ code ∷ (payload ++ last ∷ [])) - 1) ≡ payload =
    take-front payload last _ (omega (arith, length-append payload (last ∷ []))) in
    ap (λ bytes. PagePlusWrite page code (payload_in bytes)) between

-- what stands between a place and the last byte is short where the whole is,
short_part : (bytes : List ℕ) (place : ℕ) → length bytes ≤ place + 3 → length (slice_range bytes place (length bytes - 1)) ≤ 2
short_part bytes place h = omega (arith, length-take (length bytes - 1 - place) (drop place bytes), length-drop place bytes)

-- the first byte of such a part is a byte
low_part : (bytes : List ℕ) (place : ℕ) → get_or bytes place 0 < 256 → get_or (slice_range bytes place (length bytes - 1)) 0 0 < 256
low_part bytes place h = go (length bytes - 1 - place) where
  go : (n : ℕ) → get_or (take n (drop place bytes)) 0 0 < 256
  go zero = omega arith
  go (suc n) = rw (get_or-take (suc n) (drop place bytes) 0 0 (omega arith), get_or-drop place bytes 0 0) (rw add-zero h)

-- the code of a plain packet that writes,
message_code-plain : (code : ℕ) (payload : Payload) → message_code (plain_write code payload) ≡ code
message_code-plain code Empty = refl
message_code-plain code (Byte byte) = refl
message_code-plain code (Word word) = refl

-- the payload of a plain write, as bytes
message_payload-plain_write : (code : ℕ) (payload : Payload) → message_payload (plain_write code payload) ≡ payload_bytes payload
message_payload-plain_write code Empty = refl
message_payload-plain_write code (Byte byte) = refl
message_payload-plain_write code (Word word) = refl

-- the code of a packet that isn't PAGE_PLUS
pub message_code-other : (bytes : List ℕ) → (get_or bytes 1 0 ≡ command.page_plus_write → ⊥)
    → (get_or bytes 1 0 ≡ command.page_plus_read → ⊥) → message_code (message_in bytes) ≡ get_or bytes 1 0
unfolding message_in
message_code-other bytes h k =
    let not_05 = ne_eqb _ _ h in
    let not_06 = ne_eqb _ _ k in
    rw (not_05, not_06) (go (eqb (get_or bytes 1 0) command.coefficients) refl (eqb (length bytes) 2))
  where
    go : (coefficients : Bool) → eqb (get_or bytes 1 0) command.coefficients ≡ coefficients → (two : Bool)
        → message_code (cond coefficients (ReadCoefficients (get_or bytes 3 0) (get_or bytes 4 0))
        (cond two (ReadCommand (get_or bytes 1 0))
        (plain_write (get_or bytes 1 0) (payload_in (slice_range bytes 2 (length bytes - 1)))))) ≡ get_or bytes 1 0
    go true is two = sym (eqb-true _ _ is)
    go false is true = refl
    go false is false = message_code-plain _ (payload_in (slice_range bytes 2 (length bytes - 1)))

-- the payload of a PAGE_PLUS_WRITE
pub message_payload-carried : (bytes : List ℕ) → get_or bytes 1 0 ≡ command.page_plus_write → length bytes ≤ 8 → get_or bytes 5 0 < 256
    → message_payload (message_in bytes) ≡ slice_range bytes 5 (length bytes - 1)
unfolding message_in
message_payload-carried bytes is short low =
    let is_05 = eq-eqb _ _ is in
    rw is_05 (bytes-payload_in (slice_range bytes 5 (length bytes - 1)) (short_part bytes 5 (omega arith)) (low_part bytes 5 low))

-- the payload of a plain write
pub message_payload-plain : (bytes : List ℕ) → (get_or bytes 1 0 ≡ command.page_plus_write → ⊥)
    → (get_or bytes 1 0 ≡ command.page_plus_read → ⊥) → (get_or bytes 1 0 ≡ command.coefficients → ⊥) → (length bytes ≡ 2 → ⊥)
    → length bytes ≤ 5 → get_or bytes 2 0 < 256 → message_payload (message_in bytes) ≡ slice_range bytes 2 (length bytes - 1)
unfolding message_in
message_payload-plain bytes h k l m short low =
    let not_05 = ne_eqb _ _ h in
    let not_06 = ne_eqb _ _ k in
    let not_30 = ne_eqb _ _ l in
    let not_two = ne_eqb _ _ m in
    rw (not_05, not_06, not_30, not_two)
    (message_payload-plain_write _ (payload_in (slice_range bytes 2 (length bytes - 1)))
    ∙ bytes-payload_in (slice_range bytes 2 (length bytes - 1)) (short_part bytes 2 (omega arith)) (low_part bytes 2 low))

-- A packet that writes has no fault exactly where it has the layout of a message, and that message
-- is the one that its bytes are.

-- each group of rules leaves the bytes alone
record Faultless (addr : ℕ) (bytes : List ℕ) : Type 0 where
  opening : opening_fault (write_address addr) bytes ≡ None
  size : size_fault bytes ≡ None
  pec : pec_fault [] bytes ≡ None
  code : cond (eqb (get_or bytes 1 0) command.page_plus_write) (carried_fault Write (get_or bytes 4 0))
      (plain_fault Write (get_or bytes 1 0)) ≡ None

-- bytes with no fault have none in any group of rules,
faultless : (addr : ℕ) (bytes : List ℕ) → write_fault addr bytes ≡ None → Faultless addr bytes
unfolding write_fault
faultless addr bytes h =
    let opening = or-none _ _ h in
    let size = or-none _ _ opening.1 in
    let pec = or-none _ _ size.1 in
    record { opening = opening.0; size = size.0; pec = pec.0; code = (or-none _ _ pec.1).0 }

-- bytes with no fault in any group have no fault
write_fault-none : (addr : ℕ) (bytes : List ℕ) → Faultless addr bytes → write_fault addr bytes ≡ None
unfolding write_fault
write_fault-none addr bytes h = none-or _ _ h.opening (none-or _ _ h.size (none-or _ _ h.pec (none-or _ _ h.code refl)))

-- a plain write that fits has no fault
plain-none : (addr code : ℕ) (payload : Payload) → is_plain_write code ≡ true → payload_length code ≡ length (payload_bytes payload)
    → write_fault addr (with_pec [] (write_address addr ∷ code ∷ payload_bytes payload)) ≡ None
unfolding size_fault
plain-none addr code payload plain fits =
    let bytes = with_pec [] (write_address addr ∷ code ∷ payload_bytes payload) in
    let parts = and_parts _ _ plain in
    let not_05 : eqb code command.page_plus_write ≡ false = not-true _ parts.1 in
    let whole : length bytes ≡ payload_length code + 3 =
    omega (arith, length-append (payload_bytes payload) (pec_of (write_address addr ∷ code ∷ payload_bytes payload) ∷ [])) in
    write_fault-none addr bytes record {
      opening = opening_fault-none (write_address addr) code _;
      size = cond-true _ _ _ plain ∙ length_fault-none (payload_length code + 3) bytes whole;
      pec = pec_fault-none [] (write_address addr ∷ code ∷ payload_bytes payload);
      code = cond-false _ _ _ not_05 ∙ plain_fault-none Write code parts.0;
    }

-- a PAGE_PLUS_WRITE that fits has no fault
carried-none : (addr page code : ℕ) (payload : Payload) → fits_layout (PagePlusWrite page code payload) ≡ true
    → write_fault addr (with_pec [] (sent addr (PagePlusWrite page code payload))) ≡ None
unfolding size_fault carried_count_fault
carried-none addr page code payload fits =
    let bytes = with_pec [] (sent addr (PagePlusWrite page code payload)) in
    let counted = and_parts _ _ fits in
    let allowed = and_parts _ _ counted.0 in
    let size : payload_length code ≡ length (payload_bytes payload) = eqb-true _ _ counted.1 in
    let more = length-append (payload_bytes payload) (pec_of (sent addr (PagePlusWrite page code payload)) ∷ []) in
    let not_two : eqb (length bytes) 2 ≡ false = eqb-below 2 (length bytes) (omega arith) in
    let not_plain : is_plain_write command.page_plus_write ≡ false = and_right _ _ refl in
    let count = 2 + length (payload_bytes payload) in
    let right_count : eqb count (payload_length code + 2) ≡ true = eq-eqb count (payload_length code + 2) (omega arith) in
    write_fault-none addr bytes record {
      opening = opening_fault-none (write_address addr) command.page_plus_write _;
      size = cond-false _ _ _ not_plain ∙ (cond-false _ _ _ not_two
          ∙ none-or _ _ (length_fault-none (count + 4) bytes (omega arith))
          (none-or _ _ (none-rule _ (WrongCount 2) (le-ltb count 2 (omega arith)))
          (none-or _ _ (none-rule _ (WrongCount 2) (and_right _ _ (not_from_true _ right_count))) refl)));
      pec = pec_fault-none [] (sent addr (PagePlusWrite page code payload));
      code = carried_fault-none Write code allowed.0 allowed.1;
    }

-- bytes of the layout of a write have no fault
pub write_fault-spelled : (addr : ℕ) (message : Message) (bytes : List ℕ) → IsWrite addr message bytes → write_fault addr bytes ≡ None
write_fault-spelled addr message bytes h = ap (write_fault addr) h.spelled ∙ go message h.writes h.fits where
  go : (message : Message) → is_read_message message ≡ false → fits_layout message ≡ true
      → write_fault addr (with_pec [] (sent addr message)) ≡ None
  go (SendByte code) w f = let both = and_parts _ _ f in plain-none addr code Empty both.0 (eqb-true _ _ both.1)
  go (WriteByte code byte) w f = let both = and_parts _ _ f in plain-none addr code (Byte byte) both.0 (eqb-true _ _ both.1)
  go (WriteWord code word) w f = let both = and_parts _ _ f in plain-none addr code (Word word) both.0 (eqb-true _ _ both.1)
  go (PagePlusWrite page code payload) w f = carried-none addr page code payload f
  go (ReadCommand code) w f = absurd (false≢true (sym w))
  go (PagePlusRead page code) w f = absurd (false≢true (sym w))
  go (ReadCoefficients code side) w f = absurd (false≢true (sym w))

-- the message of a write is the one that its bytes are
pub message_in-write : (addr : ℕ) (message : Message) (bytes : List ℕ) → IsWrite addr message bytes → message_in bytes ≡ message
message_in-write addr message bytes h = ap message_in h.spelled ∙ go message h.writes h.fits where
  plain : (code : ℕ) (payload : Payload) → is_plain_write code ≡ true
      → message_in (with_pec [] (write_address addr ∷ code ∷ payload_bytes payload)) ≡ plain_write code payload
  plain code payload f =
      let parts = and_parts _ _ f in
      message_in-plain (write_address addr) code (payload_bytes payload) _ (not-true _ parts.1) (written-is_no_page_plus_read code parts.0)
      (written-is_no_coefficients code parts.0)
      ∙ ap (plain_write code) (payload_in-bytes payload)

  go : (message : Message) → is_read_message message ≡ false → fits_layout message ≡ true
      → message_in (with_pec [] (sent addr message)) ≡ message
  go (SendByte code) w f = plain code Empty (and_parts _ _ f).0
  go (WriteByte code byte) w f = plain code (Byte byte) (and_parts _ _ f).0
  go (WriteWord code word) w f = plain code (Word word) (and_parts _ _ f).0
  go (PagePlusWrite page code payload) w f =
      message_in-carried (write_address addr) _ page code (payload_bytes payload) _
      ∙ ap (PagePlusWrite page code) (payload_in-bytes payload)
  go (ReadCommand code) w f = absurd (false≢true (sym w))
  go (PagePlusRead page code) w f = absurd (false≢true (sym w))
  go (ReadCoefficients code side) w f = absurd (false≢true (sym w))

-- a faultless packet is as long as its code, or its count, asks
pub packet_length : ℕ → ℕ → ℕ
packet_length code count = cond (is_plain_write code) (payload_length code + 3) (count + 4)

-- the first byte of a list is that of its front
low_of : (front rest : List ℕ) (last : ℕ) → rest ≡ front ++ last ∷ [] → get_or rest 0 0 < 256 → get_or front 0 0 < 256
low_of [] rest last split h = omega arith
low_of (byte ∷ front) rest last split h = subst (λ xs. get_or xs 0 0 < 256) split h

-- no payload in the command table is longer than two bytes, which `payloads_are_short` ensures
abbrev pub AreShort : Type 0
AreShort = (code : ℕ) → payload_length code ≤ 2

-- what a faultless plain write is made of
plain-found : AreShort → (addr code : ℕ) (rest : List ℕ) → AreBytes (write_address addr ∷ code ∷ rest) → is_plain_write code ≡ true
    → length (write_address addr ∷ code ∷ rest) ≡ payload_length code + 3 → pec_fault [] (write_address addr ∷ code ∷ rest) ≡ None
    → IsWrite addr (message_in (write_address addr ∷ code ∷ rest)) (write_address addr ∷ code ∷ rest)
plain-found are_short addr code rest are_bytes plain whole pec = go rest are_bytes whole pec (last_of rest (omega arith)) where
  go : (rest : List ℕ) → AreBytes (write_address addr ∷ code ∷ rest) → length (write_address addr ∷ code ∷ rest) ≡ payload_length code + 3
      → pec_fault [] (write_address addr ∷ code ∷ rest) ≡ None → ((front : List ℕ) × (last : ℕ) × (rest ≡ front ++ last ∷ []))
      → IsWrite addr (message_in (write_address addr ∷ code ∷ rest)) (write_address addr ∷ code ∷ rest)
  go rest are_bytes whole pec (front, last, split) =
      let parts = and_parts _ _ plain in
      let bytes : write_address addr ∷ code ∷ rest ≡ write_address addr ∷ code ∷ (front ++ last ∷ []) =
      ap (λ xs. write_address addr ∷ code ∷ xs) split in
      let size : length front ≡ payload_length code = omega (arith, length-append front (last ∷ []), ap length split) in
      let low : get_or front 0 0 < 256 = low_of front rest last split (are_bytes 2) in
      let payload : payload_bytes (payload_in front) ≡ front = bytes-payload_in front (omega (arith, are_short code)) low in
      let found : message_in (write_address addr ∷ code ∷ rest) ≡ plain_write code (payload_in front) =
      ap message_in bytes ∙ message_in-plain (write_address addr) code front last (not-true _ parts.1)
      (written-is_no_page_plus_read code parts.0) (written-is_no_coefficients code parts.0) in
      let sent_is : sent addr (plain_write code (payload_in front)) ≡ write_address addr ∷ code ∷ front =
      sent-plain addr code (payload_in front) ∙ ap (λ xs. write_address addr ∷ code ∷ xs) payload in
      let last_is : last ≡ pec_of (write_address addr ∷ code ∷ front) =
      pec_fault-found [] (write_address addr ∷ code ∷ front) last (sym (ap (pec_fault []) bytes) ∙ pec) in
      record {
        writes = ap is_read_message found ∙ is_read-plain code (payload_in front);
        fits = ap fits_layout found ∙ fits-plain code (payload_in front) plain (sym size ∙ sym (ap length payload));
        spelled = bytes ∙ (ap (λ x. write_address addr ∷ code ∷ (front ++ x ∷ [])) last_is
            ∙ sym (ap (λ m. with_pec [] (sent addr m)) found ∙ ap (with_pec []) sent_is));
      }

-- what the size rules and the code rules of a faultless packet say together
record FoundCarried (bytes : List ℕ) : Type 0 where
  is_wrapper : get_or bytes 1 0 ≡ command.page_plus_write
  whole : length bytes ≡ get_or bytes 2 0 + 4
  carried : is_carried (get_or bytes 4 0) ≡ true
  written : is_written (get_or bytes 4 0) ≡ true
  counted : get_or bytes 2 0 ≡ payload_length (get_or bytes 4 0) + 2

-- what is found of a plain write
record FoundPlain (bytes : List ℕ) : Type 0 where
  plain : is_plain_write (get_or bytes 1 0) ≡ true
  whole : length bytes ≡ payload_length (get_or bytes 1 0) + 3

-- what a faultless PAGE_PLUS_WRITE is made of
carried-found : {count page code : ℕ} {rest : List ℕ} → AreShort → (addr : ℕ)
    → AreBytes (write_address addr ∷ command.page_plus_write ∷ count ∷ page ∷ code ∷ rest)
    → FoundCarried (write_address addr ∷ command.page_plus_write ∷ count ∷ page ∷ code ∷ rest)
    → pec_fault [] (write_address addr ∷ command.page_plus_write ∷ count ∷ page ∷ code ∷ rest) ≡ None
    → IsWrite addr (message_in (write_address addr ∷ command.page_plus_write ∷ count ∷ page ∷ code ∷ rest))
    (write_address addr ∷ command.page_plus_write ∷ count ∷ page ∷ code ∷ rest)
carried-found {count} {page} {code} {rest} are_short addr are_bytes f pec =
    let whole : length rest ≡ payload_length code + 1 = omega (arith, f.whole, f.counted) in
    go (last_of rest (omega arith)) whole
  where
    go : ((front : List ℕ) × (last : ℕ) × (rest ≡ front ++ last ∷ [])) → length rest ≡ payload_length code + 1
        → IsWrite addr (message_in (write_address addr ∷ command.page_plus_write ∷ count ∷ page ∷ code ∷ rest))
        (write_address addr ∷ command.page_plus_write ∷ count ∷ page ∷ code ∷ rest)
    go (front, last, split) whole =
        let head : List ℕ → List ℕ = λ xs. write_address addr ∷ command.page_plus_write ∷ count ∷ page ∷ code ∷ xs in
        let bytes : head rest ≡ head (front ++ last ∷ []) = ap head split in
        let size : length front ≡ payload_length code = omega (arith, length-append front (last ∷ []), ap length split) in
        let low : get_or front 0 0 < 256 = low_of front rest last split (are_bytes 5) in
        let payload : payload_bytes (payload_in front) ≡ front = bytes-payload_in front (omega (arith, are_short code)) low in
        let found : message_in (head rest) ≡ PagePlusWrite page code (payload_in front) =
        ap message_in bytes ∙ message_in-carried (write_address addr) count page code front last in
        let count_is : count ≡ 2 + length (payload_bytes (payload_in front)) = omega (arith, f.counted, ap length payload) in
        let sent_is : sent addr (PagePlusWrite page code (payload_in front)) ≡ head front =
        ap₂ (λ n xs. write_address addr ∷ command.page_plus_write ∷ n ∷ page ∷ code ∷ xs) (sym count_is) payload in
        let last_is : last ≡ pec_of (head front) = pec_fault-found [] (head front) last (sym (ap (pec_fault []) bytes) ∙ pec) in
        record {
          writes = ap is_read_message found;
          fits = ap fits_layout found ∙ and_from _ _ (and_from _ _ f.carried f.written) (eq-eqb _ _ (sym size ∙ sym (ap length payload)));
          spelled = bytes ∙ (ap (λ x. head (front ++ x ∷ [])) last_is
              ∙ sym (ap (λ m. with_pec [] (sent addr m)) found ∙ ap (with_pec []) sent_is));
        }

-- the second part of a false conjunction is false if the first part holds
second_false : (a b : Bool) → a ≡ true → (a && b) ≡ false → b ≡ false
second_false true b h e = e
second_false false b h e = absurd (false≢true h)

-- what is found where no plain packet writes the code: a PAGE_PLUS_WRITE
not_plain-cases : (bytes : List ℕ) (wrapper : Bool) → eqb (get_or bytes 1 0) command.page_plus_write ≡ wrapper → size_fault bytes ≡ None
    → cond wrapper (carried_fault Write (get_or bytes 4 0)) (plain_fault Write (get_or bytes 1 0)) ≡ None
    → is_plain_write (get_or bytes 1 0) ≡ false → FoundPlain bytes ⊎ FoundCarried bytes
unfolding size_fault carried_count_fault
not_plain-cases bytes false other size code not_plain =
    absurd (both_ways _ not_plain (and_from _ _ (plain_fault-found Write _ code) (not_from_false _ other)))
not_plain-cases bytes true wrapper size code not_plain =
    let codes = carried_fault-found Write _ code in
    let sized = sym (cond-false _ _ _ not_plain) ∙ size in
    inr (go (eqb (length bytes) 2) codes sized)
  where
    go : (two : Bool) → (is_carried (get_or bytes 4 0) ≡ true) × (is_written (get_or bytes 4 0) ≡ true)
        → cond two (Some (Short 2))
        (cond (eqb (get_or bytes 1 0) command.page_plus_write)
        (option_or (length_fault (get_or bytes 2 0 + 4) bytes) (carried_count_fault bytes)) None) ≡ None → FoundCarried bytes
    go true codes sized = cc sized
    go false codes sized =
        let both = or-none _ _ (sym (cond-true _ _ _ wrapper) ∙ sized) in
        let wrong = rule-none _ (WrongCount 2) (or-none _ _ (or-none _ _ both.1).1).0 in
        record {
          is_wrapper = eqb-true _ _ wrapper;
          whole = length_fault-found _ bytes both.0;
          carried = codes.0;
          written = codes.1;
          counted = eqb-true _ _ (not-false _ (second_false _ _ (and_from _ _ codes.0 codes.1) wrong));
        }

-- a faultless packet is a plain write or a PAGE_PLUS_WRITE
write_cases : (addr : ℕ) (bytes : List ℕ) → Faultless addr bytes → FoundPlain bytes ⊎ FoundCarried bytes
unfolding size_fault
write_cases addr bytes h = go (is_plain_write (get_or bytes 1 0)) refl where
  go : (plain : Bool) → is_plain_write (get_or bytes 1 0) ≡ plain → FoundPlain bytes ⊎ FoundCarried bytes
  go true plain = inl record { plain = plain; whole = length_fault-found _ bytes (sym (cond-true _ _ _ plain) ∙ h.size) }
  go false plain = not_plain-cases bytes (eqb (get_or bytes 1 0) command.page_plus_write) refl h.size h.code plain

-- bytes with no fault have the layout of the message that they are
pub write_fault-found : AreShort → (addr : ℕ) (bytes : List ℕ) → AreBytes bytes → write_fault addr bytes ≡ None
    → IsWrite addr (message_in bytes) bytes
write_fault-found are_short addr bytes are_bytes h =
    let parts = faultless addr bytes h in
    go bytes are_bytes parts (write_cases addr bytes parts) (opening_fault-found (write_address addr) bytes parts.opening)
  where
    five : (code : ℕ) (rest : List ℕ) → AreBytes (write_address addr ∷ code ∷ rest) → pec_fault [] (write_address addr ∷ code ∷ rest) ≡ None
        → FoundCarried (write_address addr ∷ code ∷ rest)
        → IsWrite addr (message_in (write_address addr ∷ code ∷ rest)) (write_address addr ∷ code ∷ rest)
    five code [] b p f = absurd (omega (arith, f.whole))
    five code (count ∷ []) b p f = absurd (omega (arith, f.whole, f.counted))
    five code (count ∷ page ∷ []) b p f = absurd (omega (arith, f.whole, f.counted))
    five code (count ∷ page ∷ carried ∷ rest) b p f =
        subst (λ c. AreBytes (write_address addr ∷ c ∷ count ∷ page ∷ carried ∷ rest)
        → FoundCarried (write_address addr ∷ c ∷ count ∷ page ∷ carried ∷ rest)
        → pec_fault [] (write_address addr ∷ c ∷ count ∷ page ∷ carried ∷ rest) ≡ None
        → IsWrite addr (message_in (write_address addr ∷ c ∷ count ∷ page ∷ carried ∷ rest))
        (write_address addr ∷ c ∷ count ∷ page ∷ carried ∷ rest))
        (sym f.is_wrapper) (carried-found are_short addr) b f p

    here : (code : ℕ) (rest : List ℕ) → AreBytes (write_address addr ∷ code ∷ rest) → Faultless addr (write_address addr ∷ code ∷ rest)
        → FoundPlain (write_address addr ∷ code ∷ rest) ⊎ FoundCarried (write_address addr ∷ code ∷ rest)
        → IsWrite addr (message_in (write_address addr ∷ code ∷ rest)) (write_address addr ∷ code ∷ rest)
    here code rest b p (inl f) = plain-found are_short addr code rest b f.plain f.whole p.pec
    here code rest b p (inr f) = five code rest b p.pec f

    go : (bytes : List ℕ) → AreBytes bytes → Faultless addr bytes → FoundPlain bytes ⊎ FoundCarried bytes
        → ((second : ℕ) × (rest : List ℕ) × (bytes ≡ write_address addr ∷ second ∷ rest)) → IsWrite addr (message_in bytes) bytes
    go bytes b p f (code, rest, split) =
        subst (λ xs. AreBytes xs → Faultless addr xs → FoundPlain xs ⊎ FoundCarried xs → IsWrite addr (message_in xs) xs) (sym split)
        (here code rest) b p f

-- a faultless packet has as many bytes as its second and third say
write_fault-length : (addr : ℕ) (bytes : List ℕ) → write_fault addr bytes ≡ None
    → length bytes ≡ packet_length (get_or bytes 1 0) (get_or bytes 2 0)
unfolding packet_length
write_fault-length addr bytes h = go (write_cases addr bytes (faultless addr bytes h)) where
  go : FoundPlain bytes ⊎ FoundCarried bytes
      → length bytes ≡ cond (is_plain_write (get_or bytes 1 0)) (payload_length (get_or bytes 1 0) + 3) (get_or bytes 2 0 + 4)
  go (inl f) = f.whole ∙ sym (cond-true _ _ _ f.plain)
  go (inr f) = f.whole ∙ sym (cond-false _ _ _ (ap is_plain_write f.is_wrapper ∙ and_right _ _ refl))

-- a write has three bytes at least
at_least : (plain : Bool) (n m k : ℕ) → n ≡ cond plain (m + 3) (k + 4) → 3 ≤ n
at_least true n m k h = omega arith
at_least false n m k h = omega arith

-- a list of no length is empty
pub empty_of : (xs : List ℕ) → length xs ≡ 0 → xs ≡ []
empty_of [] h = refl
empty_of (x ∷ xs) h = absurd (omega arith)

-- no write is a strict prefix of another
pub write-front : (addr : ℕ) (front rest : List ℕ) → write_fault addr front ≡ None → write_fault addr (front ++ rest) ≡ None → rest ≡ []
unfolding packet_length
write-front addr front rest h k =
    let short = write_fault-length addr front h in
    let long = write_fault-length addr (front ++ rest) k in
    let three : 3 ≤ length front =
    at_least (is_plain_write (get_or front 1 0)) _ (payload_length (get_or front 1 0)) (get_or front 2 0) short in
    let same_code = get_or_append_left front rest 0 1 (omega arith) in
    let same_count = get_or_append_left front rest 0 2 (omega arith) in
    let same : packet_length (get_or (front ++ rest) 1 0) (get_or (front ++ rest) 2 0)
    ≡ packet_length (get_or front 1 0) (get_or front 2 0) = ap₂ packet_length same_code same_count in
    empty_of rest (omega (arith, length-append front rest))

-- the last byte of a write is the PEC of those before it
pub write-last : (addr last : ℕ) (front : List ℕ) → write_fault addr (front ++ last ∷ []) ≡ None → last ≡ pec_of front
write-last addr last front h = pec_fault-found [] front last (faultless addr (front ++ last ∷ []) h).pec

-- a write has three bytes at least, and its code is written
pub write-first : (addr : ℕ) (bytes : List ℕ) → write_fault addr bytes ≡ None → (3 ≤ length bytes) × (is_written (get_or bytes 1 0) ≡ true)
write-first addr bytes h = go (write_cases addr bytes (faultless addr bytes h)) where
  go : FoundPlain bytes ⊎ FoundCarried bytes → (3 ≤ length bytes) × (is_written (get_or bytes 1 0) ≡ true)
  go (inl f) = (omega (arith, f.whole), (and_parts _ _ f.plain).0)
  go (inr f) = (omega (arith, f.whole), ap is_written f.is_wrapper ∙ wrapper-is_written)

-- a write ends in its PEC
pub write-ends : (addr : ℕ) (bytes : List ℕ) → write_fault addr bytes ≡ None → EndsInPec bytes
write-ends addr bytes none =
    let some : 0 < length bytes = omega (arith, (write-first addr bytes none).0) in
    let parts = last_of bytes some in
    let last : parts.1 ≡ pec_of parts.0 = write-last addr parts.1 parts.0 (sym (ap (write_fault addr) parts.2) ∙ none) in
    record { front = parts.0; is = parts.2 ∙ ap (λ x. parts.0 ++ x ∷ []) last }

-- What came back for a request has no fault exactly where it has the layout of an answer to it,
-- with the payload between.

-- an answer with its address and count in front
shaped : Bool → ℕ → List ℕ → List ℕ
shaped counted addr payload = cond counted (read_address addr ∷ length payload ∷ payload) (read_address addr ∷ payload)

-- how many bytes an answer has before its PEC
shaped-length : (counted : Bool) (addr : ℕ) (payload : List ℕ) → length (shaped counted addr payload) ≡ cond counted 2 1 + length payload
unfolding shaped
shaped-length true addr payload = omega arith
shaped-length false addr payload = omega arith

-- the payload of an answer stands where the definition looks for it
shaped-payload : (counted : Bool) (addr : ℕ) (payload : List ℕ) (last : ℕ)
    → slice_range (shaped counted addr payload ++ last ∷ []) (cond counted 2 1) (length (shaped counted addr payload ++ last ∷ []) - 1)
    ≡ payload
unfolding shaped
shaped-payload true addr payload last = take-front payload last _ (omega (arith, length-append payload (last ∷ [])))
shaped-payload false addr payload last = take-front payload last _ (omega (arith, length-append payload (last ∷ [])))

-- the payload of an answer stands between its first places and its last byte
pub answer-payload : (addr : ℕ) (request : Message) (payload bytes : List ℕ) → IsAnswer addr request payload bytes
    → answer_payload request bytes ≡ payload
unfolding shaped
answer-payload addr request payload bytes h =
    subst (λ xs. slice_range xs (cond (has_count request) 2 1) (length xs - 1) ≡ payload) (sym h.spelled)
    (shaped-payload (has_count request) addr payload (pec_of (sent addr request ++ answered addr request payload)))

-- bytes of an answer's layout are as many as a whole answer has
answer-length : (addr : ℕ) (request : Message) (payload bytes : List ℕ) → IsAnswer addr request payload bytes
    → length bytes ≡ whole_answer request
unfolding shaped
answer-length addr request payload bytes h =
    let last = pec_of (sent addr request ++ answered addr request payload) in
    let spelled = ap length h.spelled in
    let more = length-append (answered addr request payload) (last ∷ []) in
    let size = shaped-length (has_count request) addr payload in
    go (has_count request) (length (answered addr request payload)) size (omega arith)
  where
    go : (counted : Bool) (n : ℕ) → n ≡ cond counted 2 1 + length payload → length bytes ≡ n + 1
        → length bytes ≡ cond counted 3 2 + answer_length request
    go true n e f = omega (arith, h.counted)
    go false n e f = omega (arith, h.counted)

-- bytes of the layout of an answer have no fault
pub answer_fault-spelled : (addr : ℕ) (request : Message) (payload bytes : List ℕ) → IsAnswer addr request payload bytes
    → answer_fault addr request bytes ≡ None
unfolding answer_fault
answer_fault-spelled addr request payload bytes h =
    none-or _ _ (ap (address_fault (read_address addr)) h.spelled ∙ opened (has_count request) _)
    (none-or _ _ (length_fault-none _ bytes (answer-length addr request payload bytes h))
    (none-or _ _ (none-rule _ (WrongCount 1)
    (ap (λ xs. has_count request && not (eqb (get_or xs 1 0) (answer_length request))) h.spelled ∙ counted (has_count request) _))
    (none-or _ _ (ap (pec_fault (sent addr request)) h.spelled ∙ pec_fault-none (sent addr request) (answered addr request payload)) refl)))
  where
    opened : (is_counted : Bool) (last : ℕ)
        → address_fault (read_address addr)
        (cond is_counted (read_address addr ∷ length payload ∷ payload) (read_address addr ∷ payload) ++ last ∷ []) ≡ None
    opened true last = address_fault-none (read_address addr) _
    opened false last = address_fault-none (read_address addr) _

    counted : (is_counted : Bool) (last : ℕ)
        → (is_counted && not (eqb
        (get_or (cond is_counted (read_address addr ∷ length payload ∷ payload) (read_address addr ∷ payload) ++ last ∷ []) 1 0)
        (answer_length request))) ≡ false
    counted true last = not_from_true _ (eq-eqb _ _ h.counted)
    counted false last = refl

-- the counts of two requests that both have a count, or both none, are one
three_two : {a b : Bool} → a ≡ b → cond a 3 2 ≡ cond {A = ℕ} b 3 2
three_two e = ap (λ (b : Bool). cond {A = ℕ} b 3 2) e

-- the payload of an answer, read in its place, is again that of the answer
in_place : (addr : ℕ) (request : Message) (payload bytes : List ℕ) → IsAnswer addr request payload bytes
    → IsAnswer addr request (answer_payload request bytes) bytes
in_place addr request payload bytes h = subst (λ xs. IsAnswer addr request xs bytes) (sym (answer-payload addr request payload bytes h)) h

-- bytes with no fault have the layout of an answer, with the payload that stands in its place
pub answer_fault-found : (addr : ℕ) (request : Message) (bytes : List ℕ) → is_read_message request ≡ true → fits_layout request ≡ true
    → answer_fault addr request bytes ≡ None → IsAnswer addr request (answer_payload request bytes) bytes
unfolding answer_fault
answer_fault-found addr request bytes reads fits h =
    let opened = or-none _ _ h in
    let sized = or-none _ _ opened.1 in
    let counted = or-none _ _ sized.1 in
    let whole = length_fault-found _ bytes sized.0 in
    let found = address_fault-found (read_address addr) bytes opened.0 in
    let payload = of_shape (has_count request) refl found.0 found.1 whole (rule-none _ (WrongCount 1) counted.0) (or-none _ _ counted.1).0
    in
    in_place addr request payload.0 bytes payload.1
  where
    of_shape : (is_counted : Bool) → has_count request ≡ is_counted → (rest : List ℕ) → bytes ≡ read_address addr ∷ rest
        → length bytes ≡ cond (has_count request) 3 2 + answer_length request
        → (has_count request && not (eqb (get_or bytes 1 0) (answer_length request))) ≡ false → pec_fault (sent addr request) bytes ≡ None
        → (payload : List ℕ) × IsAnswer addr request payload bytes
    of_shape true is [] split whole count pec = absurd (omega (arith, ap length split, three_two is))
    of_shape true is (number ∷ rest) split whole count pec =
        let size : length rest ≡ answer_length request + 1 = omega (arith, ap length split, three_two is) in
        let parts = last_of rest (omega arith) in
        let front_size : length parts.0 ≡ answer_length request = omega (arith, ap length parts.2, length-append parts.0 (parts.1 ∷ [])) in
        let count_is : number ≡ answer_length request =
        eqb-true _ _ (not-false _ (sym (ap₂ (λ b xs. b && not (eqb (get_or xs 1 0) (answer_length request))) is split) ∙ count)) in
        let all : bytes ≡ (read_address addr ∷ number ∷ parts.0) ++ parts.1 ∷ [] =
        split ∙ ap (λ xs. read_address addr ∷ number ∷ xs) parts.2 in
        let last_is = pec_fault-found (sent addr request) (read_address addr ∷ number ∷ parts.0) parts.1
        (sym (ap (pec_fault (sent addr request)) all) ∙ pec) in
        let answer_is : answered addr request parts.0 ≡ read_address addr ∷ number ∷ parts.0 =
        cond-true _ _ _ is ∙ ap (λ n. read_address addr ∷ n ∷ parts.0) (front_size ∙ sym count_is) in (
          parts.0,
          record {
            reads = reads;
            fits = fits;
            counted = front_size;
            spelled = all ∙ (ap (λ x. (read_address addr ∷ number ∷ parts.0) ++ x ∷ []) last_is
                ∙ sym (ap (with_pec (sent addr request)) answer_is));
          },
        )
    of_shape false is rest split whole count pec =
        let size : length rest ≡ answer_length request + 1 = omega (arith, ap length split, three_two is) in
        let parts = last_of rest (omega arith) in
        let front_size : length parts.0 ≡ answer_length request = omega (arith, ap length parts.2, length-append parts.0 (parts.1 ∷ [])) in
        let all : bytes ≡ (read_address addr ∷ parts.0) ++ parts.1 ∷ [] = split ∙ ap (λ xs. read_address addr ∷ xs) parts.2 in
        let last_is = pec_fault-found (sent addr request) (read_address addr ∷ parts.0) parts.1
        (sym (ap (pec_fault (sent addr request)) all) ∙ pec) in
        let answer_is : answered addr request parts.0 ≡ read_address addr ∷ parts.0 = cond-false _ _ _ is in (
          parts.0,
          record {
            reads = reads;
            fits = fits;
            counted = front_size;
            spelled = all ∙ (ap (λ x. (read_address addr ∷ parts.0) ++ x ∷ []) last_is ∙ sym (ap (with_pec (sent addr request)) answer_is));
          },
        )

-- no answer to a request is a strict prefix of another
pub answer-front : (addr : ℕ) (request : Message) (first second front rest : List ℕ) → IsAnswer addr request first front
    → IsAnswer addr request second (front ++ rest) → rest ≡ []
answer-front addr request first second front rest h k =
    let short = answer-length addr request first front h in
    let long = answer-length addr request second (front ++ rest) k in
    empty_of rest (omega (arith, length-append front rest))

-- bytes with no fault are as many as a whole answer has
pub answer_fault-length : (addr : ℕ) (request : Message) (bytes : List ℕ) → answer_fault addr request bytes ≡ None
    → length bytes ≡ whole_answer request
unfolding answer_fault
answer_fault-length addr request bytes h = length_fault-found _ bytes (or-none _ _ (or-none _ _ h).1).0

-- an answer with no fault has none on its PEC
answer_fault-pec : (addr : ℕ) (request : Message) (bytes : List ℕ) → answer_fault addr request bytes ≡ None
    → pec_fault (sent addr request) bytes ≡ None
unfolding answer_fault
answer_fault-pec addr request bytes h =
    let opened = or-none (address_fault (read_address addr) bytes) _ h in
    let sized = or-none (length_fault (whole_answer request) bytes) _ opened.1 in
    let counted = or-none (rule (has_count request && not (eqb (get_or bytes 1 0) (answer_length request))) (WrongCount 1)) _ sized.1 in
    (or-none (pec_fault (sent addr request) bytes) None counted.1).0

-- the last byte of an answer is the PEC of the request and of those before it
pub answer-last : (addr last : ℕ) (request : Message) (front : List ℕ) → answer_fault addr request (front ++ last ∷ []) ≡ None
    → last ≡ pec_of (sent addr request ++ front)
answer-last addr last request front h =
    pec_fault-found (sent addr request) front last (answer_fault-pec addr request (front ++ last ∷ []) h)

-- a strict prefix of what has no fault has one
pub answer_fault-front : (addr : ℕ) (request : Message) (front rest : List ℕ) → answer_fault addr request (front ++ rest) ≡ None
    → answer_fault addr request front ≡ None → rest ≡ []
answer_fault-front addr request front rest long short =
    let whole = answer_fault-length addr request (front ++ rest) long in
    let cut = answer_fault-length addr request front short in
    empty_of rest (omega (arith, length-append front rest))

-- a request followed by an answer ends in its PEC
pub answer-ends : (addr : ℕ) (request : Message) (bytes : List ℕ) → answer_fault addr request bytes ≡ None
    → EndsInPec (sent addr request ++ bytes)
answer-ends addr request bytes none =
    let whole = answer_fault-length addr request bytes none in
    let two = at_least_two (has_count request) (answer_length request) in
    let some : 0 < length bytes = omega arith in
    let parts = last_of bytes some in
    let last : parts.1 ≡ pec_of (sent addr request ++ parts.0) =
    answer-last addr parts.1 request parts.0 (sym (ap (answer_fault addr request) parts.2) ∙ none) in
    record {
      front = sent addr request ++ parts.0;
      is = ap (λ xs. sent addr request ++ xs) parts.2 ∙ sym (append_assoc (sent addr request) parts.0 (parts.1 ∷ []))
          ∙ ap (λ x. sent addr request ++ parts.0 ++ x ∷ []) last;
    }
  where
    at_least_two : (counted : Bool) (n : ℕ) → 2 ≤ cond counted 3 2 + n
    at_least_two true n = omega arith
    at_least_two false n = omega arith

-- What came back for a read that is no message has no fault exactly where it has its layout, with the payload between.

-- The payload of a plain answer stands where the definition looks for it.
pub plain-payload : (addr code size : ℕ) (payload bytes : List ℕ) → IsPlainAnswer addr code size payload bytes
    → plain_payload bytes ≡ payload
plain-payload addr code size payload bytes h =
    subst (λ xs. plain_payload xs ≡ payload) (sym h.spelled) (at (pec_of (code_request addr code ++ read_address addr ∷ payload)))
  where
    at : (last : ℕ) → plain_payload ((read_address addr ∷ payload) ++ last ∷ []) ≡ payload
    at last = take-front payload last _ (omega (arith, length-append payload (last ∷ [])))

-- The payload of a block answer stands where the definition looks for it.
pub block-payload : (addr code : ℕ) (payload bytes : List ℕ) → IsBlockAnswer addr code payload bytes → block_payload bytes ≡ payload
block-payload addr code payload bytes h =
    subst (λ xs. block_payload xs ≡ payload) (sym h.spelled)
    (at (pec_of (code_request addr code ++ read_address addr ∷ length payload ∷ payload)))
  where
    at : (last : ℕ) → block_payload ((read_address addr ∷ length payload ∷ payload) ++ last ∷ []) ≡ payload
    at last = take-front payload last _ (omega (arith, length-append payload (last ∷ [])))

-- Bytes of a plain answer's layout have no fault.
pub plain_read_fault-spelled : (addr code size : ℕ) (payload bytes : List ℕ) → IsPlainAnswer addr code size payload bytes
    → plain_read_fault addr code size bytes ≡ None
unfolding plain_read_fault
plain_read_fault-spelled addr code size payload bytes h =
    let before = code_request addr code in
    let front = read_address addr ∷ payload in
    let last = pec_of (before ++ front) in
    let whole : length bytes ≡ size + 2 = omega (arith, ap length h.spelled, length-append payload (last ∷ []), h.counted) in
    none-or _ _ (ap (address_fault (read_address addr)) h.spelled ∙ address_fault-none (read_address addr) _)
    (none-or _ _ (length_fault-none (size + 2) bytes whole)
    (none-or _ _ (ap (pec_fault before) h.spelled ∙ pec_fault-none before front) refl))

-- Bytes of a block answer's layout have no fault.
pub block_fault-spelled : (addr code : ℕ) (payload bytes : List ℕ) → IsBlockAnswer addr code payload bytes
    → block_fault addr code bytes ≡ None
unfolding block_fault
block_fault-spelled addr code payload bytes h =
    let before = code_request addr code in
    let front = read_address addr ∷ length payload ∷ payload in
    let last = pec_of (before ++ front) in
    let count : get_or bytes 1 0 ≡ length payload = ap (λ xs. get_or xs 1 0) h.spelled in
    let whole : length bytes ≡ get_or bytes 1 0 + 3 = omega (arith, ap length h.spelled, length-append payload (last ∷ []), count) in
    none-or _ _ (ap (opening_fault (read_address addr)) h.spelled ∙ opening_fault-none (read_address addr) (length payload) _)
    (none-or _ _ (none-rule _ (WrongCount 1) (le-ltb most_read (get_or bytes 1 0) (omega (arith, h.counted))))
    (none-or _ _ (length_fault-none (get_or bytes 1 0 + 3) bytes whole)
    (none-or _ _ (ap (pec_fault before) h.spelled ∙ pec_fault-none before front) refl)))

-- Bytes with no fault of a plain read have the layout of a plain answer, with the payload that stands in its place.
pub plain_read_fault-found : (addr code size : ℕ) (bytes : List ℕ) → plain_read_fault addr code size bytes ≡ None
    → IsPlainAnswer addr code size (plain_payload bytes) bytes
unfolding plain_read_fault
plain_read_fault-found addr code size bytes h =
    let before = code_request addr code in
    let opened = or-none _ _ h in
    let sized = or-none _ _ opened.1 in
    let pec = (or-none _ _ sized.1).0 in
    let whole = length_fault-found (size + 2) bytes sized.0 in
    let found = address_fault-found (read_address addr) bytes opened.0 in
    let more : length found.0 ≡ size + 1 = omega (arith, ap length found.1) in
    let parts = last_of found.0 (omega arith) in
    let front = read_address addr ∷ parts.0 in
    let all : bytes ≡ front ++ parts.1 ∷ [] = found.1 ∙ ap (λ xs. read_address addr ∷ xs) parts.2 in
    let last_is = pec_fault-found before front parts.1 (sym (ap (pec_fault before) all) ∙ pec) in
    let is : IsPlainAnswer addr code size parts.0 bytes = record {
      counted = omega (arith, ap length parts.2, length-append parts.0 (parts.1 ∷ []));
      spelled = all ∙ ap (λ x. front ++ x ∷ []) last_is;
    } in
    subst (λ xs. IsPlainAnswer addr code size xs bytes) (sym (plain-payload addr code size parts.0 bytes is)) is

-- Bytes with no fault of a block read have the layout of a block answer, with the payload that stands in its place.
pub block_fault-found : (addr code : ℕ) (bytes : List ℕ) → block_fault addr code bytes ≡ None
    → IsBlockAnswer addr code (block_payload bytes) bytes
unfolding block_fault
block_fault-found addr code bytes h =
    let before = code_request addr code in
    let opened = or-none _ _ h in
    let counted = or-none _ _ opened.1 in
    let sized = or-none _ _ counted.1 in
    let pec = (or-none _ _ sized.1).0 in
    let small : get_or bytes 1 0 ≤ most_read = ltb-false _ _ (rule-none _ (WrongCount 1) counted.0) in
    let whole = length_fault-found (get_or bytes 1 0 + 3) bytes sized.0 in
    let found = opening_fault-found (read_address addr) bytes opened.0 in
    let count : get_or bytes 1 0 ≡ found.0 = ap (λ xs. get_or xs 1 0) found.2 in
    let more : length found.1 ≡ found.0 + 1 = omega (arith, ap length found.2, count) in
    let parts = last_of found.1 (omega arith) in
    let size : length parts.0 ≡ found.0 = omega (arith, ap length parts.2, length-append parts.0 (parts.1 ∷ [])) in
    let front = read_address addr ∷ found.0 ∷ parts.0 in
    let all : bytes ≡ front ++ parts.1 ∷ [] = found.2 ∙ ap (λ xs. read_address addr ∷ found.0 ∷ xs) parts.2 in
    let last_is = pec_fault-found before front parts.1 (sym (ap (pec_fault before) all) ∙ pec) in
    let spelled : bytes ≡ with_pec before front = all ∙ ap (λ x. front ++ x ∷ []) last_is in
    let is : IsBlockAnswer addr code parts.0 bytes = record {
      counted = omega arith;
      spelled = spelled ∙ ap (λ n. with_pec before (read_address addr ∷ n ∷ parts.0)) (sym size);
    } in
    subst (λ xs. IsBlockAnswer addr code xs bytes) (sym (block-payload addr code parts.0 bytes is)) is

-- The payload of a paged answer stands where the definition looks for it.
pub paged-payload : (addr page code : ℕ) (size : Option ℕ) (payload bytes : List ℕ) → IsPagedAnswer addr page code size payload bytes
    → block_payload bytes ≡ payload
paged-payload addr page code size payload bytes h =
    subst (λ xs. block_payload xs ≡ payload) (sym h.spelled)
    (at (pec_of (paged_request addr page code ++ read_address addr ∷ length payload ∷ payload)))
  where
    at : (last : ℕ) → block_payload ((read_address addr ∷ length payload ∷ payload) ++ last ∷ []) ≡ payload
    at last = take-front payload last _ (omega (arith, length-append payload (last ∷ [])))

-- A count that is the one asked for, where one is, and at most 32 isn't another.
count-right : (size : Option ℕ) (count : ℕ) → count ≤ most_read → IfSome size (λ n. count ≡ n) → is_other_count size count ≡ false
count-right None count h k = le-ltb most_read count h
count-right (Some n) count h k = grind (arith, nat_tests, k)

-- A count that isn't another one is that.
count-found : (size : Option ℕ) (count : ℕ) → is_other_count size count ≡ false → (count ≤ most_read) × IfSome size (λ n. count ≡ n)
count-found None count h = (ltb-false _ _ h, tt)
count-found (Some n) count h = (grind (arith, nat_tests, h), grind (arith, nat_tests, h))

-- Bytes of a paged answer's layout have no fault.
pub paged_fault-spelled : (addr page code : ℕ) (size : Option ℕ) (payload bytes : List ℕ) → IsPagedAnswer addr page code size payload bytes
    → paged_fault addr page code size bytes ≡ None
unfolding paged_fault
paged_fault-spelled addr page code size payload bytes h =
    let before = paged_request addr page code in
    let front = read_address addr ∷ length payload ∷ payload in
    let last = pec_of (before ++ front) in
    let count : get_or bytes 1 0 ≡ length payload = ap (λ xs. get_or xs 1 0) h.spelled in
    let whole : length bytes ≡ get_or bytes 1 0 + 3 = omega (arith, ap length h.spelled, length-append payload (last ∷ []), count) in
    none-or _ _ (ap (opening_fault (read_address addr)) h.spelled ∙ opening_fault-none (read_address addr) (length payload) _)
    (none-or _ _ (none-rule _ (WrongCount 1)
    (ap (is_other_count size) count ∙ count-right size (length payload) h.counted h.asked))
    (none-or _ _ (length_fault-none (get_or bytes 1 0 + 3) bytes whole)
    (none-or _ _ (ap (pec_fault before) h.spelled ∙ pec_fault-none before front) refl)))

-- Bytes with no fault of a paged read have the layout of a paged answer, with the payload that stands in its place.
pub paged_fault-found : (addr page code : ℕ) (size : Option ℕ) (bytes : List ℕ) → paged_fault addr page code size bytes ≡ None
    → IsPagedAnswer addr page code size (block_payload bytes) bytes
unfolding paged_fault
paged_fault-found addr page code size bytes h =
    let before = paged_request addr page code in
    let opened = or-none _ _ h in
    let counted = or-none _ _ opened.1 in
    let sized = or-none _ _ counted.1 in
    let pec = (or-none _ _ sized.1).0 in
    let right = count-found size (get_or bytes 1 0) (rule-none _ (WrongCount 1) counted.0) in
    let whole = length_fault-found (get_or bytes 1 0 + 3) bytes sized.0 in
    let found = opening_fault-found (read_address addr) bytes opened.0 in
    let count : get_or bytes 1 0 ≡ found.0 = ap (λ xs. get_or xs 1 0) found.2 in
    let more : length found.1 ≡ found.0 + 1 = omega (arith, ap length found.2, count) in
    let parts = last_of found.1 (omega arith) in
    let long : length parts.0 ≡ found.0 = omega (arith, ap length parts.2, length-append parts.0 (parts.1 ∷ [])) in
    let front = read_address addr ∷ found.0 ∷ parts.0 in
    let all : bytes ≡ front ++ parts.1 ∷ [] = found.2 ∙ ap (λ xs. read_address addr ∷ found.0 ∷ xs) parts.2 in
    let last_is = pec_fault-found before front parts.1 (sym (ap (pec_fault before) all) ∙ pec) in
    let spelled : bytes ≡ with_pec before front = all ∙ ap (λ x. front ++ x ∷ []) last_is in
    let is : IsPagedAnswer addr page code size parts.0 bytes = record {
      counted = omega (arith, right.0);
      asked = subst (λ m. IfSome size (λ n. m ≡ n)) (count ∙ sym long) right.1;
      spelled = spelled ∙ ap (λ n. with_pec before (read_address addr ∷ n ∷ parts.0)) (sym long);
    } in
    subst (λ xs. IsPagedAnswer addr page code size xs bytes) (sym (paged-payload addr page code size parts.0 bytes is)) is

-- The request of a packet that reads has no fault exactly where it has the layout of a message, and
-- that message is the one that its bytes are.

-- a plain request that fits has no fault
laws_plain-none : (addr code : ℕ) → is_plain_read code ≡ true → request_fault addr (sent addr (ReadCommand code)) ≡ None
unfolding request_fault
laws_plain-none addr code h =
    let parts = and_parts _ _ h in
    none-or _ _ (opening_fault-none (write_address addr) code [])
    (cond-false _ _ _ (not-true _ parts.1)
    ∙ none-or _ _ (plain_fault-none Read code parts.0) (none-rule _ (Long 2) (le-ltb 2 2 (omega arith))))

-- a PAGE_PLUS_READ that fits has no fault
paged-none : (addr page code : ℕ) → is_carried code ≡ true → is_read code ≡ true
    → request_fault addr (sent addr (PagePlusRead page code)) ≡ None
unfolding request_fault block_request_fault
paged-none addr page code carried h =
    let bytes = sent addr (PagePlusRead page code) in
    none-or _ _ (opening_fault-none (write_address addr) command.page_plus_read (0x02 ∷ page ∷ code ∷ []))
    (none-or _ _ (length_fault-none 5 bytes refl) (none-or _ _ refl (none-or _ _ (carried_fault-none Read code carried h) refl)))

-- COEFFICIENTS of any code and side has no fault
coefficients-none : (addr code side : ℕ) → request_fault addr (sent addr (ReadCoefficients code side)) ≡ None
unfolding request_fault block_request_fault
coefficients-none addr code side =
    none-or _ _ (opening_fault-none (write_address addr) command.coefficients (0x02 ∷ code ∷ side ∷ []))
    (none-or _ _ (length_fault-none 5 (sent addr (ReadCoefficients code side)) refl) refl)

-- bytes of the layout of a request have no fault
pub request_fault-spelled : (addr : ℕ) (message : Message) (bytes : List ℕ) → IsRequest addr message bytes → request_fault addr bytes ≡ None
request_fault-spelled addr message bytes h = ap (request_fault addr) h.spelled ∙ go message h.reads h.fits where
  go : (message : Message) → is_read_message message ≡ true → fits_layout message ≡ true → request_fault addr (sent addr message) ≡ None
  go (SendByte code) r f = absurd (false≢true r)
  go (WriteByte code byte) r f = absurd (false≢true r)
  go (WriteWord code word) r f = absurd (false≢true r)
  go (PagePlusWrite page code payload) r f = absurd (false≢true r)
  go (ReadCommand code) r f = laws_plain-none addr code f
  go (PagePlusRead page code) r f = let both = and_parts _ _ f in paged-none addr page code both.0 both.1
  go (ReadCoefficients code side) r f = coefficients-none addr code side

-- the message of a request is the one that its bytes are
pub message_in-request : (addr : ℕ) (message : Message) (bytes : List ℕ) → IsRequest addr message bytes → message_in bytes ≡ message
unfolding message_in
message_in-request addr message bytes h = ap message_in h.spelled ∙ go message h.reads h.fits where
  go : (message : Message) → is_read_message message ≡ true → fits_layout message ≡ true → message_in (sent addr message) ≡ message
  go (SendByte code) r f = absurd (false≢true r)
  go (WriteByte code byte) r f = absurd (false≢true r)
  go (WriteWord code word) r f = absurd (false≢true r)
  go (PagePlusWrite page code payload) r f = absurd (false≢true r)
  go (ReadCommand code) r f =
      let parts = and_parts (is_read code) (not (eqb code command.page_plus_read || eqb code command.coefficients)) f in
      let others = or_parts (eqb code command.page_plus_read) (eqb code command.coefficients)
      (not-true (eqb code command.page_plus_read || eqb code command.coefficients) parts.1) in
      let not_05 = read-is_no_page_plus_write code parts.0 in
      let not_06 = others.0 in
      let not_30 = others.1 in
      rw (not_05, not_06, not_30) refl
  go (PagePlusRead page code) r f = refl
  go (ReadCoefficients code side) r f = refl

-- what is found where the request has a count
block-found : (addr code : ℕ) (rest : List ℕ) → eqb code command.page_plus_read || eqb code command.coefficients ≡ true
    → block_request_fault (write_address addr ∷ code ∷ rest) ≡ None
    → IsRequest addr (message_in (write_address addr ∷ code ∷ rest)) (write_address addr ∷ code ∷ rest)
unfolding block_request_fault message_in
block-found addr code rest block h =
    let sized = or-none _ _ h in
    let counted = or-none _ _ sized.1 in
    let count : get_or (write_address addr ∷ code ∷ rest) 2 0 ≡ 2 = eqb-true _ _ (not-false _ (rule-none _ (WrongCount 2) counted.0)) in
    go rest (length_fault-found 5 (write_address addr ∷ code ∷ rest) sized.0) count (eqb code command.page_plus_read) refl
    (or-none _ _ counted.1).0
  where
    paged : (page carried : ℕ) → code ≡ command.page_plus_read → (is_carried carried ≡ true) × (is_read carried ≡ true)
        → IsRequest addr (message_in (write_address addr ∷ code ∷ 2 ∷ page ∷ carried ∷ []))
        (write_address addr ∷ code ∷ 2 ∷ page ∷ carried ∷ [])
    paged page carried is codes =
        subst (λ c. IsRequest addr (message_in (write_address addr ∷ c ∷ 2 ∷ page ∷ carried ∷ []))
        (write_address addr ∷ c ∷ 2 ∷ page ∷ carried ∷ [])) (sym is)
        (record { reads = refl; fits = and_from _ _ codes.0 codes.1; spelled = refl })

    coefficients : (asked side : ℕ) → code ≡ command.coefficients
        → IsRequest addr (message_in (write_address addr ∷ code ∷ 2 ∷ asked ∷ side ∷ []))
        (write_address addr ∷ code ∷ 2 ∷ asked ∷ side ∷ [])
    coefficients asked side is =
        subst (λ c. IsRequest addr (message_in (write_address addr ∷ c ∷ 2 ∷ asked ∷ side ∷ []))
        (write_address addr ∷ c ∷ 2 ∷ asked ∷ side ∷ [])) (sym is)
        (record { reads = refl; fits = refl; spelled = refl })

    three : (x y : ℕ) (is_paged : Bool) → eqb code command.page_plus_read ≡ is_paged → cond is_paged (carried_fault Read y) None ≡ None
        → IsRequest addr (message_in (write_address addr ∷ code ∷ 2 ∷ x ∷ y ∷ [])) (write_address addr ∷ code ∷ 2 ∷ x ∷ y ∷ [])
    three x y true is e = paged x y (eqb-true code command.page_plus_read is) (carried_fault-found Read y e)
    three x y false is e = coefficients x y
        (eqb-true code command.coefficients (ap (λ b. b || eqb code command.coefficients) (sym is) ∙ block))

    go : (rest : List ℕ) → length (write_address addr ∷ code ∷ rest) ≡ 5 → get_or (write_address addr ∷ code ∷ rest) 2 0 ≡ 2
        → (is_paged : Bool) → eqb code command.page_plus_read ≡ is_paged → cond is_paged (carried_fault Read (get_or rest 2 0)) None ≡ None
        → IsRequest addr (message_in (write_address addr ∷ code ∷ rest)) (write_address addr ∷ code ∷ rest)
    go [] n c p is e = absurd (omega arith)
    go (x ∷ []) n c p is e = absurd (omega arith)
    go (x ∷ y ∷ []) n c p is e = absurd (omega arith)
    go (x ∷ y ∷ z ∷ []) n c p is e =
        subst (λ k. cond p (carried_fault Read z) None ≡ None
        → IsRequest addr (message_in (write_address addr ∷ code ∷ k ∷ y ∷ z ∷ [])) (write_address addr ∷ code ∷ k ∷ y ∷ z ∷ [])) (sym c)
        (three y z p is) e
    go (x ∷ y ∷ z ∷ w ∷ more) n c p is e = absurd (omega arith)

-- what is found where the request has no count
laws_plain-found : (addr code : ℕ) (rest : List ℕ) → eqb code command.page_plus_read || eqb code command.coefficients ≡ false
    → is_read code ≡ true → length (write_address addr ∷ code ∷ rest) ≤ 2
    → IsRequest addr (message_in (write_address addr ∷ code ∷ rest)) (write_address addr ∷ code ∷ rest)
laws_plain-found addr code [] other reads short =
    let request : IsRequest addr (ReadCommand code) (write_address addr ∷ code ∷ []) =
    record { reads = refl; fits = and_from _ _ reads (not_from_false _ other); spelled = refl } in
    subst (λ m. IsRequest addr m (write_address addr ∷ code ∷ [])) (sym (message_in-request addr (ReadCommand code) _ request)) request
laws_plain-found addr code (byte ∷ rest) other reads short = absurd (omega arith)

-- bytes with no fault have the layout of the request that they are
pub request_fault-found : (addr : ℕ) (bytes : List ℕ) → request_fault addr bytes ≡ None → IsRequest addr (message_in bytes) bytes
unfolding request_fault
request_fault-found addr bytes h =
    let opened = or-none _ _ h in
    go bytes opened.1 (opening_fault-found (write_address addr) bytes opened.0)
  where
    here : (code : ℕ) (rest : List ℕ) (block : Bool) → eqb code command.page_plus_read || eqb code command.coefficients ≡ block
        → cond block (block_request_fault (write_address addr ∷ code ∷ rest))
        (option_or (plain_fault Read code) (rule (ltb 2 (length (write_address addr ∷ code ∷ rest))) (Long 2))) ≡ None
        → IsRequest addr (message_in (write_address addr ∷ code ∷ rest)) (write_address addr ∷ code ∷ rest)
    here code rest true is e = block-found addr code rest is e
    here code rest false is e =
        let both = or-none _ _ e in
        laws_plain-found addr code rest is (plain_fault-found Read code both.0) (ltb-false _ _ (rule-none _ (Long 2) both.1))

    go : (bytes : List ℕ) → cond (eqb (get_or bytes 1 0) command.page_plus_read || eqb (get_or bytes 1 0) command.coefficients)
        (block_request_fault bytes) (option_or (plain_fault Read (get_or bytes 1 0)) (rule (ltb 2 (length bytes)) (Long 2))) ≡ None
        → ((second : ℕ) × (rest : List ℕ) × (bytes ≡ write_address addr ∷ second ∷ rest)) → IsRequest addr (message_in bytes) bytes
    go bytes e (code, rest, split) =
        subst (λ xs. cond (eqb (get_or xs 1 0) command.page_plus_read || eqb (get_or xs 1 0) command.coefficients) (block_request_fault xs)
        (option_or (plain_fault Read (get_or xs 1 0)) (rule (ltb 2 (length xs)) (Long 2))) ≡ None → IsRequest addr (message_in xs) xs)
        (sym split) (here code rest (eqb code command.page_plus_read || eqb code command.coefficients) refl) e

-- a request with no fault is as long as its code asks
request_fault-length : (addr : ℕ) (bytes : List ℕ) → request_fault addr bytes ≡ None
    → length bytes ≡ cond (eqb (get_or bytes 1 0) command.page_plus_read || eqb (get_or bytes 1 0) command.coefficients) 5 2
request_fault-length addr bytes h = let found = request_fault-found addr bytes h in of_message (message_in bytes) bytes found where
  of_message : (message : Message) (bytes : List ℕ) → IsRequest addr message bytes
      → length bytes ≡ cond (eqb (get_or bytes 1 0) command.page_plus_read || eqb (get_or bytes 1 0) command.coefficients) 5 2
  of_message (SendByte code) bytes r = absurd (false≢true r.reads)
  of_message (WriteByte code byte) bytes r = absurd (false≢true r.reads)
  of_message (WriteWord code word) bytes r = absurd (false≢true r.reads)
  of_message (PagePlusWrite page code payload) bytes r = absurd (false≢true r.reads)
  of_message (ReadCommand code) bytes r =
      rw r.spelled (sym (cond-false _ 5 2 (not-true _ (and_parts _ _ r.fits).1)))
  of_message (PagePlusRead page code) bytes r = rw r.spelled refl
  of_message (ReadCoefficients code side) bytes r = rw r.spelled refl

-- a request has two bytes at least
at_least_two : (block : Bool) (n : ℕ) → n ≡ cond block 5 2 → 2 ≤ n
at_least_two true n h = omega arith
at_least_two false n h = omega arith

-- no request is a strict prefix of another
pub request-front : (addr : ℕ) (front rest : List ℕ) → request_fault addr front ≡ None → request_fault addr (front ++ rest) ≡ None
    → rest ≡ []
request-front addr front rest h k =
    let short = request_fault-length addr front h in
    let long = request_fault-length addr (front ++ rest) k in
    let two : 2 ≤ length front = at_least_two _ _ short in
    let same_code = get_or_append_left front rest 0 1 (omega arith) in
    let same : cond (eqb (get_or (front ++ rest) 1 0) command.page_plus_read || eqb (get_or (front ++ rest) 1 0) command.coefficients) 5 2
    ≡ cond {A = ℕ} (eqb (get_or front 1 0) command.page_plus_read || eqb (get_or front 1 0) command.coefficients) 5 2 =
    ap (λ (c : ℕ). cond {A = ℕ} (eqb c command.page_plus_read || eqb c command.coefficients) 5 2) same_code in
    empty_of rest (omega (arith, length-append front rest))

-- neither a request nor a prefix of one is a write
pub request-no_write : (addr other : ℕ) (front rest : List ℕ) → request_fault addr (front ++ rest) ≡ None → write_fault other front ≢ None
request-no_write addr other front rest h k =
    let first = write-first other front k in
    let three : 3 ≤ length front = first.0 in
    let same = get_or_append_left front rest 0 1 (omega arith) in
    let written : is_written (get_or (front ++ rest) 1 0) ≡ true = ap is_written same ∙ first.1 in
    let not_06 = written-is_no_page_plus_read (get_or (front ++ rest) 1 0) written in
    let not_30 = written-is_no_coefficients (get_or (front ++ rest) 1 0) written in
    let two : length (front ++ rest) ≡ 2 =
    request_fault-length addr (front ++ rest) h ∙ ap₂ (λ a b. cond {A = ℕ} (a || b) 5 2) not_06 not_30 in
    omega (arith, length-append front rest)

-- A faultless packet of the host has as many bytes as a view of it needs.

-- a payload has two bytes at most
payload_bytes-short : (payload : Payload) → length (payload_bytes payload) ≤ 2
payload_bytes-short Empty = omega arith
payload_bytes-short (Byte byte) = omega arith
payload_bytes-short (Word word) = omega arith

-- the bytes of a plain write,
plain-whole : (first code : ℕ) (payload : List ℕ) (last : ℕ) → length payload ≤ 2 → is_plain_write code ≡ true
    → AreBytes (first ∷ code ∷ (payload ++ last ∷ [])) → IsWhole (first ∷ code ∷ (payload ++ last ∷ []))
plain-whole first code payload last short plain are_bytes =
    let parts = and_parts _ _ plain in
    let more = length-append payload (last ∷ []) in
    record {
      are_bytes = are_bytes;
      two = omega arith;
      carries = λ e. absurd (eqb-false _ _ (not-true _ parts.1) e);
      carries_word = λ e. absurd (eqb-false _ _ (not-true _ parts.1) e);
      reads_page = λ e. absurd (eqb-false _ _ (written-is_no_page_plus_read code parts.0) e);
      reads_coefficients = λ e. absurd (eqb-false _ _ (written-is_no_coefficients code parts.0) e);
      plain = λ e. omega arith;
    }

-- those of a PAGE_PLUS_WRITE,
carried-whole : (first count page code : ℕ) (payload : List ℕ) (last : ℕ) → length payload ≤ 2
    → AreBytes (first ∷ command.page_plus_write ∷ count ∷ page ∷ code ∷ (payload ++ last ∷ []))
    → IsWhole (first ∷ command.page_plus_write ∷ count ∷ page ∷ code ∷ (payload ++ last ∷ []))
carried-whole first count page code payload last short are_bytes =
    let more = length-append payload (last ∷ []) in
    record {
      are_bytes = are_bytes;
      two = omega arith;
      carries = λ e. omega arith;
      carries_word = λ e. omega arith;
      reads_page = λ e. absurd (omega arith);
      reads_coefficients = λ e. absurd (omega arith);
      plain = λ e. absurd (e refl);
    }

-- the bytes of any write are whole
pub write-whole : (addr : ℕ) (message : Message) (bytes : List ℕ) → IsWrite addr message bytes → AreBytes bytes → IsWhole bytes
write-whole addr message bytes h are_bytes =
    subst IsWhole (sym h.spelled) (go message h.writes h.fits (subst AreBytes h.spelled are_bytes)) where
      go : (message : Message) → is_read_message message ≡ false → fits_layout message ≡ true → AreBytes (with_pec [] (sent addr message))
          → IsWhole (with_pec [] (sent addr message))
      go (SendByte code) w f are_bytes = plain-whole (write_address addr) code [] _ (omega arith) (and_parts _ _ f).0 are_bytes
      go (WriteByte code byte) w f are_bytes =
          plain-whole (write_address addr) code (payload_bytes (Byte byte)) _ (omega arith) (and_parts _ _ f).0 are_bytes
      go (WriteWord code word) w f are_bytes =
          plain-whole (write_address addr) code (payload_bytes (Word word)) _ (omega arith) (and_parts _ _ f).0 are_bytes
      go (PagePlusWrite page code payload) w f are_bytes =
          carried-whole (write_address addr) _ page code (payload_bytes payload) _ (payload_bytes-short payload) are_bytes
      go (ReadCommand code) w f are_bytes = absurd (false≢true (sym w))
      go (PagePlusRead page code) w f are_bytes = absurd (false≢true (sym w))
      go (ReadCoefficients code side) w f are_bytes = absurd (false≢true (sym w))

-- the bytes of any request are whole
pub request-whole : (addr : ℕ) (message : Message) (bytes : List ℕ) → IsRequest addr message bytes → AreBytes bytes → IsWhole bytes
request-whole addr message bytes h are_bytes =
    subst IsWhole (sym h.spelled) (go message h.reads h.fits (subst AreBytes h.spelled are_bytes)) where
      go : (message : Message) → is_read_message message ≡ true → fits_layout message ≡ true → AreBytes (sent addr message)
          → IsWhole (sent addr message)
      go (SendByte code) r f are_bytes = absurd (false≢true r)
      go (WriteByte code byte) r f are_bytes = absurd (false≢true r)
      go (WriteWord code word) r f are_bytes = absurd (false≢true r)
      go (PagePlusWrite page code payload) r f are_bytes = absurd (false≢true r)
      go (ReadCommand code) r f are_bytes =
          let parts = and_parts _ _ f in
          let others = or_parts _ _ (not-true _ parts.1) in
          record {
            are_bytes = are_bytes;
            two = omega arith;
            carries = λ e. absurd (eqb-false _ _ (read-is_no_page_plus_write code parts.0) e);
            carries_word = λ e. omega arith;
            reads_page = λ e. absurd (eqb-false _ _ others.0 e);
            reads_coefficients = λ e. absurd (eqb-false _ _ others.1 e);
            plain = λ e. omega arith;
          }
      go (PagePlusRead page code) r f are_bytes = record {
        are_bytes = are_bytes;
        two = omega arith;
        carries = λ e. absurd (omega arith);
        carries_word = λ e. omega arith;
        reads_page = λ e. refl;
        reads_coefficients = λ e. refl;
        plain = λ e. omega arith;
      }
      go (ReadCoefficients code side) r f are_bytes = record {
        are_bytes = are_bytes;
        two = omega arith;
        carries = λ e. absurd (omega arith);
        carries_word = λ e. omega arith;
        reads_page = λ e. refl;
        reads_coefficients = λ e. refl;
        plain = λ e. omega arith;
      }
