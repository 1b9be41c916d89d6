-- Messages and requests that share a code, and what comes back for them.
use Rattle.std.specs.{Int.Bits.xor_self, Prelude.Option}
use Rattle.std.proofs.lemmas.Nat.{xor_lt}
use Rattle.std.proofs.Common.{◌≡◌, ℕ, ◌+◌, ◌-◌, ◌*◌, Bool, true, not, ◌&&◌, cond, eqb, None, List, [], ◌∷◌, ◌++◌, length, take, get_or}
use Rattle.std.proofs.Common.{bit_xor, sym, ap, ◌∙◌, ◌↔◌, ◌<◌, ◌^◌, refl, ap₂, arith}
use Rattle.pm_table.specs.Codes as command
use Rattle.pm_table.specs.Rules.{first, rule}
use Rattle.pm_frame.specs.{SharedCodes.changes, declared.fault.FrameFault.FrameFault, declared.fault.FrameFault.TheVariants.WrongCount}
use Rattle.pm_frame.specs.{declared.message.Message.Message, declared.message.Payload.Payload}
use Rattle.pm_frame.specs.Fault.{address_fault, length_fault, pec_fault, answer_fault}
use Rattle.pm_frame.specs.LateAnswers.{request_code, HaveOneForm}
use Rattle.pm_frame.specs.Layout.{IsAnswer, is_read_message, fits_layout, sent, answered, with_pec, read_address, has_count, answer_length}
use Rattle.pm_frame.specs.Layout.{payload_bytes, write_address}
use Rattle.pm_frame.specs.Lemmas.{cancel_right, pec_of-lt, cancel_left}
use Rattle.pm_frame.specs.Pec.{pec_of, residues_of}
use Rattle.pm_frame.specs.declared.message.Message.TheVariants.{PagePlusWrite, ReadCommand, PagePlusRead}
use Rattle.pm_frame.proofs.Layouts.{answer-last}
use Rattle.pm_frame.proofs.PacketErrorCode.{same_from_xor, doubled_times-none, doubled_times, doubled_times-xor, pec_of-append}
use Rattle.pm_frame.proofs.PacketErrorCode.{xor_exchange, residues_of-xor, doubled_times-zero, pec_of-append_byte, pec_of-byte}

-- Requests with one code, and what comes back for them.

-- Messages of one code have one code after the same bytes.
onward : (before other rest : List ℕ) → pec_of before ≡ pec_of other → pec_of (before ++ rest) ≡ pec_of (other ++ rest)
onward before other rest same =
    pec_of-append before rest ∙ ap (λ (n : ℕ). bit_xor (doubled_times (8 * length rest) n) (pec_of rest)) same
    ∙ sym (pec_of-append other rest)

-- Messages that have one code after the same bytes have one code before them, since no step of the register loses anything.
back : (before other rest : List ℕ) → pec_of (before ++ rest) ≡ pec_of (other ++ rest) → pec_of before ≡ pec_of other
back before other rest same =
    let n : ℕ = 8 * length rest in
    let a = pec_of before in
    let b = pec_of other in
    let moved : bit_xor (doubled_times n a) (pec_of rest) ≡ bit_xor (doubled_times n b) (pec_of rest) =
    sym (pec_of-append before rest) ∙ same ∙ pec_of-append other rest in
    let one : doubled_times n a ≡ doubled_times n b = cancel_right (pec_of rest) (doubled_times n a) (doubled_times n b) moved in
    let none : doubled_times n (bit_xor a b) ≡ 0 =
    doubled_times-xor n a b ∙ ap (λ (x : ℕ). bit_xor x (doubled_times n b)) one ∙ xor_self (doubled_times n b) in
    same_from_xor a b (doubled_times-none n (bit_xor a b) (xor_lt 8 a b (pec_of-lt before) (pec_of-lt other)) none)

-- Two requests that have one code up to the read address have one code without it.
pub same_sent : (addr : ℕ) (request other : Message) → request_code addr request ≡ request_code addr other
    → pec_of (sent addr request) ≡ pec_of (sent addr other)
unfolding request_code
same_sent addr request other same = back (sent addr request) (sent addr other) (read_address addr ∷ []) same

-- Two requests of one code have one code up to the read address.
pub same_code : (addr : ℕ) (request other : Message) → pec_of (sent addr request) ≡ pec_of (sent addr other)
    → request_code addr request ≡ request_code addr other
unfolding request_code
same_code addr request other same = onward (sent addr request) (sent addr other) (read_address addr ∷ []) same

-- the rule on the PEC is one for two messages of one code that came before
same_pec_fault : (before other bytes : List ℕ) → pec_of before ≡ pec_of other → pec_fault before bytes ≡ pec_fault other bytes
unfolding pec_fault
same_pec_fault before other bytes same = simp (onward before other (take (length bytes - 1) bytes) same)

-- the judgement of an answer, by whether it has a count, by its size, and by the rule on its PEC
judgement : ℕ → List ℕ → Bool → ℕ → Option FrameFault → Option FrameFault
judgement addr bytes counted size pec = first (
    address_fault (read_address addr) bytes ∷
    length_fault (cond counted 3 2 + size) bytes ∷
    rule (counted && not (eqb (get_or bytes 1 0) size)) (WrongCount 1) ∷
    pec ∷
    [])

-- What comes back is judged alike for two requests of one code whose answers have one form.
pub answer_fault-alike : (addr : ℕ) (request other : Message) (bytes : List ℕ) → HaveOneForm request other
    → request_code addr request ≡ request_code addr other → answer_fault addr request bytes ≡ answer_fault addr other bytes
unfolding answer_fault judgement
answer_fault-alike addr request other bytes form same =
    let pec = same_pec_fault (sent addr request) (sent addr other) bytes (same_sent addr request other same) in
    ap (judgement addr bytes (has_count request) (answer_length request)) pec
    ∙ ap (λ (n : ℕ). judgement addr bytes (has_count request) n (pec_fault (sent addr other) bytes)) form.size
    ∙ ap (λ (b : Bool). judgement addr bytes b (answer_length other) (pec_fault (sent addr other) bytes)) form.count

-- Each answer to the one is an answer to the other.
pub IsAnswer-alike : (addr : ℕ) (request other : Message) (payload bytes : List ℕ) → HaveOneForm request other
    → is_read_message other ≡ true → fits_layout other ≡ true → request_code addr request ≡ request_code addr other
    → IsAnswer addr request payload bytes → IsAnswer addr other payload bytes
IsAnswer-alike addr request other payload bytes form reads fits same h =
    let before = sent addr request in
    let answer_is : answered addr request payload ≡ answered addr other payload =
    ap (λ (b : Bool). cond b (read_address addr ∷ length payload ∷ payload) (read_address addr ∷ payload)) form.count in
    let code_is : pec_of (before ++ answered addr other payload) ≡ pec_of (sent addr other ++ answered addr other payload) =
    onward before (sent addr other) (answered addr other payload) (same_sent addr request other same) in
    record {
      reads = reads;
      fits = fits;
      counted = h.counted ∙ form.size;
      spelled = h.spelled ∙ ap (with_pec before) answer_is ∙ ap (λ (n : ℕ). answered addr other payload ++ n ∷ []) code_is;
    }

-- An answer to one request that passes for an answer to another shows that the two have one code.
pub answers-shared : (addr : ℕ) (request other : Message) (payload bytes : List ℕ) → IsAnswer addr request payload bytes
    → answer_fault addr other bytes ≡ None → request_code addr request ≡ request_code addr other
answers-shared addr request other payload bytes h none =
    let answer = answered addr request payload in
    let code = pec_of (sent addr request ++ answer) in
    let last : code ≡ pec_of (sent addr other ++ answer) =
    answer-last addr code other answer (sym (ap (answer_fault addr other) h.spelled) ∙ none) in
    same_code addr request other (back (sent addr request) (sent addr other) answer last)

-- Messages that share their packet error code.

-- What changed has as many bytes as each of the two.
changes-length : (bytes other : List ℕ) → length bytes ≡ length other → length (changes bytes other) ≡ length bytes
changes-length [] other same = refl
changes-length (x ∷ bytes) [] same = absurd (omega (arith, same))
changes-length (x ∷ bytes) (y ∷ other) same =
    let rest : length bytes ≡ length other = omega (arith, same) in
    omega (arith, changes-length bytes other rest)

-- The PEC of what changed is the sum without carry of both codes.
pec_of-changes : (bytes other : List ℕ) → length bytes ≡ length other
    → pec_of (changes bytes other) ≡ bit_xor (pec_of bytes) (pec_of other)
unfolding pec_of
pec_of-changes [] [] same = sym (xor_self 0)
pec_of-changes [] (y ∷ other) same = absurd (omega (arith, same))
pec_of-changes (x ∷ bytes) [] same = absurd (omega (arith, same))
pec_of-changes (x ∷ bytes) (y ∷ other) same =
    let rest : length bytes ≡ length other = omega (arith, same) in
    let n : ℕ = 8 * length bytes in
    let first : residues_of (bit_xor x y) (8 * length (changes bytes other)) 8 ≡ bit_xor (residues_of x n 8) (residues_of y n 8) =
    ap (λ (l : ℕ). residues_of (bit_xor x y) (8 * l) 8) (changes-length bytes other rest) ∙ residues_of-xor x y n 8 in
    ap₂ bit_xor first (pec_of-changes bytes other rest)
    ∙ xor_exchange (residues_of x n 8) (residues_of y n 8) (pec_of bytes) (pec_of other)
    ∙ ap (λ (l : ℕ). bit_xor (bit_xor (residues_of x n 8) (pec_of bytes)) (bit_xor (residues_of y (8 * l) 8) (pec_of other))) rest

-- Two messages of one length share their PEC exactly where what changed has the PEC 0.
pub messages-shared : (bytes other : List ℕ) → length bytes ≡ length other
    → (pec_of bytes ≡ pec_of other ↔ pec_of (changes bytes other) ≡ 0)
messages-shared bytes other same = (
  λ one. pec_of-changes bytes other same ∙ ap (λ (n : ℕ). bit_xor n (pec_of other)) one ∙ xor_self (pec_of other),
  λ none. same_from_xor (pec_of bytes) (pec_of other) (sym (pec_of-changes bytes other same) ∙ none),
)

-- Two messages of one length that follow the same bytes have one PEC exactly if the PEC of their changes is 0.
behind : (front bytes other : List ℕ) → length bytes ≡ length other
    → (pec_of (front ++ bytes) ≡ pec_of (front ++ other) ↔ pec_of (changes bytes other) ≡ 0)
behind front bytes other same =
    let both = messages-shared bytes other same in
    let before : ℕ = doubled_times (8 * length bytes) (pec_of front) in
    let moved : pec_of (front ++ other) ≡ bit_xor before (pec_of other) =
    pec_of-append front other ∙ ap (λ (l : ℕ). bit_xor (doubled_times (8 * l) (pec_of front)) (pec_of other)) (sym same) in (
      λ one. both.0 (cancel_left before (pec_of bytes) (pec_of other) (sym (pec_of-append front bytes) ∙ one ∙ moved)),
      λ none. pec_of-append front bytes ∙ ap (bit_xor before) (both.1 none) ∙ sym moved,
    )

-- Two bytes have the PEC 0 exactly where the second is the PEC of the first.
pair-none : (first second : ℕ) → second < 2 ^ 8 → (pec_of (first ∷ second ∷ []) ≡ 0 ↔ pec_of (first ∷ []) ≡ second)
pair-none first second small =
    let code : ℕ = pec_of (first ∷ []) in
    let step : pec_of (first ∷ second ∷ []) ≡ doubled_times 8 (bit_xor code second) = pec_of-append_byte (first ∷ []) second small in (
      λ none. same_from_xor code second
          (doubled_times-none 8 (bit_xor code second) (xor_lt 8 code second (pec_of-lt (first ∷ [])) small) (sym step ∙ none)),
      λ one. step ∙ ap (λ (n : ℕ). doubled_times 8 (bit_xor n second)) one ∙ ap (doubled_times 8) (xor_self second) ∙ doubled_times-zero 8,
    )

-- Two reads of outputs' registers.
pub reads-shared : (addr page other_page code other_code : ℕ) → code < 2 ^ 8 → other_code < 2 ^ 8
    → page < 2 ^ 8 → other_page < 2 ^ 8
    → (request_code addr (PagePlusRead page code) ≡ request_code addr (PagePlusRead other_page other_code)
    ↔ pec_of (bit_xor page other_page ∷ []) ≡ bit_xor code other_code)
reads-shared addr page other_page code other_code small other_small page_small other_page_small =
    let front : List ℕ = write_address addr ∷ command.page_plus_read ∷ 0x02 ∷ [] in
    let request = PagePlusRead page code in
    let other = PagePlusRead other_page other_code in
    let both = behind front (page ∷ code ∷ []) (other_page ∷ other_code ∷ []) refl in
    let last = pair-none (bit_xor page other_page) (bit_xor code other_code) (xor_lt 8 code other_code small other_small) in
    (λ one. last.0 (both.0 (same_sent addr request other one)), λ one. same_code addr request other (both.1 (last.1 one)))

-- Two plain reads.
pub plain-shared : (addr code other_code : ℕ) → code < 2 ^ 8 → other_code < 2 ^ 8
    → request_code addr (ReadCommand code) ≡ request_code addr (ReadCommand other_code) → code ≡ other_code
plain-shared addr code other_code small other_small same =
    let changed : ℕ = bit_xor code other_code in
    let below : changed < 2 ^ 8 = xor_lt 8 code other_code small other_small in
    let both = behind (write_address addr ∷ []) (code ∷ []) (other_code ∷ []) refl in
    let none : pec_of (changed ∷ []) ≡ 0 = both.0 (same_sent addr (ReadCommand code) (ReadCommand other_code) same) in
    same_from_xor code other_code (doubled_times-none 8 changed below (sym (pec_of-byte changed below) ∙ none))

-- Two writes of outputs' registers with payloads of one length.
pub writes-shared : (addr page other_page code other_code : ℕ) (payload other : Payload)
    → length (payload_bytes payload) ≡ length (payload_bytes other)
    → (pec_of (sent addr (PagePlusWrite page code payload)) ≡ pec_of (sent addr (PagePlusWrite other_page other_code other))
    ↔ pec_of (bit_xor page other_page ∷ bit_xor code other_code ∷ changes (payload_bytes payload) (payload_bytes other)) ≡ 0)
writes-shared addr page other_page code other_code payload other same =
    let count : ℕ = 2 + length (payload_bytes payload) in
    let front : List ℕ = write_address addr ∷ command.page_plus_write ∷ count ∷ [] in
    let counted : 2 + length (payload_bytes other) ≡ count = omega (arith, same) in
    let size : length (page ∷ code ∷ payload_bytes payload) ≡ length (other_page ∷ other_code ∷ payload_bytes other) = omega (arith, same) in
    let both = behind front (page ∷ code ∷ payload_bytes payload) (other_page ∷ other_code ∷ payload_bytes other) size in
    let told : pec_of (sent addr (PagePlusWrite other_page other_code other))
    ≡ pec_of (front ++ other_page ∷ other_code ∷ payload_bytes other) =
    ap (λ (n : ℕ). pec_of (write_address addr ∷ command.page_plus_write ∷ n ∷ other_page ∷ other_code ∷ payload_bytes other)) counted in
    (λ one. both.0 (one ∙ told), λ none. both.1 none ∙ sym told)
