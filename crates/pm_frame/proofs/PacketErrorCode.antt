-- The packet error code (PEC), and which changes it betrays.
use Rattle.std.specs.{Int.bit_at, List.range_with_len, Prelude.count_ones}
use Rattle.std.specs.Int.Bits.{xor_assoc, xor_self, xor_zero_r, xor_zero_l}
use Rattle.std.specs.Int.Count.{ones, ones_in}
use Rattle.std.proofs.{Math.Numerals.one-add, lemmas.List.FromFn.get_or-map-range_with_len}
use Rattle.std.proofs.Common.{◌≡◌, ◌≢◌, ℕ, true, false, not, eqb, List, [], ◌∷◌, ◌++◌, length, take, get_or, refl, sym, ◌∙◌, ap, zero, suc}
use Rattle.std.proofs.Common.{◌+◌, ◌*◌, ◌/◌, ◌%◌, ◌^◌, ◌<◌, bit_xor, arith, inl, inr, ◌-◌, ◌≤◌, ap₂, zero-add, mod-lt, append_assoc, subst}
use Rattle.std.proofs.Common.{Bool, replicate, lit<, ◌⊎◌, map}
use Rattle.std.proofs.Math.Nat.{mul-le-mul_right, mod-eq_of_lt, mod-add-div', lt_of_mul-lt-mul_right}
use Rattle.std.proofs.lemmas.Bool.{eq-eqb, cases_lt, eqb-true, agree_below_at, not-false}
use Rattle.std.proofs.lemmas.List.{length-append, take_more}
use Rattle.std.proofs.lemmas.Nat.{xor_comm, xor_block, xor_mod, xor_shr, pow_pos, pow-add, same_from_place, xor_lt, mod-pow-add}
use Rattle.std.proofs.lemmas.Nat.Bits.{bit_at-lt, bit_at-zero, bit_at_cat_low, bit_at_cat_high, bit_at_above, same_from_bits}
use Rattle.std.proofs.lemmas.Nat.Bits.{same_from_bits_below}
use Rattle.pm_frame.specs.{Betrayal.is_betrayed, Laws.FarBitsPass, Layout.AreBytes}
use Rattle.pm_frame.specs.Damage.{message_bit, DifferWithinEight, EndsInPec, changed_bits}
use Rattle.pm_frame.specs.Lemmas.{pec_of-lt, doubled-lt, residues_of-lt, cancel_left, bytes-more, residue-lt}
use Rattle.pm_frame.specs.Pec.{pec_of, residue, residues_of, doubled}

-- Bytes that the PEC betrays are some bytes and a last one that isn't their PEC.

-- all but the last of some bytes, and the last
pub last_of : (byte : ℕ) (bytes : List ℕ) → byte ∷ bytes ≡ take (length bytes) (byte ∷ bytes) ++ get_or (byte ∷ bytes) (length bytes) 0 ∷ []
last_of byte [] = refl
last_of byte (next ∷ bytes) = ap (λ rest. byte ∷ rest) (last_of next bytes)

pub record IsBetrayedAt (before bytes : List ℕ) : Type 0 where
  pub front : List ℕ
  pub last : ℕ
  pub spelled : bytes ≡ front ++ last ∷ []
  pub wrong : last ≢ pec_of (before ++ front)

-- bytes that the PEC betrays, taken apart so
pub is_betrayed-at : (before bytes : List ℕ) → is_betrayed before bytes ≡ true → IsBetrayedAt before bytes
unfolding is_betrayed
is_betrayed-at before [] h = cc
is_betrayed-at before (byte ∷ bytes) h = record {
  front = take (length bytes) (byte ∷ bytes);
  last = get_or (byte ∷ bytes) (length bytes) 0;
  spelled = last_of byte bytes;
  wrong = λ same.
      let t : eqb (get_or (byte ∷ bytes) (length bytes) 0) (pec_of (before ++ take (length bytes) (byte ∷ bytes))) ≡ true =
      eq-eqb _ _ same in
      let f : true ≡ false = sym h ∙ ap not t in cc;
}

-- Laws of the sum without carry, `bit_xor`.

-- the two middle terms of a sum of four change places
pub xor_exchange : (a b c d : ℕ) → bit_xor (bit_xor a b) (bit_xor c d) ≡ bit_xor (bit_xor a c) (bit_xor b d)
xor_exchange a b c d =
    xor_assoc a b (bit_xor c d)
    ∙ ap (bit_xor a) (sym (xor_assoc b c d) ∙ ap (λ (x : ℕ). bit_xor x d) (xor_comm b c) ∙ xor_assoc c b d)
    ∙ sym (xor_assoc a c (bit_xor b d))

-- a number times a power of two, and below it a rest: the sum without carry is the plain sum
pub xor_of_parts : (a k r : ℕ) → r < 2 ^ k → bit_xor (a * 2 ^ k) r ≡ a * 2 ^ k + r
xor_of_parts a k r h =
    let block : bit_xor (a * 2 ^ k + 0) (0 * 2 ^ k + r) ≡ bit_xor a 0 * 2 ^ k + bit_xor 0 r = xor_block k a 0 0 r (pow_pos k) h in
    let left : a * 2 ^ k + 0 ≡ a * 2 ^ k = omega arith in
    let right : 0 * 2 ^ k + r ≡ r = omega arith in
    sym (λ i. bit_xor (left i) (right i)) ∙ block ∙ ap (λ (x : ℕ). x * 2 ^ k + r) (xor_zero_r a)

-- doubling goes through the sum without carry
pub twice-xor : (a b : ℕ) → 2 * bit_xor a b ≡ bit_xor (2 * a) (2 * b)
twice-xor a b =
    let block : bit_xor (a * 2 + 0) (b * 2 + 0) ≡ bit_xor a b * 2 + 0 = xor_block 1 a b 0 0 (pow_pos 1) (pow_pos 1) in
    let left : a * 2 + 0 ≡ 2 * a = omega arith in
    let right : b * 2 + 0 ≡ 2 * b = omega arith in
    let sum : bit_xor a b * 2 + 0 ≡ 2 * bit_xor a b = omega arith in
    sym sum ∙ sym block ∙ (λ i. bit_xor (left i) (right i))

-- a bit of a sum is the sum of the bits
pub bit_at-xor : (a b i : ℕ) → bit_at (bit_xor a b) i ≡ bit_xor (bit_at a i) (bit_at b i)
bit_at-xor a b i = ap (λ (x : ℕ). x % 2) (xor_shr a b i) ∙ xor_mod (a / 2 ^ i) (b / 2 ^ i) 1

-- the sum of two bits, times n
pub bit_times-xor : (p q n : ℕ) → p < 2 → q < 2 → bit_xor p q * n ≡ bit_xor (p * n) (q * n)
bit_times-xor zero q n hp hq =
    let none : 0 * n ≡ 0 = omega arith in
    sym (ap (λ (x : ℕ). bit_xor x (q * n)) none)
bit_times-xor (suc zero) zero n hp hq =
    let none : 0 * n ≡ 0 = omega arith in
    sym (ap (bit_xor (1 * n)) none ∙ xor_zero_r (1 * n))
bit_times-xor (suc zero) (suc zero) n hp hq =
    let none : 0 * n ≡ 0 = omega arith in
    none ∙ sym (xor_self (1 * n))
bit_times-xor (suc zero) (suc (suc q)) n hp hq = absurd (omega arith)
bit_times-xor (suc (suc p)) q n hp hq = absurd (omega arith)

-- A message as one number, and the sum of residues at the number's set bits.

-- the number whose bits are the message's, the first bit the highest
unfoldable pub number_of : List ℕ → ℕ
number_of [] = 0
number_of (byte ∷ bytes) = byte * 2 ^ (8 * length bytes) + number_of bytes

-- all but the first of some bytes are bytes
pub bytes_rest : (byte : ℕ) (bytes : List ℕ) → AreBytes (byte ∷ bytes) → AreBytes bytes
bytes_rest byte bytes h = λ place. h (suc place)

-- the number of a message has as many bits as the message
pub number_of-lt : (bytes : List ℕ) → AreBytes bytes → number_of bytes < 2 ^ (8 * length bytes)
unfolding number_of
number_of-lt [] h = omega arith
number_of-lt (byte ∷ bytes) h =
    let n : ℕ = 8 * length bytes in
    let below : number_of bytes < 2 ^ n = number_of-lt bytes (bytes_rest byte bytes h) in
    let first : byte < 2 ^ 8 = h 0 in
    let size : 8 * length (byte ∷ bytes) ≡ 8 + n = omega arith in
    let power : 2 ^ (8 * length (byte ∷ bytes)) ≡ 2 ^ 8 * 2 ^ n = ap (λ (k : ℕ). 2 ^ k) size ∙ pow-add 2 8 n in
    let more : (byte + 1) * 2 ^ n ≤ 2 ^ 8 * 2 ^ n = mul-le-mul_right (2 ^ n) (omega arith) in
    omega arith

-- ---- sums of residues

-- they are linear
pub residues_of-xor : (a b after count : ℕ)
    → residues_of (bit_xor a b) after count ≡ bit_xor (residues_of a after count) (residues_of b after count)
unfolding residues_of
residues_of-xor a b after zero = refl
residues_of-xor a b after (suc j) =
    let r : ℕ = residue (8 + (after + j)) in
    let top : bit_at (bit_xor a b) j * r ≡ bit_xor (bit_at a j * r) (bit_at b j * r) =
    ap (λ (x : ℕ). x * r) (bit_at-xor a b j) ∙ bit_times-xor (bit_at a j) (bit_at b j) r (bit_at-lt a j) (bit_at-lt b j) in
    (λ i. bit_xor (top i) (residues_of-xor a b after j i))
    ∙ xor_exchange (bit_at a j * r) (bit_at b j * r) (residues_of a after j) (residues_of b after j)

-- they depend on the counted bits alone
pub residues_of-same_bits : (a b after count : ℕ) → ((j : ℕ) → j < count → bit_at a j ≡ bit_at b j)
    → residues_of a after count ≡ residues_of b after count
unfolding residues_of
residues_of-same_bits a b after zero h = refl
residues_of-same_bits a b after (suc j) h =
    let top = ap (λ (x : ℕ). x * residue (8 + (after + j))) (h j (omega arith)) in
    (λ i. bit_xor (top i) (residues_of-same_bits a b after j (λ k below. h k (omega arith)) i))

-- 0 has no set bit
pub residues_of-zero : (after count : ℕ) → residues_of 0 after count ≡ 0
unfolding residues_of
residues_of-zero after zero = refl
residues_of-zero after (suc j) =
    let top : bit_at 0 j * residue (8 + (after + j)) ≡ 0 = ap (λ (x : ℕ). x * residue (8 + (after + j))) (bit_at-zero j) ∙ omega arith in
    (λ i. bit_xor (top i) (residues_of-zero after j i))

-- the upper bits and the lower ones
pub residues_of-cat : (a m n after count : ℕ) → m < 2 ^ n
    → residues_of (a * 2 ^ n + m) after (count + n) ≡ bit_xor (residues_of a (after + n) count) (residues_of m after n)
unfolding residues_of
residues_of-cat a m n after zero h =
    ap (residues_of (a * 2 ^ n + m) after) (zero-add n)
    ∙ residues_of-same_bits (a * 2 ^ n + m) m after n (λ j below. bit_at_cat_low a n m j below)
    ∙ sym (xor_zero_l (residues_of m after n))
residues_of-cat a m n after (suc j) h =
    let size : suc j + n ≡ suc (j + n) = omega arith in
    let back : j + n - n ≡ j = omega arith in
    let place : 8 + (after + (j + n)) ≡ 8 + (after + n + j) = omega arith in
    let bit : bit_at (a * 2 ^ n + m) (j + n) ≡ bit_at a j = bit_at_cat_high a n m (j + n) h (omega arith) ∙ ap (bit_at a) back in
    let top : bit_at (a * 2 ^ n + m) (j + n) * residue (8 + (after + (j + n))) ≡ bit_at a j * residue (8 + (after + n + j)) =
    ap₂ (λ (x k : ℕ). x * residue k) bit place in
    ap (residues_of (a * 2 ^ n + m) after) size
    ∙ (λ i. bit_xor (top i) (residues_of-cat a m n after j h i))
    ∙ sym (xor_assoc (bit_at a j * residue (8 + (after + n + j))) (residues_of a (after + n) j) (residues_of m after n))

-- bits that aren't set add nothing
pub residues_of-more : (m n after extra : ℕ) → m < 2 ^ n → residues_of m after (extra + n) ≡ residues_of m after n
residues_of-more m n after extra h =
    let whole : m ≡ 0 * 2 ^ n + m = omega arith in
    ap (λ (x : ℕ). residues_of x after (extra + n)) whole
    ∙ residues_of-cat 0 m n after extra h
    ∙ ap (λ (x : ℕ). bit_xor x (residues_of m after n)) (residues_of-zero (after + n) extra)
    ∙ xor_zero_l (residues_of m after n)

-- a number with zeros below it
pub residues_of-moved : (c k after count : ℕ) → residues_of (c * 2 ^ k) after (count + k) ≡ residues_of c (after + k) count
residues_of-moved c k after count =
    let whole : c * 2 ^ k ≡ c * 2 ^ k + 0 = omega arith in
    ap (λ (x : ℕ). residues_of x after (count + k)) whole
    ∙ residues_of-cat c 0 k after count (pow_pos k)
    ∙ ap (bit_xor (residues_of c (after + k) count)) (residues_of-zero after k)
    ∙ xor_zero_r (residues_of c (after + k) count)

-- the code of a message is the sum for its number
pub pec_of-number : (bytes : List ℕ) → AreBytes bytes → pec_of bytes ≡ residues_of (number_of bytes) 0 (8 * length bytes)
unfolding pec_of number_of residues_of
pec_of-number [] h = refl
pec_of-number (byte ∷ bytes) h =
    let n : ℕ = 8 * length bytes in
    let rest = pec_of-number bytes (bytes_rest byte bytes h) in
    let size : 8 + n ≡ 8 * length (byte ∷ bytes) = omega arith in
    let parts = residues_of-cat byte (number_of bytes) n 0 8 (number_of-lt bytes (bytes_rest byte bytes h)) in
    let start : residues_of byte n 8 ≡ residues_of byte (0 + n) 8 = ap (λ (k : ℕ). residues_of byte k 8) (sym (zero-add n)) in
    (λ i. bit_xor (start i) (rest i)) ∙ sym parts ∙ ap (residues_of (byte * 2 ^ n + number_of bytes) 0) size

-- ---- bits and numbers

-- each bit of the number is a bit of the message
pub bit_at-number : (bytes : List ℕ) (place : ℕ) → AreBytes bytes → place < 8 * length bytes
    → bit_at (number_of bytes) place ≡ message_bit bytes (8 * length bytes - 1 - place)
unfolding number_of
bit_at-number [] place h below = absurd (omega arith)
bit_at-number (byte ∷ bytes) place h below =
    let n : ℕ = 8 * length bytes in
    let m : ℕ = number_of bytes in
    let here : ℕ = 8 * length (byte ∷ bytes) - 1 - place in
    let rest : place < n → bit_at m place ≡ message_bit bytes (n - 1 - place) =
    λ low. bit_at-number bytes place (bytes_rest byte bytes h) low in
    let lower : place < n → bit_at (byte * 2 ^ n + m) place ≡ message_bit (byte ∷ bytes) here =
    λ low.
    let row : here / 8 ≡ suc ((n - 1 - place) / 8) = omega arith in
    let column : here % 8 ≡ (n - 1 - place) % 8 = omega arith in
    bit_at_cat_low byte n m place low ∙ rest low ∙ sym (ap₂ (λ r c. bit_at (get_or (byte ∷ bytes) r 0) (7 - c)) row column) in
    let upper : n ≤ place → bit_at (byte * 2 ^ n + m) place ≡ message_bit (byte ∷ bytes) here =
    λ high.
    let row : here / 8 ≡ 0 = omega arith in
    let column : 7 - here % 8 ≡ place - n = omega arith in
    bit_at_cat_high byte n m place (number_of-lt bytes (bytes_rest byte bytes h)) high
    ∙ sym (ap₂ (λ r c. bit_at (get_or (byte ∷ bytes) r 0) c) row column) in
    elim (cases_lt place n) [ inl low ↦ lower low | inr high ↦ upper high ]

-- one number, one message
pub number_of-one : (first second : List ℕ) → AreBytes first → AreBytes second → length first ≡ length second
    → number_of first ≡ number_of second → first ≡ second
unfolding number_of
number_of-one [] [] h k size same = refl
number_of-one [] (y ∷ ys) h k size same = absurd (omega arith)
number_of-one (x ∷ xs) [] h k size same = absurd (omega arith)
number_of-one (x ∷ xs) (y ∷ ys) h k size same =
    let sizes : length xs ≡ length ys = omega arith in
    let width : 2 ^ (8 * length ys) ≡ 2 ^ (8 * length xs) = ap (λ (n : ℕ). 2 ^ (8 * n)) (sym sizes) in
    let low = number_of-lt xs (bytes_rest x xs h) in
    let other : number_of ys < 2 ^ (8 * length xs) = omega (arith, number_of-lt ys (bytes_rest y ys k), width) in
    let whole : x * 2 ^ (8 * length xs) + number_of xs ≡ y * 2 ^ (8 * length xs) + number_of ys =
    same ∙ ap (λ (w : ℕ). y * w + number_of ys) width in
    let parts = same_from_place x (number_of xs) y (number_of ys) (2 ^ (8 * length xs)) low other whole in
    ap₂ (λ a b. a ∷ b) parts.0 (number_of-one xs ys (bytes_rest x xs h) (bytes_rest y ys k) sizes parts.1)

-- The packet error code of a message with one byte more, from the code of the message.

-- ---- one step

-- `doubled` is linear
pub doubled-xor : (a b : ℕ) → doubled (bit_xor a b) ≡ bit_xor (doubled a) (doubled b)
unfolding doubled
doubled-xor a b =
    let low : 2 * bit_xor a b % 2 ^ 8 ≡ bit_xor (2 * a % 2 ^ 8) (2 * b % 2 ^ 8) =
    ap (λ (x : ℕ). x % 2 ^ 8) (twice-xor a b) ∙ xor_mod (2 * a) (2 * b) 8 in
    let high : bit_at (bit_xor a b) 7 * 7 ≡ bit_xor (bit_at a 7 * 7) (bit_at b 7 * 7) =
    ap (λ (x : ℕ). x * 7) (bit_at-xor a b 7) ∙ bit_times-xor (bit_at a 7) (bit_at b 7) 7 (bit_at-lt a 7) (bit_at-lt b 7) in
    (λ i. bit_xor (low i) (high i)) ∙ xor_exchange (2 * a % 2 ^ 8) (2 * b % 2 ^ 8) (bit_at a 7 * 7) (bit_at b 7 * 7)

-- ---- several steps

-- r doubled `count` times
unfoldable pub doubled_times : ℕ → ℕ → ℕ
doubled_times zero r = r
doubled_times (suc count) r = doubled (doubled_times count r)

-- an empty register stays empty
pub doubled_times-zero : (count : ℕ) → doubled_times count 0 ≡ 0
unfolding doubled_times doubled
doubled_times-zero zero = refl
doubled_times-zero (suc count) = ap doubled (doubled_times-zero count)

-- several steps are linear too
pub doubled_times-xor : (count a b : ℕ) → doubled_times count (bit_xor a b) ≡ bit_xor (doubled_times count a) (doubled_times count b)
unfolding doubled_times
doubled_times-xor zero a b = refl
doubled_times-xor (suc count) a b = ap doubled (doubled_times-xor count a b) ∙ doubled-xor (doubled_times count a) (doubled_times count b)

-- steps go through a product with a bit
pub doubled_times-bit : (count p r : ℕ) → p < 2 → doubled_times count (p * r) ≡ p * doubled_times count r
doubled_times-bit count zero r h =
    let none : 0 * r ≡ 0 = omega arith in
    let none_after : 0 ≡ 0 * doubled_times count r = omega arith in
    ap (doubled_times count) none ∙ doubled_times-zero count ∙ none_after
doubled_times-bit count (suc zero) r h =
    let one : 1 * r ≡ r = omega arith in
    let one_after : doubled_times count r ≡ 1 * doubled_times count r = omega arith in
    ap (doubled_times count) one ∙ one_after
doubled_times-bit count (suc (suc p)) r h = absurd (omega arith)

-- steps lead from one power of x to a higher one
pub doubled_times-residue : (count i : ℕ) → doubled_times count (residue i) ≡ residue (count + i)
unfolding doubled_times residue
doubled_times-residue zero i = ap residue (sym (zero-add i))
doubled_times-residue (suc count) i =
    let next : suc (count + i) ≡ suc count + i = omega arith in
    ap doubled (doubled_times-residue count i) ∙ ap residue next

-- ---- the residues of a byte

-- a bit that 8 bits hold is its own residue
residue-low : (i : ℕ) → i < 8 → residue i ≡ 2 ^ i
unfolding residue doubled
residue-low zero h = refl
residue-low (suc zero) h = refl
residue-low (suc (suc zero)) h = refl
residue-low (suc (suc (suc zero))) h = refl
residue-low (suc (suc (suc (suc zero)))) h = refl
residue-low (suc (suc (suc (suc (suc zero))))) h = refl
residue-low (suc (suc (suc (suc (suc (suc zero)))))) h = refl
residue-low (suc (suc (suc (suc (suc (suc (suc zero))))))) h = refl
residue-low (suc (suc (suc (suc (suc (suc (suc (suc i)))))))) h = absurd (omega arith)

-- more bits after a byte double its residues as often
pub residues_of-after : (byte more after count : ℕ)
    → doubled_times more (residues_of byte after count) ≡ residues_of byte (more + after) count
unfolding residues_of
residues_of-after byte more after zero = doubled_times-zero more
residues_of-after byte more after (suc j) =
    let place : more + (8 + (after + j)) ≡ 8 + (more + after + j) = omega arith in
    let one : doubled_times more (bit_at byte j * residue (8 + (after + j))) ≡ bit_at byte j * residue (8 + (more + after + j)) =
    doubled_times-bit more (bit_at byte j) (residue (8 + (after + j))) (bit_at-lt byte j)
    ∙ ap (λ (r : ℕ). bit_at byte j * r) (doubled_times-residue more (8 + (after + j)) ∙ ap residue place) in
    doubled_times-xor more (bit_at byte j * residue (8 + (after + j))) (residues_of byte after j)
    ∙ (λ i. bit_xor (one i) (residues_of-after byte more after j i))

-- the residues of the lowest bits of the last byte are those bits, doubled eight times
pub residues_of-last : (byte count : ℕ) → count ≤ 8 → residues_of byte 0 count ≡ doubled_times 8 (byte % 2 ^ count)
unfolding residues_of
residues_of-last byte zero h =
    let none : 0 ≡ byte % 2 ^ 0 = omega arith in
    sym (doubled_times-zero 8) ∙ ap (doubled_times 8) none
residues_of-last byte (suc j) h =
    let bit : ℕ = bit_at byte j in
    let low : ℕ = byte % 2 ^ j in
    let place : 8 + (0 + j) ≡ 8 + j = omega arith in
    let within : j < 8 = omega arith in
    let within_rest : j ≤ 8 = omega arith in
    let top : bit * residue (8 + (0 + j)) ≡ doubled_times 8 (bit * 2 ^ j) =
    ap (λ (r : ℕ). bit * r) (ap residue place ∙ sym (doubled_times-residue 8 j) ∙ ap (doubled_times 8) (residue-low j within))
    ∙ sym (doubled_times-bit 8 bit (2 ^ j) (bit_at-lt byte j)) in
    let parts : byte % 2 ^ suc j ≡ bit_xor (bit * 2 ^ j) low =
    ap (λ (k : ℕ). byte % 2 ^ k) (sym (one-add j)) ∙ mod-pow-add byte 1 j ∙ sym (xor_of_parts bit j low (mod-lt byte (pow_pos j))) in
    (λ i. bit_xor (top i) (residues_of-last byte j within_rest i))
    ∙ sym (doubled_times-xor 8 (bit * 2 ^ j) low)
    ∙ ap (doubled_times 8) (sym parts)

-- ---- the packet error code

-- the code of one byte
pub pec_of-byte : (byte : ℕ) → byte < 2 ^ 8 → pec_of (byte ∷ []) ≡ doubled_times 8 byte
unfolding pec_of
pec_of-byte byte h =
    xor_zero_r (residues_of byte 0 8) ∙ residues_of-last byte 8 (omega arith) ∙ ap (doubled_times 8) (mod-eq_of_lt h)

-- the code of a message and of what follows it
pub pec_of-append : (front bytes : List ℕ)
    → pec_of (front ++ bytes) ≡ bit_xor (doubled_times (8 * length bytes) (pec_of front)) (pec_of bytes)
unfolding pec_of
pec_of-append [] bytes =
    sym (ap (λ (x : ℕ). bit_xor x (pec_of bytes)) (doubled_times-zero (8 * length bytes)) ∙ xor_zero_l (pec_of bytes))
pec_of-append (x ∷ xs) bytes =
    let n : ℕ = 8 * length bytes in
    let after : 8 * length (xs ++ bytes) ≡ n + 8 * length xs = omega (arith, length-append xs bytes) in
    let first : residues_of x (8 * length (xs ++ bytes)) 8 ≡ doubled_times n (residues_of x (8 * length xs) 8) =
    ap (λ (k : ℕ). residues_of x k 8) after ∙ sym (residues_of-after x n (8 * length xs) 8) in
    ap₂ bit_xor first (pec_of-append xs bytes)
    ∙ sym (xor_assoc (doubled_times n (residues_of x (8 * length xs) 8)) (doubled_times n (pec_of xs)) (pec_of bytes))
    ∙ ap (λ (r : ℕ). bit_xor r (pec_of bytes)) (sym (doubled_times-xor n (residues_of x (8 * length xs) 8) (pec_of xs)))

-- one byte more
pub pec_of-append_byte : (front : List ℕ) (byte : ℕ) → byte < 2 ^ 8
    → pec_of (front ++ byte ∷ []) ≡ doubled_times 8 (bit_xor (pec_of front) byte)
pec_of-append_byte front byte h =
    pec_of-append front (byte ∷ [])
    ∙ ap (bit_xor (doubled_times 8 (pec_of front))) (pec_of-byte byte h)
    ∙ sym (doubled_times-xor 8 (pec_of front) byte)

-- one byte more: the code of the one byte that is its sum with the code so far
pub pec_of-next : (front : List ℕ) (byte : ℕ) → byte < 2 ^ 8 → pec_of (front ++ byte ∷ []) ≡ pec_of (bit_xor (pec_of front) byte ∷ [])
pec_of-next front byte h =
    pec_of-append_byte front byte h
    ∙ sym (pec_of-byte (bit_xor (pec_of front) byte) (xor_lt 8 (pec_of front) byte (pec_of-lt front) h))

-- a list read further by one byte, after what came before it
pub pec_of-further : (front bytes : List ℕ) (index : ℕ) → index < length bytes → get_or bytes index 0 < 2 ^ 8
    → pec_of (front ++ take (index + 1) bytes) ≡ pec_of (bit_xor (pec_of (front ++ take index bytes)) (get_or bytes index 0) ∷ [])
pec_of-further front bytes index within fits =
    let byte : ℕ = get_or bytes index 0 in
    ap (λ (read : List ℕ). pec_of (front ++ read)) (take_more bytes index 0 within)
    ∙ ap pec_of (sym (append_assoc front (take index bytes) (byte ∷ [])))
    ∙ pec_of-next (front ++ take index bytes) byte fits

-- A change within eight neighbouring bits changes the packet error code.

-- what a sum without carry of 0 says
pub same_from_xor : (a b : ℕ) → bit_xor a b ≡ 0 → a ≡ b
same_from_xor a b h =
    sym (xor_zero_r a) ∙ ap (bit_xor a) (sym (xor_self b)) ∙ sym (xor_assoc a b b) ∙ ap (λ (x : ℕ). bit_xor x b) h ∙ xor_zero_l b

-- ---- doubling loses nothing

-- one step leaves nothing only of nothing,
doubled-none : (r : ℕ) → r < 2 ^ 8 → doubled r ≡ 0 → r ≡ 0
unfolding doubled
doubled-none r h none =
    eqb-true r 0 (sym (agree_below_at (λ n. eqb (doubled n) 0) (λ n. eqb n 0) 256 r refl h) ∙ eq-eqb (doubled r) 0 none)

-- a register stays a byte over any number of steps,
doubled_times-lt : (count r : ℕ) → r < 2 ^ 8 → doubled_times count r < 2 ^ 8
unfolding doubled_times
doubled_times-lt zero r h = h
doubled_times-lt (suc count) r h = doubled-lt (doubled_times count r)

-- any number of steps leave nothing only of nothing
pub doubled_times-none : (count r : ℕ) → r < 2 ^ 8 → doubled_times count r ≡ 0 → r ≡ 0
unfolding doubled_times
doubled_times-none zero r h none = none
doubled_times-none (suc count) r h none =
    doubled_times-none count r h (doubled-none (doubled_times count r) (doubled_times-lt count r h) none)

-- ---- a change at one place

-- eight neighbouring bits with no residue are no bits
pub window-none : (c k n : ℕ) → c < 2 ^ 8 → c * 2 ^ k < 2 ^ n → residues_of (c * 2 ^ k) 0 n ≡ 0 → c ≡ 0
window-none c k n small within none =
    let e : ℕ = c * 2 ^ k in
    let power : 2 ^ (8 + k) ≡ 2 ^ 8 * 2 ^ k = pow-add 2 8 k in
    let room : (c + 1) * 2 ^ k ≤ 2 ^ 8 * 2 ^ k = mul-le-mul_right (2 ^ k) (omega arith) in
    let some : 0 < 2 ^ k = pow_pos k in
    let above : e < 2 ^ (8 + k) = omega arith in
    let order : n + (8 + k) ≡ 8 + k + n = omega arith in
    let moved : residues_of e 0 (8 + k) ≡ residues_of c k 8 = residues_of-moved c k 0 8 ∙ ap (λ (p : ℕ). residues_of c p 8) (zero-add k) in
    let all : residues_of e 0 (8 + k) ≡ 0 =
    sym (residues_of-more e (8 + k) 0 n above) ∙ ap (residues_of e 0) order ∙ residues_of-more e n 0 (8 + k) within ∙ none in
    let after : doubled_times k (residues_of c 0 8) ≡ 0 =
    residues_of-after c k 0 8 ∙ ap (λ (p : ℕ). residues_of c p 8) (omega arith) ∙ sym moved ∙ all in
    let byte : residues_of c 0 8 ≡ 0 = doubled_times-none k (residues_of c 0 8) (residues_of-lt c 0 8) after in
    let low : c % 2 ^ 8 ≡ c = omega arith in
    doubled_times-none 8 c small (ap (doubled_times 8) (sym low) ∙ sym (residues_of-last c 8 (omega arith)) ∙ byte)

-- ---- the place of a change

-- a number with no bit but in a window of eight
windowed : (e k : ℕ) → ((i : ℕ) → i < k → bit_at e i ≡ 0) → ((i : ℕ) → 8 + k ≤ i → bit_at e i ≡ 0) → (c : ℕ) × (c < 2 ^ 8) × (e ≡ c * 2 ^ k)
windowed e k below above =
    let c : ℕ = e / 2 ^ k in
    let low : ℕ = e % 2 ^ k in
    let split : c * 2 ^ k + low ≡ e = omega (arith, mod-add-div' e (2 ^ k)) in
    let none : low ≡ 0 =
    same_from_bits_below k low 0 (mod-lt e (pow_pos k)) (pow_pos k)
    (λ i within. sym (bit_at_cat_low c k low i within) ∙ ap (λ (x : ℕ). bit_at x i) split ∙ below i within ∙ sym (bit_at-zero i)) in
    let is : e ≡ c * 2 ^ k = omega arith in
    let high : ℕ = e / 2 ^ (8 + k) in
    let rest : ℕ = e % 2 ^ (8 + k) in
    let parts : high * 2 ^ (8 + k) + rest ≡ e = omega (arith, mod-add-div' e (2 ^ (8 + k))) in
    let whole : e ≡ rest =
    same_from_bits e rest
    (λ i. elim (cases_lt i (8 + k)) [
      | inl within ↦ ap (λ (x : ℕ). bit_at x i) (sym parts) ∙ bit_at_cat_low high (8 + k) rest i within
      | inr beyond ↦ above i beyond ∙ sym (bit_at_above rest (8 + k) i (mod-lt e (pow_pos (8 + k))) beyond)
    ]) in
    let small : e < 2 ^ (8 + k) = subst (λ (x : ℕ). x < 2 ^ (8 + k)) (sym whole) (mod-lt e (pow_pos (8 + k))) in
    let power : 2 ^ (8 + k) ≡ 2 ^ 8 * 2 ^ k = pow-add 2 8 k in
    (c, lt_of_mul-lt-mul_right (2 ^ k) (omega arith), is)

-- ---- the law

-- the difference of two messages as numbers has no residue where their codes are the same
pub change-none : (sent heard : List ℕ) → AreBytes sent → AreBytes heard → length sent ≡ length heard → pec_of sent ≡ pec_of heard
    → residues_of (bit_xor (number_of sent) (number_of heard)) 0 (8 * length sent) ≡ 0
change-none sent heard h k size same =
    let n : ℕ = 8 * length sent in
    let first = pec_of-number sent h in
    let second : pec_of heard ≡ residues_of (number_of heard) 0 n =
    pec_of-number heard k ∙ ap (λ (l : ℕ). residues_of (number_of heard) 0 (8 * l)) (sym size) in
    residues_of-xor (number_of sent) (number_of heard) 0 n
    ∙ ap₂ bit_xor (sym first ∙ same) (sym second)
    ∙ xor_self (pec_of heard)

-- the change of two messages, as a number, has as many bits as they have
pub change-lt : (sent heard : List ℕ) → AreBytes sent → AreBytes heard → length sent ≡ length heard
    → bit_xor (number_of sent) (number_of heard) < 2 ^ (8 * length sent)
change-lt sent heard h k size =
    xor_lt (8 * length sent) (number_of sent) (number_of heard) (number_of-lt sent h)
    (subst (λ (l : ℕ). number_of heard < 2 ^ (8 * l)) (sym size) (number_of-lt heard k))

-- a bit of the difference is clear where the messages have one bit
change-bit : (sent heard : List ℕ) (place : ℕ) → AreBytes sent → AreBytes heard → length sent ≡ length heard → place < 8 * length sent
    → message_bit sent (8 * length sent - 1 - place) ≡ message_bit heard (8 * length sent - 1 - place)
    → bit_at (bit_xor (number_of sent) (number_of heard)) place ≡ 0
change-bit sent heard place h k size below same =
    let n : ℕ = 8 * length sent in
    let other : bit_at (number_of heard) place ≡ message_bit heard (n - 1 - place) =
    bit_at-number heard place k (omega arith) ∙ ap (λ (l : ℕ). message_bit heard (8 * l - 1 - place)) (sym size) in
    bit_at-xor (number_of sent) (number_of heard) place
    ∙ ap₂ bit_xor (bit_at-number sent place h below ∙ same) other
    ∙ xor_self (message_bit heard (n - 1 - place))

-- no change, no other message
pub same_from_change : (sent heard : List ℕ) → AreBytes sent → AreBytes heard → length sent ≡ length heard
    → bit_xor (number_of sent) (number_of heard) ≡ 0 → sent ≡ heard
same_from_change sent heard h k size none = number_of-one sent heard h k size (same_from_xor (number_of sent) (number_of heard) none)

-- what changed within eight neighbouring bits changes the PEC
pub burst-betrayed : (sent heard : List ℕ) → AreBytes sent → AreBytes heard → length sent ≡ length heard → sent ≢ heard
    → DifferWithinEight sent heard → pec_of sent ≢ pec_of heard
burst-betrayed sent heard h k size other within same =
    let n : ℕ = 8 * length sent in
    let e : ℕ = bit_xor (number_of sent) (number_of heard) in
    let place : ℕ = n - (within.first + 8) in
    let small : e < 2 ^ n = change-lt sent heard h k size in
    let found = windowed e place
    (λ i below. change-bit sent heard i h k size (omega arith) (within.after (n - 1 - i) (omega arith)))
    (λ i above. elim (cases_lt i n) [
      | inl inside ↦ change-bit sent heard i h k size inside (within.before (n - 1 - i) (omega arith))
      | inr outside ↦ bit_at_above e n i small outside
    ]) in
    let c : ℕ = found.0 in
    let is : e ≡ c * 2 ^ place = found.2 in
    let none : residues_of (c * 2 ^ place) 0 n ≡ 0 = ap (λ (x : ℕ). residues_of x 0 n) (sym is) ∙ change-none sent heard h k size same in
    let clear : c ≡ 0 = window-none c place n found.1 (subst (λ (x : ℕ). x < 2 ^ n) is small) none in
    other (same_from_change sent heard h k size (is ∙ ap (λ (x : ℕ). x * 2 ^ place) clear ∙ omega arith))

-- ---- messages that end in their code

-- the PEC of what ends in its own PEC is 0
pub ends-none : (bytes : List ℕ) → EndsInPec bytes → pec_of bytes ≡ 0
ends-none bytes ends =
    ap pec_of ends.is
    ∙ pec_of-append_byte ends.front (pec_of ends.front) (pec_of-lt ends.front)
    ∙ ap (doubled_times 8) (xor_self (pec_of ends.front))
    ∙ doubled_times-zero 8

-- two messages that end in their codes have one code
pub ends-same : (sent heard : List ℕ) → EndsInPec sent → EndsInPec heard → pec_of sent ≡ pec_of heard
ends-same sent heard first second = ends-none sent first ∙ sym (ends-none heard second)

-- Damage of a part of a packet, whatever stood before it: where the part's own code changes, the PEC
-- betrays it.

-- bytes that aren't betrayed end a packet in its PEC
unbetrayed-ends : (before : List ℕ) (byte : ℕ) (bytes : List ℕ) → is_betrayed before (byte ∷ bytes) ≡ false
    → EndsInPec (before ++ (byte ∷ bytes))
unfolding is_betrayed
unbetrayed-ends before byte bytes h =
    let front : List ℕ = take (length bytes) (byte ∷ bytes) in
    let last : ℕ = get_or (byte ∷ bytes) (length bytes) 0 in
    let is : last ≡ pec_of (before ++ front) =
    eqb-true last (pec_of (before ++ front)) (not-false (eqb last (pec_of (before ++ front))) h) in
    record {
      front = before ++ front;
      is = ap (λ xs. before ++ xs) (last_of byte bytes) ∙ sym (append_assoc before front (last ∷ []))
          ∙ ap (λ x. before ++ front ++ x ∷ []) is;
    }

-- what came before adds the same to the codes of two parts of one length
same_from_before : (before sent heard : List ℕ) → length sent ≡ length heard → pec_of (before ++ sent) ≡ pec_of (before ++ heard)
    → pec_of sent ≡ pec_of heard
same_from_before before sent heard size same =
    let term : doubled_times (8 * length heard) (pec_of before) ≡ doubled_times (8 * length sent) (pec_of before) =
    ap (λ (n : ℕ). doubled_times (8 * n) (pec_of before)) (sym size) in
    cancel_left (doubled_times (8 * length sent) (pec_of before)) (pec_of sent) (pec_of heard)
    (sym (pec_of-append before sent) ∙ same ∙ pec_of-append before heard ∙ ap (λ (t : ℕ). bit_xor t (pec_of heard)) term)

-- two parts of one length that aren't betrayed have one code
unbetrayed-same : (before sent heard : List ℕ) → length sent ≡ length heard → is_betrayed before sent ≡ false
    → is_betrayed before heard ≡ false → pec_of sent ≡ pec_of heard
unbetrayed-same before [] [] size h k = refl
unbetrayed-same before [] (y ∷ ys) size h k = absurd (omega arith)
unbetrayed-same before (x ∷ xs) [] size h k = absurd (omega arith)
unbetrayed-same before (x ∷ xs) (y ∷ ys) size h k =
    same_from_before before (x ∷ xs) (y ∷ ys) size
    (ends-none (before ++ (x ∷ xs)) (unbetrayed-ends before x xs h) ∙ sym (ends-none (before ++ (y ∷ ys)) (unbetrayed-ends before y ys k)))

-- a part with another code than the good one of its length is betrayed
pub betrayed-by_code : (before sent heard : List ℕ) → length sent ≡ length heard → is_betrayed before sent ≡ false
    → pec_of sent ≢ pec_of heard → is_betrayed before heard ≡ true
betrayed-by_code before sent heard size good other = go (is_betrayed before heard) refl where
  go : (betrayed : Bool) → is_betrayed before heard ≡ betrayed → is_betrayed before heard ≡ true
  go true is = is
  go false is = absurd (other (unbetrayed-same before sent heard size good is))

-- Two bits that are 127 apart leave the packet error code as it was.

-- bytes and zeros before them
bytes-zeros : (count : ℕ) (bytes : List ℕ) → AreBytes bytes → AreBytes (replicate count 0 ++ bytes)
bytes-zeros zero bytes rest = rest
bytes-zeros (suc count) bytes rest = bytes-more 0 _ (lit< tt) (bytes-zeros count bytes rest)

-- a last byte alone
bytes-last : (byte : ℕ) → byte < 2 ^ 8 → AreBytes (byte ∷ [])
bytes-last byte h = bytes-more byte [] h (λ place. lit< tt)

-- sixteen zeros, and the same with the first bit and the last one set
pub far-pass : FarBitsPass
unfolding doubled residue residues_of pec_of ones ones_in
far-pass = record {
  sent = replicate 15 0 ++ 0x00 ∷ [];
  heard = 0x80 ∷ (replicate 14 0 ++ 0x01 ∷ []);
  sent_size = refl;
  heard_size = refl;
  sent_bytes = bytes-zeros 15 (0x00 ∷ []) (bytes-last 0x00 (lit< tt));
  heard_bytes = bytes-more 0x80 (replicate 14 0 ++ 0x01 ∷ []) (lit< tt) (bytes-zeros 14 (0x01 ∷ []) (bytes-last 0x01 (lit< tt)));
  first = λ e. (let apart : 0 ≡ 1 = e in absurd (omega arith));
  last = λ e. (let apart : 0 ≡ 1 = e in absurd (omega arith));
  no_other = refl;
  sent_ends = record { front = replicate 15 0; is = refl };
  heard_ends = record { front = 0x80 ∷ replicate 14 0; is = refl };
}

-- A change of few bits, or of an odd number of bits, changes the packet error code.

-- how many of the lowest bits of a number are set
pub ones_below : ℕ → ℕ → ℕ
ones_below n zero = 0
ones_below n (suc j) = bit_at n j + ones_below n j

-- numbers with the same bits have as many ones
ones_below-same_bits : (a b count : ℕ) → ((j : ℕ) → j < count → bit_at a j ≡ bit_at b j) → ones_below a count ≡ ones_below b count
unfolding ones_below
ones_below-same_bits a b zero h = refl
ones_below-same_bits a b (suc j) h =
    ap₂ (λ (x y : ℕ). x + y) (h j (omega arith)) (ones_below-same_bits a b j (λ k below. h k (omega arith)))

-- the ones of two numbers, one moved above the other, add up
ones_below-cat : (a m n count : ℕ) → m < 2 ^ n → ones_below (a * 2 ^ n + m) (count + n) ≡ ones_below a count + ones_below m n
unfolding ones_below
ones_below-cat a m n zero h =
    ap (ones_below (a * 2 ^ n + m)) (zero-add n)
    ∙ ones_below-same_bits (a * 2 ^ n + m) m n (λ j below. bit_at_cat_low a n m j below)
    ∙ omega arith
ones_below-cat a m n (suc j) h =
    let size : suc j + n ≡ suc (j + n) = omega arith in
    let back : j + n - n ≡ j = omega arith in
    let bit : bit_at (a * 2 ^ n + m) (j + n) ≡ bit_at a j = bit_at_cat_high a n m (j + n) h (omega arith) ∙ ap (bit_at a) back in
    ap (ones_below (a * 2 ^ n + m)) size ∙ ap₂ (λ (x y : ℕ). x + y) bit (ones_below-cat a m n j h) ∙ omega arith

-- each bit of e below `count` is 0 if there are no ones below `count`
bits-none : (e count j : ℕ) → ones_below e count ≡ 0 → j < count → bit_at e j ≡ 0
unfolding ones_below
bits-none e zero j h below = absurd (omega arith)
bits-none e (suc count) j h below =
    let rest : j < count → bit_at e j ≡ 0 = λ less. bits-none e count j (omega arith) less in
    let last : count ≤ j → bit_at e j ≡ 0 = λ more. let is : j ≡ count = omega arith in let none : bit_at e count ≡ 0 =
    omega arith in ap (bit_at e) is ∙ none in
    elim (cases_lt j count) [ inl less ↦ rest less | inr more ↦ last more ]

-- ---- how many bits changed

-- a byte's ones, counted by the library or here, are as many
ones_below-byte : (byte : ℕ) → byte < 2 ^ 8 → count_ones byte ≡ ones_below byte 8
unfolding ones_below ones ones_in
ones_below-byte byte h =
    let all : map count_ones (range_with_len 0 256) ≡ map (λ n. ones_below n 8) (range_with_len 0 256) = refl in
    sym (get_or-map-range_with_len count_ones 0 256 byte byte 0 h (omega arith))
    ∙ ap (λ t. get_or t byte 0) all
    ∙ get_or-map-range_with_len (λ n. ones_below n 8) 0 256 byte byte 0 h (omega arith)

-- the bits that changed in a message are the ones of the change as a number
pub changed-ones : (sent heard : List ℕ) → AreBytes sent → AreBytes heard → length sent ≡ length heard
    → ones_below (bit_xor (number_of sent) (number_of heard)) (8 * length sent) ≡ changed_bits sent heard
unfolding number_of ones_below
changed-ones [] [] h k size = refl
changed-ones [] (y ∷ ys) h k size = absurd (omega arith)
changed-ones (x ∷ xs) [] h k size = absurd (omega arith)
changed-ones (x ∷ xs) (y ∷ ys) h k size =
    let n : ℕ = 8 * length xs in
    let sizes : length xs ≡ length ys = omega arith in
    let low = number_of-lt xs (bytes_rest x xs h) in
    let other : number_of ys < 2 ^ n = subst (λ (l : ℕ). number_of ys < 2 ^ (8 * l)) (sym sizes) (number_of-lt ys (bytes_rest y ys k)) in
    let width : y * 2 ^ (8 * length ys) + number_of ys ≡ y * 2 ^ n + number_of ys =
    ap (λ (l : ℕ). y * 2 ^ (8 * l) + number_of ys) (sym sizes) in
    let block : bit_xor (x * 2 ^ n + number_of xs) (y * 2 ^ (8 * length ys) + number_of ys) ≡ bit_xor x y * 2 ^ n
    + bit_xor (number_of xs) (number_of ys) =
    ap (bit_xor (x * 2 ^ n + number_of xs)) width ∙ xor_block n x y (number_of xs) (number_of ys) low other in
    let all : 8 * length (x ∷ xs) ≡ 8 + n = omega arith in
    let rest = changed-ones xs ys (bytes_rest x xs h) (bytes_rest y ys k) sizes in
    ap₂ ones_below block all
    ∙ ones_below-cat (bit_xor x y) (bit_xor (number_of xs) (number_of ys)) n 8 (xor_lt n (number_of xs) (number_of ys) low other)
    ∙ ap₂ (λ (a b : ℕ). a + b) (sym (ones_below-byte (bit_xor x y) (xor_lt 8 x y (h 0) (k 0)))) rest

-- ---- an odd number of bits

-- the sum without carry of two bits, and twice their product, is their sum
bits-sum : (p q : ℕ) → p < 2 → q < 2 → bit_xor p q + 2 * (p * q) ≡ p + q
bits-sum zero zero h k = refl
bits-sum zero (suc zero) h k = refl
bits-sum (suc zero) zero h k = refl
bits-sum (suc zero) (suc zero) h k = refl
bits-sum zero (suc (suc q)) h k = absurd (omega arith)
bits-sum (suc zero) (suc (suc q)) h k = absurd (omega arith)
bits-sum (suc (suc p)) q h k = absurd (omega arith)

-- a sum without carry has as many bits as both together, but for an even number
ones_below-xor : (a b count : ℕ) → ones_below (bit_xor a b) count % 2 ≡ (ones_below a count + ones_below b count) % 2
unfolding ones_below
ones_below-xor a b zero = refl
ones_below-xor a b (suc j) =
    let bit = bit_at-xor a b j in
    let sum = bits-sum (bit_at a j) (bit_at b j) (bit_at-lt a j) (bit_at-lt b j) in
    let rest = ones_below-xor a b j in
    let pairs : ℕ = bit_at a j * bit_at b j in
    omega arith

-- whether a register has an odd number of ones
is_odd : ℕ → Bool
is_odd r = eqb (ones_below r 8 % 2) 1

-- a step keeps whether the ones are odd in number: the polynomial has four terms
is_odd-doubled : (r : ℕ) → r < 2 ^ 8 → is_odd (doubled r) ≡ is_odd r
unfolding is_odd ones_below doubled
is_odd-doubled r h = agree_below_at (λ n. is_odd (doubled n)) is_odd 256 r refl h

-- each residue has an odd number of bits
is_odd-residue : (i : ℕ) → is_odd (residue i) ≡ true
unfolding is_odd ones_below residue
is_odd-residue zero = refl
is_odd-residue (suc i) = is_odd-doubled (residue i) (residue-lt i) ∙ is_odd-residue i

-- each power of x leaves an odd number of ones
ones_below-residue : (i : ℕ) → ones_below (residue i) 8 % 2 ≡ 1
unfolding is_odd
ones_below-residue i = eqb-true _ _ (is_odd-residue i)

-- a bit times it one that is odd where the bit is set,
ones_below-bit : (b i : ℕ) → b < 2 → ones_below (b * residue i) 8 % 2 ≡ b
unfolding ones_below
ones_below-bit zero i h = let none : 0 * residue i ≡ 0 = omega arith in ap (λ (x : ℕ). ones_below x 8 % 2) none
ones_below-bit (suc zero) i h = let one : 1 * residue i ≡ residue i =
    omega arith in ap (λ (x : ℕ). ones_below x 8 % 2) one ∙ ones_below-residue i
ones_below-bit (suc (suc b)) i h = absurd (omega arith)

-- a sum of powers has as many ones as bits are set, but for an even number
ones_below-residues_of : (e after count : ℕ) → ones_below (residues_of e after count) 8 % 2 ≡ ones_below e count % 2
unfolding ones_below residues_of
ones_below-residues_of e after zero = refl
ones_below-residues_of e after (suc j) =
    let r : ℕ = residue (8 + (after + j)) in
    let both = ones_below-xor (bit_at e j * r) (residues_of e after j) 8 in
    let top = ones_below-bit (bit_at e j) (8 + (after + j)) (bit_at-lt e j) in
    let rest = ones_below-residues_of e after j in
    omega arith

-- a change of an odd number of bits changes the PEC
pub odd-betrayed : (sent heard : List ℕ) → AreBytes sent → AreBytes heard → length sent ≡ length heard → changed_bits sent heard % 2 ≡ 1
    → pec_of sent ≢ pec_of heard
unfolding ones_below
odd-betrayed sent heard h k size odd same =
    let e : ℕ = bit_xor (number_of sent) (number_of heard) in
    let n : ℕ = 8 * length sent in
    let changed = changed-ones sent heard h k size in
    let parity = ones_below-residues_of e 0 n in
    let none : ones_below (residues_of e 0 n) 8 % 2 ≡ 0 = ap (λ (x : ℕ). ones_below x 8 % 2) (change-none sent heard h k size same) in
    omega (arith, ap (λ (x : ℕ). x % 2) changed)

-- ---- one bit and two

-- no set bits sum to nothing
residues-none : (e after count : ℕ) → ones_below e count ≡ 0 → residues_of e after count ≡ 0
residues-none e after count h =
    residues_of-same_bits e 0 after count (λ j below. bits-none e count j h below ∙ sym (bit_at-zero j)) ∙ residues_of-zero after count

record One (sum after count : ℕ) : Type 0 where
  place : ℕ
  within : place < count
  is : sum ≡ residue (8 + (after + place))

record Two (sum after count : ℕ) : Type 0 where
  low : ℕ
  high : ℕ
  order : low < high
  within : high < count
  is : sum ≡ bit_xor (residue (8 + (after + high))) (residue (8 + (after + low)))

-- a bit that is not set adds nothing,
clear_bit : (b r rest : ℕ) → b ≡ 0 → bit_xor (b * r) rest ≡ rest
clear_bit b r rest h = let none : 0 * r ≡ 0 =
    omega arith in ap (λ (x : ℕ). bit_xor (x * r) rest) h ∙ ap (λ (x : ℕ). bit_xor x rest) none ∙ xor_zero_l rest

-- a set bit adds its power of x
set_bit : (b r rest : ℕ) → b ≡ 1 → bit_xor (b * r) rest ≡ bit_xor r rest
set_bit b r rest h = let one : 1 * r ≡ r = omega arith in ap (λ (x : ℕ). bit_xor (x * r) rest) h ∙ ap (λ (x : ℕ). bit_xor x rest) one

-- a bit is 0 or 1
bit_cases : (b : ℕ) → b < 2 → (b ≡ 0) ⊎ (b ≡ 1)
bit_cases zero h = inl refl
bit_cases (suc zero) h = inr refl
bit_cases (suc (suc b)) h = absurd (omega arith)

-- the sum over one set bit is one power of x,
one_set : (e after count : ℕ) → ones_below e count ≡ 1 → One (residues_of e after count) after count
unfolding ones_below residues_of
one_set e after zero h = absurd (omega arith)
one_set e after (suc j) h =
    let rest : ones_below e j ≡ 1 → One (residues_of e after j) after j = λ one. one_set e after j one in
    let r : ℕ = residue (8 + (after + j)) in
    elim (bit_cases (bit_at e j) (bit_at-lt e j)) [
      | inl clear ↦ (let found = rest (omega arith) in record {
        place = found.place;
        within = omega (arith, found.within);
        is = clear_bit (bit_at e j) r (residues_of e after j) clear ∙ found.is;
      })
      | inr set ↦ record {
        place = j;
        within = omega arith;
        is = set_bit (bit_at e j) r (residues_of e after j) set ∙ ap (bit_xor r) (residues-none e after j (omega arith)) ∙ xor_zero_r r;
      }
    ]

-- that over two set bits two of them
two_set : (e after count : ℕ) → ones_below e count ≡ 2 → Two (residues_of e after count) after count
unfolding ones_below residues_of
two_set e after zero h = absurd (omega arith)
two_set e after (suc j) h =
    let rest : ones_below e j ≡ 2 → Two (residues_of e after j) after j = λ two. two_set e after j two in
    let r : ℕ = residue (8 + (after + j)) in
    elim (bit_cases (bit_at e j) (bit_at-lt e j)) [
      | inl clear ↦ (let found = rest (omega arith) in record {
        low = found.low;
        high = found.high;
        order = found.order;
        within = omega (arith, found.within);
        is = clear_bit (bit_at e j) r (residues_of e after j) clear ∙ found.is;
      })
      | inr set ↦ (let found = one_set e after j (omega arith) in record {
        low = found.place;
        high = j;
        order = found.within;
        within = omega arith;
        is = set_bit (bit_at e j) r (residues_of e after j) set ∙ ap (bit_xor r) found.is;
      })
    ]

-- below 127 only the residue of 1 itself is 1
residue-order : (d : ℕ) → d < 127 → residue d ≡ 1 → d ≡ 0
unfolding residue doubled
residue-order d h one =
    eqb-true d 0 (sym (agree_below_at (λ n. eqb (residue n) 1) (λ n. eqb n 0) 127 d refl h) ∙ eq-eqb (residue d) 1 one)

-- two powers of x fewer than 127 apart leave different remainders
residues-apart : (p q : ℕ) → p < q → q < p + 127 → bit_xor (residue q) (residue p) ≢ 0
unfolding residue
residues-apart p q less near same =
    let d : ℕ = q - p in
    let apart : p + d ≡ q = omega arith in
    let alone : p + 0 ≡ p = omega arith in
    let up : doubled_times p (residue d) ≡ residue q = doubled_times-residue p d ∙ ap residue apart in
    let here : doubled_times p (residue 0) ≡ residue p = doubled_times-residue p 0 ∙ ap residue alone in
    let none : doubled_times p (bit_xor (residue d) (residue 0)) ≡ 0 =
    doubled_times-xor p (residue d) (residue 0) ∙ ap₂ bit_xor up here ∙ same in
    let one : residue d ≡ 1 =
    same_from_xor (residue d) (residue 0)
    (doubled_times-none p (bit_xor (residue d) (residue 0)) (xor_lt 8 (residue d) (residue 0) (residue-lt d) (residue-lt 0)) none) in
    let zero_distance : d ≡ 0 = residue-order d (omega arith) one in
    omega arith

-- a change of two bits in at most 15 bytes changes the PEC
two-betrayed : (sent heard : List ℕ) → AreBytes sent → AreBytes heard → length sent ≡ length heard → length sent ≤ 15
    → changed_bits sent heard ≡ 2 → pec_of sent ≢ pec_of heard
two-betrayed sent heard h k size short two same =
    let e : ℕ = bit_xor (number_of sent) (number_of heard) in
    let n : ℕ = 8 * length sent in
    let found = two_set e 0 n (changed-ones sent heard h k size ∙ two) in
    let none : bit_xor (residue (8 + (0 + found.high))) (residue (8 + (0 + found.low))) ≡ 0 =
    sym found.is ∙ change-none sent heard h k size same in
    residues-apart (8 + (0 + found.low)) (8 + (0 + found.high)) (omega (arith, found.order)) (omega (arith, found.within)) none

-- a change of at most three bits in at most 15 bytes changes the PEC
pub few-betrayed : (sent heard : List ℕ) → AreBytes sent → AreBytes heard → length sent ≡ length heard → sent ≢ heard → length sent ≤ 15
    → changed_bits sent heard ≤ 3 → pec_of sent ≢ pec_of heard
few-betrayed sent heard h k size other short few same = go (changed_bits sent heard) refl few where
  n : ℕ
  n = 8 * length sent

  go : (count : ℕ) → changed_bits sent heard ≡ count → count ≤ 3 → ⊥
  go zero is le =
      let e : ℕ = bit_xor (number_of sent) (number_of heard) in
      let ones : ones_below e (8 * length sent) ≡ 0 = changed-ones sent heard h k size ∙ is in
      let none : e ≡ 0 =
      same_from_bits_below (8 * length sent) e 0 (change-lt sent heard h k size) (pow_pos (8 * length sent))
      (λ i below. bits-none e (8 * length sent) i ones below ∙ sym (bit_at-zero i)) in
      other (same_from_change sent heard h k size none)
  go (suc zero) is le = odd-betrayed sent heard h k size (ap (λ (x : ℕ). x % 2) is) same
  go (suc (suc zero)) is le = two-betrayed sent heard h k size short is same
  go (suc (suc (suc zero))) is le = odd-betrayed sent heard h k size (ap (λ (x : ℕ). x % 2) is) same
  go (suc (suc (suc (suc count)))) is le = absurd (omega arith)
