-- Digits of numbers and of pairs, as they are read.
use Rattle.std.specs.Int.{IsInRange}
use Rattle.std.specs.Option.{IfNone, option_and_then}
use Rattle.std.specs.Prelude.{bit_or, is_some, unwrap_or}
use Rattle.std.specs.Result.{MatchResult, OkIff, result_ok}
use Rattle.std.specs.Str.{IsAscii, IsUtf8}
use Rattle.std.specs.Str.Parse.{ParsesSigned, ParsesUnsigned}
use Rattle.std.proofs.{lemmas.Bool.and_parts, lemmas.List.take_rest, lemmas.Str.IsUtf8-from_ascii}
use Rattle.std.proofs.Common.{◌≡◌, ◌∙◌, ℕ, ◌-◌, ◌*◌, ◌+◌, ◌<◌, ◌≤◌, ◌&&◌, ltb, true, false, cond, List, [], ◌∷◌, length, take, drop, get_or}
use Rattle.std.proofs.Common.{Option, Some, None, refl, sym, ap, arith, ◌≢◌, ◌^◌, ℤ, pos, neg_ℤ, Bool, zero, suc, lit<, lit≤, ap₂, subst}
use Rattle.std.proofs.Common.{Decides, Result, Ok, Err, option_map, eqb, nat_lt, lt-ltb, ltb-true, true≢false}
use Rattle.std.proofs.lemmas.Bool.Decides.{nat_tests, Decides-eqb}
use Rattle.std.proofs.lemmas.Nat.{le_or_l, le_or_r, pow_pos}
use Rattle.std.proofs.lemmas.Str.Parse.{IsDigitsTest, IsNumeralModel, WeighsDigits, numerals_by_weight, parse_plain, parse_signed_minus}
use Rattle.std.proofs.lemmas.Str.Parse.{parse_signed_plain}
use Rattle.hex.specs.Hex.{hex_digit_value}
use mir.Syntax.{Width}
use mir.Val.{hbits}
use Rattle.pm_lines.specs.{Lemmas.Paired.pair_is as paired_pair_is, Lines.is_space}
use Rattle.pm_lines.specs.Digits.{are_digits, decimal_of, digit, fits, hex_of, natural_of, place_sum, signed_of, small_of}
use Rattle.pm_lines.specs.Pairs.{behind_pairs, pair_of, paired_bytes}

-- The digits of pairs, and the four pairs that are taken at once.

-- ---- digits

-- the value of a digit is below 16
digit_small : (byte value : ℕ) → hex_digit_value byte ≡ Some value → value < 16
digit_small byte value is = grind (arith)

-- a digit's value, or 256
pub value_small : (byte : ℕ) → unwrap_or (hex_digit_value byte) 256 ≤ 256
value_small byte = by (hex_digit_value byte) (digit_small byte)
  where
    by : (found : Option ℕ) → ((value : ℕ) → found ≡ Some value → value < 16) → unwrap_or found 256 ≤ 256
    by (Some value) small = let less : value < 16 = small value refl in omega arith
    by None small = omega arith

-- two digits write a byte, and with 256 for one that is no digit they write more than one has
pub pair_value_is : (high low : ℕ) → pair_of high low
    ≡ cond (ltb (unwrap_or (hex_digit_value high) 256 * 16 + unwrap_or (hex_digit_value low) 256) 256)
    (Some (unwrap_or (hex_digit_value high) 256 * 16 + unwrap_or (hex_digit_value low) 256)) None
pair_value_is high low = by (hex_digit_value high) (hex_digit_value low) (digit_small high) (digit_small low)
  where
    by : (a b : Option ℕ) → ((value : ℕ) → a ≡ Some value → value < 16) → ((value : ℕ) → b ≡ Some value → value < 16)
        → cond (is_some a && is_some b) (Some (unwrap_or a 0 * 16 + unwrap_or b 0)) None
        ≡ cond (ltb (unwrap_or a 256 * 16 + unwrap_or b 256) 256) (Some (unwrap_or a 256 * 16 + unwrap_or b 256)) None
    by (Some x) (Some y) one two =
        let first : x < 16 = one x refl in
        let second : y < 16 = two y refl in
        let is : ltb (x * 16 + y) 256 ≡ true = grind (arith, nat_tests) in rw is refl
    by (Some x) None one two = let is : ltb (x * 16 + 256) 256 ≡ false = grind (arith, nat_tests) in rw is refl
    by None b one two = let is : ltb (4096 + unwrap_or b 256) 256 ≡ false = grind (arith, nat_tests) in rw is refl

-- ---- four pairs

-- a pair at the beginning
pair_first : (x y byte : ℕ) (rest : List ℕ) → pair_of x y ≡ Some byte
    → (paired_bytes (x ∷ y ∷ rest) ≡ byte ∷ paired_bytes rest) × (behind_pairs (x ∷ y ∷ rest) ≡ behind_pairs rest)
pair_first x y byte rest pair =
    let (space, hex, value) = paired_pair_is x y byte pair in (rw (space, hex, value) refl, rw (space, hex) refl)

-- a space at the beginning
space_first : (x : ℕ) (rest : List ℕ) → x ≡ 32
    → (paired_bytes (x ∷ rest) ≡ paired_bytes rest) × (behind_pairs (x ∷ rest) ≡ behind_pairs rest)
space_first x [] at = let is : is_space x ≡ true = grind (arith, nat_tests) in (refl, rw is refl)
space_first x (y ∷ rest) at = let is : is_space x ≡ true = grind (arith, nat_tests) in (rw is refl, rw is refl)

-- a pair and a space at the beginning
spaced_first : (x y byte space : ℕ) (rest : List ℕ) → pair_of x y ≡ Some byte → space ≡ 32
    → (paired_bytes (x ∷ y ∷ space ∷ rest) ≡ byte ∷ paired_bytes rest) × (behind_pairs (x ∷ y ∷ space ∷ rest) ≡ behind_pairs rest)
spaced_first x y byte space rest pair at =
    let one = pair_first x y byte (space ∷ rest) pair in
    let two = space_first space rest at in (one.0 ∙ ap (λ l. byte ∷ l) two.0, one.1 ∙ two.1)

-- four pairs at the beginning, with a space between each
four_taken : (rest more : List ℕ) (p q r s : ℕ) → 11 ≤ length rest → more ≡ take (length rest - 11) (drop 11 rest)
    → get_or rest 2 0 ≡ 32 → get_or rest 5 0 ≡ 32 → get_or rest 8 0 ≡ 32
    → pair_of (get_or rest 0 0) (get_or rest 1 0) ≡ Some p → pair_of (get_or rest 3 0) (get_or rest 4 0) ≡ Some q
    → pair_of (get_or rest 6 0) (get_or rest 7 0) ≡ Some r → pair_of (get_or rest 9 0) (get_or rest 10 0) ≡ Some s
    → (paired_bytes rest ≡ p ∷ q ∷ r ∷ s ∷ paired_bytes more) × (behind_pairs rest ≡ behind_pairs more)
four_taken [] more p q r s many is x' y' z' one two three four = absurd (omega arith)
four_taken (a ∷ []) more p q r s many is x' y' z' one two three four = absurd (omega arith)
four_taken (a ∷ b ∷ []) more p q r s many is x' y' z' one two three four = absurd (omega arith)
four_taken (a ∷ b ∷ x ∷ []) more p q r s many is x' y' z' one two three four = absurd (omega arith)
four_taken (a ∷ b ∷ x ∷ c ∷ []) more p q r s many is x' y' z' one two three four = absurd (omega arith)
four_taken (a ∷ b ∷ x ∷ c ∷ d ∷ []) more p q r s many is x' y' z' one two three four = absurd (omega arith)
four_taken (a ∷ b ∷ x ∷ c ∷ d ∷ y ∷ []) more p q r s many is x' y' z' one two three four = absurd (omega arith)
four_taken (a ∷ b ∷ x ∷ c ∷ d ∷ y ∷ e ∷ []) more p q r s many is x' y' z' one two three four = absurd (omega arith)
four_taken (a ∷ b ∷ x ∷ c ∷ d ∷ y ∷ e ∷ f ∷ []) more p q r s many is x' y' z' one two three four = absurd (omega arith)
four_taken (a ∷ b ∷ x ∷ c ∷ d ∷ y ∷ e ∷ f ∷ z ∷ []) more p q r s many is x' y' z' one two three four = absurd (omega arith)
four_taken (a ∷ b ∷ x ∷ c ∷ d ∷ y ∷ e ∷ f ∷ z ∷ g ∷ []) more p q r s many is x' y' z' one two three four = absurd (omega arith)
four_taken (a ∷ b ∷ x ∷ c ∷ d ∷ y ∷ e ∷ f ∷ z ∷ g ∷ h ∷ tail) more p q r s many is x' y' z' one two three four =
    let all : more ≡ tail = is ∙ take_rest (a ∷ b ∷ x ∷ c ∷ d ∷ y ∷ e ∷ f ∷ z ∷ g ∷ h ∷ tail) 11 in
    let i = spaced_first a b p x (c ∷ d ∷ y ∷ e ∷ f ∷ z ∷ g ∷ h ∷ tail) one x' in
    let j = spaced_first c d q y (e ∷ f ∷ z ∷ g ∷ h ∷ tail) two y' in
    let k = spaced_first e f r z (g ∷ h ∷ tail) three z' in
    let l = pair_first g h s tail four in (
      i.0 ∙ ap (λ m. p ∷ m) (j.0 ∙ ap (λ m. q ∷ m) (k.0 ∙ ap (λ m. r ∷ m) (l.0 ∙ ap (λ t. s ∷ paired_bytes t) (sym all)))),
      i.1 ∙ j.1 ∙ k.1 ∙ l.1 ∙ ap behind_pairs (sym all),
    )

-- each of four numbers is a byte where all their bits are
pub four_bytes : (a b c d : ℕ) → bit_or (bit_or (bit_or a b) c) d < 256 → (a < 256) × (b < 256) × (c < 256) × (d < 256)
four_bytes a b c d all =
    let one : a ≤ bit_or a b = le_or_l a b in
    let two : b ≤ bit_or a b = le_or_r a b in
    let three : bit_or a b ≤ bit_or (bit_or a b) c = le_or_l (bit_or a b) c in
    let four : c ≤ bit_or (bit_or a b) c = le_or_r (bit_or a b) c in
    let five : bit_or (bit_or a b) c ≤ bit_or (bit_or (bit_or a b) c) d = le_or_l (bit_or (bit_or a b) c) d in
    let six : d ≤ bit_or (bit_or (bit_or a b) c) d = le_or_r (bit_or (bit_or a b) c) d in
    (omega arith, omega arith, omega arith, omega arith)

-- a pair that is a byte
pair_within : (high low pair : ℕ) → pair_of high low ≡ cond (ltb pair 256) (Some pair) None → pair < 256
    → pair_of high low ≡ Some pair
pair_within high low pair is small = let within : ltb pair 256 ≡ true = grind (arith, nat_tests) in is ∙ rw within refl

-- four values that are bytes, of the pairs at the beginning
pub four_read : (rest : List ℕ) (p q r s : ℕ) → 11 ≤ length rest
    → get_or rest 2 0 ≡ 32 → get_or rest 5 0 ≡ 32 → get_or rest 8 0 ≡ 32
    → pair_of (get_or rest 0 0) (get_or rest 1 0) ≡ cond (ltb p 256) (Some p) None
    → pair_of (get_or rest 3 0) (get_or rest 4 0) ≡ cond (ltb q 256) (Some q) None
    → pair_of (get_or rest 6 0) (get_or rest 7 0) ≡ cond (ltb r 256) (Some r) None
    → pair_of (get_or rest 9 0) (get_or rest 10 0) ≡ cond (ltb s 256) (Some s) None
    → (p < 256) × (q < 256) × (r < 256) × (s < 256)
    → (paired_bytes rest ≡ p ∷ q ∷ r ∷ s ∷ paired_bytes (take (length rest - 11) (drop 11 rest)))
    × (behind_pairs rest ≡ behind_pairs (take (length rest - 11) (drop 11 rest)))
four_read rest p q r s many x y z one two three four (i, j, k, l) =
    four_taken rest (take (length rest - 11) (drop 11 rest)) p q r s many refl x y z
    (pair_within (get_or rest 0 0) (get_or rest 1 0) p one i) (pair_within (get_or rest 3 0) (get_or rest 4 0) q two j)
    (pair_within (get_or rest 6 0) (get_or rest 7 0) r three k) (pair_within (get_or rest 9 0) (get_or rest 10 0) s four l)

-- That `std` reads a text without a leading `+` as the definitions of `specs/Digits.antt` do.

-- ---- digits

-- a decimal digit is one of `0` to `9`
decimal_digit : (c : ℕ) → nat_lt (digit c) 10 ≡ true → IsInRange 48 57 c
decimal_digit c e = grind (arith, nat_tests)

-- the value of a decimal digit
digit_decimal : (c : ℕ) → IsInRange 48 57 c → digit c ≡ c - 48
digit_decimal c h = grind (arith, nat_tests)

-- a decimal digit is below 10
digit_below : (c : ℕ) → IsInRange 48 57 c → nat_lt (digit c) 10 ≡ true
digit_below c h = let e = digit_decimal c h in grind (arith, nat_tests)

-- the test of decimal digits is one in `std`'s sense
decimal_test : IsDigitsTest (λ ds. are_digits 10 ds ≡ true)
decimal_test = record {
  empty = refl;
  parts = λ c cs e. let p = and_parts (nat_lt (digit c) 10) _ e in (decimal_digit c p.0, p.1);
  more = λ c cs h e. ap₂ (λ x y. x && y) (digit_below c h) e;
}

-- the value of decimal digits weighs them as `std` does
decimal_weights : WeighsDigits (place_sum 10)
decimal_weights = record {
  empty = refl;
  more = λ c cs h. ap (λ d. d * 10 ^ length cs + place_sum 10 cs) (digit_decimal c h);
}

-- decimal numbers as `std` reads them
own : IsNumeralModel (λ ds. are_digits 10 ds ≡ true) (place_sum 10)
own = numerals_by_weight _ decimal_test (place_sum 10) decimal_weights

-- ---- a result that is as a test says

-- a result that exists exactly where a test holds
as_tested : {T E : Type 0} (r : Result T E) (test : Bool) (P : Type 0) (x : T) → OkIff r P x → (test ≡ true → P) → (P → test ≡ true)
    → result_ok r ≡ cond test (Some x) None
as_tested (Ok y) true P x h to from = ap Some h.1
as_tested (Ok y) false P x h to from = absurd (true≢false (sym (from h.0)))
as_tested (Err e) true P x h to from = absurd (h (to refl))
as_tested (Err e) false P x h to from = refl

-- ---- signed numbers

-- what a negative number that fits says of its digits
fits_minus : (bits n : ℕ) → fits bits (neg_ℤ (pos n)) ≡ true → n ≤ 2 ^ (bits - 1)
fits_minus bits zero e = omega arith
fits_minus bits (suc n) e = ltb-true _ _ e

-- a negative number fits where its digits are no more than a power of two
minus_fits : (bits n : ℕ) → n ≤ 2 ^ (bits - 1) → fits bits (neg_ℤ (pos n)) ≡ true
minus_fits bits zero h = lt-ltb 0 (2 ^ (bits - 1)) (pow_pos (bits - 1))
minus_fits bits (suc n) h = lt-ltb n (2 ^ (bits - 1)) h

-- two tests, one after the other
nested : (a : Bool) (n : ℕ) (f : ℕ → ℤ) (bits : ℕ)
    → option_and_then (λ z. cond (fits bits z) (Some z) None) (option_map f (cond a (Some n) None))
    ≡ cond (a && fits bits (f n)) (Some (f n)) None
nested true n f bits = refl
nested false n f bits = refl

module _ {E : Type 0} (w : Width) (bits : ℕ) (same : hbits w ≡ bits - 1) (r : Result ℤ E) where
  signed_plain : (text : List ℕ) → ParsesSigned w 10 text r → get_or text 0 0 ≢ 43 → get_or text 0 0 ≢ 45
      → result_ok r ≡ option_and_then (λ z. cond (fits bits z) (Some z) None) (option_map (λ n. pos n) (natural_of 10 text))
  signed_plain text h plus minus =
      as_tested r _ _ _ (parse_signed_plain own w text r h plus minus)
      (λ e. let p = and_parts (nat_lt 0 (length text) && are_digits 10 text) _ e in let q = and_parts (nat_lt 0 (length text)) _ p.0 in
      (q.1, ltb-true _ _ q.0, subst (λ k. place_sum 10 text < 2 ^ k) (sym same) (ltb-true _ _ p.1)))
      (λ h. ap₂ (λ x y. x && y) (ap₂ (λ x y. x && y) (lt-ltb _ _ h.1) h.0) (lt-ltb _ _ (subst (λ k. place_sum 10 text < 2 ^ k) same h.2)))
      ∙ sym (nested _ (place_sum 10 text) (λ n. pos n) bits)

  -- what stands first is a minus
  signed_minus : (c : ℕ) (rest : List ℕ) → ParsesSigned w 10 (c ∷ rest) r → c ≡ 45
      → result_ok r ≡ option_and_then (λ z. cond (fits bits z) (Some z) None) (option_map (λ n. neg_ℤ (pos n)) (natural_of 10 rest))
  signed_minus c rest h is =
      as_tested r _ _ _ (parse_signed_minus own w (c ∷ rest) r h is)
      (λ e. let p = and_parts (nat_lt 0 (length rest) && are_digits 10 rest) _ e in let q = and_parts (nat_lt 0 (length rest)) _ p.0 in
      (q.1, ltb-true _ _ q.0, subst (λ k. place_sum 10 rest ≤ 2 ^ k) (sym same) (fits_minus bits (place_sum 10 rest) p.1)))
      (λ h. ap₂ (λ x y. x && y) (ap₂ (λ x y. x && y) (lt-ltb _ _ h.1) h.0)
      (minus_fits bits (place_sum 10 rest) (subst (λ k. place_sum 10 rest ≤ 2 ^ k) same h.2)))
      ∙ sym (nested _ (place_sum 10 rest) (λ n. neg_ℤ (pos n)) bits)

  -- what `parse` reads is the number of the text
  pub signed_read : (text : List ℕ) → ParsesSigned w 10 text r → get_or text 0 0 ≢ 43 → result_ok r ≡ signed_of bits text
  signed_read [] h plus = signed_plain [] h plus (λ e. omega arith)
  signed_read (c ∷ rest) h plus = go (eqb c 45) (Decides-eqb c 45)
    where
      go : (b : Bool) → Decides b (c ≡ 45)
          → result_ok r ≡ option_and_then (λ z. cond (fits bits z) (Some z) None)
          (cond b (option_map (λ n. neg_ℤ (pos n)) (natural_of 10 rest)) (option_map (λ n. pos n) (natural_of 10 (c ∷ rest))))
      go true d = signed_minus c rest h (d.0 refl)
      go false d = signed_plain (c ∷ rest) h plus (λ e. true≢false (sym (d.1 e)))

-- ---- hexadecimal

-- a digit is read as `hex` reads it
digit_is : (c : ℕ) → hex_digit_value c ≡ cond (nat_lt (digit c) 16) (Some (digit c)) None
digit_is c = grind (arith, nat_tests)

-- two digits write a byte
pub pair_is : (high low : ℕ) → pair_of high low ≡ hex_of 2 (high ∷ low ∷ [])
pair_is high low =
    by (nat_lt (digit high) 16) (nat_lt (digit low) 16) (digit_is high) (digit_is low)
  where
    by : (first second : Bool) → hex_digit_value high ≡ cond first (Some (digit high)) None
        → hex_digit_value low ≡ cond second (Some (digit low)) None
        → pair_of high low ≡ cond (first && (second && true)) (Some (digit high * 16 ^ 1 + (digit low * 16 ^ 0 + 0))) None
    by true true is too = rw (is, too) (ap Some (omega arith))
    by true false is too = rw (is, too) refl
    by false second is too = rw is refl

-- the word of two bytes
abbrev pub word_of : Option ℕ → Option ℕ → Option ℕ
word_of (Some high) (Some low) = Some (high * 256 + low)
word_of (Some high) None = None
word_of None low = None

-- four digits write two bytes, the high one first
pairs_are : (a b c d : ℕ) → hex_of 4 (a ∷ b ∷ c ∷ d ∷ []) ≡ word_of (hex_of 2 (a ∷ b ∷ [])) (hex_of 2 (c ∷ d ∷ []))
pairs_are a b c d = by (nat_lt (digit a) 16) (nat_lt (digit b) 16) (nat_lt (digit c) 16) (nat_lt (digit d) 16)
  where
    by : (p q r s : Bool)
        → cond (p && (q && (r && (s && true)))) (Some (digit a * 16 ^ 3 + (digit b * 16 ^ 2 + (digit c * 16 ^ 1 + (digit d * 16 ^ 0 + 0)))))
        None
        ≡ word_of (cond (p && (q && true)) (Some (digit a * 16 ^ 1 + (digit b * 16 ^ 0 + 0))) None)
        (cond (r && (s && true)) (Some (digit c * 16 ^ 1 + (digit d * 16 ^ 0 + 0))) None)
    by true true true true = ap Some (omega arith)
    by true true true false = refl
    by true true false s = refl
    by true false r s = refl
    by false q r s = refl

-- four digits write the word of two bytes
pub word_is : (text : List ℕ) → length text ≡ 4
    → hex_of 4 text ≡ word_of (pair_of (get_or text 0 0) (get_or text 1 0)) (pair_of (get_or text 2 0) (get_or text 3 0))
word_is [] four = absurd (omega arith)
word_is (a ∷ []) four = absurd (omega arith)
word_is (a ∷ b ∷ []) four = absurd (omega arith)
word_is (a ∷ b ∷ c ∷ []) four = absurd (omega arith)
word_is (a ∷ b ∷ c ∷ d ∷ []) four = pairs_are a b c d ∙ ap₂ word_of (sym (pair_is a b)) (sym (pair_is c d))
word_is (a ∷ b ∷ c ∷ d ∷ more ∷ rest) four = absurd (omega arith)

-- ---- small numbers

-- two tests, one after the other
nested_small : (a : Bool) (n : ℕ)
    → option_and_then (λ n. cond (nat_lt n 256) (Some n) None) (cond a (Some n) None) ≡ cond (a && nat_lt n 256) (Some n) None
nested_small true n = refl
nested_small false n = refl

-- what `parse` reads of a text without a leading `+` as a byte
pub small_read : {E : Type 0} (r : Result ℕ E) (text : List ℕ) → ParsesUnsigned 8 10 text r → get_or text 0 0 ≢ 43
    → result_ok r ≡ small_of text
small_read r text h plus =
    as_tested r _ _ _ (parse_plain own 8 text r h plus)
    (λ e. let p = and_parts (nat_lt 0 (length text) && are_digits 10 text) _ e in let q = and_parts (nat_lt 0 (length text)) _ p.0 in
    (q.1, ltb-true _ _ q.0, ltb-true _ _ p.1))
    (λ h. ap₂ (λ x y. x && y) (ap₂ (λ x y. x && y) (lt-ltb _ _ h.1) h.0) (lt-ltb _ _ h.2))
    ∙ sym (nested_small _ (place_sum 10 text))

-- ---- bytes that are no text

-- a digit is ASCII
digit_ascii : (base c : ℕ) → base ≤ 16 → nat_lt (digit c) base ≡ true → c < 128
digit_ascii base c within e = grind (arith, nat_tests)

-- digits are ASCII
digits_ascii : (base : ℕ) → base ≤ 16 → (text : List ℕ) → are_digits base text ≡ true → IsAscii text
digits_ascii base within [] e i = lit< tt
digits_ascii base within (c ∷ cs) e zero = digit_ascii base c within (and_parts (nat_lt (digit c) base) _ e).0
digits_ascii base within (c ∷ cs) e (suc i) = digits_ascii base within cs (and_parts (nat_lt (digit c) base) _ e).1 i

-- bytes beyond ASCII write no number
natural_ascii : (base : ℕ) → base ≤ 16 → (text : List ℕ) → ¬ (IsAscii text) → natural_of base text ≡ None
natural_ascii base within text broken =
    go (nat_lt 0 (length text)) (are_digits base text) (λ e. broken (digits_ascii base within text e))
  where
    go : (some digits : Bool) → ¬ (digits ≡ true) → cond (some && digits) (Some (place_sum base text)) None ≡ None
    go true true broken = absurd (broken refl)
    go true false broken = refl
    go false digits broken = refl

-- bytes that are no text write no number
pub natural_none : (base : ℕ) → base ≤ 16 → (text : List ℕ) → ¬ (IsUtf8 text) → natural_of base text ≡ None
natural_none base within text broken = natural_ascii base within text (λ h. broken (IsUtf8-from_ascii text h))

-- bytes that are no text write no number with a sign
pub decimal_none : (text : List ℕ) → ¬ (IsUtf8 text) → decimal_of text ≡ None
decimal_none [] broken = refl
decimal_none (c ∷ cs) broken = go (eqb c 45) (Decides-eqb c 45)
  where
    behind : c ≡ 45 → IsAscii cs → IsAscii (c ∷ cs)
    behind e h zero = omega arith
    behind e h (suc i) = h i

    go : (b : Bool) → Decides b (c ≡ 45)
        → cond b (option_map (λ n. neg_ℤ (pos n)) (natural_of 10 cs)) (option_map (λ n. pos n) (natural_of 10 (c ∷ cs))) ≡ None
    go true d = ap (option_map (λ n. neg_ℤ (pos n)))
        (natural_ascii 10 (lit≤ tt) cs (λ h. broken (IsUtf8-from_ascii (c ∷ cs) (behind (d.0 refl) h))))
    go false d = ap (option_map (λ n. pos n)) (natural_none 10 (lit≤ tt) (c ∷ cs) broken)

-- a result that is no text
pub no_text : {S E U P : Type 0} (F : S → Type 0) (V : E → Type 0) (r : Result S E) → MatchResult r F (λ e. (¬ U) × V e) → (¬ U → P)
    → IfNone (result_ok r) P
no_text F V (Ok s) h none = tt
no_text F V (Err e) h none = none h.0
