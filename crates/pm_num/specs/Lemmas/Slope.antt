-- Order and nearness of the values of DIRECT.
use Rattle.std.specs.Prelude.{◌≡◌, ◌≢◌, ℕ, ◌*◌, ◌^◌, ◌<◌, suc, ℤ, pos, negsuc, ◌-ℤ◌, ◌*ℤ◌, ◌≤ℤ◌, unsigned_abs, int_lt, refl}
use Rattle.std.proofs.Common.{◌<ℤ◌, ap, arith, lit<, sym}
use Rattle.std.proofs.lemmas.Int.{ints}
use Rattle.std.proofs.lemmas.Bool.Decides.{nat_tests}
use Rattle.std.proofs.Math.Nat.{one-le-pow, mul-pos}
use Rattle.pm_num.specs.Ratio.{Ratio, AtMost, IsBetween, SameValue, is_above}
use Rattle.pm_num.specs.Value.{upper, lower, signed, sign, direct_value, direct_least, direct_greatest}
use Rattle.pm_num.specs.Nearest.{IsValue, one_rank}
use Rattle.pm_num.specs.Lemmas.Integers.{le-times, same_from_times}
use Rattle.pm_num.specs.Lemmas.OneWord.{IsOneWord}

-- The numerator of a power of ten is positive.
pub upper_ten-positive : (n : ℤ) → 0 < upper 10 n
upper_ten-positive (pos n) = one-le-pow n 10 (omega arith)
upper_ten-positive (negsuc n) = omega arith

-- The denominator of a power of ten is positive.
pub lower_ten-positive : (n : ℤ) → 0 < lower 10 n
lower_ten-positive (pos n) = omega arith
lower_ten-positive (negsuc n) = one-le-pow (suc n) 10 (omega arith)

-- A word in two's complement is at most 32,767.
pub signed-below : (w : ℕ) → w < 2 ^ 16 → signed 16 w ≤ℤ pos 32767
signed-below w h = grind (arith, ints, nat_tests)

-- A word in two's complement is at least -32,768.
pub signed-above : (w : ℕ) → w < 2 ^ 16 → negsuc 32767 ≤ℤ signed 16 w
signed-above w h = grind (arith, ints, nat_tests)

-- No two words are one number in two's complement.
pub signed-one : (u w : ℕ) → u < 2 ^ 16 → w < 2 ^ 16 → signed 16 u ≡ signed 16 w → u ≡ w
signed-one u w hu hw e = grind (arith, ints, nat_tests)

-- The greater m * word, the greater the value.
pub at_most_by_sign : (m b r : ℤ) (u w : ℕ) → (sign m *ℤ signed 16 u) ≤ℤ (sign m *ℤ signed 16 w)
    → AtMost (direct_value m b r u) (direct_value m b r w)
at_most_by_sign (pos n) b r u w h =
    let y = signed 16 u in
    let z = signed 16 w in
    let k : y ≤ℤ z = omega (arith, ints) in
    let l = le-times y z (lower 10 r) k in
    le-times (pos 1 *ℤ (y *ℤ pos (lower 10 r) -ℤ b *ℤ pos (upper 10 r))) (pos 1 *ℤ (z *ℤ pos (lower 10 r) -ℤ b *ℤ pos (upper 10 r)))
    (n * upper 10 r) (omega (arith, ints))
at_most_by_sign (negsuc n) b r u w h =
    let y = signed 16 u in
    let z = signed 16 w in
    let k : z ≤ℤ y = omega (arith, ints) in
    let l = le-times z y (lower 10 r) k in
    le-times (negsuc 0 *ℤ (y *ℤ pos (lower 10 r) -ℤ b *ℤ pos (upper 10 r))) (negsuc 0 *ℤ (z *ℤ pos (lower 10 r) -ℤ b *ℤ pos (upper 10 r)))
    (suc n * upper 10 r) (omega (arith, ints))

-- The values lie between those of the least and of the greatest word.
pub direct-within : (m b r : ℤ) (w : ℕ) → w < 2 ^ 16
    → IsBetween (direct_value m b r (direct_least m)) (direct_value m b r (direct_greatest m)) (direct_value m b r w)
direct-within (pos n) b r w h =
    let l = signed-above w h in
    let g = signed-below w h in
    record {
      from_least = at_most_by_sign (pos n) b r 32768 w (omega (arith, ints));
      to_greatest = at_most_by_sign (pos n) b r w 32767 (omega (arith, ints));
    }
direct-within (negsuc n) b r w h =
    let l = signed-above w h in
    let g = signed-below w h in
    record {
      from_least = at_most_by_sign (negsuc n) b r 32767 w (omega (arith, ints));
      to_greatest = at_most_by_sign (negsuc n) b r w 32768 (omega (arith, ints));
    }

-- A slope that is not 0 has a positive size.
unsigned_abs-positive : (m : ℤ) → m ≢ pos 0 → 0 < unsigned_abs m
unsigned_abs-positive m h = omega (arith, ints)

-- The denominators of the values are positive.
pub direct-has_den : (m b r : ℤ) (w : ℕ) → m ≢ pos 0 → 0 < (direct_value m b r w).den
direct-has_den m b r w h = mul-pos (unsigned_abs-positive m h) (upper_ten-positive r)

-- a sign can be taken away on both sides
same_by_sign : (m a b : ℤ) → sign m *ℤ a ≡ sign m *ℤ b → a ≡ b
same_by_sign (pos n) a b e = omega (arith, ints)
same_by_sign (negsuc n) a b e = omega (arith, ints)

-- no two words have one value
pub direct-one_word : (m b r : ℤ) → m ≢ pos 0 → IsOneWord (direct_value m b r) one_rank
direct-one_word m b r slope u w hu hw same _ =
    let y = signed 16 u *ℤ pos (lower 10 r) in
    let z = signed 16 w *ℤ pos (lower 10 r) in
    let c = b *ℤ pos (upper 10 r) in
    let e = same_from_times (sign m *ℤ (y -ℤ c)) (sign m *ℤ (z -ℤ c)) (unsigned_abs m * upper 10 r) (direct-has_den m b r u slope) same in
    let f = same_by_sign m (y -ℤ c) (z -ℤ c) e in
    let g : y ≡ z = omega (arith, ints) in
    signed-one u w hu hw (same_from_times (signed 16 u) (signed 16 w) (lower 10 r) (lower_ten-positive r) g)

-- A value is above another exactly where its number is, if the greater number has the greater value and no two numbers
-- have one.
above_by_number : (p q : Ratio) (y z : ℤ) → (z ≤ℤ y → AtMost q p) → (y ≤ℤ z → AtMost p q) → (SameValue p q → y ≡ z)
    → int_lt z y ≡ is_above p q
above_by_number p q y z back at_most one = grind (arith, ints, nat_tests, back, at_most, one)

-- With a slope above 0 the greater number has the greater value.
pub direct-above_rising : (m b r : ℤ) (u w : ℕ) → m ≢ pos 0 → pos 0 ≤ℤ m → u < 2 ^ 16 → w < 2 ^ 16
    → int_lt (signed 16 w) (signed 16 u) ≡ is_above (direct_value m b r u) (direct_value m b r w)
direct-above_rising (pos n) b r u w slope rising hu hw =
    above_by_number (direct_value (pos n) b r u) (direct_value (pos n) b r w) (signed 16 u) (signed 16 w)
    (λ h. at_most_by_sign (pos n) b r w u (omega (arith, ints))) (λ h. at_most_by_sign (pos n) b r u w (omega (arith, ints)))
    (λ same. ap (signed 16) (direct-one_word (pos n) b r slope u w hu hw same refl))
direct-above_rising (negsuc n) b r u w slope rising hu hw = absurd (omega (arith, ints))

-- With a slope below 0 the lesser number has the greater value.
pub direct-above_falling : (m b r : ℤ) (u w : ℕ) → m ≢ pos 0 → m <ℤ pos 0 → u < 2 ^ 16 → w < 2 ^ 16
    → int_lt (signed 16 u) (signed 16 w) ≡ is_above (direct_value m b r u) (direct_value m b r w)
direct-above_falling (pos n) b r u w slope falling hu hw = absurd (omega (arith, ints))
direct-above_falling (negsuc n) b r u w slope falling hu hw =
    above_by_number (direct_value (negsuc n) b r u) (direct_value (negsuc n) b r w) (signed 16 w) (signed 16 u)
    (λ h. at_most_by_sign (negsuc n) b r w u (omega (arith, ints))) (λ h. at_most_by_sign (negsuc n) b r u w (omega (arith, ints)))
    (λ same. ap (signed 16) (sym (direct-one_word (negsuc n) b r slope u w hu hw same refl)))

-- A word has the least value.
pub direct-least_met : (m b r : ℤ) → IsValue (direct_value m b r) (direct_value m b r (direct_least m))
direct-least_met (pos n) b r = (0x8000, lit< tt, refl)
direct-least_met (negsuc n) b r = (0x7FFF, lit< tt, refl)

-- A word has the greatest value.
pub direct-greatest_met : (m b r : ℤ) → IsValue (direct_value m b r) (direct_value m b r (direct_greatest m))
direct-greatest_met (pos n) b r = (0x7FFF, lit< tt, refl)
direct-greatest_met (negsuc n) b r = (0x8000, lit< tt, refl)
