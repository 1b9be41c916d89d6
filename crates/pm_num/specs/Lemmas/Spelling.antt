-- How a word of LINEAR11 is spelled.
use Rattle.std.specs.Prelude.{◌≡◌, ℕ, ◌+◌, ◌-◌, ◌*◌, ◌/◌, ◌%◌, ◌^◌, ◌<◌, ◌≤◌, suc, ℤ, pos, negsuc, ◌*ℤ◌}
use Rattle.std.proofs.Common.{arith, ap, sym, ◌∙◌, lit<}
use Rattle.std.proofs.lemmas.Int.{ints}
use Rattle.std.proofs.lemmas.Nat.{pow-add, pow_pos}
use Rattle.std.proofs.lemmas.Bool.Decides.{nat_tests}
use Rattle.std.proofs.Math.Nat.{pow-le-pow_right}
use Rattle.pm_num.specs.Ratio.{IsBetween}
use Rattle.pm_num.specs.Value.{upper, lower, signed, exponent, mantissa, linear11_value, linear11_least, linear11_greatest}
use Rattle.pm_num.specs.Nearest.{preference, linear11_rank}
use Rattle.pm_num.specs.Formats.{IsExponent}
use Rattle.pm_num.specs.Steps.{place_of_exponent, IsSpelling}
use Rattle.pm_num.specs.Lemmas.Integers.{times-times, le-times, same_from_times}
use Rattle.pm_num.specs.Lemmas.Over.{Over, at_most_over, same_over_back}
use Rattle.pm_num.specs.Lemmas.OneWord.{IsOneWord}
use Rattle.pm_num.specs.Lemmas.Unsigned.{lower-positive}

-- A word's exponent is one of five bits.
pub IsExponent-exponent : (w : ℕ) → w < 2 ^ 16 → IsExponent (exponent w)
IsExponent-exponent w h =
    let k : w / 2 ^ 11 < 32 = omega arith in
    record { above = grind (arith, ints, nat_tests); below = grind (arith, ints, nat_tests) }

-- The place of an exponent is at most 31.
place-below : (e : ℤ) → IsExponent e → place_of_exponent e ≤ 31
place-below (pos n) h = omega (arith, ints, h.below)
place-below (negsuc n) h = omega arith

-- A word spells its mantissa at the place of its exponent.
pub IsSpelling-word : (w : ℕ) → w < 2 ^ 16 → IsSpelling (mantissa w) (place_of_exponent (exponent w))
IsSpelling-word w h =
    let k : w % 2 ^ 11 < 2048 = omega arith in
    record {
      above = grind (arith, ints, nat_tests);
      below = grind (arith, ints, nat_tests);
      place = place-below (exponent w) (IsExponent-exponent w h);
    }

-- the power of two that an exponent stands for, over 2^16
place_power : (e : ℤ) → IsExponent e → upper 2 e * 2 ^ 16 ≡ 2 ^ place_of_exponent e * lower 2 e
place_power (pos n) h = omega (arith, pow-add 2 n 16)
place_power (negsuc n) h =
    let le : n ≤ 15 = omega (arith, ints, h.above) in
    let is : 15 - n + suc n ≡ 16 = omega arith in
    let p = pow-add 2 (15 - n) (suc n) in
    let q = ap (λ (k : ℕ). 2 ^ k) is in
    omega arith

-- The value over 2^16.
pub Over-linear11 : (w : ℕ) → w < 2 ^ 16 → Over (2 ^ 16) (mantissa w *ℤ pos (2 ^ place_of_exponent (exponent w))) (linear11_value w)
Over-linear11 w h =
    let e = exponent w in
    let f = times-times (mantissa w) (upper 2 e) (2 ^ 16) in
    let g = times-times (mantissa w) (2 ^ place_of_exponent e) (lower 2 e) in
    let k = ap (λ (n : ℕ). mantissa w *ℤ pos n) (place_power e (IsExponent-exponent w h)) in
    record { common = omega arith; den = lower-positive e; is = f ∙ k ∙ sym g }

-- the values lie between those of the least and of the greatest word
pub linear11-within : (w : ℕ) → w < 2 ^ 16 → IsBetween (linear11_value linear11_least) (linear11_value linear11_greatest) (linear11_value w)
linear11-within w h =
    let s = IsSpelling-word w h in
    let y = mantissa w in
    let p = 2 ^ place_of_exponent (exponent w) in
    let k : p ≤ 2 ^ 31 = pow-le-pow_right (omega arith) s.place in
    let l = le-times (negsuc 1023) y p s.above in
    let g = le-times y (pos 1023) p s.below in
    record {
      from_least = at_most_over (Over-linear11 linear11_least (lit< tt)) (Over-linear11 w h) (omega (arith, ints));
      to_greatest = at_most_over (Over-linear11 w h) (Over-linear11 linear11_greatest (lit< tt)) (omega (arith, ints));
    }

-- no two exponents are preferred alike
preference-one : (e f : ℤ) → preference e ≡ preference f → e ≡ f
preference-one (pos m) (pos n) h = ap pos (omega arith)
preference-one (pos m) (negsuc n) h = absurd (omega arith)
preference-one (negsuc m) (pos n) h = absurd (omega arith)
preference-one (negsuc m) (negsuc n) h = ap negsuc (omega arith)

-- No two exponents' bits are one number.
signed_five-one : (u w : ℕ) → u < 32 → w < 32 → signed 5 u ≡ signed 5 w → u ≡ w
signed_five-one u w hu hw e = grind (arith, ints, nat_tests)

-- No two mantissas' bits are one number.
signed_eleven-one : (u w : ℕ) → u < 2048 → w < 2048 → signed 11 u ≡ signed 11 w → u ≡ w
signed_eleven-one u w hu hw e = grind (arith, ints, nat_tests)

-- No two words have one value and one rank.
pub linear11-one_word : IsOneWord linear11_value linear11_rank
linear11-one_word u w hu hw same ranks =
    let e = preference-one (exponent u) (exponent w) ranks in
    let y = mantissa u in
    let z = mantissa w in
    let p = 2 ^ place_of_exponent (exponent u) in
    let s = same_over_back (Over-linear11 u hu) (Over-linear11 w hw) same in
    let f = ap (λ (i : ℤ). z *ℤ pos (2 ^ place_of_exponent i)) (sym e) in
    let g : y ≡ z = same_from_times y z p (pow_pos (place_of_exponent (exponent u))) (s ∙ f) in
    let high = signed_five-one (u / 2 ^ 11) (w / 2 ^ 11) (omega arith) (omega arith) e in
    let low = signed_eleven-one (u % 2 ^ 11) (w % 2 ^ 11) (omega arith) (omega arith) g in
    omega arith
