-- Order and nearness of the values of ULINEAR16.
use Rattle.std.specs.Prelude.{◌≡◌, ℕ, ◌^◌, ◌<◌, ◌≤◌, suc, ℤ, pos, negsuc, ◌*ℤ◌, ◌≤ℤ◌, nat_lt}
use Rattle.std.proofs.Common.{arith}
use Rattle.std.proofs.lemmas.Int.{ints}
use Rattle.std.proofs.lemmas.Nat.{pow_pos}
use Rattle.std.proofs.lemmas.Bool.Decides.{nat_tests}
use Rattle.pm_num.specs.Ratio.{AtMost, IsBetween, is_above}
use Rattle.pm_num.specs.Value.{upper, lower, ulinear16_value}
use Rattle.pm_num.specs.Nearest.{one_rank}
use Rattle.pm_num.specs.Lemmas.Integers.{le-times, same_from_times}
use Rattle.pm_num.specs.Lemmas.OneWord.{IsOneWord}

-- The numerator of a power of two is positive.
pub upper-positive : (n : ℤ) → 0 < upper 2 n
upper-positive (pos n) = pow_pos n
upper-positive (negsuc n) = omega arith

-- The denominator of a power of two is positive.
pub lower-positive : (n : ℤ) → 0 < lower 2 n
lower-positive (pos n) = omega arith
lower-positive (negsuc n) = pow_pos (suc n)

-- A greater word has a greater value.
pub at_most_by_word : (n : ℤ) (u w : ℕ) → u ≤ w → AtMost (ulinear16_value n u) (ulinear16_value n w)
at_most_by_word n u w h =
    let p : pos u ≤ℤ pos w = omega (arith, ints) in
    le-times (pos u *ℤ pos (upper 2 n)) (pos w *ℤ pos (upper 2 n)) (lower 2 n) (le-times (pos u) (pos w) (upper 2 n) p)

-- Only a greater word has a greater value.
pub above_by_word : (n : ℤ) (u w : ℕ) → nat_lt w u ≡ is_above (ulinear16_value n u) (ulinear16_value n w)
above_by_word n u w =
    let e = same_from_times (pos u *ℤ pos (upper 2 n)) (pos w *ℤ pos (upper 2 n)) (lower 2 n) (lower-positive n) in
    let at_most = at_most_by_word n u w in
    let back = at_most_by_word n w u in
    let f = same_from_times (pos u) (pos w) (upper 2 n) (upper-positive n) in
    grind (arith, ints, nat_tests, e, f, at_most, back)

-- The values lie between those of the least and of the greatest word.
pub ulinear16-within : (n : ℤ) (w : ℕ) → w < 2 ^ 16 → IsBetween (ulinear16_value n 0) (ulinear16_value n 65535) (ulinear16_value n w)
ulinear16-within n w h = record {
  from_least = at_most_by_word n 0 w (omega arith);
  to_greatest = at_most_by_word n w 65535 (omega arith);
}

-- No two words have one value.
pub ulinear16-one_word : (n : ℤ) → IsOneWord (ulinear16_value n) one_rank
ulinear16-one_word n u w hu hw same _ =
    let e = same_from_times (pos u *ℤ pos (upper 2 n)) (pos w *ℤ pos (upper 2 n)) (lower 2 n) (lower-positive n) same in
    let f = same_from_times (pos u) (pos w) (upper 2 n) (upper-positive n) e in
    omega (arith, ints)
