-- Rounded quotients of whole numbers, and the nearest word of each format.
use Rattle.std.specs.{Int.int_div_euclid, Prelude.int_rem}
use Rattle.std.proofs.lemmas.Bool.{cases_lt}
use Rattle.std.proofs.Common.{◌≡◌, ℕ, ◌*◌, ◌<◌, ◌≤◌, ◌^◌, ⊎_elim, ap, subst, sym, arith, ℤ, ◌-◌, pos, negsuc, ◌+ℤ◌, ◌-ℤ◌, ◌*ℤ◌, ◌<ℤ◌, ◌≤ℤ◌}
use Rattle.std.proofs.Common.{unsigned_abs, ◌∙◌, refl, ◌+◌, suc, neg_ℤ, ◌≢◌, inl, inr}
use Rattle.std.proofs.Math.Nat.{le_of_mul-le-mul_right, pow-le-pow_right, mul-pos}
use Rattle.std.proofs.lemmas.Int.{ints, by_lt_z, to_z-of_z, unsigned_abs-mul}
use Rattle.std.proofs.lemmas.Nat.{mul-le, pow-add, pow_pos}
use borrow.Author.Differences.{product_is}
use mir.Syntax.{w64, w8}
use mir.Val.{SFits, to_z, of_z}
use Rattle.pm_num.specs.{Lemmas.OneWord.at_most_both, Lemmas.Unsigned.lower-positive}
use Rattle.pm_num.specs.Bounds.{IsAtMost, IsAtLeast}
use Rattle.pm_num.specs.Formats.{IsDecimal, IsExponent}
use Rattle.pm_num.specs.Lemmas.Integers.{lt-times, sub-times, times-times, le-times, times-swap, le_from_times, same_from_times}
use Rattle.pm_num.specs.Lemmas.Over.{at_most-trans, Over, apart, near_over, near_over_back, at_most_over, same_over_back}
use Rattle.pm_num.specs.Lemmas.Over.{at_most_from_cross, cross_from_at_most, at_least_from_cross, cross_from_at_least}
use Rattle.pm_num.specs.Lemmas.Slope.{direct-within, direct-least_met}
use Rattle.pm_num.specs.Lemmas.Spelling.{IsExponent-exponent, IsSpelling-word, Over-linear11}
use Rattle.pm_num.specs.Nearest.{gap, IsNearest, IsValue, Near, one_rank, preference, linear11_rank}
use Rattle.pm_num.specs.Ratio.{Ratio, AtMost, SameValue, IsBetween}
use Rattle.pm_num.specs.Steps.{IsCapped, IsRaised, IsFloor, IsCeiling, IsRounded, Spacing, IsWithinPlaces, IsPlaceBelow, IsPlaceAbove}
use Rattle.pm_num.specs.Steps.{at_place, IsPlace, direct_spacing, place_of_exponent, IsSpelling, IsFar, IsLarge, IsPreferred, IsPlaceFor}
use Rattle.pm_num.specs.Value.{upper, lower, sign, signed, direct_value, direct_least, direct_greatest, exponent, mantissa, linear11_value}
use Rattle.pm_num.specs.Value.{ulinear16_value}

-- Rounding down and up of a number beyond the range: what is found for the nearer end is found for the number.

-- Every word's value lies between these two.
abbrev pub AllBetween : (ℕ → Ratio) → Ratio → Ratio → Type 0
AllBetween value least greatest = (u : ℕ) → u < 2 ^ 16 → IsBetween least greatest (value u)

-- The word that a capped number is rounded down to is the one that the number itself is rounded down to.
pub IsAtMost-capped : {value : ℕ → Ratio} {rank : ℕ → ℕ} {least greatest x y : Ratio} {w : ℕ} → 0 < greatest.den
    → AllBetween value least greatest → IsCapped least greatest x y → IsAtMost value rank y w → IsAtMost value rank x w
IsAtMost-capped {value = value} {rank = rank} {greatest = greatest} {x = x} {y = y} {w = w} den between capped is =
    ⊎_elim
    (λ (same : y ≡ x). subst (λ (z : Ratio). IsAtMost value rank z w) same is)
    (λ (above : (y ≡ greatest) × AtMost greatest x).
    let at = subst (λ (z : Ratio). AtMost (value w) z) above.0 is.reached in
    record {
      word = is.word;
      reached = at_most-trans (value w) greatest x den at above.1;
      greatest = λ u k _. is.greatest u k (subst (λ (z : Ratio). AtMost (value u) z) (sym above.0) (between u k).to_greatest);
      spelling = is.spelling;
    })
    capped.either

-- The word that a raised number is rounded up to is the one that the number itself is rounded up to.
pub IsAtLeast-raised : {value : ℕ → Ratio} {rank : ℕ → ℕ} {least greatest x y : Ratio} {w : ℕ} → 0 < least.den
    → AllBetween value least greatest → IsRaised least greatest x y → IsAtLeast value rank y w → IsAtLeast value rank x w
IsAtLeast-raised {value = value} {rank = rank} {least = least} {x = x} {y = y} {w = w} den between raised is =
    ⊎_elim
    (λ (same : y ≡ x). subst (λ (z : Ratio). IsAtLeast value rank z w) same is)
    (λ (below : (y ≡ least) × AtMost x least).
    let at = subst (λ (z : Ratio). AtMost z (value w)) below.0 is.reached in
    record {
      word = is.word;
      reached = at_most-trans x least (value w) den below.1 at;
      least = λ u k _. is.least u k (subst (λ (z : Ratio). AtMost z (value u)) (sym below.0) (between u k).from_least);
      spelling = is.spelling;
    })
    raised.either

-- One bound is at most the other, also as the code passed them.
pub ordered_along : (l m g k : Ratio) → l ≡ m → g ≡ k → AtMost m k → AtMost l g
ordered_along l m g k e f h = subst (λ (v : Ratio). AtMost v g) (sym e) (subst (λ (v : Ratio). AtMost m v) (sym f) h)

-- A number that is capped at the bounds that the code passed is capped at the bounds that are meant.
pub capped_along : {x y : Ratio} (l m g k : Ratio) → l ≡ m → g ≡ k → IsCapped l g x y → IsCapped m k x y
capped_along {x} {y} l m g k e f h =
    subst (λ (v : Ratio). IsCapped v k x y) e (subst (λ (v : Ratio). IsCapped l v x y) f h)

-- A number that is raised at the bounds that the code passed is raised at the bounds that are meant.
pub raised_along : {x y : Ratio} (l m g k : Ratio) → l ≡ m → g ≡ k → IsRaised l g x y → IsRaised m k x y
raised_along {x} {y} l m g k e f h =
    subst (λ (v : Ratio). IsRaised v k x y) e (subst (λ (v : Ratio). IsRaised l v x y) f h)

-- A word that ranks first among those of its value is the nearest word for each number of that value.
nearest_for_same : {value : ℕ → Ratio} {rank : ℕ → ℕ} (x : Ratio) (w : ℕ) → w < 2 ^ 16 → 0 < x.den → 0 < (value w).den
    → SameValue (value w) x → ((u : ℕ) → u < 2 ^ 16 → SameValue (value u) (value w) → rank w ≤ rank u) → IsNearest value rank x w
nearest_for_same {value} {rank} x w word den own same spelling =
    let none : gap x (value w) ≡ 0 = omega (arith, ints) in
    record {
      word = word;
      nearest = λ u h. let e = ap (λ (n : ℕ). n * (value u).den) none in omega arith;
      lowest = λ u h near.
          let e = ap (λ (n : ℕ). n * (value u).den) none in
          let f : gap x (value u) * (value w).den ≤ 0 * (value w).den = omega arith in
          let g : gap x (value u) ≤ 0 = le_of_mul-le-mul_right f own in
          at_most-trans (value w) x (value u) den (omega (arith, ints)) (omega (arith, ints));
      spelling = spelling;
    }

-- The word that a number is rounded down to is the nearest word for that word's own value.
pub nearest-at_most : {value : ℕ → Ratio} {rank : ℕ → ℕ} {x : Ratio} {w : ℕ} → 0 < (value w).den → IsAtMost value rank x w
    → IsNearest value rank (value w) w
nearest-at_most {value} {rank} {x} {w} den is = nearest_for_same (value w) w is.word den den (omega (arith, ints)) is.spelling

-- The word that a number is rounded up to is the nearest word for that word's own value.
pub nearest-at_least : {value : ℕ → Ratio} {rank : ℕ → ℕ} {x : Ratio} {w : ℕ} → 0 < (value w).den → IsAtLeast value rank x w
    → IsNearest value rank (value w) w
nearest-at_least {value} {rank} {x} {w} den is = nearest_for_same (value w) w is.word den den (omega (arith, ints)) is.spelling

-- The second of two words that a number is rounded down to is the nearest word for the value of the first.
pub nearest-at_most_both : {value : ℕ → Ratio} {rank : ℕ → ℕ} {x : Ratio} {u w : ℕ} → 0 < (value u).den → 0 < (value w).den
    → IsAtMost value rank x u → IsAtMost value rank x w → IsNearest value rank (value u) w
nearest-at_most_both {value} {rank} {x} {u} {w} den own first second =
    let p = first.greatest w second.word second.reached in
    let q = second.greatest u first.word first.reached in
    nearest_for_same (value u) w second.word den own (at_most_both (value w) (value u) p q) second.spelling

-- The second of two words that a number is rounded up to is the nearest word for the value of the first.
pub nearest-at_least_both : {value : ℕ → Ratio} {rank : ℕ → ℕ} {x : Ratio} {u w : ℕ} → 0 < (value u).den → 0 < (value w).den
    → IsAtLeast value rank x u → IsAtLeast value rank x w → IsNearest value rank (value u) w
nearest-at_least_both {value} {rank} {x} {u} {w} den own first second =
    let p = first.least w second.word second.reached in
    let q = second.least u first.word first.reached in
    nearest_for_same (value u) w second.word den own (at_most_both (value w) (value u) q p) second.spelling

-- A number at or above the greatest value is rounded down to a word of that value.
pub end-at_most : {value : ℕ → Ratio} {rank : ℕ → ℕ} {lowest highest x : Ratio} {w : ℕ} → AllBetween value lowest highest
    → IsValue value highest → AtMost highest x → IsAtMost value rank x w → SameValue (value w) highest
end-at_most {value} {rank} {highest = highest} {x = x} {w = w} between met beyond is =
    let at = subst (λ (v : Ratio). AtMost v x) (sym met.2) beyond in
    let reached = subst (λ (v : Ratio). AtMost v (value w)) met.2 (is.greatest met.0 met.1 at) in
    at_most_both (value w) highest (between w is.word).to_greatest reached

-- A number at or below the least value is rounded up to a word of that value.
pub end-at_least : {value : ℕ → Ratio} {rank : ℕ → ℕ} {lowest highest x : Ratio} {w : ℕ} → AllBetween value lowest highest
    → IsValue value lowest → AtMost x lowest → IsAtLeast value rank x w → SameValue (value w) lowest
end-at_least {value} {rank} {lowest = lowest} {x = x} {w = w} between met beyond is =
    let at = subst (λ (v : Ratio). AtMost x v) (sym met.2) beyond in
    let reached = subst (λ (v : Ratio). AtMost (value w) v) met.2 (is.least met.0 met.1 at) in
    at_most_both (value w) lowest reached (between w is.word).from_least

-- The word that a number is rounded down to has the number's value if some word has it.
pub hit-at_most : {value : ℕ → Ratio} {rank : ℕ → ℕ} {x : Ratio} {u w : ℕ} → u < 2 ^ 16 → 0 < (value u).den → SameValue (value u) x
    → IsAtMost value rank x w → SameValue (value w) x
hit-at_most {value} {rank} {x} {u} {w} word den same is =
    let up = is.greatest u word (omega (arith, ints)) in
    at_most_both (value w) x is.reached (at_most-trans x (value u) (value w) den (omega (arith, ints)) up)

-- The word that a number is rounded up to has the number's value if some word has it.
pub hit-at_least : {value : ℕ → Ratio} {rank : ℕ → ℕ} {x : Ratio} {u w : ℕ} → u < 2 ^ 16 → 0 < (value u).den → SameValue (value u) x
    → IsAtLeast value rank x w → SameValue (value w) x
hit-at_least {value} {rank} {x} {u} {w} word den same is =
    let down = is.least u word (omega (arith, ints)) in
    at_most_both (value w) x (at_most-trans (value w) (value u) x den down (omega (arith, ints))) is.reached

-- Floors and rounded quotients of whole numbers.

-- The quotient whose remainder is not negative is the floor, for a positive divisor.
pub floor-int_div_euclid : (a d : ℤ) → pos 0 <ℤ d → IsFloor a d (int_div_euclid a d)
floor-int_div_euclid a (negsuc d) h = absurd (omega (arith, ints))
floor-int_div_euclid (pos a) (pos d) h =
    let positive : 0 < d = omega (arith, ints) in
    record { reached = omega (arith, ints); next_above = omega (arith, ints) }
floor-int_div_euclid (negsuc a) (pos d) h =
    let positive : 0 < d = omega (arith, ints) in
    record { reached = omega (arith, ints); next_above = omega (arith, ints) }

-- No whole multiple of the divisor is nearer than the rounded one.
pub nearest_from_rounded : (a q : ℤ) (d : ℕ) → IsRounded a (pos d) q → (j : ℤ)
    → unsigned_abs (a -ℤ q *ℤ pos d) ≤ unsigned_abs (a -ℤ j *ℤ pos d)
nearest_from_rounded a q d h j =
    by_lt_z j q
    (λ less. let k = lt-times j q d less in omega (arith, ints))
    (λ at_most. by_lt_z q j (λ less. let k = lt-times q j d less in omega (arith, ints))
    (λ p. let same : q ≡ j = omega (arith, ints) in let e = ap (λ (z : ℤ). unsigned_abs (a -ℤ z *ℤ pos d)) same in omega arith))

-- No whole number whose multiple is as near is lower than the rounded quotient.
pub lower_from_rounded : (a q : ℤ) (d : ℕ) → IsRounded a (pos d) q → (j : ℤ)
    → unsigned_abs (a -ℤ j *ℤ pos d) ≤ unsigned_abs (a -ℤ q *ℤ pos d) → q ≤ℤ j
lower_from_rounded a q d h j near =
    by_lt_z j q (λ less. let k = lt-times j q d less in absurd (omega (arith, ints))) (λ p. p)

-- A whole number that is at most the quotient is at most the rounded one.
pub above_from_rounded : (a q : ℤ) (d : ℕ) → 0 < d → IsRounded a (pos d) q → (l : ℤ) → (l *ℤ pos d) ≤ℤ a → l ≤ℤ q
above_from_rounded a q d positive h l le =
    by_lt_z q l (λ less. let k = lt-times q l d less in absurd (omega (arith, ints))) (λ p. p)

-- A whole number that is at least the quotient is at least the rounded one.
pub below_from_rounded : (a q : ℤ) (d : ℕ) → 0 < d → IsRounded a (pos d) q → (g : ℤ) → a ≤ℤ (g *ℤ pos d) → q ≤ℤ g
below_from_rounded a q d positive h g le =
    by_lt_z g q (λ less. let k = lt-times g q d less in absurd (omega (arith, ints))) (λ p. p)

-- The rounded quotient is a floor; b, e and r are what the code computes.
pub rounded-floor : {b e q r : ℤ} (a d : ℤ) → pos 0 <ℤ d → IsFloor b e q → b ≡ pos 2 *ℤ a +ℤ d -ℤ pos 1 → e ≡ pos 2 *ℤ d → r ≡ q
    → IsRounded a d r
rounded-floor {b = b} {q = q} a (pos d) positive h is_b is_e is_r =
    let f = subst (λ (z : ℤ). IsFloor b z q) is_e h in
    let g = subst (λ (z : ℤ). IsRounded a (pos d) z) (sym is_r) in
    g (record { below = omega (arith, ints); above = omega (arith, ints) })
rounded-floor a (negsuc d) positive h is_b is_e is_r = absurd (omega (arith, ints))

-- What the code's division gives is the floor.
pub floor_from : (a d q : ℤ) → pos 0 <ℤ d → q ≡ int_div_euclid a d → IsFloor a d q
floor_from a d q positive e = subst (λ (z : ℤ). IsFloor a d z) (sym e) (floor-int_div_euclid a d positive)

-- No greater whole number than the floor is at most the quotient; b, e and r are what the code computes.
pub greatest_from_floor : {b e q r : ℤ} (a k : ℤ) (d : ℕ) → IsFloor b e q → b ≡ a → e ≡ pos d → r ≡ q → (k *ℤ pos d) ≤ℤ a → k ≤ℤ r
greatest_from_floor {b = b} {q = q} a k d h is_b is_e is_r le =
    let f = subst (λ (z : ℤ). IsFloor b z q) is_e h in
    by_lt_z q k (λ less. let i = lt-times q k d less in absurd (omega (arith, ints))) (λ p. omega (arith, ints))

-- What the code passed and returned, at the numbers that are meant.
pub same_product : {p q r : ℤ} (a b : ℤ) → SFits w64 p → SFits w64 q → r ≡ to_z w64 (of_z w64 p) *ℤ to_z w64 (of_z w64 q) → p ≡ a
    → q ≡ b
    → r ≡ a *ℤ b
same_product a b fits_p fits_q e is_p is_q = let f = simp to_z-of_z at e in cc

-- The code's product s is that of a and b if its factors are a and b, which the casts keep.
pub product_at : {p q r s : ℤ} (a b : ℤ) → r ≡ p *ℤ q → p ≡ a → q ≡ b → s ≡ r → s ≡ a *ℤ b
product_at {q = q} a b e is_p is_q is_s = is_s ∙ e ∙ ap (λ (z : ℤ). z *ℤ q) is_p ∙ ap (λ (z : ℤ). a *ℤ z) is_q

-- The size of a product.
pub product_size : {r : ℤ} (a b : ℤ) → r ≡ a *ℤ b → unsigned_abs r ≡ unsigned_abs a * unsigned_abs b
product_size a b e = ap unsigned_abs e ∙ unsigned_abs-mul a b

-- A quotient of the numbers that are meant, whatever is said of it; b, e and r are what the code computes.
pub quotient_at : {b e q r : ℤ} (P : ℤ → ℤ → ℤ → Type 0) (a d : ℤ) → P b e q → b ≡ a → e ≡ d → r ≡ q → P a d r
quotient_at {e = e} {q = q} P a d h is_b is_e is_r =
    let f = subst (λ (z : ℤ). P z e q) is_b h in
    let g = subst (λ (z : ℤ). P a z q) is_e f in
    subst (λ (z : ℤ). P a d z) (sym is_r) g

-- Whole bounds of the quotient a / d bound k.
pub record IsWithinWhole (a : ℤ) (d : ℕ) (k : ℤ) : Type 0 where
  pub above : (l : ℤ) → (l *ℤ pos d) ≤ℤ a → l ≤ℤ k
  pub below : (g : ℤ) → a ≤ℤ (g *ℤ pos d) → k ≤ℤ g

-- Whole bounds of the quotient bound the rounded quotient.
pub IsWithinWhole-rounded : (a k : ℤ) (d : ℕ) → 0 < d → IsRounded a (pos d) k → IsWithinWhole a d k
IsWithinWhole-rounded a k d positive h =
    record { above = above_from_rounded a k d positive h; below = below_from_rounded a k d positive h }

-- Whole bounds of the quotient bound the quotient rounded down.
pub IsWithinWhole-floor : (a k : ℤ) (d : ℕ) → 0 < d → IsFloor a (pos d) k → IsWithinWhole a d k
IsWithinWhole-floor a k d positive h = record {
  above = λ l le. by_lt_z k l (λ less. let i = lt-times k l d less in absurd (omega (arith, ints))) (λ p. p);
  below = λ g le. by_lt_z g k (λ less. let i = lt-times g k d less in absurd (omega (arith, ints))) (λ p. p);
}

-- Whole bounds of the quotient bound the quotient rounded up.
pub IsWithinWhole-ceiling : (a k : ℤ) (d : ℕ) → 0 < d → IsCeiling a (pos d) k → IsWithinWhole a d k
IsWithinWhole-ceiling a k d positive h = record {
  above = λ l le. by_lt_z k l (λ less. let i = lt-times k l d less in absurd (omega (arith, ints))) (λ p. p);
  below = λ g le. by_lt_z g k (λ less. let i = lt-times g k d less in absurd (omega (arith, ints))) (λ p. p);
}

-- A quotient rounded down is no larger than its dividend.
pub floor_size : {b e q : ℤ} (d : ℤ) → pos 0 <ℤ d → unsigned_abs b < 2 ^ 120 → IsFloor b e q → e ≡ d → unsigned_abs q ≤ 2 ^ 120
floor_size {b = b} {q = q} (pos d) positive small h is_e =
    let f = subst (λ (z : ℤ). IsFloor b z q) is_e h in
    let whole = IsWithinWhole-floor b q d (omega (arith, ints)) f in
    let from : negsuc (2 ^ 120 - 1) ≤ℤ q = whole.above (negsuc (2 ^ 120 - 1)) (omega (arith, ints)) in
    let to : q ≤ℤ pos (2 ^ 120) = whole.below (pos (2 ^ 120)) (omega (arith, ints)) in
    omega (arith, ints)
floor_size (negsuc d) positive small h is_e = absurd (omega (arith, ints))

-- The least whole number not below a quotient is the floor of its negative, negated; b, e and r are what the code computes.
pub ceiling-floor : {b e q r : ℤ} (a d : ℤ) → pos 0 <ℤ d → IsFloor b e q → b ≡ pos 0 -ℤ a → e ≡ d → r ≡ pos 0 -ℤ q → IsCeiling a d r
ceiling-floor {b = b} {q = q} a (pos d) positive h is_b is_e is_r =
    let f = subst (λ (z : ℤ). IsFloor b z q) is_e h in
    let negative : (pos 0 -ℤ q) *ℤ pos d ≡ pos 0 -ℤ q *ℤ pos d = sub-times (pos 0) q d ∙ omega (arith, ints) in
    subst (λ (z : ℤ). IsCeiling a (pos d) z) (sym is_r) (record { reached = omega (arith, ints); next_below = omega (arith, ints) })
ceiling-floor a (negsuc d) positive h is_b is_e is_r = absurd (omega (arith, ints))

-- The nearest of evenly spaced numbers.

-- The numerator of the number at k, over the grid's denominator.
abbrev place_num : Spacing → ℤ → ℤ
place_num g k = k *ℤ pos g.step -ℤ g.offset

-- x moved by the offset, over both denominators.
abbrev pub moved_num : Spacing → Ratio → ℤ
moved_num g x = x.num *ℤ pos g.den +ℤ g.offset *ℤ pos x.den

-- A place's number is over the grid's denominator.
Over-at_place : (g : Spacing) (k : ℤ) → 0 < g.den → Over g.den (place_num g k) (at_place g k)
Over-at_place g k h = record { common = h; den = h; is = refl }

-- The difference of x and a place's number, over both denominators.
distance : (g : Spacing) (x : Ratio) (k : ℤ) → x.num *ℤ pos g.den -ℤ place_num g k *ℤ pos x.den ≡ moved_num g x -ℤ k *ℤ pos (g.step * x.den)
distance g x k =
    let e = sub-times (k *ℤ pos g.step) g.offset x.den in
    let f = times-times k g.step x.den in
    omega (arith, ints)

-- The distance of x and a place's number, over both denominators.
apart-at_place : (g : Spacing) (x : Ratio) (k : ℤ)
    → apart g.den x (place_num g k) ≡ unsigned_abs (moved_num g x -ℤ k *ℤ pos (g.step * x.den))
apart-at_place g x k = ap unsigned_abs (distance g x k)

-- The rounded place has the nearest number.
pub nearest_on_grid : (g : Spacing) (x : Ratio) (q : ℤ) → 0 < g.den → IsRounded (moved_num g x) (pos (g.step * x.den)) q → (j : ℤ)
    → Near x (at_place g q) (at_place g j)
nearest_on_grid g x q h r j =
    let e = apart-at_place g x q in
    let f = apart-at_place g x j in
    let n = nearest_from_rounded (moved_num g x) q (g.step * x.den) r j in
    near_over x (Over-at_place g q h) (Over-at_place g j h) (omega arith)

-- The rounded place is the lowest of those whose numbers are as near.
pub lowest_on_grid : (g : Spacing) (x : Ratio) (q : ℤ) → 0 < g.den → IsRounded (moved_num g x) (pos (g.step * x.den)) q → (j : ℤ)
    → Near x (at_place g j) (at_place g q) → q ≤ℤ j
lowest_on_grid g x q h r j near =
    let e = apart-at_place g x q in
    let f = apart-at_place g x j in
    let n = near_over_back x (Over-at_place g j h) (Over-at_place g q h) near in
    lower_from_rounded (moved_num g x) q (g.step * x.den) r j (omega arith)

-- A whole number that the bounds of the quotient bound is a place that the bounds of x bound.
pub within_from_whole : (g : Spacing) (x : Ratio) (q : ℤ) → IsWithinWhole (moved_num g x) (g.step * x.den) q → IsWithinPlaces g x q
within_from_whole g x q whole = record {
  above = λ j le. let e = distance g x j in whole.above j (omega (arith, ints));
  below = λ j le. let e = distance g x j in whole.below j (omega (arith, ints));
}

-- The place rounded down is the greatest one whose number isn't above x.
pub IsPlaceBelow-floor : (g : Spacing) (x : Ratio) (q : ℤ) → 0 < g.step * x.den → IsFloor (moved_num g x) (pos (g.step * x.den)) q
    → IsPlaceBelow g x q
IsPlaceBelow-floor g x q h r =
    let d = distance g x q in
    record {
      reached = omega (arith, ints);
      within = within_from_whole g x q (IsWithinWhole-floor (moved_num g x) q (g.step * x.den) h r);
    }

-- The place rounded up is the least one whose number isn't below x.
pub IsPlaceAbove-ceiling : (g : Spacing) (x : Ratio) (q : ℤ) → 0 < g.step * x.den → IsCeiling (moved_num g x) (pos (g.step * x.den)) q
    → IsPlaceAbove g x q
IsPlaceAbove-ceiling g x q h r =
    let d = distance g x q in
    record {
      reached = omega (arith, ints);
      within = within_from_whole g x q (IsWithinWhole-ceiling (moved_num g x) q (g.step * x.den) h r);
    }

-- A higher place has a greater number.
ordered_on_grid : (g : Spacing) (q j : ℤ) → q ≤ℤ j → AtMost (at_place g q) (at_place g j)
ordered_on_grid g q j h =
    let e = le-times q j g.step h in
    le-times (place_num g q) (place_num g j) g.den (omega (arith, ints))

-- A format whose word u has the number at `place u` of a grid: the word of the nearest number is the nearest word.
pub nearest_word : {value : ℕ → Ratio} {x : Ratio} {w : ℕ} {q : ℤ} (place : ℕ → ℤ) (g : Spacing)
    → ((u : ℕ) → u < 2 ^ 16 → value u ≡ at_place g (place u)) → 0 < g.den → w < 2 ^ 16 → q ≡ place w
    → ((j : ℤ) → Near x (at_place g q) (at_place g j)) → ((j : ℤ) → Near x (at_place g j) (at_place g q) → q ≤ℤ j)
    → IsNearest value one_rank x w
nearest_word {value = value} {w = w} {q = q} place g values den word is nearest lowest =
    let value_w : value w ≡ at_place g q = values w word ∙ ap (at_place g) (sym is) in
    record {
      word = word;
      nearest = λ u h. rw (value_w, values u h) (nearest (place u));
      lowest = λ u h near.
          let near_place = rw (value_w, values u h) at near in
          rw (value_w, values u h) (ordered_on_grid g q (place u) (lowest (place u) near_place));
      spelling = λ u h same. omega arith;
    }

-- The word of the greatest number that isn't above x is the word that x is rounded down to.
pub word_below : {value : ℕ → Ratio} {x : Ratio} {w : ℕ} {q : ℤ} (place : ℕ → ℤ) (g : Spacing)
    → ((u : ℕ) → u < 2 ^ 16 → value u ≡ at_place g (place u)) → w < 2 ^ 16 → q ≡ place w → IsPlaceBelow g x q
    → IsAtMost value one_rank x w
word_below {value = value} {w = w} {q = q} place g values word is h =
    let value_w : value w ≡ at_place g q = values w word ∙ ap (at_place g) (sym is) in
    record {
      word = word;
      reached = rw value_w h.reached;
      greatest = λ u k le.
          let at = rw (values u k) at le in
          rw (value_w, values u k) (ordered_on_grid g (place u) q (h.within.above (place u) at));
      spelling = λ u k same. omega arith;
    }

-- The word of the least number that isn't below x is the word that x is rounded up to.
pub word_above : {value : ℕ → Ratio} {x : Ratio} {w : ℕ} {q : ℤ} (place : ℕ → ℤ) (g : Spacing)
    → ((u : ℕ) → u < 2 ^ 16 → value u ≡ at_place g (place u)) → w < 2 ^ 16 → q ≡ place w → IsPlaceAbove g x q
    → IsAtLeast value one_rank x w
word_above {value = value} {w = w} {q = q} place g values word is h =
    let value_w : value w ≡ at_place g q = values w word ∙ ap (at_place g) (sym is) in
    record {
      word = word;
      reached = rw value_w h.reached;
      least = λ u k le.
          let at = rw (values u k) at le in
          rw (value_w, values u k) (ordered_on_grid g q (place u) (h.within.below (place u) at));
      spelling = λ u k same. omega arith;
    }

-- The range, at the bounds that the code passed.
pub between_along : (l m g k x : Ratio) → l ≡ m → g ≡ k → IsBetween l g x → IsBetween m k x
between_along l m g k x e f h =
    record {
      from_least = subst (λ (v : Ratio). AtMost v x) e h.from_least;
      to_greatest = subst (λ (v : Ratio). AtMost x v) f h.to_greatest;
    }

-- DIRECT's words on their grid.

-- A sign times a product.
sign-times : (m a : ℤ) (n : ℕ) → (sign m *ℤ a) *ℤ pos n ≡ sign m *ℤ (a *ℤ pos n)
sign-times (pos k) a n =
    let e = ap (λ (z : ℤ). z *ℤ pos n) (let one : pos 1 *ℤ a ≡ a = omega (arith, ints) in one) in
    omega (arith, ints)
sign-times (negsuc k) a n =
    let f = ap (λ (k : ℕ). k * n) (product_is (negsuc 0) a).0 in
    let g = ap (λ (k : ℕ). k * n) (product_is (negsuc 0) a).1 in
    omega (arith, ints)

-- A sign goes through a difference.
sign-sub : (m a b : ℤ) → sign m *ℤ (a -ℤ b) ≡ sign m *ℤ a -ℤ sign m *ℤ b
sign-sub (pos n) a b = omega (arith, ints)
sign-sub (negsuc n) a b = omega (arith, ints)

-- The value of a word stands at the word's place of the grid, turned by the sign of the slope.
pub direct-at_place : (m b r : ℤ) (w : ℕ) → direct_value m b r w ≡ at_place (direct_spacing m b r) (sign m *ℤ signed 16 w)
direct-at_place m b r w =
    let y = signed 16 w *ℤ pos (lower 10 r) in
    let c = b *ℤ pos (upper 10 r) in
    let e = sign-sub m y c in
    let f = sign-times m (signed 16 w) (lower 10 r) in
    let g : sign m *ℤ (y -ℤ c) ≡ (sign m *ℤ signed 16 w) *ℤ pos (lower 10 r) -ℤ sign m *ℤ c = omega (arith, ints) in
    ap (λ (z : ℤ). let v : Ratio = record { num = z; den = unsigned_abs m * upper 10 r } in v) g

-- The place of x is at least that of a word whose value is at most x.
from_least : (m b r : ℤ) (x : Ratio) (q : ℤ) → IsWithinPlaces (direct_spacing m b r) x q → (w : ℕ) → AtMost (direct_value m b r w) x
    → (sign m *ℤ signed 16 w) ≤ℤ q
from_least m b r x q h w le =
    h.above (sign m *ℤ signed 16 w) (subst (λ (v : Ratio). AtMost v x) (direct-at_place m b r w) le)

-- The place of x is at most that of a word whose value is at least x.
to_greatest : (m b r : ℤ) (x : Ratio) (q : ℤ) → IsWithinPlaces (direct_spacing m b r) x q → (w : ℕ) → AtMost x (direct_value m b r w)
    → q ≤ℤ (sign m *ℤ signed 16 w)
to_greatest m b r x q h w le =
    h.below (sign m *ℤ signed 16 w) (subst (λ (v : Ratio). AtMost x v) (direct-at_place m b r w) le)

-- The place q that the grid gave is a word's.
pub record FitsWord (m q : ℤ) : Type 0 where
  pub size : unsigned_abs q ≤ 2 ^ 15
  pub above : neg_ℤ (pos 32768) ≤ℤ (sign m *ℤ q)
  pub below : (sign m *ℤ q) ≤ℤ pos 32767

-- A number in the range has a place that a word has.
direct-fits : (m b r : ℤ) (x : Ratio) (q : ℤ) → IsWithinPlaces (direct_spacing m b r) x q
    → IsBetween (direct_value m b r (direct_least m)) (direct_value m b r (direct_greatest m)) x → FitsWord m q
direct-fits (pos n) b r x q h between =
    let l = from_least (pos n) b r x q h 0x8000 between.from_least in
    let g = to_greatest (pos n) b r x q h 0x7FFF between.to_greatest in
    record { size = omega (arith, ints); above = omega (arith, ints); below = omega (arith, ints) }
direct-fits (negsuc n) b r x q h between =
    let l = from_least (negsuc n) b r x q h 0x7FFF between.from_least in
    let g = to_greatest (negsuc n) b r x q h 0x8000 between.to_greatest in
    record { size = omega (arith, ints); above = omega (arith, ints); below = omega (arith, ints) }

-- A number in the range l to g has a place q on the grid s that a word has; l, g and s are what the code passed.
pub found_fits : {x : Ratio} {q : ℤ} {l g : Ratio} {s : Spacing} (m b r : ℤ) → l ≡ direct_value m b r (direct_least m)
    → g ≡ direct_value m b r (direct_greatest m) → IsBetween l g x → s ≡ direct_spacing m b r → IsWithinPlaces s x q → FitsWord m q
found_fits {x} {q} {l} {g} m b r e f between is h =
    direct-fits m b r x q (subst (λ (t : Spacing). IsWithinPlaces t x q) is h) (between_along l _ g _ x e f between)

-- A product with the sign of m, at the number that the code passed.
pub signed_at : (m q p s : ℤ) → s ≡ sign m *ℤ p → p ≡ q → s ≡ sign m *ℤ q
signed_at m q p s e is = e ∙ ap (λ (z : ℤ). sign m *ℤ z) is

-- A sign is taken back by itself.
sign_back : (m y q : ℤ) → y ≡ sign m *ℤ q → q ≡ sign m *ℤ y
sign_back (pos n) y q e = omega (arith, ints)
sign_back (negsuc n) y q e = omega (arith, ints)

-- The word at the place that the grid gave is the nearest one.
pub direct-nearest : {x : Ratio} {q : ℤ} {w : ℕ} {s : Spacing} (m b r : ℤ) → 0 < unsigned_abs m * upper 10 r → s ≡ direct_spacing m b r
    → IsPlace s x q → w < 2 ^ 16 → signed 16 w ≡ sign m *ℤ q → IsNearest (direct_value m b r) one_rank x w
direct-nearest {x} {q} {w} m b r den is_s place word is =
    let h = subst (λ (t : Spacing). IsPlace t x q) is_s place in
    nearest_word (λ u. sign m *ℤ signed 16 u) (direct_spacing m b r) (λ u _. direct-at_place m b r u) den word
    (sign_back m (signed 16 w) q is) h.nearest h.lowest

-- The word at the place that was rounded down is the one that the number is rounded down to.
pub direct-at_most : {x : Ratio} {q : ℤ} {w : ℕ} {s : Spacing} (m b r : ℤ) → s ≡ direct_spacing m b r → IsPlaceBelow s x q → w < 2 ^ 16
    → signed 16 w ≡ sign m *ℤ q → IsAtMost (direct_value m b r) one_rank x w
direct-at_most {x} {q} {w} m b r is_s place word is =
    let h = subst (λ (t : Spacing). IsPlaceBelow t x q) is_s place in
    word_below (λ u. sign m *ℤ signed 16 u) (direct_spacing m b r) (λ u _. direct-at_place m b r u) word (sign_back m (signed 16 w) q is) h

-- The word at the place that was rounded up is the one that the number is rounded up to.
pub direct-at_least : {x : Ratio} {q : ℤ} {w : ℕ} {s : Spacing} (m b r : ℤ) → s ≡ direct_spacing m b r → IsPlaceAbove s x q → w < 2 ^ 16
    → signed 16 w ≡ sign m *ℤ q → IsAtLeast (direct_value m b r) one_rank x w
direct-at_least {x} {q} {w} m b r is_s place word is =
    let h = subst (λ (t : Spacing). IsPlaceAbove t x q) is_s place in
    word_above (λ u. sign m *ℤ signed 16 u) (direct_spacing m b r) (λ u _. direct-at_place m b r u) word (sign_back m (signed 16 w) q is) h

-- The least value is at most the greatest.
pub direct-ordered : (m b r : ℤ) → AtMost (direct_value m b r (direct_least m)) (direct_value m b r (direct_greatest m))
direct-ordered m b r =
    let met = direct-least_met m b r in
    subst (λ (v : Ratio). AtMost v (direct_value m b r (direct_greatest m))) met.2 (direct-within m b r met.0 met.1).to_greatest

-- A power's numerator, at the exponent itself where its cast keeps the exponent.
pub kept_power : {p : ℤ} (r : ℤ) → to_z w8 (of_z w8 r) ≡ r → p ≡ pos (upper 10 (to_z w8 (of_z w8 r))) → p ≡ pos (upper 10 r)
kept_power r same is = is ∙ ap (λ (z : ℤ). pos (upper 10 z)) same

-- A coefficient times a part of a power of ten is in bounds.
pub coefficient_times_ten : (a b : ℕ) → a ≤ 2 ^ 15 → b ≤ 10 ^ 12 → a * b ≤ 2 ^ 55
coefficient_times_ten a b h k = omega (arith, mul-le a b (2 ^ 15) (10 ^ 12) h k)

-- The two parts of a numerator are not both large.
pub parts_small : (r : ℤ) → IsDecimal r → 2 ^ 15 * lower 10 r + 2 ^ 15 * upper 10 r ≤ 2 ^ 55
parts_small (pos n) h =
    let le : n ≤ 12 = omega (arith, ints, h.below) in
    let k : 10 ^ n ≤ 10 ^ 12 = pow-le-pow_right (omega arith) le in
    omega arith
parts_small (negsuc n) h =
    let le : suc n ≤ 12 = omega (arith, ints, h.above) in
    let k : 10 ^ suc n ≤ 10 ^ 12 = pow-le-pow_right (omega arith) le in
    omega arith

-- The nearest LINEAR11 word.

-- The power at a greater place, in two parts.
pub split_power : (i j : ℕ) → i ≤ j → 2 ^ j ≡ 2 ^ (j - i) * 2 ^ i
split_power i j h =
    let e : j - i + i ≡ j = omega arith in
    let f = ap (λ (k : ℕ). 2 ^ k) e in
    omega (arith, pow-add 2 (j - i) i)

-- A number at a greater place, as a mantissa at a lower one.
pub lowered : (y : ℤ) (i j : ℕ) → i ≤ j → y *ℤ pos (2 ^ j) ≡ (y *ℤ pos (2 ^ (j - i))) *ℤ pos (2 ^ i)
lowered y i j h = ap (λ (n : ℕ). y *ℤ pos n) (split_power i j h) ∙ sym (times-times y (2 ^ (j - i)) (2 ^ i))

-- t stands no nearer to a / d than a multiple j of the place's unit, and where it is as near it is not lower.
record Covers (a : ℤ) (d p : ℕ) (t : ℤ) : Type 0 where
  multiple : ℤ
  no_nearer : unsigned_abs (a -ℤ multiple *ℤ pos (d * 2 ^ p)) ≤ unsigned_abs (a -ℤ t *ℤ pos d)
  no_lower : unsigned_abs (a -ℤ t *ℤ pos d) ≤ unsigned_abs (a -ℤ multiple *ℤ pos (d * 2 ^ p)) → (multiple *ℤ pos (2 ^ p)) ≤ℤ t

-- The product with both, in either order.
pub unit_times : (j : ℤ) (d p : ℕ) → j *ℤ pos (d * 2 ^ p) ≡ (j *ℤ pos (2 ^ p)) *ℤ pos d
unit_times j d p = sym (times-times j d (2 ^ p)) ∙ times-swap j d (2 ^ p)

-- A multiple covers itself.
Covers-multiple : (a : ℤ) (d p : ℕ) (j t : ℤ) → t ≡ j *ℤ pos (2 ^ p) → Covers a d p t
Covers-multiple a d p j t e =
    let f : t *ℤ pos d ≡ j *ℤ pos (d * 2 ^ p) = ap (λ (z : ℤ). z *ℤ pos d) e ∙ sym (unit_times j d p) in
    let g = ap (λ (z : ℤ). unsigned_abs (a -ℤ z)) f in
    record { multiple = j; no_nearer = omega arith; no_lower = λ h. omega (arith, ints) }

-- A multiple that is neither below t nor above the number covers t.
Covers-below : (a : ℤ) (d p : ℕ) (j t : ℤ) → 0 < d → t ≤ℤ (j *ℤ pos (2 ^ p)) → (j *ℤ pos (d * 2 ^ p)) ≤ℤ a → Covers a d p t
Covers-below a d p j t positive le above =
    let e = unit_times j d p in
    let f = le-times t (j *ℤ pos (2 ^ p)) d le in
    record {
      multiple = j;
      no_nearer = omega (arith, ints);
      no_lower = λ h. le_from_times (j *ℤ pos (2 ^ p)) t d positive (omega (arith, ints));
    }

-- A multiple that is neither below the number nor above t covers t.
Covers-above : (a : ℤ) (d p : ℕ) (j t : ℤ) → (j *ℤ pos (2 ^ p)) ≤ℤ t → a ≤ℤ (j *ℤ pos (d * 2 ^ p)) → Covers a d p t
Covers-above a d p j t le below =
    let e = unit_times j d p in
    let f = le-times (j *ℤ pos (2 ^ p)) t d le in
    record { multiple = j; no_nearer = omega (arith, ints); no_lower = λ h. le }

-- The number of every word is covered: at the place or above it is a multiple; below it, it lies on this side of
-- 512 units, and x beyond them.
Covers-word : (x : Ratio) (p : ℕ) → 0 < x.den → IsPlaceFor x p → (y : ℤ) (i : ℕ) → IsSpelling y i
    → Covers (x.num *ℤ pos (2 ^ 16)) x.den p (y *ℤ pos (2 ^ i))
Covers-word x p den h y i s =
    ⊎_elim
    (λ less.
    let q : ℕ = p - 1 in
    let below : i ≤ q = omega arith in
    let m : 2 ^ i ≤ 2 ^ q = pow-le-pow_right (omega arith) below in
    let l = le-times (neg_ℤ (pos 1024)) y (2 ^ i) s.above in
    let g = le-times y (pos 1023) (2 ^ i) s.below in
    let e = split_power 1 p (omega arith) in
    let f = ap (λ (n : ℕ). x.den * n) e in
    let far = h.least q (omega arith) in
    by_lt_z x.num (pos 0)
    (λ negative. Covers-above (x.num *ℤ pos (2 ^ 16)) x.den p (neg_ℤ (pos 512)) (y *ℤ pos (2 ^ i)) (omega (arith, ints))
    (omega (arith, ints)))
    (λ positive. Covers-below (x.num *ℤ pos (2 ^ 16)) x.den p (pos 512) (y *ℤ pos (2 ^ i)) den (omega (arith, ints)) (omega (arith, ints))))
    (λ at_least. Covers-multiple (x.num *ℤ pos (2 ^ 16)) x.den p (y *ℤ pos (2 ^ (i - p))) (y *ℤ pos (2 ^ i)) (lowered y p i at_least))
    (cases_lt i p)

-- The rounded multiple is as near as each number that is covered.
nearest_by_cover : (a : ℤ) (d p : ℕ) (k t : ℤ) → IsRounded a (pos (d * 2 ^ p)) k → Covers a d p t
    → unsigned_abs (a -ℤ (k *ℤ pos (2 ^ p)) *ℤ pos d) ≤ unsigned_abs (a -ℤ t *ℤ pos d)
nearest_by_cover a d p k t r c =
    let n = nearest_from_rounded a k (d * 2 ^ p) r c.multiple in
    let e = ap (λ (z : ℤ). unsigned_abs (a -ℤ z)) (unit_times k d p) in
    let h = c.no_nearer in
    omega arith

-- The rounded multiple is the lowest of the covered numbers that are as near.
lowest_by_cover : (a : ℤ) (d p : ℕ) (k t : ℤ) → IsRounded a (pos (d * 2 ^ p)) k → Covers a d p t
    → unsigned_abs (a -ℤ t *ℤ pos d) ≤ unsigned_abs (a -ℤ (k *ℤ pos (2 ^ p)) *ℤ pos d) → (k *ℤ pos (2 ^ p)) ≤ℤ t
lowest_by_cover a d p k t r c near =
    let n = nearest_from_rounded a k (d * 2 ^ p) r c.multiple in
    let e = ap (λ (z : ℤ). unsigned_abs (a -ℤ z)) (unit_times k d p) in
    let h = c.no_nearer in
    let l = c.no_lower (omega arith) in
    let g = le-times k c.multiple (2 ^ p) (lower_from_rounded a k (d * 2 ^ p) r c.multiple (omega arith)) in
    omega (arith, ints)

-- The number of an odd mantissa has no spelling at a greater place.
odd_highest : (y z : ℤ) (i j : ℕ) → int_rem y (pos 2) ≢ pos 0 → z *ℤ pos (2 ^ j) ≡ y *ℤ pos (2 ^ i) → j ≤ i
odd_highest y z i j odd same =
    ⊎_elim
    (λ (less : i < j).
    let e = lowered z i j (omega arith) in
    let f : y ≡ z *ℤ pos (2 ^ (j - i)) = same_from_times y (z *ℤ pos (2 ^ (j - i))) (2 ^ i) (pow_pos i) (sym same ∙ e) in
    let g = lowered z 1 (j - i) (omega arith) in
    absurd (odd (omega (arith, ints))))
    (λ p. p)
    (cases_lt i j)

-- The number of a large mantissa has no spelling at a lower place.
large_lowest : (y z : ℤ) (i j : ℕ) → IsLarge y → IsSpelling z j → z *ℤ pos (2 ^ j) ≡ y *ℤ pos (2 ^ i) → i ≤ j
large_lowest y z i j large s same =
    ⊎_elim
    (λ (less : j < i).
    let e = lowered y j i (omega arith) in
    let f : z ≡ y *ℤ pos (2 ^ (i - j)) = same_from_times z (y *ℤ pos (2 ^ (i - j))) (2 ^ j) (pow_pos j) (same ∙ e) in
    let g = lowered y 1 (i - j) (omega arith) in
    let m : ℕ = 2 ^ (i - j - 1) in
    let one = pow_pos (i - j - 1) in
    ⊎_elim
    (λ negative. let l = le-times y (neg_ℤ (pos 513)) m negative in absurd (omega (arith, ints)))
    (λ positive. let l = le-times (pos 512) y m positive in absurd (omega (arith, ints)))
    large)
    (λ p. p)
    (cases_lt j i)

-- An exponent whose place is nearer to 0 ranks first.
rank_by_place : (e f : ℤ) → IsExponent e → IsExponent f → (place_of_exponent e < 16 → place_of_exponent f ≤ place_of_exponent e)
    → (16 < place_of_exponent e → place_of_exponent e ≤ place_of_exponent f) → preference e ≤ preference f
rank_by_place (pos m) (pos n) h k low high =
    ⊎_elim (λ (less : 0 < m). let l = high (omega arith) in omega arith) (λ (none : m ≤ 0). omega arith) (cases_lt 0 m)
rank_by_place (pos m) (negsuc n) h k low high =
    ⊎_elim (λ (less : 0 < m). let l = high (omega arith) in absurd (omega arith)) (λ (none : m ≤ 0). omega arith) (cases_lt 0 m)
rank_by_place (negsuc m) (pos n) h k low high = let l = low (omega arith) in absurd (omega arith)
rank_by_place (negsuc m) (negsuc n) h k low high =
    let l = low (omega arith) in
    let a : m ≤ 15 = omega (arith, ints, h.above) in
    let b : n ≤ 15 = omega (arith, ints, k.above) in
    omega arith

-- The preferred spelling of a number ranks first among its spellings.
pub preferred_first : {e f : ℤ} (y z : ℤ) → IsExponent e → IsExponent f → IsPreferred y (place_of_exponent e) →
    IsSpelling z (place_of_exponent f)
    → z *ℤ pos (2 ^ place_of_exponent f) ≡ y *ℤ pos (2 ^ place_of_exponent e) → preference e ≤ preference f
preferred_first {e} {f} y z he hf p s same =
    rank_by_place e f he hf
    (λ low. odd_highest y z (place_of_exponent e) (place_of_exponent f) (p.odd low) same)
    (λ high. large_lowest y z (place_of_exponent e) (place_of_exponent f) (p.large high) s same)

-- The number that a word spells, over 2^16.
abbrev pub spelled : ℕ → ℤ
spelled w = mantissa w *ℤ pos (2 ^ place_of_exponent (exponent w))

-- A word that spells the rounded number, and prefers its spelling, is the nearest one.
pub linear11-nearest : {k : ℤ} {w : ℕ} (x : Ratio) (p : ℕ) → 0 < x.den → IsPlaceFor x p
    → IsRounded (x.num *ℤ pos (2 ^ 16)) (pos (x.den * 2 ^ p)) k → w < 2 ^ 16 → spelled w ≡ k *ℤ pos (2 ^ p)
    → IsPreferred (mantissa w) (place_of_exponent (exponent w)) → IsNearest linear11_value linear11_rank x w
linear11-nearest {k} {w} x p den place rounded word is preferred =
    let a = x.num *ℤ pos (2 ^ 16) in
    let cover = λ (u : ℕ) (h : u < 2 ^ 16). Covers-word x p den place (mantissa u) (place_of_exponent (exponent u)) (IsSpelling-word u h) in
    let e = ap (λ (z : ℤ). apart (2 ^ 16) x z) is in
    record {
      word = word;
      nearest = λ u h.
          let n = nearest_by_cover a x.den p k (spelled u) rounded (cover u h) in
          near_over x (Over-linear11 w word) (Over-linear11 u h) (omega arith);
      lowest = λ u h near.
          let b = near_over_back x (Over-linear11 u h) (Over-linear11 w word) near in
          let l = lowest_by_cover a x.den p k (spelled u) rounded (cover u h) (omega arith) in
          at_most_over (Over-linear11 w word) (Over-linear11 u h) (omega (arith, ints));
      spelling = λ u h same.
          preferred_first (mantissa w) (mantissa u) (IsExponent-exponent w word) (IsExponent-exponent u h) preferred (IsSpelling-word u h)
          (same_over_back (Over-linear11 u h) (Over-linear11 w word) same);
    }

-- A mantissa as it is rounded, before it is settled.
pub record IsUnsettled (p : ℕ) (k : ℤ) : Type 0 where
  pub above : neg_ℤ (pos 1024) ≤ℤ k
  pub below : k ≤ℤ pos 1024
  pub far : 16 < p → IsFar k

-- Above the lowest place a mantissa is a large one, whichever way it was rounded.
mantissa_far : (x : Ratio) (p : ℕ) (k : ℤ) → IsPlaceFor x p → IsWithinWhole (x.num *ℤ pos (2 ^ 16)) (x.den * 2 ^ p) k → 0 < p → IsFar k
mantissa_far x p k h whole positive =
    let e = ap (λ (n : ℕ). x.den * n) (split_power 1 p (omega arith)) in
    let far = h.least (p - 1) (omega arith) in
    by_lt_z x.num (pos 0)
    (λ negative. inl (whole.below (neg_ℤ (pos 512)) (omega (arith, ints))))
    (λ at_least. inr (whole.above (pos 512) (omega (arith, ints))))

-- A mantissa lies within its bounds at any place, whichever way it was rounded.
pub IsUnsettled-whole : (x : Ratio) (p : ℕ) (k : ℤ) → IsPlaceFor x p → IsWithinWhole (x.num *ℤ pos (2 ^ 16)) (x.den * 2 ^ p) k
    → IsUnsettled p k
IsUnsettled-whole x p k h whole =
    let reached = h.reached in
    record {
      above = whole.above (neg_ℤ (pos 1024)) (omega (arith, ints));
      below = whole.below (pos 1024) (omega (arith, ints));
      far = λ high. mantissa_far x p k h whole (omega arith);
    }

-- The unit of a place, over the denominator of the number, is positive.
pub unit_above : (x : Ratio) (p : ℕ) → IsPlaceFor x p → 0 < x.den * 2 ^ p
unit_above x p h = mul-pos h.den (pow_pos p)

-- A mantissa that was rounded to the nearest is one before it is settled.
pub IsUnsettled-rounded : (x : Ratio) (p : ℕ) (k : ℤ) → IsPlaceFor x p → IsRounded (x.num *ℤ pos (2 ^ 16)) (pos (x.den * 2 ^ p)) k
    → IsUnsettled p k
IsUnsettled-rounded x p k h r =
    IsUnsettled-whole x p k h (IsWithinWhole-rounded (x.num *ℤ pos (2 ^ 16)) k (x.den * 2 ^ p) (unit_above x p h) r)

-- A mantissa that was rounded down is one before it is settled.
pub IsUnsettled-floor : (x : Ratio) (p : ℕ) (k : ℤ) → IsPlaceFor x p → IsFloor (x.num *ℤ pos (2 ^ 16)) (pos (x.den * 2 ^ p)) k
    → IsUnsettled p k
IsUnsettled-floor x p k h r =
    IsUnsettled-whole x p k h (IsWithinWhole-floor (x.num *ℤ pos (2 ^ 16)) k (x.den * 2 ^ p) (unit_above x p h) r)

-- A mantissa that was rounded up is one before it is settled.
pub IsUnsettled-ceiling : (x : Ratio) (p : ℕ) (k : ℤ) → IsPlaceFor x p → IsCeiling (x.num *ℤ pos (2 ^ 16)) (pos (x.den * 2 ^ p)) k
    → IsUnsettled p k
IsUnsettled-ceiling x p k h r =
    IsUnsettled-whole x p k h (IsWithinWhole-ceiling (x.num *ℤ pos (2 ^ 16)) k (x.den * 2 ^ p) (unit_above x p h) r)

-- Half the mantissa at the next place.
pub halved : (y h : ℤ) (p : ℕ) → y ≡ h *ℤ pos 2 → h *ℤ pos (2 ^ (p + 1)) ≡ y *ℤ pos (2 ^ p)
halved y h p e =
    ap (λ (n : ℕ). h *ℤ pos n) (let f : 2 ^ (p + 1) ≡ 2 * 2 ^ p = omega (arith, pow-add 2 p 1) in f)
    ∙ sym (times-times h 2 (2 ^ p))
    ∙ ap (λ (z : ℤ). z *ℤ pos (2 ^ p)) (sym e)

-- The exponent that a place has.
pub place_of-exponent : (e : ℤ) (p : ℕ) → e ≡ pos p -ℤ pos 16 → place_of_exponent e ≡ p
place_of-exponent (pos n) p h = omega (arith, ints)
place_of-exponent (negsuc n) p h = omega (arith, ints)

-- The word that was put together from the preferred spelling.
pub linear11-found : {x : Ratio} {p : ℕ} {k y : ℤ} {i w : ℕ} → IsPlaceFor x p
    → IsRounded (x.num *ℤ pos (2 ^ 16)) (pos (x.den * 2 ^ p)) k → w < 2 ^ 16 → mantissa w ≡ y → place_of_exponent (exponent w) ≡ i
    → y *ℤ pos (2 ^ i) ≡ k *ℤ pos (2 ^ p) → IsPreferred y i → IsNearest linear11_value linear11_rank x w
linear11-found {x} {p} {k} {y} {i} {w} place rounded word is_y is_i same preferred =
    let spelled_is : spelled w ≡ y *ℤ pos (2 ^ i) =
    ap (λ (z : ℤ). z *ℤ pos (2 ^ place_of_exponent (exponent w))) is_y ∙ ap (λ (n : ℕ). y *ℤ pos (2 ^ n)) is_i in
    let q = subst (λ (n : ℕ). IsPreferred y n) (sym is_i) preferred in
    let r = subst (λ (z : ℤ). IsPreferred z (place_of_exponent (exponent w))) (sym is_y) q in
    linear11-nearest x p place.den place rounded word (spelled_is ∙ same) r

-- The LINEAR11 words of bounds.

-- A word whose number is not above x is at most the mantissa that was rounded down: at the place or above it the number is a
-- multiple of the unit; below it, it lies on this side of 512 units, and x beyond them.
floor_covers : (x : Ratio) (p : ℕ) (k : ℤ) → IsPlaceFor x p → IsWithinWhole (x.num *ℤ pos (2 ^ 16)) (x.den * 2 ^ p) k → (y : ℤ) (i : ℕ)
    → IsSpelling y i → ((y *ℤ pos (2 ^ i)) *ℤ pos x.den) ≤ℤ (x.num *ℤ pos (2 ^ 16)) → (y *ℤ pos (2 ^ i)) ≤ℤ (k *ℤ pos (2 ^ p))
floor_covers x p k h whole y i s at_most =
    ⊎_elim
    (λ (less : i < p).
    let q : ℕ = p - 1 in
    let below : i ≤ q = omega arith in
    let m : 2 ^ i ≤ 2 ^ q = pow-le-pow_right (omega arith) below in
    let l = le-times (neg_ℤ (pos 1024)) y (2 ^ i) s.above in
    let g = le-times y (pos 1023) (2 ^ i) s.below in
    let e = split_power 1 p (omega arith) in
    let f = ap (λ (n : ℕ). x.den * n) e in
    let far = h.least q (omega arith) in
    by_lt_z x.num (pos 0)
    (λ negative.
    let u = unit_times (neg_ℤ (pos 512)) x.den p in
    let t = le-times (neg_ℤ (pos 512) *ℤ pos (2 ^ p)) (y *ℤ pos (2 ^ i)) x.den (omega (arith, ints)) in
    absurd (omega (arith, ints)))
    (λ positive.
    let least = whole.above (pos 512) (omega (arith, ints)) in
    let t = le-times (pos 512) k (2 ^ p) least in
    omega (arith, ints)))
    (λ (reaches : p ≤ i).
    let e = lowered y p i reaches in
    let multiple = y *ℤ pos (2 ^ (i - p)) in
    let f = ap (λ (z : ℤ). z *ℤ pos x.den) e in
    let u = unit_times multiple x.den p in
    let t = le-times multiple k (2 ^ p) (whole.above multiple (omega (arith, ints))) in
    omega (arith, ints))
    (cases_lt i p)

-- A word whose number is not below x is at least the mantissa that was rounded up.
ceiling_covers : (x : Ratio) (p : ℕ) (k : ℤ) → IsPlaceFor x p → IsWithinWhole (x.num *ℤ pos (2 ^ 16)) (x.den * 2 ^ p) k → (y : ℤ) (i : ℕ)
    → IsSpelling y i → (x.num *ℤ pos (2 ^ 16)) ≤ℤ ((y *ℤ pos (2 ^ i)) *ℤ pos x.den) → (k *ℤ pos (2 ^ p)) ≤ℤ (y *ℤ pos (2 ^ i))
ceiling_covers x p k h whole y i s at_least =
    ⊎_elim
    (λ (less : i < p).
    let q : ℕ = p - 1 in
    let below : i ≤ q = omega arith in
    let m : 2 ^ i ≤ 2 ^ q = pow-le-pow_right (omega arith) below in
    let l = le-times (neg_ℤ (pos 1024)) y (2 ^ i) s.above in
    let g = le-times y (pos 1023) (2 ^ i) s.below in
    let e = split_power 1 p (omega arith) in
    let f = ap (λ (n : ℕ). x.den * n) e in
    let far = h.least q (omega arith) in
    by_lt_z x.num (pos 0)
    (λ negative.
    let greatest = whole.below (neg_ℤ (pos 512)) (omega (arith, ints)) in
    let t = le-times k (neg_ℤ (pos 512)) (2 ^ p) greatest in
    omega (arith, ints))
    (λ positive.
    let u = unit_times (pos 512) x.den p in
    let t = le-times (y *ℤ pos (2 ^ i)) (pos 512 *ℤ pos (2 ^ p)) x.den (omega (arith, ints)) in
    absurd (omega (arith, ints))))
    (λ (reaches : p ≤ i).
    let e = lowered y p i reaches in
    let multiple = y *ℤ pos (2 ^ (i - p)) in
    let f = ap (λ (z : ℤ). z *ℤ pos x.den) e in
    let u = unit_times multiple x.den p in
    let t = le-times k multiple (2 ^ p) (whole.below multiple (omega (arith, ints))) in
    omega (arith, ints))
    (cases_lt i p)

-- A word that spells a number and prefers its spelling ranks first among the words of its value.
first_spelled : {w : ℕ} → w < 2 ^ 16 → IsPreferred (mantissa w) (place_of_exponent (exponent w)) → (u : ℕ) → u < 2 ^ 16
    → SameValue (linear11_value u) (linear11_value w) → linear11_rank w ≤ linear11_rank u
first_spelled {w} word preferred u h same =
    preferred_first (mantissa w) (mantissa u) (IsExponent-exponent w word) (IsExponent-exponent u h) preferred (IsSpelling-word u h)
    (same_over_back (Over-linear11 u h) (Over-linear11 w word) same)

-- The word that was put together from the spelling of a mantissa k at place p, which prefers its spelling.
pub record IsSpelled (p : ℕ) (k y : ℤ) (i w : ℕ) : Type 0 where
  pub word : w < 2 ^ 16
  pub mantissa_is : mantissa w ≡ y
  pub place_is : place_of_exponent (exponent w) ≡ i
  pub same : y *ℤ pos (2 ^ i) ≡ k *ℤ pos (2 ^ p)
  pub preferred : IsPreferred y i

-- The word that was put together spells the number that the mantissa has at its place.
spelled-is : {p : ℕ} {k y : ℤ} {i w : ℕ} → IsSpelled p k y i w → spelled w ≡ k *ℤ pos (2 ^ p)
spelled-is {y = y} {w = w} is =
    ap (λ (z : ℤ). z *ℤ pos (2 ^ place_of_exponent (exponent w))) is.mantissa_is ∙ ap (λ (n : ℕ). y *ℤ pos (2 ^ n)) is.place_is ∙ is.same

-- The word that was put together prefers its spelling.
spelled-preferred : {p : ℕ} {k y : ℤ} {i w : ℕ} → IsSpelled p k y i w → IsPreferred (mantissa w) (place_of_exponent (exponent w))
spelled-preferred {y = y} {w = w} is =
    subst (λ (z : ℤ). IsPreferred z (place_of_exponent (exponent w))) (sym is.mantissa_is)
    (subst (λ (n : ℕ). IsPreferred y n) (sym is.place_is) is.preferred)

-- The word of the mantissa that was rounded down is the one that the number is rounded down to.
pub linear11-at_most : {x : Ratio} {p : ℕ} {k y : ℤ} {i w : ℕ} → IsPlaceFor x p
    → IsFloor (x.num *ℤ pos (2 ^ 16)) (pos (x.den * 2 ^ p)) k → IsSpelled p k y i w → IsAtMost linear11_value linear11_rank x w
linear11-at_most {x} {p} {k} {y} {i} {w} place rounded is =
    let e = spelled-is is in
    let whole = IsWithinWhole-floor (x.num *ℤ pos (2 ^ 16)) k (x.den * 2 ^ p) (unit_above x p place) rounded in
    let f = ap (λ (z : ℤ). z *ℤ pos x.den) e in
    let t = unit_times k x.den p in
    record {
      word = is.word;
      reached = at_most_from_cross x (Over-linear11 w is.word) (omega (arith, ints));
      greatest = λ u h le.
          let c = floor_covers x p k place whole (mantissa u) (place_of_exponent (exponent u)) (IsSpelling-word u h)
          (cross_from_at_most x (Over-linear11 u h) le) in
          at_most_over (Over-linear11 u h) (Over-linear11 w is.word) (omega (arith, ints));
      spelling = first_spelled is.word (spelled-preferred is);
    }

-- The word of the mantissa that was rounded up is the one that the number is rounded up to.
pub linear11-at_least : {x : Ratio} {p : ℕ} {k y : ℤ} {i w : ℕ} → IsPlaceFor x p
    → IsCeiling (x.num *ℤ pos (2 ^ 16)) (pos (x.den * 2 ^ p)) k → IsSpelled p k y i w → IsAtLeast linear11_value linear11_rank x w
linear11-at_least {x} {p} {k} {y} {i} {w} place rounded is =
    let e = spelled-is is in
    let whole = IsWithinWhole-ceiling (x.num *ℤ pos (2 ^ 16)) k (x.den * 2 ^ p) (unit_above x p place) rounded in
    let f = ap (λ (z : ℤ). z *ℤ pos x.den) e in
    let t = unit_times k x.den p in
    record {
      word = is.word;
      reached = at_least_from_cross x (Over-linear11 w is.word) (omega (arith, ints));
      least = λ u h le.
          let c = ceiling_covers x p k place whole (mantissa u) (place_of_exponent (exponent u)) (IsSpelling-word u h)
          (cross_from_at_least x (Over-linear11 u h) le) in
          at_most_over (Over-linear11 w is.word) (Over-linear11 u h) (omega (arith, ints));
      spelling = first_spelled is.word (spelled-preferred is);
    }

-- ULINEAR16's words on their grid.

-- The grid of ULINEAR16.
abbrev pub unsigned_spacing : ℤ → Spacing
unsigned_spacing n = record { den = lower 2 n; step = upper 2 n; offset = pos 0 }

-- A word has its own place on it.
pub ulinear16-at_place : (n : ℤ) (w : ℕ) → ulinear16_value n w ≡ at_place (unsigned_spacing n) (pos w)
ulinear16-at_place n w =
    let e : pos w *ℤ pos (upper 2 n) ≡ pos w *ℤ pos (upper 2 n) -ℤ pos 0 = omega (arith, ints) in
    ap (λ (z : ℤ). let r : Ratio = record { num = z; den = lower 2 n } in r) e

-- A number in the range has a place at or above that of word 0.
pub ulinear16-above : (n : ℤ) (x : Ratio) (q : ℤ) → IsWithinPlaces (unsigned_spacing n) x q
    → IsBetween (ulinear16_value n 0) (ulinear16_value n 65535) x → pos 0 ≤ℤ q
ulinear16-above n x q h between =
    h.above (pos 0) (subst (λ (v : Ratio). AtMost v x) (ulinear16-at_place n 0) between.from_least)

-- A number in the range has a place at or below that of word FFFFh.
pub ulinear16-below : (n : ℤ) (x : Ratio) (q : ℤ) → IsWithinPlaces (unsigned_spacing n) x q
    → IsBetween (ulinear16_value n 0) (ulinear16_value n 65535) x → q ≤ℤ pos 65535
ulinear16-below n x q h between =
    h.below (pos 65535) (subst (λ (v : Ratio). AtMost x v) (ulinear16-at_place n 65535) between.to_greatest)

-- The word of the nearest place is the nearest word.
pub ulinear16-nearest : (n : ℤ) (x : Ratio) (q : ℤ) (w : ℕ) → IsPlace (unsigned_spacing n) x q → w < 2 ^ 16 → q ≡ pos w
    → IsNearest (ulinear16_value n) one_rank x w
ulinear16-nearest n x q w h word is =
    nearest_word pos (unsigned_spacing n) (λ u _. ulinear16-at_place n u) (lower-positive n) word is h.nearest h.lowest

-- The word of the place that was rounded down is the one that the number is rounded down to.
pub ulinear16-at_most : (n : ℤ) (x : Ratio) (q : ℤ) (w : ℕ) → IsPlaceBelow (unsigned_spacing n) x q → w < 2 ^ 16 → q ≡ pos w
    → IsAtMost (ulinear16_value n) one_rank x w
ulinear16-at_most n x q w h word is = word_below pos (unsigned_spacing n) (λ u _. ulinear16-at_place n u) word is h

-- The word of the place that was rounded up is the one that the number is rounded up to.
pub ulinear16-at_least : (n : ℤ) (x : Ratio) (q : ℤ) (w : ℕ) → IsPlaceAbove (unsigned_spacing n) x q → w < 2 ^ 16 → q ≡ pos w
    → IsAtLeast (ulinear16_value n) one_rank x w
ulinear16-at_least n x q w h word is = word_above pos (unsigned_spacing n) (λ u _. ulinear16-at_place n u) word is h
