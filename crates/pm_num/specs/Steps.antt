-- Words of private contracts alone: the steps by which a nearest word is found. No public clause
-- cites them.
use Rattle.std.specs.Prelude.{◌≡◌, ◌≢◌, ℕ, ◌+◌, ◌-◌, ◌*◌, ◌^◌, ◌<◌, ◌≤◌, ℤ, pos, negsuc, neg_ℤ, int_rem, ◌+ℤ◌, ◌-ℤ◌, ◌*ℤ◌, ◌<ℤ◌, ◌≤ℤ◌}
use Rattle.std.specs.Prelude.{unsigned_abs, ◌⊎◌}
use Rattle.pm_num.specs.Ratio.{Ratio, AtMost, IsBetween}
use Rattle.pm_num.specs.Value.{upper, lower, sign}
use Rattle.pm_num.specs.Nearest.{Near}

-- q is the greatest whole number not above a / d.
pub record IsFloor (a d q : ℤ) : Type 0 where
  pub reached : (q *ℤ d) ≤ℤ a
  pub next_above : a <ℤ (q *ℤ d +ℤ d)

-- q is the whole number nearest to a / d, of two the lower.
pub record IsRounded (a d q : ℤ) : Type 0 where
  pub below : (pos 2 *ℤ (q *ℤ d)) <ℤ (pos 2 *ℤ a +ℤ d)
  pub above : (pos 2 *ℤ a) ≤ℤ (pos 2 *ℤ (q *ℤ d) +ℤ d)

-- q is the least whole number not below a / d.
pub record IsCeiling (a d q : ℤ) : Type 0 where
  pub reached : a ≤ℤ (q *ℤ d)
  pub next_below : (q *ℤ d) <ℤ (a +ℤ d)

-- Evenly spaced numbers: the one at k is (k * step - offset) / den.
pub record Spacing : Type 0 where
  pub den : ℕ
  pub step : ℕ
  pub offset : ℤ

abbrev pub at_place : Spacing → ℤ → Ratio
at_place g k = record { num = k *ℤ pos g.step -ℤ g.offset; den = g.den }

-- DIRECT's values: word u is at `sign m * u`, so the value grows with the place.
abbrev pub direct_spacing : ℤ → ℤ → ℤ → Spacing
direct_spacing m b r = record {
  den = unsigned_abs m * upper 10 r;
  step = lower 10 r;
  offset = sign m *ℤ (b *ℤ pos (upper 10 r));
}

-- Whole bounds of x are bounds of q.
pub record IsWithinPlaces (g : Spacing) (x : Ratio) (q : ℤ) : Type 0 where
  pub above : (j : ℤ) → AtMost (at_place g j) x → j ≤ℤ q
  pub below : (j : ℤ) → AtMost x (at_place g j) → q ≤ℤ j

-- The number at q is the nearest to x, of two the lower.
pub record IsPlace (g : Spacing) (x : Ratio) (q : ℤ) : Type 0 where
  pub nearest : (j : ℤ) → Near x (at_place g q) (at_place g j)
  pub lowest : (j : ℤ) → Near x (at_place g j) (at_place g q) → q ≤ℤ j
  pub within : IsWithinPlaces g x q

-- The number at q is the greatest that isn't above x.
pub record IsPlaceBelow (g : Spacing) (x : Ratio) (q : ℤ) : Type 0 where
  pub reached : AtMost (at_place g q) x
  pub within : IsWithinPlaces g x q

-- The number at q is the least that isn't below x.
pub record IsPlaceAbove (g : Spacing) (x : Ratio) (q : ℤ) : Type 0 where
  pub reached : AtMost x (at_place g q)
  pub within : IsWithinPlaces g x q

-- y is x, or the greatest value where x lies above it.
pub record IsCapped (least greatest x y : Ratio) : Type 0 where
  pub between : IsBetween least greatest y
  pub either : (y ≡ x) ⊎ ((y ≡ greatest) × AtMost greatest x)

-- y is x, or the least value where x lies below it.
pub record IsRaised (least greatest x y : Ratio) : Type 0 where
  pub between : IsBetween least greatest y
  pub either : (y ≡ x) ⊎ ((y ≡ least) × AtMost x least)

-- The sizes that the code takes.
pub record IsSpacing (den step offset : ℤ) : Type 0 where
  pub den_above : pos 1 ≤ℤ den
  pub den_below : den ≤ℤ pos (2 ^ 55)
  pub step_above : pos 1 ≤ℤ step
  pub step_below : step ≤ℤ pos (2 ^ 55)
  pub offset_small : unsigned_abs offset ≤ 2 ^ 55

-- LINEAR11: an exponent counts from -16, a place from 0. The number is y * 2^place / 2^16.
abbrev pub place_of_exponent : ℤ → ℕ
place_of_exponent (pos n) = n + 16
place_of_exponent (negsuc n) = 15 - n

-- A mantissa and a place that a word has.
pub record IsSpelling (y : ℤ) (p : ℕ) : Type 0 where
  pub above : neg_ℤ (pos 1024) ≤ℤ y
  pub below : y ≤ℤ pos 1023
  pub place : p ≤ 31

-- What a mantissa is before it is settled, at the least place that reaches the number.
abbrev pub IsFar : ℤ → Type 0
IsFar y = (y ≤ℤ neg_ℤ (pos 512)) ⊎ (pos 512 ≤ℤ y)

-- No mantissa at a lower place spells the same number.
abbrev pub IsLarge : ℤ → Type 0
IsLarge y = (y ≤ℤ neg_ℤ (pos 513)) ⊎ (pos 512 ≤ℤ y)

-- No other spelling of the number has an exponent nearer to 0.
pub record IsPreferred (y : ℤ) (place : ℕ) : Type 0 where
  pub odd : place < 16 → int_rem y (pos 2) ≢ pos 0
  pub large : 16 < place → IsLarge y

-- The least place at which mantissas up to 1024 in size reach x.
pub record IsPlaceFor (x : Ratio) (place : ℕ) : Type 0 where
  pub den : 0 < x.den
  pub bounded : place ≤ 31
  pub reached : unsigned_abs x.num * 2 ^ 16 ≤ 1024 * x.den * 2 ^ place
  pub least : (j : ℕ) → j < place → 1024 * x.den * 2 ^ j < unsigned_abs x.num * 2 ^ 16
