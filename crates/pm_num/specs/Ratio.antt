-- Fractions, and how two of them compare.
use Rattle.std.specs.Prelude.{◌≡◌, ℕ, ◌^◌, Bool, ◌||◌, if◌then◌else◌, ℤ, pos, neg_ℤ, ◌*ℤ◌, ◌<ℤ◌, ◌≤ℤ◌, int_lt, Option, Some, None}
use Rattle.pm_num.specs.declared.fault.NumFault.{NumFault}
use Rattle.pm_num.specs.declared.fault.NumFault.TheVariants.{TooLarge}

-- A fraction as a pair of whole numbers, as it stands and not reduced.
pub record Ratio : Type 0 where
  pub num : ℤ
  pub den : ℕ

-- The three ways in which two fractions compare, by cross products.
abbrev pub AtMost : Ratio → Ratio → Type 0
AtMost p q = (p.num *ℤ pos q.den) ≤ℤ (q.num *ℤ pos p.den)

abbrev pub LessThan : Ratio → Ratio → Type 0
LessThan p q = (p.num *ℤ pos q.den) <ℤ (q.num *ℤ pos p.den)

abbrev pub SameValue : Ratio → Ratio → Type 0
SameValue p q = p.num *ℤ pos q.den ≡ q.num *ℤ pos p.den

-- The first fraction is the greater one.
abbrev pub is_above : Ratio → Ratio → Bool
is_above p q = int_lt (q.num *ℤ pos p.den) (p.num *ℤ pos q.den)

-- x lies between the two, which count as between.
pub record IsBetween (least greatest x : Ratio) : Type 0 where
  pub from_least : AtMost least x
  pub to_greatest : AtMost x greatest

-- The numerators and denominators that this project takes: den from 1 to 2^55, num at most 2^55 in
-- size.
pub record InBounds (num den : ℤ) : Type 0 where
  pub den_above : pos 1 ≤ℤ den
  pub den_below : den ≤ℤ pos (2 ^ 55)
  pub num_above : neg_ℤ (pos (2 ^ 55)) ≤ℤ num
  pub num_below : num ≤ℤ pos (2 ^ 55)

-- k millionths.
abbrev pub micros : ℤ → Ratio
micros k = record { num = k; den = 10 ^ 6 }

-- This many whole millionths are the most that aren't above the value.
pub record IsMicroFloor (value : Ratio) (x : ℤ) : Type 0 where
  pub reached : AtMost (micros x) value
  pub greatest : (k : ℤ) → AtMost (micros k) value → k ≤ℤ x

-- The value is beyond 10^15 millionths in size.
abbrev pub is_far : Ratio → Bool
is_far value = is_above value (micros (pos (10 ^ 15))) || is_above (micros (neg_ℤ (pos (10 ^ 15)))) value

-- N5 where it is that far.
abbrev pub far_fault : Ratio → Option NumFault
far_fault value = if is_far value then Some TooLarge else None
