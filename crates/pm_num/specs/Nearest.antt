-- Which word a fraction is encoded as. This is this project's own rule.
use Rattle.std.specs.Prelude.{◌≡◌, ℕ, ◌+◌, ◌*◌, ◌^◌, ◌<◌, ◌≤◌, ℤ, pos, negsuc, ◌-ℤ◌, ◌*ℤ◌, unsigned_abs}
use Rattle.pm_num.specs.declared.fault.NumFault.{NumFault}
use Rattle.pm_num.specs.declared.fault.NumFault.TheVariants.{ZeroSlope, ExponentRange, BelowLeast, AboveGreatest, TooLarge}
use Rattle.pm_num.specs.Ratio.{Ratio, AtMost, LessThan, SameValue}
use Rattle.pm_num.specs.Value.{exponent}

-- How far apart two fractions are, in units of one over both denominators.
abbrev pub gap : Ratio → Ratio → ℕ
gap p q = unsigned_abs (p.num *ℤ pos q.den -ℤ q.num *ℤ pos p.den)

-- x is at least as near to v as to u.
abbrev pub Near : Ratio → Ratio → Ratio → Type 0
Near x v u = gap x v * u.den ≤ gap x u * v.den

-- The word for x: none is nearer; none that is as near has a lower value; none of the same value
-- ranks before it.
pub record IsNearest (value : ℕ → Ratio) (rank : ℕ → ℕ) (x : Ratio) (w : ℕ) : Type 0 where
  pub word : w < 2 ^ 16
  pub nearest : (u : ℕ) → u < 2 ^ 16 → Near x (value w) (value u)
  pub lowest : (u : ℕ) → u < 2 ^ 16 → Near x (value u) (value w) → AtMost (value w) (value u)
  pub spelling : (u : ℕ) → u < 2 ^ 16 → SameValue (value u) (value w) → rank w ≤ rank u

-- Exponents in the order 0, -1, 1, -2, 2, ..: the nearest to 0 first, of two such the negative one.
abbrev pub preference : ℤ → ℕ
preference (pos n) = 2 * n
preference (negsuc n) = 2 * n + 1

-- LINEAR11 has several words for one value, and ranks them by their exponents.
abbrev pub linear11_rank : ℕ → ℕ
linear11_rank word = preference (exponent word)

-- The other formats have one word for each value.
abbrev pub one_rank : ℕ → ℕ
one_rank _ = 0

-- What a refusal says of x: on which side of the range it lies. No other fault is answered.
abbrev pub IsOutside : Ratio → Ratio → Ratio → NumFault → Type 0
IsOutside least greatest x BelowLeast = LessThan x least
IsOutside least greatest x AboveGreatest = LessThan greatest x
IsOutside least greatest x ZeroSlope = ⊥
IsOutside least greatest x ExponentRange = ⊥
IsOutside least greatest x TooLarge = ⊥

-- v is the value of some word.
abbrev pub IsValue : (ℕ → Ratio) → Ratio → Type 0
IsValue value v = (w : ℕ) × (w < 2 ^ 16) × (value w ≡ v)
