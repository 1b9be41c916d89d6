-- What the formats are made from. The first range is that of the five bits of VOUT_MODE, the second
-- this project's own.
use Rattle.std.specs.Prelude.{ℤ, pos, neg_ℤ, ◌≤ℤ◌}

-- An exponent that five bits hold in two's complement.
pub record IsExponent (n : ℤ) : Type 0 where
  pub above : neg_ℤ (pos 16) ≤ℤ n
  pub below : n ≤ℤ pos 15

-- A decimal exponent R that DIRECT may have.
pub record IsDecimal (r : ℤ) : Type 0 where
  pub above : neg_ℤ (pos 12) ≤ℤ r
  pub below : r ≤ℤ pos 12
