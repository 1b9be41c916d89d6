-- What a format was made from.
use Rattle.std.specs.Prelude.{◌≡◌, ℤ}
use Rattle.pm_num.specs.declared.direct.Direct.{Direct}
use Rattle.pm_num.specs.declared.ulinear16.Ulinear16.{Ulinear16}

-- The exponent of a ULINEAR16 format is n.
pub record HasExponent (f : Ulinear16) (n : ℤ) : Type 0 where
  pub exponent : f.n ≡ n

-- The coefficients of a DIRECT format are m, b and r.
pub record HasCoefficients (f : Direct) (m b r : ℤ) : Type 0 where
  pub slope : f.m ≡ m
  pub offset : f.b ≡ b
  pub decimal : f.r ≡ r
