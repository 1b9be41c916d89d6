-- A format that is chosen at run time.
use Rattle.std.specs.Prelude.{ℕ, ℤ}
use Rattle.pm_num.specs.declared.any_format.AnyFormat.{AnyFormat}
use Rattle.pm_num.specs.declared.any_format.AnyFormat.TheVariants.{Linear11, Ulinear16, Direct}
use Rattle.pm_num.specs.declared.voltage_format.VoltageFormat.{VoltageFormat}
use Rattle.pm_num.specs.declared.voltage_format.VoltageFormat.TheVariants as voltage
use Rattle.pm_num.specs.Ratio.{Ratio}
use Rattle.pm_num.specs.Value.{linear11_value, linear11_least, linear11_greatest, ulinear16_value, direct_value, direct_least}
use Rattle.pm_num.specs.Value.{direct_greatest}
use Rattle.pm_num.specs.Nearest.{linear11_rank, one_rank}

-- What a format is, with no fact on its numbers: LINEAR11, ULINEAR16 with the exponent n, or DIRECT
-- with the coefficients m, b and r.
pub data Shape : Type 0 where
  InLinear11 : Shape
  InUlinear16 : (n : ℤ) → Shape
  InDirect : (m b r : ℤ) → Shape

-- The values, the ranks and the range of a shape.
abbrev pub shape_value : Shape → ℕ → Ratio
shape_value InLinear11 = linear11_value
shape_value (InUlinear16 n) = ulinear16_value n
shape_value (InDirect m b r) = direct_value m b r

abbrev pub shape_rank : Shape → ℕ → ℕ
shape_rank InLinear11 = linear11_rank
shape_rank (InUlinear16 n) = one_rank
shape_rank (InDirect m b r) = one_rank

abbrev pub shape_lowest : Shape → Ratio
shape_lowest InLinear11 = linear11_value linear11_least
shape_lowest (InUlinear16 n) = ulinear16_value n 0
shape_lowest (InDirect m b r) = direct_value m b r (direct_least m)

abbrev pub shape_highest : Shape → Ratio
shape_highest InLinear11 = linear11_value linear11_greatest
shape_highest (InUlinear16 n) = ulinear16_value n 0xFFFF
shape_highest (InDirect m b r) = direct_value m b r (direct_greatest m)

-- The shape of a format that is chosen at run time, and what it has by that shape.
abbrev pub shape_of : AnyFormat → Shape
shape_of Linear11 = InLinear11
shape_of (Ulinear16 f) = InUlinear16 f.n
shape_of (Direct f) = InDirect f.m f.b f.r

abbrev pub any_value : AnyFormat → ℕ → Ratio
any_value f = shape_value (shape_of f)

abbrev pub any_rank : AnyFormat → ℕ → ℕ
any_rank f = shape_rank (shape_of f)

abbrev pub any_lowest : AnyFormat → Ratio
any_lowest f = shape_lowest (shape_of f)

abbrev pub any_highest : AnyFormat → Ratio
any_highest f = shape_highest (shape_of f)

-- A format of an output's voltages among the three, and its shape.
abbrev pub any_of : VoltageFormat → AnyFormat
any_of (voltage.Ulinear16 f) = Ulinear16 f
any_of (voltage.Direct f) = Direct f

abbrev pub voltage_shape : VoltageFormat → Shape
voltage_shape f = shape_of (any_of f)

abbrev pub voltage_value : VoltageFormat → ℕ → Ratio
voltage_value f = shape_value (voltage_shape f)
