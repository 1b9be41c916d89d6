-- The format of an output's voltages: VOUT_MODE names it, and for DIRECT the device's coefficients
-- complete it (PMBus 1.3 Part II, VOUT_MODE and COEFFICIENTS). That the slope isn't 0 and that R is
-- from -12 to 12 is this project's own choice.
use Rattle.std.specs.Prelude.{pos, neg_ℤ, Bool, ◌&&◌, int_le, Result, Ok, Err, if◌then◌else◌}
use Rattle.std.specs.Ordering.{int_eq}
use Rattle.std.specs.Result.{result_map_both}
use Rattle.pm_num.specs.declared.any_format.AnyFormat.{AnyFormat}
use Rattle.pm_num.specs.declared.fault.NumFault.{NumFault}
use Rattle.pm_num.specs.declared.voltage_format.VoltageFormat.{VoltageFormat}
use Rattle.pm_num.specs.declared.fault.NumFault.TheVariants.{ZeroSlope, ExponentRange}
use Rattle.pm_num.specs.AnyFormat.{Shape, InUlinear16, InDirect, shape_of, voltage_shape}
use Rattle.pm_table.specs.declared.vout_mode.VoutMode.{VoutMode}
use Rattle.pm_table.specs.declared.vout_mode.VoutMode.TheVariants.{Linear, Direct}
use Rattle.pm_table.specs.declared.coefficients.Coefficients.{Coefficients}

-- the decimal exponents that DIRECT may have
abbrev pub is_decimal : Coefficients → Bool
is_decimal c = int_le (neg_ℤ (pos 12)) c.r && int_le c.r (pos 12)

-- The format of a mode, whatever the coefficients where it is ULINEAR16; for DIRECT the first of a
-- slope of 0 and of an exponent outside its range refuses.
abbrev pub shape_in : VoutMode → Coefficients → Result Shape NumFault
shape_in (Linear n) c = Ok (InUlinear16 n)
shape_in Direct c =
    if int_eq c.m (pos 0) then Err ZeroSlope
    else (if is_decimal c then Ok (InDirect c.m c.b c.r) else Err ExponentRange)

-- a format, or its refusal, seen as its shape
abbrev pub shape_seen : Result AnyFormat NumFault → Result Shape NumFault
shape_seen made = result_map_both shape_of (λ fault. fault) made

abbrev pub voltage_shape_seen : Result VoltageFormat NumFault → Result Shape NumFault
voltage_shape_seen made = result_map_both voltage_shape (λ fault. fault) made
