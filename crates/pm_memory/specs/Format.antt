-- A format as plain numbers, and what they mean. This project's own choice.
use Rattle.std.specs.Prelude.{◌≡◌, ℤ, pos, neg_ℤ, int_le, Bool, ◌&&◌, if◌then◌else◌, ◌==◌, Option, Some, None}
use Rattle.std.specs.Result.{result_ok}
use Rattle.pm_num.specs.AnyFormat.{Shape, InLinear11, InUlinear16, InDirect}
use Rattle.pm_table.specs.declared.vout_mode.VoutMode.TheVariants.{Direct}
use Rattle.pm_table.specs.Format.{shape_in}
use Rattle.pm_memory.specs.declared.format_numbers.FormatNumbers.{FormatNumbers}

-- the exponents that ULINEAR16 may have
abbrev pub is_exponent : ℤ → Bool
is_exponent n = int_le (neg_ℤ (pos 16)) n && int_le n (pos 15)

-- The format that a caller's numbers mean: kind 1 is ULINEAR16, kind 2 DIRECT, each with numbers that it may have, and
-- kind 3 LINEAR11, which readings of PMBus have and no output's voltage has; any other is no format.
abbrev pub format_meant : FormatNumbers → Option Shape
format_meant i =
    if i.kind == 1 then (if is_exponent i.exponent then Some (InUlinear16 i.exponent) else None)
    else (if i.kind == 2 then result_ok (shape_in Direct (record { m = i.m; b = i.b; r = i.exponent }))
    else (if i.kind == 3 then Some InLinear11 else None))

-- the numbers of a format; zeros where none is known
abbrev pub format_numbers : Option Shape → FormatNumbers
format_numbers None = record { kind = 0; exponent = pos 0; m = pos 0; b = pos 0 }
format_numbers (Some (InUlinear16 n)) = record { kind = 1; exponent = n; m = pos 0; b = pos 0 }
format_numbers (Some (InDirect m b r)) = record { kind = 2; exponent = r; m = m; b = b }
format_numbers (Some InLinear11) = record { kind = 3; exponent = pos 0; m = pos 0; b = pos 0 }

-- the numbers are those of the format that is known, and mean it
pub record IsFormat (known : Option Shape) (format : FormatNumbers) : Type 0 where
  pub numbers : format ≡ format_numbers known
  pub meant : format_meant format ≡ known
