-- The VOUT_MODE byte of PMBus 1.3 Part II: bit 7 is 0 for absolute; bits 6:5 are 00 ULINEAR16, 01
-- VID, 10 DIRECT, 11 IEEE half precision; bits 4:0 are the two's complement exponent for ULINEAR16,
-- and 0 for DIRECT. This project takes ULINEAR16 and DIRECT.
use Rattle.std.specs.Prelude.{ℕ, ℤ, pos, ◌-ℤ◌, ◌/◌, ◌%◌, Result, Ok, Err, if◌then◌else◌, ◌==◌, nat_lt}
use Rattle.pm_num.specs.Formats.{IsExponent}
use Rattle.pm_table.specs.declared.fault.TableFault.{TableFault}
use Rattle.pm_table.specs.declared.fault.TableFault.TheVariants.{VidMode, HalfMode, RelativeMode, BadParameter}
use Rattle.pm_table.specs.declared.vout_mode.VoutMode.{VoutMode}
use Rattle.pm_table.specs.declared.vout_mode.VoutMode.TheVariants.{Linear, Direct}

-- bits 4:0 as a two's complement number, -16 to 15
abbrev pub exponent_of : ℕ → ℤ
exponent_of byte = if nat_lt (byte % 32) 16 then pos (byte % 32) else pos (byte % 32) -ℤ pos 32

-- what a byte says, or the first of relative, VID, half precision and a parameter of DIRECT that
-- isn't 0
abbrev pub mode_of : ℕ → Result VoutMode TableFault
mode_of byte =
    if byte / 128 == 1 then Err RelativeMode
    else (if byte / 32 == 1 then Err VidMode
    else (if byte / 32 == 3 then Err HalfMode
    else (if byte / 32 == 0 then Ok (Linear (exponent_of byte))
    else (if byte % 32 == 0 then Ok Direct else Err BadParameter))))

-- a mode whose exponent, where it has one, is one that five bits hold
abbrev pub IsMode : VoutMode → Type 0
IsMode (Linear n) = IsExponent n
IsMode Direct = Unit {0}
