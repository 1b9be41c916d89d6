-- The limits of an output's voltage, in whole microvolts. This project's own choice.
use Rattle.std.specs.Prelude.{◌^◌, ◌≤◌, ◌≤ℤ◌, ℤ, unsigned_abs, int_lt, nat_lt, Bool, ◌||◌, if◌then◌else◌, Option, Some, None}
use Rattle.pm_num.specs.declared.fault.NumFault.TheVariants.{TooLarge}
use Rattle.pm_num.specs.Ratio.{Ratio, IsBetween, is_above, micros}
use Rattle.pm_host.specs.declared.fault.HostFault.TheVariants.{Num}
use Rattle.pm_limits.specs.declared.fault.LimitFault.{LimitFault}
use Rattle.pm_limits.specs.declared.fault.LimitFault.TheVariants.{Host, LimitsInverted, FormatUnknown, BelowLimit, AboveLimit}
use Rattle.std.specs.declared.cmp.Ordering.{Ordering}
use Rattle.std.specs.declared.cmp.Ordering.TheVariants.{Less, Equal, Greater}

pub record Bounds : Type 0 where
  pub least : ℤ
  pub most : ℤ

-- neither is beyond 10^15 in size, and they are in order
pub record AreBounds (least most : ℤ) : Type 0 where
  pub small_least : unsigned_abs least ≤ 10 ^ 15
  pub small_most : unsigned_abs most ≤ 10 ^ 15
  pub ordered : least ≤ℤ most

-- why two numbers are no limits: N5 where one is beyond 10^15 in size, then L1 where they are inverted
abbrev pub bounds_fault : ℤ → ℤ → Option LimitFault
bounds_fault least most =
    if nat_lt (10 ^ 15) (unsigned_abs least) || nat_lt (10 ^ 15) (unsigned_abs most) then Some (Host (Num TooLarge))
    else (if int_lt most least then Some LimitsInverted else None)

-- a value lies within limits, which count as within
abbrev pub IsWithin : Bounds → Ratio → Type 0
IsWithin bounds value = IsBetween (micros bounds.least) (micros bounds.most) value

-- L3 for a value below the limits, L4 for one above
abbrev pub outside_fault : Bounds → Ratio → Option LimitFault
outside_fault bounds value =
    if is_above (micros bounds.least) value then Some BelowLimit
    else (if is_above value (micros bounds.most) then Some AboveLimit else None)

-- L3 for a value below the limits, L4 for one above, by the value's place; L2 if the place isn't known, since the format isn't
abbrev pub place_fault : Option Ordering → Option LimitFault
place_fault None = Some FormatUnknown
place_fault (Some Less) = Some BelowLimit
place_fault (Some Equal) = None
place_fault (Some Greater) = Some AboveLimit

-- limits let through what others don't
abbrev pub is_wider : Bounds → Bounds → Bool
is_wider old bounds = int_lt bounds.least old.least || int_lt old.most bounds.most
