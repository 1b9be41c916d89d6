-- What the calls of limits and of the band answer, by the definitions of pm_limits.
use Rattle.std.specs.Prelude.{ℕ, ℤ, ◌||◌, nat_lt, if◌then◌else◌, Option, Some, None}
use Rattle.pm_num.specs.AnyFormat.{Shape}
use Rattle.pm_num.specs.declared.fault.NumFault.TheVariants.{TooLarge}
use Rattle.pm_host.specs.declared.fault.HostFault.TheVariants.{FormatUnknown, UnknownOutput}
use Rattle.pm_host.specs.Summary.{format_at}
use Rattle.pm_limits.specs.declared.band.Band.{Band}
use Rattle.pm_limits.specs.declared.guard.Within.{Within}
use Rattle.pm_limits.specs.declared.guard.Within.TheVariants.{Yes, No, NotKnown, NoLimits}
use Rattle.pm_limits.specs.Band.{band_at, within_of}
use Rattle.pm_limits.specs.Guard.{Guarded, limits_at, narrow_fault, unlimited_fault}
use Rattle.pm_limits.specs.OutputLimits.{is_limited}
use Rattle.pm_memory.specs.declared.limits.BandImage.{BandImage}
use Rattle.pm_memory.specs.Numbers.{accepted, limit_outcome, no_band_there, no_host, no_limits_there, within_no, within_not_known}
use Rattle.pm_memory.specs.Numbers.{within_yes}
use Rattle.pm_host.specs.FaultWords.{host_fault_number}
use Rattle.pm_num.specs.FaultWords.{num_fault_number}
use Rattle.pm_memory.specs.Voltages.{IsCeil, IsFloor}
use Rattle.pm_num.specs.Ratio.{is_far}

-- limits are narrowed
abbrev pub narrow_number : Option Guarded → ℕ → ℤ → ℤ → ℕ
narrow_number None output least most = no_host
narrow_number (Some g) output least most = limit_outcome (narrow_fault g output least most)

-- an output is said to have none
abbrev pub unlimited_number : Option Guarded → ℕ → ℕ
unlimited_number None output = no_host
unlimited_number (Some g) output = limit_outcome (unlimited_fault g output)

-- limits are asked
abbrev pub limits_number : Option Guarded → ℕ → ℕ
limits_number None output = no_host
limits_number (Some g) output =
    if nat_lt output g.host.setup.outputs
    then (if is_limited (limits_at g output) then accepted else no_limits_there)
    else host_fault_number UnknownOutput

-- whether an output's voltage lies within its limits
abbrev pub within_word : Within → ℕ
within_word Yes = within_yes
within_word No = within_no
within_word NotKnown = within_not_known
within_word NoLimits = no_limits_there

abbrev pub within_number : Option Guarded → ℕ → ℕ
within_number None output = no_host
within_number (Some g) output =
    if nat_lt output g.host.setup.outputs
    then within_word (within_of (limits_at g output) (band_at g.registers g.host output))
    else host_fault_number UnknownOutput

-- the ends of a band are asked: N5 where one is beyond 10^15 microvolts in size
abbrev pub ends_number : Band → ℕ
ends_number band = if is_far band.least || is_far band.greatest then num_fault_number TooLarge else accepted

-- There is no band: H7 where the format isn't known; where it is, another than the output's registers may decide.
abbrev pub no_band_number : Option Shape → ℕ
no_band_number None = host_fault_number FormatUnknown
no_band_number (Some shape) = no_band_there

abbrev pub ends_in : Option Shape → Option Band → ℕ
ends_in format None = no_band_number format
ends_in format (Some band) = ends_number band

abbrev pub band_number : Option Guarded → ℕ → ℕ
band_number None output = no_host
band_number (Some g) output =
    if nat_lt output g.host.setup.outputs
    then ends_in (format_at g.host output) (band_at g.registers g.host output)
    else host_fault_number UnknownOutput

-- the whole microvolts of the ends, the least rounded down and the greatest up
pub record IsBand (known : Band) (band : BandImage) : Type 0 where
  pub least : IsFloor known.least band.least
  pub greatest : IsCeil known.greatest band.greatest

-- those of a band, where there is one
abbrev pub IsEnds : Option Band → BandImage → Type 0
IsEnds None ends = Unit {0}
IsEnds (Some known) ends = IsBand known ends
