-- Why limits of a host in a caller's memory aren't narrowed.
use Rattle.std.proofs.Common.{◌≡◌, ℕ, ℤ, true, [], ◌∷◌, Some, ap}
use Rattle.std.specs.Prelude.{nat_lt, slice_index_or}
use Rattle.pm_table.specs.Rules.{first}
use Rattle.pm_host.specs.Image.{host_of}
use Rattle.pm_host.specs.Summary.{Summary}
use Rattle.pm_limits.specs.declared.fault.LimitFault.{LimitFault}
use Rattle.pm_limits.specs.declared.output_limits.OutputLimits.TheVariants.{Unlimited}
use Rattle.pm_limits.specs.FaultWords.{limit_fault_number}
use Rattle.pm_limits.specs.Guard.{narrower_fault, open_fault}
use Rattle.pm_memory.specs.declared.guard_image.GuardImage.{GuardImage}
use Rattle.pm_memory.specs.Guard.{guard_of, limits_kept, registers_held}
use Rattle.pm_memory.specs.Limits.{narrow_number}
use Rattle.pm_memory.specs.Numbers.{limit_outcome}

-- what refuses them where the output is there
pub refused : (image : GuardImage) (s : Summary) (output : ℕ) (least most : ℤ) (fault : LimitFault)
    → host_of image.host ≡ Some s → nat_lt output s.setup.outputs ≡ true
    → first (narrower_fault (slice_index_or (limits_kept image) output Unlimited) least most
    ∷ open_fault (registers_held image.registers) (record { least = least; most = most }) s output ∷ []) ≡ Some fault
    → narrow_number (guard_of image) output least most ≡ limit_fault_number fault
refused image s output least most fault found there is = rw (found, there) (ap limit_outcome is)
