-- An order for an output that is said to have no limits is refused exactly where the host refuses it.
use Rattle.std.proofs.Common.{◌≡◌, ℕ, Bool, true, false, ◌&&◌, Option, Some, None, [], ◌∷◌, refl}
use Rattle.pm_table.specs.declared.cell.Cell.{Cell}
use Rattle.pm_table.specs.declared.cell.Cell.TheVariants.{Out, Protect}
use Rattle.pm_table.specs.declared.reg.Reg.TheVariants.{Operation}
use Rattle.pm_table.specs.Operation.{has_on}
use Rattle.pm_table.specs.Rules.{first, rule}
use Rattle.pm_host.specs.declared.fault.HostFault.{HostFault}
use Rattle.pm_host.specs.declared.job.Job.TheVariants.{Order}
use Rattle.pm_host.specs.Jobs.{begin_fault}
use Rattle.pm_host.specs.Refusals.{cell_fault}
use Rattle.pm_host.specs.Summary.{Summary, format_at}
use Rattle.pm_limits.specs.declared.fault.LimitFault.{LimitFault}
use Rattle.pm_limits.specs.declared.output_limits.OutputLimits.TheVariants.{Unlimited}
use Rattle.pm_limits.specs.declared.part_registers.PartRegisters.{PartRegisters}
use Rattle.pm_limits.specs.Guard.{judged, limited_fault, missing_ordered, of_host, unsure_fault}

-- a rule gives no fault where a part of its condition is false
never : (applies : Bool) (fault : LimitFault) → rule (applies && false) fault ≡ None
never true fault = refl
never false fault = refl

-- nothing is judged
free : (registers : PartRegisters) (s : Summary) (cell : Cell) (word : ℕ) → judged registers Unlimited s cell word ≡ None
free registers s (Out output Operation) word = never (has_on word) (unsure_fault Unlimited (format_at s output))
free registers s (Out output register) word = refl
free registers s Protect word = refl

-- the host's own first refusal comes first in either place
once : (a b c : Option HostFault) →
    first (of_host a ∷ None ∷ None ∷ of_host (first (a ∷ b ∷ c ∷ [])) ∷ []) ≡ of_host (first (a ∷ b ∷ c ∷ []))
once (Some a) b c = refl
once None (Some b) c = refl
once None None (Some c) = refl
once None None None = refl

-- an order whose output is said to have no limits, of a register that the part has, is refused exactly where the host refuses it,
-- and for the same fault
pub unlimited : (registers : PartRegisters) (s : Summary) (cell : Cell) (word : ℕ) → missing_ordered registers cell word ≡ None →
    limited_fault registers Unlimited s (Order cell word) ≡ of_host (begin_fault s (Order cell word))
unlimited registers s cell word there = rw (there, free registers s cell word) (once (cell_fault s cell) _ _)
