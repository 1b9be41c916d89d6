-- The letters and the names of a plan's refusals, as programs print them: `P4 NotKnown`. This project's own choice.
use Rattle.std.specs.Prelude.{ℕ, List, codes, Option, Some, None}
use Rattle.pm_table.specs.Cell.{cell_code, register_code}
use Rattle.pm_host.specs.declared.fault.HostFault.TheVariants as host
use Rattle.pm_host.specs.FaultWords.{host_fault_number, host_fault_words}
use Rattle.pm_limits.specs.declared.fault.LimitFault.TheVariants as limit
use Rattle.pm_limits.specs.FaultWords.{limit_fault_number, limit_fault_words}
use Rattle.pm_rail.specs.declared.fault.PlanFault.{PlanFault}
use Rattle.pm_rail.specs.declared.fault.PlanFault.TheVariants.{Busy, MissingRegister, FormatUnknown, BelowLimit, AboveLimit, NotKnown}
use Rattle.pm_rail.specs.declared.fault.PlanFault.TheVariants.{BelowMin, AboveMax, NoLimits, Protected}

-- an open job is told as by the host; a register that the part doesn't have, and what the limits say, as by a guard
abbrev pub plan_fault_words : PlanFault → List ℕ
plan_fault_words Busy = host_fault_words host.Busy
plan_fault_words (MissingRegister register) = limit_fault_words limit.MissingRegister
plan_fault_words FormatUnknown = codes "P1 FormatUnknown"
plan_fault_words (NoLimits register) = limit_fault_words limit.NoLimits
plan_fault_words (BelowLimit register) = limit_fault_words limit.BelowLimit
plan_fault_words (AboveLimit register) = limit_fault_words limit.AboveLimit
plan_fault_words (NotKnown cell) = codes "P4 NotKnown"
plan_fault_words (BelowMin register) = codes "P5 BelowMin"
plan_fault_words (AboveMax register) = codes "P6 AboveMax"
plan_fault_words (Protected register) = codes "P7 Protected"

-- the number of a fault as `pmhost.h` has it, which no fault of another meaning has
abbrev pub plan_fault_number : PlanFault → ℕ
plan_fault_number Busy = host_fault_number host.Busy
plan_fault_number (MissingRegister register) = limit_fault_number limit.MissingRegister
plan_fault_number FormatUnknown = 0x61
plan_fault_number (NoLimits register) = limit_fault_number limit.NoLimits
plan_fault_number (BelowLimit register) = limit_fault_number limit.BelowLimit
plan_fault_number (AboveLimit register) = limit_fault_number limit.AboveLimit
plan_fault_number (NotKnown cell) = 0x64
plan_fault_number (BelowMin register) = 0x65
plan_fault_number (AboveMax register) = 0x66
plan_fault_number (Protected register) = 0x67

-- the command code of the register that a fault is about, or of WRITE_PROTECT
abbrev pub plan_fault_code : PlanFault → Option ℕ
plan_fault_code Busy = None
plan_fault_code (MissingRegister register) = Some (register_code register)
plan_fault_code FormatUnknown = None
plan_fault_code (NoLimits register) = Some (register_code register)
plan_fault_code (BelowLimit register) = Some (register_code register)
plan_fault_code (AboveLimit register) = Some (register_code register)
plan_fault_code (NotKnown cell) = Some (cell_code cell)
plan_fault_code (BelowMin register) = Some (register_code register)
plan_fault_code (AboveMax register) = Some (register_code register)
plan_fault_code (Protected register) = Some (register_code register)
