-- The letters and the names of a guard's refusals, as programs print them: `L3 BelowLimit`. This project's own
-- choice.
use Rattle.std.specs.Prelude.{ℕ, List, codes}
use Rattle.pm_host.specs.FaultWords.{host_fault_number, host_fault_words}
use Rattle.pm_limits.specs.declared.fault.LimitFault.{LimitFault}
use Rattle.pm_limits.specs.declared.fault.LimitFault.TheVariants.{Host, LimitsInverted, FormatUnknown, BelowLimit, AboveLimit}
use Rattle.pm_limits.specs.declared.fault.LimitFault.TheVariants.{NotKnownWithin, LimitsWidened, MissingRegister, NoLimits}

-- a refusal of the host is told as that
abbrev pub limit_fault_words : LimitFault → List ℕ
limit_fault_words LimitsInverted = codes "L1 LimitsInverted"
limit_fault_words FormatUnknown = codes "L2 FormatUnknown"
limit_fault_words BelowLimit = codes "L3 BelowLimit"
limit_fault_words AboveLimit = codes "L4 AboveLimit"
limit_fault_words NotKnownWithin = codes "L5 NotKnownWithin"
limit_fault_words LimitsWidened = codes "L6 LimitsWidened"
limit_fault_words MissingRegister = codes "L7 MissingRegister"
limit_fault_words NoLimits = codes "L8 NoLimits"
limit_fault_words (Host fault) = host_fault_words fault

-- the number of a fault as `pmhost.h` has it, which no other fault has
abbrev pub limit_fault_number : LimitFault → ℕ
limit_fault_number LimitsInverted = 0x21
limit_fault_number FormatUnknown = 0x22
limit_fault_number BelowLimit = 0x23
limit_fault_number AboveLimit = 0x24
limit_fault_number NotKnownWithin = 0x25
limit_fault_number LimitsWidened = 0x26
limit_fault_number MissingRegister = 0x27
limit_fault_number NoLimits = 0x28
limit_fault_number (Host fault) = host_fault_number fault
