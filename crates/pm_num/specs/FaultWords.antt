-- The letters and the names of the faults of numbers, as programs print them. This project's own
-- choice.
use Rattle.std.specs.Prelude.{ℕ, List, codes}
use Rattle.pm_num.specs.declared.fault.NumFault.{NumFault}
use Rattle.pm_num.specs.declared.fault.NumFault.TheVariants.{ZeroSlope, ExponentRange, BelowLeast, AboveGreatest, TooLarge}

abbrev pub num_fault_words : NumFault → List ℕ
num_fault_words ZeroSlope = codes "N1 ZeroSlope"
num_fault_words ExponentRange = codes "N2 ExponentRange"
num_fault_words BelowLeast = codes "N3 BelowLeast"
num_fault_words AboveGreatest = codes "N4 AboveGreatest"
num_fault_words TooLarge = codes "N5 TooLarge"

-- the number of a fault as `pmhost.h` has it, which no other fault has
abbrev pub num_fault_number : NumFault → ℕ
num_fault_number ZeroSlope = 0x11
num_fault_number ExponentRange = 0x12
num_fault_number BelowLeast = 0x13
num_fault_number AboveGreatest = 0x14
num_fault_number TooLarge = 0x15
