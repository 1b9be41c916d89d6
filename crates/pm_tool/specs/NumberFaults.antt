-- The refusals of `number`, as the program prints them: `pmb: bad word`, `pmb: N1 ZeroSlope`. This
-- project's own choice.
use Rattle.std.specs.Prelude.{ℕ, List, codes}
use Rattle.pm_num.specs.FaultWords.{num_fault_words}
use Rattle.pm_lines.specs.Faults.{fault_words}
use Rattle.pm_tool.specs.declared.numbers.fault.NumberFault.{NumberFault}
use Rattle.pm_tool.specs.declared.numbers.fault.NumberFault.TheVariants.{OneOf, Format, Word}
use Rattle.pm_tool.specs.declared.numbers.fault.NumberFault.TheVariants.{Micro, Num, Text}

-- what is said of a refusal
abbrev pub number_refusal_words : NumberFault → List ℕ
number_refusal_words OneOf = codes "give one of --word and --micro"
number_refusal_words Format = codes "bad format"
number_refusal_words Word = codes "bad word"
number_refusal_words Micro = codes "bad micro"
number_refusal_words (Num fault) = num_fault_words fault
number_refusal_words (Text fault) = fault_words fault

-- the status with which the program ends: 2 for a fault of the command line
abbrev pub refusal_status : NumberFault → ℕ
refusal_status OneOf = 2
refusal_status Format = 2
refusal_status Word = 2
refusal_status Micro = 2
refusal_status (Num fault) = 1
refusal_status (Text fault) = 1
