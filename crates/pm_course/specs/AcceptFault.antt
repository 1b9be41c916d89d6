-- The letter, the name and the number of why a held word isn't taken: `P9 NotNear`. This project's own choice.
use Rattle.std.specs.Prelude.{ℕ, List, codes}
use Rattle.pm_course.specs.declared.accept_fault.AcceptFault.{AcceptFault}
use Rattle.pm_course.specs.declared.accept_fault.AcceptFault.TheVariants.{NotNear}

abbrev pub accept_fault_words : AcceptFault → List ℕ
accept_fault_words NotNear = codes "P9 NotNear"

-- the number as `pmhost.h` has it
abbrev pub accept_fault_number : AcceptFault → ℕ
accept_fault_number NotNear = 0x69
