-- The faults of the texts, as a program prints them: `pmb: X1 Syntax line 2`, `pmb: X3 TooLong`.
-- This project's own choice.
use Rattle.std.specs.Prelude.{ℕ, List, Option, Some, None, codes, ⊤}
use Rattle.pm_lines.specs.declared.fault.TextFault.{TextFault}
use Rattle.pm_lines.specs.declared.fault.TextFault.TheVariants.{Syntax, BadHex, TooLong, Read, Write, Memory, Setup}
use Rattle.pm_setup.specs.declared.setup_fault.SetupFault.{SetupFault}

-- the letters and the name of a fault
abbrev pub fault_words : TextFault → List ℕ
fault_words (Syntax line) = codes "X1 Syntax"
fault_words (BadHex line) = codes "X2 BadHex"
fault_words TooLong = codes "X3 TooLong"
fault_words Read = codes "X4 Read"
fault_words Write = codes "X5 Write"
fault_words Memory = codes "X6 Memory"
fault_words (Setup fault) = codes "X7 Setup"

-- the line of a fault that has one
abbrev pub fault_line : TextFault → Option ℕ
fault_line (Syntax line) = Some line
fault_line (BadHex line) = Some line
fault_line TooLong = None
fault_line Read = None
fault_line Write = None
fault_line Memory = None
fault_line (Setup fault) = None

-- why no world is made, of a fault that says so
abbrev pub fault_setup : TextFault → Option SetupFault
fault_setup (Syntax line) = None
fault_setup (BadHex line) = None
fault_setup TooLong = None
fault_setup Read = None
fault_setup Write = None
fault_setup Memory = None
fault_setup (Setup fault) = Some fault

-- the faults of a text as a whole
abbrev pub IsOfText : TextFault → Type 0
IsOfText (Syntax line) = ⊤
IsOfText (BadHex line) = ⊤
IsOfText TooLong = ⊥
IsOfText Read = ⊥
IsOfText Write = ⊥
IsOfText Memory = ⊤
IsOfText (Setup fault) = ⊥

-- the faults of what a text asks for
abbrev pub IsOfInput : TextFault → Type 0
IsOfInput (Syntax line) = ⊤
IsOfInput (BadHex line) = ⊤
IsOfInput TooLong = ⊥
IsOfInput Read = ⊥
IsOfInput Write = ⊥
IsOfInput Memory = ⊤
IsOfInput (Setup fault) = ⊤
