-- What the hearing of a text results in. This project's own choice.
use Rattle.std.specs.Prelude.{ℕ, List, None, Result, Ok, Err, ⊤}
use Rattle.pm_lines.specs.Engine.{Engine}
use Rattle.pm_lines.specs.declared.fault.TextFault.{TextFault}
use Rattle.pm_lines.specs.declared.fault.TextFault.TheVariants.{Setup}
use Rattle.pm_tool.specs.Script.{printed_text}

-- a text is all that is made
abbrev pub text_alone : Result (List ℕ) TextFault → Result (List ℕ × Unit {0}) TextFault
text_alone (Ok text) = Ok (text, tt)
text_alone (Err fault) = Err fault

-- `hear` as an engine: it writes its text whole, and nothing before
abbrev pub hear_engine : Engine (Unit {0})
hear_engine = record { whole = λ input. text_alone (printed_text input); early = None }

-- `hear` sets nothing up
abbrev pub IsOfHear : TextFault → Type 0
IsOfHear (Setup fault) = ⊥
IsOfHear _ = ⊤
