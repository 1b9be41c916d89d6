-- The letters and the names of the causes against an event, as programs print them: `S1 NotBetrayed`, `S4 Host
-- H3 Busy`. This project's own choice.
use Rattle.std.specs.Prelude.{ℕ, List, ◌++◌, codes}
use Rattle.pm_host.specs.FaultWords.{host_fault_words, untold_words}
use Rattle.pm_host.specs.declared.fault.Untold.TheVariants as untold
use Rattle.pm_world.specs.declared.cause.Cause.{Cause}
use Rattle.pm_world.specs.declared.cause.Cause.TheVariants.{Full, NothingSent, WrongKind, NotBetrayed, Host}

-- the letter and the name
abbrev pub cause_words : Cause → List ℕ
cause_words NotBetrayed = codes "S1 NotBetrayed"
cause_words NothingSent = untold_words untold.NothingSent
cause_words WrongKind = untold_words untold.WrongKind
cause_words (Host fault) = codes "S4 Host"
cause_words Full = codes "S5 Full"

-- the words, and those of the host's refusal after S4
abbrev pub cause_text : Cause → List ℕ
cause_text (Host fault) = cause_words (Host fault) ++ (codes " " ++ host_fault_words fault)
cause_text cause = cause_words cause
