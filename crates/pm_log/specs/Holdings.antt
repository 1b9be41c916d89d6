-- How the result of lines is kept: what is known, and a refusal, if there is one. This project's own choice.
use Rattle.std.specs.Prelude.{ℕ, Option, Some, None, Result, Ok, Err}
use Rattle.pm_log.specs.Logs.{Known}
use Rattle.pm_log.specs.declared.checked.Refusal.{Refusal}
use Rattle.pm_log.specs.declared.fault.LogFault.{LogFault}

abbrev pub kept_unless_refused : Known → Option Refusal → Result Known Refusal
kept_unless_refused known None = Ok known
kept_unless_refused known (Some refusal) = Err refusal

abbrev pub refusal_of_line : ℕ → Result (Unit {0}) LogFault → Option Refusal
refusal_of_line line (Ok done) = None
refusal_of_line line (Err fault) = Some (record { line = line; fault = fault })
