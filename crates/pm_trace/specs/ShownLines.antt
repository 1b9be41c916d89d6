-- What a decoder shows of a line, seen as what the line says.
use Rattle.std.specs.Prelude.{ℕ, option_map}
use Rattle.pm_trace.specs.declared.shown.Shown.{Shown}
use Rattle.pm_trace.specs.declared.shown.Shown.TheVariants as shown
use Rattle.pm_trace.specs.Trace.{ToldLine, Judged, Accepted, Faulty, BadSyntax, BadHex}

abbrev pub judged_in : Shown → Judged
judged_in (shown.Accepted addr view answer) = Accepted addr view (option_map (λ bytes. bytes.now) answer)
judged_in (shown.Faulty addr read fault) = Faulty addr read fault
judged_in shown.BadSyntax = BadSyntax
judged_in shown.BadHex = BadHex

abbrev pub told_in_shown_line : (ℕ × Shown) → ToldLine
told_in_shown_line line = (line.0, judged_in line.1)
