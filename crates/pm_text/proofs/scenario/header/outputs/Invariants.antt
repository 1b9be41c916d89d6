use Rattle.std.proofs.Common.{◌≡◌, List, length}
use Rattle.pm_device.specs.declared.output_start.OutputStart.{OutputStart}
use Rattle.pm_text.specs.ScenarioText.{output_start_line, outputs_in, starts_of}
use Rattle.pm_text.proofs.Scenarios.{behind}
use Rattle.pm_text.proofs.scenario.header.outputs.Given as goal

-- the outputs that were read stand before those of the lines that are left
abbrev pub invariant-outputs : goal.invariant-outputs
invariant-outputs l =
    (given : List OutputStart) × (l.starts ≡ starts_of given)
    × (outputs_in (output_start_line l.form l.c) l.fn.rows.count l.fn.rows.lines
    ≡ behind given (outputs_in (output_start_line l.form l.c) l.rows.count l.rows.lines))

abbrev pub decreases-outputs : goal.decreases-outputs
decreases-outputs l = length l.rows.lines
