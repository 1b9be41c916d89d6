use Rattle.std.proofs.Common.{◌≡◌, List, length}
use Rattle.pm_world.specs.declared.event.Event.{Event}
use Rattle.pm_text.specs.ScenarioText.{events_in}
use Rattle.pm_text.proofs.Scenarios.{after}
use Rattle.pm_text.proofs.runs.judge_lines.Given as goal

-- the lines so far are event lines
abbrev pub invariant-lines : goal.invariant-lines
invariant-lines l = (given : List Event) × (events_in l.form l.fn.rows.lines ≡ after given (events_in l.form l.rows.lines))

abbrev pub decreases-lines : goal.decreases-lines
decreases-lines l = length l.rows.lines
