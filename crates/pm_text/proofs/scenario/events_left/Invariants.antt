use Rattle.std.proofs.Common.{◌≡◌, ◌⊎◌, length}
use Rattle.pm_text.specs.ScenarioText.{HasFirst, events_in}
use Rattle.pm_text.proofs.Scenarios.{after}
use Rattle.pm_text.proofs.scenario.events_left.Given as goal

-- the events that were read stand before those of the lines that are left, and no line was passed
-- but after a first event line
abbrev pub invariant-lines : goal.invariant-lines
invariant-lines l = record {
  events : events_in l.form l.fn.rows.lines ≡ after l.events.items (events_in l.form l.rows.lines);
  first : (l.rows.lines ≡ l.fn.rows.lines) ⊎ HasFirst l.form l.fn.rows.lines;
}

abbrev pub decreases-lines : goal.decreases-lines
decreases-lines l = length l.rows.lines
