use Rattle.std.proofs.Common.{List, length}
use Rattle.pm_world.specs.declared.event.Event.{Event}
use Rattle.pm_text.proofs.Scenarios.{SoFar}
use Rattle.pm_text.proofs.runs.run_lines.Given as goal

-- the events of the lines so far were taken, one after another, and left this world
abbrev pub invariant-lines : goal.invariant-lines
invariant-lines l = (before : List Event) × SoFar l.form l.fn.rows.lines l.rows.lines l.fn.world l.world l.taken before

abbrev pub decreases-lines : goal.decreases-lines
decreases-lines l = length l.rows.lines
