use Rattle.std.proofs.Common.{◌≡◌, ◌≤◌, List, length}
use Rattle.pm_device.specs.Effect.{Event}
use Rattle.pm_lines.specs.Lines.{unskipped_from}
use Rattle.pm_tool.specs.Script.{event_lines, events_of_lines, converter_after}
use Rattle.pm_tool.proofs.Texts.{prepended}
use Rattle.pm_tool.proofs.script.answer_lines.Given as goal

-- the events of the lines so far were heard, and their lines are the text
abbrev pub invariant-lines : goal.invariant-lines
invariant-lines l =
    (done : List Event) × (events_of_lines (unskipped_from 1 l.input) ≡ prepended done (events_of_lines l.lines.unskipped))
    × (l.text.items ≡ event_lines l.fn.converter done) × (l.converter ≡ converter_after l.fn.converter done)
    × (length l.lines.unskipped ≤ length (unskipped_from 1 l.input))

abbrev pub decreases-lines : goal.decreases-lines
decreases-lines l = length l.lines.unskipped
