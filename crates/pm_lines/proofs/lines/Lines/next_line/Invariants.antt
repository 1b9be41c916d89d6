use Rattle.std.proofs.Common.{◌≡◌, ◌+◌, ◌^◌, ◌<◌, length}
use Rattle.pm_lines.specs.Lines.{lines_of, unskipped_from}
use Rattle.pm_lines.proofs.lines.Lines.next_line.Given as goal

-- no line that is not skipped was passed, and each that was passed is counted
abbrev pub invariant-lines : goal.invariant-lines
invariant-lines l = record {
  unskipped : l.fn.self.unskipped ≡ unskipped_from (l.self-inside.number + 1) l.self-inside.rest.now;
  counted : l.fn.self.count ≡ l.self-inside.number + length (lines_of l.self-inside.rest.now);
  bound : l.self-inside.number + length l.self-inside.rest.now + 1 < 2 ^ 64;
}

abbrev pub decreases-lines : goal.decreases-lines
decreases-lines l = length l.self-inside.rest.now
