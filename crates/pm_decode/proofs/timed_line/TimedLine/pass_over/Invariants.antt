use Rattle.std.proofs.Common.{length}
use Rattle.pm_decode.specs.TimedLines.{PassesTimed}
use Rattle.pm_decode.proofs.timed_line.TimedLine.pass_over.Given as goal

-- the line stays as it is with what is no more in the rest
abbrev pub invariant-bytes : goal.invariant-bytes
invariant-bytes l = PassesTimed l.fn.self l.bytes l.rest l.fn.self

abbrev pub decreases-bytes : goal.decreases-bytes
decreases-bytes l = length l.rest
