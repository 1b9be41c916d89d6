use Rattle.std.proofs.Common.{length}
use Rattle.pm_trace.specs.OpenLines.{Passes}
use Rattle.pm_trace.proofs.decoder.open_line.OpenLine.take_line.Given as goal

-- the line took what is no more in the rest
abbrev pub invariant-bytes : goal.invariant-bytes
invariant-bytes l = Passes l.fn.self l.bytes l.rest l.self

abbrev pub decreases-bytes : goal.decreases-bytes
decreases-bytes l = length l.rest
