use Rattle.std.proofs.Common.{length}
use Rattle.pm_trace.proofs.answers.+leading_ones.Given as goal

abbrev pub decreases-leading_ones : goal.decreases-leading_ones
decreases-leading_ones l = length l.bytes.now
