use Rattle.std.proofs.Common.{length}
use Rattle.pm_trace.proofs.otherwise.+push_spaced.Given as goal

abbrev pub decreases-push_spaced : goal.decreases-push_spaced
decreases-push_spaced l = length l.bytes.now
