use Rattle.std.proofs.Common.{length}
use Rattle.pm_decode.proofs.comment.+number_shown.Given as goal

abbrev pub decreases-number_shown : goal.decreases-number_shown
decreases-number_shown l = length l.text.now
