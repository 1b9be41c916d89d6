use Rattle.std.proofs.Common.{length}
use Rattle.pm_decode.proofs.comment.+behind_slash.Given as goal

abbrev pub decreases-behind_slash : goal.decreases-behind_slash
decreases-behind_slash l = length l.text.now
