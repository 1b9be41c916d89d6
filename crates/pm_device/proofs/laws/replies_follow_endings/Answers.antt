use Rattle.pm_device.proofs.Replies.{stop-not_answer, restart-not_taken}
use Rattle.pm_device.proofs.laws.replies_follow_endings.Goals as goal

pub returns : goal.returns
returns c = record { stop = stop-not_answer; restart = restart-not_taken }
