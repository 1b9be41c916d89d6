use Rattle.pm_decode.proofs.comment.+take_bytes.Given as goal

abbrev pub decreases-take_bytes : goal.decreases-take_bytes
decreases-take_bytes l = l.left
