use Rattle.pm_world.proofs.Bytes.{came-in-bytes}
use Rattle.pm_world.proofs.laws.answers_come_in_bytes.Goals as goal

pub returns : goal.returns
returns c = λ config passes events spelled short lived carry.
    came-in-bytes c.lower_laws.ensures c.replies_follow_endings.ensures config passes events (record { spelled = spelled; short = short })
    lived carry
