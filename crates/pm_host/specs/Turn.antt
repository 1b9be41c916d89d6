-- What a host shows of the frame that it sends.
use Rattle.std.specs.Prelude.{◌≡◌, ◌≤◌, true, IsSomeAnd, None}
use Rattle.pm_frame.specs.Fault.{whole_answer}
use Rattle.pm_frame.specs.Layout.{IsWrite, IsRequest}
use Rattle.pm_host.specs.declared.host.Turn.{Turn}
use Rattle.pm_host.specs.declared.host.Turn.TheVariants.{Idle, Write, Request}
use Rattle.pm_host.specs.Frames.{frames_left}
use Rattle.pm_host.specs.Refusals.{sends_write, sends_read}
use Rattle.pm_host.specs.Summary.{Summary, sending_in}

-- it shows what is to be sent: nothing where no job is open; a write's frame; or a request's, and
-- how many bytes its whole answer has, at most 8
abbrev pub Shows : Summary → Turn → Type 0
Shows s Idle = (sending_in s ≡ None) × (frames_left s ≡ 0)
Shows s (Write frame) = (sends_write s ≡ true)
    × IsSomeAnd (sending_in s) (λ message. IsWrite s.setup.addr message frame.now.items)
Shows s (Request frame bytes) = (sends_read s ≡ true)
    × IsSomeAnd (sending_in s) (λ message. IsRequest s.setup.addr message frame.now.items)
    × IsSomeAnd (sending_in s) (λ message. bytes ≡ whole_answer message)
    × (bytes ≤ 8)
