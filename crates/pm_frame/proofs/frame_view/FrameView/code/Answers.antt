use Rattle.std.proofs.Common.{sym, arith}
use Rattle.pm_frame.proofs.Layouts.{message_code-other}
use Rattle.pm_frame.proofs.frame_view.FrameView.code.Goals as goal

pub returns-in_default : goal.returns-in_default
returns-in_default c = rw (← c.self.view_is) (sym (message_code-other c.self.inside.bytes.now (λ e. omega arith) (λ e. omega arith)))
