use Rattle.std.proofs.Common.{◌≡◌, get_or, sym, arith}
use Rattle.pm_table.specs.Codes as command
use Rattle.pm_frame.proofs.Layouts.{message_payload-carried, message_payload-plain}
use Rattle.pm_frame.proofs.frame_view.FrameView.payload.Goals as goal

pub returns-in-PAGE_PLUS_WRITE : goal.returns-in-PAGE_PLUS_WRITE
returns-in-PAGE_PLUS_WRITE c =
    let bytes = c.self.inside.bytes.now in
    let is : get_or bytes 1 0 ≡ command.page_plus_write = omega arith in
    rw (← c.self.view_is) (sym (message_payload-carried bytes is (c.self.invariant.carries_word is) (c.self.invariant.are_bytes 5)))

pub returns-in_default-2 : goal.returns-in_default-2
returns-in_default-2 c =
    let bytes = c.self.inside.bytes.now in
    let short = c.self.invariant.plain (λ e. omega arith) in
    rw (← c.self.view_is) (sym (message_payload-plain bytes (λ e. omega arith) (λ e. omega arith) (λ e. omega arith)
    c.if-length-eq2.false short (c.self.invariant.are_bytes 2)))
