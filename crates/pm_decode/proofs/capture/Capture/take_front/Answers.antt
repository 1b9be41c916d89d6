use Rattle.std.proofs.Common.{◌∙◌, ap, sym}
use Rattle.pm_decode.specs.Captures.{kept_in_capture}
use Rattle.pm_decode.specs.Capturing.{capture_with_bytes, told_of_capture}
use Rattle.pm_decode.proofs.Captures.{next_none, told_none, next_ended, told_ended}
use Rattle.pm_decode.proofs.capture.Capture.take_front.Goals as goal

pub returns-in_default-clause-kept : goal.returns-in_default-clause-kept
returns-in_default-clause-kept c =
    ap (λ k. capture_with_bytes k c.args.bytes.now) (sym c.self.view_is)
    ∙ next_none (kept_in_capture c.self.inside) c.args.bytes.now c.take_line-rest.result.now c.take_line-rest.new.self
    c.take_line-rest.ensures.passes c.in_default.len_below

pub returns-in_default-clause-told : goal.returns-in_default-clause-told
returns-in_default-clause-told c =
    ap (λ k. told_of_capture k c.args.bytes.now) (sym c.self.view_is)
    ∙ told_none (kept_in_capture c.self.inside) c.args.bytes.now c.take_line-rest.result.now c.take_line-rest.new.self
    c.take_line-rest.ensures.passes c.in_default.len_below

pub returns-clause-kept : goal.returns-clause-kept
returns-clause-kept c =
    ap (λ k. capture_with_bytes k c.args.bytes.now) (sym c.self.view_is)
    ∙ next_ended (kept_in_capture c.self.inside) c.args.bytes.now c.take_line-rest.result.now c.take_line-rest.new.self
    c.take_line-rest.ensures.passes c.take_line-rest.ensures.stops c.in-len1-up.len_at_least

pub returns-clause-told : goal.returns-clause-told
returns-clause-told c =
    ap (λ k. told_of_capture k c.args.bytes.now) (sym c.self.view_is)
    ∙ told_ended (kept_in_capture c.self.inside) c.args.bytes.now c.take_line-rest.result.now c.take_line-rest.new.self
    c.take_line-rest.ensures.passes c.take_line-rest.ensures.stops c.in-len1-up.len_at_least
