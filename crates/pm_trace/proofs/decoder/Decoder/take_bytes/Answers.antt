use Rattle.std.proofs.Common.{◌∙◌, ap, not, refl}
use Rattle.pm_trace.proofs.Pieces.{takes_inside}
use Rattle.pm_trace.proofs.decoder.Decoder.take_bytes.Goals as goal

pub returns : goal.returns
returns c =
    takes_inside {bytes = c.args.bytes.now} {rest = c.take_line-rest.result.now} {line = c.take_line-rest.new.self} c.self.inside _
    c.from.result c.self.view_is c.requires.unshown c.take_line-rest.ensures.passes c.take_line-rest.ensures.stops
    (ap not c.is_empty-ended.ensures) (λ is. c.from.ensures ∙ rw is refl) (λ is. c.from.ensures ∙ rw is refl)
