use Rattle.std.proofs.Common.{◌∙◌, refl}
use Rattle.pm_trace.specs.ShownLines.{judged_in}
use Rattle.pm_decode.specs.PageSteps.{is_lost}
use Rattle.pm_decode.specs.ShownReadings.{packet_in}
use Rattle.pm_decode.proofs.Captures.{beside_is, beside_learned, beside_step, page_learned, page_told}
use Rattle.pm_decode.proofs.known.Known.tell_beside.Goals as goal

pub returns-clause-known : goal.returns-clause-known
returns-clause-known c =
    let options = c.args.options.now in
    let line = c.args.line.now in
    let parts = packet_in line.packet in
    let judged = judged_in line.shown.now in
    let lost = is_lost c.args.self.now.answers line.ones parts in
    let step_is = beside_is options.gap line.time c.args.self.now.pages lost line.ones parts judged line.other c.requires.time (c.requires.used lost) in
    page_learned options line.number line.time parts c.args.self.now lost line.ones c.args.lacks judged line.other
    (beside_step judged) c.without_page-marks.result c.learn.result _ _ c.requires.pages refl c.requires.ones c.requires.shown c.requires.other
    c.requires.lacks step_is c.without_page-marks.ensures (c.self.view_is ∙ c.in_ok-tell_packet.ensures.known)
    (beside_learned c.learn.result line.number judged _ _ c.learn.ensures)

pub returns-clause-text : goal.returns-clause-text
returns-clause-text c =
    let options = c.args.options.now in
    let line = c.args.line.now in
    let parts = packet_in line.packet in
    let judged = judged_in line.shown.now in
    let lost = is_lost c.args.self.now.answers line.ones parts in
    let step_is = beside_is options.gap line.time c.args.self.now.pages lost line.ones parts judged line.other c.requires.time (c.requires.used lost) in
    page_told options line.number line.time parts c.args.self.now lost line.ones c.args.lacks judged line.other
    (beside_step judged) c.without_page-marks.result c.learn.result _ _ c.requires.pages refl c.requires.ones c.requires.shown c.requires.other
    c.requires.lacks step_is c.without_page-marks.ensures c.in_ok-tell_packet.ensures.text
