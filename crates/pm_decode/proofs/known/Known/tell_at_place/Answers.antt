use Rattle.std.proofs.Common.{◌∙◌}
use Rattle.pm_trace.specs.ShownLines.{judged_in}
use Rattle.pm_decode.specs.PageSteps.{is_lost, page_step_by}
use Rattle.pm_decode.specs.ShownReadings.{packet_in}
use Rattle.pm_decode.proofs.Captures.{page_learned, page_told}
use Rattle.pm_decode.proofs.known.Known.tell_at_place.Goals as goal

pub returns-clause-known : goal.returns-clause-known
returns-clause-known c =
    let options = c.args.options.now in
    let line = c.args.line.now in
    let parts = packet_in line.packet in
    let step_is = c.page_step-step.ensures
    ∙ (λ i. page_step_by options.gap line.time (c.self.view_is i).pages c.is_lost-lost.result line.ones parts (judged_in line.shown.now) line.other) in
    let lost_is = c.is_lost-lost.ensures ∙ (λ i. is_lost (c.self.view_is i).answers line.ones parts) in
    page_learned options line.number line.time parts c.args.self.now c.is_lost-lost.result line.ones c.args.lacks (judged_in line.shown.now) line.other
    c.page_step-step.result c.of-marks.result c.learn.result _ _ c.requires.pages lost_is c.requires.ones c.requires.shown c.requires.other
    c.requires.lacks step_is c.of-marks.ensures (c.self-2.view_is ∙ c.in_ok-tell_packet.ensures.known) c.learn.ensures

pub returns-clause-text : goal.returns-clause-text
returns-clause-text c =
    let options = c.args.options.now in
    let line = c.args.line.now in
    let parts = packet_in line.packet in
    let step_is = c.page_step-step.ensures
    ∙ (λ i. page_step_by options.gap line.time (c.self.view_is i).pages c.is_lost-lost.result line.ones parts (judged_in line.shown.now) line.other) in
    let lost_is = c.is_lost-lost.ensures ∙ (λ i. is_lost (c.self.view_is i).answers line.ones parts) in
    page_told options line.number line.time parts c.args.self.now c.is_lost-lost.result line.ones c.args.lacks (judged_in line.shown.now) line.other
    c.page_step-step.result c.of-marks.result c.learn.result _ _ c.requires.pages lost_is c.requires.ones c.requires.shown c.requires.other
    c.requires.lacks step_is c.of-marks.ensures c.in_ok-tell_packet.ensures.text
