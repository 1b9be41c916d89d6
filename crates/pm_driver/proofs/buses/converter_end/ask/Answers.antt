use Rattle.std.proofs.Common.{drop, length, sym, ◌∙◌, ap, subst}
use Rattle.pm_world.specs.Legal.{answer_in}
use Rattle.pm_driver.specs.Disturbed.{IsAskedPart}
use Rattle.pm_driver.proofs.Lives.{Hears, came-back, lost-back, put-in}
use Rattle.pm_driver.proofs.buses.converter_end.ask.Goals as goal

pub returns-then-count-answer-clause-asked : goal.returns-then-count-answer-clause-asked
returns-then-count-answer-clause-asked c =
    let hears : Hears c.args.request.now c.heard_bytes-bytes.result.now c.answer_in-given.result.now c.heard_ending-ending.result
    c.args.arrival.now c.args.device.now c.hear-reply.new.self = record {
      bytes_are = c.heard_bytes-bytes.ensures;
      ending_is = c.heard_ending-ending.ensures;
      legal = sym c.is_legal_hearing.ensures ∙ c.if-not-is_legal_hearing.false;
      given_is = c.answer_in-given.ensures.value ∙ ap answer_in c.hear-reply.ensures.reply;
      after = c.hear-reply.ensures.after;
    } in
    lost-back c.args.request.now c.heard_bytes-bytes.result.now c.answer_in-given.result.now c.heard_ending-ending.result
    c.args.arrival.now
    (length c.args.answer.now) c.args.device.now c.hear-reply.new.self c.requires hears

pub returns-clause-asked : goal.returns-clause-asked
returns-clause-asked c =
    let hears : Hears c.args.request.now c.heard_bytes-bytes.result.now c.answer_in-given.result.now c.heard_ending-ending.result
    c.args.arrival.now c.args.device.now c.hear-reply.new.self = record {
      bytes_are = c.heard_bytes-bytes.ensures;
      ending_is = c.heard_ending-ending.ensures;
      legal = sym c.is_legal_hearing.ensures ∙ c.if-not-is_legal_hearing.false;
      given_is = c.answer_in-given.ensures.value ∙ ap answer_in c.hear-reply.ensures.reply;
      after = c.hear-reply.ensures.after;
    } in
    let back = came-back c.args.request.now c.heard_bytes-bytes.result.now c.answer_in-given.result.now c.back_bytes-came.result.now
    c.heard_ending-ending.result c.args.arrival.now c.args.back.now c.is_heard_whole-whole.result
    (length c.args.answer.now) c.args.device.now
    c.hear-reply.new.self hears c.back_bytes-came.ensures c.is_heard_whole-whole.ensures
    (sym c.is_legal_return.ensures ∙ c.if-not-is_legal_return.false) in
    subst (λ bytes. IsAskedPart c.args.request.now (length c.args.answer.now) c.args.device.now bytes c.hear-reply.new.self)
    (sym (put-in c.back_bytes-came.result.now c.copy_from_slice.new.self (drop (length c.back_bytes-came.result.now) c.args.answer.now)
    c.copy_from_slice.ensures.after)) back
