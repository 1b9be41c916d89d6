use Rattle.std.proofs.Common.{◌∙◌, [], ◌∷◌, ◌++◌, length, ap, arith}
use Rattle.pm_tool.specs.LineEvent.{event_of_line}
use Rattle.pm_tool.specs.Script.{events_of_lines}
use Rattle.pm_tool.proofs.Texts.{events-more, held-more, lines-more, prepended, unskipped-some}
use Rattle.pm_tool.proofs.script.answer_lines.Goals as goal

pub returns-in_err-event-clause-memory : goal.returns-in_err-event-clause-memory
returns-in_err-event-clause-memory c = λ _.
    let (done, are, text, held, within) = c.lines.invariant in
    unskipped-some c.args.input.now (omega (arith, ap length c.in-Some.ensures.unskipped))

pub returns-in_err-push_event-clause-memory : goal.returns-in_err-push_event-clause-memory
returns-in_err-push_event-clause-memory c = λ _.
    let (done, are, text, held, within) = c.lines.invariant in
    unskipped-some c.args.input.now (omega (arith, ap length c.in-Some.ensures.unskipped))

pub lines-preserved : goal.lines-preserved
lines-preserved c =
    let (done, are, text, held, within) = c.lines.invariant in
    let event = event_of_line c.in_ok-event.event c.read_event.new.frame.items in
    let same = ap (event_of_line c.in_ok-event.event) c.deref.ensures.value in (
      done ++ event ∷ [],
      are ∙ ap (λ ls. prepended done (events_of_lines ls)) c.in-Some.ensures.unskipped
          ∙ events-more done _ _ event c.in_ok-event.ensures.event,
      lines-more _ c.lines.converter done event text held same c.in_ok-push_event.ensures.text,
      held-more _ done event held same c.in_ok-push_event.ensures.after,
      omega (arith, ap length c.in-Some.ensures.unskipped),
    )
