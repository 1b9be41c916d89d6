use Rattle.std.proofs.Common.{rules, refl}
use Rattle.pm_decode.proofs.Shown.{usual_answered}
use Rattle.pm_decode.proofs.usual_line.usual_answer.Goals as goal

pub returns : goal.returns
returns c = usual_answered c.args.addr c.args.view.now c.page.result c.code-code.result c.in_ok-payload_of.field-0 c.page.ensures
    c.code-code.ensures (c.is_lesson.ensures.mode c.if-is_lesson.false) (c.is_lesson.ensures.coefficients c.if-is_lesson.false) _ c.args.answer.now
    (search rules) refl
