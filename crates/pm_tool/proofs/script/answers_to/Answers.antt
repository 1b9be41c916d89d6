use Rattle.std.proofs.Common.{inl, inr}
use Rattle.std.proofs.lemmas.Result.{err_from_is_err_and}
use Rattle.pm_tool.proofs.Texts.{answered-text, printed-fault}
use Rattle.pm_tool.proofs.script.answers_to.Goals as goal

pub returns-in_err-lines-clause-fault : goal.returns-in_err-lines-clause-fault
returns-in_err-lines-clause-fault c =
    let p = err_from_is_err_and c.from_residual.result c.from_residual.ensures.1 in
    rw (p.1, p.2) (elim c.in_err-lines.ensures.fault [
      | inl memory ↦ inl memory
      | inr wrong ↦ inr (printed-fault c.args.input.now _ wrong)
    ])

pub returns-clause-text : goal.returns-clause-text
returns-clause-text c =
    let (events, are, lines, after) = c.in_ok-lines.ensures.lines in
    answered-text c.args.input.now events are c.base_converter-converter.ensures lines after
