use Rattle.std.proofs.Common.{◌∙◌, ◌++◌, ap, sym, Ok}
use Rattle.std.proofs.lemmas.Result.{err_from_is_err_and}
use Rattle.pm_lines.specs.Engine.{over}
use Rattle.pm_lines.specs.Lemmas.Engines.{as_handed, cut_short}
use Rattle.pm_tool.specs.Outcome.{hear_engine, text_alone}
use Rattle.pm_tool.specs.Script.{output_word_lines}
use Rattle.pm_tool.proofs.script.hear.Goals as goal

pub returns-in_err-put_text-clause-ends : goal.returns-in_err-put_text-clause-ends
returns-in_err-put_text-clause-ends g c =
    let p = err_from_is_err_and c.from_residual-in_err-put_text.result c.from_residual-in_err-put_text.ensures.1 in
    rw (p.1, p.2, c.in_err-put_text.ensures.fault) (cut_short hear_engine (over g.R.Read.remaining c.args.reader.now
    c.read_text.new.source g.W.Write.contents c.args.writer.now c.put_text.new.writer) _ tt (
      c.deref.result.now,
      as_handed _ _ _ _ c.deref.ensures.value c.in_ok-input.ensures.reads,
      ap text_alone (c.in_ok-lines.ensures.text
          ∙ ap (λ l. Ok (l ++ output_word_lines c.in_ok-lines.converter)) (sym c.deref-2.ensures.value)),
    )
    c.in_ok-input.ensures.failed c.in_err-put_text.ensures.failed c.in_err-put_text.ensures.front)
