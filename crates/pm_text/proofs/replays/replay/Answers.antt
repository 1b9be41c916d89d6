use Rattle.std.proofs.Common.{◌∙◌, Ok, ap, sym}
use Rattle.std.proofs.lemmas.Result.{err_from_is_err_and}
use Rattle.pm_lines.specs.Engine.{over}
use Rattle.pm_lines.specs.Lemmas.Engines.{as_handed, cut_short}
use Rattle.pm_text.specs.Replay.{replaying}
use Rattle.pm_text.proofs.replays.replay.Goals as goal

pub returns-in_err-put : goal.returns-in_err-put
returns-in_err-put g c =
    let p = err_from_is_err_and c.from_residual-in_err-put.result c.from_residual-in_err-put.ensures.1 in
    let shown = c.as_bytes.ensures.value ∙ c.as_str.ensures.value in
    rw (p.1, p.2, c.in_err-put.ensures.fault) (cut_short replaying (over g.R.Read.remaining c.args.reader.now
    c.read_text.new.source g.W.Write.contents c.args.writer.now c.put.new.self) c.as_bytes.result.now c.in_ok-text.end (
      c.deref.result.now,
      as_handed _ _ _ _ c.deref.ensures.value c.in_ok-input.ensures.reads,
      c.in_ok-text.ensures.replayed
          ∙ ap (λ t. Ok (t, c.in_ok-text.end)) (sym shown),
    ) c.in_ok-input.ensures.failed c.in_err-put.ensures.failed
    c.in_err-put.ensures.front)
