use Rattle.std.proofs.Common.{◌≡◌, ◌∙◌, sym, ap, take, get_or}
use Rattle.std.proofs.lemmas.List.{take_more, take_all}
use Rattle.pm_trace.specs.OpenLines.{plain_line, open_read, plain_takes}
use Rattle.pm_trace.specs.Lemmas.PlainLines.{plain_line-snoc}
use Rattle.pm_trace.specs.Lemmas.Said.{open_reads}
use Rattle.pm_trace.proofs.decoder.open_line.OpenLine.of.Goals as goal

pub loop-byte-preserved : goal.loop-byte-preserved
loop-byte-preserved c =
    c.take_plain.ensures ∙ ap (λ body. plain_takes body (get_or c.args.line.now c.loop-byte.byte-index 0)) c.loop-byte.invariant
    ∙ sym (plain_line-snoc (take c.loop-byte.byte-index c.args.line.now) (get_or c.args.line.now c.loop-byte.byte-index 0))
    ∙ ap plain_line (sym (take_more c.args.line.now c.loop-byte.byte-index 0 c.loop-byte-test.true))

pub returns : goal.returns
returns c =
    let whole : take c.loop-byte.byte-index c.args.line.now
    ≡ c.args.line.now = take_all c.loop-byte.byte-index c.args.line.now c.loop-byte-test.false in
    ap open_read (c.loop-byte.invariant ∙ ap plain_line whole) ∙ open_reads c.args.line.now
