use Rattle.pm_decode.specs.Lemmas.TimedLines.{passes_told}
use Rattle.pm_decode.proofs.timed_line.TimedLine.pass_over.Goals as goal

pub bytes-preserved : goal.bytes-preserved
bytes-preserved c =
    passes_told c.args.self.now c.args.bytes.now c.bytes.rest.now c.requires c.bytes.invariant
    c.in-len1-up.len_at_least c.if-first-eq10.false
