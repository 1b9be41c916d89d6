use Rattle.pm_decode.specs.Lemmas.TimedLines.{passes_one, passes_more}
use Rattle.pm_decode.proofs.timed_line.TimedLine.take_line.Goals as goal

pub returns-then-first-eq10-clause-passes : goal.returns-then-first-eq10-clause-passes
returns-then-first-eq10-clause-passes c =
    passes_more _ _ _ _ _ _ (passes_more _ _ _ _ _ _ c.bytes.invariant c.take_comment.ensures) c.take_packet-rest.ensures

pub bytes-preserved : goal.bytes-preserved
bytes-preserved c =
    passes_one c.take_packet-rest.result.now _
    (passes_more _ _ _ _ _ _ (passes_more _ _ _ _ _ _ c.bytes.invariant c.take_comment.ensures) c.take_packet-rest.ensures)
    c.in-len1-up.len_at_least c.if-first-eq10.false c.take.ensures
