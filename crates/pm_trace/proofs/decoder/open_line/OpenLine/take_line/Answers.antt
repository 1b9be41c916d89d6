use Rattle.pm_trace.proofs.Pieces.{passes_one, passes_more}
use Rattle.pm_trace.proofs.decoder.open_line.OpenLine.take_line.Goals as goal

pub returns-then-first-eq10-clause-passes : goal.returns-then-first-eq10-clause-passes
returns-then-first-eq10-clause-passes c = passes_more _ _ _ _ _ _ c.bytes.invariant c.take_pairs-rest.ensures

pub bytes-preserved : goal.bytes-preserved
bytes-preserved c =
    passes_one c.take_pairs-rest.result.now _ (passes_more _ _ _ _ _ _ c.bytes.invariant c.take_pairs-rest.ensures)
    c.in-len1-up.len_at_least c.if-first-eq10.false c.take.ensures
