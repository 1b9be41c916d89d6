use Rattle.std.proofs.Common.{◌++◌, ◌∷◌, []}
use Rattle.pm_text.proofs.Scenarios.{judged-more}
use Rattle.pm_text.proofs.runs.judge_lines.Goals as goal

pub lines-preserved : goal.lines-preserved
lines-preserved c = (
  c.lines.invariant.0 ++ c.event_line.new.event ∷ [],
  judged-more c.args.form c.args.rows.now.lines c.lines.rows.lines c.lines.invariant.0 c.lines.invariant.1 _ _
      c.in-Some.ensures.lines _ c.in_ok-event_line.ensures,
)
