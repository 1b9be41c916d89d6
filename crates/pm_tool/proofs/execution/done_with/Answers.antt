use Rattle.std.proofs.Common.{codes, refl, inr}
use Rattle.pm_tool.proofs.Texts.{said_as}
use Rattle.pm_tool.proofs.execution.done_with.Goals as goal

pub returns-in-Err-clause-done : goal.returns-in-Err-clause-done
returns-in-Err-clause-done g c =
    inr (
      c.in-Err.ensures.failed,
      refl,
      said_as g.E.Write.contents c.args.errors.now c.say.new.errors _
          (codes "X5 Write") c.words.ensures c.say.ensures,
    )
