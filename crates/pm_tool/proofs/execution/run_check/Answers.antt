use Rattle.std.proofs.Common.{refl}
use Rattle.pm_tool.specs.Execution.{Refused, bad_lacks}
use Rattle.pm_tool.proofs.Texts.{said_as}
use Rattle.pm_tool.proofs.execution.run_check.Goals as goal

pub returns-in-None : goal.returns-in-None
returns-in-None g c = (
  Refused 2 bad_lacks,
  rw c.in-None.is (refl, refl),
  record {
    status_is = refl;
    printed = refl;
    said = said_as g.E.Write.contents c.args.errors.now c.say.new.errors _ bad_lacks refl c.say.ensures;
  },
)
