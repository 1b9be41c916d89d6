use Rattle.std.proofs.Common.{Err, refl}
use Rattle.pm_tool.specs.Execution.{Refused}
use Rattle.pm_tool.specs.Telling.{tell_fault_status, tell_fault_words}
use Rattle.pm_tool.proofs.Texts.{said_as}
use Rattle.pm_tool.proofs.execution.tell_given.Goals as goal

pub returns-in-Err : goal.returns-in-Err
returns-in-Err g c = (
  Refused (tell_fault_status c.in-Err.fault) (tell_fault_words c.in-Err.fault),
  (Err c.in-Err.fault, c.in-Err.ensures, (refl, refl)),
  record {
    status_is = c.status.ensures;
    printed = refl;
    said = said_as g.E.Write.contents c.args.errors.now c.say.new.errors _ (tell_fault_words c.in-Err.fault) c.words.ensures c.say.ensures;
  },
)
