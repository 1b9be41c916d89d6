use Rattle.std.proofs.Common.{inr, refl}
use Rattle.clap.specs.Walk.{texts}
use Rattle.clap.specs.Words.{fault_of}
use Rattle.pm_tool.specs.Refusals.{bad_arguments_words, no_words_status}
use Rattle.pm_tool.specs.Commandline.{pmb}
use Rattle.pm_tool.specs.Execution.{Refused}
use Rattle.pm_tool.proofs.Texts.{usage_ends}
use Rattle.pm_tool.proofs.execution.run.Goals as goal

pub returns-in-Err : goal.returns-in-Err
returns-in-Err g c =
    let e = c.refuse_arguments.ensures in (
      Refused (no_words_status c.in-Err.kind) (bad_arguments_words c.in-Err.kind),
      rw c.in-Err.is (refl, refl),
      record { status_is = e.status; printed = refl; said = e.said },
    )

pub returns-in-Err-chosen : goal.returns-in-Err-chosen
returns-in-Err-chosen g c =
    let words = texts c.in-Ok.words.now in
    let (end, usage, is) = c.show_usage.ensures in
    rw c.in-Ok.is (end, inr (usage_ends c.args.input.now (fault_of pmb words) _ end c.in-Err-chosen.ensures.kinds usage), is)
