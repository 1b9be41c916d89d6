use Rattle.std.proofs.Common.{sym}
use Rattle.pm_text.proofs.Scenarios.{read-some, replay-told}
use Rattle.pm_text.proofs.replays.report_on.Goals as goal

pub returns-in_err-text-clause-memory : goal.returns-in_err-text-clause-memory
returns-in_err-text-clause-memory c = λ is. read-some c.args.input.now _ c.in_ok-run.ensures.ran.1

pub returns-clause-replayed : goal.returns-clause-replayed
returns-clause-replayed c =
    let run = c.in_ok-run.ensures.ran in
    replay-told c.args.input.now _ _ _ _ (record {
      reads = run.1;
      made = sym run.2;
      runs = run.3;
      text_is = c.in_ok-text.ensures.text;
      end_is = c.end_of.ensures;
    })
