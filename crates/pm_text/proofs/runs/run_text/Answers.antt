use Rattle.std.proofs.Common.{◌∙◌, ap, sym}
use Rattle.std.proofs.lemmas.Result.{err_from_is_err_and}
use Rattle.pm_text.specs.ScenarioText.{header}
use Rattle.pm_text.proofs.Scenarios.{header-refused, lines-refused, run-lived, setup-refused}
use Rattle.pm_text.proofs.runs.run_text.Goals as goal

pub returns-in_err-head-clause-fault : goal.returns-in_err-head-clause-fault
returns-in_err-head-clause-fault c =
    let p = err_from_is_err_and c.from_residual.result c.from_residual.ensures.1 in
    rw (p.1, p.2) (header-refused c.args.text.now c.requires _ (ap header (sym c.new-rows.ensures) ∙ c.in_err-head.ensures))

pub returns-in_err-judge_lines-in-Err-clause-fault : goal.returns-in_err-judge_lines-in-Err-clause-fault
returns-in_err-judge_lines-in-Err-clause-fault c =
    let p = err_from_is_err_and c.from_residual-in_err-judge_lines-in-Err.result c.from_residual-in_err-judge_lines-in-Err.ensures.1 in
    rw (p.1, p.2) (lines-refused c.args.text.now c.requires c.in_ok-head.head c.read_header.new.rows
    (ap header (sym c.new-rows.ensures) ∙ c.in_ok-head.ensures) _ c.in_err-judge_lines-in-Err.ensures)

pub returns-in-Err-clause-fault : goal.returns-in-Err-clause-fault
returns-in-Err-clause-fault c =
    setup-refused c.args.text.now c.requires c.in_ok-head.head c.read_header.new.rows
    (ap header (sym c.new-rows.ensures) ∙ c.in_ok-head.ensures) _ c.in_ok-judge_lines-in-Err.ensures c.in-Err.ensures.fault

pub returns-in_err-taken-clause-fault : goal.returns-in_err-taken-clause-fault
returns-in_err-taken-clause-fault c =
    let p = err_from_is_err_and c.from_residual-in_err-taken.result c.from_residual-in_err-taken.ensures.1 in
    rw (p.1, p.2) (lines-refused c.args.text.now c.requires c.in_ok-head.head c.read_header.new.rows
    (ap header (sym c.new-rows.ensures) ∙ c.in_ok-head.ensures) _ c.in_err-taken.ensures)

pub returns-clause-ran : goal.returns-clause-ran
returns-clause-ran c =
    let made = c.in-Ok.ensures in
    rw c.version.ensures (run-lived c.args.text.now c.requires c.in_ok-head.head c.read_header.new.rows
    (ap header (sym c.new-rows.ensures) ∙ c.in_ok-head.ensures) c.lives_are_followed.ensures c.in_ok-taken.taken c.in_ok-taken.stop
    c.run_lines.new.world made.sound.0 made.sound.1 made.fault (rw (← made.made) c.in_ok-taken.ensures))
