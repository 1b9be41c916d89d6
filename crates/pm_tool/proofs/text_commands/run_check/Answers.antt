use Rattle.pm_tool.proofs.Texts.{log_refused, log_wrote}
use Rattle.pm_tool.proofs.text_commands.run_check.Goals as goal

pub returns-in-Ok : goal.returns-in-Ok
returns-in-Ok g c =
    log_wrote c.args.lacks.now.parts g.R.Read.remaining c.args.reader.now c.check_log.new.reader g.W.Write.contents c.args.writer.now c.check_log.new.writer c.in-Ok.end _
    c.status_of_log.ensures c.in-Ok.ensures

pub returns-in-Err : goal.returns-in-Err
returns-in-Err g c =
    log_refused c.args.lacks.now.parts g.R.Read.remaining c.args.reader.now c.check_log.new.reader g.W.Write.contents c.args.writer.now c.check_log.new.writer
    c.in-Err.fault c.in-Err.ensures
