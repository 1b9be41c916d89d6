use Rattle.pm_tool.proofs.Texts.{tell_refused, tell_wrote}
use Rattle.pm_tool.proofs.text_commands.run_tell.Goals as goal

pub returns-in-Ok : goal.returns-in-Ok
returns-in-Ok g c =
    tell_wrote c.args.options.now g.R.Read.remaining c.args.reader.now c.tell.new.reader g.W.Write.contents c.args.writer.now
    c.tell.new.writer c.in-Ok.told _ c.status_of_trace.ensures c.in-Ok.ensures.ends

pub returns-in-Err : goal.returns-in-Err
returns-in-Err g c =
    rw c.untold.ensures (tell_refused c.args.options.now g.R.Read.remaining c.args.reader.now c.tell.new.reader g.W.Write.contents c.args.writer.now
    c.tell.new.writer c.in-Err.fault c.in-Err.ensures.ends)
