use Rattle.pm_trace.specs.Outcome.{decoding}
use Rattle.pm_tool.specs.Execution.{decode_status}
use Rattle.pm_tool.proofs.Texts.{engine_refused, engine_wrote}
use Rattle.pm_tool.proofs.text_commands.run_decode.Goals as goal

pub returns-in-Ok : goal.returns-in-Ok
returns-in-Ok g c =
    engine_wrote decoding decode_status g.R.Read.remaining c.args.reader.now c.decode.new.reader g.W.Write.contents
    c.args.writer.now c.decode.new.writer c.in-Ok.end _ c.status_of_trace.ensures c.in-Ok.ensures.ends

pub returns-in-Err : goal.returns-in-Err
returns-in-Err g c =
    engine_refused decoding decode_status g.R.Read.remaining c.args.reader.now c.decode.new.reader g.W.Write.contents
    c.args.writer.now c.decode.new.writer c.in-Err.fault c.in-Err.ensures.ends
