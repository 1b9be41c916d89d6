use Rattle.pm_text.specs.Replay.{replaying}
use Rattle.pm_tool.specs.Execution.{replay_status}
use Rattle.pm_tool.proofs.Texts.{engine_refused, engine_wrote}
use Rattle.pm_tool.proofs.text_commands.run_replay.Goals as goal

pub returns-in-Ok : goal.returns-in-Ok
returns-in-Ok g c =
    engine_wrote replaying replay_status g.R.Read.remaining c.args.reader.now c.replay.new.reader g.W.Write.contents
    c.args.writer.now c.replay.new.writer c.in-Ok.end _ c.status_of_replay.ensures c.in-Ok.ensures

pub returns-in-Err : goal.returns-in-Err
returns-in-Err g c =
    engine_refused replaying replay_status g.R.Read.remaining c.args.reader.now c.replay.new.reader g.W.Write.contents
    c.args.writer.now c.replay.new.writer c.in-Err.fault c.in-Err.ensures
