use Rattle.std.proofs.Common.{refl}
use Rattle.pm_tool.specs.Outcome.{hear_engine}
use Rattle.pm_tool.proofs.Texts.{engine_refused, engine_wrote}
use Rattle.pm_tool.proofs.text_commands.run_hear.Goals as goal

pub returns-in-Ok : goal.returns-in-Ok
returns-in-Ok g c =
    engine_wrote hear_engine (λ _. 0) g.R.Read.remaining c.args.reader.now c.hear.new.reader g.W.Write.contents
    c.args.writer.now c.hear.new.writer tt 0 refl c.in-Ok.ensures.ends

pub returns-in-Err : goal.returns-in-Err
returns-in-Err g c =
    engine_refused hear_engine (λ _. 0) g.R.Read.remaining c.args.reader.now c.hear.new.reader g.W.Write.contents
    c.args.writer.now c.hear.new.writer c.in-Err.fault c.in-Err.ensures.ends
