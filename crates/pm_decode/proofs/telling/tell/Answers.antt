use Rattle.pm_lines.specs.Engine.{over}
use Rattle.pm_decode.proofs.Captures.{as_engine}
use Rattle.pm_decode.proofs.telling.tell.Goals as goal

pub returns-clause-short : goal.returns-clause-short
returns-clause-short g c = λ short. as_engine c.args.options.now (over g.R.Read.remaining c.args.reader.now c.tell_all.new.reader
    g.W.Write.contents c.args.writer.now c.tell_all.new.writer) short c.tell_all.result c.tell_all.ensures.ends
