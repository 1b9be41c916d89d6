use Rattle.std.proofs.Common.{ap, Err}
use Rattle.pm_tool.specs.NumberFaults.{number_refusal_words}
use Rattle.pm_tool.proofs.Texts.{numbered, number_refused, said_as}
use Rattle.pm_tool.proofs.execution.run_number.Goals as goal

pub returns-in-Ok : goal.returns-in-Ok
returns-in-Ok g c =
    let (text, is, written) = c.in-Ok.ensures.ok in
    numbered (record {
      out = g.W.Write.contents;
      err = g.E.Write.contents;
      output = c.args.output.now;
      output' = c.done.new.output;
      errors = c.args.errors.now;
      errors' = c.done.new.errors;
    }) _ _ text is
    (record { mid = c.number.new.writer; written = written; kept = c.done.ensures.kept; done = c.done.ensures.done })

pub returns-in-Err : goal.returns-in-Err
returns-in-Err g c =
    let e = c.in-Err.ensures in
    rw c.status.ensures (number_refused (record {
      out = g.W.Write.contents;
      err = g.E.Write.contents;
      output = c.args.output.now;
      output' = c.number.new.writer;
      errors = c.args.errors.now;
      errors' = c.say.new.errors;
    }) _ c.in-Err.fault (record {
      line = λ f of is. (e.command_line f of).0 (ap Err is);
      num = λ f is. (e.numbers f).0 (ap Err is);
      write = λ is. e.write.0 (ap Err is);
      short = λ is. e.cut_short (ap Err is);
      memory = λ is. e.memory (ap Err is);
      of = e.faults;
      unwritten = e.unwritten;
      said = said_as g.E.Write.contents c.args.errors.now c.say.new.errors _
          (number_refusal_words c.in-Err.fault) c.words.ensures c.say.ensures;
    }))
