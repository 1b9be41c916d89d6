use Rattle.pm_tool.specs.Execution.{CommandRuns}
use Rattle.pm_tool.proofs.Texts.{command_refused, command_wrote}
use Rattle.pm_tool.proofs.execution.run_engine.Goals as goal

pub returns-in-Ok : goal.returns-in-Ok
returns-in-Ok g c =
    command_wrote (record {
      out = g.W.Write.contents;
      err = g.E.Write.contents;
      output = c.args.output.now;
      output' = c.done_with.new.output;
      errors = c.args.errors.now;
      errors' = c.done_with.new.errors;
    }) (CommandRuns c.args.command g.R.Read.remaining c.args.input.now c.run.new.reader) c.run.new.writer c.in-Ok.written _
    c.in-Ok.ensures c.done_with.ensures.kept c.done_with.ensures.done

pub returns-in-Err : goal.returns-in-Err
returns-in-Err g c =
    rw c.refuse_text.ensures.status (command_refused (record {
      out = g.W.Write.contents;
      err = g.E.Write.contents;
      output = c.args.output.now;
      output' = c.run.new.writer;
      errors = c.args.errors.now;
      errors' = c.refuse_text.new.errors;
    }) (CommandRuns c.args.command g.R.Read.remaining c.args.input.now c.run.new.reader) c.in-Err.refusal
    c.in-Err.ensures c.refuse_text.ensures.said)
