use Rattle.std.proofs.Common.{codes, refl, inl, inr}
use Rattle.pm_tool.proofs.Texts.{cut, ended, said_as}
use Rattle.pm_tool.specs.Execution.{Printed, CutShort}
use Rattle.pm_tool.proofs.execution.print_whole.Goals as goal

pub returns-in-Ok : goal.returns-in-Ok
returns-in-Ok g c =
    elim (ended (record {
      out = g.W.Write.contents;
      err = g.E.Write.contents;
      output = c.args.output.now;
      output' = c.done.new.output;
      errors = c.args.errors.now;
      errors' = c.done.new.errors;
    }) 0 _ c.args.text.now
    (record { mid = c.put.new.self; written = c.in-Ok.ensures.all; kept = c.done.ensures.kept; done = c.done.ensures.done })) [
      | inl e ↦ (Printed 0 c.args.text.now, inl refl, e)
      | inr e ↦ (CutShort c.args.text.now, inr refl, e)
    ]

pub returns-in-Err : goal.returns-in-Err
returns-in-Err g c =
    let said = said_as g.E.Write.contents c.args.errors.now c.say.new.errors _ (codes "X5 Write") c.words.ensures c.say.ensures in (
      CutShort c.args.text.now,
      inr refl,
      cut (record {
        out = g.W.Write.contents;
        err = g.E.Write.contents;
        output = c.args.output.now;
        output' = c.put.new.self;
        errors = c.args.errors.now;
        errors' = c.say.new.errors;
      }) c.args.text.now c.in-Err.ensures.failed c.in-Err.ensures.front said,
    )
