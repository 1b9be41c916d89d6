use Rattle.std.proofs.Common.{subst, sym}
use Rattle.pm_tool.specs.Refusals.{Says}
use Rattle.pm_tool.specs.Execution.{refusal_line, unwritten_words}
use Rattle.pm_tool.proofs.execution.refuse_text.Goals as goal

pub returns-in-TooLong-clause-said : goal.returns-in-TooLong-clause-said
returns-in-TooLong-clause-said g c =
    subst (λ refusal. Says g.E.Write.contents c.args.errors.now c.say_too_long.new.errors (refusal_line (unwritten_words refusal)))
    (sym c.in-TooLong.is) c.say_too_long.ensures
