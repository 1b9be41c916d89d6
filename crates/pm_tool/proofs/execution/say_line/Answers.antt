use Rattle.std.proofs.Common.{◌∙◌, subst}
use Rattle.pm_tool.specs.Refusals.{Says}
use Rattle.pm_tool.proofs.Texts.{line_of_pieces}
use Rattle.pm_tool.proofs.execution.say_line.Goals as goal

pub returns : goal.returns
returns g c =
    subst (λ line. Says g.E.Write.contents c.args.errors.now c.say_pieces.new.errors line)
    (line_of_pieces _ c.args.line _ _ c.as_bytes.ensures.value (c.as_bytes-2.ensures.value ∙ c.format.ensures.text)) c.say_pieces.ensures
