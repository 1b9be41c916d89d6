use Rattle.std.proofs.Common.{◌∙◌, subst}
use Rattle.pm_tool.specs.Refusals.{Says}
use Rattle.pm_tool.proofs.Texts.{too_long_line}
use Rattle.pm_tool.proofs.execution.say_too_long.Goals as goal

pub returns : goal.returns
returns g c =
    subst (λ line. Says g.E.Write.contents c.args.errors.now c.say_pieces.new.errors line)
    (too_long_line _ _ _ c.as_bytes.ensures.value (c.as_bytes-2.ensures.value ∙ c.words.ensures) c.as_bytes-3.ensures.value) c.say_pieces.ensures
