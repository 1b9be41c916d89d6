use Rattle.std.proofs.Common.{◌∙◌, ap, codes}
use Rattle.std.proofs.lemmas.Result.{IfOk-weaker}
use Rattle.clap.specs.Words.{App, with_rule}
use Rattle.pm_tool.specs.Options.{option_rule}
use Rattle.pm_tool.proofs.commandline.commands.with_formats.Goals as goal

pub returns : goal.returns
returns c =
    IfOk-weaker c.with_value-2.result _ _ (λ command h. h
    ∙ ap (λ (a : App). with_rule a (option_rule (codes "readings")))
    (c.in_ok-formatted.ensures ∙ ap (λ (a : App). with_rule a (option_rule (codes "vout"))) c.in_ok-valued.ensures))
    c.with_value-2.ensures
