use Rattle.std.proofs.Common.{◌∙◌, ◌∷◌, List, ap, codes, sym}
use Rattle.pm_tool.specs.Question.{Text, format_by}
use Rattle.pm_tool.proofs.Options.{direct_parts}
use Rattle.pm_tool.proofs.numbers.question.read_direct.Goals as goal

pub returns-clause-named : goal.returns-clause-named
returns-clause-named c =
    let m = c.in_ok-m.m.now in
    c.direct_of.ensures.named ∙ sym (direct_parts m c.in_ok-b.b.now c.in_ok-b.r.now)
    ∙ sym (ap (λ (ps : List Text). format_by (codes "direct" ∷ ps)) (c.in_ok-m.ensures ∙ ap (λ (ps : List Text). m ∷ ps) c.in_ok-b.ensures))
