use Rattle.std.proofs.Common.{◌∙◌, ◌++◌, List, ap, arith, ℕ}
use Rattle.std.specs.Prelude.{codes}
use Rattle.std.proofs.lemmas.Slice.Eq.{text_from_reads}
use Rattle.pm_text.proofs.scenario.usual_line.is_deliver_whole.Goals as goal

pub returns-in-Some-whole : goal.returns-in-Some-whole
returns-in-Some-whole c = λ done.
    let ends = text_from_reads c.in-Some-whole.field-0.now (codes "whole") (omega arith)
    (omega arith, (omega arith, (omega arith, (omega arith, (omega arith, tt))))) in
    c.in-Some-whole.ensures ∙ ap (λ (rest : List ℕ). codes "deliver " ++ rest) ends
