use Rattle.std.proofs.Common.{◌∙◌, ◌-◌, [], ◌∷◌, length, sym, take}
use Rattle.std.proofs.lemmas.Bool.Decides.{Decides-eqb}
use Rattle.std.proofs.lemmas.Slice.Eq.{ends_is}
use Rattle.pm_lines.proofs.text.with_line_end.Goals as goal

pub returns-then-ends_with-clause-ends : goal.returns-then-ends_with-clause-ends
returns-then-ends_with-clause-ends c =
    let bytes = c.as_bytes.result.now in
    let ends = ends_is Decides-eqb bytes (10 ∷ []) c.ends_with.result c.ends_with.ensures.value in
    (take (length bytes - 1) bytes, sym c.as_bytes.ensures.value ∙ ends.0 c.if-ends_with.true)
