use Rattle.std.proofs.Common.{◌≡◌, ◌≢◌, ◌∙◌, ◌∷◌, Bool, true, false, ap, codes, sym}
use Rattle.std.specs.Str.{bytes_eq}
use Rattle.std.proofs.lemmas.Slice.Eq.{bytes_eq-Decides}
use Rattle.pm_tool.specs.Question.{Text, format_by, parts}
use Rattle.pm_tool.proofs.Options.{other_parts, ulinear16_parts}
use Rattle.pm_tool.proofs.numbers.question.read_format.Goals as goal

-- texts that aren't equal compare as unequal
unequal : (a b : Text) → a ≢ b → bytes_eq a b ≡ false
unequal a b apart = go (bytes_eq a b) (bytes_eq-Decides a b).0
  where
    go : (t : Bool) → (t ≡ true → a ≡ b) → t ≡ false
    go true same = absurd (apart (same (λ i. true)))
    go false same = λ i. false

pub returns-in-ulinear16-clause-named : goal.returns-in-ulinear16-clause-named
returns-in-ulinear16-clause-named c =
    let numbers = c.in-Some.numbers.now in
    let name : c.in-Some.name.now ≡ codes "ulinear16" = c.in-ulinear16.is in
    c.read_ulinear16.ensures.named ∙ sym (ulinear16_parts numbers)
    ∙ sym (ap format_by c.in-Some.ensures ∙ ap (λ (t : Text). format_by (t ∷ parts numbers)) name)

pub returns-in_default-name-clause-named : goal.returns-in_default-name-clause-named
returns-in_default-name-clause-named c =
    let name = c.in-Some.name.now in
    sym (ap format_by c.in-Some.ensures
    ∙ other_parts name c.in-Some.numbers.now (unequal name (codes "ulinear16") c.in_default-name.not-ulinear16) (unequal name
    (codes "direct") c.in_default-name.not-direct))
