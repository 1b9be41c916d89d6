use Rattle.std.proofs.Common.{◌∙◌, ◌∷◌, ap, sym}
use Rattle.pm_lines.specs.Lines.{WordsLeft}
use Rattle.pm_lines.proofs.LinesAndWords.{words-end, word-first}
use Rattle.pm_lines.proofs.words.Words.next_word.Goals as goal

pub returns-then-is_empty-clause-words : goal.returns-then-is_empty-clause-words
returns-then-is_empty-clause-words c =
    ap (λ (w : WordsLeft). w.words) (sym c.self.view_is) ∙ words-end c.self.inside.rest.now (sym c.is_empty.ensures ∙ c.if-is_empty.true)

pub returns-then-is_empty-clause-end : goal.returns-then-is_empty-clause-end
returns-then-is_empty-clause-end c =
    ap (λ (w : WordsLeft). w.words) (sym c.self.view_is) ∙ words-end c.self.inside.rest.now (sym c.is_empty.ensures ∙ c.if-is_empty.true)

pub returns-clause-words : goal.returns-clause-words
returns-clause-words c =
    ap (λ (w : WordsLeft). w.words) (sym c.self.view_is)
    ∙ word-first c.self.inside.rest.now _ _ c.self.invariant (sym c.is_empty.ensures ∙ c.if-is_empty.false)
    c.cut_at_space.ensures.before c.cut_at_space.ensures.after
    ∙ ap (λ words. c.cut_at_space.result.0.now ∷ words) (sym c.without_spaces-self-inside.ensures.words)
