use Rattle.std.proofs.Common.{◌≡◌, ◌∷◌, Bool, List, MatchBool, Ok, [], ap, false, sym, true, ℕ}
use Rattle.std.specs.Result.{IfOk}
use Rattle.std.specs.Str.{bytes_eq}
use Rattle.pm_lines.specs.Lines.{WordsLeft, is_next}
use Rattle.pm_text.specs.Readers.{IsNotNext, word_or_fault, word}
use Rattle.pm_text.proofs.scenario.fields.Fields.takes.Goals as goal

-- the next word is the one that was taken
taken : (before after : WordsLeft) (text : List ℕ) (result : Bool) → after.line ≡ before.line
    → MatchBool result (before.words ≡ text ∷ after.words) (is_next text before.words ≡ false)
    → result ≡ true → word before ≡ Ok (text, after)
unfolding word
taken before after text true line words is =
    rw words (ap (λ line. Ok (text, record { line = line; words = after.words })) (sym line))
taken before after text false line words is = absurd (cc)

-- the next word, if there is one, is another
other : (before after : WordsLeft) (text : List ℕ) (result : Bool)
    → MatchBool result (before.words ≡ text ∷ after.words) (is_next text before.words ≡ false)
    → result ≡ false → IsNotNext text before
unfolding word
other before after text true words is = absurd (cc)
other before after text false words is = first before.words words
  where
    first : (words : List (List ℕ)) → is_next text words ≡ false
        → IfOk (word_or_fault before.line words) (λ next. bytes_eq next.0 text ≡ false)
    first [] not = tt
    first (next ∷ rest) not = not

pub returns-clause-taken : goal.returns-clause-taken
returns-clause-taken c =
    rw (sym c.self.view_is, sym c.as_bytes.ensures.value)
    (taken c.self.inside.words c.take_word.new.self _ c.take_word.result c.take_word.ensures.line c.take_word.ensures.words)

pub returns-clause-other : goal.returns-clause-other
returns-clause-other c =
    rw (sym c.self.view_is, sym c.as_bytes.ensures.value)
    (other c.self.inside.words c.take_word.new.self _ c.take_word.result c.take_word.ensures.words)
