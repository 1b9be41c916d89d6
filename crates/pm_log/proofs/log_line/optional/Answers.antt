-- A word that is taken if it is the next one.
use Rattle.std.proofs.Common.{◌≡◌, ◌∙◌, ℕ, Bool, true, false, List, [], ◌∷◌, Ok, ap, refl, sym}
use Rattle.std.specs.Result.{IfOk}
use Rattle.std.specs.Prelude.{bytes_eq}
use Rattle.std.proofs.lemmas.Slice.Eq.{bytes_eq-Decides}
use Rattle.pm_lines.specs.Lines.{WordsLeft}
use Rattle.pm_text.specs.Readers.{IsNotNext, word_or_fault, word}
use Rattle.pm_log.specs.Lines.{optional}
use Rattle.pm_log.proofs.log_line.optional.Goals as goal

same_text : (text name : List ℕ) → text ≡ name → bytes_eq text name ≡ true
same_text text name same = (bytes_eq-Decides text name).1 same

-- it is the next
taken : (name : List ℕ) (line : ℕ) (words : List (List ℕ)) (new : WordsLeft) → word_or_fault line words ≡ Ok (name, new) →
    optional name (record { line = line; words = words }) ≡ Ok (true, new)
taken name line [] new is = absurd (cc)
taken name line (text ∷ words) new is =
    let pair : ◌≡◌ {A = List ℕ × WordsLeft} (text, record { line = line; words = words }) (name, new) = cc in
    let same : text ≡ name = ap (λ (p : List ℕ × WordsLeft). p.0) pair in
    let left : record { line = line; words = words } ≡ new = ap (λ (p : List ℕ × WordsLeft). p.1) pair in
    rw (same_text text name same) (ap (λ (l : WordsLeft). Ok (true, l)) left)

-- it isn't
other : (name : List ℕ) (line : ℕ) (words : List (List ℕ)) → IfOk (word_or_fault line words) (λ next. bytes_eq next.0 name ≡ false) →
    optional name (record { line = line; words = words }) ≡ Ok (false, record { line = line; words = words })
other name line [] not = refl
other name line (text ∷ words) not = rw not refl

found : (name : List ℕ) (old new : WordsLeft) (result : Bool) → (result ≡ true → word old ≡ Ok (name, new)) →
    (result ≡ false → IsNotNext name old) → (result ≡ false → new ≡ old) → optional name old ≡ Ok (result, new)
unfolding word
found name old new true is not kept = taken name old.line old.words new (is refl)
found name old new false is not kept =
    other name old.line old.words (not refl) ∙ ap (λ (l : WordsLeft). Ok (false, l)) (sym (kept refl))

pub returns : goal.returns
returns c = found _ _ _ c.takes.result c.takes.ensures.taken c.takes.ensures.other c.takes.ensures.kept
