use Rattle.std.proofs.Common.{◌≡◌, ◌∙◌, ◌++◌, ℕ, List, OnOk, ap, append_assoc, codes, string_bytes, subst}
use Rattle.pm_log.specs.Verdicts.{unknown_held, word_text}
use Rattle.pm_log.proofs.verdict_text.push_held.Goals as goal

pub returns : goal.returns
unfolding unknown_held
returns c =
    let text = string_bytes c.args.text.now in
    let rest = word_text c.args.cell c.args.word in
    let P : List ℕ → Type 0 = λ l. OnOk c.push_cell_word.result (string_bytes c.push_cell_word.new.text ≡ l) in
    subst P (ap (λ l. l ++ rest) c.in_ok-push_str.ensures.bytes ∙ append_assoc text (codes " isn't known to hold ") rest)
    c.push_cell_word.ensures
