use Rattle.std.proofs.Common.{◌≡◌, ◌∙◌, ◌++◌, ℕ, List, OnOk, ap, append_assoc, codes, string_bytes, subst}
use Rattle.std.specs.Prelude.{decimal}
use Rattle.pm_log.specs.Verdicts.{on_line}
use Rattle.pm_log.proofs.verdict_text.push_on_line.Goals as goal

pub returns : goal.returns
unfolding on_line
returns c =
    let text = string_bytes c.args.text.now in
    let rest = decimal c.args.line in
    let P : List ℕ → Type 0 = λ l. OnOk c.push_decimal.result (string_bytes c.push_decimal.new.text ≡ l) in
    subst P (ap (λ l. l ++ rest) c.in_ok-push_str.ensures.bytes ∙ append_assoc text (codes " answered on line ") rest)
    c.push_decimal.ensures
