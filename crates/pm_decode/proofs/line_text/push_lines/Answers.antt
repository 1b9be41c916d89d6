use Rattle.std.proofs.Common.{◌≡◌, ◌∙◌, ◌++◌, ℕ, List, OnOk, ap, append_assoc, string_bytes, subst}
use Rattle.pm_decode.specs.CaptureText.{two_lines}
use Rattle.pm_decode.proofs.line_text.push_lines.Goals as goal

pub returns : goal.returns
returns c =
    let text = string_bytes c.args.text.now in
    let lines = two_lines c.args.line c.args.number in
    let P : List ℕ → Type 0 = λ l. OnOk c.push_two_lines.result (string_bytes c.push_two_lines.new.text ≡ l) in
    subst P (ap (λ l. l ++ lines) c.in_ok-push_str.ensures.bytes ∙ append_assoc text c.args.words.now lines)
    c.push_two_lines.ensures
