use Rattle.std.proofs.Common.{◌≡◌, ◌∙◌, ◌++◌, ℕ, List, OnOk, ap, append_assoc, codes, string_bytes, subst}
use Rattle.pm_lines.specs.Numbers.{hex_byte}
use Rattle.pm_log.specs.Verdicts.{lacks_source_text}
use Rattle.pm_log.proofs.Texts.{pushed}
use Rattle.pm_log.proofs.verdict_text.push_taken_of.Goals as goal

pub returns : goal.returns
unfolding lacks_source_text
returns c =
    let text = string_bytes c.args.text.now in
    let digits = hex_byte c.args.addr in
    let rest = codes " by --lacks" in
    let P : List ℕ → Type 0 = λ l. OnOk c.push_str-2.result (string_bytes c.push_str-2.new.self ≡ l) in
    subst P
    (ap (λ l. l ++ rest) (c.in_ok-push_hex.ensures ∙ ap (λ l. l ++ digits) c.in_ok-push_str.ensures.bytes)
    ∙ append_assoc (text ++ codes " of ") digits rest ∙ append_assoc text (codes " of ") (digits ++ rest))
    (pushed c.push_str-2.result (string_bytes c.push_str-2.new.self) (string_bytes c.push_hex.new.text) rest c.push_str-2.ensures.bytes)
