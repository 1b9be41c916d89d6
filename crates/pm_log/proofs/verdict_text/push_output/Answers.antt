use Rattle.std.proofs.Common.{◌≡◌, ◌∙◌, ◌++◌, ℕ, List, OnOk, ap, append_assoc, codes, string_bytes, subst}
use Rattle.std.specs.Prelude.{decimal}
use Rattle.pm_log.specs.Verdicts.{output_text}
use Rattle.pm_log.proofs.Texts.{pushed}
use Rattle.pm_log.proofs.verdict_text.push_output.Goals as goal

pub returns : goal.returns
unfolding output_text
returns c =
    let text = string_bytes c.args.text.now in
    let digits = decimal c.args.output in
    let rest = codes " isn't known to command " in
    let P : List ℕ → Type 0 = λ l. OnOk c.push_str-2.result (string_bytes c.push_str-2.new.self ≡ l) in
    subst P
    (ap (λ l. l ++ rest) (c.in_ok-push_decimal.ensures ∙ ap (λ n. string_bytes c.push_str.new.self ++ decimal n) c.from.ensures
    ∙ ap (λ l. l ++ digits) c.in_ok-push_str.ensures.bytes)
    ∙ append_assoc (text ++ codes "output ") digits rest ∙ append_assoc text (codes "output ") (digits ++ rest))
    (pushed c.push_str-2.result (string_bytes c.push_str-2.new.self) (string_bytes c.push_decimal.new.text) rest c.push_str-2.ensures.bytes)
