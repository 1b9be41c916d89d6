use Rattle.std.proofs.Common.{◌≡◌, ◌∙◌, ◌++◌, ℕ, List, OnOk, ap, append_assoc, codes, string_bytes, subst}
use Rattle.pm_log.specs.Verdicts.{no_host_text}
use Rattle.pm_log.proofs.Texts.{pushed}
use Rattle.pm_log.proofs.verdict_text.push_host.Goals as goal

pub returns : goal.returns
unfolding no_host_text
returns c =
    let text = string_bytes c.args.text.now in
    let rest = c.args.words.now in
    let P : List ℕ → Type 0 = λ l. OnOk c.push_str-2.result (string_bytes c.push_str-2.new.self ≡ l) in
    subst P (ap (λ l. l ++ rest) c.in_ok-push_str.ensures.bytes ∙ append_assoc text (codes "there is no such host: ") rest)
    (pushed c.push_str-2.result (string_bytes c.push_str-2.new.self) (string_bytes c.push_str.new.self) rest c.push_str-2.ensures.bytes)
