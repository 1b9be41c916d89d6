use Rattle.std.proofs.Common.{◌≡◌, ℕ, Option, ap, ◌∙◌, subst, unwrap_or}
use Rattle.pm_device.specs.declared.act.Act.{Act}
use Rattle.pm_device.specs.Verdict.{ActsOn}
use Rattle.pm_device.proofs.verdict.Verdict.of_write.Goals as goal

-- an act on the output that a message names, or else on that of PAGE
on_output : (act : Act) (named found : Option ℕ) (page output : ℕ) → output ≡ unwrap_or found page → found ≡ named → ActsOn output act
    → ActsOn (unwrap_or named page) act
on_output act named found page output is same h =
    subst (λ o. ActsOn o act) (is ∙ ap (λ n. unwrap_or n page) same) h

pub of_act-requires : goal.of_act-requires
of_act-requires c = record {
  output = (
    c.args.page,
    c.requires.page,
    on_output _ _ _ _ _ c.unwrap_or.ensures c.page-named.ensures c.in-Some.ensures.output,
  );
}
