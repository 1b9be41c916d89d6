use Rattle.std.proofs.Common.{◌≡◌, ◌≤◌, ◌++◌, ◌∷◌, [], length, arith, length-append, ap, sym, ◌∙◌}
use Rattle.std.proofs.lemmas.List.{set_past}
use Rattle.pm_text.specs.ScenarioText.{first_eight}
use Rattle.pm_text.specs.declared.scenario.starts.Starts.{Starts}
use Rattle.pm_text.proofs.Scenarios.{first_eight-push, length-first_eight, starts-made}
use Rattle.pm_text.proofs.scenario.starts.Starts.push.Goals as goal
use Rattle.pm_text.proofs.scenario.starts.Starts.push.Goals.{then-place-lt8, else-place-lt8}

pub returns : goal.returns
returns c = λ given same.
    let start = c.args.start in
    let before = ap (λ (s : Starts). s.count) same in
    let held = ap (λ (s : Starts). s.starts) same in
    let starts : c.if-place-lt8.self.starts ≡ first_eight (given ++ start ∷ []) =
    elim c.if-place-lt8.branch [
      | then-place-lt8 w ↦
          let place : c.from-place.result ≡ length given = omega (arith, before) in
          ap (λ (s : Starts). s.starts) w.self-is ∙ rw (held, place) (first_eight-push given start)
      | else-place-lt8 w ↦
          let past : length (first_eight given) ≤ length given = omega (arith, before, length-first_eight given) in
          ap (λ (s : Starts). s.starts) w.self-is ∙ held ∙ sym (set_past (first_eight given) (length given) start past)
          ∙ first_eight-push given start
    ] in
    let kept : c.if-place-lt8.self.count ≡ c.args.self.now.count =
    elim c.if-place-lt8.branch
    [ then-place-lt8 w ↦ ap (λ (s : Starts). s.count) w.self-is | else-place-lt8 w ↦ ap (λ (s : Starts). s.count) w.self-is ] in
    starts-made _ _ (given ++ start ∷ []) (omega (arith, kept, before, length-append given (start ∷ []))) starts
