use Rattle.std.proofs.Common.{◌≡◌, ◌∙◌, ◌+◌, ◌++◌, ◌≤◌, ap, refl, subst, sym}
use Rattle.pm_decode.specs.Captures.{kept_in_capture}
use Rattle.pm_decode.specs.Capturing.{Kept, heard_ended, text_ended}
use Rattle.pm_decode.proofs.Captures.{bounded_ended, on_good}
use Rattle.pm_decode.proofs.capture.Capture.end_line.Goals as goal

pub returns-clause-kept : goal.returns-clause-kept
returns-clause-kept c = on_good c.hear_line-heard.result
    (λ (e : c.hear_line-heard.new.heard ≡ heard_ended (kept_in_capture c.self.inside)). rw (e, c.clear.ensures, sym c.self.view_is) refl)
    c.hear_line-heard.ensures.heard

pub returns-clause-told : goal.returns-clause-told
returns-clause-told c = on_good c.hear_line-heard.result
    (λ (e : c.hear_line-heard.new.gathered ≡ c.args.gathered.now ++ text_ended (kept_in_capture c.self.inside)). e
    ∙ ap (λ (k : Kept). c.args.gathered.now ++ text_ended k) c.self.view_is)
    c.hear_line-heard.ensures.told

pub invariant_of-self : goal.invariant_of-self
invariant_of-self c =
    let P : Kept → Type 0 = λ k. k.ended + 1 ≤ k.taken in (
      bounded_ended (kept_in_capture c.self.inside) c.hear_line-heard.new.heard c.clear.new.self c.self.inside.line.times c.self.invariant.0
          c.clear.ensures c.hear_line-heard.ensures.few (subst P (sym c.self.view_is) c.requires),
      c.self.invariant.1,
    )
