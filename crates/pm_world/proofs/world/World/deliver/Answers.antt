use Rattle.std.proofs.Common.{◌≡◌, false, Some, Ok, refl, sym, ◌∙◌, subst}
use Rattle.std.specs.Prelude.{IsSomeAnd}
use Rattle.pm_frame.specs.Layout.{IsWrite}
use Rattle.pm_host.specs.Summary.{sending_in}
use Rattle.pm_world.specs.declared.event.Event.TheVariants.{Deliver}
use Rattle.pm_world.specs.declared.cause.Cause.TheVariants.{NotBetrayed}
use Rattle.pm_world.specs.State.{State, Acts, event_cause}
use Rattle.pm_world.proofs.Events.{state, Arrives, arrives-write, deliver-acts, deliver-cause}
use Rattle.pm_world.proofs.world.World.deliver.Goals as goal

pub returns-then-not-is_legal_hearing-clause-acts : goal.returns-then-not-is_legal_hearing-clause-acts
returns-then-not-is_legal_hearing-clause-acts c =
    let inside = state c.self.inside.device c.self.inside.host c.self.inside.end c.self.inside.taken in
    let frame = c.as_slice-frame.result.now in
    let heard = c.heard_bytes-bytes.result.now in
    let ending = c.heard_ending-ending.result in
    let shown = subst (λ bytes. IsSomeAnd (sending_in inside.host) (λ message. IsWrite inside.host.setup.addr message bytes))
    (sym c.as_slice-frame.ensures.value) c.in-Write.ensures.1 in
    let arrives : Arrives inside false c.args.arrival.now frame heard ending =
    arrives-write inside c.args.arrival.now frame heard ending shown c.heard_bytes-bytes.ensures c.heard_ending-ending.ensures in (
      subst (λ (s : State). event_cause s (Deliver c.args.arrival.now) ≡ Some NotBetrayed) c.self.view_is
          (deliver-cause false arrives (sym c.is_legal_hearing.ensures ∙ c.if-not-is_legal_hearing.true)),
      refl,
    )

pub returns-clause-acts : goal.returns-clause-acts
returns-clause-acts c =
    let inside = state c.self.inside.device c.self.inside.host c.self.inside.end c.self.inside.taken in
    let frame = c.as_slice-frame.result.now in
    let heard = c.heard_bytes-bytes.result.now in
    let ending = c.heard_ending-ending.result in
    let shown = subst (λ bytes. IsSomeAnd (sending_in inside.host) (λ message. IsWrite inside.host.setup.addr message bytes))
    (sym c.as_slice-frame.ensures.value) c.in-Write.ensures.1 in
    let arrives : Arrives inside false c.args.arrival.now frame heard ending =
    arrives-write inside c.args.arrival.now frame heard ending shown c.heard_bytes-bytes.ensures c.heard_ending-ending.ensures in
    subst (λ (s : State). Acts s (Deliver c.args.arrival.now) (Ok tt) (state c.hear.new.self inside.host inside.end inside.taken))
    c.self.view_is
    (deliver-acts c.hear.new.self arrives (sym c.is_legal_hearing.ensures ∙ c.if-not-is_legal_hearing.false) c.hear.ensures.after)
