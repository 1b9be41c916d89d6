use Rattle.std.proofs.Common.{◌≡◌, false, Some, Ok, refl, sym, ◌∙◌, ap, subst}
use Rattle.std.specs.Prelude.{IsSomeAnd}
use Rattle.pm_frame.specs.Layout.{IsRequest}
use Rattle.pm_host.specs.Summary.{sending_in}
use Rattle.pm_world.specs.declared.event.Event.TheVariants.{Exchange}
use Rattle.pm_world.specs.declared.cause.Cause.TheVariants.{NotBetrayed}
use Rattle.pm_world.specs.Legal.{answer_in}
use Rattle.pm_world.specs.State.{State, Acts, event_cause}
use Rattle.pm_world.proofs.Events.{state, Asks, Returns, arrives-request, exchange-acts, exchange-betrayed, exchange-cause}
use Rattle.pm_world.proofs.world.World.exchange.Goals as goal

pub returns-then-not-is_legal_hearing-clause-acts : goal.returns-then-not-is_legal_hearing-clause-acts
returns-then-not-is_legal_hearing-clause-acts c =
    let inside = state c.self.inside.device c.self.inside.host c.self.inside.end c.self.inside.taken in
    let arrival = c.args.arrival.now in
    let frame = c.as_slice.result.now in
    let heard = c.heard_bytes-bytes.result.now in
    let ending = c.heard_ending-ending.result in
    let needed = c.in-Request.bytes in
    let shown = subst (λ bytes. IsSomeAnd (sending_in inside.host) (λ message. IsRequest inside.host.setup.addr message bytes))
    (sym c.as_slice.ensures.value) c.in-Request.ensures.1 in
    let asks : Asks inside arrival frame heard ending needed =
    arrives-request inside arrival frame heard ending needed (shown, c.in-Request.ensures.2)
    (c.heard_bytes-bytes.ensures, c.heard_ending-ending.ensures) in (
      subst (λ (s : State). event_cause s (Exchange arrival c.args.back.now) ≡ Some NotBetrayed) c.self.view_is
          (exchange-betrayed c.args.back.now asks (sym c.is_legal_hearing.ensures ∙ c.if-not-is_legal_hearing.true)),
      refl,
    )

pub returns-then-not-is_legal_return-clause-acts : goal.returns-then-not-is_legal_return-clause-acts
returns-then-not-is_legal_return-clause-acts c =
    let inside = state c.self.inside.device c.self.inside.host c.self.inside.end c.self.inside.taken in
    let arrival = c.args.arrival.now in
    let frame = c.as_slice.result.now in
    let heard = c.heard_bytes-bytes.result.now in
    let ending = c.heard_ending-ending.result in
    let needed = c.in-Request.bytes in
    let shown = subst (λ bytes. IsSomeAnd (sending_in inside.host) (λ message. IsRequest inside.host.setup.addr message bytes))
    (sym c.as_slice.ensures.value) c.in-Request.ensures.1 in
    let asks : Asks inside arrival frame heard ending needed =
    arrives-request inside arrival frame heard ending needed (shown, c.in-Request.ensures.2)
    (c.heard_bytes-bytes.ensures, c.heard_ending-ending.ensures) in
    let returns_so : Returns inside arrival c.args.back.now = record {
      frame = frame;
      heard = heard;
      ending = ending;
      needed = needed;
      answer = c.answer_in-answer.result.now;
      came = c.back_bytes-came.result.now;
      whole = c.is_heard_whole-whole.result;
      asks = asks;
      answer_is = c.answer_in-answer.ensures.value ∙ ap answer_in c.reply-reply.ensures;
      came_is = c.back_bytes-came.ensures;
      whole_is = c.is_heard_whole-whole.ensures;
    } in
    let legal = sym c.is_legal_hearing.ensures ∙ c.if-not-is_legal_hearing.false in (
      subst (λ (s : State). event_cause s (Exchange arrival c.args.back.now) ≡ Some NotBetrayed) c.self.view_is
          (exchange-cause false returns_so legal (sym c.is_legal_return.ensures ∙ c.if-not-is_legal_return.true)),
      refl,
    )

pub returns-clause-acts : goal.returns-clause-acts
returns-clause-acts c =
    let inside = state c.self.inside.device c.self.inside.host c.self.inside.end c.self.inside.taken in
    let arrival = c.args.arrival.now in
    let frame = c.as_slice.result.now in
    let heard = c.heard_bytes-bytes.result.now in
    let ending = c.heard_ending-ending.result in
    let needed = c.in-Request.bytes in
    let shown = subst (λ bytes. IsSomeAnd (sending_in inside.host) (λ message. IsRequest inside.host.setup.addr message bytes))
    (sym c.as_slice.ensures.value) c.in-Request.ensures.1 in
    let asks : Asks inside arrival frame heard ending needed =
    arrives-request inside arrival frame heard ending needed (shown, c.in-Request.ensures.2)
    (c.heard_bytes-bytes.ensures, c.heard_ending-ending.ensures) in
    let returns_so : Returns inside arrival c.args.back.now = record {
      frame = frame;
      heard = heard;
      ending = ending;
      needed = needed;
      answer = c.answer_in-answer.result.now;
      came = c.back_bytes-came.result.now;
      whole = c.is_heard_whole-whole.result;
      asks = asks;
      answer_is = c.answer_in-answer.ensures.value ∙ ap answer_in c.reply-reply.ensures;
      came_is = c.back_bytes-came.ensures;
      whole_is = c.is_heard_whole-whole.ensures;
    } in
    let legal = sym c.is_legal_hearing.ensures ∙ c.if-not-is_legal_hearing.false in
    subst (λ (s : State). Acts s (Exchange arrival c.args.back.now) (Ok tt) c.tell.new.self) c.self.view_is
    (exchange-acts c.hear_replied.new.device c.tell.new.self returns_so legal
    (sym c.is_legal_return.ensures ∙ c.if-not-is_legal_return.false) c.hear_replied.ensures.after c.tell.ensures.after)
