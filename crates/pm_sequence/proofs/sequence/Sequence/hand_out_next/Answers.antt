use Rattle.std.proofs.Common.{◌≡◌, ◌∙◌, Option, Some, None, sym, subst}
use Rattle.pm_host.specs.declared.stage.Stage.{Stage}
use Rattle.pm_limits.specs.Guard.{Guarded, guard_fault}
use Rattle.pm_course.specs.declared.frames.Sending.{Sending}
use Rattle.pm_sequence.specs.declared.sequence.Act.{Act}
use Rattle.pm_sequence.specs.declared.sequence.Sequence.{Sequence}
use Rattle.pm_sequence.specs.declared.step.Step.{Step}
use Rattle.pm_sequence.specs.Frames.{HandsOut, begins, refused, refusal_end, refused_act, refused_after, says}
use Rattle.pm_sequence.proofs.SequenceFrames.{IsSentBy, sent-by}
use Rattle.pm_sequence.proofs.sequence.Sequence.hand_out_next.Goals as goal

-- nothing of what is named changes where the guard refuses it
refuses : {g now : Guarded} {under ahead : Option Step} {was : Sequence} {sent : Option Sending} {told : Act} {heard : Sequence} (to : Act)
    (at : Sequence) → HandsOut g under ahead was None to g at → sent ≡ None → now ≡ g → told ≡ to → heard ≡ at
    → HandsOut g under ahead was sent told now heard
refuses {g} {now} {under} {ahead} {was} {sent} {told} {heard} to at out none same told_is heard_is =
    subst (λ (s : Option Sending). HandsOut g under ahead was s told now heard) (sym none)
    (subst (λ (x : Guarded). HandsOut g under ahead was None told x heard) (sym same)
    (subst (λ (y : Act). HandsOut g under ahead was None y g heard) (sym told_is)
    (subst (λ (q : Sequence). HandsOut g under ahead was None to g q) (sym heard_is) out)))

pub returns-in-None-clause-hands : goal.returns-in-None-clause-hands
returns-in-None-clause-hands g c = λ sent none.
    let old = g.H.Hosted.guarded c.args.host.now in
    let was = c.args.self.now in
    subst (λ (s : Option Sending). HandsOut old c.args.under.now c.args.ahead.now was s c.next_at-act.result old c.next_at-act.new.self) (sym none)
    (says c.next_at-act.result c.next_at-act.new.self (sym c.job.ensures ∙ c.in-None.is) c.next_at-act.ensures)

pub returns-in-Ok-clause-hands : goal.returns-in-Ok-clause-hands
returns-in-Ok-clause-hands g c = λ sent is.
    let new = g.H.Hosted.guarded c.begin_at.new.self in
    begins c.in-Some.job c.next_at-act.result sent new c.next_at-act.new.self (sym c.job.ensures ∙ c.in-Some.is) c.next_at-act.ensures
    c.in-Ok.ensures.begins (subst (λ (at : Option Stage). IsSentBy new sent at) c.in-Ok.ensures.stage (sent-by new sent c.in-Ok.at is))

pub returns-in-Err-clause-hands : goal.returns-in-Err-clause-hands
returns-in-Err-clause-hands g c = λ sent none.
    let old = g.H.Hosted.guarded c.args.host.now in
    let why = refusal_end c.in-Err.fault c.in-Some.job in
    let fault : guard_fault old c.in-Some.job ≡ Some c.in-Err.fault = sym c.in-Err.ensures.begins.fault in
    refuses (refused_act c.args.self.now c.next_at-act.new.self c.next_at-act.result why)
    (refused_after c.args.self.now c.next_at-act.new.self c.next_at-act.result why)
    (refused c.in-Some.job c.next_at-act.result c.in-Err.fault c.next_at-act.new.self (sym c.job.ensures ∙ c.in-Some.is)
    c.next_at-act.ensures fault) none c.in-Err.ensures.begins.err c.refused-refused.ensures.act c.refused-refused.ensures.after
