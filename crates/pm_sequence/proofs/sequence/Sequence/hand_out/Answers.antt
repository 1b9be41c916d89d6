use Rattle.std.proofs.Common.{◌≡◌, ◌∙◌, Option, Some, sym, subst}
use Rattle.pm_host.specs.declared.stage.Stage.{Stage}
use Rattle.pm_sequence.specs.Frames.{again, unsent}
use Rattle.pm_sequence.proofs.SequenceFrames.{IsSentBy, sent-by}
use Rattle.pm_sequence.proofs.sequence.Sequence.hand_out.Goals as goal

pub returns-then-not-is_unsent-clause-hands : goal.returns-then-not-is_unsent-clause-hands
returns-then-not-is_unsent-clause-hands g c = λ sent is.
    let old = g.H.Hosted.guarded c.args.host.now in
    let opened : old.host.stage ≡ Some c.in-Some.at = sym c.requires.stage ∙ c.in-Some.is in
    again c.in-Some.at sent opened (sym c.is_job_at.ensures ∙ c.if-is_job_at.true) (sym c.is_unsent.ensures.is ∙ c.if-not-is_unsent.true)
    (subst (λ (at : Option Stage). IsSentBy old sent at) (sym opened) (sent-by old sent (Some c.in-Some.at) is))

pub returns-then-is_job_at-clause-hands : goal.returns-then-is_job_at-clause-hands
returns-then-is_job_at-clause-hands g c = λ sent is.
    let old = g.H.Hosted.guarded c.args.host.now in
    let new = g.H.Hosted.guarded c.hear_by-heard.new.host in
    let opened : old.host.stage ≡ Some c.in-Some.at = sym c.requires.stage ∙ c.in-Some.is in
    unsent c.in-Some.at c.hear_by-heard.result sent new c.hear_by-heard.new.self opened (sym c.is_job_at.ensures ∙ c.if-is_job_at.true)
    (sym c.is_unsent.ensures.is ∙ c.if-not-is_unsent.false) c.hear_by-heard.ensures.hears
    (subst (λ (at : Option Stage). IsSentBy new sent at) c.hear_by-heard.ensures.stage (sent-by new sent c.hear_by-heard.result.stage is))
