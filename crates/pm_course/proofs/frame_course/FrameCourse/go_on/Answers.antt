use Rattle.std.proofs.Common.{◌≡◌, ◌∙◌, Option, Some, None, Ok, ap, refl, sym, subst}
use Rattle.pm_limits.specs.FaultWords.{limit_fault_number}
use Rattle.pm_limits.specs.Guard.{Guarded, guard_fault}
use Rattle.pm_course.specs.declared.course_end.CourseNext.{CourseNext}
use Rattle.pm_course.specs.declared.course_end.CourseNext.TheVariants.{Job, Ended}
use Rattle.pm_course.specs.declared.frame_course.FrameCourse.{FrameCourse}
use Rattle.pm_course.specs.declared.frames.Sending.{Sending}
use Rattle.pm_course.specs.Frames.{GoesOn, SaysBy, again, begun, hands, over, refused, waits}
use Rattle.pm_course.specs.FrameCourse.{refused_by}
use Rattle.pm_course.proofs.CourseFrames.{sent-at}
use Rattle.pm_course.proofs.frame_course.FrameCourse.go_on.Goals as goal

pub returns-then-is_job_of-clause-goes : goal.returns-then-is_job_of-clause-goes
returns-then-is_job_of-clause-goes g c = λ sent is.
    let old = g.H.Hosted.guarded c.args.host.now in
    let opened : old.host.stage ≡ Some c.in-Some.at = sym c.requires.stage ∙ c.in-Some.is in
    hands sent old c.args.self.now
    (again c.in-Some.at sent opened (sym c.is_job_of.ensures ∙ c.if-is_job_of.true) (sent-at old (Some c.in-Some.at) sent opened is)) refl

pub returns-in-Ended-clause-goes : goal.returns-in-Ended-clause-goes
returns-in-Ended-clause-goes g c = λ sent is.
    let old = g.H.Hosted.guarded c.args.host.now in
    let was = c.args.self.now in
    let says : SaysBy old was (Ended c.in-Ended.field-0) c.next_at.new.self =
    subst (λ (n : CourseNext). SaysBy old was n c.next_at.new.self) c.in-Ended.is c.next_at.ensures in
    subst (λ (s : Option Sending). GoesOn c.args.stops old was s old c.next_at.new.self) (sym is)
    (hands None old c.next_at.new.self (over c.in-Ended.field-0 c.next_at.new.self says) refl)

pub returns-in-Ok-clause-goes : goal.returns-in-Ok-clause-goes
returns-in-Ok-clause-goes g c = λ sent is.
    let old = g.H.Hosted.guarded c.args.host.now in
    let new = g.H.Hosted.guarded c.begin_at.new.self in
    let was = c.args.self.now in
    let says : SaysBy old was (Job c.in-Job.job) c.next_at.new.self =
    subst (λ (n : CourseNext). SaysBy old was n c.next_at.new.self) c.in-Job.is c.next_at.ensures in
    hands sent new c.next_at.new.self
    (begun c.in-Job.job sent new c.next_at.new.self says c.in-Ok.ensures.begins (sent-at new c.in-Ok.at sent (sym c.in-Ok.ensures.stage) is))
    (sym c.waits.ensures ∙ c.if-waits.false)

pub returns-in-Err-clause-goes : goal.returns-in-Err-clause-goes
returns-in-Err-clause-goes g c = λ sent none.
    let old = g.H.Hosted.guarded c.args.host.now in
    let new = g.H.Hosted.guarded c.begin_at.new.self in
    let was = c.args.self.now in
    let says : SaysBy old was (Job c.in-Job.job) c.next_at.new.self =
    subst (λ (n : CourseNext). SaysBy old was n c.next_at.new.self) c.in-Job.is c.next_at.ensures in
    let fault : guard_fault old c.in-Job.job ≡ Some c.in-Err.fault = sym c.in-Err.ensures.begins.fault in
    let is : c.refused.new.self ≡ refused_by was (limit_fault_number c.in-Err.fault) c.in-Job.job =
    c.refused.ensures ∙ ap (λ number. refused_by was number c.in-Job.job) c.number.ensures.number in
    subst (λ (s : Option Sending). GoesOn c.args.stops old was s new c.refused.new.self) (sym none)
    (subst (λ (after : FrameCourse). GoesOn c.args.stops old was None new after) (sym is)
    (subst (λ (now : Guarded). GoesOn c.args.stops old was None now (refused_by was (limit_fault_number c.in-Err.fault) c.in-Job.job))
    (sym c.in-Err.ensures.begins.err)
    (hands None old (refused_by was (limit_fault_number c.in-Err.fault) c.in-Job.job)
    (refused c.in-Job.job c.in-Err.fault c.next_at.new.self says fault) (sym c.waits.ensures ∙ c.if-waits.false))))

pub returns-then-waits-clause-goes : goal.returns-then-waits-clause-goes
returns-then-waits-clause-goes g c = λ sent none.
    let old = g.H.Hosted.guarded c.args.host.now in
    let was = c.args.self.now in
    let says : SaysBy old was (Job c.in-Job.job) c.next_at.new.self =
    subst (λ (n : CourseNext). SaysBy old was n c.next_at.new.self) c.in-Job.is c.next_at.ensures in
    subst (λ (s : Option Sending). GoesOn c.args.stops old was s old was) (sym none)
    (waits c.in-Job.job c.next_at.new.self (sym c.waits.ensures ∙ c.if-waits.true) says)
