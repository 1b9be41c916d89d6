use Rattle.std.proofs.Common.{◌≡◌, ◌∙◌, ℕ, true, false, Some, None, Ok, ap, subst, sym, refl}
use Rattle.pm_host.specs.declared.fault.Untold.TheVariants.{NothingSent, WrongKind}
use Rattle.pm_host.specs.declared.host.Step.{Step}
use Rattle.pm_host.specs.Summary.{Summary, stage_message, step_of}
use Rattle.pm_host.specs.Told.{entry_told, is_awaited}
use Rattle.pm_course.specs.declared.frame_course.FrameCourse.{FrameCourse}
use Rattle.pm_course.specs.Frames as frames
use Rattle.pm_course.specs.Frames.{Hears}
use Rattle.pm_course.specs.Lemmas.Awaited.{comes-awaited}
use Rattle.pm_memory.specs.declared.course_image.CourseImage.{CourseImage}
use Rattle.pm_memory.specs.CourseImage.{course_held}
use Rattle.pm_memory.specs.Guard.{guard_of}
use Rattle.pm_memory.specs.Hosted.{guard_in}
use Rattle.pm_memory.specs.declared.host_step.HostStep.{HostStep}
use Rattle.pm_memory.specs.Course.{HearsIn, heard_step, hears_it, refused_told, unasked}
use Rattle.pm_memory.specs.Host.{host_step, told_fault}
use Rattle.pm_memory.proofs.Calls.{fault-at, hears-by}
use Rattle.pm_memory.proofs.course.tell.Goals as goal

pub returns-in-Err : goal.returns-in-Err
returns-in-Err c =
    let entry = entry_told c.args.told in
    subst (λ (s : HostStep). HearsIn c.args.host.now c.args.course.now entry s c.args.host.now c.args.course.now) (sym c.no_step.ensures)
    (refused_told c.in-Err.number (sym c.in-Err.ensures.fault))

pub returns-in_default : goal.returns-in_default
returns-in_default c =
    let entry = entry_told c.args.told in
    let g = guard_in c.args.host.now in
    let shut : g.host.stage ≡ None = sym c.in-Ok.ensures.stage ∙ c.in_default.is in
    subst (λ (s : HostStep). HearsIn c.args.host.now c.args.course.now entry s c.args.host.now c.args.course.now)
    (sym c.no_step-in_default.ensures)
    (unasked g (course_held c.args.course.now) NothingSent c.in-Ok.ensures.both (frames.nothing shut))

pub returns-then-not-awaits : goal.returns-then-not-awaits
returns-then-not-awaits c =
    let entry = entry_told c.args.told in
    let g = guard_in c.args.host.now in
    let opened : g.host.stage ≡ Some c.in-Some.at = sym c.in-Ok.ensures.stage ∙ c.in-Some.is in
    let other : is_awaited c.in-Some.at c.args.told ≡ false = sym c.awaits.ensures ∙ c.if-not-awaits.true in
    subst (λ (s : HostStep). HearsIn c.args.host.now c.args.course.now entry s c.args.host.now c.args.course.now)
    (sym c.no_step-then-not-awaits.ensures)
    (unasked g (course_held c.args.course.now) WrongKind c.in-Ok.ensures.both
    (frames.other c.in-Some.at opened (comes-awaited g.host c.in-Some.at c.args.told opened ∙ other)))

pub returns : goal.returns
returns c =
    let entry = entry_told c.args.told in
    let host = c.args.host.now in
    let course = c.args.course.now in
    let new = c.hear_by-heard.new.host in
    let g = guard_in host in
    let next = guard_in new in
    let found : guard_of new ≡ Some next = rw (c.hear_by-heard.ensures.there.there) refl in
    let was = course_held course in
    let is = c.hear_by-heard.new.self in
    let at = c.in-Some.at in
    let tells = c.hear_by-heard.ensures.told in
    let opened : g.host.stage ≡ Some at = sym c.in-Ok.ensures.stage ∙ c.in-Some.is in
    let waits : is_awaited at c.args.told ≡ true = sym c.awaits.ensures ∙ c.if-not-awaits.false in
    let hear : Hears g was entry (Ok tt) next is =
    subst (λ (f : FrameCourse). Hears g f entry (Ok tt) next is) c.held-asked.ensures
    (hears-by g next c.held-asked.result is at c.args.told c.hear_by-heard.result opened waits tells) in
    let addr : host.host.state.address ≡ g.host.setup.addr = ap (λ (s : Summary). s.setup.addr) c.in-Ok.ensures.there.whole in
    let answered : c.step_after.result ≡ heard_step g entry =
    c.step_after.ensures
    ∙ ap (λ (a : ℕ). host_step (told_fault a (stage_message at) entry) c.hear_by-heard.result.step) addr
    ∙ ap (λ (step : Step). host_step (told_fault g.host.setup.addr (stage_message at) entry) step) tells.step
    ∙ ap (λ (f : ℕ). host_step f (step_of g.host entry)) (fault-at g.host at entry opened) in
    subst (λ (s : HostStep). HearsIn host course entry s new c.write.new.self) (sym answered)
    (subst (λ (image : CourseImage). HearsIn host course entry (heard_step g entry) new image) (sym c.write.ensures)
    (hears_it g next was is new c.in-Ok.ensures.both hear
    (record { guard = found; written = c.hear_by-heard.ensures.written })))
