use Rattle.std.proofs.Common.{◌≡◌, ◌<◌, ◌∙◌, ℕ, true, false, Some, None, Ok, ap, subst, sym, refl}
use Rattle.pm_host.specs.declared.fault.Untold.TheVariants.{NothingSent, WrongKind}
use Rattle.pm_host.specs.declared.host.Step.{Step}
use Rattle.pm_host.specs.Summary.{Summary, stage_message, step_of}
use Rattle.pm_host.specs.Told.{entry_told, is_awaited}
use Rattle.pm_host.specs.Transcript.{Setup}
use Rattle.pm_course.specs.declared.frame_course.FrameCourse.{FrameCourse}
use Rattle.pm_course.specs.Frames as frames
use Rattle.pm_course.specs.Frames.{GoesOn, Hears}
use Rattle.pm_course.specs.Surprise.{surprises}
use Rattle.pm_course.specs.Lemmas.Awaited.{comes-awaited}
use Rattle.pm_memory.specs.declared.course_image.CourseImage.{CourseImage}
use Rattle.pm_memory.specs.CourseImage.{course_held}
use Rattle.pm_memory.specs.Guard.{guard_of}
use Rattle.pm_memory.specs.Hosted.{guard_in}
use Rattle.pm_memory.specs.Memory.{IsMemory}
use Rattle.pm_memory.specs.declared.host_step.HostStep.{HostStep}
use Rattle.pm_memory.specs.Course.{HearsOnIn, IsAfter, IsPut, heard_step, hears_on, refused_both, unasked_both}
use Rattle.pm_memory.specs.Host.{host_step, told_fault}
use Rattle.pm_memory.proofs.Calls.{fault-at, hears-by, output-stays}
use Rattle.pm_memory.proofs.course.tell_and_send.Goals as goal

pub returns-in-Err : goal.returns-in-Err
returns-in-Err c =
    let entry = entry_told c.args.told in
    subst (λ (s : HostStep). HearsOnIn c.args.stops c.args.host.now c.args.course.now entry s c.args.host.now c.args.course.now c.clear.new.self) (sym c.no_step.ensures)
    (refused_both c.in-Err.number c.clear.new.self (sym c.in-Err.ensures.fault) c.clear.ensures)

pub returns-in_default : goal.returns-in_default
returns-in_default c =
    let entry = entry_told c.args.told in
    let g = guard_in c.args.host.now in
    let shut : g.host.stage ≡ None = sym c.in-Ok.ensures.stage ∙ c.in_default.is in
    subst (λ (s : HostStep). HearsOnIn c.args.stops c.args.host.now c.args.course.now entry s c.args.host.now c.args.course.now c.clear-in_default.new.self)
    (sym c.no_step-in_default.ensures)
    (unasked_both g (course_held c.args.course.now) NothingSent c.clear-in_default.new.self c.in-Ok.ensures.both (frames.nothing shut)
    c.clear-in_default.ensures)

pub returns-then-not-awaits : goal.returns-then-not-awaits
returns-then-not-awaits c =
    let entry = entry_told c.args.told in
    let g = guard_in c.args.host.now in
    let opened : g.host.stage ≡ Some c.in-Some.at = sym c.in-Ok.ensures.stage ∙ c.in-Some.is in
    let other : is_awaited c.in-Some.at c.args.told ≡ false = sym c.awaits.ensures ∙ c.if-not-awaits.true in
    subst (λ (s : HostStep). HearsOnIn c.args.stops c.args.host.now c.args.course.now entry s c.args.host.now c.args.course.now c.clear-then-not-awaits.new.self)
    (sym c.no_step-then-not-awaits.ensures)
    (unasked_both g (course_held c.args.course.now) WrongKind c.clear-then-not-awaits.new.self c.in-Ok.ensures.both
    (frames.other c.in-Some.at opened (comes-awaited g.host c.in-Some.at c.args.told opened ∙ other)) c.clear-then-not-awaits.ensures)

pub go_on-next-requires-clause-output : goal.go_on-next-requires-clause-output
go_on-next-requires-clause-output c =
    let entry = entry_told c.args.told in
    let g = guard_in c.args.host.now in
    let between = guard_in c.hear_by-heard.new.host in
    let held = c.held-asked.result in
    let at = c.in-Some.at in
    let tells = c.hear_by-heard.ensures.told in
    let same : c.hear_by-heard.new.self.course.survey.output ≡ c.args.course.now.output =
    ap (λ (f : FrameCourse). f.course.survey.output) tells.heard
    ∙ output-stays held g.host.setup.addr at entry (surprises g.host at entry) (step_of g.host entry)
    ∙ ap (λ (f : FrameCourse). f.course.survey.output) c.held-asked.ensures in
    let kept : between.host.setup ≡ g.host.setup =
    ap (λ (s : Summary). s.setup) tells.after ∙ c.transcripts_are_followed.ensures.kept g.host entry in
    subst (λ (output : ℕ). output < between.host.setup.outputs) (sym same)
    (subst (λ (setup : Setup). c.args.course.now.output < setup.outputs) (sym kept) c.in-Ok.ensures.output)

pub returns : goal.returns
returns c =
    let entry = entry_told c.args.told in
    let stops = c.args.stops in
    let host = c.args.host.now in
    let course = c.args.course.now in
    let between = guard_in c.hear_by-heard.new.host in
    let new = c.go_on-next.new.host in
    let g = guard_in host in
    let next = guard_in new in
    let found : guard_of new ≡ Some next = rw (c.go_on-next.ensures.there.there) refl in
    let was = course_held course in
    let heard = c.hear_by-heard.new.self in
    let is = c.go_on-next.new.self in
    let at = c.in-Some.at in
    let i = c.put.new.sending in
    let tells = c.hear_by-heard.ensures.told in
    let opened : g.host.stage ≡ Some at = sym c.in-Ok.ensures.stage ∙ c.in-Some.is in
    let waits : is_awaited at c.args.told ≡ true = sym c.awaits.ensures ∙ c.if-not-awaits.false in
    let hear : Hears g was entry (Ok tt) between heard =
    subst (λ (f : FrameCourse). Hears g f entry (Ok tt) between heard) c.held-asked.ensures
    (hears-by g between c.held-asked.result heard at c.args.told c.hear_by-heard.result opened waits tells) in
    let put : IsPut next c.go_on-next.result i = c.put.ensures in
    let goes : GoesOn stops between heard put.sent next is = c.go_on-next.ensures.goes put.sent put.of_stage in
    let addr : host.host.state.address ≡ g.host.setup.addr = ap (λ (s : Summary). s.setup.addr) c.in-Ok.ensures.there.whole in
    let answered : c.step_after-step.result ≡ heard_step g entry =
    c.step_after-step.ensures
    ∙ ap (λ (a : ℕ). host_step (told_fault a (stage_message at) entry) c.hear_by-heard.result.step) addr
    ∙ ap (λ (step : Step). host_step (told_fault g.host.setup.addr (stage_message at) entry) step) tells.step
    ∙ ap (λ (f : ℕ). host_step f (step_of g.host entry)) (fault-at g.host at entry opened) in
    let written = λ (old : IsMemory host). c.go_on-next.ensures.written (c.hear_by-heard.ensures.written old) in
    let is_after : IsAfter host new next = record { guard = found; written = written } in
    subst (λ (s : HostStep). HearsOnIn stops host course entry s new c.write.new.self i) (sym answered)
    (subst (λ (image : CourseImage). HearsOnIn stops host course entry (heard_step g entry) new image i) (sym c.write.ensures)
    (hears_on g between next was heard is put.sent new i c.in-Ok.ensures.both hear goes put.frame is_after))
