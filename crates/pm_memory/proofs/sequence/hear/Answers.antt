use Rattle.std.proofs.Common.{◌≡◌, ◌∙◌, ℕ, true, false, Option, Some, None, ap, subst, sym, refl, rules}
use Rattle.std.specs.Prelude.{is_none}
use Rattle.pm_host.specs.declared.fault.Untold.TheVariants.{NothingSent, WrongKind}
use Rattle.pm_host.specs.declared.host.Step.{Step}
use Rattle.pm_host.specs.declared.stage.Stage.{Stage}
use Rattle.pm_host.specs.declared.stage.Stage.TheVariants.{Writes, Reads, Asks, Sends}
use Rattle.pm_host.specs.Sound.{AcceptsWrittenWord, IsSound}
use Rattle.pm_host.specs.Summary.{Summary, stage_message, step_of}
use Rattle.pm_host.specs.Told.{entry_told, is_awaited}
use Rattle.pm_course.specs.Frames as frames
use Rattle.pm_course.specs.Lemmas.Awaited.{comes-awaited}
use Rattle.pm_sequence.specs.Frames.{nothing}
use Rattle.pm_stairs.specs.OpenCourse.{course_open}
use Rattle.pm_memory.specs.declared.sequence_image.SequenceImage.{SequenceImage}
use Rattle.pm_memory.specs.Guard.{guard_of}
use Rattle.pm_memory.specs.Hosted.{guard_in}
use Rattle.pm_memory.specs.SequenceImage.{sequence_meant}
use Rattle.pm_memory.specs.declared.host_step.HostStep.{HostStep}
use Rattle.pm_memory.specs.Course.{heard_step}
use Rattle.pm_memory.specs.Host.{host_step, told_fault}
use Rattle.pm_memory.specs.Sequence.{hears_it, unasked, HearsIn}
use Rattle.pm_memory.proofs.Calls.{fault-at, none-open, some-open, told-at, unheard}
use Rattle.pm_memory.proofs.sequence.hear.Goals as goal

pub returns-in_default : goal.returns-in_default
returns-in_default c =
    let entry = entry_told c.args.told in
    let g = guard_in c.args.host.now in
    let q = sequence_meant c.args.sequence.now in
    let shut : g.host.stage ≡ None = sym c.requires.stage ∙ c.in_default.is in
    let w = unheard g q entry NothingSent (λ course. frames.nothing shut) in
    subst (λ (s : HostStep). HearsIn c.args.host.now c.args.sequence.now entry s c.args.host.now c.args.sequence.now)
    (sym c.no_step.ensures) (unasked g q w.is w.fault c.requires.both w.hears)

pub returns-then-not-awaits : goal.returns-then-not-awaits
returns-then-not-awaits c =
    let entry = entry_told c.args.told in
    let g = guard_in c.args.host.now in
    let q = sequence_meant c.args.sequence.now in
    let opened : g.host.stage ≡ Some c.in-Some.at = sym c.requires.stage ∙ c.in-Some.is in
    let other : is_awaited c.in-Some.at c.args.told ≡ false = sym c.awaits.ensures ∙ c.if-not-awaits.true in
    let w = unheard g q entry WrongKind
    (λ course. frames.other c.in-Some.at opened (comes-awaited g.host c.in-Some.at c.args.told opened ∙ other)) in
    subst (λ (s : HostStep). HearsIn c.args.host.now c.args.sequence.now entry s c.args.host.now c.args.sequence.now)
    (sym c.no_step-then-not-awaits.ensures) (unasked g q w.is w.fault c.requires.both w.hears)

pub returns-then-not-has_course : goal.returns-then-not-has_course
returns-then-not-has_course c =
    let entry = entry_told c.args.told in
    let g = guard_in c.args.host.now in
    let q = sequence_meant c.args.sequence.now in
    subst (λ (s : HostStep). HearsIn c.args.host.now c.args.sequence.now entry s c.args.host.now c.args.sequence.now)
    (sym c.no_step-then-not-has_course.ensures)
    (unasked g q q NothingSent c.requires.both
    (nothing (none-open (course_open q.list.stairs) (sym c.has_course.ensures ∙ c.if-not-has_course.true))))

word-at : (s : Summary) (at : Stage) → IsSound s → s.stage ≡ Some at → AcceptsWrittenWord at
word-at s (Writes cell word pass) sound opened = search rules
word-at s (Reads cell word pass) sound opened = tt
word-at s (Asks question tries) sound opened = tt
word-at s (Sends command tries) sound opened = tt

pub step_after-requires-clause-word : goal.step_after-requires-clause-word
step_after-requires-clause-word c =
    word-at (guard_in c.args.host.now).host c.in-Some.at c.requires.there.sound (sym c.requires.stage ∙ c.in-Some.is)

pub returns : goal.returns
returns c =
    let entry = entry_told c.args.told in
    let host = c.args.host.now in
    let image = c.args.sequence.now in
    let new = c.hear_by-heard.new.host in
    let g = guard_in host in
    let next = guard_in new in
    let found : guard_of new ≡ Some next = rw (c.hear_by-heard.ensures.there.there) refl in
    let q = sequence_meant image in
    let heard = c.hear_by-heard.ensures.hears in
    let is = heard.is in
    let at = c.in-Some.at in
    let opened : g.host.stage ≡ Some at = sym c.requires.stage ∙ c.in-Some.is in
    let waits : is_awaited at c.args.told ≡ true = sym c.awaits.ensures ∙ c.if-not-awaits.false in
    let some : is_none (course_open q.list.stairs) ≡ false =
    some-open (course_open q.list.stairs) (sym c.has_course.ensures ∙ c.if-not-has_course.false) in
    let did = told-at g next q is at c.args.told c.hear_by-heard.result opened waits some heard.hears in
    let host-is : host.host.state.address ≡ g.host.setup.addr = ap (λ (s : Summary). s.setup.addr) c.requires.there.whole in
    let answered : c.step_after.result ≡ heard_step g entry =
    c.step_after.ensures
    ∙ ap (λ (a : ℕ). host_step (told_fault a (stage_message at) entry) c.hear_by-heard.result.step) host-is
    ∙ ap (λ (step : Step). host_step (told_fault g.host.setup.addr (stage_message at) entry) step) did.step-is
    ∙ ap (λ (f : ℕ). host_step f (step_of g.host entry)) (fault-at g.host at entry opened) in
    subst (λ (s : HostStep). HearsIn host image entry s new c.hear_by-heard.new.self) (sym answered)
    (subst (λ (i : SequenceImage). HearsIn host image entry (heard_step g entry) new i) (sym heard.written)
    (hears_it g next q is new c.requires.both did.hears (record { guard = found; written = c.hear_by-heard.ensures.written })))
