use Rattle.std.proofs.Common.{◌≡◌, ◌∙◌, true, false, Some, None, sym}
use Rattle.pm_host.specs.declared.fault.Untold.TheVariants.{NothingSent, WrongKind}
use Rattle.pm_host.specs.Refusals.{may_come}
use Rattle.pm_host.specs.Told.{entry_told, is_awaited}
use Rattle.pm_course.specs.Frames as course
use Rattle.pm_course.specs.Lemmas.Awaited.{comes-awaited}
use Rattle.pm_stairs.specs.OpenCourse.{course_open}
use Rattle.pm_sequence.specs.Frames.{nothing}
use Rattle.pm_sequence.proofs.SequenceFrames.{hears-told, unheard}
use Rattle.pm_sequence.proofs.sequence.Sequence.told.Goals as goal

pub returns-in_default-clause-hears : goal.returns-in_default-clause-hears
returns-in_default-clause-hears g c = nothing (sym c.course_open.ensures ∙ c.in_default.is)

pub returns-in_default-stage-clause-hears : goal.returns-in_default-stage-clause-hears
returns-in_default-stage-clause-hears g c =
    let old = g.H.Hosted.guarded c.args.host.now in
    let closed : old.host.stage ≡ None = sym c.stage.ensures ∙ c.in_default-stage.is in
    unheard old c.args.self.now (entry_told c.args.told) c.in-Some._course NothingSent (sym c.course_open.ensures ∙ c.in-Some.is)
    (course.nothing closed)

pub returns-then-not-awaits-clause-hears : goal.returns-then-not-awaits-clause-hears
returns-then-not-awaits-clause-hears g c =
    let old = g.H.Hosted.guarded c.args.host.now in
    let opened : old.host.stage ≡ Some c.in-Some-stage.stage = sym c.stage.ensures ∙ c.in-Some-stage.is in
    let other : is_awaited c.in-Some-stage.stage c.args.told ≡ false = sym c.awaits.ensures ∙ c.if-not-awaits.true in
    unheard old c.args.self.now (entry_told c.args.told) c.in-Some._course WrongKind (sym c.course_open.ensures ∙ c.in-Some.is)
    (course.other c.in-Some-stage.stage opened (comes-awaited old.host c.in-Some-stage.stage c.args.told opened ∙ other))

pub returns-clause-hears : goal.returns-clause-hears
returns-clause-hears g c =
    let old = g.H.Hosted.guarded c.args.host.now in
    let new = g.H.Hosted.guarded c.hear_by.new.host in
    let opened : old.host.stage ≡ Some c.in-Some-stage.stage = sym c.stage.ensures ∙ c.in-Some-stage.is in
    let comes : may_come old.host (entry_told c.args.told) ≡ true =
    comes-awaited old.host c.in-Some-stage.stage c.args.told opened ∙ sym c.awaits.ensures ∙ c.if-not-awaits.false in
    hears-told old new c.args.self.now c.hear_by.new.self c.in-Some-stage.stage c.args.told c.hear_by.result c.in-Some._course
    (sym c.course_open.ensures ∙ c.in-Some.is) opened comes c.hear_by.ensures.hears
