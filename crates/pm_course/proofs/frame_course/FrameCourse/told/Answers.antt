use Rattle.std.proofs.Common.{◌≡◌, ◌∙◌, true, Some, Ok, sym, subst}
use Rattle.pm_host.specs.Refusals.{may_come}
use Rattle.pm_host.specs.Told.{entry_told}
use Rattle.pm_course.specs.declared.frame_course.FrameCourse.{FrameCourse}
use Rattle.pm_course.specs.Frames.{Hears, heard, nothing, other}
use Rattle.pm_course.specs.Lemmas.Awaited.{comes-awaited}
use Rattle.pm_course.proofs.frame_course.FrameCourse.told.Goals as goal

pub returns-in_default-clause-hears : goal.returns-in_default-clause-hears
returns-in_default-clause-hears g c = nothing (sym c.stage.ensures ∙ c.in_default.is)

pub returns-then-not-awaits-clause-hears : goal.returns-then-not-awaits-clause-hears
returns-then-not-awaits-clause-hears g c =
    let old = g.H.Hosted.guarded c.args.host.now in
    let opened : old.host.stage ≡ Some c.in-Some.stage = sym c.stage.ensures ∙ c.in-Some.is in
    other c.in-Some.stage opened
    (comes-awaited old.host c.in-Some.stage c.args.told opened ∙ sym c.awaits.ensures ∙ c.if-not-awaits.true)

pub returns-clause-hears : goal.returns-clause-hears
returns-clause-hears g c =
    let old = g.H.Hosted.guarded c.args.host.now in
    let new = g.H.Hosted.guarded c.hear_by.new.host in
    let tells = c.hear_by.ensures.told in
    let opened : old.host.stage ≡ Some c.in-Some.stage = sym c.stage.ensures ∙ c.in-Some.is in
    let comes : may_come old.host (entry_told c.args.told) ≡ true =
    comes-awaited old.host c.in-Some.stage c.args.told opened ∙ sym c.awaits.ensures ∙ c.if-not-awaits.false in
    subst (λ (after : FrameCourse). Hears old c.args.self.now (entry_told c.args.told) (Ok tt) new after) (sym tells.heard)
    (heard c.in-Some.stage new opened comes tells.after tells.limits tells.registers)
