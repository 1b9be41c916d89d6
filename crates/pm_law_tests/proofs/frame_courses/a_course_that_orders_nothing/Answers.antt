use Rattle.std.proofs.Common.{subst}
use Rattle.std.specs.Prelude.{List}
use Rattle.pm_world.specs.declared.event.Event.{Event}
use Rattle.pm_world.specs.Lived.{IsLived}
use Rattle.pm_law_tests.proofs.Uses.{found-lived}
use Rattle.pm_law_tests.proofs.frame_courses.a_course_that_orders_nothing.Goals as goal

pub returns-clause-unformed : goal.returns-clause-unformed
returns-clause-unformed c = found-lived c.run_all.result _ _
    (λ lived spelled part output words voltages tries course own later before refusal is faults begins.
    c.frame_courses_hold_in_lives.ensures.unformed c.args.c c.args.passes part output words voltages tries course own later before refusal
    spelled (subst (λ (es : List Event). IsLived c.args.c c.args.passes es) is lived) faults begins)
    c.run_all.ensures.lived c.run_all.ensures.sound

pub returns-clause-surveys : goal.returns-clause-surveys
returns-clause-surveys c = found-lived c.run_all.result _ _
    (λ lived spelled part output tries course own later before is begins.
    c.frame_courses_hold_in_lives.ensures.surveys c.args.c c.args.passes part output tries course own later before spelled
    (subst (λ (es : List Event). IsLived c.args.c c.args.passes es) is lived) begins)
    c.run_all.ensures.lived c.run_all.ensures.sound
