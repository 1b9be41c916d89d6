use Rattle.std.proofs.Common.{subst}
use Rattle.std.specs.Prelude.{List}
use Rattle.pm_world.specs.declared.event.Event.{Event}
use Rattle.pm_world.specs.Lived.{IsLived}
use Rattle.pm_law_tests.proofs.Uses.{found-lived}
use Rattle.pm_law_tests.proofs.frame_courses.a_course_that_turns_off.Goals as goal

pub returns : goal.returns
returns c = found-lived c.run_all.result _ _
    (λ lived spelled part output byte tries course own later before is off begins.
    c.frame_courses_hold_in_lives.ensures.off c.args.c c.args.passes part output byte tries course own later before off spelled
    (subst (λ (es : List Event). IsLived c.args.c c.args.passes es) is lived) begins)
    c.run_all.ensures.lived c.run_all.ensures.sound
