use Rattle.std.proofs.Common.{subst}
use Rattle.std.specs.Prelude.{List}
use Rattle.pm_limits.specs.Part.{all_registers}
use Rattle.pm_world.specs.declared.event.Event.{Event}
use Rattle.pm_world.specs.Lived.{IsLived}
use Rattle.pm_law_tests.proofs.Uses.{found-lived, whole-had}
use Rattle.pm_law_tests.proofs.frame_courses.a_course_that_turns_on.Goals as goal

pub returns : goal.returns
returns c = found-lived c.run_all.result _ _
    (λ lived spelled output byte tries course own later before is on begins.
    c.frame_courses_hold_in_lives.ensures.on c.args.c c.args.passes all_registers output byte tries course own later before on spelled
    (subst (λ (es : List Event). IsLived c.args.c c.args.passes es) is lived) (whole-had c.args.c c.args.passes output later before) begins)
    c.run_all.ensures.lived c.run_all.ensures.sound
