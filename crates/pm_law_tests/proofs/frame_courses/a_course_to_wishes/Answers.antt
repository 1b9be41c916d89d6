use Rattle.std.proofs.Common.{subst}
use Rattle.std.specs.Prelude.{List}
use Rattle.pm_world.specs.declared.event.Event.{Event}
use Rattle.pm_world.specs.Lived.{IsLived}
use Rattle.pm_law_tests.proofs.Uses.{found-lived}
use Rattle.pm_law_tests.proofs.frame_courses.a_course_to_wishes.Goals as goal

pub returns : goal.returns
returns c = found-lived c.run_all.result _ _
    (λ lived spelled part output words wanted voltages tries course own later before is means begins.
    c.frame_courses_hold_in_lives.ensures.words c.args.c c.args.passes part output words wanted voltages tries course own later before spelled
    (subst (λ (es : List Event). IsLived c.args.c c.args.passes es) is lived) means begins)
    c.run_all.ensures.lived c.run_all.ensures.sound
