use Rattle.std.proofs.Common.{List, arith, subst}
use Rattle.pm_limits.specs.Part.{all_registers}
use Rattle.pm_world.specs.declared.event.Event.{Event}
use Rattle.pm_world.specs.Lived.{IsLived}
use Rattle.pm_law_tests.proofs.Uses.{found-lived, has-all}
use Rattle.pm_law_tests.proofs.progress.a_survey_gets_there.Goals as goal

pub returns : goal.returns
returns c = found-lived c.run_all.result _ _
    (λ lived spelled limits output course own n later before is here idle undisturbed.
    c.frame_courses_get_there.ensures.surveys c.args.c c.args.passes all_registers limits output 10 course own n later before spelled
    (subst (λ (es : List Event). IsLived c.args.c c.args.passes es) is lived) here idle (has-all _) (omega arith) undisturbed)
    c.run_all.ensures.lived c.run_all.ensures.sound
