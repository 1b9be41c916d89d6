use Rattle.std.proofs.Common.{ap, subst}
use Rattle.std.specs.Prelude.{List}
use Rattle.pm_course.specs.FrameCourse.{last_end}
use Rattle.pm_world.specs.declared.event.Event.{Event}
use Rattle.pm_world.specs.Lived.{IsLived}
use Rattle.pm_law_tests.proofs.Uses.{found-lived}
use Rattle.pm_law_tests.proofs.progress.a_course_in_the_middle_gets_there.Goals as goal

pub returns : goal.returns
returns c = found-lived c.run_all.result _ _
    (λ lived spelled part limits output words wanted voltages tries begun course own mine n later earlier before is here means
    way idle on once many are steady there fits undisturbed.
    c.frame_courses_get_there.ensures.goes_on c.args.c c.args.passes part limits output words wanted voltages tries begun course own mine n
    later earlier before spelled (subst (λ (es : List Event). IsLived c.args.c c.args.passes es) is lived) here means way idle
    (ap last_end on) once many
    (c.reached_since_it_read.ensures.steady c.args.c c.args.passes begun.course.survey earlier before are steady) there fits undisturbed)
    c.run_all.ensures.lived c.run_all.ensures.sound
