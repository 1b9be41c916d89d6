use Rattle.std.proofs.Common.{append_assoc, subst, sym, ◌∙◌}
use Rattle.std.specs.Prelude.{List, ◌++◌}
use Rattle.pm_course.specs.declared.course_end.CourseEnd.TheVariants.{Reached}
use Rattle.pm_course.specs.declared.course_end.CourseNext.TheVariants.{Ended}
use Rattle.pm_course.specs.FrameCourse.{SaysNext}
use Rattle.pm_world.specs.declared.event.Event.{Event}
use Rattle.pm_world.specs.Bands.{HoldsMissing}
use Rattle.pm_world.specs.Life.{now}
use Rattle.pm_world.specs.Lived.{IsLived}
use Rattle.pm_world.specs.Surveys.{MissingUnread}
use Rattle.pm_course_laws.specs.Reached.{HoldsWanted, ReadsStand}
use Rattle.pm_law_tests.proofs.Uses.{found-lived}
use Rattle.pm_law_tests.proofs.progress.a_course_that_read_all_again.Goals as goal

pub returns : goal.returns
returns c = found-lived c.run_all.result _ _
    (λ lived spelled part limits output words wanted voltages tries course after own newer older before is here means way are steady
    unread missing on says.
    let config = c.args.c in
    let passes = c.args.passes in
    let same = is ∙ sym (append_assoc newer older before) in
    let stand = subst (λ (es : List Event). ReadsStand config passes course.course.survey es) (sym (append_assoc newer older before))
    (c.reached_since_it_read.ensures.steady config passes course.course.survey newer (older ++ before) are steady) in
    subst (λ (es : List Event). HoldsWanted config passes part output wanted es) (sym same)
    (c.reached_since_it_read.ensures.reached config passes part limits output words wanted voltages tries course after own (newer ++ older) before
    spelled (subst (λ (es : List Event). IsLived config passes es) same lived) here means way stand
    (subst (λ (es : List Event). MissingUnread config passes part output es) same unread)
    (subst (λ (es : List Event). HoldsMissing part config (now config passes es).device.words output) same missing) on
    (subst (λ (es : List Event). SaysNext part limits (now config passes es).host course (Ended Reached) after) same says)))
    c.run_all.ensures.lived c.run_all.ensures.sound
