use Rattle.std.proofs.Common.{List, ◌++◌, append_assoc, subst, sym, ◌∙◌}
use Rattle.pm_host.specs.Summary.{Summary}
use Rattle.pm_course.specs.declared.course_end.CourseEnd.TheVariants.{Reached}
use Rattle.pm_course.specs.declared.course_end.CourseNext.TheVariants.{Ended}
use Rattle.pm_course.specs.FrameCourse.{SaysNext}
use Rattle.pm_world.specs.Bands.{HoldsMissing}
use Rattle.pm_part_laws.specs.Happenings.{Happening, IsLifeBeside, beside}
use Rattle.pm_part_laws.specs.Surveys.{MissingUnreadBeside}
use Rattle.pm_course_laws.specs.ProgressBeside.{ReadsStandBeside}
use Rattle.pm_course_laws.specs.ReachedBeside.{HoldsWantedBeside}
use Rattle.pm_law_tests.proofs.progress.a_course_that_read_all_again_beside.Goals as goal

pub returns : goal.returns
returns g c part limits output words wanted voltages tries course after own newer older before at here means way are steady unread missing on says =
    let held = g.life.held in
    let passes = g.life.passes in
    let law = c.reached_since_it_read_beside.ensures in
    let parts = append_assoc newer older before in
    let same = at ∙ sym parts in
    let led = c.requires in
    let stand = subst (λ (l : List Happening). ReadsStandBeside held passes course.course.survey l) (sym parts)
    (law.steady held passes course.course.survey newer (older ++ before)
    (subst (λ (l : List Happening). IsLifeBeside held passes l) at led.lived) are steady) in
    subst (λ (l : List Happening). HoldsWantedBeside held passes part output wanted l) (sym same)
    (law.reached held passes part limits output words wanted voltages tries course after own (newer ++ older) before
    (subst (λ (l : List Happening). IsLifeBeside held passes l) same led.lived) here means way stand
    (subst (λ (l : List Happening). MissingUnreadBeside held passes part output l) same unread)
    (subst (λ (l : List Happening). HoldsMissing part held.config (beside held passes l).device.words output) same missing) on
    (subst (λ (l : List Happening). SaysNext part limits (beside held passes l).host course (Ended Reached) after) same
    (subst (λ (h : Summary). SaysNext part limits h course (Ended Reached) after) led.host_is says)))
