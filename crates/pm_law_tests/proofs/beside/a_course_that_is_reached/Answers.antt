use Rattle.std.proofs.Common.{List, ◌∙◌, ap, subst, sym}
use Rattle.pm_table.specs.declared.cell.Cell.TheVariants.{Out}
use Rattle.pm_model.specs.Settings.{word_at}
use Rattle.pm_device.specs.Held.{Held}
use Rattle.pm_host.specs.Summary.{Summary}
use Rattle.pm_limits.specs.Part.{all_registers}
use Rattle.pm_course.specs.declared.course_end.CourseEnd.TheVariants.{Reached}
use Rattle.pm_course.specs.declared.course_end.CourseNext.TheVariants.{Ended}
use Rattle.pm_course.specs.FrameCourse.{SaysNext}
use Rattle.pm_part_laws.specs.Happenings.{Happening, IsLifeBeside, beside}
use Rattle.pm_law_tests.proofs.beside.a_course_that_is_reached.Goals as goal

pub returns : goal.returns
returns g c output words wanted voltages tries course is own limits register word later before at means begins on says wants =
    let held = g.life.held in
    let passes = g.life.passes in
    let led = c.requires in
    let keeps = c.frame_courses_hold_beside.ensures.words held passes all_registers output words wanted voltages tries course own later before
    (subst (λ (l : List Happening). IsLifeBeside held passes l) at led.lived) means begins in
    ap (λ (d : Held). word_at d.words (Out output register)) led.device_is
    ∙ (ap (λ (l : List Happening). word_at (beside held passes l).device.words (Out output register)) at
    ∙ keeps.come_true (c.plans_hold_in_lives.ensures.whole held.config (beside held passes before).device.words output) limits is register word on
    (subst (λ (l : List Happening). SaysNext all_registers limits (beside held passes l).host course (Ended Reached) is) at
    (subst (λ (s : Summary). SaysNext all_registers limits s course (Ended Reached) is) led.host_is says)) wants)
