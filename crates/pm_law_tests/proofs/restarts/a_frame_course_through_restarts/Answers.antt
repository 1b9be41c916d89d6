use Rattle.std.proofs.Common.{◌≡◌, ℕ, List, subst}
use Rattle.std.specs.Prelude.{Some, reverse}
use Rattle.pm_course.specs.FrameCourse.{with_plan}
use Rattle.pm_course_laws.specs.FrameWays.{FrameCoursesGoTheirWay}
use Rattle.pm_device.specs.declared.config.Config.{Config}
use Rattle.pm_world.specs.declared.event.Event.{Event}
use Rattle.pm_world.specs.Honest.{IsSpelled}
use Rattle.pm_world.specs.Lived.{IsLived}
use Rattle.pm_course_laws.specs.Restarts.{CoursesKeepBetween}
use Rattle.pm_law_tests.specs.Restarts.{WritesWishes}
use Rattle.pm_law_tests.proofs.Uses.{found-lived}
use Rattle.pm_law_tests.proofs.restarts.a_frame_course_through_restarts.Goals as goal

writes : CoursesKeepBetween → FrameCoursesGoTheirWay → (config : Config) (passes : ℕ) (events : List Event) → IsSpelled config →
    IsLived config passes events → WritesWishes config passes events
unfolding WritesWishes
writes law way config passes events spelled lived part output words wanted voltages tries c own later before is here idle means
    frames unstored =
    let lived' = subst (IsLived config passes) is lived in
    law.writes config passes part output wanted tries (with_plan c.course (Some wanted)) later before (record {
      spelled = spelled;
      lived = lived';
      here = here;
      idle = idle;
      is_course = way config passes part output words wanted voltages tries c own later before spelled lived' here means frames;
      unstored = unstored;
    })

pub returns : goal.returns
returns c = found-lived c.run_all.result _ _ (λ lived spelled. writes c.courses_keep_between.ensures
    c.frame_courses_go_their_way.ensures c.args.c c.args.passes (reverse c.args.events.now) spelled lived) c.run_all.ensures.lived c.run_all.ensures.sound
