use Rattle.std.proofs.Common.{subst}
use Rattle.pm_course.specs.declared.frame_course.FrameCourse.{FrameCourse}
use Rattle.pm_driver.specs.Courses.{RunsCourse}
use Rattle.pm_law_tests.proofs.Uses.{wishes-held}
use Rattle.pm_law_tests.proofs.drivers.a_course_over_a_bus.Goals as goal

pub returns : goal.returns
returns g c =
    wishes-held c.frame_courses_hold_in_lives.ensures c.plans_hold_in_lives.ensures c.whole_parts_miss_nothing.ensures g.B.Bus.gives
    g.B.Bus.held g.B.Bus.restarts c.args.output c.args.wishes.now c.args.tries c.args.driver.now c.run_course.new.self c.run_course.result
    c.run_course.new.course c.requires.idle c.requires.whole
    (subst (λ (x : FrameCourse). RunsCourse g.B.Bus.gives g.B.Bus.held g.B.Bus.restarts c.args.driver.now x c.run_course.result
    c.run_course.new.self c.run_course.new.course) c.new-course.ensures (c.run_course.ensures.runs c.requires.idle))
