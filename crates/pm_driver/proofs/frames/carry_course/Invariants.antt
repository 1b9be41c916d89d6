use Rattle.std.proofs.Common.{◌≡◌, Some, false}
use Rattle.pm_course.specs.declared.course_end.CourseEnd.TheVariants.{Reached}
use Rattle.pm_host.specs.Refusals.{is_busy}
use Rattle.pm_driver.specs.Courses.{Carries}
use Rattle.pm_driver.proofs.frames.carry_course.Given as goal

abbrev pub invariant-jobs : goal.invariant-jobs
invariant-jobs g l = record {
  carries : Carries g.B.Bus.gives g.B.Bus.held g.B.Bus.restarts l.fn.guard.registers l.fn.course false
      (record { host = l.fn.guard.host; bus = l.fn.bus }) l.course false (record { host = l.guard.host; bus = l.bus });
  idle : is_busy l.guard.host ≡ false;
  output : l.course.course.survey.output ≡ l.fn.course.course.survey.output;
  fresh : l.course.end ≡ Some Reached → l.fn.course.end ≡ Some Reached;
  limits : l.guard.limits ≡ l.fn.guard.limits;
  registers : l.guard.registers ≡ l.fn.guard.registers;
  kept : l.guard.host.setup ≡ l.fn.guard.host.setup;
}

abbrev pub decreases-jobs : goal.decreases-jobs
decreases-jobs g l = l.course.course.survey.left
