use Rattle.std.proofs.Common.{true}
use Rattle.pm_host.specs.Frames.{frames_left}
use Rattle.pm_host.specs.Refusals.{is_busy}
use Rattle.pm_driver.specs.Courses.{Carries, KeepsTo}
use Rattle.pm_driver.proofs.frames.carry_job.Given as goal

abbrev pub invariant-frames : goal.invariant-frames
invariant-frames g l = record {
  carries : Carries g.B.Bus.gives g.B.Bus.held g.B.Bus.restarts l.fn.guard.registers l.fn.course true
      (record { host = l.fn.guard.host; bus = l.fn.bus }) l.course (is_busy l.guard.host) (record { host = l.guard.host; bus = l.bus });
  keeps : KeepsTo l.fn.guard l.fn.course l.guard l.course;
}

abbrev pub decreases-frames : goal.decreases-frames
decreases-frames g l = frames_left l.guard.host
