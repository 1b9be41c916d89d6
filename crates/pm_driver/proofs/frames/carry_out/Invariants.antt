use Rattle.std.proofs.Common.{◌≡◌, [], None}
use Rattle.pm_host.specs.Frames.{frames_left}
use Rattle.pm_host.specs.Refusals.{is_busy}
use Rattle.pm_driver.specs.Lives.{Leads}
use Rattle.pm_driver.proofs.frames.carry_out.Given as goal

abbrev pub invariant-frames : goal.invariant-frames
invariant-frames g l = record {
  leads : Leads g.B.Bus.gives g.B.Bus.held g.B.Bus.restarts [] None (record { host = l.fn.guard.host; bus = l.fn.bus })
      (record { host = l.guard.host; bus = l.bus });
  some : is_busy l.guard.host ≡ is_busy l.fn.guard.host;
  limits : l.guard.limits ≡ l.fn.guard.limits;
  registers : l.guard.registers ≡ l.fn.guard.registers;
  kept : l.guard.host.setup ≡ l.fn.guard.host.setup;
}

abbrev pub decreases-frames : goal.decreases-frames
decreases-frames g l = frames_left l.guard.host
