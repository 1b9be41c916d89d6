use Rattle.std.proofs.Common.{◌≡◌, Bool, true, false, is_some, refl, sym, ◌∙◌, ap, subst}
use Rattle.pm_host.specs.Refusals.{is_busy}
use Rattle.pm_host.specs.Summary.{Summary}
use Rattle.pm_limits.specs.declared.part_registers.PartRegisters.{PartRegisters}
use Rattle.pm_driver.specs.Courses.{Carries}
use Rattle.pm_driver.proofs.CourseSteps.{carries-nothing, carries-on, keeps-on}
use Rattle.pm_driver.proofs.frames.carry_job.Goals as goal

pub frames-init : goal.frames-init
frames-init g c = record {
  carries = subst (λ (own : Bool). Carries g.B.Bus.gives g.B.Bus.held g.B.Bus.restarts c.args.guard.now.registers c.args.course.now true
      (record { host = c.args.guard.now.host; bus = c.args.bus.now }) c.args.course.now own
      (record { host = c.args.guard.now.host; bus = c.args.bus.now })) (sym c.requires)
      (carries-nothing g.B.Bus.gives g.B.Bus.held g.B.Bus.restarts c.args.guard.now.registers c.args.course.now true
      (record { host = c.args.guard.now.host; bus = c.args.bus.now }));
  keeps = record { left = refl; output = refl; fresh = λ ended. ended; limits = refl; registers = refl; kept = refl };
}

pub frames-preserved : goal.frames-preserved
frames-preserved g c =
    let busy : is_busy c.frames.guard.host ≡ true = ap (λ (s : Summary). is_busy s) (sym c.host.ensures)
    ∙ (ap is_some (sym c.stage.ensures) ∙ ap is_some c.in-Some.is) in
    record {
      carries = carries-on g.B.Bus.gives g.B.Bus.held g.B.Bus.restarts c.args.guard.now.registers c.args.course.now c.frames.course
          c.send_for.new.course true true (is_busy c.send_for.new.guard.host) (record { host = c.args.guard.now.host; bus = c.args.bus.now })
          (record { host = c.frames.guard.host; bus = c.frames.bus })
          (record { host = c.send_for.new.guard.host; bus = c.send_for.new.bus })
          (subst (λ (own : Bool). Carries g.B.Bus.gives g.B.Bus.held g.B.Bus.restarts c.args.guard.now.registers c.args.course.now true
          (record { host = c.args.guard.now.host; bus = c.args.bus.now }) c.frames.course own
          (record { host = c.frames.guard.host; bus = c.frames.bus })) busy c.frames.invariant.carries)
          (subst (λ (p : PartRegisters). Carries g.B.Bus.gives g.B.Bus.held g.B.Bus.restarts p c.frames.course true
          (record { host = c.frames.guard.host; bus = c.frames.bus }) c.send_for.new.course (is_busy c.send_for.new.guard.host)
          (record { host = c.send_for.new.guard.host; bus = c.send_for.new.bus })) c.frames.invariant.keeps.registers
          c.send_for.ensures.carries);
      keeps = keeps-on c.args.guard.now c.frames.guard c.send_for.new.guard c.args.course.now c.frames.course c.send_for.new.course
          c.frames.invariant.keeps c.send_for.ensures.keeps;
    }

pub returns-in-None-clause-carries : goal.returns-in-None-clause-carries
returns-in-None-clause-carries g c =
    let idle : is_busy c.frames.guard.host ≡ false = ap (λ (s : Summary). is_busy s) (sym c.host.ensures)
    ∙ (ap is_some (sym c.stage.ensures) ∙ ap is_some c.in-None.is) in
    subst (λ (own : Bool). Carries g.B.Bus.gives g.B.Bus.held g.B.Bus.restarts c.args.guard.now.registers c.args.course.now true
    (record { host = c.args.guard.now.host; bus = c.args.bus.now }) c.frames.course own
    (record { host = c.frames.guard.host; bus = c.frames.bus })) idle c.frames.invariant.carries
