use Rattle.std.proofs.Common.{Ok, ◌∙◌, subst}
use Rattle.pm_driver.specs.Driven.{Driving, Runs}
use Rattle.pm_driver.proofs.Lives.{begun-busy, job-lived}
use Rattle.pm_driver.proofs.Jobs.{guard-begun, runs-so}
use Rattle.pm_driver.proofs.driver.Driver.run.Goals as goal

pub unreachable-requires : goal.unreachable-requires
unreachable-requires g c =
    let busy = begun-busy c.self.inside.guard.host c.begin.new.self.host c.args.job c.in_ok-begin.ensures.ok in
    let none = c.in-None.ensures.some ∙ busy in cc

pub invariant_of-self-2 : goal.invariant_of-self-2
invariant_of-self-2 g c =
    job-lived g.B.Bus.gives g.B.Bus.held g.B.Bus.restarts c.jobs_lead.ensures c.leads_compose.ensures c.args.job c.in-Some.end
    (record { host = c.self.inside.guard.host; bus = c.self.inside.bus })
    (record { host = c.carry_out.new.guard.host; bus = c.carry_out.new.bus }) c.begin.new.self.host c.self.invariant
    (guard-begun c.self.inside.guard c.begin.new.self c.args.job c.in_ok-begin.ensures) c.in-Some.ensures.leads

pub returns : goal.returns
returns g c =
    let after : Driving g.row.B.Denot = record { guard = c.carry_out.new.guard; bus = c.carry_out.new.bus } in
    subst (λ d. Runs g.B.Bus.gives g.B.Bus.held g.B.Bus.restarts c.args.job d (Ok c.in-Some.end) after) c.self.view_is
    (runs-so c.ends_are_true.ensures g.B.Bus.gives g.B.Bus.held g.B.Bus.restarts c.jobs_lead.ensures
    c.leads_compose.ensures c.args.job c.in-Some.end (record { guard = c.self.inside.guard; bus = c.self.inside.bus }) after
    c.begin.new.self c.self.invariant c.in_ok-begin.ensures c.in-Some.ensures.leads c.in-Some.ensures.over c.in-Some.ensures.limits
    c.in-Some.ensures.registers c.in-Some.ensures.kept)
