use Rattle.std.proofs.Common.{None}
use Rattle.pm_driver.proofs.Lives.{leads-lived}
use Rattle.pm_driver.proofs.driver.Driver.run_course.Goals as goal

pub invariant_of-self : goal.invariant_of-self
invariant_of-self g c =
    let carries = c.carry_course.ensures.carries in
    leads-lived g.B.Bus.gives g.B.Bus.held g.B.Bus.restarts carries.asked None (record { host = c.self.inside.guard.host; bus = c.self.inside.bus })
    (record { host = c.carry_course.new.guard.host; bus = c.carry_course.new.bus }) c.self.invariant carries.leads
