use Rattle.pm_driver.proofs.SimulatedBuses.{got, unheard-so}
use Rattle.pm_driver.proofs.buses.simulated_bus.SimulatedBus.turn.Goals as goal

pub returns-clause-unheard : goal.returns-clause-unheard
returns-clause-unheard c =
    unheard-so c.args.self.now.plan.now c.args.self.now.next c.in-Some.fault.now c.args.self.now.device c.disturb.new.device
    (got c.args.self.now.plan.now c.args.self.now.next c.in-Some.fault.now c.in-Some.ensures.lookup.3.0 c.in-Some.ensures.lookup.3.1)
    c.disturb.ensures.is
