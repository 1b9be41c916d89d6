use Rattle.pm_driver.specs.Plan.{restarts_so}
use Rattle.pm_driver.proofs.SimulatedBuses.{sent-so}
use Rattle.pm_driver.proofs.buses.simulated_bus.SimulatedBusAdapter.send.Goals as goal

pub returns-then-fault-2-clause-sent : goal.returns-then-fault-2-clause-sent
returns-then-fault-2-clause-sent c =
    sent-so c.parts_compose.ensures c.args.packet.now c.args.self.now.device (restarts_so c.args.self.now) c.turn.new.self.device
    (restarts_so c.turn.new.self) c.deliver_some.new.device c.deliver_some-2.new.device c.turn.ensures.unheard
    c.deliver_some.ensures.is c.deliver_some-2.ensures.is

pub returns-else-fault-2-clause-sent : goal.returns-else-fault-2-clause-sent
returns-else-fault-2-clause-sent c =
    sent-so c.parts_compose.ensures c.args.packet.now c.args.self.now.device (restarts_so c.args.self.now) c.turn.new.self.device
    (restarts_so c.turn.new.self) c.deliver_some.new.device c.deliver_some-2.new.device c.turn.ensures.unheard
    c.deliver_some.ensures.is c.deliver_some-2.ensures.is
