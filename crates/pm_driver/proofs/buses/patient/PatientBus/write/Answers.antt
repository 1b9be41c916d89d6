use Rattle.std.proofs.Common.{true, false, inl, inr, refl, sym}
use Rattle.pm_driver.specs.Patience.{sends_patiently}
use Rattle.pm_driver.proofs.SimulatedBuses.{waits-last, waits-more, waits-none, waits-over}
use Rattle.pm_driver.proofs.buses.patient.PatientBus.write.Goals as goal

pub writes-init : goal.writes-init
writes-init g c = record {
  tries = refl;
  waits = λ acked new. waits-none g.A.Adapter.held g.A.Adapter.restarts
      (λ left now. sends_patiently g.A.Adapter.gives left c.args.packet.now now acked new) c.args.self.now.tries c.args.self.now.adapter;
}

pub returns-in-Failed-clause-sent : goal.returns-in-Failed-clause-sent
returns-in-Failed-clause-sent g c =
    c.parts_compose.ensures.before_write c.args.packet.now (g.A.Adapter.held c.args.self.now.adapter)
    (g.A.Adapter.restarts c.args.self.now.adapter) (g.A.Adapter.held c.writes.self.adapter) (g.A.Adapter.restarts c.writes.self.adapter)
    (g.A.Adapter.held c.send.new.self) (g.A.Adapter.restarts c.send.new.self)
    (c.writes.invariant.waits false c.send.new.self).unheard c.in-Failed.ensures.sent

pub returns-in-Failed-clause-gives : goal.returns-in-Failed-clause-gives
returns-in-Failed-clause-gives g c = (
  sym c.writes.invariant.tries,
  waits-last g.A.Adapter.held g.A.Adapter.restarts (λ left now. sends_patiently g.A.Adapter.gives left c.args.packet.now now false
      c.send.new.self)
      c.args.self.now.tries c.args.self.now.adapter c.writes.tried c.writes.self.adapter
      (c.writes.invariant.waits false c.send.new.self) c.writes-test.true (λ fewer. inr (inl (c.in-Failed.ensures.gives, refl))),
)

pub returns-in-Acknowledged-clause-sent : goal.returns-in-Acknowledged-clause-sent
returns-in-Acknowledged-clause-sent g c =
    c.parts_compose.ensures.before_write c.args.packet.now (g.A.Adapter.held c.args.self.now.adapter)
    (g.A.Adapter.restarts c.args.self.now.adapter) (g.A.Adapter.held c.writes.self.adapter) (g.A.Adapter.restarts c.writes.self.adapter)
    (g.A.Adapter.held c.send.new.self) (g.A.Adapter.restarts c.send.new.self)
    (c.writes.invariant.waits true c.send.new.self).unheard c.in-Acknowledged.ensures.sent

pub returns-in-Acknowledged-clause-gives : goal.returns-in-Acknowledged-clause-gives
returns-in-Acknowledged-clause-gives g c = (
  sym c.writes.invariant.tries,
  waits-last g.A.Adapter.held g.A.Adapter.restarts (λ left now. sends_patiently g.A.Adapter.gives left c.args.packet.now now true
      c.send.new.self)
      c.args.self.now.tries c.args.self.now.adapter c.writes.tried c.writes.self.adapter
      (c.writes.invariant.waits true c.send.new.self) c.writes-test.true (λ fewer. inr (inr (c.in-Acknowledged.ensures.gives, refl))),
)

pub writes-preserved : goal.writes-preserved
writes-preserved g c = record {
  tries = c.writes.invariant.tries;
  waits = λ acked new. waits-more c.parts_compose.ensures g.A.Adapter.held g.A.Adapter.restarts
      (λ left now. sends_patiently g.A.Adapter.gives left c.args.packet.now now acked new) c.args.self.now.tries c.args.self.now.adapter
      c.writes.tried c.writes.self.adapter c.send.new.self (c.writes.invariant.waits acked new) c.writes-test.true
      c.in-Unheard.ensures.sent (λ fewer rest. inl (c.send.new.self, c.in-Unheard.ensures.gives, rest));
}

pub returns-clause-sent : goal.returns-clause-sent
returns-clause-sent g c =
    c.parts_compose.ensures.lost_write c.args.packet.now (g.A.Adapter.held c.args.self.now.adapter)
    (g.A.Adapter.restarts c.args.self.now.adapter) (g.A.Adapter.held c.writes.self.adapter) (g.A.Adapter.restarts c.writes.self.adapter)
    (c.writes.invariant.waits false c.writes.self.adapter).unheard

pub returns-clause-gives : goal.returns-clause-gives
returns-clause-gives g c = (
  sym c.writes.invariant.tries,
  waits-over g.A.Adapter.held g.A.Adapter.restarts (λ left now. sends_patiently g.A.Adapter.gives left c.args.packet.now now false
      c.writes.self.adapter)
      c.args.self.now.tries c.args.self.now.adapter c.writes.tried c.writes.self.adapter
      (c.writes.invariant.waits false c.writes.self.adapter) c.writes-test.false (refl, refl),
)
