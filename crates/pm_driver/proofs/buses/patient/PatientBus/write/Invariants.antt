use Rattle.std.proofs.Common.{◌≡◌, Bool}
use Rattle.pm_driver.specs.Patience.{sends_patiently}
use Rattle.pm_driver.proofs.SimulatedBuses.{Waits}
use Rattle.pm_driver.proofs.buses.patient.PatientBus.write.Given as goal

abbrev pub invariant-writes : goal.invariant-writes
invariant-writes g l = record {
  tries : l.self.tries ≡ l.fn.self.tries;
  waits : (acked : Bool) (new : g.row.A.Denot) → Waits g.A.Adapter.held g.A.Adapter.restarts
      (λ left now. sends_patiently g.A.Adapter.gives left l.packet now acked new) l.fn.self.tries l.fn.self.adapter l.tried
      l.self.adapter;
}
