use Rattle.std.proofs.Common.{◌≡◌, ℕ, List, length, replicate}
use Rattle.pm_driver.specs.Patience.{asks_patiently}
use Rattle.pm_driver.proofs.SimulatedBuses.{Waits}
use Rattle.pm_driver.proofs.buses.patient.PatientBus.read.Given as goal

abbrev pub invariant-reads : goal.invariant-reads
invariant-reads g l = record {
  tries : l.self.tries ≡ l.fn.self.tries;
  long : length l.answer ≡ length l.fn.answer;
  waits : (came : List ℕ) (new : g.row.A.Denot) → Waits g.A.Adapter.held g.A.Adapter.restarts
      (λ left now. asks_patiently g.A.Adapter.gives left l.request (replicate (length l.fn.answer) 0) now came new) l.fn.self.tries
      l.fn.self.adapter l.tried l.self.adapter;
}
