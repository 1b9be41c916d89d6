-- Plans by which the converter never restarts: this project's own choice.
use Rattle.std.specs.Prelude.{◌≡◌, ℕ, List, Result}
use Rattle.pm_table.specs.declared.cell.Cell.{Cell}
use Rattle.pm_device.specs.Held.{Held}
use Rattle.pm_host.specs.declared.fault.HostFault.{HostFault}
use Rattle.pm_host.specs.declared.job.Job.{Job}
use Rattle.pm_host.specs.declared.job.JobEnd.{JobEnd}
use Rattle.pm_limits.specs.declared.fault.LimitFault.{LimitFault}
use Rattle.pm_driver.specs.Acts.{Call}
use Rattle.pm_driver.specs.Driven.{Driving, HasNoRestartSince, Runs}
use Rattle.pm_driver.specs.Looks.{Looks}
use Rattle.pm_driver.specs.Patience.{gives_patiently}
use Rattle.pm_driver.specs.Plan.{device_in, gives_so, restarts_of, restarts_so, tries_so}
use Rattle.pm_driver.specs.declared.buses.patient.Patient.{Patient}
use Rattle.pm_driver.specs.declared.buses.simulated_bus.SimulatedBus.{SimulatedBus}

-- the plan has no restart, and since whichever cell was read the converter didn't restart
pub record NeverRestarts (driver : Driving SimulatedBus) : Type 0 where
  pub none : restarts_of driver.bus.plan.now ≡ 0
  pub since : (cell : Cell) → HasNoRestartSince cell driver.guard.host driver.bus.device

-- Each job of a driver over a simulated bus keeps that.
abbrev pub NeverRestartsStays : Type 0
NeverRestartsStays = (job : Job) (old new : Driving SimulatedBus) (result : Result JobEnd LimitFault) →
    Runs gives_so device_in restarts_so job old result new → NeverRestarts old → NeverRestarts new

-- Each read that is no job keeps `NeverRestarts`, of a driver over a simulated bus.
abbrev pub ReadsKeepNeverRestarts : Type 0
ReadsKeepNeverRestarts = (request room answer : List ℕ) (old new : Driving SimulatedBus) (result : Result ℕ HostFault) →
    Looks gives_so device_in restarts_so request room old result answer new → NeverRestarts old → NeverRestarts new

-- what a patient bus over a simulated one has at its other end, how often that restarted, and what its calls give
abbrev pub patient_device : Patient SimulatedBus → Held
patient_device bus = device_in bus.adapter

abbrev pub patient_restarts : Patient SimulatedBus → ℕ
patient_restarts bus = restarts_so bus.adapter

abbrev pub patient_gives : Patient SimulatedBus → Call → Patient SimulatedBus → Type 0
patient_gives old call new = (old.tries ≡ new.tries) × gives_patiently tries_so old.tries old.adapter call new.adapter

-- a patient bus: its adapter's plan has no restart, and since whichever cell was read the converter didn't restart
pub record PatientNeverRestarts (driver : Driving (Patient SimulatedBus)) : Type 0 where
  pub none : restarts_of driver.bus.adapter.plan.now ≡ 0
  pub since : (cell : Cell) → HasNoRestartSince cell driver.guard.host driver.bus.adapter.device

abbrev pub PatientNeverRestartsStays : Type 0
PatientNeverRestartsStays = (job : Job) (old new : Driving (Patient SimulatedBus)) (result : Result JobEnd LimitFault) →
    Runs patient_gives patient_device patient_restarts job old result new → PatientNeverRestarts old → PatientNeverRestarts new
