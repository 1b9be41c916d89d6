use Rattle.pm_driver.proofs.SimulatedBuses.{patient-never-stays}
use Rattle.pm_driver.proofs.buses.laws.patient_never_restarts_stays.Goals as goal

pub returns : goal.returns
returns c = patient-never-stays c.jobs_restart_nothing.ensures
