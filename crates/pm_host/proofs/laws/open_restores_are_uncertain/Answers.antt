use Rattle.pm_host.proofs.Jobs.{open_restore}
use Rattle.pm_host.proofs.laws.open_restores_are_uncertain.Goals as goal

pub returns : goal.returns
returns c = record {
  possible = λ setup entries output register told is. (open_restore setup entries output register is).0;
  unknown = λ setup entries output register told is. (open_restore setup entries output register is).1;
}
