use Rattle.pm_sequence_laws.proofs.Calls.{calls-run}
use Rattle.pm_sequence_laws.proofs.laws.calls_are_runs.Goals as goal

pub returns : goal.returns
returns c = calls-run
