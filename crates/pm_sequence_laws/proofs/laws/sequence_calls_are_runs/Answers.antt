use Rattle.pm_sequence_laws.proofs.Calls.{runs-in-memory}
use Rattle.pm_sequence_laws.proofs.laws.sequence_calls_are_runs.Goals as goal

pub returns : goal.returns
returns c = runs-in-memory c.sequences_are_kept.ensures.written c.calls_are_runs.ensures c.reached_sequences_deliver.ensures
