use Rattle.pm_memory.proofs.Kept.{hearings, sequences}
use Rattle.pm_memory.proofs.laws.sequences_are_kept.Goals as goal

pub returns-clause-written : goal.returns-clause-written
returns-clause-written c = sequences

pub returns-clause-heard : goal.returns-clause-heard
returns-clause-heard c = hearings
