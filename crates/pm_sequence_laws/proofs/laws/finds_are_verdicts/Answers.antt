use Rattle.pm_sequence_laws.proofs.Found.{finds-verdicts}
use Rattle.pm_sequence_laws.proofs.laws.finds_are_verdicts.Goals as goal

pub returns : goal.returns
returns c = finds-verdicts
