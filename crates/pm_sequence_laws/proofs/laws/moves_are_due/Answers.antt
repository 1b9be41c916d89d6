use Rattle.pm_sequence_laws.proofs.Callers.{moves-are-due}
use Rattle.pm_sequence_laws.proofs.laws.moves_are_due.Goals as goal

pub returns : goal.returns
returns c = moves-are-due c.cells_are_told_apart.ensures
