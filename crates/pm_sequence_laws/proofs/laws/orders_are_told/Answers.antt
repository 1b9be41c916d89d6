use Rattle.pm_sequence_laws.proofs.Judged.{orders-told}
use Rattle.pm_sequence_laws.proofs.laws.orders_are_told.Goals as goal

pub returns : goal.returns
returns c = orders-told c.cells_are_told_apart.ensures
