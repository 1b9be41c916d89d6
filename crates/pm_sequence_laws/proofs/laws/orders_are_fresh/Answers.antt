use Rattle.pm_sequence_laws.proofs.Judged.{orders-fresh}
use Rattle.pm_sequence_laws.proofs.laws.orders_are_fresh.Goals as goal

pub returns : goal.returns
returns c = orders-fresh
