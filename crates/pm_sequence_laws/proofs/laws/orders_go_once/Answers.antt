use Rattle.pm_sequence_laws.proofs.Calls.{orders-once}
use Rattle.pm_sequence_laws.proofs.laws.orders_go_once.Goals as goal

pub returns : goal.returns
returns c = orders-once
