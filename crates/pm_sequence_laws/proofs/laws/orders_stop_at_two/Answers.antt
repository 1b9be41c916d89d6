use Rattle.pm_sequence_laws.proofs.Judged.{stops-at-two}
use Rattle.pm_sequence_laws.proofs.laws.orders_stop_at_two.Goals as goal

pub returns : goal.returns
returns c = stops-at-two
