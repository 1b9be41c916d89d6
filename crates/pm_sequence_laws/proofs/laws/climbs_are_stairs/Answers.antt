use Rattle.pm_sequence_laws.proofs.Callers.{climbs-are-stairs}
use Rattle.pm_sequence_laws.proofs.laws.climbs_are_stairs.Goals as goal

pub returns : goal.returns
returns c = climbs-are-stairs c.events_are_lived.ensures c.stairs_are_followed.ensures c.moves_are_due.ensures
