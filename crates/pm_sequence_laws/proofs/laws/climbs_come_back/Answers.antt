use Rattle.pm_sequence_laws.proofs.Callers.{climbs-come-back}
use Rattle.pm_sequence_laws.proofs.laws.climbs_come_back.Goals as goal

pub returns : goal.returns
returns c = climbs-come-back c.climbs_are_stairs.ensures c.moves_are_due.ensures c.stairs_go_back.ensures c.stairs_hold_in_lives.ensures
