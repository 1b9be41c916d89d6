use Rattle.pm_part_laws.proofs.LateWords.{late-confirmed}
use Rattle.pm_part_laws.proofs.laws.late_confirmations_are_held.Goals as goal

pub returns : goal.returns
returns c = late-confirmed c.lower_laws.ensures
