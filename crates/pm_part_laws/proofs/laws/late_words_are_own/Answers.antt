use Rattle.pm_part_laws.proofs.LateWords.{late-own}
use Rattle.pm_part_laws.proofs.laws.late_words_are_own.Goals as goal

pub returns : goal.returns
returns c = late-own c.lower_laws.ensures
