use Rattle.pm_part_laws.proofs.LateWords.{late-possible}
use Rattle.pm_part_laws.proofs.laws.late_words_were_possible.Goals as goal

pub returns : goal.returns
returns c = late-possible c.lower_laws.ensures
