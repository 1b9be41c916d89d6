use Rattle.pm_num.specs.Lemmas.Found.{IsNearest-found}
use Rattle.pm_num.proofs.laws.found_words_are_nearest.Goals as goal

pub returns : goal.returns
returns c = IsNearest-found
