use Rattle.pm_world.proofs.HeldWords.{possible-held, seen-true}
use Rattle.pm_world.proofs.laws.possible_words_are_held.Goals as goal

pub returns : goal.returns
returns c = record { held = possible-held c.lower_laws.ensures; seen = seen-true c.lower_laws.ensures }
