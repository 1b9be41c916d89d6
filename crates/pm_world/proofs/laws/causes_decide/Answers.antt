use Rattle.pm_world.proofs.Events.{free-word, legal-by, taken-by}
use Rattle.pm_world.proofs.laws.causes_decide.Goals as goal

pub returns : goal.returns
returns c = record { word = free-word; taken = taken-by; legal = legal-by }
