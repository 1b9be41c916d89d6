use Rattle.pm_world.proofs.Bytes.{heard-legal, return-legal, answered-legal}
use Rattle.pm_world.proofs.laws.betrayed_damage_is_legal.Goals as goal

pub returns : goal.returns
returns c = record {
  heard = heard-legal c.lower_laws.ensures;
  came_back = λ addr request frame payload answer bytes whole asked is damage. return-legal c.lower_laws.ensures whole asked is damage;
  answered = λ held request frame heard whole others within are. answered-legal c.lower_laws.ensures held request whole others within are;
}
