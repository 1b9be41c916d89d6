use Rattle.pm_world.proofs.Events.{from-start, life-told, now-next, now-nil}
use Rattle.pm_world.proofs.laws.lives_are_followed.Goals as goal

pub returns : goal.returns
returns c = record {
  none = now-nil c.lower_laws.ensures;
  more = now-next c.lower_laws.ensures;
  told = λ config passes events lived. life-told config passes events lived.legal;
  from_start = from-start c.lower_laws.ensures;
}
