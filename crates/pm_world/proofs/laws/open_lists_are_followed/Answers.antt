use Rattle.std.proofs.Common.{refl}
use Rattle.pm_world.specs.Life.{life}
use Rattle.pm_world.proofs.Standings.{is-open, open-is}
use Rattle.pm_world.proofs.HeldWords.{open-more}
use Rattle.pm_world.proofs.laws.open_lists_are_followed.Goals as goal

pub returns : goal.returns
unfolding life
returns c = record {
  none = λ config passes. refl;
  more = open-more c.lower_laws.ensures;
  test = λ found. (open-is found, is-open found);
}
