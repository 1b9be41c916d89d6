use Rattle.std.proofs.Common.{refl}
use Rattle.pm_world.specs.Way.{way_of}
use Rattle.pm_world.proofs.HonestOrders.{ahead-by, gone-by, sent-by, through-by}
use Rattle.pm_world.proofs.laws.ways_are_followed.Goals as goal

pub returns : goal.returns
unfolding way_of
returns c =
    let laws = c.lower_laws.ensures in
    record {
      none = λ config passes. refl;
      more = λ config passes events event. refl;
      sent = λ config passes events cell word whole lived. sent-by laws lived;
      through = λ config passes events cell word lived. through-by laws lived;
      went = λ config passes events cell word lived is. gone-by laws lived ((through-by laws lived).0 is);
      ahead = ahead-by laws;
    }
