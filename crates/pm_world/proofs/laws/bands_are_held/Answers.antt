use Rattle.pm_world.proofs.Retold.{in-band}
use Rattle.pm_world.proofs.laws.bands_are_held.Goals as goal

pub returns : goal.returns
returns c = λ config passes part events output band spelled lived here short stands holds is.
    in-band c.lower_laws.ensures part output band lived spelled here short stands holds is
