use Rattle.pm_device.proofs.Past.{now-origin, now-ever, now-stored, now-accepted, now-stored_accepted}
use Rattle.pm_device.proofs.laws.words_have_an_origin.Goals as goal

pub returns : goal.returns
returns c =
    let map = c.settings_are_a_map.ensures in
    let told = c.cells_are_told_apart.ensures in
    record {
      origin = λ config past cell some few heard here.
          now-origin map told c.writes_are_exact.ensures config past cell (record { some = some; few = few }) heard here;
      stored = λ config past cell some few here. now-stored map told config past cell few here;
      ever = λ config past cell some few heard here.
          (now-ever map told c.writes_are_exact.ensures config past cell (record { some = some; few = few }) heard here).0;
      stored_ever = λ config past cell some few heard here.
          (now-ever map told c.writes_are_exact.ensures config past cell (record { some = some; few = few }) heard here).1;
      accepted = now-accepted map told;
      stored_accepted = now-stored_accepted map told;
    }
