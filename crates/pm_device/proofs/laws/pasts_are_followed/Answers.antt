use Rattle.pm_device.proofs.Past.{now-nil, now-next, now-page, now-words, now-store}
use Rattle.pm_device.proofs.Replies.{vout-looked_up, cml-looked_up, now-shows}
use Rattle.pm_device.proofs.laws.pasts_are_followed.Goals as goal

pub returns : goal.returns
returns c =
    let map = c.settings_are_a_map.ensures in
    let alone = c.outputs_stand_alone.ensures in
    record {
      none = now-nil;
      more = λ config past event some few. now-next map alone config (record { some = some; few = few }) past event;
      vout = vout-looked_up;
      cml = cml-looked_up;
      shows = now-shows;
      page = now-page;
      words = now-words map;
      store = now-store map;
    }
