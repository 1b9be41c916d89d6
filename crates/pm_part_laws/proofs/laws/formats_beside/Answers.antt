use Rattle.pm_part_laws.proofs.Knowledge.{formats}
use Rattle.pm_part_laws.proofs.laws.formats_beside.Goals as goal

pub returns : goal.returns
returns c = formats c.same_settings_live_alike.ensures c.learned_formats_are_true.ensures
