use Rattle.pm_part_laws.proofs.Knowledge.{parts-stay}
use Rattle.pm_part_laws.proofs.laws.parts_stay_parts.Goals as goal

pub returns : goal.returns
returns c = parts-stay c.same_settings_live_alike.ensures c.lives_leave_parts.ensures
