use Rattle.pm_part_laws.proofs.Knowledge.{parts-move}
use Rattle.pm_part_laws.proofs.laws.settings_move_beside.Goals as goal

pub returns : goal.returns
returns c = parts-move c.same_settings_live_alike.ensures c.settings_move_by_the_open_job.ensures
