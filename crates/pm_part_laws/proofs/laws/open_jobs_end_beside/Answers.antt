use Rattle.pm_part_laws.proofs.Alike.{open-jobs-end}
use Rattle.pm_part_laws.proofs.laws.open_jobs_end_beside.Goals as goal

pub returns : goal.returns
returns c = open-jobs-end c.same_settings_live_alike.ensures c.open_jobs_end.ensures
