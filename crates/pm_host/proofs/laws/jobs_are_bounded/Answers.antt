use Rattle.pm_host.proofs.Jobs.{frames-bound}
use Rattle.pm_host.proofs.laws.jobs_are_bounded.Goals as goal

pub returns : goal.returns
returns c = frames-bound c.cells_have_places.ensures
