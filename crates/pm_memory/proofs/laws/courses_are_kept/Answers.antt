use Rattle.pm_memory.proofs.Kept.{courses}
use Rattle.pm_memory.proofs.laws.courses_are_kept.Goals as goal

pub returns : goal.returns
returns c = courses
