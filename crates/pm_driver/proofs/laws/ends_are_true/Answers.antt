use Rattle.pm_driver.proofs.Jobs.{ends-are-true}
use Rattle.pm_driver.proofs.laws.ends_are_true.Goals as goal

pub returns : goal.returns
returns c =
    ends-are-true c.cells_are_told_apart.ensures c.transcripts_are_followed.ensures c.laws_of_lives.ensures
