use Rattle.pm_driver.proofs.Jobs.{no-writes}
use Rattle.pm_driver.proofs.laws.requests_are_no_writes.Goals as goal

pub returns : goal.returns
returns c = no-writes c.requests_are_exact.ensures c.damage_is_refused.ensures
