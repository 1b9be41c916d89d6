use Rattle.std.proofs.Common.{rules}
use Rattle.pm_host.proofs.Jobs.{told-tells}
use Rattle.pm_host.proofs.host.Host.told.Goals as goal

pub returns-clause-tells : goal.returns-clause-tells
returns-clause-tells c = search (rules, told-tells)
