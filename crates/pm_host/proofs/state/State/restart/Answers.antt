-- The numbers of the formats are each 0 if no format is known.
use Rattle.std.proofs.Common.{rules}
use Rattle.pm_host.specs.Image.{formats_held}
use Rattle.pm_host.specs.Memory.{AreFormatImages}
use Rattle.pm_host.proofs.state.State.restart.Goals as goal

pub returns-clause-written : goal.returns-clause-written
unfolding AreFormatImages formats_held
returns-clause-written c = search rules
