-- The numbers of what is known are each 0 if nothing is known.
use Rattle.std.proofs.Common.{rules}
use Rattle.pm_host.specs.Image.{known_held}
use Rattle.pm_host.specs.Memory.{IsKnown}
use Rattle.pm_host.proofs.knowledge.Knowledge.clear.Goals as goal

pub returns-clause-written : goal.returns-clause-written
unfolding IsKnown known_held
returns-clause-written c = search rules
