use Rattle.pm_world.proofs.Parts.{stored-so}
use Rattle.pm_world.proofs.part_laws.stored_configs_start_so.Goals as goal

pub returns : goal.returns
returns c = stored-so
