use Rattle.pm_trace.proofs.ValueLemmas.{floor_of}
use Rattle.pm_trace.proofs.laws.microvolts_are_the_floor.Goals as goal

pub returns : goal.returns
returns c = floor_of
