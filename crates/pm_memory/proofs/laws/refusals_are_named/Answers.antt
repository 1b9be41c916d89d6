use Rattle.pm_memory.proofs.Named.{limit, frame, converter, config, planned, delivery, accept, step}
use Rattle.pm_memory.proofs.laws.refusals_are_named.Goals as goal

pub returns : goal.returns
returns c = record { limit = limit; frame = frame; device = converter; config = config; plan = planned; delivery = delivery; accept = accept; step = step }
