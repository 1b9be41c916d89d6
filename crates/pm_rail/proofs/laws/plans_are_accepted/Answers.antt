use Rattle.pm_rail.specs.Lemmas.Accepted.{planned_order_is_accepted}
use Rattle.pm_rail.proofs.laws.plans_are_accepted.Goals as goal

pub returns : goal.returns
returns c = planned_order_is_accepted
