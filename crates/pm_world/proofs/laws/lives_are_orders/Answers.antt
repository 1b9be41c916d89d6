use Rattle.pm_world.proofs.Orders.{life-commands, life-own, life-stored, life-run}
use Rattle.pm_world.proofs.laws.lives_are_orders.Goals as goal

pub returns : goal.returns
returns c =
    let laws = c.lower_laws.ensures in
    record { orders = life-run laws; own = life-own laws; stored = life-stored laws; commanded = life-commands laws }
