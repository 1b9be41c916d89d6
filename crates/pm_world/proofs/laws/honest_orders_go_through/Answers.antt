use Rattle.std.proofs.Common.{subst}
use Rattle.pm_world.specs.Honest.{honest}
use Rattle.pm_world.proofs.Events.{IsLived, lived-before, taken-whole}
use Rattle.pm_world.proofs.HonestOrders.{went-through}
use Rattle.pm_world.proofs.laws.honest_orders_go_through.Goals as goal

pub returns : goal.returns
returns c = record {
  taken = λ config passes before order cell word arrivals acked sound made taken asks room.
      taken-whole c.lower_laws.ensures before order arrivals acked
      (record { sound = sound; made = made; taken = taken; room = room }) asks;
  through = λ config passes events lived. record {
    through = λ later before order cell word arrivals acked is.
        went-through c.lower_laws.ensures before order arrivals
        (lived-before config passes later (honest order arrivals acked before)
        (subst (IsLived config passes) is lived));
  };
}
