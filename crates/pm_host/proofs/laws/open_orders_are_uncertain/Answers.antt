use Rattle.pm_host.proofs.Jobs.{order_there, open_order}
use Rattle.pm_host.proofs.laws.open_orders_are_uncertain.Goals as goal

pub returns : goal.returns
returns c = record {
  there = λ setup entries cell word made told is. (order_there setup entries cell word told is).0;
  accepted = λ setup entries cell word made told is. (order_there setup entries cell word told is).1;
  possible = λ setup entries cell word made told is. (open_order setup entries cell word made told is).0;
  unknown = λ setup entries cell word made told is. (open_order setup entries cell word made told is).1;
}
