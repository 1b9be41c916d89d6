use Rattle.std.proofs.Common.{Option, ap, sym, ◌∙◌}
use Rattle.std.specs.Prelude.{Result}
use Rattle.std.specs.Result.{result_err}
use Rattle.pm_host.specs.declared.stage.Stage.{Stage}
use Rattle.pm_host.specs.Image.{held}
use Rattle.pm_rail.specs.declared.fault.PlanFault.{PlanFault}
use Rattle.pm_rail.specs.declared.orders.PlanOrder.{PlanOrder}
use Rattle.pm_rail.specs.Registers.{wants_of}
use Rattle.pm_stairs.proofs.Seen.{planned}
use Rattle.pm_stairs.proofs.way_back.plan_fault.Goals as goal

pub returns-in-Ok : goal.returns-in-Ok
returns-in-Ok g c = ap (λ (r : Result (Option PlanOrder) PlanFault). result_err r)
    (sym c.in-Ok.is ∙ c.next_order_in.ensures
    ∙ planned c.registers.ensures (ap (λ (at : Option Stage). held at c.state.result.now) c.stage.ensures ∙ c.state.ensures.state)
    c.limits-limits.ensures c.args.output (wants_of c.args.wanted.now))

pub returns-in-Err : goal.returns-in-Err
returns-in-Err g c = ap (λ (r : Result (Option PlanOrder) PlanFault). result_err r)
    (sym c.in-Err.is ∙ c.next_order_in.ensures
    ∙ planned c.registers.ensures (ap (λ (at : Option Stage). held at c.state.result.now) c.stage.ensures ∙ c.state.ensures.state)
    c.limits-limits.ensures c.args.output (wants_of c.args.wanted.now))
