use Rattle.std.proofs.Common.{◌∙◌, Option, ap}
use Rattle.pm_host.specs.declared.stage.Stage.{Stage}
use Rattle.pm_host.specs.Image.{held}
use Rattle.pm_host.specs.Summary.{Summary}
use Rattle.pm_limits.specs.declared.part_registers.PartRegisters.{PartRegisters}
use Rattle.pm_limits.specs.declared.output_limits.OutputLimits.{OutputLimits}
use Rattle.pm_limits.specs.Guard.{limits_at}
use Rattle.pm_rail.specs.Orders.{plan_of}
use Rattle.pm_rail.specs.Registers.{wants_of}
use Rattle.pm_rail.proofs.orders.next_order.Goals as goal

pub returns : goal.returns
returns c =
    let wants = wants_of c.args.wanted.now in
    c.next_order_in.ensures
    ∙ ap (λ (stage : Option Stage). plan_of c.registers.result (held stage c.state.result.now) c.limits-limits.result c.args.output wants)
    c.stage.ensures
    ∙ ap (λ (s : Summary). plan_of c.registers.result s c.limits-limits.result c.args.output wants)
    (c.state.ensures.state ∙ c.host-host.ensures)
    ∙ ap (λ (l : OutputLimits). plan_of c.registers.result c.args.guard.now.host l c.args.output wants) c.limits-limits.ensures
    ∙ ap (λ (part : PartRegisters). plan_of part c.args.guard.now.host (limits_at c.args.guard.now c.args.output) c.args.output wants)
    c.registers.ensures
