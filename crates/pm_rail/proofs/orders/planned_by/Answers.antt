use Rattle.std.proofs.Common.{◌∙◌, None, ap}
use Rattle.pm_num.specs.AnyFormat.{voltage_value, voltage_shape}
use Rattle.pm_host.specs.Image.{held}
use Rattle.pm_rail.specs.Known.{cells_of}
use Rattle.pm_rail.specs.Orders.{planned}
use Rattle.pm_rail.specs.Registers.{Held, wants_of}
use Rattle.pm_rail.proofs.orders.planned_by.Goals as goal

pub returns : goal.returns
returns c =
    let plan = c.args.plan.now in
    let form = c.args.form.now in
    let cells = cells_of form.registers (voltage_shape form.format) (held None c.args.host.now) in
    c.planned.ensures
    ∙ ap (λ (h : Held). planned cells c.args.limits.now plan.output h (wants_of plan.wanted) (voltage_value form.format))
    c.known_of-held.ensures
