use Rattle.std.proofs.Common.{◌∙◌, ℕ, None, ap}
use Rattle.pm_num.specs.AnyFormat.{voltage_shape}
use Rattle.pm_host.specs.Image.{held}
use Rattle.pm_table.specs.declared.reg.Reg.{Reg}
use Rattle.pm_rail.specs.declared.wanted.Wanted.{Wanted}
use Rattle.pm_rail.specs.Known.{cells_of, known_of}
use Rattle.pm_rail.specs.Registers.{held_by, wants_of}
use Rattle.pm_rail.specs.Survey.{is_stuck_in}
use Rattle.pm_rail.proofs.survey.Survey.is_stuck_by.Goals as goal

pub returns : goal.returns
returns c =
    let part = c.args.form.now.registers in
    let cells = cells_of part (voltage_shape c.args.form.now.format) (held None c.args.host.now) in
    let v = c.args.self.now in
    let own = c.settings.result in
    c.is_stuck_in.ensures
    ∙ ap (λ (o : ℕ). is_stuck_in part o cells (held_by own.held) (wants_of own.wanted)) c.settings.ensures.output
    ∙ ap (λ (byte : ℕ). is_stuck_in part v.output cells (λ (r : Reg). byte) (wants_of own.wanted)) c.settings.ensures.operation
    ∙ ap (λ (w : Wanted). is_stuck_in part v.output cells (known_of cells v.output) (wants_of w)) c.settings.ensures.wanted
