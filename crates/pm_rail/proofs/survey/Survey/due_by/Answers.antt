use Rattle.std.proofs.Common.{◌∙◌, ℕ, None, ap}
use Rattle.pm_num.specs.AnyFormat.{voltage_shape}
use Rattle.pm_host.specs.Image.{held}
use Rattle.pm_table.specs.declared.reg.Reg.{Reg}
use Rattle.pm_rail.specs.declared.wanted.Wanted.{Wanted}
use Rattle.pm_rail.specs.Known.{cells_of, known_of}
use Rattle.pm_rail.specs.Registers.{wants_of}
use Rattle.pm_rail.specs.Survey.{survey_due_in}
use Rattle.pm_rail.proofs.survey.Survey.due_by.Goals as goal

pub returns : goal.returns
returns c =
    let part = c.args.form.now.registers in
    let cells = cells_of part (voltage_shape c.args.form.now.format) (held None c.args.host.now) in
    let v = c.args.self.now in
    c.due_in.ensures
    ∙ ap (λ (byte : ℕ). survey_due_in part v cells (λ (r : Reg). byte) (wants_of c.settings.result.wanted)) c.settings.ensures.operation
    ∙ ap (λ (w : Wanted). survey_due_in part v cells (known_of cells v.output) (wants_of w)) c.settings.ensures.wanted
