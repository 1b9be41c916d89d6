use Rattle.std.proofs.Common.{◌≡◌, None}
use Rattle.std.proofs.Math.Path.{fun_ext}
use Rattle.pm_host.specs.Image.{held}
use Rattle.pm_table.specs.declared.reg.Reg.{Reg}
use Rattle.pm_table.specs.declared.reg.Reg.TheVariants.{Operation, VoutCommand, VoutMax, MarginHigh, MarginLow, VoutMin}
use Rattle.pm_rail.specs.declared.registers.Registers.{Registers}
use Rattle.pm_num.specs.AnyFormat.{voltage_shape}
use Rattle.pm_rail.specs.Known.{cells_of, known_of}
use Rattle.pm_rail.specs.Registers.{held_by}
use Rattle.pm_rail.proofs.known.known_of.Goals as goal

pub returns : goal.returns
returns c =
    let registers : Registers = record {
      operation = c.known_or.result;
      command = c.known_or-2.result;
      max = c.known_or-3.result;
      margin_high = c.known_or-4.result;
      margin_low = c.known_or-5.result;
      min = c.known_or-6.result;
    } in
    fun_ext (λ (r : Reg). elim r as
    (λ q. held_by registers q
    ≡ known_of (cells_of c.args.form.now.registers (voltage_shape c.args.form.now.format) (held None c.args.host.now)) c.args.output q) [
      | Operation ↦ c.known_or.ensures
      | VoutCommand ↦ c.known_or-2.ensures
      | VoutMax ↦ c.known_or-3.ensures
      | MarginHigh ↦ c.known_or-4.ensures
      | MarginLow ↦ c.known_or-5.ensures
      | VoutMin ↦ c.known_or-6.ensures
    ])
