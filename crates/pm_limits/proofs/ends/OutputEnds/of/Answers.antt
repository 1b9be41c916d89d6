use Rattle.std.proofs.Common.{◌≡◌, None}
use Rattle.pm_host.specs.Image.{held}
use Rattle.pm_num.specs.AnyFormat.{voltage_shape}
use Rattle.pm_table.specs.declared.reg.Reg.{Reg}
use Rattle.pm_limits.specs.declared.ends.OutputEnds.{OutputEnds}
use Rattle.pm_limits.specs.Band.{known_of_output, word_end}
use Rattle.pm_limits.specs.OutputEnds.{end_in, word_on}
use Rattle.pm_limits.specs.Lemmas.Selected.{each-selected}
use Rattle.pm_limits.proofs.ends.OutputEnds.of.Goals as goal

pub returns-clause-selected : goal.returns-clause-selected
returns-clause-selected c =
    let ends : OutputEnds = record {
      command = c.ends_at.result;
      high = c.ends_at-2.result;
      low = c.ends_at-3.result;
      min = c.ends_at-4.result;
      max = c.ends_at-5.result;
    } in
    λ side. each-selected
    (λ (r : Reg). word_on side (end_in ends r)
    ≡ word_end side (voltage_shape c.args.format.now)
    (known_of_output c.args.registers (voltage_shape c.args.format.now) (held None c.args.host.now) c.args.output) r)
    (c.ends_at.ensures side) (c.ends_at-2.ensures side) (c.ends_at-3.ensures side)
