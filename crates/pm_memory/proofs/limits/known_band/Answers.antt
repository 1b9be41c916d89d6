use Rattle.std.proofs.Common.{◌∙◌, None, ap}
use Rattle.pm_host.specs.Image.{held}
use Rattle.pm_limits.specs.declared.part_registers.PartRegisters.{PartRegisters}
use Rattle.pm_limits.specs.Band.{band_at}
use Rattle.pm_memory.proofs.limits.known_band.Goals as goal

pub returns : goal.returns
returns c = c.band_in.ensures
    ∙ ap (λ (r : PartRegisters). band_at r (held None c.args.host.now.host.state) c.args.output) c.registers.ensures
