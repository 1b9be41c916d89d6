use Rattle.std.proofs.Common.{◌∙◌, None, ap}
use Rattle.pm_host.specs.Image.{held}
use Rattle.pm_limits.specs.Band.{band_at, within_of}
use Rattle.pm_limits.specs.declared.output_limits.OutputLimits.{OutputLimits}
use Rattle.pm_memory.specs.Guard.{registers_held}
use Rattle.pm_memory.proofs.limits.within_in.Goals as goal

pub returns : goal.returns
returns c =
    let image = c.args.host.now in
    c.within_limits.ensures ∙ ap (within_of c.limits.result) c.known_band.ensures
    ∙ ap (λ (l : OutputLimits). within_of l (band_at (registers_held image.registers) (held None image.host.state) c.args.output))
    c.limits.ensures
