use Rattle.std.proofs.Common.{◌∙◌, ap}
use Rattle.pm_host.specs.Summary.{Summary}
use Rattle.pm_limits.specs.Band.{band_at}
use Rattle.pm_limits.proofs.band.band_of.Goals as goal

pub returns : goal.returns
returns c = c.band_in.ensures ∙ ap (λ (s : Summary). band_at c.args.registers s c.args.output) c.state.ensures.state
