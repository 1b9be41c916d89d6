use Rattle.pm_limits.specs.Lemmas.Bands.{band-held, band-reached}
use Rattle.pm_limits.proofs.laws.bands_are_ends.Goals as goal

pub returns : goal.returns
returns c = record { held = band-held; reached = band-reached }
