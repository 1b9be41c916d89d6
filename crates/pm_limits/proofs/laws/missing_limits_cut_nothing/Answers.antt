use Rattle.pm_limits.specs.Lemmas.Bands.{least-cuts-nothing, greatest-cuts-nothing}
use Rattle.pm_limits.proofs.laws.missing_limits_cut_nothing.Goals as goal

pub returns : goal.returns
returns c = record { least = least-cuts-nothing; greatest = greatest-cuts-nothing }
