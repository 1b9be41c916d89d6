use Rattle.std.proofs.Common.{[], refl}
use Rattle.pm_frame.specs.Pec.{pec_of}
use Rattle.pm_frame.proofs.packet_error_code.pec.Goals as goal

-- nothing came before
pub returns : goal.returns
unfolding pec_of
returns c = c.pec_after.ensures [] refl
