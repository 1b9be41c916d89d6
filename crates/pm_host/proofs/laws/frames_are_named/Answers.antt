use Rattle.pm_host.proofs.Memory.{CanSend-fits, CanSend-page}
use Rattle.pm_host.proofs.Jobs.{sent-named}
use Rattle.pm_host.proofs.laws.frames_are_named.Goals as goal

pub returns : goal.returns
returns c = record { named = sent-named; fits = CanSend-fits; never_page = CanSend-page }
