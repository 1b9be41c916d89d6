use Rattle.pm_frame.proofs.SharedCodes.{messages-shared, reads-shared, plain-shared, writes-shared}
use Rattle.pm_frame.proofs.laws.codes_are_shared.Goals as goal

pub returns : goal.returns
returns c = record { messages = messages-shared; reads = reads-shared; plain = plain-shared; writes = writes-shared }
