use Rattle.std.proofs.Common.{sym}
use Rattle.pm_memory.specs.Guard.{guard_of}
use Rattle.pm_memory.specs.SequenceImage.{sequence_in}
use Rattle.pm_memory.proofs.Calls.{fault-both}
use Rattle.pm_memory.proofs.sequence.read.Goals as goal

pub returns-in-Err-clause-fault : goal.returns-in-Err-clause-fault
returns-in-Err-clause-fault c =
    fault-both (guard_of c.args.host.now) (sequence_in c.args.sequence.now) c.args.steps.now c.args.room c.in-Err.number (sym c.in-Err.ensures.fault)
