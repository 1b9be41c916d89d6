use Rattle.std.proofs.Common.{subst, sym}
use Rattle.pm_host.specs.Told.{entry_told}
use Rattle.pm_memory.specs.declared.host_step.HostStep.{HostStep}
use Rattle.pm_memory.specs.Sequence.{refused_told, HearsIn}
use Rattle.pm_memory.proofs.sequence.tell.Goals as goal

pub returns-in-Err : goal.returns-in-Err
returns-in-Err c =
    subst (λ (s : HostStep). HearsIn c.args.host.now c.args.sequence.now (entry_told c.args.told) s c.args.host.now c.args.sequence.now)
    (sym c.no_step.ensures) (refused_told c.in-Err.number (sym c.in-Err.ensures.fault))
