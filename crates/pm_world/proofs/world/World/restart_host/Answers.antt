use Rattle.std.proofs.Common.{None, refl}
use Rattle.pm_host.specs.Summary.{step_of}
use Rattle.pm_host.specs.Transcript.{Restarted}
use Rattle.pm_world.proofs.Events.{state, host-told}
use Rattle.pm_world.proofs.world.World.restart_host.Goals as goal

pub returns-clause-after : goal.returns-clause-after
unfolding step_of
returns-clause-after c =
    let inside = state c.self.inside.device c.self.inside.host c.self.inside.end c.self.inside.taken in
    host-told c.args.self.now inside c.restart.new.self None Restarted c.self.view_is c.restart.ensures.after refl
