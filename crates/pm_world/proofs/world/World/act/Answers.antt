use Rattle.std.proofs.Common.{sym}
use Rattle.pm_world.proofs.Events.{state, begun}
use Rattle.pm_world.proofs.world.World.act.Goals as goal

pub returns-in-Some-clause-acts : goal.returns-in-Some-clause-acts
returns-in-Some-clause-acts c =
    let inside = state c.self.inside.device c.self.inside.host c.self.inside.end c.self.inside.taken in
    begun c.args.self.now inside c.args.e.now c.in-Some.job c.begin.new.self c.self.view_is (sym c.in-Some.ensures)
    c.in_ok-begin.ensures
