use Rattle.std.proofs.Common.{rules}
use Rattle.pm_world.specs.Life.{taken_events}
use Rattle.pm_world.proofs.Events.{run-room, run-taken}
use Rattle.pm_world.proofs.world.World.lived.Goals as goal

pub returns-clause-taken : goal.returns-clause-taken
returns-clause-taken c =
    run-taken c.args.c c.args.passes (taken_events c.args.events.now c.run_up-stop.result.0) c.run_up-stop.new.self (search rules)

pub returns-clause-room : goal.returns-clause-room
returns-clause-room c = run-room c.args.c c.args.passes c.args.events.now c.run_up-stop.result.0
