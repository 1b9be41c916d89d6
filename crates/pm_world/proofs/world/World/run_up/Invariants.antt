use Rattle.std.proofs.Common.{◌≡◌}
use Rattle.pm_world.specs.Bytes.{CarryBytes}
use Rattle.pm_world.specs.Life.{AreTakenFrom, after_all, found_by}
use Rattle.pm_world.proofs.Events.{past}
use Rattle.pm_world.proofs.world.World.run_up.Given as goal

abbrev pub invariant-loop-at : goal.invariant-loop-at
invariant-loop-at g l = record {
  now : l.self ≡ after_all l.fn.self (past l.at l.events);
  all : AreTakenFrom l.fn.self (past l.at l.events);
  bytes : CarryBytes (past l.at l.events);
  setup : l.self.host.setup ≡ l.fn.self.host.setup;
  config : l.self.device.config ≡ l.fn.self.device.config;
  found : l.found ≡ found_by g.W.Watch.follows l.fn.watch l.fn.self (past l.at l.events);
}
