use Rattle.pm_world.proofs.Standings.{never-host, never-since, short-witness}
use Rattle.pm_world.proofs.laws.lists_say_enough.Goals as goal

pub returns : goal.returns
returns c = record { since = never-since; host = never-host; short = short-witness }
