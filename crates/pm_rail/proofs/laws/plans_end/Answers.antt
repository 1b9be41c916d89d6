use Rattle.pm_rail.specs.Lemmas.Ends.{due, done, five}
use Rattle.pm_rail.proofs.laws.plans_end.Goals as goal

pub returns : goal.returns
returns c = record { due = due; done = done; five = five }
