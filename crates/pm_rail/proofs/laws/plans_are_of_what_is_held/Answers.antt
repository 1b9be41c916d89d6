use Rattle.pm_rail.specs.Lemmas.Told.{done-held, next, uncut}
use Rattle.pm_rail.proofs.laws.plans_are_of_what_is_held.Goals as goal

pub returns : goal.returns
returns c = record { next = next; uncut = uncut; done = done-held }
