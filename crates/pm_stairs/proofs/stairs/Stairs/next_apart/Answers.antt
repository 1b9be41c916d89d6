use Rattle.pm_stairs.specs.Sequence.{ended_apart, goes_apart}
use Rattle.pm_stairs.proofs.stairs.Stairs.next_apart.Goals as goal

pub returns-then-self : goal.returns-then-self
returns-then-self g c = ended_apart c.if-self.true

pub returns : goal.returns
returns g c = goes_apart c.ahead.result c.ahead.new.self c.if-self.false c.ahead.ensures
