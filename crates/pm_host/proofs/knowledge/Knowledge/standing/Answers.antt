-- What is said of a cell is written as of all.
use Rattle.std.proofs.Common.{ap, rules}
use Rattle.pm_host.specs.Image.{known_held, standing_held}
use Rattle.pm_host.specs.Memory.{standing_image, IsKnown}
use Rattle.pm_host.proofs.Memory.{place-written}
use Rattle.pm_host.proofs.knowledge.Knowledge.standing.Goals as goal

pub returns-clause-written : goal.returns-clause-written
unfolding IsKnown known_held
returns-clause-written c = λ is.
    place-written standing_held standing_image c.args.self.now.standing c.place.result (record { is_confirmed = 0; word = 0 })
    (ap (λ k. k.standing) is) (search rules)
