-- The words of a cell are written as all are.
use Rattle.std.proofs.Common.{ap, [], rules}
use Rattle.pm_host.specs.Image.{known_held, words_held}
use Rattle.pm_host.specs.Memory.{words_image, IsKnown}
use Rattle.pm_host.proofs.Memory.{place-written}
use Rattle.pm_host.proofs.knowledge.Knowledge.possible.Goals as goal

pub returns-clause-written : goal.returns-clause-written
unfolding IsKnown known_held
returns-clause-written c = λ is.
    place-written words_held words_image c.args.self.now.possible c.place.result (record { count = 0; words = [] })
    (ap (λ k. k.possible) is) (search rules)
