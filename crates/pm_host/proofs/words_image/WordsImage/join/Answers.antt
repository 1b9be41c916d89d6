-- A word joins those that are listed, at the first place that is 0.
use Rattle.std.proofs.Common.{◌+◌, set, subst, sym, rules}
use Rattle.pm_host.specs.Memory.{IsWordsImage}
use Rattle.pm_host.proofs.Memory.{joined-written}
use Rattle.pm_host.proofs.words_image.WordsImage.join.Goals as goal

pub returns-clause-written : goal.returns-clause-written
returns-clause-written c = λ are.
    let words = c.args.self.now in
    subst (λ at. IsWordsImage (record { count = words.count + 1; words = set words.words at c.args.word })) (sym c.from.ensures)
    (joined-written words c.args.word (search rules) (search rules) are)
