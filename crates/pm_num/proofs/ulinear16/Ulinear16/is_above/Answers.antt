use Rattle.pm_num.specs.Lemmas.Unsigned.{above_by_word}
use Rattle.pm_num.proofs.ulinear16.Ulinear16.is_above.Goals as goal

pub returns : goal.returns
returns c = above_by_word c.args.self.now.n c.args.word c.args.other
