use Rattle.pm_num.specs.Lemmas.Found.{nearest_word-found}
use Rattle.pm_num.specs.Lemmas.OneWord.{same_from_nearest}
use Rattle.pm_num.proofs.laws.nearest_words_hold.Goals as goal

pub returns : goal.returns
returns g c =
    let f = c.args.format.now in
    let value = g.F.NumFormat.value f in
    let rank = g.F.NumFormat.rank f in
    record {
      same = λ u w h nearest. same_from_nearest value rank u w (g.met.F.NumFormat.has_den f u h) h nearest;
      none_nearer = λ x u w h nearest. nearest.nearest u h;
      tie = λ x u w h nearest near. nearest.lowest u h near;
      found = λ x w h. nearest_word-found value rank x w (g.met.F.NumFormat.one f x) h;
    }
