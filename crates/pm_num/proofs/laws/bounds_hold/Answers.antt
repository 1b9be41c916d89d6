use Rattle.pm_num.proofs.Nearest.{nearest-at_most, nearest-at_least, nearest-at_most_both, nearest-at_least_both, end-at_most, end-at_least}
use Rattle.pm_num.proofs.Nearest.{hit-at_most, hit-at_least}
use Rattle.pm_num.proofs.laws.bounds_hold.Goals as goal

pub returns : goal.returns
returns g c =
    let f = c.args.format.now in
    let laws = g.met.F.NumFormat in
    let value = g.F.NumFormat.value f in
    record {
      one_down = λ x u w h k.
          laws.one f (value u) u w (nearest-at_most (laws.has_den f u h.word) h)
          (nearest-at_most_both (laws.has_den f u h.word) (laws.has_den f w k.word) h k);
      one_up = λ x u w h k.
          laws.one f (value u) u w (nearest-at_least (laws.has_den f u h.word) h)
          (nearest-at_least_both (laws.has_den f u h.word) (laws.has_den f w k.word) h k);
      own_down = λ x w h. nearest-at_most (laws.has_den f w h.word) h;
      own_up = λ x w h. nearest-at_least (laws.has_den f w h.word) h;
      end_down = λ x w beyond h. end-at_most (laws.within f) (laws.greatest_met f) beyond h;
      end_up = λ x w beyond h. end-at_least (laws.within f) (laws.least_met f) beyond h;
      hit_down = λ x u w word same h. hit-at_most word (laws.has_den f u word) same h;
      hit_up = λ x u w word same h. hit-at_least word (laws.has_den f u word) same h;
    }
