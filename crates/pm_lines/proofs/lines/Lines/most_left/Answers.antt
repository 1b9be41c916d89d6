use Rattle.std.proofs.Common.{◌≡◌, ◌+◌, ℕ, List, ap, arith, length, map, refl}
use Rattle.std.proofs.lemmas.Iterator.{items_from_drains}
use Rattle.std.proofs.lemmas.Iterator.Consumers.{YieldsList-from_first}
use Rattle.std.proofs.lemmas.List.{length-map}
use Rattle.memchr.proofs.lemmas.CallerLemmas.{length-places}
use Rattle.memchr.specs.Find.{TakesFirst, is_byte}
use Rattle.pm_lines.specs.Lines.{LinesLeft}
use Rattle.pm_lines.proofs.LinesAndWords.{unskipped-few}
use Rattle.pm_lines.proofs.lines.Lines.most_left.Goals as goal

pub returns : goal.returns
returns c =
    let text = c.self.inside.rest.now in
    let ran = c.count.ensures.ran in
    let places = c.memchr_iter.result in
    let drains = ran.1 in
    let all : map (λ (place : ℕ). place) ran.0 ≡ places = items_from_drains {steps = TakesFirst} {v = λ (place : ℕ). place} ran.0
    (drains.1.0, drains.1.1, λ _. (drains.0, drains.1.2))
    (YieldsList-from_first (λ (place : ℕ). place) (λ (rest : List ℕ). rest) places refl) in
    omega (
      arith,
      ap (λ (left : LinesLeft). length left.unskipped) c.self.view_is,
      unskipped-few (c.self.inside.number + 1) text,
      length-places (is_byte 10) text,
      ap length c.memchr_iter.ensures.value,
      ap length all,
      length-map ran.0 (λ (place : ℕ). place),
      ran.2,
    )
