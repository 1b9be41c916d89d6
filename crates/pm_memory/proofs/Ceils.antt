-- The floor of a value, and the next, as its ceiling.
use Rattle.std.proofs.Common.{◌≡◌, ◌<◌, Bool, true, false, ℤ, pos, ◌+ℤ◌, ◌≤ℤ◌, refl, arith}
use Rattle.std.proofs.lemmas.Int.{ints}
use Rattle.pm_num.specs.Ratio.{Ratio, AtMost, is_above, micros}
use Rattle.pm_num.specs.Lemmas.Order.{above-at-most, at-most, not-above}
use Rattle.pm_num.specs.Lemmas.Over.{at_most-trans}
use Rattle.pm_memory.specs.Voltages.{IsCeil, IsFloor}

-- a value that isn't above its floor
pub exact : (value : Ratio) (x : ℤ) → 0 < value.den → IsFloor value x → is_above value (micros x) ≡ false → IsCeil value x
exact value x positive is same = record {
  reached = at-most value (micros x) same;
  least = λ k above.
      let below : AtMost (micros x) (micros k) = at_most-trans (micros x) value (micros k) positive is.reached above in
      omega (arith, ints);
}

-- one that is
pub next : (value : Ratio) (x : ℤ) → IsFloor value x → is_above value (micros x) ≡ true → IsCeil value (x +ℤ pos 1)
next value x is more = record {
  reached = reach (is_above value (micros (x +ℤ pos 1))) refl;
  least = λ k above. beyond k (is_above (micros (x +ℤ pos 1)) (micros k)) refl above;
}
  where
    reach : (b : Bool) → is_above value (micros (x +ℤ pos 1)) ≡ b → AtMost value (micros (x +ℤ pos 1))
    reach false h = at-most value (micros (x +ℤ pos 1)) h
    reach true h =
        let no = is.greatest (x +ℤ pos 1) (above-at-most value (micros (x +ℤ pos 1)) h) in
        omega (arith, ints)

    beyond : (k : ℤ) (b : Bool) → is_above (micros (x +ℤ pos 1)) (micros k) ≡ b → AtMost value (micros k) → (x +ℤ pos 1) ≤ℤ k
    beyond k false h above =
        let up = at-most (micros (x +ℤ pos 1)) (micros k) h in
        omega (arith, ints)
    beyond k true h above =
        let down : AtMost (micros k) (micros x) = let strict = above-at-most (micros (x +ℤ pos 1)) (micros k) h in grind (arith, ints) in
        let never = not-above value (micros x) (at_most-trans value (micros k) (micros x) (omega (arith)) above down) in
        cc
