use Rattle.std.proofs.Common.{◌≡◌, ◌^◌, ◌<◌, false, ℤ, pos, neg_ℤ, ◌*ℤ◌, ◌≤ℤ◌, w64, to_z, of_z, sym, subst, arith}
use Rattle.std.proofs.lemmas.Bool.{or_parts}
use Rattle.std.proofs.lemmas.Int.{ints}
use Rattle.std.specs.Int.{w128}
use Rattle.pm_num.specs.Lemmas.Integers.{le_from_times, not_less}
use Rattle.pm_num.specs.Ratio.{Ratio, is_far, IsMicroFloor}
use Rattle.pm_num.proofs.frac.Frac.floor_microvolts.Goals as goal

-- The number is at most 10^15 microvolts in size.
record IsNear (x : ℤ) : Type 0 where
  above : neg_ℤ (pos (10 ^ 15)) ≤ℤ x
  below : x ≤ℤ pos (10 ^ 15)

-- The floor of a value that is at most 10^15 microvolts in size is at most that in size.
near : (value : Ratio) (x : ℤ) → 0 < value.den → is_far value ≡ false → IsMicroFloor value x → IsNear x
near value x positive is floor =
    let parts = or_parts _ _ is in
    let most : (value.num *ℤ pos (10 ^ 6)) ≤ℤ (pos (10 ^ 15) *ℤ pos value.den) = not_less _ _ parts.0 in
    let least : (neg_ℤ (pos (10 ^ 15)) *ℤ pos value.den) ≤ℤ (value.num *ℤ pos (10 ^ 6)) = not_less _ _ parts.1 in
    record {
      above = floor.greatest (neg_ℤ (pos (10 ^ 15))) least;
      below = le_from_times x (pos (10 ^ 15)) value.den positive (omega (arith, ints, floor.reached, most));
    }

-- the floor that was found
found : (c : goal.After-floor_micro-microvolts) → IsNear c.floor_micro-microvolts.result
found c =
    let bounds = c.is_far.ensures.bounds in
    near c.args.self.now c.floor_micro-microvolts.result (omega (arith, ints)) (cc)
    record { reached = c.floor_micro-microvolts.ensures.reached; greatest = c.floor_micro-microvolts.ensures.greatest }

pub overflow_cast-result : goal.overflow_cast-result
overflow_cast-result c = let is_near = found c in omega (arith, ints)

pub returns-clause-floor : goal.returns-clause-floor
returns-clause-floor c =
    let is_near = found c in
    let same : to_z w64 (of_z w64 (to_z w128 (of_z w128 c.floor_micro-microvolts.result))) ≡ c.floor_micro-microvolts.result =
    omega (arith, ints) in
    subst (λ x. IsMicroFloor c.args.self.now x) (sym same)
    record { reached = c.floor_micro-microvolts.ensures.reached; greatest = c.floor_micro-microvolts.ensures.greatest }
