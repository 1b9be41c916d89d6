use Rattle.std.proofs.Common.{◌≡◌, ◌^◌, ◌<◌, false, ℤ, pos, neg_ℤ, ◌*ℤ◌, ◌≤ℤ◌, w64, to_z, of_z, sym, subst, arith}
use Rattle.std.proofs.lemmas.Bool.{or_parts}
use Rattle.std.proofs.lemmas.Int.{ints}
use Rattle.std.specs.Int.{w128}
use Rattle.pm_num.specs.Ratio.{Ratio, is_far}
use Rattle.pm_num.specs.Lemmas.Integers.{le_from_times, not_less}
use Rattle.pm_memory.specs.Voltages.{IsFloor, IsNear}
use Rattle.pm_memory.proofs.voltages.put_floor.Goals as goal

-- the floor of a value that isn't beyond the numbers' ends lies within them
near : (value : Ratio) (x : ℤ) → 0 < value.den → is_far value ≡ false → IsFloor value x → IsNear x
near value x positive is floor =
    let parts = or_parts _ _ is in
    let most : (value.num *ℤ pos (10 ^ 6)) ≤ℤ (pos (10 ^ 15) *ℤ pos value.den) = not_less _ _ parts.0 in
    let least : (neg_ℤ (pos (10 ^ 15)) *ℤ pos value.den) ≤ℤ (value.num *ℤ pos (10 ^ 6)) = not_less _ _ parts.1 in
    let reached = floor.reached in
    record {
      above = floor.greatest (neg_ℤ (pos (10 ^ 15))) least;
      below = le_from_times x (pos (10 ^ 15)) value.den positive (omega (arith, ints));
    }

-- the floor that was found
found : (c : goal.After-floor_micro) → IsNear c.floor_micro.result
found c =
    let bounds = c.is_far.ensures.bounds in
    near c.args.value.now c.floor_micro.result (omega (arith, ints)) (cc)
    record { reached = c.floor_micro.ensures.reached; greatest = c.floor_micro.ensures.greatest }

pub overflow_cast-microvolts : goal.overflow_cast-microvolts
overflow_cast-microvolts c = let is_near = found c in omega (arith, ints)

pub returns-clause-floor : goal.returns-clause-floor
returns-clause-floor c = λ accepted.
    let is_near = found c in
    let same : to_z w64 (of_z w64 (to_z w128 (of_z w128 c.floor_micro.result))) ≡ c.floor_micro.result = omega (arith, ints) in
    subst (λ x. IsFloor c.args.value.now x) (sym same)
    record { reached = c.floor_micro.ensures.reached; greatest = c.floor_micro.ensures.greatest }

pub returns-clause-near : goal.returns-clause-near
returns-clause-near c = λ accepted.
    let is_near = found c in
    let same : to_z w64 (of_z w64 (to_z w128 (of_z w128 c.floor_micro.result))) ≡ c.floor_micro.result = omega (arith, ints) in
    subst IsNear (sym same) is_near
