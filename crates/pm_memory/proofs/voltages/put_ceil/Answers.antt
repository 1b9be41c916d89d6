use Rattle.std.proofs.Common.{◌≡◌, ◌∙◌, ℤ, pos, ◌+ℤ◌, w64, to_z, of_z, ap, sym, subst, arith}
use Rattle.std.proofs.lemmas.Int.{ints}
use Rattle.pm_num.specs.Ratio.{Ratio, is_above, micros}
use Rattle.pm_memory.specs.Voltages.{IsCeil, IsSmall}
use Rattle.pm_memory.proofs.Ceils.{exact, next}
use Rattle.pm_memory.proofs.voltages.put_ceil.Goals as goal

pub returns-then-is_above-clause-ceil : goal.returns-then-is_above-clause-ceil
returns-then-is_above-clause-ceil c = λ accepted.
    let n = c.put_floor-number.new.microvolts in
    let value = c.args.value.now in
    let near = c.put_floor-number.ensures.near c.if-number-ne-ACCEPTED.false in
    let kept : to_z w64 (of_z w64 n) ≡ n = omega (arith, ints) in
    let after : to_z w64 (of_z w64 (to_z w64 (of_z w64 n) +ℤ pos 1)) ≡ (n +ℤ pos 1) = omega (arith, ints) in
    let above = ap (λ (x : ℤ). is_above value (micros x)) (sym kept)
    ∙ ap (λ (w : Ratio). is_above value w) (sym c.whole.ensures) ∙ sym c.is_above.ensures ∙ c.if-is_above.true in
    subst (λ x. IsCeil value x) (sym after)
    (next value n (c.put_floor-number.ensures.floor c.if-number-ne-ACCEPTED.false) above)

pub returns-else-is_above-clause-ceil : goal.returns-else-is_above-clause-ceil
returns-else-is_above-clause-ceil c = λ accepted.
    let n = c.put_floor-number.new.microvolts in
    let value = c.args.value.now in
    let near = c.put_floor-number.ensures.near c.if-number-ne-ACCEPTED.false in
    let kept : to_z w64 (of_z w64 n) ≡ n = omega (arith, ints) in
    let same = ap (λ (x : ℤ). is_above value (micros x)) (sym kept)
    ∙ ap (λ (w : Ratio). is_above value w) (sym c.whole.ensures) ∙ sym c.is_above.ensures ∙ c.if-is_above.false in
    subst (λ x. IsCeil value x) (sym kept)
    (exact value n c.put_floor-number.ensures.positive (c.put_floor-number.ensures.floor c.if-number-ne-ACCEPTED.false) same)

pub returns-then-is_above-clause-small : goal.returns-then-is_above-clause-small
returns-then-is_above-clause-small c = λ accepted.
    let n = c.put_floor-number.new.microvolts in
    let near = c.put_floor-number.ensures.near c.if-number-ne-ACCEPTED.false in
    let after : to_z w64 (of_z w64 (to_z w64 (of_z w64 n) +ℤ pos 1)) ≡ (n +ℤ pos 1) = omega (arith, ints) in
    subst IsSmall (sym after) record { above = omega (arith, ints); below = omega (arith, ints) }
