use Rattle.std.proofs.Common.{◌≡◌, pos, ◌*ℤ◌, ◌∙◌, to_z, of_z, arith}
use Rattle.std.specs.Prelude.{int_div}
use mir.Syntax.{w128}
use Rattle.std.proofs.lemmas.Int.{ints}
use Rattle.pm_num.proofs.Nearest.{halved}
use Rattle.pm_num.proofs.linear11.preferred.Goals as goal

pub loop-place-preserved : goal.loop-place-preserved
loop-place-preserved c =
    let y = to_z w128 c.loop-place.mantissa-bits in
    let h = to_z w128 (of_z w128 (int_div y (pos 2))) in
    let even = c.if-mantissa-eq0.true in
    let before = c.loop-place.invariant in
    let half : y ≡ h *ℤ pos 2 = omega (arith, ints) in
    record {
      same = halved y h c.loop-place.place half ∙ before.same;
      spelling = record { above = omega (arith, ints); below = omega (arith, ints); place = omega arith };
      large = λ high. absurd (omega arith);
    }
