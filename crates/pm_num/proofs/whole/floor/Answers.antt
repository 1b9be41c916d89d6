use Rattle.std.proofs.Common.{◌≡◌, ◌∙◌, ℤ, ap₂, arith, rules, subst, sym}
use Rattle.std.specs.Int.{int_div_euclid}
use mir.Syntax.{w128, w64}
use mir.Val.{SFits, of_z, to_z}
use Rattle.std.proofs.lemmas.Int.{ints, to_z-of_z}
use Rattle.pm_num.specs.Steps.{IsFloor}
use Rattle.pm_num.proofs.Nearest.{floor_from}
use Rattle.pm_num.proofs.whole.floor.Goals as goal

-- A number that fits into 64 bits is kept by its casts; z is what the code took it for.
kept : {z : ℤ} (a : ℤ) → SFits w128 a → SFits w64 (to_z w128 (of_z w128 a)) × (z ≡ to_z w128 (of_z w128 a)) → to_z w64 (of_z w64 z) ≡ a
kept {z} a long short =
    to_z-of_z w64 z (subst (λ (n : ℤ). SFits w64 n) (sym short.1) short.0) ∙ short.1 ∙ to_z-of_z w128 a long

pub returns-in-Ok-Ok : goal.returns-in-Ok-Ok
returns-in-Ok-Ok c =
    let is_near = kept c.args.a c.ranges.a c.in-Ok-Ok.ensures in
    let is_by = kept c.args.d c.ranges.d c.in-Ok-Ok.ensures' in
    let is = c.div_euclid.ensures ∙ ap₂ int_div_euclid is_near is_by in
    let back : to_z w128 (of_z w128 c.from.result) ≡ c.div_euclid.result = omega (arith, ints) in
    subst (λ (z : ℤ). IsFloor c.args.a c.args.d z) (sym back)
    (floor_from c.args.a c.args.d c.div_euclid.result c.requires.positive is)

pub returns-in_default : goal.returns-in_default
returns-in_default c =
    let fits_a = c.ranges.a in
    let fits_d = c.ranges.d in
    let fits : SFits w128 c.div_euclid-in_default.result = search rules in
    let e = simp to_z-of_z at c.div_euclid-in_default.ensures in
    simp to_z-of_z (floor_from c.args.a c.args.d c.div_euclid-in_default.result c.requires.positive e)
