-- Spares the search: it finds these too, in 16 seconds.
use Rattle.std.proofs.Common.{◌≡◌, ◌*◌, ◌<◌, pos, to_z, of_z, unsigned_abs, arith}
use mir.Syntax.{w64}
use Rattle.std.proofs.lemmas.Int.{ints}
use Rattle.pm_num.specs.Value.{upper}
use Rattle.pm_num.specs.Lemmas.Slope.{direct-has_den}
use Rattle.pm_num.proofs.Nearest.{product_at, coefficient_times_ten, kept_power}
use Rattle.pm_num.proofs.direct.Direct.den.Goals as goal

pub returns-clause-value : goal.returns-clause-value
returns-clause-value c =
    let f = c.args.self.now in
    let u = kept_power f.r (omega (arith, ints)) c.upper_of_ten.ensures.value in
    let is_left : to_z w64 (of_z w64 c.from.result) ≡ pos (unsigned_abs f.m) = omega (arith, ints) in
    let is_right : to_z w64 (of_z w64 c.upper_of_ten.result) ≡ pos (upper 10 f.r) = omega (arith, ints) in
    product_at (pos (unsigned_abs f.m)) (pos (upper 10 f.r)) c.short_product.ensures.value is_left is_right (omega (arith, ints))

pub returns-clause-positive : goal.returns-clause-positive
returns-clause-positive c =
    let f = c.args.self.now in
    let v = returns-clause-value c in
    let h : 0 < unsigned_abs f.m * upper 10 f.r = direct-has_den f.m f.b f.r 0 f.slope in
    omega (arith, ints)

pub returns-clause-small : goal.returns-clause-small
returns-clause-small c =
    let f = c.args.self.now in
    let u = kept_power f.r (omega (arith, ints)) c.upper_of_ten.ensures.value in
    let v = returns-clause-value c in
    let h = coefficient_times_ten (unsigned_abs f.m) (upper 10 f.r) (omega (arith, ints)) (omega (arith, ints)) in
    omega (arith, ints)
