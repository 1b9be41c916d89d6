-- Spares the search: it finds these too, in 13 seconds.
use Rattle.std.proofs.Common.{◌≡◌, ◌^◌, pos, to_z, of_z, unsigned_abs, arith}
use mir.Syntax.{w64}
use Rattle.std.proofs.lemmas.Int.{ints}
use Rattle.std.proofs.lemmas.Nat.{mul-le}
use Rattle.pm_num.specs.Value.{upper}
use Rattle.pm_num.proofs.Nearest.{product_at, product_size, coefficient_times_ten, kept_power}
use Rattle.pm_num.proofs.direct.Direct.offset.Goals as goal

pub returns-clause-value : goal.returns-clause-value
returns-clause-value c =
    let f = c.args.self.now in
    let u = kept_power f.r (omega (arith, ints)) c.upper_of_ten.ensures.value in
    let is_left : to_z w64 (of_z w64 c.from.result) ≡ f.b = omega (arith, ints) in
    let is_right : to_z w64 (of_z w64 c.upper_of_ten.result) ≡ pos (upper 10 f.r) = omega (arith, ints) in
    product_at f.b (pos (upper 10 f.r)) c.short_product.ensures.value is_left is_right (omega (arith, ints))

pub returns-clause-size : goal.returns-clause-size
returns-clause-size c =
    let f = c.args.self.now in
    let u = kept_power f.r (omega (arith, ints)) c.upper_of_ten.ensures.value in
    let v = product_size f.b (pos (upper 10 f.r)) (returns-clause-value c) in
    let h = mul-le (unsigned_abs f.b) (upper 10 f.r) (2 ^ 15) (upper 10 f.r) (omega (arith, ints)) (omega arith) in
    omega (arith, ints)

pub returns-clause-small : goal.returns-clause-small
returns-clause-small c =
    let f = c.args.self.now in
    let u = kept_power f.r (omega (arith, ints)) c.upper_of_ten.ensures.value in
    let v = product_size f.b (pos (upper 10 f.r)) (returns-clause-value c) in
    let h = coefficient_times_ten (unsigned_abs f.b) (upper 10 f.r) (omega (arith, ints)) (omega (arith, ints)) in
    omega (arith, ints)
