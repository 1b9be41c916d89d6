use Rattle.std.proofs.Common.{◌≡◌, ◌^◌, ◌<◌, ◌∙◌, to_z, of_z, arith}
use mir.Syntax.{w64}
use Rattle.std.proofs.lemmas.Int.{ints}
use Rattle.pm_num.specs.Value.{direct_greatest}
use Rattle.pm_num.specs.Lemmas.Slope.{direct-has_den, direct-within}
use Rattle.pm_num.proofs.Nearest.{ordered_along, capped_along, IsAtMost-capped, found_fits, direct-ordered, direct-at_most, signed_at}
use Rattle.pm_num.proofs.direct.DirectBoundFormat.round_down.Goals as goal

pub capped-requires : goal.capped-requires
capped-requires c =
    let f = c.args.self.now in
    ordered_along c.least.result _ c.greatest.result _ c.least.ensures c.greatest.ensures (direct-ordered f.m f.b f.r)

pub overflow_cast-floor : goal.overflow_cast-floor
overflow_cast-floor c =
    let f = c.args.self.now in
    let h = found_fits f.m f.b f.r c.least.ensures c.greatest.ensures c.in_ok-x.ensures.capped.between c.grid.ensures
    c.floor.ensures.within in
    omega (arith, ints)

pub times_sign-requires : goal.times_sign-requires
times_sign-requires c =
    let f = c.args.self.now in
    let h = found_fits f.m f.b f.r c.least.ensures c.greatest.ensures c.in_ok-x.ensures.capped.between c.grid.ensures
    c.floor.ensures.within in
    omega (arith, ints)

pub word_of-requires-clause-above : goal.word_of-requires-clause-above
word_of-requires-clause-above c =
    let f = c.args.self.now in
    let h = found_fits f.m f.b f.r c.least.ensures c.greatest.ensures c.in_ok-x.ensures.capped.between c.grid.ensures
    c.floor.ensures.within in
    let e = signed_at f.m c.floor.result _ c.times_sign.result c.times_sign.ensures.value (omega (arith, ints)) in
    omega (arith, ints)

pub word_of-requires-clause-below : goal.word_of-requires-clause-below
word_of-requires-clause-below c =
    let f = c.args.self.now in
    let h = found_fits f.m f.b f.r c.least.ensures c.greatest.ensures c.in_ok-x.ensures.capped.between c.grid.ensures
    c.floor.ensures.within in
    let e = signed_at f.m c.floor.result _ c.times_sign.result c.times_sign.ensures.value (omega (arith, ints)) in
    omega (arith, ints)

pub returns-clause-word : goal.returns-clause-word
returns-clause-word c =
    let f = c.args.self.now in
    let h = found_fits f.m f.b f.r c.least.ensures c.greatest.ensures c.in_ok-x.ensures.capped.between c.grid.ensures
    c.floor.ensures.within in
    let e = signed_at f.m c.floor.result _ c.times_sign.result c.times_sign.ensures.value (omega (arith, ints)) in
    let word : c.word_of.result < 2 ^ 16 = omega arith in
    let back : to_z w64 (of_z w64 c.times_sign.result) ≡ c.times_sign.result = omega (arith, ints) in
    let is = c.word_of.ensures ∙ back ∙ e in
    IsAtMost-capped (direct-has_den f.m f.b f.r (direct_greatest f.m) f.slope) (direct-within f.m f.b f.r)
    (capped_along c.least.result _ c.greatest.result _ c.least.ensures c.greatest.ensures c.in_ok-x.ensures.capped)
    (direct-at_most f.m f.b f.r c.grid.ensures c.floor.ensures word is)
