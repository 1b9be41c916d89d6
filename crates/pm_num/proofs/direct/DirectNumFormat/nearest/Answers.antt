use Rattle.std.proofs.Common.{◌≡◌, ◌^◌, ◌<◌, ◌∙◌, to_z, of_z, refl, arith}
use mir.Syntax.{w64}
use Rattle.std.proofs.lemmas.Int.{ints}
use Rattle.pm_num.specs.Lemmas.Slope.{direct-has_den}
use Rattle.pm_num.proofs.Nearest.{between_along, found_fits, direct-nearest, signed_at}
use Rattle.pm_num.proofs.direct.DirectNumFormat.nearest.Goals as goal

pub overflow_cast-nearest : goal.overflow_cast-nearest
overflow_cast-nearest c =
    let f = c.args.self.now in
    let h = found_fits f.m f.b f.r c.least.ensures c.greatest.ensures (c.in_ok-in_range.ensures.inside.0 refl) c.grid.ensures
    c.nearest.ensures.within in
    omega (arith, ints)

pub times_sign-requires : goal.times_sign-requires
times_sign-requires c =
    let f = c.args.self.now in
    let h = found_fits f.m f.b f.r c.least.ensures c.greatest.ensures (c.in_ok-in_range.ensures.inside.0 refl) c.grid.ensures
    c.nearest.ensures.within in
    omega (arith, ints)

pub word_of-requires-clause-above : goal.word_of-requires-clause-above
word_of-requires-clause-above c =
    let f = c.args.self.now in
    let h = found_fits f.m f.b f.r c.least.ensures c.greatest.ensures (c.in_ok-in_range.ensures.inside.0 refl) c.grid.ensures
    c.nearest.ensures.within in
    let e = signed_at f.m c.nearest.result _ c.times_sign.result c.times_sign.ensures.value (omega (arith, ints)) in
    omega (arith, ints)

pub word_of-requires-clause-below : goal.word_of-requires-clause-below
word_of-requires-clause-below c =
    let f = c.args.self.now in
    let h = found_fits f.m f.b f.r c.least.ensures c.greatest.ensures (c.in_ok-in_range.ensures.inside.0 refl) c.grid.ensures
    c.nearest.ensures.within in
    let e = signed_at f.m c.nearest.result _ c.times_sign.result c.times_sign.ensures.value (omega (arith, ints)) in
    omega (arith, ints)

pub returns-clause-word : goal.returns-clause-word
returns-clause-word c =
    let f = c.args.self.now in
    let h = found_fits f.m f.b f.r c.least.ensures c.greatest.ensures (c.in_ok-in_range.ensures.inside.0 refl) c.grid.ensures
    c.nearest.ensures.within in
    let e = signed_at f.m c.nearest.result _ c.times_sign.result c.times_sign.ensures.value (omega (arith, ints)) in
    let word : c.word_of.result < 2 ^ 16 = omega arith in
    let back : to_z w64 (of_z w64 c.times_sign.result) ≡ c.times_sign.result = omega (arith, ints) in
    let is = c.word_of.ensures ∙ back ∙ e in
    direct-nearest f.m f.b f.r (direct-has_den f.m f.b f.r 0 f.slope) c.grid.ensures c.nearest.ensures word is

pub returns-clause-inside : goal.returns-clause-inside
returns-clause-inside c = (
  λ _. between_along c.least.result _ c.greatest.result _ c.args.x c.least.ensures c.greatest.ensures
      (c.in_ok-in_range.ensures.inside.0 refl),
  λ _. refl,
)
