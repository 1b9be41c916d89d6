-- Spares the search: it finds these too, in 8 seconds.
use Rattle.std.proofs.Common.{◌≡◌, ◌^◌, ◌<◌, ℤ, pos, ◌*ℤ◌, ◌∙◌, ap, subst, to_z, of_z, refl, arith}
use mir.Syntax.{w128}
use Rattle.std.proofs.lemmas.Int.{ints}
use Rattle.pm_num.specs.Value.{exponent}
use Rattle.pm_num.specs.Steps.{IsFar}
use Rattle.pm_num.proofs.Nearest.{between_along, IsUnsettled-rounded, place_of-exponent, linear11-found}
use Rattle.pm_num.proofs.linear11.Linear11NumFormat.nearest.Goals as goal

pub place_for-place-requires : goal.place_for-place-requires
place_for-place-requires c =
    between_along c.least.result _ c.greatest.result _ c.args.x c.least.ensures c.greatest.ensures
    (c.in_ok-in_range.ensures.inside.0 refl)

pub settled-requires-clause-above : goal.settled-requires-clause-above
settled-requires-clause-above c =
    let h = IsUnsettled-rounded c.args.x c.place_for-place.result c.mantissa_at-mantissa.result c.place_for-place.ensures
    c.mantissa_at-mantissa.ensures in
    omega (arith, ints)

pub settled-requires-clause-below : goal.settled-requires-clause-below
settled-requires-clause-below c =
    let h = IsUnsettled-rounded c.args.x c.place_for-place.result c.mantissa_at-mantissa.result c.place_for-place.ensures
    c.mantissa_at-mantissa.ensures in
    omega (arith, ints)

pub settled-requires-clause-far : goal.settled-requires-clause-far
settled-requires-clause-far c =
    let k = c.mantissa_at-mantissa.result in
    let h = IsUnsettled-rounded c.args.x c.place_for-place.result k c.place_for-place.ensures c.mantissa_at-mantissa.ensures in
    let back : k ≡ to_z w128 (of_z w128 k) = omega (arith, ints) in
    λ high. subst (λ (z : ℤ). IsFar z) back (h.far high)

pub returns-clause-word : goal.returns-clause-word
returns-clause-word c =
    let p = c.place_for-place.result in
    let k = c.mantissa_at-mantissa.result in
    let s = c.preferred.result in
    let word : c.word_of.result < 2 ^ 16 = omega arith in
    let back : to_z w128 (of_z w128 k) ≡ k = omega (arith, ints) in
    let same = c.preferred.ensures.same ∙ c.settled.ensures.same ∙ ap (λ (z : ℤ). z *ℤ pos (2 ^ p)) back in
    let at_place = place_of-exponent (exponent c.word_of.result) s.place c.word_of.ensures.exponent in
    linear11-found c.place_for-place.ensures c.mantissa_at-mantissa.ensures word c.word_of.ensures.mantissa at_place same
    c.preferred.ensures.preferred

pub returns-clause-inside : goal.returns-clause-inside
returns-clause-inside c = (
  λ _. between_along c.least.result _ c.greatest.result _ c.args.x c.least.ensures c.greatest.ensures
      (c.in_ok-in_range.ensures.inside.0 refl),
  λ _. refl,
)

pub settled-requires-clause-room : goal.settled-requires-clause-room
settled-requires-clause-room c =
    let between = between_along c.least.result _ c.greatest.result _ c.args.x c.least.ensures c.greatest.ensures
    (c.in_ok-in_range.ensures.inside.0 refl) in
    λ e. grind (arith, ints)

pub settled-requires-clause-bounded : goal.settled-requires-clause-bounded
settled-requires-clause-bounded c = c.place_for-place.ensures.bounded

pub mantissa_at-mantissa-requires : goal.mantissa_at-mantissa-requires
mantissa_at-mantissa-requires c = c.place_for-place.ensures.bounded

pub preferred-requires-clause-large : goal.preferred-requires-clause-large
preferred-requires-clause-large c = c.settled.ensures.large
