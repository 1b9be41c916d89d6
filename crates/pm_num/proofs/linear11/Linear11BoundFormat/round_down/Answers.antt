use Rattle.std.proofs.Common.{◌≡◌, ◌^◌, ◌<◌, ℤ, pos, ◌*ℤ◌, ◌∙◌, ap, subst, to_z, of_z, arith}
use mir.Syntax.{w128}
use Rattle.std.proofs.lemmas.Int.{ints}
use Rattle.pm_num.specs.Value.{exponent, linear11_greatest}
use Rattle.pm_num.specs.Steps.{IsFar}
use Rattle.pm_num.specs.Lemmas.Spelling.{linear11-within}
use Rattle.pm_num.specs.Lemmas.Unsigned.{lower-positive}
use Rattle.pm_num.proofs.Nearest.{capped_along, IsAtMost-capped, IsUnsettled, IsUnsettled-floor, place_of-exponent, linear11-at_most}
use Rattle.pm_num.proofs.linear11.Linear11BoundFormat.round_down.Goals as goal

-- The mantissa is one that can be settled.
unsettled : (c : goal.After-mantissa_below-mantissa) → IsUnsettled c.place_for-place.result c.mantissa_below-mantissa.result
unsettled c = IsUnsettled-floor c.in_ok-x.x c.place_for-place.result c.mantissa_below-mantissa.result c.place_for-place.ensures
    c.mantissa_below-mantissa.ensures

pub settled-requires-clause-above : goal.settled-requires-clause-above
settled-requires-clause-above c = let h = unsettled c in omega (arith, ints)

pub settled-requires-clause-below : goal.settled-requires-clause-below
settled-requires-clause-below c = let h = unsettled c in omega (arith, ints)

pub settled-requires-clause-far : goal.settled-requires-clause-far
settled-requires-clause-far c =
    let h = unsettled c in
    let k = c.mantissa_below-mantissa.result in
    let back : k ≡ to_z w128 (of_z w128 k) = omega (arith, ints) in
    λ high. subst (λ (z : ℤ). IsFar z) back (h.far high)

pub returns-clause-word : goal.returns-clause-word
returns-clause-word c =
    let p = c.place_for-place.result in
    let k = c.mantissa_below-mantissa.result in
    let s = c.preferred.result in
    let h = IsUnsettled-floor c.in_ok-x.x p k c.place_for-place.ensures c.mantissa_below-mantissa.ensures in
    let word : c.word_of.result < 2 ^ 16 = omega arith in
    let back : to_z w128 (of_z w128 k) ≡ k = omega (arith, ints) in
    IsAtMost-capped (lower-positive (exponent linear11_greatest)) linear11-within
    (capped_along c.least.result _ c.greatest.result _ c.least.ensures c.greatest.ensures c.in_ok-x.ensures.capped)
    (linear11-at_most c.place_for-place.ensures c.mantissa_below-mantissa.ensures (record {
      word = word;
      mantissa_is = c.word_of.ensures.mantissa;
      place_is = place_of-exponent (exponent c.word_of.result) s.place c.word_of.ensures.exponent;
      same = c.preferred.ensures.same ∙ c.settled.ensures.same ∙ ap (λ (z : ℤ). z *ℤ pos (2 ^ p)) back;
      preferred = c.preferred.ensures.preferred;
    }))
