-- The digits stand in order.
use Rattle.std.proofs.Common.{◌≡◌, ℕ, ◌<◌, ◌+◌, ◌-◌, ◌∷◌, [], List, map, true, ap, ◌∙◌, arith, drop-cons}
use Rattle.std.specs.Fmt.{digit_glyph}
use Rattle.std.specs.List.{range_with_len, slice_range}
use Rattle.std.proofs.lemmas.List.FromFn.{get_or-map-range_with_len}
use Rattle.pm_lines.proofs.number_text.digit_text.Goals as goal

-- the digits, place by place
abbrev digits : List ℕ
digits = map (digit_glyph true) (range_with_len 0 16)

-- the one at a place
one : (value : ℕ) → value < 16 → slice_range digits value (value + 1) ≡ digit_glyph true value ∷ []
one value h =
    let single : value + 1 - value ≡ 1 = omega arith in
    rw (single, drop-cons digits value 0)
    (ap (λ g. g ∷ []) (get_or-map-range_with_len (digit_glyph true) 0 16 value value 0 h (omega arith)))

pub returns : goal.returns
returns c =
    c.range.ensures.value ∙ ap (λ at. slice_range digits at (at + 1)) c.from-at.ensures ∙ one c.args.value c.requires
