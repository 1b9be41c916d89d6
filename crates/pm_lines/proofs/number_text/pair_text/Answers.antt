-- The pairs of digits stand in order.
use Rattle.std.proofs.Common.{◌≡◌, ℕ, suc, ◌<◌, ◌≤◌, ◌+◌, ◌-◌, ◌*◌, ◌/◌, ◌%◌, Bool, true, false, cond, refl, ap, ◌∙◌, arith, rules}
use Rattle.std.proofs.Common.{◌∷◌, [], List, length, map, take, drop, get_or, drop-cons}
use Rattle.std.specs.Prelude.{◌==◌, ◌&&◌, nat_lt}
use Rattle.std.specs.Fmt.{digit_glyph}
use Rattle.std.specs.List.{list_all, range_with_len, slice_range}
use Rattle.std.specs.Str.{IsAscii, IsCharBoundary}
use Rattle.std.proofs.lemmas.Bool.Decides.{nat_tests}
use Rattle.std.proofs.lemmas.List.FromFn.{get_or-map-range_with_len}
use Rattle.std.proofs.lemmas.Str.{IsCharBoundary-from_ascii}
use Rattle.std.proofs.lemmas.Str.Ascii.{IsAscii-cons, IsAscii-nil}
use Rattle.pm_lines.specs.Numbers.{hex_byte}
use Rattle.pm_lines.proofs.number_text.pair_text.Goals as goal

-- the digit at a place: that of the high half of a byte, or of the low one
abbrev digit_at : ℕ → ℕ
digit_at place = digit_glyph true (cond (place % 2 == 0) (place / 32) (place / 2 % 16))

-- the digits of all bytes
abbrev pairs : List ℕ
pairs = map digit_at (range_with_len 0 512)

-- bytes below 128 are ASCII
ascii-all : (bs : List ℕ) → list_all (λ b. nat_lt b 128) bs ≡ true → IsAscii bs
ascii-all [] e = IsAscii-nil
ascii-all (b ∷ bs) e = go (nat_lt b 128) refl e (ascii-all bs) where
  go : (small : Bool) → nat_lt b 128 ≡ small → (small && list_all (λ b. nat_lt b 128) bs) ≡ true
      → (list_all (λ b. nat_lt b 128) bs ≡ true → IsAscii bs) → IsAscii (b ∷ bs)
  go true below rest others = IsAscii-cons b bs (grind (arith, nat_tests, below)) (others rest)
  go false above rest others = cc

-- a place within the digits parts two of them
boundary : (place : ℕ) → place ≤ 512 → IsCharBoundary pairs place
boundary place h = IsCharBoundary-from_ascii pairs place (ascii-all pairs refl) h

-- the digit at an even place
digit-even : (byte : ℕ) → digit_at (2 * byte) ≡ digit_glyph true (byte / 16)
digit-even byte =
    let even : (2 * byte % 2 == 0) ≡ true = grind (arith, nat_tests) in
    let high : 2 * byte / 32 ≡ byte / 16 = omega arith in
    rw (even, high) refl

-- the digit at an odd place
digit-odd : (byte : ℕ) → digit_at (2 * byte + 1) ≡ digit_glyph true (byte % 16)
digit-odd byte =
    let odd : ((2 * byte + 1) % 2 == 0) ≡ false = grind (arith, nat_tests) in
    let low : (2 * byte + 1) / 2 ≡ byte = omega arith in
    rw (odd, low) refl

-- two bytes in a row
in_a_row : (xs : List ℕ) (place : ℕ) → suc place < length xs
    → slice_range xs place (place + 2) ≡ get_or xs place 0 ∷ get_or xs (suc place) 0 ∷ []
in_a_row xs place h =
    let pair : place + 2 - place ≡ 2 = omega arith in
    ap (λ n. take n (drop place xs)) pair
    ∙ ap (λ ys. take 2 ys) (drop-cons xs place 0 (omega (arith, h)) ∙ ap (λ ys. get_or xs place 0 ∷ ys) (drop-cons xs (suc place) 0 h))

-- the two at a byte
two : (byte : ℕ) → byte < 256 → slice_range pairs (2 * byte) (2 * byte + 2) ≡ hex_byte byte
unfolding hex_byte
two byte h =
    let first = get_or-map-range_with_len digit_at 0 512 (2 * byte) (2 * byte) 0 (omega arith) (omega arith) in
    let second = get_or-map-range_with_len digit_at 0 512 (suc (2 * byte)) (2 * byte + 1) 0 (omega arith) (omega arith) in
    in_a_row pairs (2 * byte) (omega arith)
    ∙ ap (λ g. g ∷ get_or pairs (suc (2 * byte)) 0 ∷ []) (first ∙ digit-even byte)
    ∙ ap (λ g. digit_glyph true (byte / 16) ∷ g ∷ []) (second ∙ digit-odd byte)

pub range-requires-clause-start_boundary : goal.range-requires-clause-start_boundary
range-requires-clause-start_boundary c =
    let place : c.from-at.result < 256 = search rules in
    λ _. boundary (2 * c.from-at.result) (omega (arith, place))

pub range-requires-clause-end_boundary : goal.range-requires-clause-end_boundary
range-requires-clause-end_boundary c =
    let place : c.from-at.result < 256 = search rules in
    boundary (2 * c.from-at.result + 2) (omega (arith, place))

pub returns : goal.returns
returns c = c.range.ensures.value ∙ ap (λ n. slice_range pairs (2 * n) (2 * n + 2)) c.from-at.ensures ∙ two c.args.byte (search rules)
