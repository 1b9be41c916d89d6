-- What follows for every format from the definition of the nearest word.
use Rattle.std.specs.Prelude.{◌≡◌, ℕ, ◌*◌, ◌^◌, ◌<◌, ◌≤◌}
use Rattle.std.proofs.Common.{arith, ap}
use Rattle.std.proofs.lemmas.Int.{ints}
use Rattle.std.proofs.Math.Nat.{le_of_mul-le-mul_right}
use Rattle.pm_num.specs.Ratio.{Ratio, AtMost, SameValue}
use Rattle.pm_num.specs.Nearest.{gap, Near, IsNearest}

-- A number is not away from itself.
gap-same : (v : Ratio) → gap v v ≡ 0
gap-same v = omega (arith, ints)

-- What is as near to v as v itself has its value.
same_from_near : (v u : Ratio) → 0 < v.den → Near v u v → SameValue u v
same_from_near v u h near =
    let e = ap (λ (n : ℕ). n * u.den) (gap-same v) in
    let f : gap v u * v.den ≤ 0 * v.den = omega arith in
    let g : gap v u ≤ 0 = le_of_mul-le-mul_right f h in
    omega (arith, ints)

-- The word for a word's value has that value.
pub same_from_nearest : (value : ℕ → Ratio) (rank : ℕ → ℕ) (u w : ℕ) → 0 < (value u).den → u < 2 ^ 16 → IsNearest value rank (value u) w
    → SameValue (value w) (value u)
same_from_nearest value rank u w den h nearest = same_from_near (value u) (value w) den (nearest.nearest u h)

-- A format in which no two words have one value and one rank.
abbrev pub IsOneWord : (ℕ → Ratio) → (ℕ → ℕ) → Type 0
IsOneWord value rank = (u w : ℕ) → u < 2 ^ 16 → w < 2 ^ 16 → SameValue (value u) (value w) → rank u ≡ rank w → u ≡ w

-- Two numbers that are each at most the other are one value.
pub at_most_both : (p q : Ratio) → AtMost p q → AtMost q p → SameValue p q
at_most_both p q h k = omega (arith, ints)

-- There is one word for x at most.
pub one_from_nearest : (value : ℕ → Ratio) (rank : ℕ → ℕ) → IsOneWord value rank → (x : Ratio) (u w : ℕ) → IsNearest value rank x u
    → IsNearest value rank x w → u ≡ w
one_from_nearest value rank one x u w h k =
    let p = h.lowest w k.word (k.nearest u h.word) in
    let q = k.lowest u h.word (h.nearest w k.word) in
    let same_uw = at_most_both (value u) (value w) p q in
    let same_wu = at_most_both (value w) (value u) q p in
    let r = h.spelling w k.word same_wu in
    let s = k.spelling u h.word same_uw in
    one u w h.word k.word same_uw (omega arith)
