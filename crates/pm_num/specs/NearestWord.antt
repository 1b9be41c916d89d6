-- The word that a fraction is encoded as, as a function of the fraction: the definition of the
-- nearest word as a test, and the word that passes it, sought among all words.
use Rattle.std.specs.Prelude.{ℕ, zero, suc, ◌*◌, ◌^◌, ◌*ℤ◌, pos, Bool, true, not, ◌&&◌, ◌||◌, nat_le, int_le, Option, Some, None}
use Rattle.std.specs.Prelude.{if◌then◌else◌}
use Rattle.std.specs.Ordering.{int_eq}
use Rattle.pm_num.specs.Ratio.{Ratio}
use Rattle.pm_num.specs.Nearest.{gap}

-- whether x is at least as near to v as to u, and how two values compare
abbrev pub is_near : Ratio → Ratio → Ratio → Bool
is_near x v u = nat_le (gap x v * u.den) (gap x u * v.den)

abbrev pub is_at_most : Ratio → Ratio → Bool
is_at_most p q = int_le (p.num *ℤ pos q.den) (q.num *ℤ pos p.den)

abbrev pub is_same : Ratio → Ratio → Bool
is_same p q = int_eq (p.num *ℤ pos q.den) (q.num *ℤ pos p.den)

-- each number below n passes the test; the greatest one below n that does
unfoldable pub each_below : (ℕ → Bool) → ℕ → Bool
each_below test zero = true
each_below test (suc n) = test n && each_below test n

unfoldable pub found_below : (ℕ → Bool) → ℕ → Option ℕ
found_below test zero = None
found_below test (suc n) = if test n then Some n else found_below test n

-- no word is nearer; none that is as near has a lower value; none of the same value ranks before it
unfoldable pub is_nearest : (ℕ → Ratio) → (ℕ → ℕ) → Ratio → ℕ → Bool
is_nearest value rank x w =
    each_below (λ u. is_near x (value w) (value u)) (2 ^ 16)
    && (each_below (λ u. not (is_near x (value u) (value w)) || is_at_most (value w) (value u)) (2 ^ 16)
    && each_below (λ u. not (is_same (value u) (value w)) || nat_le (rank w) (rank u)) (2 ^ 16))

-- the word for x, where there is one
unfoldable pub nearest_word : (ℕ → Ratio) → (ℕ → ℕ) → Ratio → Option ℕ
nearest_word value rank x = found_below (is_nearest value rank x) (2 ^ 16)
