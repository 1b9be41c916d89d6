-- Fractions in order, by the relation and by the test. They stand for clauses of `Frac::cmp_value`, whose answer is one of
-- three relations of cross products.
use Rattle.std.specs.Prelude.{◌≡◌, true, false}
use Rattle.std.proofs.Common.{arith}
use Rattle.std.proofs.lemmas.Int.{ints}
use Rattle.std.proofs.lemmas.Bool.Decides.{nat_tests}
use Rattle.pm_num.specs.Ratio.{Ratio, AtMost, is_above}

-- A value that isn't above another is at most that.
pub at-most : (p q : Ratio) → is_above p q ≡ false → AtMost p q
at-most p q h = grind (arith, ints, nat_tests)

-- A value that is at most another isn't above it.
pub not-above : (p q : Ratio) → AtMost p q → is_above p q ≡ false
not-above p q h = grind (arith, ints, nat_tests)

-- A value that is above another is at least that.
pub above-at-most : (p q : Ratio) → is_above p q ≡ true → AtMost q p
above-at-most p q h = grind (arith, ints, nat_tests)

-- A value is at most itself.
pub same : (p : Ratio) → AtMost p p
same p = omega (arith, ints)

-- A value isn't above itself.
pub not-above-itself : (p : Ratio) → is_above p p ≡ false
not-above-itself p = not-above p p (same p)
