-- The quotient whose remainder isn't negative is the greatest whole number that isn't above a fraction. The law
-- `microvolts_are_the_floor` says so of millionths.
use Rattle.std.proofs.Common.{◌<◌, ℕ, ℤ, pos, negsuc, ◌+ℤ◌, ◌*ℤ◌, ◌≤ℤ◌, ◌<ℤ◌, arith}
use Rattle.std.specs.Int.{int_div_euclid}
use Rattle.std.proofs.lemmas.Int.{ints}

-- the quotient's multiple is reached
pub quotient_is_reached : (a : ℤ) (d : ℕ) → 0 < d → (int_div_euclid a (pos d) *ℤ pos d) ≤ℤ a
quotient_is_reached (pos a) d positive = omega (arith, ints)
quotient_is_reached (negsuc a) d positive = omega (arith, ints)

-- the multiple after the quotient's is not reached
pub passed : (a : ℤ) (d : ℕ) → 0 < d → a <ℤ (int_div_euclid a (pos d) *ℤ pos d +ℤ pos d)
passed (pos a) d positive = omega (arith, ints)
passed (negsuc a) d positive = omega (arith, ints)
