-- Which word a bound is encoded as: rounded down it is a word of the greatest value that isn't above
-- the number, rounded up one of the least value that isn't below it. This is this project's own rule.
use Rattle.std.specs.Prelude.{ℕ, ◌^◌, ◌<◌, ◌≤◌, ℤ, nat_lt, unsigned_abs, Option, Some, None, if◌then◌else◌}
use Rattle.pm_num.specs.declared.fault.NumFault.{NumFault}
use Rattle.pm_num.specs.declared.fault.NumFault.TheVariants.{TooLarge, BelowLeast, AboveGreatest}
use Rattle.pm_num.specs.Ratio.{Ratio, AtMost, SameValue, is_above, micros}

-- The word for x rounded down: its value isn't above x, none that isn't above x is greater, and no
-- word of the same value ranks before it.
pub record IsAtMost (value : ℕ → Ratio) (rank : ℕ → ℕ) (x : Ratio) (w : ℕ) : Type 0 where
  pub word : w < 2 ^ 16
  pub reached : AtMost (value w) x
  pub greatest : (u : ℕ) → u < 2 ^ 16 → AtMost (value u) x → AtMost (value u) (value w)
  pub spelling : (u : ℕ) → u < 2 ^ 16 → SameValue (value u) (value w) → rank w ≤ rank u

-- The word for x rounded up: its value isn't below x, none that isn't below x is less, and no word of
-- the same value ranks before it.
pub record IsAtLeast (value : ℕ → Ratio) (rank : ℕ → ℕ) (x : Ratio) (w : ℕ) : Type 0 where
  pub word : w < 2 ^ 16
  pub reached : AtMost x (value w)
  pub least : (u : ℕ) → u < 2 ^ 16 → AtMost x (value u) → AtMost (value w) (value u)
  pub spelling : (u : ℕ) → u < 2 ^ 16 → SameValue (value u) (value w) → rank w ≤ rank u

-- N3 where x lies strictly below the least value, which nothing rounded down is; N4 where it lies
-- strictly above the greatest, which nothing rounded up is.
abbrev pub below_fault : Ratio → Ratio → Option NumFault
below_fault least x = if is_above least x then Some BelowLeast else None

abbrev pub above_fault : Ratio → Ratio → Option NumFault
above_fault greatest x = if is_above x greatest then Some AboveGreatest else None

-- N5 for x beyond 10^15 in size; otherwise N3 for x millionths below the least value if they are rounded down, N4 for x millionths above
-- the greatest if they are rounded up
abbrev pub at_most_fault : Ratio → ℤ → Option NumFault
at_most_fault least x = if nat_lt (10 ^ 15) (unsigned_abs x) then Some TooLarge else below_fault least (micros x)

abbrev pub at_least_fault : Ratio → ℤ → Option NumFault
at_least_fault greatest x = if nat_lt (10 ^ 15) (unsigned_abs x) then Some TooLarge else above_fault greatest (micros x)
