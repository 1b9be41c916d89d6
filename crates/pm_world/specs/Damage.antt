-- Damage that the packet error code (PEC) of SMBus always betrays. This project's own words.
use Rattle.std.specs.Prelude.{◌≡◌, ◌≢◌, ℕ, ◌≤◌, ◌%◌, List, length}
use Rattle.pm_frame.specs.Damage.{DifferWithinEight, changed_bits}
use Rattle.pm_frame.specs.Layout.{AreBytes}

-- other bytes came in place of those that were sent, as many
pub record AreOthers (sent came : List ℕ) : Type 0 where
  pub were_bytes : AreBytes sent
  pub are_bytes : AreBytes came
  pub as_many : length sent ≡ length came
  pub other : sent ≢ came

-- what changed lies within eight neighbouring bits, or is one, two or three bits of at most 15 bytes,
-- or an odd number of bits
pub data IsBetrayedDamage (sent came : List ℕ) : Type 0 where
  burst : AreOthers sent came → DifferWithinEight sent came → IsBetrayedDamage sent came
  few : AreOthers sent came → length sent ≤ 15 → changed_bits sent came ≤ 3
      → IsBetrayedDamage sent came
  odd : AreOthers sent came → changed_bits sent came % 2 ≡ 1 → IsBetrayedDamage sent came
