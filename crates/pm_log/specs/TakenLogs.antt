-- What was taken of a reader that gives a log. This project's own choice.
use Rattle.std.specs.Prelude.{◌≡◌, ℕ, ◌+◌, ◌<◌, ◌≤◌, List, [], length, Option}
use Rattle.std.specs.List.{fold}
use Rattle.std.specs.Io.KnownBytes.{Consumes, IsAtEnd}
use Rattle.pm_lines.specs.declared.fault.TextFault.{TextFault}
use Rattle.pm_lines.specs.declared.fault.TextFault.TheVariants.{TooLong, Read, Memory}
use Rattle.pm_limits.specs.declared.part_registers.PartRegisters.{PartRegisters}
use Rattle.pm_log.specs.Texts.{Kept, log_kept_of, most_log_bytes, with_byte}

-- the reader gave these bytes, and they were taken, by what the receiver lets parts lack
pub record Taken (allowed : List PartRegisters) (old new : Option (List ℕ)) (bytes : List ℕ) (kept : Kept) : Type 0 where
  pub given : Consumes old new bytes
  pub kept_is : kept ≡ log_kept_of allowed bytes
  pub short : length bytes ≤ most_log_bytes

-- the reader gave this many bytes, none only at its end, and they were taken
pub record TakesPiece (old new : Option (List ℕ)) (kept taken : Kept) (count : ℕ) : Type 0 where
  pub bytes : List ℕ
  pub given : Consumes old new bytes
  pub count_is : count ≡ length bytes
  pub at_end : count ≡ 0 → IsAtEnd new
  pub taken_is : taken ≡ fold with_byte kept bytes
  pub room : kept.taken + length bytes ≤ most_log_bytes

-- why bytes aren't taken: there are more than a log may have, or memory was refused for some
abbrev pub StopsLogBytes : Kept → List ℕ → TextFault → Type 0
StopsLogBytes kept bytes TooLong = most_log_bytes < kept.taken + length bytes
StopsLogBytes kept bytes Memory = 0 < length bytes
StopsLogBytes kept bytes _ = ⊥

-- why a piece isn't: the same of bytes that the reader gave, or the read failed
abbrev pub StopsPiece : Option (List ℕ) → Option (List ℕ) → Kept → TextFault → Type 0
StopsPiece old new kept TooLong = (bytes : List ℕ) × (most_log_bytes < kept.taken + length bytes) × Consumes old new bytes
StopsPiece old new kept Read = Consumes old new []
StopsPiece old new kept Memory = (bytes : List ℕ) × (0 < length bytes) × Consumes old new bytes
StopsPiece old new kept _ = ⊥
