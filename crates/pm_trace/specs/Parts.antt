-- What is kept of a part of a trace line: its first bytes, as many as one may have, and whether it
-- had more. This project's own choice.
use Rattle.std.specs.Prelude.{ℕ, Bool, true, nat_lt, if◌then◌else◌, List, [], ◌∷◌, ◌++◌, length, take}
use Rattle.pm_trace.specs.Trace.{max_part}

pub record Collected : Type 0 where
  pub bytes : List ℕ
  pub is_long : Bool

-- a part of these bytes
unfoldable pub part_of : List ℕ → Collected
part_of bytes = record {
  bytes = take max_part bytes;
  is_long = nat_lt max_part (length bytes);
}

-- a part with one byte more
unfoldable pub part_takes : Collected → ℕ → Collected
part_takes part byte = if nat_lt (length part.bytes) max_part
    then record { bytes = part.bytes ++ byte ∷ []; is_long = part.is_long }
    else record { bytes = part.bytes; is_long = true }
