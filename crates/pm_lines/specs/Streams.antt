-- What callers see of a reader and of a writer that are used until they fail, and what a writer
-- holds after it failed.
use Rattle.std.specs.Prelude.{◌≡◌, ℕ, ◌<◌, ◌≤◌, Bool, List, ◌++◌, length, Option}
use Rattle.std.specs.Io.KnownBytes.{Appends, Consumes, IsAtEnd}
use Rattle.pm_lines.specs.declared.fault.TextFault.{TextFault}
use Rattle.pm_lines.specs.declared.fault.TextFault.TheVariants.{TooLong, Read, Memory}

-- the most bytes that a text may have
abbrev pub max_text : ℕ
max_text = 1048576

-- a reader or a writer, and whether it failed
pub record Held (R : Type 0) : Type 0 where
  pub inner : R
  pub failed : Bool

-- a strict front of the bytes was written
abbrev pub AppendsFront : Option (List ℕ) → Option (List ℕ) → List ℕ → Type 0
AppendsFront old new bytes =
    (front : List ℕ) × (rest : List ℕ) × (bytes ≡ front ++ rest) × (0 < length rest)
    × Appends old new front

-- the reader gave these bytes and has no more, and a text may have as many
pub record IsWholeText (old new : Option (List ℕ)) (text : List ℕ) : Type 0 where
  pub given : Consumes old new text
  pub ended : IsAtEnd new
  pub short : length text ≤ max_text

-- Why the reading of a whole text broke off, after what the reader had given: as much as a text may have, and
-- more; any such front, where a read failed; or bytes that memory was wanted for.
abbrev pub BreaksOff : Option (List ℕ) → Option (List ℕ) → TextFault → Type 0
BreaksOff old new TooLong = (front : List ℕ) × (more : List ℕ) × (length front ≡ max_text)
    × (0 < length more) × Consumes old new (front ++ more)
BreaksOff old new Read = (front : List ℕ) × (length front ≤ max_text) × Consumes old new front
BreaksOff old new Memory = (front : List ℕ) × (0 < length front) × (length front ≤ max_text)
    × Consumes old new front
BreaksOff old new _ = ⊥
