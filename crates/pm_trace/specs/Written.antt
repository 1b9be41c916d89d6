-- What was written of a text.
use Rattle.std.specs.Prelude.{◌≡◌, ℕ, List, ◌++◌, Option}
use Rattle.std.specs.Io.KnownBytes.{Appends}

-- a front of a text was written, and this is left of it
pub record Puts (written new_written : Option (List ℕ)) (text left : List ℕ) : Type 0 where
  pub front : List ℕ
  pub got : Appends written new_written front
  pub parts : text ≡ front ++ left
