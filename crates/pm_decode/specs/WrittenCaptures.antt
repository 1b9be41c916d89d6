-- What was taken of a reader, and what was gathered and written of it.
use Rattle.std.specs.Prelude.{◌≡◌, ℕ, ◌+◌, ◌<◌, ◌≤◌, List, [], ◌++◌, length, Option}
use Rattle.std.specs.Io.KnownBytes.{Appends, Consumes, IsAtEnd}
use Rattle.pm_lines.specs.declared.fault.TextFault.{TextFault}
use Rattle.pm_lines.specs.declared.fault.TextFault.TheVariants.{TooLong, Read, Memory}
use Rattle.pm_decode.specs.Capturing.{Kept, kept_of, most_bytes, capture_with_bytes, said_text, told_of_capture}
use Rattle.pm_decode.specs.declared.options.TellOptions.{TellOptions}

-- the reader gave these bytes, they were taken, and of what their lines say this text is gathered; what stands before
-- it was written
pub record Gathered (options : TellOptions) (read new_read written new_written : Option (List ℕ)) (bytes text : List ℕ)
    (kept : Kept) : Type 0 where
  pub given : Consumes read new_read bytes
  pub kept_is : kept ≡ kept_of options bytes
  pub short : length bytes ≤ most_bytes options.long
  pub done : List ℕ
  pub got : Appends written new_written done
  pub parts : said_text options bytes ≡ done ++ text

-- the reader gave this many bytes, none only at its end, they were taken, and what their lines say was gathered after a
-- text
pub record Hears (read new_read : Option (List ℕ)) (text new_text : List ℕ) (old new : Kept) (count : ℕ) : Type 0 where
  pub bytes : List ℕ
  pub given : Consumes read new_read bytes
  pub count_is : count ≡ length bytes
  pub at_end : count ≡ 0 → IsAtEnd new_read
  pub kept : new ≡ capture_with_bytes old bytes
  pub text_is : new_text ≡ text ++ told_of_capture old bytes
  pub room : old.taken + length bytes ≤ most_bytes old.options.long

-- Why no more is gathered: as many bytes were taken as a capture may have, and the reader gave more; a read failed; or
-- memory was refused for a piece, of which the first lines are gathered then.
abbrev pub StopsHearing : (read new_read : Option (List ℕ)) (text new_text : List ℕ) (old : Kept) → TextFault → Type 0
StopsHearing read new_read text new_text old TooLong = (front : List ℕ) × (more : List ℕ) × (0 < length more)
    × Consumes read new_read (front ++ more) × (old.taken + length front ≡ most_bytes old.options.long)
    × (new_text ≡ text ++ told_of_capture old front)
StopsHearing read new_read text new_text old Read = Consumes read new_read [] × (new_text ≡ text)
StopsHearing read new_read text new_text old Memory = (bytes : List ℕ) × (rest : List ℕ) × (0 < length bytes)
    × Consumes read new_read bytes × (text ++ told_of_capture old bytes ≡ new_text ++ rest)
StopsHearing read new_read text new_text old _ = ⊥

-- a written capture of bytes that were read, by their own
abbrev pub StopsBytes : (text new_text : List ℕ) (old : Kept) (bytes : List ℕ) → TextFault → Type 0
StopsBytes text new_text old bytes TooLong = (front : List ℕ) × (more : List ℕ) × (bytes ≡ front ++ more) × (0 < length more)
    × (old.taken + length front ≡ most_bytes old.options.long) × (new_text ≡ text ++ told_of_capture old front)
StopsBytes text new_text old bytes Memory =
    (rest : List ℕ) × (0 < length bytes) × (text ++ told_of_capture old bytes ≡ new_text ++ rest)
StopsBytes text new_text old bytes _ = ⊥

-- the reader gave these bytes, they were taken, and what their lines say was written
pub record WrittenCapture (options : TellOptions) (read new_read written new_written : Option (List ℕ)) (bytes : List ℕ)
    (kept : Kept) : Type 0 where
  pub given : Consumes read new_read bytes
  pub kept_is : kept ≡ kept_of options bytes
  pub short : length bytes ≤ most_bytes options.long
  pub text : Appends written new_written (said_text options bytes)
