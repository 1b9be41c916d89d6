-- What an engine promises of the reader and the writer that it runs over if its text may have this many bytes: what
-- `pm_lines` has of every engine, whose limit is `max_text`. This project's own choice.
use Rattle.std.specs.Prelude.{◌≡◌, ◌⊎◌, ◌↔◌, ℕ, ◌<◌, ◌≤◌, List, ◌++◌, length, Option, Result, Ok, Err, IsTrue, IsFalse}
use Rattle.std.specs.Io.KnownBytes.{Appends, Consumes, IsAtEnd}
use Rattle.pm_lines.specs.Engine.{Run, IsTold}
use Rattle.pm_lines.specs.Streams.{AppendsFront}
use Rattle.pm_lines.specs.declared.fault.TextFault.{TextFault}
use Rattle.pm_lines.specs.declared.fault.TextFault.TheVariants.{TooLong, Read, Write, Memory}

-- the reader gave these bytes and has no more, and a text may have as many
pub record IsWhole (limit : ℕ) (old new : Option (List ℕ)) (text : List ℕ) : Type 0 where
  pub given : Consumes old new text
  pub ended : IsAtEnd new
  pub short : length text ≤ limit

module _ {R W T : Type 0} (limit : ℕ) (whole : List ℕ → List ℕ) (early : List ℕ → List ℕ) (end_of : List ℕ → T) (run : Run R W) where
  -- the bytes that the reader gave, and what the writer got
  abbrev pub Gave : List ℕ → Type 0
  Gave bytes = Consumes (run.remaining run.reader.inner) (run.remaining run.reader'.inner) bytes

  abbrev pub GaveAll : List ℕ → Type 0
  GaveAll input = IsWhole limit (run.remaining run.reader.inner) (run.remaining run.reader'.inner) input

  abbrev pub Got : List ℕ → Type 0
  Got text = Appends (run.contents run.writer.inner) (run.contents run.writer'.inner) text

  -- the text that was being written as the writer failed: that of a front of the input, or that of all of it
  abbrev pub IsCut : List ℕ → Type 0
  IsCut text = ((front : List ℕ) × (IsTrue run.reader'.failed → length front ≤ limit) × Gave front × (text ≡ early front))
      ⊎ (IsFalse run.reader'.failed × (input : List ℕ) × GaveAll input × (text ≡ whole input))

  -- Why a telling refuses, by the bytes that the reader gave: X3 comes if this front is as much as a text may have,
  -- and more came; X4 after any such front; X6 after some bytes.
  abbrev pub Breaks : TextFault → List ℕ → Type 0
  Breaks TooLong front = (more : List ℕ) × (length front ≡ limit) × (0 < length more) × Gave (front ++ more)
  Breaks Read front = (length front ≤ limit) × Gave front
  Breaks Memory front = (0 < length front) × Gave front
  Breaks _ front = ⊥

  -- How a telling ends that was given streams which hadn't failed: as every engine does.
  abbrev pub LongEnds : Result T TextFault → Type 0
  LongEnds (Ok end) = IsFalse run.reader'.failed × IsFalse run.writer'.failed
      × (input : List ℕ) × GaveAll input × (end ≡ end_of input) × Got (whole input)
  LongEnds (Err Write) = IsTrue run.writer'.failed × (text : List ℕ) × IsCut text
      × AppendsFront (run.contents run.writer.inner) (run.contents run.writer'.inner) text
  LongEnds (Err fault) = IsFalse run.writer'.failed × (IsTrue run.reader'.failed ↔ (fault ≡ Read))
      × (front : List ℕ) × Breaks fault front × (text : List ℕ) × IsTold early fault front text × Got text
