-- What every engine promises of the reader and the writer that it runs over. An engine reads a text of at most
-- `max_text` bytes to its end, and writes another one. This project's own choice.
use Rattle.std.specs.Prelude.{◌≡◌, ◌⊎◌, ◌↔◌, ℕ, ◌<◌, ◌≤◌, Bool, List, ◌++◌, length, nat_lt, if◌then◌else◌}
use Rattle.std.specs.Prelude.{Option, Some, None, Result, Ok, Err, IsTrue, IsFalse, ⊤}
use Rattle.std.specs.Io.KnownBytes.{Appends, Consumes}
use Rattle.pm_lines.specs.Streams.{AppendsFront, Held, IsWholeText, max_text}
use Rattle.pm_lines.specs.declared.fault.TextFault.{TextFault}
use Rattle.pm_lines.specs.declared.fault.TextFault.TheVariants.{TooLong, Read, Write, Memory}

-- what an engine makes of its input
pub record Engine (T : Type 0) : Type 0 where
  -- what an input that isn't too long gives: the text that is written of it and how the engine ends, or its fault
  pub whole : List ℕ → Result (List ℕ × T) TextFault
  -- what is written of a front of the input, before its end is known; none where nothing is
  pub early : Option (List ℕ → List ℕ)

-- ---- what an input alone decides

abbrev pub engine_end : {T : Type 0} → Result (List ℕ × T) TextFault → Result T TextFault
engine_end (Ok made) = Ok made.1
engine_end (Err fault) = Err fault

-- an input that is too long is X3, whatever it holds
abbrev pub engine_outcome : {T : Type 0} → Engine T → List ℕ → Result T TextFault
engine_outcome engine input = if nat_lt max_text (length input) then Err TooLong
    else engine_end (engine.whole input)

-- the reader, the writer and the memory served
abbrev pub IsSettled : {T : Type 0} → Result T TextFault → Type 0
IsSettled (Err Read) = ⊥
IsSettled (Err Write) = ⊥
IsSettled (Err Memory) = ⊥
IsSettled _ = ⊤

-- ---- what a reader gave and a writer got

-- the streams of a run, before it and after it
pub record Run (R W : Type 0) : Type 0 where
  pub remaining : R → Option (List ℕ)
  pub contents : W → Option (List ℕ)
  pub reader : Held R
  pub reader' : Held R
  pub writer : Held W
  pub writer' : Held W

-- the run of a call that was lent a reader and a writer
abbrev pub over : {R W : Type 0} → (R → Option (List ℕ)) → Held R → Held R → (W → Option (List ℕ)) → Held W → Held W → Run R W
over remaining reader reader' contents writer writer' = record {
  remaining = remaining;
  contents = contents;
  reader = reader;
  reader' = reader';
  writer = writer;
  writer' = writer';
}

module _ {T : Type 0} (engine : Engine T) (old new : Option (List ℕ)) where
  -- the reader gave all of its text, of which this one is made
  abbrev pub IsMade : List ℕ → T → Type 0
  IsMade text end = (input : List ℕ) × IsWholeText old new input × (engine.whole input ≡ Ok (text, end))

  -- The text that was being written as the writer failed: that of a front of the input, or that of all of it.
  abbrev pub IsUnderWay : List ℕ → Type 0
  IsUnderWay text =
      ((front : List ℕ) × Consumes old new front
      × (early : List ℕ → List ℕ) × (engine.early ≡ Some early) × (text ≡ early front))
      ⊎ ((end : T) × IsMade text end)

  -- memory is wanted only where the reader gave bytes, and for a text that is read as a whole, no more
  -- than it may have
  abbrev pub IsWithin : Option (List ℕ → List ℕ) → List ℕ → Type 0
  IsWithin None front = length front ≤ max_text
  IsWithin (Some early) front = ⊤

  -- Why an engine refuses, by the bytes that the reader gave: X1, X2 and X7 are the fault of a whole text; X3
  -- comes where this front is as much as a text may have, and more came; X4 after any such front; X6 after some
  -- bytes. X5 is no refusal of this kind.
  abbrev pub Refuses : TextFault → List ℕ → Type 0
  Refuses TooLong front = (more : List ℕ) × (length front ≡ max_text) × (0 < length more)
      × Consumes old new (front ++ more)
  Refuses Read front = (length front ≤ max_text) × Consumes old new front
  Refuses Memory front = (0 < length front) × IsWithin engine.early front × Consumes old new front
  Refuses Write front = ⊥
  Refuses fault front = IsWholeText old new front × (engine.whole front ≡ Err fault)

-- Whether a read had failed as the writer did: none had, where nothing is written early. Otherwise one may have, and
-- what was being written then is all that is written early of what the reader gave.
abbrev pub IsReadSoFar : (old new : Option (List ℕ)) → Bool → Option (List ℕ → List ℕ) → List ℕ → Type 0
IsReadSoFar old new failed None text = IsFalse failed
IsReadSoFar old new failed (Some early) text =
    IsTrue failed → (front : List ℕ) × (length front ≤ max_text) × Consumes old new front × (text ≡ early front)

-- What had been written as an engine refused, of a front of its input: all that is written of this front early,
-- and for want of memory a prefix of that.
abbrev pub IsTold : (List ℕ → List ℕ) → TextFault → List ℕ → List ℕ → Type 0
IsTold early Memory front text = (rest : List ℕ) × (early front ≡ text ++ rest)
IsTold early fault front text = text ≡ early front

module _ {R W T : Type 0} (engine : Engine T) (run : Run R W) where
  -- what the writer got as the engine refused: nothing, where nothing is written early
  abbrev pub IsLeft : Option (List ℕ → List ℕ) → TextFault → List ℕ → Type 0
  IsLeft None fault front = run.writer' ≡ run.writer
  IsLeft (Some early) fault front = (text : List ℕ) × IsTold early fault front text
      × Appends (run.contents run.writer.inner) (run.contents run.writer'.inner) text

  -- How an engine ends that was given streams which hadn't failed. It ends well where the text of all that the
  -- reader gave was written; it ends with X5 exactly where the writer failed, which then has a prefix of a text and
  -- not all of it; with X4 exactly where the reader failed and the writer didn't; and otherwise with the refusal that
  -- the bytes give.
  abbrev pub EngineEnds : Result T TextFault → Type 0
  EngineEnds (Ok end) = IsFalse run.reader'.failed × IsFalse run.writer'.failed × (text : List ℕ)
      × IsMade engine (run.remaining run.reader.inner) (run.remaining run.reader'.inner) text end
      × Appends (run.contents run.writer.inner) (run.contents run.writer'.inner) text
  EngineEnds (Err Write) = IsTrue run.writer'.failed × (text : List ℕ)
      × IsReadSoFar (run.remaining run.reader.inner) (run.remaining run.reader'.inner) run.reader'.failed engine.early text
      × IsUnderWay engine (run.remaining run.reader.inner) (run.remaining run.reader'.inner) text
      × AppendsFront (run.contents run.writer.inner) (run.contents run.writer'.inner) text
  EngineEnds (Err fault) = IsFalse run.writer'.failed × (IsTrue run.reader'.failed ↔ (fault ≡ Read))
      × (front : List ℕ)
      × Refuses engine (run.remaining run.reader.inner) (run.remaining run.reader'.inner) fault front
      × IsLeft engine.early fault front
