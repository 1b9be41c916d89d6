-- How an engine ends that reads all of its text first, and writes nothing before.
use Rattle.std.specs.Prelude.{◌≡◌, ◌⊎◌, ◌↔◌, ℕ, ◌<◌, Bool, true, false, List, length, Option, Some, None, Ok, Err, IsTrue, IsFalse, refl}
use Rattle.std.proofs.Common.{◌∙◌, true≢false, inl, inr, subst, sym}
use Rattle.std.specs.Io.KnownBytes.{Appends}
use Rattle.pm_lines.specs.Engine.{Engine, EngineEnds, IsLeft, IsMade, IsReadSoFar, IsWithin, Run}
use Rattle.pm_lines.specs.Faults.{IsOfInput, IsOfText}
use Rattle.pm_lines.specs.Streams.{AppendsFront, BreaksOff, IsWholeText}
use Rattle.pm_lines.specs.declared.fault.TextFault.{TextFault}
use Rattle.pm_lines.specs.declared.fault.TextFault.TheVariants.{Syntax, BadHex, TooLong, Read, Write, Memory, Setup}

-- a test that isn't passed
pub false_unless : (b : Bool) → (IsTrue b → ⊥) → IsFalse b
false_unless true none = absurd (none refl)
false_unless false none = refl

-- a whole text as it is handed on
pub as_handed : (old new : Option (List ℕ)) (text handed : List ℕ) → handed ≡ text → IsWholeText old new text
    → IsWholeText old new handed
as_handed old new text handed same whole =
    let P : List ℕ → Type 0 = λ l. IsWholeText old new l in subst P (sym same) whole

-- a text's own fault is one of what it asks for
pub of_text : (fault : TextFault) → IsOfText fault → IsOfInput fault
of_text (Syntax line) of = tt
of_text (BadHex line) of = tt
of_text TooLong of = absurd of
of_text Read of = absurd of
of_text Write of = absurd of
of_text Memory of = tt
of_text (Setup reason) of = absurd of

module _ {R W T : Type 0} (engine : Engine T) (run : Run R W) (none : engine.early ≡ None) where
  -- the writer got nothing
  left : (fault : TextFault) (front : List ℕ) → run.writer' ≡ run.writer → IsLeft engine run engine.early fault front
  left fault front same = let P : Option (List ℕ → List ℕ) → Type 0 = λ e. IsLeft engine run e fault front in subst P (sym none) same

  -- the text couldn't be read whole
  pub unread : (fault : TextFault) → BreaksOff (run.remaining run.reader.inner) (run.remaining run.reader'.inner) fault
      → IsTrue run.reader'.failed ↔ (fault ≡ Read) → IsFalse run.writer'.failed → run.writer' ≡ run.writer
      → EngineEnds engine run (Err fault)
  unread TooLong (front, more, full, some, given) failed sound same =
      (sound, failed, front, (more, full, some, given), left TooLong front same)
  unread Read (front, short, given) failed sound same = (sound, failed, front, (short, given), left Read front same)
  unread Memory (front, some, short, given) failed sound same =
      let P : Option (List ℕ → List ℕ) → Type 0 = λ e.
      IsWithin engine (run.remaining run.reader.inner) (run.remaining run.reader'.inner) e front in
      (sound, failed, front, (some, subst P (sym none) short, given), left Memory front same)
  unread (Syntax line) broke failed sound same = absurd broke
  unread (BadHex line) broke failed sound same = absurd broke
  unread Write broke failed sound same = absurd broke
  unread (Setup reason) broke failed sound same = absurd broke

  -- the text was read whole, and refused, or memory for it was
  pub unmade : (input : List ℕ) (fault : TextFault) → IsWholeText (run.remaining run.reader.inner) (run.remaining run.reader'.inner) input
      → IsOfInput fault → (fault ≡ Memory) ⊎ (engine.whole input ≡ Err fault) → (fault ≡ Memory → 0 < length input)
      → IsFalse run.reader'.failed → IsFalse run.writer'.failed → run.writer' ≡ run.writer → EngineEnds engine run (Err fault)
  unmade input (Syntax line) whole of why some read sound same =
      (sound, (λ t. absurd (cc), λ e. absurd (cc)), input, (whole, by why), left (Syntax line) input same)
    where
      by : (Syntax line ≡ Memory) ⊎ (engine.whole input ≡ Err (Syntax line)) → engine.whole input ≡ Err (Syntax line)
      by (inl memory) = absurd (cc)
      by (inr refused) = refused
  unmade input (BadHex line) whole of why some read sound same =
      (sound, (λ t. absurd (cc), λ e. absurd (cc)), input, (whole, by why), left (BadHex line) input same)
    where
      by : (BadHex line ≡ Memory) ⊎ (engine.whole input ≡ Err (BadHex line)) → engine.whole input ≡ Err (BadHex line)
      by (inl memory) = absurd (cc)
      by (inr refused) = refused
  unmade input (Setup reason) whole of why some read sound same =
      (sound, (λ t. absurd (cc), λ e. absurd (cc)), input, (whole, by why), left (Setup reason) input same)
    where
      by : (Setup reason ≡ Memory) ⊎ (engine.whole input ≡ Err (Setup reason)) → engine.whole input ≡ Err (Setup reason)
      by (inl memory) = absurd (cc)
      by (inr refused) = refused
  unmade input Memory whole of why some read sound same =
      unread Memory (input, some refl, whole.short, whole.given) (λ t. absurd (cc), λ e. absurd (cc)) sound same
  unmade input TooLong whole of why some read sound same = absurd of
  unmade input Read whole of why some read sound same = absurd of
  unmade input Write whole of why some read sound same = absurd of

-- a text is read so far, early or not, if no read failed
pub read_so_far : (old new : Option (List ℕ)) (failed : Bool) (early : Option (List ℕ → List ℕ)) (text : List ℕ) → IsFalse failed
    → IsReadSoFar old new failed early text
read_so_far old new failed None text read = read
read_so_far old new failed (Some early) text read = λ t. absurd (true≢false (sym t ∙ read))

module _ {R W T : Type 0} (engine : Engine T) (run : Run R W) where
  -- the text of what the reader gave was written
  pub written : (text : List ℕ) (end : T) → IsMade engine (run.remaining run.reader.inner) (run.remaining run.reader'.inner) text end
      → IsFalse run.reader'.failed → IsFalse run.writer'.failed
      → Appends (run.contents run.writer.inner) (run.contents run.writer'.inner) text → EngineEnds engine run (Ok end)
  written text end made read sound all = (read, sound, text, made, all)

  -- a prefix of it was
  pub cut_short : (text : List ℕ) (end : T) → IsMade engine (run.remaining run.reader.inner) (run.remaining run.reader'.inner) text end
      → IsFalse run.reader'.failed → IsTrue run.writer'.failed
      → AppendsFront (run.contents run.writer.inner) (run.contents run.writer'.inner) text → EngineEnds engine run (Err Write)
  cut_short text end made read failed front =
      (failed, text, read_so_far _ _ run.reader'.failed engine.early text read, inr (end, made), front)
