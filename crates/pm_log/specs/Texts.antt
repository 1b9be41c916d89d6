-- A log as a text: its lines, and what they come to. This project's own choice.
use Rattle.std.specs.Prelude.{◌≡◌, ◌↔◌, ℕ, ◌+◌, ◌<◌, ◌≤◌, ◌^◌, nat_lt, if◌then◌else◌, List, [], ◌∷◌, ◌++◌, length, Option, Result, Ok, Err, IsTrue, IsFalse}
use Rattle.std.specs.List.{fold, slice_split}
use Rattle.std.specs.Io.KnownBytes.{Appends, Consumes, IsAtEnd}
use Rattle.pm_lines.specs.Lines.{has_bytes, is_line_feed, without_empty_last}
use Rattle.pm_lines.specs.Engine.{Run}
use Rattle.pm_lines.specs.Streams.{AppendsFront}
use Rattle.pm_lines.specs.declared.fault.TextFault.{TextFault}
use Rattle.pm_lines.specs.declared.fault.TextFault.TheVariants.{TooLong, Read, Write, Memory}
use Rattle.pm_limits.specs.declared.part_registers.PartRegisters.{PartRegisters}
use Rattle.pm_log.specs.Logs.{Checked, Known, at_end, max_line, no_line, with_line}
use Rattle.pm_log.specs.Verdicts.{log_end_of, verdict_text}
use Rattle.pm_log.specs.declared.checked.Refusal.{Refusal}
use Rattle.pm_log.specs.declared.checking.LogEnd.{LogEnd}

-- ---- the whole text

-- the lines of a text, each with a carriage return that ends it; nothing after the last line feed is no line
abbrev pub raw_lines : List ℕ → List (List ℕ)
raw_lines text = without_empty_last (slice_split is_line_feed text)

-- what lines come to, by what the receiver lets parts lack
abbrev pub checked_lines : List PartRegisters → List (List ℕ) → Checked
checked_lines allowed lines = fold with_line (no_line allowed) lines

-- what a text comes to, what is written of it, and how that ends
abbrev pub ended_text : Checked → Result Known Refusal
ended_text checked = at_end checked.ended checked.log

unfoldable pub log_of : List PartRegisters → List ℕ → Result Known Refusal
log_of allowed text = ended_text (checked_lines allowed (raw_lines text))

abbrev pub log_text : List PartRegisters → List ℕ → List ℕ
log_text allowed text = verdict_text (log_of allowed text)

abbrev pub log_end : List PartRegisters → List ℕ → LogEnd
log_end allowed text = log_end_of (log_of allowed text)

-- ---- bytes one after another

-- the line that goes on, as far as it is kept, how many bytes were taken, and what the lines come to that ended
pub record Kept : Type 0 where
  pub line : List ℕ
  pub taken : ℕ
  pub checked : Checked

abbrev pub no_byte : List PartRegisters → Kept
no_byte allowed = record { line = []; taken = 0; checked = no_line allowed }

-- a line that is too long is kept with one byte more than it may have
abbrev pub line_with : List ℕ → ℕ → List ℕ
line_with line byte = if nat_lt max_line (length line) then line else line ++ byte ∷ []

unfoldable pub with_byte : Kept → ℕ → Kept
with_byte kept byte = if is_line_feed byte
    then record { line = []; taken = kept.taken + 1; checked = with_line kept.checked kept.line }
    else record { line = line_with kept.line byte; taken = kept.taken + 1; checked = kept.checked }

abbrev pub log_kept_of : List PartRegisters → List ℕ → Kept
log_kept_of allowed bytes = fold with_byte (no_byte allowed) bytes

-- a last line without a line feed ends
abbrev pub last_line_ended : Kept → Checked
last_line_ended kept = if has_bytes kept.line then with_line kept.checked kept.line else kept.checked

-- ---- an engine's run

-- the most bytes that a log may have
abbrev pub most_log_bytes : ℕ
most_log_bytes = 2 ^ 63

-- the reader gave these bytes and has no more
pub record IsAll (old new : Option (List ℕ)) (text : List ℕ) : Type 0 where
  pub given : Consumes old new text
  pub ended : IsAtEnd new
  pub short : length text ≤ most_log_bytes

-- why nothing is written, by the bytes that the reader gave: more than a log may have; any, if a read failed; some,
-- if memory was refused
abbrev pub Breaks : Option (List ℕ) → Option (List ℕ) → TextFault → Type 0
Breaks old new TooLong = (front : List ℕ) × (most_log_bytes < length front) × Consumes old new front
Breaks old new Read = (front : List ℕ) × Consumes old new front
Breaks old new Memory = (front : List ℕ) × (0 < length front) × Consumes old new front
Breaks old new _ = ⊥

-- How a check of a log ends that was given streams which hadn't failed, by what the receiver lets parts lack: the line was written that
-- the whole text asks for, the writer failed at it, or nothing was written.
module _ {R W : Type 0} (allowed : List PartRegisters) (run : Run R W) where
  abbrev pub GaveAll : List ℕ → Type 0
  GaveAll input = IsAll (run.remaining run.reader.inner) (run.remaining run.reader'.inner) input

  abbrev pub LogEnds : Result LogEnd TextFault → Type 0
  LogEnds (Ok end) = IsFalse run.reader'.failed × IsFalse run.writer'.failed × (input : List ℕ) × GaveAll input
      × (end ≡ log_end allowed input) × Appends (run.contents run.writer.inner) (run.contents run.writer'.inner) (log_text allowed input)
  LogEnds (Err Write) = IsFalse run.reader'.failed × IsTrue run.writer'.failed × (input : List ℕ) × GaveAll input
      × AppendsFront (run.contents run.writer.inner) (run.contents run.writer'.inner) (log_text allowed input)
  LogEnds (Err fault) = (run.writer' ≡ run.writer) × (IsTrue run.reader'.failed ↔ (fault ≡ Read))
      × Breaks (run.remaining run.reader.inner) (run.remaining run.reader'.inner) fault
