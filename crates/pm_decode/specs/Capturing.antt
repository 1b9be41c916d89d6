-- What is kept of the bytes of a capture that were taken, and what was said of the lines that ended: `kept_of` and
-- `said_text`, a look back over all bytes, and `capture_with_bytes` and `told_of_capture`, what further bytes make of it. This project's
-- own
-- choice.
use Rattle.std.specs.Prelude.{ℕ, ◌+◌, ◌-◌, ◌^◌, ◌≤◌, Bool, if◌then◌else◌, List, [], length, map, filter}
use Rattle.std.specs.List.{enumerate_from, fold}
use Rattle.pm_lines.specs.Lines.{is_line_feed, without_return}
use Rattle.pm_lines.specs.Streams.{max_text}
use Rattle.pm_trace.specs.Marks.{ended_pieces, since, told_at_marks}
use Rattle.pm_decode.specs.CaptureText.{line_text, lines_text}
use Rattle.pm_decode.specs.Hearing.{HeardLines, heard_lines, heard_in_lines, line_heard_with, unknown}
use Rattle.pm_decode.specs.Options.{notes_comments}
use Rattle.pm_decode.specs.Readings.{Entry, entry_of, is_heard}
use Rattle.pm_decode.specs.TimedLines.{passes_timed, timed_of, timed_said, timed_takes}
use Rattle.pm_decode.specs.declared.options.TellOptions.{TellOptions}
use Rattle.pm_decode.specs.declared.timed_line.TimedLine.{TimedLine}

-- ---- the bytes taken

-- how the capture is shown, how many bytes were taken, how many lines ended, what these lines said, and what is kept of
-- the line that goes on
pub record Kept : Type 0 where
  pub options : TellOptions
  pub taken : ℕ
  pub ended : ℕ
  pub heard : HeardLines
  pub line : TimedLine

-- the lines that a line feed ended, those that say nothing apart
unfoldable pub said_in_capture : TellOptions → List ℕ → List Entry
said_in_capture options bytes = map (entry_of options) (filter (is_heard (notes_comments options))
    (enumerate_from 1 (map without_return (ended_pieces is_line_feed bytes))))

-- what is written of them
abbrev pub said_text : TellOptions → List ℕ → List ℕ
said_text options bytes = lines_text options unknown (said_in_capture options bytes)

-- what is kept of these bytes
unfoldable pub kept_of : TellOptions → List ℕ → Kept
kept_of options bytes = record {
  options = options;
  taken = length bytes;
  ended = length (ended_pieces is_line_feed bytes);
  heard = heard_in_lines options (said_in_capture options bytes);
  line = timed_of options.times (since is_line_feed bytes);
}

-- ---- further bytes

-- the line that ends here
abbrev pub entry_ended : Kept → Entry
entry_ended kept = (kept.ended + 1, timed_said (notes_comments kept.options) kept.line)

-- what is heard if a line ends here, and what is written of it
abbrev pub heard_ended : Kept → HeardLines
heard_ended kept = if passes_timed (notes_comments kept.options) kept.line then kept.heard
    else line_heard_with kept.options kept.heard (entry_ended kept)

abbrev pub text_ended : Kept → List ℕ
text_ended kept = if passes_timed (notes_comments kept.options) kept.line then []
    else line_text kept.options kept.heard.known (entry_ended kept)

-- what is kept if a line ends here
abbrev pub capture_line_ended : Kept → Kept
capture_line_ended kept = record {
  options = kept.options;
  taken = kept.taken;
  ended = kept.ended + 1;
  heard = heard_ended kept;
  line = timed_of kept.line.times [];
}

-- one byte more
unfoldable pub capture_takes : Kept → ℕ → Kept
capture_takes kept byte = if is_line_feed byte
    then record (capture_line_ended kept) { taken = kept.taken + 1 }
    else record kept { taken = kept.taken + 1; line = timed_takes kept.line byte }

-- further bytes
abbrev pub capture_with_bytes : Kept → List ℕ → Kept
capture_with_bytes kept bytes = fold capture_takes kept bytes

-- what is written of the lines that end within further bytes
abbrev pub told_of_capture : Kept → List ℕ → List ℕ
told_of_capture kept bytes = told_at_marks is_line_feed capture_takes text_ended kept bytes

-- the end of all bytes, which ends a line that has some
abbrev pub capture_at_end : Kept → Kept
capture_at_end kept = if kept.line.is_begun then capture_line_ended kept else kept

abbrev pub told_at_capture_end : Kept → List ℕ
told_at_capture_end kept = if kept.line.is_begun then text_ended kept else []

-- ---- bounds

-- the most bytes that a capture may have
abbrev pub most_bytes : Bool → ℕ
most_bytes long = if long then 2 ^ 64 - 1 else max_text

-- no more lines were heard than ended, and no more ended than bytes were taken, if one that goes on has a byte
pub record IsBounded (kept : Kept) : Type 0 where
  pub heard : heard_lines kept.heard ≤ kept.ended
  pub ended : kept.ended + (if kept.line.is_begun then 1 else 0) ≤ kept.taken
  pub taken : kept.taken ≤ most_bytes kept.options.long
