-- What is kept of a line of a trace while its bytes come one after another, as a look back over its
-- bytes so far (`kind_of`, `slashes_of`, `plain_line`, `open_line_of`), and what one more byte makes of it
-- (`kind_takes`, `one_slash_more`, `plain_takes`, `line_takes`). This project's own choice.
use Rattle.std.specs.Prelude.{◌≡◌, ℕ, Bool, true, false, not, ◌&&◌, ◌||◌, ◌==◌, nat_eq, if◌then◌else◌, List, [], ◌∷◌, ◌++◌, is_some, Option, Some, None, Result, Ok, Err, ⊤}
use Rattle.std.specs.List.{fold, list_any, list_all, ends_with}
use Rattle.hex.specs.Hex.{is_hex_digit}
use Rattle.pm_lines.specs.Pairs.{byte_of}
use Rattle.pm_lines.specs.Lines.{is_line_feed, is_space, without_return, carriage_return}
use Rattle.pm_trace.specs.Marks.{ended_pieces, since, before, after_first_mark}
use Rattle.pm_trace.specs.Trace.{is_slash, is_separator, unpaired, is_bad_word, part_bytes, reading_judged, Judged}
use Rattle.pm_trace.specs.declared.line_fault.LineFault.{LineFault}
use Rattle.pm_trace.specs.declared.line_fault.LineFault.TheVariants as fault
use Rattle.pm_trace.specs.declared.decoder.line_kind.LineKind.{LineKind}
use Rattle.pm_trace.specs.declared.decoder.line_kind.LineKind.TheVariants.{Empty, Blank, Comment, Packet}
use Rattle.pm_trace.specs.declared.decoder.slashes.Slashes.{Slashes}
use Rattle.pm_trace.specs.declared.decoder.slashes.Slashes.TheVariants as slash
use Rattle.pm_trace.specs.declared.trace_line.TraceLine.{TraceLine}
use Rattle.pm_trace.specs.declared.decoder.open_line.OpenLine.{OpenLine}
use Rattle.pm_trace.specs.Parts.{part_of, part_takes}

-- ---- whether a line is skipped

-- 35 is `#`
abbrev pub kind_of : List ℕ → LineKind
kind_of [] = Empty
kind_of (first ∷ rest) = if first == 35 then Comment
    else (if list_all is_space (first ∷ rest) then Blank else Packet)

abbrev pub kind_takes : LineKind → ℕ → LineKind
kind_takes Empty byte = if byte == 35 then Comment else (if is_space byte then Blank else Packet)
kind_takes Blank byte = if is_space byte then Blank else Packet
kind_takes Comment byte = Comment
kind_takes Packet byte = Packet

abbrev pub is_skipped_kind : LineKind → Bool
is_skipped_kind Empty = true
is_skipped_kind Blank = true
is_skipped_kind Comment = true
is_skipped_kind Packet = false

abbrev pub is_empty_kind : LineKind → Bool
is_empty_kind Empty = true
is_empty_kind Blank = false
is_empty_kind Comment = false
is_empty_kind Packet = false

-- ---- its slashes

abbrev pub slashes_of : List ℕ → Slashes
slashes_of line = if list_any is_slash line
    then (if list_any is_slash (after_first_mark is_slash line) then slash.More else slash.One)
    else slash.None

abbrev pub one_slash_more : Slashes → Slashes
one_slash_more slash.None = slash.One
one_slash_more slash.One = slash.More
one_slash_more slash.More = slash.More

-- the read part goes on
abbrev pub has_slash : Slashes → Bool
has_slash slash.None = false
has_slash slash.One = true
has_slash slash.More = true

abbrev pub has_more_slashes : Slashes → Bool
has_more_slashes slash.None = false
has_more_slashes slash.One = false
has_more_slashes slash.More = true

-- ---- a line, each byte of which counts

unfoldable pub plain_line : List ℕ → OpenLine
plain_line line = record {
  kind = kind_of line;
  write = part_of (part_bytes (before is_slash line));
  read = part_of (part_bytes (after_first_mark is_slash line));
  digit = unpaired (since is_separator line);
  slashes = slashes_of line;
  is_bad = list_any is_bad_word (ended_pieces is_separator line)
      || not (list_all is_hex_digit (since is_separator line));
  is_returned = false;
}

-- the part that goes on, with one byte more
abbrev pub part_with_byte : OpenLine → ℕ → OpenLine
part_with_byte line byte = record line {
  write = if has_slash line.slashes then line.write else part_takes line.write byte;
  read = if has_slash line.slashes then part_takes line.read byte else line.read;
}

-- a digit, which makes a byte with the one before it, where there is one
abbrev pub with_digit : OpenLine → Option ℕ → ℕ → OpenLine
with_digit line None byte = record line { digit = Some byte }
with_digit line (Some high) byte = part_with_byte (record line { digit = None }) (byte_of high byte)

-- a space or a slash: the word ends
abbrev pub word_ends : OpenLine → ℕ → OpenLine
word_ends line byte = record line {
  kind = kind_takes line.kind byte;
  digit = None;
  slashes = if is_slash byte then one_slash_more line.slashes else line.slashes;
  is_bad = line.is_bad || is_some line.digit;
}

-- another byte: the word goes on
abbrev pub word_goes_on : OpenLine → ℕ → OpenLine
word_goes_on line byte = with_digit (record line {
  kind = kind_takes line.kind byte;
  is_bad = line.is_bad || not (is_hex_digit byte);
}) line.digit byte

unfoldable pub plain_takes : OpenLine → ℕ → OpenLine
plain_takes line byte = if is_separator byte then word_ends line byte else word_goes_on line byte

-- what a line reads as that ends here
unfoldable pub open_read : OpenLine → Result TraceLine LineFault
open_read line = if line.is_bad || is_some line.digit then Err fault.BadHex
    else (if has_more_slashes line.slashes || (line.write.is_long || line.read.is_long)
    then Err fault.Syntax
    else Ok (record {
      write = line.write.bytes;
      read = if has_slash line.slashes then Some line.read.bytes else None;
    }))

abbrev pub open_judged : OpenLine → Judged
open_judged line = reading_judged (open_read line)

-- what an open line reads as, if it isn't skipped
abbrev pub open_told : OpenLine → Option Judged
open_told line = if is_skipped_kind line.kind then None else Some (open_judged line)

-- ---- a line whose end may come

-- the carriage return at its end is held back, since it is no part of a line that ends here
unfoldable pub open_line_of : List ℕ → OpenLine
open_line_of line = record (plain_line (without_return line)) {
  is_returned = ends_with nat_eq line carriage_return;
}

-- the line with the carriage return that was held back, which is a byte like any other where the
-- line goes on
abbrev pub with_return : OpenLine → OpenLine
with_return line = if line.is_returned
    then plain_takes (record line { is_returned = false }) 13 else line

unfoldable pub line_takes : OpenLine → ℕ → OpenLine
line_takes line byte = if byte == 13
    then record (with_return line) { is_returned = true }
    else plain_takes (with_return line) byte

-- it has a byte
abbrev pub is_begun : OpenLine → Bool
is_begun line = not (is_empty_kind line.kind) || line.is_returned

-- ---- bytes of a piece

-- the first bytes of a piece were taken, none of which is a line feed, and the rest is left
pub record Passes (old : OpenLine) (piece rest : List ℕ) (new : OpenLine) : Type 0 where
  pub front : List ℕ
  pub split : piece ≡ front ++ rest
  pub plain : list_any is_line_feed front ≡ false
  pub line : new ≡ fold line_takes old front

-- no byte is left, or the first one is a line feed
abbrev pub IsAtLineFeed : List ℕ → Type 0
IsAtLineFeed [] = ⊤
IsAtLineFeed (byte ∷ bytes) = byte ≡ 10

-- two digits stand first
abbrev pub begins_with_pair : List ℕ → Bool
begins_with_pair [] = false
begins_with_pair (x ∷ []) = false
begins_with_pair (x ∷ y ∷ rest) = is_hex_digit x && is_hex_digit y

-- pairs of digits that stand first change the part that goes on, and nothing else but the kind, which
-- is that of a packet then
abbrev pub takes_pairs : LineKind → List ℕ → Bool
takes_pairs Empty bytes = begins_with_pair bytes
takes_pairs Blank bytes = begins_with_pair bytes
takes_pairs Comment bytes = false
takes_pairs Packet bytes = true
