-- What is kept of a line of a capture while its bytes come one after another, as a look back over its bytes so far
-- (`timed_of`), and what one more byte makes of it (`timed_takes`). This project's own choice.
use Rattle.std.specs.Prelude.{◌≡◌, ℕ, Bool, true, false, not, ◌&&◌, ◌||◌, ◌==◌, nat_lt, if◌then◌else◌, List, [], ◌∷◌, ◌++◌, length, take, None}
use Rattle.std.specs.List.{fold, list_any}
use Rattle.pm_lines.specs.Lines.{has_bytes, is_line_feed, is_space, without_return}
use Rattle.pm_trace.specs.OpenLines.{is_skipped_kind, open_line_of, line_takes, open_read}
use Rattle.pm_trace.specs.Parts.{part_of, part_takes}
use Rattle.pm_decode.specs.Readings.{Reading, Said, Told, Noted, behind_word, first_word, is_comment, note_in, time_in, timed}
use Rattle.pm_decode.specs.declared.comment.Note.{Note}
use Rattle.pm_decode.specs.declared.timed_line.TimedLine.{TimedLine}

-- the bytes of a line that may be a packet's: of a comment only the first byte, which says that it is one
abbrev pub own_bytes : List ℕ → List ℕ
own_bytes line = if is_comment line then take 1 line else line

-- the bytes of a line; the packet's own are all of them if lines have no time, and the first 64 of a comment tell what it
-- says
unfoldable pub timed_of : Bool → List ℕ → TimedLine
timed_of times line = record {
  times = times;
  has_mark = is_comment line;
  is_begun = has_bytes line;
  is_over = if times then has_bytes (behind_word (own_bytes line)) else true;
  head = if is_comment line then take 64 line else [];
  word = part_of (if times then first_word (own_bytes line) else []);
  packet = open_line_of (if times then behind_word (own_bytes line) else own_bytes line);
}

-- a byte is the packet's own: lines have no time, or a space ended the word, or ends it
abbrev pub is_of_packet : TimedLine → ℕ → Bool
is_of_packet line byte = line.is_over || (is_space byte && has_bytes line.word.bytes)

-- there is a byte, and this one is the first if there was none. 35 is `#`.
abbrev pub line_begun_with : TimedLine → ℕ → TimedLine
line_begun_with line byte = record line {
  has_mark = if line.is_begun then line.has_mark else byte == 35;
  is_begun = true;
}

-- the first bytes of a comment, and one more
abbrev pub head_takes : List ℕ → ℕ → List ℕ
head_takes head byte = if nat_lt (length head) 64 then head ++ byte ∷ [] else head

-- a comment goes on
abbrev pub comment_goes_on : TimedLine → Bool
comment_goes_on line = line.is_begun && line.has_mark

-- a comment's first bytes are kept: further ones say nothing more
abbrev pub is_comment_full : TimedLine → Bool
is_comment_full line = line.is_begun && (line.has_mark && not (nat_lt (length line.head) 64))

-- one byte more, of a line that isn't a comment yet
abbrev pub plain_line_takes : TimedLine → ℕ → TimedLine
plain_line_takes line byte = record {
  times = line.times;
  has_mark = if line.is_begun then line.has_mark else byte == 35;
  is_begun = true;
  is_over = is_of_packet line byte;
  head = if (if line.is_begun then line.has_mark else byte == 35) then head_takes line.head byte else line.head;
  word = if is_of_packet line byte || is_space byte then line.word else part_takes line.word byte;
  packet = if is_of_packet line byte then line_takes line.packet byte else line.packet;
}

-- one byte more
unfoldable pub timed_takes : TimedLine → ℕ → TimedLine
timed_takes line byte = if comment_goes_on line then record line { head = head_takes line.head byte } else plain_line_takes line byte

-- ---- if the line ends here

-- the word, without the carriage return that is no part of the line
abbrev pub word_ended : TimedLine → List ℕ
word_ended line = if line.is_over then line.word.bytes else without_return line.word.bytes

-- the line is skipped
abbrev pub skips_timed : TimedLine → Bool
skips_timed line = line.has_mark
    || (if line.times then not (has_bytes (word_ended line)) else is_skipped_kind line.packet.kind)

-- what it reads as
abbrev pub timed_read : TimedLine → Reading
timed_read line = if line.times
    then timed (if line.word.is_long then None else time_in (word_ended line)) (open_read line.packet)
    else record { time = None; parts = open_read line.packet }

-- what a comment with these first bytes says
abbrev pub head_note : List ℕ → Note
head_note head = note_in (take 63 (without_return head))

-- it says nothing, or what it is
abbrev pub passes_timed : Bool → TimedLine → Bool
passes_timed pages line = not (pages && line.has_mark) && skips_timed line

abbrev pub timed_said : Bool → TimedLine → Said
timed_said pages line = if pages && line.has_mark then Noted (head_note line.head) else Told (timed_read line)

-- ---- bytes of a piece

-- the first bytes of a piece were taken, none of which is a line feed, and the rest is left
pub record PassesTimed (old : TimedLine) (piece rest : List ℕ) (new : TimedLine) : Type 0 where
  pub front : List ℕ
  pub split : piece ≡ front ++ rest
  pub plain : list_any is_line_feed front ≡ false
  pub line : new ≡ fold timed_takes old front
