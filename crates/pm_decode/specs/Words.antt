-- The words of registers that a capture shows being read, one after another, and which of them changed with nothing in between that
-- writes it. This project's own choice.
use Rattle.std.specs.Prelude.{ℕ, ◌+◌, ◌*◌, ◌/◌, Bool, true, false, not, ◌&&◌, ◌||◌, ◌==◌, nat_eq, nat_lt, if◌then◌else◌, is_some, length, slice_index, unwrap_or, List, [], ◌∷◌, Option, Some, None}
use Rattle.std.specs.Map.{lookup}
use Rattle.indexmap.specs.IndexMap.{insert_entry}
use Rattle.pm_frame.specs.View.{message_code, message_page}
use Rattle.pm_table.specs.Codes as command
use Rattle.pm_trace.specs.Trace.{Judged, Accepted, Faulty, BadSyntax, BadHex}
use Rattle.pm_trace.specs.declared.trace_line.TraceLine.{TraceLine}
use Rattle.pm_trace.specs.Otherwise.{ContentBytes, content, content_of}
use Rattle.pm_trace.specs.Modes.{key_of}
use Rattle.pm_decode.specs.PageSteps.{is_clear, is_received, shows_pages}
use Rattle.pm_decode.specs.Readings.{is_told}
use Rattle.pm_decode.specs.WordChanges.{word_end_by, is_change, is_watched, reaches_all, word_change}
use Rattle.pm_decode.specs.declared.comment.ShownPacket.{ShownPacket}
use Rattle.pm_decode.specs.declared.page_steps.Marks.{Marks}
use Rattle.pm_decode.specs.declared.word_change.WordEnd.{WordEnd}
use Rattle.pm_decode.specs.declared.word_change.WordEnd.TheVariants as end
use Rattle.pm_decode.specs.declared.words.Word.{Word}
use Rattle.pm_decode.specs.declared.words.WordLine.{WordLine}
use Rattle.pm_decode.specs.declared.words.WordRead.{WordRead}

-- ---- what is known

-- the last word that was read of each code of each output, for each code of an address the last line that may have written it of any
-- output, for each address the last line by which all its words may have changed, the addresses that have pages, and the last line in
-- which something was lost
pub record Words : Type 0 where
  pub said : List (ℕ × WordLine)
  pub written : List (ℕ × ℕ)
  pub changed : List (ℕ × ℕ)
  pub paged : List (ℕ × Bool)
  pub lost : ℕ

abbrev pub no_words : Words
no_words = record { said = []; written = []; changed = []; paged = []; lost = 0 }

-- a code of an output: 256 stands for the page of a register of the device, and of an address that has no pages
abbrev pub word_key : ℕ → ℕ → ℕ → ℕ
word_key addr page code = (addr * 257 + page) * 256 + code

abbrev pub words_lost : ℕ → Words → Words
words_lost line words = record words { lost = line }

abbrev pub paged_by : ℕ → Bool → Words → Words
paged_by addr has_pages words = if has_pages then record words { paged = insert_entry nat_eq words.paged addr true } else words

-- a word that a line says, or that isn't known any more after it
abbrev pub word_said : ℕ → ℕ → Option Word → Words → Words
word_said line key word words = record words { said = insert_entry nat_eq words.said key (record { word = word; line = line }) }

abbrev pub words_ended_by : ℕ → ℕ → WordEnd → Words → Words
words_ended_by line addr end.OfNone words = words
words_ended_by line addr (end.OfOutput page code) words = word_said line (word_key addr page code) None words
words_ended_by line addr (end.OfCode code) words = record words { written = insert_entry nat_eq words.written (key_of addr code) line }
words_ended_by line addr end.OfAll words = record words { changed = insert_entry nat_eq words.changed addr line }
words_ended_by line addr end.OfEach words = words_lost line words

-- ---- a read

-- one or two bytes
abbrev pub word_of : List ℕ → Option Word
word_of (low ∷ []) = Some (record { low = low; high = None })
word_of (low ∷ high ∷ []) = Some (record { low = low; high = Some high })
word_of bytes = None

abbrev pub word_in_answer : Option (List ℕ) → Option Word
word_in_answer None = None
word_in_answer (Some answer) = word_of answer

-- FFh is no single output
abbrev pub single : Option ℕ → Option ℕ
single None = None
single (Some page) = if page == 0xFF then None else Some page

-- the output of a read: the one that it names, or that plain packets reach; an address without pages is one output
abbrev pub output_read : Bool → Option ℕ → ℕ → Option ℕ → Option ℕ
output_read paged reached code (Some page) = if code == command.write_protect then Some 256 else single (Some page)
output_read paged reached code None = if paged && not (code == command.write_protect) then single reached else Some 256

abbrev pub read_at : ℕ → ℕ → Option ℕ → Option Word → Option WordRead
read_at addr code None word = None
read_at addr code (Some page) None = None
read_at addr code (Some page) (Some word) = Some (record { addr = addr; page = page; code = code; word = word })

abbrev pub content_read : Words → ℕ → Option ℕ → ContentBytes → Option WordRead
content_read words addr reached content = if is_watched content.code && length content.written == 0
    then read_at addr content.code (output_read (is_some (lookup (nat_eq addr) words.paged)) reached content.code content.page)
    (word_in_answer content.answer) else None

-- what a packet carries, as the command table has it or by its code and bytes
abbrev pub content_shown : Judged → TraceLine → ContentBytes
content_shown (Accepted addr message answer) parts = content (message_page message) (message_code message) [] answer
content_shown (Faulty addr is_read fault) parts = content_of parts.write parts.read
content_shown BadSyntax parts = content_of parts.write parts.read
content_shown BadHex parts = content_of parts.write parts.read

-- A clear read of such a register, of an output that is known. A read with a mark isn't, nor does one say something that nobody may have
-- answered.
abbrev pub word_read : Words → Marks → Option ℕ → Judged → TraceLine → Option WordRead
word_read words marks other judged parts =
    if is_told other judged && (is_received marks.ones parts && not (is_some marks.wrong))
    then content_read words (slice_index parts.write 0 / 2) marks.reached (content_shown judged parts) else None

-- two words of as many bytes that aren't the same
abbrev pub is_other_high : Option ℕ → Option ℕ → Bool → Bool
is_other_high None None is_other_low = is_other_low
is_other_high (Some before) (Some high) is_other_low = is_other_low || not (before == high)
is_other_high None (Some high) is_other_low = false
is_other_high (Some before) None is_other_low = false

abbrev pub is_other_word : Option Word → Word → Bool
is_other_word None word = false
is_other_word (Some before) word = is_other_high before.high word.high (not (before.low == word.low))

-- the line of an entry, 0 if there is none
abbrev pub last_of : List (ℕ × ℕ) → ℕ → ℕ
last_of entries key = unwrap_or (lookup (nat_eq key) entries) 0

-- nothing may have changed a word since this line
abbrev pub is_kept : Words → WordRead → ℕ → Bool
is_kept words read line = nat_lt words.lost line
    && (nat_lt (last_of words.changed read.addr) line && nat_lt (last_of words.written (key_of read.addr read.code)) line)

abbrev pub differs_from : Words → WordRead → Option WordLine → Option ℕ
differs_from words read None = None
differs_from words read (Some said) = if is_kept words read said.line && is_other_word said.word read.word then Some said.line else None

-- the line of the read before, which gave another word with nothing in between that writes it
abbrev pub changed_since : Words → Option WordRead → Option ℕ
changed_since words None = None
changed_since words (Some read) = differs_from words read (lookup (nat_eq (word_key read.addr read.page read.code)) words.said)

-- ---- after a packet

abbrev pub read_said : ℕ → Option WordRead → Words → Words
read_said line None words = words
read_said line (Some read) words = word_said line (word_key read.addr read.page read.code) (Some read.word) words

-- what a packet with these marks ends
abbrev pub ended_by_packet : Marks → Option ℕ → Judged → TraceLine → WordEnd
ended_by_packet marks other judged parts = word_end_by marks.is_restart (reaches_all (slice_index parts.write 0 / 2))
    (is_clear marks.ones other judged parts) marks.page (word_change parts.write)

abbrev pub words_heard : ℕ → Marks → Option ℕ → Judged → TraceLine → Words → Words
words_heard line marks other judged parts words = read_said line (word_read words marks other judged parts)
    (words_ended_by line (slice_index parts.write 0 / 2) (ended_by_packet marks other judged parts)
    (paged_by (slice_index parts.write 0 / 2) (shows_pages marks.ones parts) words))

-- what a packet that a comment shows ends: nothing of it is sure
abbrev pub words_shown : ℕ → Bool → ShownPacket → Words → Words
words_shown line lost shown words = words_ended_by line (shown.first / 2)
    (word_end_by lost (reaches_all (shown.first / 2)) false None shown.changes) (paged_by (shown.first / 2) shown.has_pages words)

-- a packet to an address that is no part's may be a write to a zone
abbrev pub words_aside : ℕ → List ℕ → Words → Words
words_aside line write words =
    if reaches_all (slice_index write 0 / 2) && is_change (word_change write) then words_lost line words else words
