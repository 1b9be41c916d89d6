-- What a line of a capture reads as: the packet's bytes, as `pm_trace` reads them, and with times the number that
-- stands before them. The forms are this project's own choice.
use Rattle.std.specs.Prelude.{ℕ, zero, suc, ◌+◌, ◌-◌, ◌*◌, ◌^◌, nat_le, is_some, ℤ, pos, negsuc, Bool, true, false, not, ◌&&◌, ◌||◌, ◌==◌, nat_eq, nat_lt, if◌then◌else◌, List, [], ◌∷◌, codes, drop, length, map, filter, slice_index, take, ◌/◌, ◌%◌, Option, Some, None, Result, Ok, Err}
use Rattle.std.specs.List.{enumerate_from, starts_with}
use Rattle.pm_lines.specs.Digits.{signed_of}
use Rattle.pm_lines.specs.Pairs.{pair_of}
use Rattle.pm_lines.specs.Lines.{Numbered, is_skipped, is_space, lines_of}
use Rattle.pm_trace.specs.Pages.{is_paging, touch_of}
use Rattle.pm_trace.specs.Marks.{before}
use Rattle.pm_trace.specs.Trace.{Judged, line_read, parts_judged, reading_judged}
use Rattle.pm_trace.specs.declared.line_fault.LineFault.{LineFault}
use Rattle.pm_trace.specs.declared.line_fault.LineFault.TheVariants as fault
use Rattle.pm_trace.specs.declared.trace_line.TraceLine.{TraceLine}
use Rattle.pm_trace.specs.Otherwise.{address_otherwise, is_accepted, judged_anyway, lacks_pec}
use Rattle.pm_trace.specs.declared.answers.Ones.{Ones}
use Rattle.pm_decode.specs.declared.comment.Remark.{Remark}
use Rattle.pm_decode.specs.declared.comment.Remark.TheVariants.{Elsewhere, Refuses, Shows, Loss}
use Rattle.pm_decode.specs.declared.comment.Failure.{Failure}
use Rattle.pm_decode.specs.declared.comment.Note.{Note}
use Rattle.pm_decode.specs.declared.comment.ShownPacket.{ShownPacket}
use Rattle.pm_decode.specs.declared.comment.Why.{Why}
use Rattle.pm_decode.specs.declared.comment.Why.TheVariants as why
use Rattle.pm_decode.specs.WordChanges.{word_change}
use Rattle.pm_decode.specs.declared.special.Special.{Special}
use Rattle.pm_decode.specs.Options.{notes_comments}
use Rattle.pm_decode.specs.declared.options.TellOptions.{TellOptions}

-- ---- the word before a packet

-- what stands from the first byte on that has this mark: nothing, if none has it
abbrev pub from_first : (ℕ → Bool) → List ℕ → List ℕ
from_first mark [] = []
from_first mark (byte ∷ bytes) = if mark byte then byte ∷ bytes else from_first mark bytes

-- a line without the spaces that stand first
abbrev pub past_spaces : List ℕ → List ℕ
past_spaces line = from_first (λ byte. not (is_space byte)) line

-- the first word of a line: the bytes up to a space, after the spaces that stand first
abbrev pub first_word : List ℕ → List ℕ
first_word line = before is_space (past_spaces line)

-- what follows that word, from the space on that ends it
abbrev pub behind_word : List ℕ → List ℕ
behind_word line = from_first is_space (past_spaces line)

-- a number that isn't below 0
abbrev pub natural : Option ℤ → Option ℕ
natural (Some (pos n)) = Some n
natural (Some (negsuc n)) = None
natural None = None

-- the time that a word is: one to eighteen decimal digits, microseconds. 45 is `-`.
abbrev pub time_in : List ℕ → Option ℕ
time_in word = if nat_lt 18 (length word) || slice_index word 0 == 45 then None else natural (signed_of 64 word)

-- ---- a line

-- the time, if lines have one, and the bytes of the packet's parts or why they can't be read
pub record Reading : Type 0 where
  pub time : Option ℕ
  pub parts : Result TraceLine LineFault

-- a line without a time is misshapen if lines have one
abbrev pub timed : Option ℕ → Result TraceLine LineFault → Reading
timed None parts = record { time = None; parts = Err fault.Syntax }
timed (Some time) parts = record { time = Some time; parts = parts }

-- a line of a capture with times, or without
abbrev pub line_reading_of : Bool → List ℕ → Reading
line_reading_of true line = timed (time_in (first_word line)) (line_read (behind_word line))
line_reading_of false line = record { time = None; parts = line_read line }

-- ---- a comment

-- a line whose first byte is `#`
abbrev pub is_comment : List ℕ → Bool
is_comment line = starts_with nat_eq line (codes "#")

-- what follows the first colon and space. 58 is `:`.
abbrev pub behind_colon : List ℕ → List ℕ
behind_colon [] = []
behind_colon (byte ∷ []) = []
behind_colon (byte ∷ next ∷ rest) = if byte == 58 && next == 32 then rest else behind_colon (next ∷ rest)

-- the byte that a text begins with
abbrev pub first_byte : List ℕ → Option ℕ
first_byte [] = None
first_byte (high ∷ []) = None
first_byte (high ∷ low ∷ rest) = pair_of high low

-- what follows a space
abbrev pub behind_space : List ℕ → List ℕ
behind_space [] = []
behind_space (space ∷ rest) = if space == 32 then rest else []

abbrev pub onto_shown : Option ℕ → List ℕ → List ℕ
onto_shown None bytes = []
onto_shown (Some byte) bytes = byte ∷ bytes

-- the bytes that begin a text in hexadecimal, at most so many, with a space between two of them
abbrev pub bytes_shown : ℕ → List ℕ → List ℕ
bytes_shown zero text = []
bytes_shown (suc count) text = onto_shown (first_byte text) (bytes_shown count (behind_space (drop 2 text)))

-- what follows the first slash between two spaces. 47 is `/`.
abbrev pub behind_slash : List ℕ → List ℕ
behind_slash [] = []
behind_slash (byte ∷ []) = []
behind_slash (byte ∷ next ∷ []) = []
behind_slash (byte ∷ next ∷ last ∷ rest) =
    if byte == 32 && (next == 47 && last == 32) then rest else behind_slash (next ∷ last ∷ rest)

-- a read part follows these bytes
abbrev pub is_read_shown : List ℕ → ℕ → Bool
is_read_shown text count = starts_with nat_eq (drop (3 * count - 1) text) (codes " /")

-- a packet with these first bytes
abbrev pub packet_shown : Bool → Bool → List ℕ → ShownPacket
packet_shown is_failed is_read bytes = record {
  first = slice_index bytes 0;
  code = slice_index bytes 1;
  touch = touch_of bytes is_read;
  has_pages = is_paging bytes false;
  has_data = nat_le 2 (length bytes);
  is_failed_read = is_failed && (is_read && nat_le 2 (length bytes));
  changes = word_change bytes;
}

-- one that is written to an address
abbrev pub write_shown : Bool → Bool → List ℕ → Remark
write_shown is_failed is_read bytes = if slice_index bytes 0 % 2 == 1 then Elsewhere
    else Shows (packet_shown is_failed is_read bytes)

-- a part of another device follows, or a third part
abbrev pub is_joined : ℕ → List ℕ → Option ℕ → Bool
is_joined first rest None = false
is_joined first rest (Some second) =
    not (second / 2 == first / 2) || (second % 2 == 0 || is_some (first_byte (behind_slash rest)))

abbrev pub is_together : ℕ → List ℕ → Bool
is_together first rest = is_joined first rest (first_byte rest)

-- a transfer whose bytes begin a text
abbrev pub transfer_by : Bool → List ℕ → List ℕ → Remark
transfer_by is_failed text [] = Elsewhere
transfer_by is_failed text (first ∷ rest) = if is_together first (behind_slash text) then Loss
    else write_shown is_failed (is_read_shown text (length (first ∷ rest))) (first ∷ rest)

abbrev pub transfer_shown : Bool → List ℕ → Remark
transfer_shown is_failed text = transfer_by is_failed text (bytes_shown 6 text)

-- the number that a text begins with, behind `so_far` and of at most one digit more than `most`, and what follows the space behind
-- it. 48 is `0`.
abbrev pub number_shown : ℕ → ℕ → List ℕ → Option (ℕ × List ℕ)
number_shown most so_far [] = None
number_shown most so_far (byte ∷ rest) = if byte == 32 then Some (so_far, rest)
    else (if nat_le 48 byte && (nat_le byte 57 && nat_lt so_far most) then number_shown most (10 * so_far + (byte - 48)) rest else None)

-- the refusal that a text says behind `# byte `
abbrev pub refusal_by : Option (ℕ × List ℕ) → Remark
refusal_by None = Elsewhere
refusal_by (Some shown) = if starts_with nat_eq shown.1 (codes "wasn't acknowledged")
    then Refuses (record { place = shown.0; of_answer = false })
    else (if starts_with nat_eq shown.1 (codes "of the answer wasn't acknowledged")
    then Refuses (record { place = shown.0; of_answer = true }) else Elsewhere)

-- packets are missing, or a transfer had more than two parts, or a second one of another device
abbrev pub are_packets_missing : List ℕ → Bool
are_packets_missing text = starts_with nat_eq text (codes "# the kernel dropped events")
    || (starts_with nat_eq text (codes "# the kernel shows ") || (starts_with nat_eq text (codes "# the capture shows ")
    || (starts_with nat_eq text (codes "# the second part is no read")
    || (starts_with nat_eq (drop 3 text) (codes " parts: ") || starts_with nat_eq (drop 4 text) (codes " parts: ")))))

-- a transfer is shown that was cut, is no packet, or another device's
abbrev pub is_packet_comment : List ℕ → Bool
is_packet_comment text = starts_with nat_eq text (codes "# no stop: ")
    || (starts_with nat_eq text (codes "# no result: ") || (starts_with nat_eq text (codes "# a read alone: ")
    || (starts_with nat_eq text (codes "# a part ") || starts_with nat_eq text (codes "# another device: "))))

-- what a comment says, as `pmhost capture` writes them, by its first bytes
abbrev pub remark_in : List ℕ → Remark
remark_in text = if starts_with nat_eq text (codes "# byte ") then refusal_by (number_shown 1000 0 (drop 7 text))
    else (if are_packets_missing text then Loss
    else (if starts_with nat_eq text (codes "# failed") then transfer_shown true (behind_colon text)
    else (if is_packet_comment text then transfer_shown false (behind_colon text) else Elsewhere)))

-- the reason of a failure that a text begins with, as a number of Linux
abbrev pub why_in : List ℕ → Why
why_in text = if starts_with nat_eq text (codes "(-6)") || starts_with nat_eq text (codes "(-121)") then why.NotAcknowledged
    else (if starts_with nat_eq text (codes "(-110)") then why.TimedOut
    else (if starts_with nat_eq text (codes "(-11)") then why.LostArbitration
    else (if starts_with nat_eq text (codes "(-16)") then why.Busy
    else (if starts_with nat_eq text (codes "(-5)") then why.BusError else why.Unsaid))))

abbrev pub why_words : Why → List ℕ
why_words why.NotAcknowledged = codes "not acknowledged"
why_words why.TimedOut = codes "timed out"
why_words why.LostArbitration = codes "lost the arbitration"
why_words why.Busy = codes "the bus was busy"
why_words why.BusError = codes "bus error"
why_words why.Unsaid = codes "no reason is given"

abbrev pub failure_at : Option (ℕ × List ℕ) → Failure
failure_at None = record { time = None; why = why.Unsaid }
failure_at (Some shown) = record { time = Some shown.0; why = why_in shown.1 }

-- the transfer that a comment says failed, by its first bytes: its time, of at most 18 digits, stands before the reason
abbrev pub failure_in : List ℕ → Option Failure
failure_in text = if starts_with nat_eq text (codes "# failed at ") then Some (failure_at (number_shown (10 ^ 17) 0 (drop 12 text)))
    else (if starts_with nat_eq text (codes "# failed (") then Some (record { time = None; why = why_in (drop 9 text) })
    else (if starts_with nat_eq text (codes "# failed: ") then Some (record { time = None; why = why.Unsaid }) else None))

abbrev pub note_in : List ℕ → Note
note_in text = record { remark = remark_in text; failure = failure_in text }

abbrev pub note_of : List ℕ → Note
note_of line = note_in (take 63 line)

-- comments are noted if an option changes what is shown
abbrev pub is_noted : Bool → List ℕ → Bool
is_noted notes line = notes && is_comment line

-- ---- the lines

-- What a line is: one that is shown, by what it reads as, or a comment that is noted. A packet whose address is no part's is set
-- aside, for what the address is.
pub data Said : Type 0 where
  Told : Reading → Said
  Aside : Special → Reading → Said
  Noted : Note → Said

abbrev pub said_of_line : TellOptions → List ℕ → Said
said_of_line options line = if is_noted (notes_comments options) line then Noted (note_of line)
    else Told (line_reading_of options.times line)

-- a line's number, and what the line says
abbrev pub Entry : Type 0
Entry = ℕ × Said

abbrev pub entry_of : TellOptions → Numbered → Entry
entry_of options numbered = (numbered.0, said_of_line options numbered.1)

-- a line says nothing: it is skipped, and it isn't noted
abbrev pub is_passed : Bool → List ℕ → Bool
is_passed notes line = not (is_noted notes line) && is_skipped line

abbrev pub is_heard : Bool → Numbered → Bool
is_heard notes numbered = not (is_passed notes numbered.1)

-- the lines of a capture that say something
unfoldable pub entries_of : TellOptions → List ℕ → List Entry
entries_of options text = map (entry_of options) (filter (is_heard (notes_comments options)) (enumerate_from 1 (lines_of text)))

-- ---- what a packet says

-- what a packet says whose answer of ones is taken so; with `all` its PEC may be missing
abbrev pub judged_by : Bool → Ones → TraceLine → Judged
judged_by all ones parts = if all then judged_anyway ones parts.write parts.read else parts_judged parts.write parts.read

-- what a line says of a packet
abbrev pub judged_as : Bool → Ones → Result TraceLine LineFault → Judged
judged_as all ones (Ok parts) = judged_by all ones parts
judged_as all ones (Err fault) = reading_judged (Err fault)

-- the address of a packet that is shown otherwise, if such packets are
abbrev pub other_address : Bool → Ones → TraceLine → Option ℕ
other_address all ones parts = if all
    then address_otherwise ones parts.write parts.read (judged_anyway ones parts.write parts.read) else None

-- whether a packet is shown as good that lacks its PEC
abbrev pub is_without_pec : Bool → Ones → TraceLine → Bool
is_without_pec all ones parts = if all then lacks_pec ones parts.write parts.read else false

-- a packet is shown as good, or by its code and bytes
abbrev pub is_told : Option ℕ → Judged → Bool
is_told other judged = is_some other || is_accepted judged

-- one that is has the right PEC, and the length of its code: a byte of another code may be its PEC by chance
abbrev pub is_checked : Option ℕ → Bool → TraceLine → Bool
is_checked None lacks parts = not lacks
is_checked (Some addr) lacks parts = false
