-- What the lines of a trace say. A line is the write part of a packet of SMBus as it went over the
-- bus, in hexadecimal, and optionally `/` and the read part. The form of the lines is this project's
-- own choice; the packets and their faults are those of `pm_frame`.
use Rattle.std.specs.Prelude.{ℕ, ◌/◌, ◌%◌, Bool, true, false, not, ◌&&◌, ◌||◌, ◌==◌, nat_lt, nat_le, if◌then◌else◌, List, [], ◌∷◌, length, map, flat_map, slice_index, is_some, Option, Some, None, Result, Ok, Err}
use Rattle.std.specs.List.{slice_split, list_any, list_all}
use Rattle.hex.specs.Hex.{is_hex_digit}
use Rattle.pm_frame.specs.Fault.{write_fault, request_fault, answer_fault}
use Rattle.pm_frame.specs.View.{message_in, answer_payload}
use Rattle.pm_frame.specs.declared.fault.FrameFault.{FrameFault}
use Rattle.pm_frame.specs.declared.fault.FrameFault.TheVariants.{NotOurs}
use Rattle.pm_frame.specs.declared.message.Message.{Message}
use Rattle.pm_lines.specs.Pairs.{byte_of}
use Rattle.pm_lines.specs.Lines.{Numbered, is_space, unskipped_from}
use Rattle.pm_trace.specs.Marks.{before, after_first_mark}
use Rattle.pm_trace.specs.declared.line_fault.LineFault.{LineFault}
use Rattle.pm_trace.specs.declared.line_fault.LineFault.TheVariants as fault
use Rattle.pm_trace.specs.declared.trace_line.TraceLine.{TraceLine}

-- ---- the words of a line

-- the byte between the write part and the read part, which parts words too
abbrev pub is_slash : ℕ → Bool
is_slash byte = byte == 47

abbrev pub is_separator : ℕ → Bool
is_separator byte = is_space byte || is_slash byte

-- the bytes that a word's digits write, two digits a byte
abbrev pub bytes_of_digits : List ℕ → List ℕ
bytes_of_digits [] = []
bytes_of_digits (digit ∷ []) = []
bytes_of_digits (high ∷ low ∷ digits) = byte_of high low ∷ bytes_of_digits digits

-- the last digit of a word, where it has no other to make a byte with
abbrev pub unpaired : List ℕ → Option ℕ
unpaired [] = None
unpaired (digit ∷ []) = Some digit
unpaired (high ∷ low ∷ digits) = unpaired digits

-- a word that isn't an even number of hexadecimal digits
abbrev pub is_bad_word : List ℕ → Bool
is_bad_word word = not (list_all is_hex_digit word) || is_some (unpaired word)

-- the bytes that the words of a part write; nothing stands between two separators that are
-- neighbours, which is a word of no bytes
abbrev pub part_bytes : List ℕ → List ℕ
part_bytes part = flat_map bytes_of_digits (slice_split is_separator part)

-- ---- a line

-- it has a word that isn't hexadecimal, wherever that stands
abbrev pub has_bad_word : List ℕ → Bool
has_bad_word line = list_any is_bad_word (slice_split is_separator line)

-- the most bytes that a part may have
abbrev pub max_part : ℕ
max_part = 300

-- a part with more bytes than that
abbrev pub is_long : List ℕ → Bool
is_long part = nat_lt max_part (length (part_bytes part))

-- it has a second slash, or a part is too long
abbrev pub is_misshapen : List ℕ → Bool
is_misshapen line = list_any is_slash (after_first_mark is_slash line)
    || (is_long (before is_slash line) || is_long (after_first_mark is_slash line))

-- the bytes of its parts; there is a read part where there is a slash
abbrev pub parts_of : List ℕ → TraceLine
parts_of line = record {
  write = part_bytes (before is_slash line);
  read = if list_any is_slash line then Some (part_bytes (after_first_mark is_slash line)) else None;
}

-- the bytes that a line writes. X2 wins over X1.
unfoldable pub line_read : List ℕ → Result TraceLine LineFault
line_read line = if has_bad_word line then Err fault.BadHex
    else (if is_misshapen line then Err fault.Syntax else Ok (parts_of line))

-- ---- what it says

-- A line that says what a packet is: the address, the message, and of a read what was answered. A
-- line whose packet has a fault: the address, whether the fault is in the read part, the fault. A
-- line that is misshapen, and one that isn't hexadecimal.
pub data Judged : Type 0 where
  Accepted : ℕ → Message → Option (List ℕ) → Judged
  Faulty : Option ℕ → Bool → FrameFault → Judged
  BadSyntax : Judged
  BadHex : Judged

-- the address of a packet: half of its first byte, where that is even and the half is 08h to 77h
abbrev pub address_of : List ℕ → Option ℕ
address_of bytes =
    let first = slice_index bytes 0 in
    if first % 2 == 0 && (nat_le 0x08 (first / 2) && nat_le (first / 2) 0x77) then Some (first / 2) else None

-- a packet that a stop ended
abbrev pub write_judged : ℕ → Message → Option FrameFault → Judged
write_judged addr message (Some fault) = Faulty (Some addr) false fault
write_judged addr message None = Accepted addr message None

-- what came back for a request
abbrev pub answer_judged : ℕ → Message → List ℕ → Option FrameFault → Judged
answer_judged addr message read (Some fault) = Faulty (Some addr) true fault
answer_judged addr message read None = Accepted addr message (Some (answer_payload message read))

-- a packet whose request a repeated start ended
abbrev pub read_judged : ℕ → Message → List ℕ → Option FrameFault → Judged
read_judged addr message read (Some fault) = Faulty (Some addr) false fault
read_judged addr message read None =
    answer_judged addr message read (answer_fault addr message read)

-- a packet at an address
abbrev pub packet_judged : ℕ → List ℕ → Option (List ℕ) → Judged
packet_judged addr write None = write_judged addr (message_in write) (write_fault addr write)
packet_judged addr write (Some read) =
    read_judged addr (message_in write) read (request_fault addr write)

abbrev pub judged_at : Option ℕ → List ℕ → Option (List ℕ) → Judged
judged_at None write read = Faulty None false NotOurs
judged_at (Some addr) write read = packet_judged addr write read

-- a packet by its two parts
unfoldable pub parts_judged : List ℕ → Option (List ℕ) → Judged
parts_judged write read = judged_at (address_of write) write read

-- a line by what was read of it
abbrev pub reading_judged : Result TraceLine LineFault → Judged
reading_judged (Ok parts) = parts_judged parts.write parts.read
reading_judged (Err fault.Syntax) = BadSyntax
reading_judged (Err fault.BadHex) = BadHex

abbrev pub line_judged : List ℕ → Judged
line_judged line = reading_judged (line_read line)

-- ---- the lines of a trace

-- what a line says, with its number
abbrev pub ToldLine : Type 0
ToldLine = ℕ × Judged

abbrev pub told_of_line : Numbered → ToldLine
told_of_line numbered = (numbered.0, line_judged numbered.1)

-- what the lines of a trace say that are not skipped
unfoldable pub trace_of : List ℕ → List ToldLine
trace_of text = map told_of_line (unskipped_from 1 text)
