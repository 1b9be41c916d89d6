-- Packets that the command table doesn't have with their bytes: those that are good but for a PEC which isn't there, and
-- those that are shown by their code and bytes. Which packets these are, and how they are shown, is this project's own
-- choice.
use Rattle.std.specs.Prelude.{◌≡◌, ℕ, ◌+◌, ◌-◌, Bool, true, false, not, ◌&&◌, ◌||◌, ◌==◌, nat_le, nat_lt, if◌then◌else◌, List, [], ◌∷◌, ◌++◌, length, take, drop, slice_index, flat_map, decimal, codes, unwrap_or, Option, Some, None}
use Rattle.std.specs.List.{list_all}
use Rattle.pm_frame.specs.Pec.{pec_of}
use Rattle.pm_frame.specs.declared.fault.FrameFault.{FrameFault}
use Rattle.pm_frame.specs.declared.fault.FrameFault.TheVariants.{NotOurs, Short, Long, WrongCount, WrongPec, UnknownCode, WrongDirection, Nested}
use Rattle.pm_lines.specs.Numbers.{hex_byte}
use Rattle.pm_table.specs.Codes as command
use Rattle.pm_table.specs.Commands.{is_written}
use Rattle.pm_trace.specs.Trace.{Judged, Accepted, Faulty, BadSyntax, BadHex, parts_judged}
use Rattle.pm_trace.specs.CodeNames.{standard_name}
use Rattle.pm_trace.specs.declared.answers.Ones.{Ones}
use Rattle.pm_trace.specs.declared.answers.Ones.TheVariants.{Answer, Doubtful, Nobody, Refused}
use Rattle.pm_trace.specs.declared.otherwise.Otherwise.{Otherwise}
use Rattle.pm_trace.specs.ValueText.{known_text}
use Rattle.pm_trace.specs.Values.{other_value}
use Rattle.pm_frame.specs.Layout.{with_pec}

-- ---- which packets

-- a write of a code that the table never writes, of which nobody can say whether its last byte is a PEC
abbrev pub is_unwritten : ℕ → Option (List ℕ) → Bool
is_unwritten code None = not (is_written code)
is_unwritten code (Some read) = false

-- the faults of another code or another length than the table has, and of the other direction
abbrev pub is_of_code : ℕ → Option (List ℕ) → FrameFault → Bool
is_of_code code read (Short place) = true
is_of_code code read (Long place) = true
is_of_code code read (WrongCount place) = true
is_of_code code read (UnknownCode place) = true
is_of_code code read (WrongDirection place) = true
is_of_code code read (Nested place) = true
is_of_code code read (WrongPec place) = is_unwritten code read
is_of_code code read NotOurs = false

-- the read part, if there is one, begins with this address byte
abbrev pub is_read_from : ℕ → Option (List ℕ) → Bool
is_read_from first None = true
is_read_from first (Some []) = false
is_read_from first (Some (byte ∷ bytes)) = byte == first + 1

-- it has an address and a code
abbrev pub has_address_and_code : List ℕ → Option (List ℕ) → Bool
has_address_and_code write read = nat_le 2 (length write) && is_read_from (slice_index write 0) read

-- ---- the PEC

-- the last byte of the whole packet is the PEC of all bytes before it, and follows this many bytes of its part
abbrev pub ends_in_pec : List ℕ → ℕ → List ℕ → Bool
ends_in_pec before fewest part = nat_le (fewest + 1) (length part)
    && slice_index part (length part - 1) == pec_of (before ++ take (length part - 1) part)

-- a code whose answer is a word: READ_VIN to READ_PIN
abbrev pub is_of_word : ℕ → Bool
is_of_word code = nat_le command.read_vin code && nat_le code 0x97

-- how many bytes a code has at least, as far as that is judged: two of READ_VIN to READ_PIN, one of ON_OFF_CONFIG and of
-- STATUS_IOUT to STATUS_FANS_3_4
abbrev pub fewest_written : ℕ → ℕ
fewest_written code = if is_of_word code then 2
    else (if code == 0x02 || (nat_le 0x7B code && nat_le code 0x82) then 1 else 0)

-- an answer has at least one
abbrev pub fewest_read : ℕ → ℕ
fewest_read code = if is_of_word code then 2 else 1

-- the PEC follows the address and the code of a write, or the address of what was read, and the bytes that the code has
abbrev pub has_pec : List ℕ → Option (List ℕ) → Bool
has_pec write None = ends_in_pec [] (fewest_written (slice_index write 1) + 2) write
has_pec write (Some read) = ends_in_pec write (fewest_read (slice_index write 1) + 1) read

-- ---- ones

-- there is a byte, and each is FFh
abbrev pub are_ones : List ℕ → Bool
are_ones bytes = not (length bytes == 0) && list_all (λ byte. byte == 0xFF) bytes

-- what was read after the address is nothing but FFh, and no PEC of it is right
abbrev pub is_all_ones : List ℕ → Option (List ℕ) → Bool
is_all_ones write None = false
is_all_ones write (Some read) = are_ones (drop 1 read) && not (has_pec write (Some read))

-- a packet that was answered, or taken
abbrev pub ones_are_answer : Ones → Bool
ones_are_answer Answer = true
ones_are_answer Doubtful = false
ones_are_answer Nobody = false
ones_are_answer (Refused refusal) = false

abbrev pub is_nobody : Ones → Bool
is_nobody Answer = false
is_nobody Doubtful = false
is_nobody Nobody = true
is_nobody (Refused refusal) = false

-- an answer of ones, which is nobody's or may be
abbrev pub are_strange : Ones → Bool
are_strange Answer = false
are_strange Doubtful = true
are_strange Nobody = true
are_strange (Refused refusal) = false

-- its bytes say something: it was neither refused nor nobody's
abbrev pub is_heeded : Ones → Bool
is_heeded Answer = true
is_heeded Doubtful = true
is_heeded Nobody = false
is_heeded (Refused refusal) = false

abbrev pub is_refused : Ones → Bool
is_refused Answer = false
is_refused Doubtful = false
is_refused Nobody = false
is_refused (Refused refusal) = true

-- a write of PAGE_PLUS whose count says that its last byte is the PEC, which is wrong
abbrev pub is_miscounted : List ℕ → Option (List ℕ) → Bool
is_miscounted write None = slice_index write 1 == command.page_plus_write
    && (slice_index write 2 + 4 == length write && not (has_pec write None))
is_miscounted write (Some read) = false

-- the address of a packet that is shown by its code and bytes
abbrev pub address_otherwise : Ones → List ℕ → Option (List ℕ) → Judged → Option ℕ
address_otherwise ones write read (Faulty (Some addr) is_read fault) =
    if has_address_and_code write read
    && ((is_of_code (slice_index write 1) read fault || are_strange ones) && not (is_miscounted write read))
    then Some addr else None
address_otherwise ones write read (Faulty None is_read fault) = None
address_otherwise ones write read (Accepted addr message answer) = None
address_otherwise ones write read BadSyntax = None
address_otherwise ones write read BadHex = None

-- ---- packets without PEC

-- the packet ends too early
abbrev pub is_short : Judged → Bool
is_short (Faulty addr is_read (Short place)) = true
is_short (Faulty addr is_read fault) = false
is_short (Accepted addr message answer) = false
is_short BadSyntax = false
is_short BadHex = false

abbrev pub is_accepted : Judged → Bool
is_accepted (Accepted addr message answer) = true
is_accepted (Faulty addr is_read fault) = false
is_accepted BadSyntax = false
is_accepted BadHex = false

-- a packet with this last part
abbrev pub judged_with : List ℕ → Bool → List ℕ → Judged
judged_with write is_read part = if is_read then parts_judged write (Some part) else parts_judged part None

-- the packet with its PEC after it
abbrev pub completed_judged : List ℕ → Option (List ℕ) → Judged
completed_judged write None = judged_with write false (with_pec [] write)
completed_judged write (Some read) = judged_with write true (with_pec write read)

-- the last part of the packet with its PEC
abbrev pub IsCompleted : List ℕ → Option (List ℕ) → List ℕ → Type 0
IsCompleted write None part = part ≡ with_pec [] write
IsCompleted write (Some read) part = part ≡ with_pec write read

-- the last part of a packet
abbrev pub last_part : List ℕ → Option (List ℕ) → List ℕ
last_part write None = write
last_part write (Some read) = read

-- The packet has nothing but its PEC too few. A part of the command table has fewer than 16 bytes.
abbrev pub lacks_pec : Ones → List ℕ → Option (List ℕ) → Bool
lacks_pec ones write read = is_short (parts_judged write read) && (nat_lt (length (last_part write read)) 16
    && (not (is_nobody ones) && is_accepted (completed_judged write read)))

-- what a packet says if its PEC may be missing
abbrev pub judged_anyway : Ones → List ℕ → Option (List ℕ) → Judged
judged_anyway ones write read = if lacks_pec ones write read then completed_judged write read else parts_judged write read

-- ---- how they are shown

-- a part without its first bytes and without its PEC, if it has one
abbrev pub shown_of : ℕ → Bool → List ℕ → List ℕ
shown_of fewest is_right part = drop fewest (if is_right then take (length part - 1) part else part)

-- what was written after the code
abbrev pub written_bytes : List ℕ → Option (List ℕ) → List ℕ
written_bytes write None = shown_of 2 (has_pec write None) write
written_bytes write (Some read) = drop 2 write

-- what was answered after the address, if anything was read
abbrev pub bytes_after_address : List ℕ → Option (List ℕ) → Option (List ℕ)
bytes_after_address write None = None
bytes_after_address write (Some read) = Some (shown_of 1 (has_pec write (Some read)) read)

-- bytes in hexadecimal, each with a space before it
abbrev pub spaced_byte : ℕ → List ℕ
spaced_byte byte = codes " " ++ hex_byte byte

abbrev pub spaced : List ℕ → List ℕ
spaced bytes = flat_map spaced_byte bytes

-- the name of a code that the standard has
abbrev pub named_by : List ℕ → List ℕ
named_by [] = []
named_by (letter ∷ letters) = codes " " ++ (letter ∷ letters)

abbrev pub named_code_text : ℕ → List ℕ
named_code_text code = named_by (standard_name code)

-- ---- what they carry

-- the page, the code and the bytes of a packet; there is no answer if nothing was read
pub record ContentBytes : Type 0 where
  pub page : Option ℕ
  pub code : ℕ
  pub written : List ℕ
  pub answer : Option (List ℕ)

abbrev pub content : Option ℕ → ℕ → List ℕ → Option (List ℕ) → ContentBytes
content page code written answer = record { page = page; code = code; written = written; answer = answer }

-- a write: PAGE_PLUS_WRITE carries another code's, if its count is that of the page, the code and the bytes
abbrev pub write_content : ℕ → List ℕ → ContentBytes
write_content code (count ∷ page ∷ carried ∷ bytes) =
    if code == command.page_plus_write && count == length bytes + 2
    then content (Some page) carried bytes None else content None code (count ∷ page ∷ carried ∷ bytes) None
write_content code written = content None code written None

-- a read: PAGE_PLUS_READ carries another code's, if its count is 2, and the count of the answer is that of the bytes
abbrev pub read_content : ℕ → List ℕ → List ℕ → ContentBytes
read_content code (count ∷ page ∷ carried ∷ []) (size ∷ bytes) =
    if code == command.page_plus_read && (count == 2 && size == length bytes)
    then content (Some page) carried [] (Some bytes)
    else content None code (count ∷ page ∷ carried ∷ []) (Some (size ∷ bytes))
read_content code written answer = content None code written (Some answer)

abbrev pub content_by : ℕ → List ℕ → Option (List ℕ) → ContentBytes
content_by code written None = write_content code written
content_by code written (Some answer) = read_content code written answer

unfoldable pub content_of : List ℕ → Option (List ℕ) → ContentBytes
content_of write read = content_by (slice_index write 1) (written_bytes write read) (bytes_after_address write read)

-- ---- what it says

-- the codes whose bytes are a text (PMBus 1.3 Part II): MFR_ID to MFR_SERIAL, IC_DEVICE_ID and IC_DEVICE_REV
abbrev pub is_text_code : ℕ → Bool
is_text_code code = nat_le 0x99 code && nat_le code 0x9E || (code == 0xAD || code == 0xAE)

-- a byte that can stand in a text in quotation marks: from a space to `~`, and neither `"` (34) nor `\` (92)
abbrev pub is_told_letter : ℕ → Bool
is_told_letter byte = nat_le 32 byte && (nat_le byte 126 && (not (byte == 34) && not (byte == 92)))

-- the last byte of a block is 00h or FFh, which fills up a text of a fixed length
abbrev pub has_filler : List ℕ → Bool
has_filler block = not (length block == 0)
    && (slice_index block (length block - 1) == 0x00 || slice_index block (length block - 1) == 0xFF)

-- a block without one such byte
abbrev pub unfilled : List ℕ → List ℕ
unfilled block = if has_filler block then take (length block - 1) block else block

-- there is a letter, and each byte is one
abbrev pub are_some_letters : List ℕ → Bool
are_some_letters letters = not (length letters == 0) && list_all is_told_letter letters

-- the letters of a block after its count
abbrev pub letters_in : List ℕ → Option (List ℕ)
letters_in [] = None
letters_in (count ∷ block) =
    if count == length block && are_some_letters (unfilled block) then Some (unfilled block) else None

-- the bytes that say something: those of an answer, otherwise what was written
abbrev pub said_bytes : ContentBytes → List ℕ
said_bytes content = unwrap_or content.answer content.written

abbrev pub content_letters : ContentBytes → Option (List ℕ)
content_letters content = if is_text_code content.code then letters_in (said_bytes content) else None

abbrev pub letters_text : List ℕ → List ℕ
letters_text letters = codes " \"" ++ (letters ++ codes "\"")

abbrev pub meaning_or_letters : Option (List ℕ) → ContentBytes → List ℕ
meaning_or_letters None content = known_text (other_value content.code (said_bytes content))
meaning_or_letters (Some letters) content = letters_text letters

-- what the bytes say, if that is asked for
abbrev pub content_meaning : Bool → ContentBytes → List ℕ
content_meaning values content = if values then meaning_or_letters (content_letters content) content else []

-- what was written, if anything was
abbrev pub written_bytes_text : List ℕ → List ℕ
written_bytes_text [] = []
written_bytes_text (byte ∷ bytes) = codes " write" ++ spaced (byte ∷ bytes)

-- what was written, or that nothing was
abbrev pub sent_text : List ℕ → List ℕ
sent_text [] = codes " send"
sent_text (byte ∷ bytes) = codes " write" ++ spaced (byte ∷ bytes)

-- what was written and answered
abbrev pub carried_by : List ℕ → Option (List ℕ) → List ℕ
carried_by written None = sent_text written
carried_by written (Some answer) = written_bytes_text written ++ (codes " read" ++ spaced answer)

-- what is said of a packet that has no right PEC
abbrev pub ones_text : Ones → List ℕ
ones_text Answer = codes ", no PEC"
ones_text Doubtful = codes ", all ones: nobody answered?"
ones_text Nobody = codes ", all ones: nobody answered"
ones_text (Refused refusal) = codes ", no PEC"

-- whether the packet has its PEC
abbrev pub pec_verdict_text : Bool → Ones → List ℕ
pec_verdict_text is_right ones = if is_right then codes ", PEC right" else ones_text ones

-- the page of a carried code, or with a question mark the output that PAGE selects
abbrev pub content_page : Option ℕ → Option ℕ → List ℕ
content_page (Some page) named = codes " page " ++ (decimal page ++ codes "?")
content_page None None = []
content_page None (Some page) = codes " page " ++ decimal page

-- `reached` is the output that PAGE selects, if that is followed
unfoldable pub content_text : Bool → Option ℕ → ContentBytes → List ℕ
content_text values reached content = content_page reached content.page ++ (codes " code " ++ (hex_byte content.code
    ++ (named_code_text content.code ++ (carried_by content.written content.answer ++ content_meaning values content))))

unfoldable pub other_text : Otherwise → List ℕ → Option (List ℕ) → List ℕ
other_text otherwise write read = hex_byte otherwise.addr ++ (content_text otherwise.values otherwise.reached (content_of write read)
    ++ pec_verdict_text (has_pec write read) otherwise.ones)
