-- What a packet may change, and PAGE as a trace shows it, address by address: the output that plain packets reach, and which lines
-- contradict each other
-- (PMBus 1.3 Part II, PAGE). A trace doesn't show a restart, so a page is what the trace says of it. What ends a page and
-- what counts as a contradiction are this project's own choice.
use Rattle.std.specs.Prelude.{ℕ, ◌-◌, Bool, true, false, not, ◌&&◌, ◌||◌, ◌==◌, nat_eq, nat_lt, nat_le, if◌then◌else◌, List, [], ◌∷◌, length, slice_index, unwrap_or, option_map, is_some, Option, Some, None}
use Rattle.std.specs.Map.{lookup}
use Rattle.indexmap.specs.IndexMap.{insert_entry}
use Rattle.pm_frame.specs.declared.message.Message.{Message}
use Rattle.pm_frame.specs.declared.message.Message.TheVariants.{SendByte, WriteByte, WriteWord, PagePlusWrite, ReadCommand, PagePlusRead, ReadCoefficients}
use Rattle.pm_table.specs.Codes as command
use Rattle.pm_trace.specs.Trace.{Judged, Accepted, Faulty, BadSyntax, BadHex}
use Rattle.pm_trace.specs.declared.pages.PageLine.{PageLine}
use Rattle.pm_trace.specs.declared.pages.PageUse.{PageUse}
use Rattle.pm_trace.specs.declared.pages.PageUse.TheVariants.{Written, ReadBack, Failed, Restored, Protects, SetsPhase, Lost, OfOutput, Beside}
use Rattle.pm_trace.specs.declared.pages.Place.{Place}
use Rattle.pm_trace.specs.declared.touch.Touch.{Touch}
use Rattle.pm_trace.specs.declared.touch.Touch.TheVariants.{Nothing, AsksPage, WritesPage, WritesMode, Restores}

-- ---- what a packet may change

-- RESTORE_USER_ALL, RESTORE_DEFAULT_ALL, RESTORE_DEFAULT_CODE and RESTORE_USER_CODE
abbrev pub is_restore : ℕ → Bool
is_restore code = code == command.restore_user_all || (code == 0x12 || (code == 0x14 || code == 0x18))

-- what a code may change; `named` is the page that its packet names, `has_data` whether a byte of data follows the code
abbrev pub code_touch : Option ℕ → ℕ → Bool → Touch
code_touch named code has_data = if is_restore code then Restores
    else (if code == command.vout_mode && has_data then WritesMode named else Nothing)

-- What a write part may change by its bytes alone, whatever fault it has: PAGE_PLUS_WRITE by the code that it carries. A request of
-- PAGE is its code, behind which a read part begins.
abbrev pub touch_of : List ℕ → Bool → Touch
touch_of (addr ∷ code ∷ rest) is_read = if code == command.page_plus_write
    then code_touch (Some (slice_index rest 1)) (slice_index rest 2) (nat_lt 3 (length rest))
    else (if code == command.page then (if is_read && length rest == 0 then AsksPage else WritesPage)
    else code_touch None code (nat_lt 0 (length rest)))
touch_of _ is_read = Nothing

-- a packet of PAGE, PAGE_PLUS_WRITE or PAGE_PLUS_READ that a part with pages answered, or may have taken
abbrev pub is_paging : List ℕ → Bool → Bool
is_paging (addr ∷ code ∷ rest) is_answered = if code == command.page_plus_read then is_answered
    else ((code == command.page || code == command.page_plus_write) && (is_answered || nat_lt 0 (length rest)))
is_paging _ is_answered = false

-- ---- what a packet says of the page

-- The codes that PAGE doesn't select an output for: PAGE and PAGE_PLUS_WRITE to PAGE_PLUS_READ; WRITE_PROTECT, STORE and RESTORE,
-- CAPABILITY and QUERY; COEFFICIENTS; PMBUS_REVISION and MFR_ID to MFR_SERIAL; IC_DEVICE_ID and IC_DEVICE_REV.
abbrev pub is_of_device : ℕ → Bool
is_of_device code = code == command.page || (code == command.page_plus_write || (code == command.page_plus_read
    || ((nat_le 0x10 code && nat_le code 0x1A) || (code == command.coefficients
    || ((nat_le command.pmbus_revision code && nat_le code 0x9E) || (code == 0xAD || code == 0xAE))))))

-- a packet of a code that isn't PAGE and that names no page
abbrev pub plain_use : ℕ → PageUse
plain_use code = if is_of_device code then Beside else OfOutput

-- a packet that is shown by its code and bytes: a clear write of PHASE sets it
abbrev pub told_use : Bool → Bool → List ℕ → PageUse
told_use is_clear is_read write = if (is_clear && not is_read) && (slice_index write 1 == 0x04 && nat_lt 2 (length write))
    then SetsPhase (slice_index write 2) else plain_use (slice_index write 1)

-- a packet that isn't clear: it fails if it is one of PAGE, and RESTORE restores PAGE too; `other` is what any other one says
abbrev pub unclear_use : Touch → PageUse → PageUse
unclear_use WritesPage other = Failed true
unclear_use AsksPage other = Failed false
unclear_use Restores other = Restored
unclear_use (WritesMode named) other = other
unclear_use Nothing other = other

-- a byte of WRITE_PROTECT, by which PAGE may be written or not
abbrev pub protect_use : ℕ → PageUse
protect_use byte = Protects (byte == 0x80)

-- a clear packet: one that carries its own page says nothing of PAGE, but for RESTORE
abbrev pub accepted_use : Message → List ℕ → PageUse
accepted_use (WriteByte code byte) answer = if code == command.page then Written byte
    else (if code == command.write_protect then protect_use byte else plain_use code)
accepted_use (ReadCommand code) answer = if code == command.page then ReadBack (slice_index answer 0)
    else (if code == command.write_protect then protect_use (slice_index answer 0) else plain_use code)
accepted_use (SendByte code) answer = if is_restore code then Restored else plain_use code
accepted_use (WriteWord code word) answer = plain_use code
accepted_use (PagePlusWrite page code payload) answer = if is_restore code then Restored else Beside
accepted_use (PagePlusRead page code) answer = Beside
accepted_use (ReadCoefficients code side) answer = Beside

-- A packet by what it is shown as; `is_clear` is whether one that is shown as good is clear, `is_lost` whether nobody answered a code
-- that its address answered before, and `is_told` whether it is shown by its code and bytes.
abbrev pub other_use : List ℕ → Bool → Bool → Bool → Bool → PageUse
other_use write is_read is_clear is_lost is_told = unclear_use (touch_of write is_read)
    (if is_lost then Lost else (if is_told then told_use is_clear is_read write else Beside))

abbrev pub use_of : List ℕ → Bool → Bool → Bool → Bool → Judged → PageUse
use_of write is_read is_clear is_lost is_told (Accepted addr message answer) =
    if is_clear then accepted_use message (unwrap_or answer []) else other_use write is_read false is_lost true
use_of write is_read is_clear is_lost is_told (Faulty addr read fault) = other_use write is_read is_clear is_lost is_told
use_of write is_read is_clear is_lost is_told BadSyntax = Beside
use_of write is_read is_clear is_lost is_told BadHex = Beside

-- ---- an address

abbrev pub nowhere : Place
nowhere = record { page = None; written = None; failed = None; locked = None; phase = None; heard = false; time = None }

-- what a line said of a page, where nothing was lost behind it
abbrev pub kept_since : ℕ → Option PageLine → Option PageLine
kept_since lost None = None
kept_since lost (Some said) = if nat_lt lost said.line then Some said else None

-- the pause is longer than `gap`, or the time is before the last one
abbrev pub is_apart : ℕ → Option ℕ → Option ℕ → Bool
is_apart gap None time = false
is_apart gap (Some last) None = false
is_apart gap (Some last) (Some time) = nat_lt time last || nat_lt gap (time - last)

-- a line, where nothing was lost behind it
abbrev pub line_since : ℕ → Option ℕ → Option ℕ
line_since lost None = None
line_since lost (Some line) = if nat_lt lost line then Some line else None

-- the page isn't known any more
abbrev pub place_without_page : Place → Place
place_without_page place = record place { page = None; written = None }

-- the page isn't known any more, and what else a restart changes isn't either
abbrev pub place_restarted : Place → Place
place_restarted place = record (place_without_page place) { locked = None; phase = None }

-- when a packet comes at a time, where something was lost in the line `lost`
abbrev pub come : ℕ → ℕ → Option ℕ → Place → Place
come lost gap time place = record {
  page = if is_apart gap place.time time then None else kept_since lost place.page;
  written = if is_apart gap place.time time then None else kept_since lost place.written;
  failed = if is_apart gap place.time time then None else line_since lost place.failed;
  locked = if is_apart gap place.time time then None else line_since lost place.locked;
  phase = if is_apart gap place.time time then None else kept_since lost place.phase;
  heard = place.heard;
  time = time;
}

-- ---- what the place says of a packet

-- the output that the packet reaches, where it names none and PAGE selects one for its code
abbrev pub output_by : Option PageLine → PageUse → Option ℕ
output_by page OfOutput = option_map (λ said. said.page) page
output_by page (Written number) = None
output_by page (ReadBack number) = None
output_by page (Failed writes) = None
output_by page Restored = None
output_by page (Protects all) = None
output_by page (SetsPhase number) = option_map (λ said. said.page) page
output_by page Lost = None
output_by page Beside = None

abbrev pub output_by_use : Place → PageUse → Option ℕ
output_by_use place used = output_by place.page used

-- the line that wrote another page than this one
abbrev pub written_else : ℕ → Option PageLine → Option ℕ
written_else number None = None
written_else number (Some said) = if said.page == number then None else Some said.line

-- The line that the packet contradicts: a page is read that isn't the one written last, or a packet acts on an output and
-- names none where a packet of PAGE wasn't clear, of a part that has PAGE, and no clear one came since then.
abbrev pub contradicted : Place → PageUse → Option ℕ
contradicted place (ReadBack number) = written_else number place.written
contradicted place OfOutput = if place.heard then place.failed else None
contradicted place (Written number) = None
contradicted place (Failed writes) = None
contradicted place Restored = None
contradicted place (Protects all) = None
contradicted place (SetsPhase number) = if place.heard then place.failed else None
contradicted place Lost = None
contradicted place Beside = None

-- the phase that a packet of this code reads: of READ_VIN to READ_PIN, if it acts on an output and names none
abbrev pub phase_by : Option PageLine → Bool → PageUse → Option ℕ
phase_by phase is_reading OfOutput = if is_reading then option_map (λ said. said.page) phase else None
phase_by phase is_reading used = None

abbrev pub phase_of : Place → ℕ → PageUse → Option ℕ
phase_of place code used = phase_by place.phase (nat_le command.read_vin code && nat_le code 0x97) used

-- WRITE_PROTECT forbids the packet, a write of PAGE
abbrev pub is_forbidden : Place → PageUse → Bool
is_forbidden place (Written number) = is_some place.locked
is_forbidden place (ReadBack number) = false
is_forbidden place (Failed writes) = false
is_forbidden place Restored = false
is_forbidden place (Protects all) = false
is_forbidden place (SetsPhase number) = false
is_forbidden place Lost = false
is_forbidden place OfOutput = false
is_forbidden place Beside = false

-- ---- what is known behind a packet

-- what a line says of the page
abbrev pub page_said_in : ℕ → ℕ → PageLine
page_said_in line number = record { page = number; line = line }

-- A packet of PAGE that isn't clear: behind a read the page is what it was, behind one that may have written it nobody knows
-- which it is.
abbrev pub unsure : ℕ → Bool → Place → Place
unsure line writes place = record (if writes then place_without_page place else place) { failed = Some line }

-- a clear packet of PAGE gave this page
abbrev pub on_page : ℕ → ℕ → Place → Place
on_page line number place = record place { page = Some (page_said_in line number); failed = None; heard = true }

-- behind the packet in this line
abbrev pub behind : ℕ → Place → PageUse → Place
behind line place (Written number) = if is_some place.locked then place
    else record (on_page line number place) { written = Some (page_said_in line number) }
behind line place (ReadBack number) = on_page line number place
behind line place (Failed writes) = unsure line writes place
behind line place Restored = place_restarted place
behind line place (Protects all) = record place { locked = if all then Some line else None }
behind line place (SetsPhase number) = record place { phase = if number == 0xFF then None else Some (page_said_in line number) }
behind line place Lost = place_restarted place
behind line place OfOutput = place
behind line place Beside = place

-- ---- all addresses

-- what is known of each address, and the last line in which something was lost, of nobody knows which address, or 0
pub record Pages : Type 0 where
  pub places : List (ℕ × Place)
  pub lost : ℕ

abbrev pub no_pages : Pages
no_pages = record { places = []; lost = 0 }

-- something was lost in this line
abbrev pub lost_in : ℕ → Pages → Pages
lost_in line pages = record pages { lost = line }

-- what is kept of an address
abbrev pub page_place_of : Pages → ℕ → Place
page_place_of pages addr = unwrap_or (lookup (nat_eq addr) pages.places) nowhere

-- an address when a packet comes at a time
abbrev pub place_in : ℕ → Option ℕ → Pages → ℕ → Place
place_in gap time pages addr = come pages.lost gap time (page_place_of pages addr)

-- a packet says nothing of PAGE
abbrev pub says_no_page : PageUse → Bool
says_no_page OfOutput = true
says_no_page Beside = true
says_no_page (Written number) = false
says_no_page (ReadBack number) = false
says_no_page (Failed writes) = false
says_no_page Restored = false
says_no_page (Protects all) = false
says_no_page (SetsPhase number) = false
says_no_page Lost = false

-- behind the packet of this line, at an address if it has one, where that was such a place; one that says nothing of PAGE and
-- has no time leaves what was known
abbrev pub pages_by : ℕ → Option ℕ → Place → PageUse → Pages → Pages
pages_by line None place used pages = pages
pages_by line (Some addr) place used pages = if says_no_page used && not (is_some place.time) then pages
    else record pages { places = insert_entry nat_eq pages.places addr (behind line place used) }

-- behind a comment of this line that shows a packet which says so of its page
abbrev pub pages_shown : ℕ → ℕ → PageUse → Pages → Pages
pages_shown line addr used pages = pages_by line (Some addr) (page_place_of pages addr) used pages
