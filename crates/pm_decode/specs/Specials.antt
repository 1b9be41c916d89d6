-- Addresses that are kept for a purpose of their own (SMBus 3, device addresses with a purpose; PMBus 1.3 Part I, zones), and those
-- of muxes, which a user names. What a packet to one of them ends is this project's own choice.
use Rattle.std.specs.Prelude.{ℕ, ◌/◌, ◌%◌, Bool, true, false, ◌&&◌, ◌||◌, ◌==◌, nat_le, if◌then◌else◌, is_some, List, [], ◌∷◌, length, slice_index, codes, Option, Some, None}
use Rattle.pm_frame.specs.View.{message_code}
use Rattle.pm_table.specs.Codes as command
use Rattle.pm_trace.specs.Pages.{touch_of}
use Rattle.pm_trace.specs.Trace.{Judged, Accepted, Faulty, BadSyntax, BadHex}
use Rattle.pm_trace.specs.declared.trace_line.TraceLine.{TraceLine}
use Rattle.pm_trace.specs.declared.answers.Ones.{Ones}
use Rattle.pm_decode.specs.PageSteps.{is_received}
use Rattle.pm_decode.specs.Readings.{judged_by}
use Rattle.pm_decode.specs.declared.comment.ShownPacket.{ShownPacket}
use Rattle.pm_trace.specs.declared.touch.Touch.{Touch}
use Rattle.pm_trace.specs.declared.touch.Touch.TheVariants.{Nothing, AsksPage, WritesPage, WritesMode, Restores}
use Rattle.pm_decode.specs.Options.{is_named}
use Rattle.pm_decode.specs.declared.options.TellOptions.{TellOptions}
use Rattle.pm_decode.specs.declared.special.Special.{Special}
use Rattle.pm_decode.specs.declared.special.Special.TheVariants.{HostNotify, AlertResponse, ZoneRead, ZoneWrite, Arp, Mux}

abbrev pub special_words : Special → List ℕ
special_words HostNotify = codes "host notify"
special_words AlertResponse = codes "alert response"
special_words ZoneRead = codes "ZONE_READ"
special_words ZoneWrite = codes "ZONE_WRITE"
special_words Arp = codes "ARP"
special_words Mux = codes "mux"

-- what an address is kept for
abbrev pub kept_for : ℕ → Option Special
kept_for addr = if addr == 0x08 then Some HostNotify else (if addr == 0x0C then Some AlertResponse
    else (if addr == 0x28 then Some ZoneRead else (if addr == 0x37 then Some ZoneWrite
    else (if addr == 0x61 then Some Arp else None))))

-- what it still is if a part has it: no part has that of the alert response
abbrev pub kept_unless : Bool → Option Special → Option Special
kept_unless is_part None = None
kept_unless is_part (Some AlertResponse) = Some AlertResponse
kept_unless is_part (Some HostNotify) = if is_part then None else Some HostNotify
kept_unless is_part (Some ZoneRead) = if is_part then None else Some ZoneRead
kept_unless is_part (Some ZoneWrite) = if is_part then None else Some ZoneWrite
kept_unless is_part (Some Arp) = if is_part then None else Some Arp
kept_unless is_part (Some Mux) = if is_part then None else Some Mux

-- what an address is that is no part's; `is_part` is whether it answered as a part does
abbrev pub special_of : TellOptions → Bool → ℕ → Option Special
special_of options is_part addr = if is_named options.muxes addr then Some Mux
    else kept_unless (is_part || is_named options.parts addr) (kept_for addr)

-- a packet that may change PAGE or VOUT_MODE
abbrev pub is_touching : Touch → Bool
is_touching Nothing = false
is_touching AsksPage = false
is_touching WritesPage = true
is_touching (WritesMode named) = true
is_touching Restores = true

-- a general call that may change PAGE or VOUT_MODE of all parts
abbrev pub is_to_all : List ℕ → Bool → Bool
is_to_all write is_read = slice_index write 0 / 2 == 0 && is_touching (touch_of write is_read)

-- A packet changes what is known of all parts: a general call, or a write to a zone, of PAGE, VOUT_MODE or RESTORE, or a write to a
-- mux, of which a byte follows the address.
abbrev pub ends_all : Option Special → ℕ → Touch → Bool → Bool
ends_all (Some Mux) addr touch has_data = has_data
ends_all (Some ZoneWrite) addr touch has_data = is_touching touch
ends_all (Some HostNotify) addr touch has_data = false
ends_all (Some AlertResponse) addr touch has_data = false
ends_all (Some ZoneRead) addr touch has_data = false
ends_all (Some Arp) addr touch has_data = false
ends_all None addr touch has_data = addr == 0 && is_touching touch

-- the address that a packet is written to
abbrev pub written_to : List ℕ → Option ℕ
written_to [] = None
written_to (first ∷ bytes) = if first % 2 == 0 then Some (first / 2) else None

-- a packet that a comment shows; `is_part` is whether its address answered as a part does
abbrev pub shown_ends_all : TellOptions → Bool → ShownPacket → Bool
shown_ends_all options is_part shown =
    ends_all (special_of options is_part (shown.first / 2)) (shown.first / 2) shown.touch shown.has_data

-- a packet to a special address
abbrev pub aside_ends_all : Special → TraceLine → Bool
aside_ends_all special parts = ends_all (Some special) 0 (touch_of parts.write (is_some parts.read)) (nat_le 2 (length parts.write))

-- ---- what shows a part

-- a good answer to a read of VOUT_MODE, STATUS_BYTE or PMBUS_REVISION
abbrev pub is_part_answer : Judged → Bool
is_part_answer (Accepted addr message (Some answer)) = message_code message == command.vout_mode
    || (message_code message == command.status_byte || message_code message == command.pmbus_revision)
is_part_answer (Accepted addr message None) = false
is_part_answer (Faulty addr is_read fault) = false
is_part_answer BadSyntax = false
is_part_answer BadHex = false

-- a clear one
abbrev pub shows_part : Bool → Ones → TraceLine → Bool
shows_part all ones parts = is_received ones parts && is_part_answer (judged_by all ones parts)
