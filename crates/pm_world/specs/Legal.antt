-- Which hearings and which returns a world takes: what the host's own bytes and the packet error code
-- (PEC) of SMBus tell of the bytes. This project's own premise on the bus: damage is betrayed.
use Rattle.std.specs.Prelude.{ℕ, Bool, true, false, ◌&&◌, ◌||◌, nat_eq, nat_lt, bytes_eq, if◌then◌else◌, List, [], take, length}
use Rattle.std.specs.List.{starts_with}
use Rattle.pm_frame.specs.declared.message.Message.{Message}
use Rattle.pm_frame.specs.Layout.{is_read_message, sent, with_pec}
use Rattle.pm_frame.specs.Betrayal.{is_betrayed}
use Rattle.pm_device.specs.declared.converter.Ending.{Ending}
use Rattle.pm_device.specs.declared.converter.Ending.TheVariants.{Stop, Restart}
use Rattle.pm_device.specs.declared.converter.Heard.{Heard}
use Rattle.pm_device.specs.declared.converter.Heard.TheVariants.{Silent, Taken, Answer, Refused}
use Rattle.pm_world.specs.declared.event.Arrival.{Arrival}
use Rattle.pm_world.specs.declared.event.Arrival.TheVariants.{Whole, Cut, Bytes}
use Rattle.pm_world.specs.declared.event.Back.{Back}
use Rattle.pm_world.specs.declared.event.Back.TheVariants as back

-- the bytes of the frame that a host sends for a message: all of a write, a request up to its
-- repeated start
unfoldable pub frame_of : ℕ → Message → List ℕ
frame_of addr message =
    if is_read_message message then sent addr message else with_pec [] (sent addr message)

-- what is heard of a frame, and how it ends
abbrev pub heard_bytes : List ℕ → Arrival → List ℕ
heard_bytes frame Whole = frame
heard_bytes frame (Cut count) = take count frame
heard_bytes frame (Bytes bytes ending) = bytes.items

abbrev pub ending_of : Ending → Arrival → Ending
ending_of whole Whole = whole
ending_of whole (Cut count) = Stop
ending_of whole (Bytes bytes ending) = ending

-- a host ends a write by a stop, and a request by a repeated start
abbrev pub whole_ending : Message → Ending
whole_ending message = if is_read_message message then Restart else Stop

abbrev pub heard_ending : Message → Arrival → Ending
heard_ending message arrival = ending_of (whole_ending message) arrival

-- a repeated start ended it
abbrev pub is_restart : Ending → Bool
is_restart Stop = false
is_restart Restart = true

-- A hearing is legal where a repeated start ended it, where the bytes are those sent or a prefix of
-- them, or where their PEC betrays them.
unfoldable pub is_legal_hearing : List ℕ → List ℕ → Ending → Bool
is_legal_hearing frame bytes ending =
    is_restart ending || (starts_with nat_eq frame bytes || is_betrayed [] bytes)

-- the bytes that a converter answers, none where it gives no answer
abbrev pub answer_in : Heard → List ℕ
answer_in Silent = []
answer_in Taken = []
answer_in (Answer frame) = frame.items
answer_in (Refused fault) = []

-- what comes back of an answer
abbrev pub back_bytes : List ℕ → Back → List ℕ
back_bytes answer back.Whole = answer
back_bytes answer (back.Cut count) = take count answer
back_bytes answer (back.Bytes bytes) = bytes.items

-- the request was heard whole
abbrev pub is_heard_whole : List ℕ → List ℕ → Ending → Bool
is_heard_whole frame bytes ending = is_restart ending && bytes_eq bytes frame

-- A return for a request, whose whole answer has this number of bytes, is legal where the request
-- was heard whole and the bytes are the converter's answer, where they are fewer than a whole answer
-- has, or where their PEC betrays them over that request.
unfoldable pub is_legal_return : List ℕ → ℕ → Bool → List ℕ → List ℕ → Bool
is_legal_return request needed whole answer bytes =
    whole && bytes_eq bytes answer
    || (nat_lt (length bytes) needed || is_betrayed request bytes)
