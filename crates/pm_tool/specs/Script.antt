-- The lines of `hear`: what each asks a converter to hear, and what is written of them. The forms are
-- this project's own choice.
use Rattle.std.specs.Prelude.{ℕ, Bool, false, not, ◌==◌, if◌then◌else◌, List, [], ◌∷◌, ◌++◌, length, Option, Some, None, Result, Ok, Err, bytes_eq, codes, decimal, flat_map}
use Rattle.std.specs.List.{after_first, before_first, list_all, list_any, range_with_len}
use Rattle.pm_device.specs.Effect.{Event, Hearing, Restarted, Reading}
use Rattle.pm_device.specs.Held.{Held}
use Rattle.pm_device.specs.History.{device_next, start_of}
use Rattle.pm_device.specs.Reply.{reply_of}
use Rattle.pm_device.specs.declared.converter.Ending.TheVariants.{Stop, Restart}
use Rattle.pm_model.specs.Settings.{word_at}
use Rattle.pm_table.specs.declared.cell.Cell.TheVariants.{Out}
use Rattle.pm_table.specs.declared.reg.Reg.TheVariants.{VoutCommand}
use Rattle.pm_lines.specs.Bytes.{bytes_of}
use Rattle.pm_lines.specs.Numbers.{hex_word}
use Rattle.pm_lines.specs.Lines.{Numbered, is_space, unskipped_from, words_of}
use Rattle.pm_lines.specs.declared.fault.TextFault.{TextFault}
use Rattle.pm_lines.specs.declared.fault.TextFault.TheVariants.{Syntax, BadHex}
use Rattle.pm_text.specs.Base.{base}
use Rattle.pm_tool.specs.HeardText.{reply_words}
use Rattle.pm_trace.specs.Trace.{is_slash}

-- ---- what a line asks

-- the first word is this one
abbrev pub begins_with : List ℕ → List (List ℕ) → Bool
begins_with name [] = false
begins_with name (word ∷ words) = bytes_eq word name

-- `restart` is the only word of its line: more words are X1
abbrev pub restart_event : ℕ → List (List ℕ) → Result Event TextFault
restart_event number words = if length words == 1 then Ok Restarted else Err (Syntax number)

-- A frame is ended by a stop, or by a repeated start if a `/` follows it. Anything but spaces
-- after the `/` is X1.
abbrev pub ended_event : Numbered → List ℕ → Result Event TextFault
ended_event line frame =
    if not (list_any is_slash line.1) then Ok (Hearing frame Stop)
    else (if list_all is_space (after_first is_slash line.1) then Ok (Hearing frame Restart)
    else Err (Syntax line.0))

-- a frame that isn't hexadecimal is X2, whatever follows it
abbrev pub frame_event : Numbered → Option (List ℕ) → Result Event TextFault
frame_event line None = Err (BadHex line.0)
frame_event line (Some frame) = ended_event line frame

-- the event of a line that is not skipped, or its fault; the first word decides which it is
unfoldable pub line_event : Numbered → Result Event TextFault
line_event line = if begins_with (codes "restart") (words_of line.1)
    then restart_event line.0 (words_of line.1)
    else frame_event line (bytes_of (words_of (before_first is_slash line.1)))

-- an event and those of the lines after it, or the first fault
abbrev pub joined_events : Result Event TextFault → Result (List Event) TextFault → Result (List Event) TextFault
joined_events (Err fault) rest = Err fault
joined_events (Ok event) (Err fault) = Err fault
joined_events (Ok event) (Ok events) = Ok (event ∷ events)

-- the events of lines, or the fault of the first faulty one
abbrev pub events_of_lines : List Numbered → Result (List Event) TextFault
events_of_lines [] = Ok []
events_of_lines (line ∷ lines) = joined_events (line_event line) (events_of_lines lines)

-- ---- what is written

-- a line, ended by a line feed
abbrev pub as_line : List ℕ → List ℕ
as_line words = words ++ codes "\n"

-- the line of an output: its number, and its word of VOUT_COMMAND, the high byte first
abbrev pub output_word_line : ℕ → ℕ → List ℕ
output_word_line output word = as_line (codes "output " ++ decimal output ++ codes " VOUT_COMMAND "
    ++ hex_word word)

-- the line of an event at a converter that holds this
abbrev pub event_words : Held → Event → List ℕ
event_words held (Hearing bytes ending) = reply_words (reply_of held bytes ending)
event_words held Restarted = codes "restarted"
event_words held (Reading output code word) = []

-- what a converter holds after events, and the lines of these
abbrev pub converter_after : Held → List Event → Held
converter_after held [] = held
converter_after held (event ∷ events) = converter_after (device_next held event) events

abbrev pub event_lines : Held → List Event → List ℕ
event_lines held [] = []
event_lines held (event ∷ events) =
    as_line (event_words held event) ++ event_lines (device_next held event) events

-- the lines of the outputs
abbrev pub output_at : Held → ℕ → List ℕ
output_at held output = output_word_line output (word_at held.words (Out output VoutCommand))

abbrev pub output_word_lines : Held → List ℕ
output_word_lines held = flat_map (output_at held) (range_with_len 0 held.config.count)

-- the text of events that a converter of the base configuration hears
abbrev pub heard_text : List Event → List ℕ
heard_text events =
    event_lines (start_of base) events ++ output_word_lines (converter_after (start_of base) events)

abbrev pub text_by : Result (List Event) TextFault → Result (List ℕ) TextFault
text_by (Ok events) = Ok (heard_text events)
text_by (Err fault) = Err fault

-- the text that is written of an input, or the fault of its first faulty line
unfoldable pub printed_text : List ℕ → Result (List ℕ) TextFault
printed_text input = text_by (events_of_lines (unskipped_from 1 input))
