-- What is written of a capture: a line for each of its lines that isn't skipped, a line for each code that was
-- carried, and the counts. The forms are this project's own choice; names are printed as in PMBus 1.3 Part II.
use Rattle.std.specs.Prelude.{ℕ, ℤ, zero, suc, ◌/◌, Bool, true, false, ◌&&◌, ◌==◌, drop, length, if◌then◌else◌, nat_eq, List, [], ◌∷◌, ◌++◌, flat_map, decimal, codes, option_map, slice_index, Option, Some, None, Result, Ok, Err}
use Rattle.std.specs.Fmt.{signed_decimal}
use Rattle.std.specs.Map.{lookup}
use Rattle.pm_lines.specs.Numbers.{hex_byte}
use Rattle.pm_trace.specs.Counts.{total_of}
use Rattle.pm_trace.specs.Trace.{Judged, Accepted, Faulty, BadSyntax, BadHex, reading_judged}
use Rattle.pm_trace.specs.TraceText.{count_line, judged_text, message_text}
use Rattle.pm_trace.specs.declared.line_fault.LineFault.{LineFault}
use Rattle.pm_trace.specs.declared.trace_line.TraceLine.{TraceLine}
use Rattle.pm_trace.specs.Otherwise.{carried_by, is_heeded, ones_text, other_text, spaced}
use Rattle.pm_trace.specs.declared.answers.Ones.{Ones}
use Rattle.pm_trace.specs.declared.answers.Ones.TheVariants.{Answer, Doubtful, Nobody, Refused}
use Rattle.pm_trace.specs.declared.answers.Refusal.{Refusal}
use Rattle.pm_trace.specs.declared.otherwise.Otherwise.{Otherwise}
use Rattle.pm_frame.specs.View.{message_code}
use Rattle.pm_frame.specs.declared.message.Message.{Message}
use Rattle.pm_trace.specs.Taught.{Taught, is_assumed}
use Rattle.pm_trace.specs.ValueText.{known_text}
use Rattle.pm_trace.specs.Values.{packet_value}
use Rattle.pm_decode.specs.Hearing.{HeardLines, Known, heard_lines, heard_in_lines, known_by, marks_shown, ones_in, seen_as, time_since, told_end, unknown}
use Rattle.pm_decode.specs.JsonText.{address_field, judged_fields, lack_field, marks_fields, other_fields, other_payload_by, received_field, signed_field_if, text_field}
use Rattle.pm_decode.specs.JsonCounts.{count_json, other_jsons, totals_json}
use Rattle.pm_decode.specs.PageSteps.{marks_in}
use Rattle.pm_decode.specs.Readings.{Entry, Said, Told, Aside, Noted, entries_of, judged_by, other_address, why_words}
use Rattle.pm_decode.specs.Specials.{special_words}
use Rattle.pm_decode.specs.declared.comment.Failure.{Failure}
use Rattle.pm_decode.specs.declared.comment.Why.{Why}
use Rattle.pm_decode.specs.declared.special.Special.{Special}
use Rattle.pm_decode.specs.declared.options.TellOptions.{TellOptions}
use Rattle.pm_decode.specs.declared.page_steps.Marks.{Marks}
use Rattle.pm_decode.specs.declared.telling.TellEnd.{TellEnd}

-- ---- what follows a packet's text

-- the bytes of the read part
abbrev pub read_bytes_text : Option (List ℕ) → List ℕ
read_bytes_text None = []
read_bytes_text (Some read) = codes " /" ++ spaced read

-- all bytes of a packet, if it has a byte or a read part
abbrev pub bytes_by : List ℕ → Option (List ℕ) → List ℕ
bytes_by [] None = []
bytes_by [] (Some read) = codes " bytes" ++ (spaced [] ++ read_bytes_text (Some read))
bytes_by (byte ∷ bytes) read = codes " bytes" ++ (spaced (byte ∷ bytes) ++ read_bytes_text read)

abbrev pub bytes_text : TraceLine → List ℕ
bytes_text parts = bytes_by parts.write parts.read

-- what follows a value whose format is only assumed
abbrev pub assumed_text : Bool → List ℕ
assumed_text assumed = if assumed then codes "?" else []

abbrev pub value_told : TellOptions → Taught → Option ℕ → ℕ → Message → Option (List ℕ) → List ℕ
value_told options taught reached addr message answer =
    known_text (packet_value options.formats taught addr reached message answer)
    ++ assumed_text (is_assumed options.formats taught addr (message_code message))

-- the value of a packet that wasn't refused, and the bytes of one with a fault
abbrev pub meaning_text : TellOptions → Taught → Marks → TraceLine → Judged → List ℕ
meaning_text options taught marks parts (Accepted addr message answer) = if is_heeded marks.ones
    then value_told options taught marks.reached addr message answer else []
meaning_text options taught marks parts (Faulty addr is_read fault) = bytes_text parts
meaning_text options taught marks parts BadSyntax = []
meaning_text options taught marks parts BadHex = []

abbrev pub extra_text : TellOptions → Taught → Marks → TraceLine → Judged → List ℕ
extra_text options taught marks parts judged = if options.values then meaning_text options taught marks parts judged else []

-- what follows a packet that lacks its PEC, whose answer of ones is taken so
abbrev pub lack_text : Ones → Bool → List ℕ
lack_text ones lacks = if lacks then ones_text ones else []

-- what follows one of which a byte wasn't acknowledged
abbrev pub refused_words : Bool → List ℕ
refused_words of_answer = if of_answer then codes " of the answer not acknowledged" else codes " not acknowledged"

abbrev pub refused_text : Refusal → List ℕ
refused_text refusal = codes ", byte " ++ (decimal refusal.place ++ refused_words refusal.of_answer)

abbrev pub received_text : Ones → List ℕ
received_text (Refused refusal) = refused_text refusal
received_text Answer = []
received_text Doubtful = []
received_text Nobody = []

-- what follows a write of PAGE that WRITE_PROTECT forbids
abbrev pub forbidden_text : Bool → List ℕ
forbidden_text forbidden = if forbidden then codes ", WRITE_PROTECT forbids it" else []

-- what follows one that contradicts a line: the two lines
unfoldable pub two_lines : ℕ → ℕ → List ℕ
two_lines line number = decimal line ++ (codes " and " ++ decimal number)

-- what follows a read that gives another word than the one before, with nothing in between that writes it
abbrev pub changed_text : ℕ → Option ℕ → List ℕ
changed_text number None = []
changed_text number (Some line) = codes " CHANGED? lines " ++ two_lines line number

abbrev pub wrong_text : ℕ → Option ℕ → List ℕ
wrong_text number None = []
wrong_text number (Some line) = codes " WRONG PAGE? lines " ++ two_lines line number

-- what follows a reading of a phase
abbrev pub phase_text : Option ℕ → List ℕ
phase_text None = []
phase_text (Some phase) = codes ", phase " ++ decimal phase

abbrev pub marks_text : ℕ → Marks → List ℕ
marks_text number marks = phase_text marks.phase
    ++ (received_text marks.ones ++ (forbidden_text marks.is_forbidden ++ (wrong_text number marks.wrong ++ changed_text number marks.changed)))

-- ---- a line

-- what the line of this number says of a packet, with the output that it reaches if PAGE is followed
abbrev pub reached_text : Option ℕ → ℕ → Judged → List ℕ
reached_text None number judged = judged_text number judged
reached_text (Some page) number (Accepted addr message answer) = hex_byte addr
    ++ (codes " page " ++ (decimal page ++ (codes "?" ++ (codes " " ++ message_text message answer))))
reached_text (Some page) number (Faulty addr is_read fault) = judged_text number (Faulty addr is_read fault)
reached_text (Some page) number BadSyntax = judged_text number BadSyntax
reached_text (Some page) number BadHex = judged_text number BadHex

-- how a packet with these marks is shown by its code and bytes
abbrev pub otherwise_by : TellOptions → Marks → ℕ → Otherwise
otherwise_by options marks addr =
    record { values = options.values && is_heeded marks.ones; addr = addr; reached = marks.reached; ones = marks.ones }

-- a packet as the command table has it, in the line of this number, or by its code and bytes
abbrev pub packet_text_by : TellOptions → Taught → Marks → ℕ → TraceLine → Option ℕ → List ℕ
packet_text_by options taught marks number parts None = reached_text marks.reached number (judged_by options.all marks.ones parts)
    ++ (extra_text options taught marks parts (judged_by options.all marks.ones parts)
    ++ (lack_text marks.ones marks.lacks ++ marks_text number marks))
packet_text_by options taught marks number parts (Some addr) =
    other_text (otherwise_by options marks addr) parts.write parts.read ++ marks_text number marks

abbrev pub packet_text : TellOptions → Taught → Marks → ℕ → TraceLine → List ℕ
packet_text options taught marks number parts =
    packet_text_by options taught marks number parts (other_address options.all marks.ones parts)

abbrev pub time_text : Option ℤ → List ℕ
time_text None = []
time_text (Some time) = codes " " ++ (signed_decimal time ++ codes " us")

-- what follows a line's number
abbrev pub reading_text : TellOptions → Taught → Marks → ℕ → Option ℤ → Result TraceLine LineFault → List ℕ
reading_text options taught marks number time (Ok parts) =
    time_text time ++ (codes " " ++ packet_text options taught marks number parts)
reading_text options taught marks number time (Err fault) = codes " " ++ judged_text number (reading_judged (Err fault))

-- a line as it is shown to a person
unfoldable pub plain_capture_line : TellOptions → Taught → Marks → ℕ → Option ℤ → Result TraceLine LineFault → List ℕ
plain_capture_line options taught marks number time parts = decimal number
    ++ (reading_text options taught marks number time parts ++ codes "\n")

-- a packet as fields of JSON
abbrev pub packet_fields_by : TellOptions → Taught → Marks → ℕ → TraceLine → Option ℕ → List ℕ
packet_fields_by options taught marks number parts None = judged_fields options.formats options.values
    (is_heeded marks.ones) taught marks.reached parts.write parts.read (judged_by options.all marks.ones parts)
    ++ (lack_field marks.ones marks.lacks ++ marks_fields number (length parts.write) marks)
packet_fields_by options taught marks number parts (Some addr) =
    other_fields (otherwise_by options marks addr) parts.write parts.read ++ marks_fields number (length parts.write) marks

abbrev pub reading_fields : TellOptions → Taught → Marks → ℕ → Option ℤ → Result TraceLine LineFault → List ℕ
reading_fields options taught marks number time (Ok parts) = signed_field_if (codes "time") time
    ++ packet_fields_by options taught marks number parts (other_address options.all marks.ones parts)
reading_fields options taught marks number time (Err fault) =
    text_field (codes "fault") (judged_text number (reading_judged (Err fault)))

-- a line as an object of JSON
unfoldable pub json_line : TellOptions → Taught → Marks → ℕ → Option ℤ → Result TraceLine LineFault → List ℕ
json_line options taught marks number time parts = codes "{\"line\":" ++ (decimal number
    ++ (reading_fields options taught marks number time parts ++ codes "}\n"))

-- a line with a line feed, by what the lines before it taught, and by its marks
unfoldable pub told_line : TellOptions → Taught → Marks → ℕ → Option ℤ → Result TraceLine LineFault → List ℕ
told_line options taught marks number time parts = if options.json
    then json_line options taught marks number time parts else plain_capture_line options taught marks number time parts

-- ---- a packet whose address is no part's

-- what follows the address byte of a packet
abbrev pub behind_first : List ℕ → List ℕ
behind_first bytes = drop 1 bytes

-- as it is shown to a person
unfoldable pub aside_words : Special → Ones → ℕ → TraceLine → List ℕ
aside_words special ones addr parts = hex_byte addr ++ (codes " " ++ (special_words special
    ++ (carried_by (behind_first parts.write) (option_map behind_first parts.read) ++ received_text ones)))

unfoldable pub aside_plain : Special → Ones → ℕ → Option ℤ → TraceLine → List ℕ
aside_plain special ones number time parts = decimal number ++ (time_text time ++ (codes " "
    ++ (aside_words special ones (slice_index parts.write 0 / 2) parts ++ codes "\n")))

-- as an object of JSON
unfoldable pub aside_fields : Special → Ones → ℕ → TraceLine → List ℕ
aside_fields special ones addr parts = address_field (Some addr) ++ (text_field (codes "special") (special_words special)
    ++ (other_payload_by (behind_first parts.write) (option_map behind_first parts.read)
    ++ received_field (length parts.write) ones))

unfoldable pub aside_json : Special → Ones → ℕ → Option ℤ → TraceLine → List ℕ
aside_json special ones number time parts = codes "{\"line\":" ++ (decimal number ++ (signed_field_if (codes "time") time
    ++ (aside_fields special ones (slice_index parts.write 0 / 2) parts ++ codes "}\n")))

abbrev pub aside_line : Bool → Special → Ones → ℕ → Option ℤ → Result TraceLine LineFault → List ℕ
aside_line json special ones number time (Ok parts) =
    if json then aside_json special ones number time parts else aside_plain special ones number time parts
aside_line json special ones number time (Err fault) = []

-- ---- a transfer that failed

-- as it is shown to a person
unfoldable pub plain_failed : ℕ → Option ℤ → Why → List ℕ
plain_failed number time why = decimal number ++ (time_text time ++ (codes " failed: " ++ (why_words why ++ codes "\n")))

-- as an object of JSON
unfoldable pub json_failed : ℕ → Option ℤ → Why → List ℕ
json_failed number time why = codes "{\"line\":" ++ (decimal number
    ++ (signed_field_if (codes "time") time ++ (text_field (codes "failed") (why_words why) ++ codes "}\n")))

abbrev pub failed_line : Bool → ℕ → Option ℤ → Why → List ℕ
failed_line json number time why = if json then json_failed number time why else plain_failed number time why

-- with its time if lines have times
abbrev pub failed_text : TellOptions → Option ℕ → ℕ → Option Failure → List ℕ
failed_text options first number None = []
failed_text options first number (Some failure) =
    failed_line options.json number (if options.times then time_since first failure.time else None) failure.why

abbrev pub noted_line : TellOptions → Option ℕ → ℕ → Option Failure → List ℕ
noted_line options first number failure = if options.explain then failed_text options first number failure else []

-- ---- lines

-- what is written of a packet to a part, by what is known before it
abbrev pub read_line : TellOptions → Known → ℕ → Option ℕ → Result TraceLine LineFault → List ℕ
read_line options known number time parts = told_line options known.taught (marks_shown options known.words
    (marks_in options known.pages known.answers (ones_in options known parts) time parts) parts) number (time_since known.first time) parts

-- what is written of a line by what is known before it: of a comment only that a transfer failed
abbrev pub said_line : TellOptions → Known → ℕ → Said → List ℕ
said_line options known number (Told reading) = read_line options known number reading.time reading.parts
said_line options known number (Aside special reading) =
    aside_line options.json special (ones_in options known reading.parts) number (time_since known.first reading.time) reading.parts
said_line options known number (Noted note) = noted_line options known.first number note.failure

abbrev pub line_text : TellOptions → Known → Entry → List ℕ
line_text options known entry = said_line options known entry.0 (seen_as options known entry.1)

-- what is written of lines one after another
abbrev pub lines_text : TellOptions → Known → List Entry → List ℕ
lines_text options known [] = []
lines_text options known (entry ∷ entries) =
    line_text options known entry ++ lines_text options (known_by options known entry) entries

-- ---- the counts

-- how often a code was carried by packets that are shown otherwise, if it was
abbrev pub other_line_by : ℕ → Option ℕ → List ℕ
other_line_by code None = []
other_line_by code (Some count) =
    codes "count code " ++ (hex_byte code ++ (codes " " ++ (decimal count ++ codes "\n")))

abbrev pub other_line : List (ℕ × ℕ) → ℕ → List ℕ
other_line others code = other_line_by code (lookup (nat_eq code) others)

-- the lines of counts of each code below a number, in ascending order
unfoldable pub other_lines : List (ℕ × ℕ) → ℕ → List ℕ
other_lines others zero = []
other_lines others (suc code) = other_lines others code ++ other_line others code

abbrev pub others_total : Bool → List (ℕ × ℕ) → List ℕ
others_total all others = if all then codes " other " ++ decimal (total_of others) else []

-- how many packets were refused, if one was
abbrev pub refused_total : ℕ → List ℕ
refused_total refused = if refused == 0 then [] else codes " refused " ++ decimal refused

-- how many went to an address that is no part's, if one did
abbrev pub special_total : ℕ → List ℕ
special_total special = if special == 0 then [] else codes " special " ++ decimal special

abbrev pub faults_text : ℕ → ℕ → ℕ → ℕ → List ℕ
faults_text faults refused special bad = codes " faults " ++ (decimal faults
    ++ (refused_total refused ++ (special_total special ++ (codes " bad " ++ (decimal bad ++ codes "\n")))))

unfoldable pub totals_line : Bool → HeardLines → List ℕ
totals_line all heard = codes "lines " ++ (decimal (heard_lines heard) ++ (codes " accepted "
    ++ (decimal heard.counts.accepted ++ (others_total all heard.others
    ++ faults_text heard.counts.faults heard.refused heard.special heard.counts.bad))))

-- the counts as they are shown to a person, and as objects of JSON
unfoldable pub plain_counts : Bool → HeardLines → List ℕ
plain_counts all heard = flat_map count_line heard.counts.codes
    ++ ((if all then other_lines heard.others 256 else []) ++ totals_line all heard)

unfoldable pub json_counts : Bool → HeardLines → List ℕ
json_counts all heard = flat_map count_json heard.counts.codes
    ++ ((if all then other_jsons heard.others 256 else []) ++ totals_json all heard)

abbrev pub counts_text : TellOptions → HeardLines → List ℕ
counts_text options heard = if options.json then json_counts options.all heard else plain_counts options.all heard

-- ---- the whole

-- what is written of a capture
unfoldable pub capture_text : TellOptions → List ℕ → List ℕ
capture_text options text = lines_text options unknown (entries_of options text)
    ++ counts_text options (heard_in_lines options (entries_of options text))

-- what is written of one without bytes, by whether it is shown as JSON, and whether other codes are shown
abbrev pub empty_by : Bool → Bool → List ℕ
empty_by false false = codes "lines 0 accepted 0 faults 0 bad 0\n"
empty_by false true = codes "lines 0 accepted 0 other 0 faults 0 bad 0\n"
empty_by true false = codes "{\"lines\":0,\"accepted\":0,\"faults\":0,\"bad\":0}\n"
empty_by true true = codes "{\"lines\":0,\"accepted\":0,\"other\":0,\"faults\":0,\"bad\":0}\n"

-- how it ends: there are bad lines, or none, and what may be wrong
abbrev pub capture_end : TellOptions → List ℕ → TellEnd
capture_end options text = told_end options (heard_in_lines options (entries_of options text))
