-- What is written of a capture as objects of JSON, one a line, without spaces, and with keys in one order. Every text in
-- them is made of letters, digits, spaces and a few signs of which none has to be escaped. This project's own choice.
use Rattle.std.specs.Prelude.{ℕ, ◌+◌, ℤ, pos, Bool, true, ◌&&◌, if◌then◌else◌, List, [], ◌∷◌, ◌++◌, decimal, codes, unwrap_or, Option, Some, None}
use Rattle.std.specs.Fmt.{signed_decimal}
use Rattle.pm_frame.specs.FaultWords.{frame_fault_place, frame_fault_words}
use Rattle.pm_frame.specs.View.{message_code, message_page}
use Rattle.pm_frame.specs.declared.fault.FrameFault.{FrameFault}
use Rattle.pm_frame.specs.declared.message.Message.{Message}
use Rattle.pm_frame.specs.declared.message.Message.TheVariants.{SendByte, WriteByte, WriteWord, PagePlusWrite, ReadCommand, PagePlusRead, ReadCoefficients}
use Rattle.pm_lines.specs.Numbers.{hex_byte}
use Rattle.pm_num.specs.Ratio.{Ratio}
use Rattle.pm_table.specs.Commands.{name_of}
use Rattle.pm_table.specs.Coefficients.{coefficients_of}
use Rattle.pm_table.specs.declared.coefficients.Coefficients.{Coefficients}
use Rattle.pm_trace.specs.Trace.{Judged, Accepted, Faulty, BadSyntax, BadHex}
use Rattle.pm_trace.specs.CodeNames.{standard_name}
use Rattle.pm_trace.specs.Otherwise.{ContentBytes, content_letters, content_of, has_pec, said_bytes, spaced}
use Rattle.pm_trace.specs.declared.answers.Ones.{Ones}
use Rattle.pm_trace.specs.declared.answers.Ones.TheVariants.{Answer, Doubtful, Nobody, Refused}
use Rattle.pm_trace.specs.declared.answers.Refusal.{Refusal}
use Rattle.pm_decode.specs.declared.page_steps.Marks.{Marks}
use Rattle.pm_trace.specs.declared.otherwise.Otherwise.{Otherwise}
use Rattle.pm_trace.specs.Statuses.{names_from, rows_of}
use Rattle.pm_trace.specs.Taught.{Taught, is_assumed}
use Rattle.pm_trace.specs.ValueText.{capability_text, millionths_text, mode_text, on_off_text, operation_text, protection_text, relative_text, revision_text}
use Rattle.pm_trace.specs.Values.{carried, millionths, other_value, packet_value}
use Rattle.pm_trace.specs.declared.formats.GivenFormats.{GivenFormats}
use Rattle.pm_trace.specs.declared.value.Unit.{Unit as MeasureUnit}
use Rattle.pm_trace.specs.declared.value.Unit.TheVariants.{Volt, Ampere, Celsius}
use Rattle.pm_trace.specs.declared.value.Value.{Value}
use Rattle.pm_trace.specs.declared.value.Value.TheVariants.{Measured, Operates, Protects, Scales, Relative, Vid, Half, Flags, Capable, Controls, Revises}

-- ---- fields

-- a key after other fields
unfoldable pub key : List ℕ → List ℕ
key name = codes ",\"" ++ (name ++ codes "\":")

-- a field with a text
unfoldable pub text_field : List ℕ → List ℕ → List ℕ
text_field name text = key name ++ (codes "\"" ++ (text ++ codes "\""))

-- a field with a number
unfoldable pub number_field : List ℕ → ℕ → List ℕ
number_field name number = key name ++ decimal number

unfoldable pub signed_field : List ℕ → ℤ → List ℕ
signed_field name number = key name ++ signed_decimal number

abbrev pub number_field_if : List ℕ → Option ℕ → List ℕ
number_field_if name None = []
number_field_if name (Some number) = number_field name number

abbrev pub signed_field_if : List ℕ → Option ℤ → List ℕ
signed_field_if name None = []
signed_field_if name (Some number) = signed_field name number

-- bytes in hexadecimal with a space between two of them
abbrev pub hex_words : List ℕ → List ℕ
hex_words [] = []
hex_words (byte ∷ bytes) = hex_byte byte ++ spaced bytes

-- a field of bytes, if there are any
unfoldable pub bytes_field : List ℕ → List ℕ → List ℕ
bytes_field name [] = []
bytes_field name (byte ∷ bytes) = text_field name (hex_words (byte ∷ bytes))

abbrev pub address_field : Option ℕ → List ℕ
address_field None = []
address_field (Some addr) = text_field (codes "address") (hex_byte addr)

-- ---- values

-- the key of a number with this unit
abbrev pub unit_key : MeasureUnit → List ℕ
unit_key Volt = codes "volts"
unit_key Ampere = codes "amperes"
unit_key Celsius = codes "celsius"

-- a fraction as the word has it
unfoldable pub fraction_by : ℤ → ℤ → List ℕ
fraction_by num den = signed_field (codes "numerator") num ++ signed_field (codes "denominator") den

-- a fraction rounded down to a millionth
unfoldable pub rounded_field : Ratio → MeasureUnit → List ℕ
rounded_field ratio unit = key (unit_key unit) ++ millionths_text (millionths ratio)

abbrev pub value_fields : Value → List ℕ
value_fields (Measured ratio unit) = fraction_by ratio.num (pos ratio.den) ++ rounded_field ratio unit
value_fields (Operates byte) = text_field (codes "value") (operation_text byte)
value_fields (Protects byte) = text_field (codes "value") (protection_text byte)
value_fields (Scales mode) = text_field (codes "value") (mode_text mode)
value_fields (Relative n) = text_field (codes "value") (relative_text n)
value_fields Vid = text_field (codes "value") (codes "VID")
value_fields Half = text_field (codes "value") (codes "half")
value_fields (Capable byte) = text_field (codes "value") (capability_text byte)
value_fields (Controls byte) = text_field (codes "value") (on_off_text byte)
value_fields (Revises byte) = text_field (codes "value") (revision_text byte)
value_fields (Flags status bits) =
    key (codes "flags") ++ (codes "[" ++ (names_from (codes ",") (codes "\"") true (rows_of status) bits ++ codes "]"))

abbrev pub value_fields_if : Option Value → List ℕ
value_fields_if None = []
value_fields_if (Some value) = value_fields value

-- ---- a packet that was accepted

-- a payload's place, and the payload
abbrev pub sent_direction : List ℕ → List ℕ
sent_direction [] = codes "send"
sent_direction (byte ∷ bytes) = codes "write"

abbrev pub sent_fields : List ℕ → List ℕ
sent_fields payload = text_field (codes "direction") (sent_direction payload) ++ bytes_field (codes "payload") payload

abbrev pub payload_fields : List ℕ → Option (List ℕ) → List ℕ
payload_fields payload None = sent_fields payload
payload_fields payload (Some answer) = text_field (codes "direction") (codes "read") ++ bytes_field (codes "payload") answer

abbrev pub code_fields : ℕ → List ℕ
code_fields code = text_field (codes "code") (hex_byte code) ++ text_field (codes "name") (name_of code)

-- the three numbers of an answer to COEFFICIENTS
abbrev pub numbers_fields : Coefficients → List ℕ
numbers_fields c = signed_field (codes "m") c.m ++ (signed_field (codes "b") c.b ++ signed_field (codes "r") c.r)

-- the output that a packet reaches if PAGE is followed, or the one that it names
abbrev pub page_fields : Option ℕ → Option ℕ → List ℕ
page_fields None named = number_field_if (codes "page") named
page_fields (Some page) named = number_field (codes "page") page ++ codes ",\"followed\":true"

-- a value, and that its format is only assumed
abbrev pub assumed_field : Bool → List ℕ
assumed_field assumed = if assumed then codes ",\"assumed\":true" else []

abbrev pub told_fields : GivenFormats → Taught → Option ℕ → ℕ → Message → Option (List ℕ) → List ℕ
told_fields given taught reached addr message answer = value_fields_if (packet_value given taught addr reached message answer)
    ++ assumed_field (is_assumed given taught addr (message_code message))

-- a packet that asks for nothing but its code's value, or writes it
abbrev pub plain_fields : GivenFormats → Bool → Taught → Option ℕ → ℕ → Message → Option (List ℕ) → List ℕ
plain_fields given values taught reached addr message answer = page_fields reached (message_page message)
    ++ (code_fields (message_code message) ++ (payload_fields (carried message None) answer
    ++ (if values then told_fields given taught reached addr message answer else [])))

-- the answer to a request for coefficients
abbrev pub coefficients_fields : ℕ → ℕ → List ℕ → List ℕ
coefficients_fields code side answer = code_fields 0x30 ++ (text_field (codes "of") (hex_byte code)
    ++ (number_field (codes "side") side ++ (payload_fields [] (Some answer)
    ++ numbers_fields (coefficients_of answer))))

abbrev pub message_fields : GivenFormats → Bool → Taught → Option ℕ → ℕ → Message → Option (List ℕ) → List ℕ
message_fields given values taught reached addr (ReadCoefficients code side) answer =
    coefficients_fields code side (unwrap_or answer [])
message_fields given values taught reached addr (SendByte code) answer =
    plain_fields given values taught reached addr (SendByte code) answer
message_fields given values taught reached addr (WriteByte code byte) answer =
    plain_fields given values taught reached addr (WriteByte code byte) answer
message_fields given values taught reached addr (WriteWord code word) answer =
    plain_fields given values taught reached addr (WriteWord code word) answer
message_fields given values taught reached addr (PagePlusWrite page code payload) answer =
    plain_fields given values taught reached addr (PagePlusWrite page code payload) answer
message_fields given values taught reached addr (ReadCommand code) answer =
    plain_fields given values taught reached addr (ReadCommand code) answer
message_fields given values taught reached addr (PagePlusRead page code) answer =
    plain_fields given values taught reached addr (PagePlusRead page code) answer

-- ---- a packet with a fault, but for its address

-- all bytes of a packet, with `/` before those that were read
abbrev pub read_words : Option (List ℕ) → List ℕ
read_words None = []
read_words (Some read) = codes " /" ++ spaced read

unfoldable pub whole_words : List ℕ → Option (List ℕ) → List ℕ
whole_words [] None = []
whole_words [] (Some read) = codes "/" ++ spaced read
whole_words (byte ∷ bytes) read = hex_byte byte ++ (spaced bytes ++ read_words read)

-- a packet that has a byte, or a read part
abbrev pub packet_field : List ℕ → Option (List ℕ) → List ℕ
packet_field [] None = []
packet_field [] (Some read) = text_field (codes "packet") (whole_words [] (Some read))
packet_field (byte ∷ bytes) read = text_field (codes "packet") (whole_words (byte ∷ bytes) read)

abbrev pub whole_field : Bool → List ℕ → Option (List ℕ) → List ℕ
whole_field values write read = if values then packet_field write read else []

-- a fault, and its place
abbrev pub kind_fields : FrameFault → List ℕ
kind_fields fault =
    text_field (codes "fault") (frame_fault_words fault) ++ number_field_if (codes "place") (frame_fault_place fault)

-- the code of one that has an address and a code
abbrev pub fault_code_by : List ℕ → List ℕ
fault_code_by [] = []
fault_code_by (first ∷ []) = []
fault_code_by (first ∷ code ∷ rest) = text_field (codes "code") (hex_byte code)

abbrev pub fault_code : Option ℕ → List ℕ → List ℕ
fault_code None write = []
fault_code (Some addr) write = fault_code_by write

abbrev pub fault_fields : Bool → List ℕ → Option (List ℕ) → Bool → FrameFault → List ℕ
fault_fields values write read is_read fault = text_field (codes "direction") (if is_read then codes "read" else codes "write")
    ++ (whole_field values write read ++ kind_fields fault)

-- ---- a packet that is shown by its code and bytes

-- the name of a code that the standard has
abbrev pub name_field : List ℕ → List ℕ
name_field [] = []
name_field (letter ∷ letters) = text_field (codes "name") (letter ∷ letters)

abbrev pub other_payload_by : List ℕ → Option (List ℕ) → List ℕ
other_payload_by written None = sent_fields written
other_payload_by written (Some answer) = text_field (codes "direction") (codes "read")
    ++ (bytes_field (codes "written") written ++ bytes_field (codes "payload") answer)

-- what the bytes say
abbrev pub meaning_fields_by : Option (List ℕ) → ContentBytes → List ℕ
meaning_fields_by None content = value_fields_if (other_value content.code (said_bytes content))
meaning_fields_by (Some letters) content = text_field (codes "text") letters

abbrev pub meaning_fields : Bool → ContentBytes → List ℕ
meaning_fields values content = if values then meaning_fields_by (content_letters content) content else []

unfoldable pub content_fields : Bool → Option ℕ → ContentBytes → List ℕ
content_fields values reached content = page_fields reached content.page
    ++ (text_field (codes "code") (hex_byte content.code) ++ (name_field (standard_name content.code)
    ++ (other_payload_by content.written content.answer ++ meaning_fields values content)))

-- a packet has no right PEC, and nobody answered, or maybe nobody
abbrev pub ones_fields : Ones → List ℕ
ones_fields Answer = codes ",\"pec\":false"
ones_fields Doubtful = codes ",\"pec\":false,\"answered\":null"
ones_fields Nobody = codes ",\"pec\":false,\"answered\":false"
ones_fields (Refused refusal) = codes ",\"pec\":false"

-- whether it has its PEC
abbrev pub pec_fields : Bool → Ones → List ℕ
pec_fields is_right ones = if is_right then codes ",\"pec\":true" else ones_fields ones

unfoldable pub other_fields : Otherwise → List ℕ → Option (List ℕ) → List ℕ
other_fields otherwise write read = address_field (Some otherwise.addr)
    ++ (content_fields otherwise.values otherwise.reached (content_of write read)
    ++ pec_fields (has_pec write read) otherwise.ones)

-- the field of a packet of the table that lacks its PEC, whose answer of ones is taken so
abbrev pub lack_field : Ones → Bool → List ℕ
lack_field ones lacks = if lacks then ones_fields ones else []

-- the field of this name of a packet that contradicts a line: the two lines
unfoldable pub lines_field : List ℕ → ℕ → ℕ → List ℕ
lines_field name line number = key name ++ (codes "[" ++ (decimal line ++ (codes "," ++ (decimal number ++ codes "]"))))

abbrev pub lines_field_if : List ℕ → ℕ → Option ℕ → List ℕ
lines_field_if name number None = []
lines_field_if name number (Some line) = lines_field name line number

-- the field of a packet of which a byte wasn't acknowledged, and whose write part has so many bytes: the byte's place in the packet
abbrev pub refused_field : ℕ → Refusal → List ℕ
refused_field written refusal =
    number_field (codes "refused_at") (if refusal.of_answer then written + refusal.place else refusal.place)

abbrev pub received_field : ℕ → Ones → List ℕ
received_field written (Refused refusal) = refused_field written refusal
received_field written Answer = []
received_field written Doubtful = []
received_field written Nobody = []

-- the field of a write of PAGE that WRITE_PROTECT forbids
abbrev pub forbidden_field : Bool → List ℕ
forbidden_field forbidden = if forbidden then codes ",\"forbidden\":true" else []

abbrev pub marks_fields : ℕ → ℕ → Marks → List ℕ
marks_fields number written marks = number_field_if (codes "phase") marks.phase
    ++ (received_field written marks.ones ++ (forbidden_field marks.is_forbidden
    ++ (lines_field_if (codes "wrong") number marks.wrong ++ lines_field_if (codes "changed") number marks.changed)))

-- ---- a line

-- `heeded` is whether the bytes of a good packet say something
abbrev pub judged_fields : GivenFormats → Bool → Bool → Taught → Option ℕ → List ℕ → Option (List ℕ) → Judged → List ℕ
judged_fields given values heeded taught reached write read (Accepted addr message answer) =
    address_field (Some addr) ++ message_fields given (values && heeded) taught reached addr message answer
judged_fields given values heeded taught reached write read (Faulty addr is_read fault) =
    address_field addr ++ (fault_code addr write ++ fault_fields values write read is_read fault)
judged_fields given values heeded taught reached write read BadSyntax = []
judged_fields given values heeded taught reached write read BadHex = []
