-- What is written of a trace: a line for each of its lines that isn't skipped, a line for each code
-- that was carried, and the counts. The forms are this project's own choice; names are printed as
-- in PMBus 1.3 Part II.
use Rattle.std.specs.Prelude.{ℕ, ◌==◌, if◌then◌else◌, List, [], ◌∷◌, ◌++◌, flat_map, unwrap_or, decimal, codes, Option, Some, None, ⊤}
use Rattle.std.specs.Fmt.{signed_decimal}
use Rattle.pm_table.specs.Commands.{name_of}
use Rattle.pm_frame.specs.FaultWords.{frame_fault_text}
use Rattle.pm_table.specs.Coefficients.{coefficients_of}
use Rattle.pm_table.specs.declared.coefficients.Coefficients.{Coefficients}
use Rattle.pm_frame.specs.View.{message_page, message_code, message_payload}
use Rattle.pm_frame.specs.declared.message.Message.{Message}
use Rattle.pm_frame.specs.declared.message.Message.TheVariants.{SendByte, WriteByte, WriteWord, PagePlusWrite, ReadCommand, PagePlusRead, ReadCoefficients}
use Rattle.pm_trace.specs.declared.decode_end.DecodeEnd.{DecodeEnd}
use Rattle.pm_trace.specs.declared.decode_end.DecodeEnd.TheVariants.{Clean, BadLines}
use Rattle.pm_lines.specs.Numbers.{hex_byte, hex_number}
use Rattle.pm_lines.specs.Faults.{fault_words}
use Rattle.pm_lines.specs.declared.fault.TextFault.{TextFault}
use Rattle.pm_lines.specs.declared.fault.TextFault.TheVariants as fault
use Rattle.pm_lines.specs.declared.fault.TextFault.TheVariants.{Syntax, BadHex, TooLong, Read, Write, Memory, Setup}
use Rattle.pm_trace.specs.Counts.{Counts, counts_of, lines_in}
use Rattle.pm_trace.specs.Trace.{ToldLine, Judged, Accepted, Faulty, BadSyntax, BadHex, trace_of}

-- ---- a packet that was accepted

abbrev pub page_text : Option ℕ → List ℕ
page_text None = []
page_text (Some page) = codes "page " ++ decimal page ++ codes " "

-- what a write carries
abbrev pub written_text : List ℕ → List ℕ
written_text [] = codes " send"
written_text (byte ∷ bytes) = codes " write " ++ hex_number (byte ∷ bytes)

-- what a write carries, or what a read was answered
abbrev pub payload_text : List ℕ → Option (List ℕ) → List ℕ
payload_text payload None = written_text payload
payload_text payload (Some answer) = codes " read " ++ hex_number answer

-- the page that it names, the code's name, and what it carries
unfoldable pub plain_text : Message → Option (List ℕ) → List ℕ
plain_text message answer = page_text (message_page message)
    ++ (name_of (message_code message) ++ payload_text (message_payload message) answer)

-- the code and the side that coefficients were asked of
unfoldable pub asked_text : ℕ → ℕ → List ℕ
asked_text code side = codes "COEFFICIENTS of " ++ hex_byte code ++ codes " side " ++ decimal side

-- the three numbers of the answer
unfoldable pub numbers_text : Coefficients → List ℕ
numbers_text c = (codes " read m " ++ signed_decimal c.m) ++ (codes " b " ++ signed_decimal c.b)
    ++ (codes " r " ++ signed_decimal c.r)

abbrev pub message_text : Message → Option (List ℕ) → List ℕ
message_text (ReadCoefficients code side) answer =
    asked_text code side ++ numbers_text (coefficients_of (unwrap_or answer []))
message_text (SendByte code) answer = plain_text (SendByte code) answer
message_text (WriteByte code byte) answer = plain_text (WriteByte code byte) answer
message_text (WriteWord code word) answer = plain_text (WriteWord code word) answer
message_text (PagePlusWrite page code payload) answer =
    plain_text (PagePlusWrite page code payload) answer
message_text (ReadCommand code) answer = plain_text (ReadCommand code) answer
message_text (PagePlusRead page code) answer = plain_text (PagePlusRead page code) answer

-- ---- a line

abbrev pub address_text : Option ℕ → List ℕ
address_text None = codes "--"
address_text (Some addr) = hex_byte addr

-- what the line of this number says
abbrev pub judged_text : ℕ → Judged → List ℕ
judged_text line (Accepted addr message answer) =
    hex_byte addr ++ (codes " " ++ message_text message answer)
judged_text line (Faulty addr read fault) = address_text addr
    ++ ((if read then codes " read " else codes " write ") ++ frame_fault_text fault)
judged_text line BadSyntax = fault_words (Syntax line)
judged_text line BadHex = fault_words (fault.BadHex line)

-- what is written of a line, without a line feed
unfoldable pub told_text : ToldLine → List ℕ
told_text told = decimal told.0 ++ (codes " " ++ judged_text told.0 told.1)

-- a line's text with its line feed
abbrev pub told_line_text : ToldLine → List ℕ
told_line_text told = told_text told ++ codes "\n"

abbrev pub told_lines_text : List ToldLine → List ℕ
told_lines_text lines = flat_map told_line_text lines

-- ---- the counts

unfoldable pub count_line : (ℕ × ℕ) → List ℕ
count_line entry = codes "count " ++ name_of entry.0 ++ codes " " ++ decimal entry.1 ++ codes "\n"

unfoldable pub decode_totals_line : Counts → List ℕ
decode_totals_line counts =
    codes "lines " ++ decimal (lines_in counts) ++ codes " accepted " ++ decimal counts.accepted
    ++ codes " faults " ++ decimal counts.faults ++ codes " bad " ++ decimal counts.bad ++ codes "\n"

abbrev pub decode_counts_text : Counts → List ℕ
decode_counts_text counts = flat_map count_line counts.codes ++ decode_totals_line counts

-- ---- the whole

-- what is written of a trace
unfoldable pub trace_text : List ℕ → List ℕ
trace_text text = told_lines_text (trace_of text) ++ decode_counts_text (counts_of (trace_of text))

-- how it ends: there are bad lines, or none
abbrev pub decode_end_of : Counts → DecodeEnd
decode_end_of counts = if counts.bad == 0 then Clean else BadLines

-- why `decode` refuses
abbrev pub IsOfDecode : TextFault → Type 0
IsOfDecode (Syntax line) = ⊥
IsOfDecode (BadHex line) = ⊥
IsOfDecode TooLong = ⊤
IsOfDecode Read = ⊤
IsOfDecode Write = ⊤
IsOfDecode Memory = ⊤
IsOfDecode (Setup fault) = ⊥
