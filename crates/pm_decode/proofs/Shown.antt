-- What is shown of a packet and of what stands beside it.
use Rattle.std.specs.Option.{option_or}
use Rattle.std.specs.List.{filter_map, enumerate_from}
use Rattle.std.specs.Prelude.{is_some, decimal, flat_map, nat_lt}
use Rattle.std.proofs.{Math.ListN.set, lemmas.Bool.Decides.nat_tests, lemmas.Result.IfOk-equal}
use Rattle.std.proofs.Common.{◌≡◌, ℕ, Bool, true, false, List, Option, refl, sym, true≢false, ◌∙◌, ◌+◌, [], ◌∷◌, ◌++◌, map, filter, codes}
use Rattle.std.proofs.Common.{Some, None, Result, Ok, Err, ap, arith, append_assoc, append-nil, inl, inr, subst, ◌≢◌, not, ◌||◌, ◌&&◌, cond}
use Rattle.std.proofs.Common.{eqb, OnOk, ◌*◌, ◌/◌, ◌%◌, length, take, get_or, add-one, ◌-◌, ◌<◌, ◌≤◌, ◌^◌, length-append, ltb}
use Rattle.std.proofs.Math.Seq.{take-append_seam, take-length}
use Rattle.std.proofs.lemmas.Fmt.{decimal_digit, decimal_step}
use Rattle.pm_table.specs.Codes as command
use Rattle.pm_table.specs.Commands.{name_of, is_read, is_written, line_of, payload_length}
use Rattle.pm_frame.specs.{Pec.pec_of, declared.message.Message.Message, declared.message.Payload.Payload}
use Rattle.pm_frame.specs.{declared.message.Payload.TheVariants.Word}
use Rattle.pm_frame.specs.Laws.{AnswersAreExact, RequestsAreExact, WritesAreExact}
use Rattle.pm_frame.specs.Layout.{payload_bytes, IsAnswer, IsRequest, IsWrite, is_carried, sent, write_address}
use Rattle.pm_frame.specs.View.{message_code, message_page, message_payload}
use Rattle.pm_frame.specs.declared.message.Message.TheVariants.{SendByte, WriteByte, WriteWord, PagePlusWrite, ReadCommand, PagePlusRead}
use Rattle.pm_frame.specs.declared.message.Message.TheVariants.{ReadCoefficients}
use Rattle.pm_lines.specs.{Numbers.hex_byte, declared.fault.TextFault.TextFault}
use Rattle.pm_lines.specs.Engine.{Engine, EngineEnds, Run}
use Rattle.pm_lines.specs.Lines.{is_line_feed, is_unskipped, without_return, Numbered, unskipped_from}
use Rattle.pm_lines.specs.declared.fault.TextFault.TheVariants.{Syntax, BadHex, TooLong, Read, Write, Memory, Setup}
use Rattle.pm_trace.specs.{Decoding.said as trace_said, Marks.ended_pieces, Outcome.decoding, Pages.is_restore, declared.answers.Ones.Ones}
use Rattle.pm_trace.specs.{declared.answers.Ones.TheVariants.Answer, declared.decode_end.DecodeEnd.DecodeEnd}
use Rattle.pm_trace.specs.{declared.formats.GivenFormats.GivenFormats, declared.line_fault.LineFault.LineFault}
use Rattle.pm_trace.specs.{declared.mode_changes.ModeChange.TheVariants.OfNone, declared.packet.Packet.Packet}
use Rattle.pm_trace.specs.{declared.pages.PageUse.TheVariants.Beside, declared.trace_line.TraceLine.TraceLine}
use Rattle.pm_trace.specs.Counts.{counted, counts_of, lines_in, one_counted}
use Rattle.pm_trace.specs.Otherwise.{is_refused, is_accepted, lacks_pec, IsCompleted, address_otherwise, completed_judged, is_nobody}
use Rattle.pm_trace.specs.Otherwise.{is_short, judged_with, last_part}
use Rattle.pm_trace.specs.Taught.{Taught, changed_by, taught_by}
use Rattle.pm_trace.specs.Trace.{Accepted, line_read, parts_judged, reading_judged, told_of_line, trace_of, Judged, address_of}
use Rattle.pm_trace.specs.Trace.{answer_judged}
use Rattle.pm_trace.specs.Trace.{judged_at, read_judged, write_judged, Faulty, BadSyntax, BadHex as TraceBadHex}
use Rattle.pm_trace.specs.TraceText.{decode_end_of, count_line, decode_counts_text as trace_counts, judged_text}
use Rattle.pm_trace.specs.TraceText.{told_line_text as trace_line, told_lines_text}
use Rattle.pm_trace.specs.TraceText.{told_text, decode_totals_line as trace_totals, trace_text, page_text, payload_text}
use Rattle.pm_trace.specs.TraceText.{plain_text as trace_text_plain_text}
use Rattle.pm_decode.specs.{Outcome.telling_engine, declared.options.TellOptions.TellOptions, declared.page_steps.Marks.Marks}
use Rattle.pm_decode.specs.{declared.telling.TellEnd.TellEnd, declared.timed_line.LineReading.LineReading, declared.usual_line.Usual.Usual}
use Rattle.pm_decode.specs.CaptureText.{capture_end, capture_text, counts_text, line_text, lines_text, plain_counts, plain_capture_line}
use Rattle.pm_decode.specs.CaptureText.{told_line}
use Rattle.pm_decode.specs.CaptureText.{totals_line, other_line, other_lines}
use Rattle.pm_decode.specs.Capturing.{said_in_capture, said_text}
use Rattle.pm_decode.specs.Hearing.{Heard, HeardLines, Known, asides, heard_all, heard_as, heard_in_lines, is_aside, known_by, ones_in}
use Rattle.pm_decode.specs.Hearing.{other_code, refusals, told_in, unknown, line_heard_with, marks_with}
use Rattle.pm_decode.specs.Hints.{first_if, is_timed}
use Rattle.pm_decode.specs.JsonCounts.{other_json, other_jsons}
use Rattle.pm_decode.specs.Options.{plain_options, is_plain}
use Rattle.pm_decode.specs.PageSteps.{is_received, used_by}
use Rattle.pm_decode.specs.Readings.{Told, entries_of, entry_of, is_without_pec, judged_by, other_address}
use Rattle.pm_decode.specs.ShownReadings.{packet_in, parts_in, reading_in_line}
use Rattle.pm_decode.specs.UsualLines.{IsUsual, code_counted, usual_text}
use Rattle.pm_decode.specs.Words.{Words, changed_since, word_read}

-- A clear packet that carries its own page says nothing of PAGE, but for RESTORE.

pub named_beside : (ones : Ones) (parts : TraceLine) (addr : ℕ) (message : Message) (answer : Option (List ℕ)) (other : Option ℕ) (lost : Bool)
    → is_some (message_page message) ≡ true → is_restore (message_code message) ≡ false → is_received ones parts ≡ true
    → used_by lost ones parts (Accepted addr message answer) other ≡ Beside
named_beside ones parts addr (PagePlusWrite page code payload) answer other lost is plain clear = rw (clear, plain) refl
named_beside ones parts addr (PagePlusRead page code) answer other lost is plain clear = rw clear refl
named_beside ones parts addr (SendByte code) answer other lost is plain clear = absurd (true≢false (sym is))
named_beside ones parts addr (WriteByte code byte) answer other lost is plain clear = absurd (true≢false (sym is))
named_beside ones parts addr (WriteWord code word) answer other lost is plain clear = absurd (true≢false (sym is))
named_beside ones parts addr (ReadCommand code) answer other lost is plain clear = absurd (true≢false (sym is))
named_beside ones parts addr (ReadCoefficients code side) answer other lost is plain clear = absurd (true≢false (sym is))

-- What is shown and counted of a packet, usual or not.

-- What is shown without options is what is shown of a trace.

-- ---- how a telling ends, without what may be wrong

-- the engine of a telling whose end says only that
abbrev ending : TellOptions → Engine DecodeEnd
ending options = record {
  whole = λ input. Ok (capture_text options input, (capture_end options input).end);
  early = Some (λ front. said_text options front);
}

abbrev pub end_alone : Result TellEnd TextFault → Result DecodeEnd TextFault
end_alone (Ok told) = Ok told.end
end_alone (Err fault) = Err fault

abbrev made_alone : Result (List ℕ × TellEnd) TextFault → Result (List ℕ × DecodeEnd) TextFault
made_alone (Ok made) = Ok (made.0, made.1.end)
made_alone (Err fault) = Err fault

ends_alone : {R W : Type 0} (options : TellOptions) (run : Run R W) (result : Result TellEnd TextFault)
    → EngineEnds (telling_engine options) run result → EngineEnds (ending options) run (end_alone result)
ends_alone options run (Ok told) (read, sound, text, (input, whole, made), got) =
    (read, sound, text, (input, whole, ap made_alone made), got)
ends_alone options run (Err Write) (failed, text, so_far, inl under_way, cut) = (failed, text, so_far, inl under_way, cut)
ends_alone options run (Err Write) (failed, text, so_far, inr (told, (input, whole, made)), cut) =
    (failed, text, so_far, inr (told.end, (input, whole, ap made_alone made)), cut)
ends_alone options run (Err TooLong) ends = ends
ends_alone options run (Err Read) ends = ends
ends_alone options run (Err Memory) ends = ends
ends_alone options run (Err (Syntax line)) (sound, why, front, (whole, made), left) =
    (sound, why, front, (whole, ap made_alone made), left)
ends_alone options run (Err (BadHex line)) (sound, why, front, (whole, made), left) =
    (sound, why, front, (whole, ap made_alone made), left)
ends_alone options run (Err (Setup reason)) (sound, why, front, (whole, made), left) =
    (sound, why, front, (whole, ap made_alone made), left)

module _ (formats : GivenFormats) (long : Bool) (gap : ℕ) (parts_named muxes : List Bool) where
  abbrev plain : TellOptions
  plain = plain_options formats long gap parts_named muxes

  -- a line by what it reads as
  pub line_by : (known : Known) (number : ℕ) (parts : Result TraceLine LineFault)
      → line_text plain known (number, Told (record { time = None; parts = parts })) ≡ trace_line (number, reading_judged parts)
  unfolding told_line plain_capture_line told_text
  line_by known number (Ok parts) =
      let text = judged_text number (parts_judged parts.write parts.read) in
      ap (λ l. decimal number ++ ((codes " " ++ l) ++ codes "\n")) (append-nil text)
      ∙ sym (append_assoc (decimal number) (codes " " ++ text) (codes "\n"))
  line_by known number (Err fault) =
      sym (append_assoc (decimal number) (codes " " ++ judged_text number (reading_judged (Err fault))) (codes "\n"))

  -- lines one after another
  lines_by : (known : Known) (lines : List Numbered)
      → lines_text plain known (map (entry_of plain) lines) ≡ told_lines_text (map told_of_line lines)
  lines_by known [] = refl
  lines_by known (line ∷ lines) =
      let rest = known_by plain known (entry_of plain line) in
      ap (λ l. l ++ lines_text plain rest (map (entry_of plain) lines)) (line_by known line.0 (line_read line.1))
      ∙ ap (λ l. trace_line (told_of_line line) ++ l) (lines_by rest lines)

  -- a line as it is heard
  abbrev heard_plain : Known → ℕ → Result TraceLine LineFault → Heard
  heard_plain known number parts = heard_as plain known (number, Told (record { time = None; parts = parts }))

  -- no line has another code
  no_code : (known : Known) (number : ℕ) (parts : Result TraceLine LineFault) → other_code false (heard_plain known number parts) ≡ None
  no_code known number (Ok parts) = refl
  no_code known number (Err fault) = refl

  no_codes : (known : Known) (lines : List Numbered)
      → filter_map (other_code false) (heard_all plain known (map (entry_of plain) lines)) ≡ []
  no_codes known [] = refl
  no_codes known (line ∷ lines) =
      rw (no_code known line.0 (line_read line.1)) (no_codes (known_by plain known (entry_of plain line)) lines)

  -- what is shown of a line if packets without PEC aren't shown
  told_plain : (known : Known) (number : ℕ) (parts : Result TraceLine LineFault)
      → told_in false (heard_plain known number parts) ≡ Some (number, reading_judged parts)
  told_plain known number (Ok parts) = refl
  told_plain known number (Err fault) = refl

  -- what is shown of the lines
  as_told : (known : Known) (lines : List Numbered)
      → filter_map (told_in false) (heard_all plain known (map (entry_of plain) lines)) ≡ map told_of_line lines
  as_told known [] = refl
  as_told known (line ∷ lines) = rw (told_plain known line.0 (line_read line.1))
      (ap (λ l. told_of_line line ∷ l) (as_told (known_by plain known (entry_of plain line)) lines))

  -- none was refused, nor set aside
  one_taken : (known : Known) (parts : Result TraceLine LineFault) → is_refused (ones_in plain known parts) ≡ false
  one_taken known (Ok parts) = refl
  one_taken known (Err fault) = refl

  none_refused : (known : Known) (lines : List Numbered) → refusals (heard_all plain known (map (entry_of plain) lines)) ≡ 0
  none_refused known [] = refl
  none_refused known (line ∷ lines) =
      rw (one_taken known (line_read line.1)) (none_refused (known_by plain known (entry_of plain line)) lines)

  one_kept : (known : Known) (number : ℕ) (parts : Result TraceLine LineFault) → is_aside (heard_plain known number parts).1.1 ≡ false
  one_kept known number (Ok parts) = refl
  one_kept known number (Err fault) = refl

  none_aside : (known : Known) (lines : List Numbered) → asides (heard_all plain known (map (entry_of plain) lines)) ≡ 0
  none_aside known [] = refl
  none_aside known (line ∷ lines) =
      rw (one_kept known line.0 (line_read line.1)) (none_aside (known_by plain known (entry_of plain line)) lines)

  heard_by : (lines : List Numbered) → (heard_in_lines plain (map (entry_of plain) lines)).counts ≡ counts_of (map told_of_line lines)
  unfolding heard_in_lines
  heard_by lines = ap counts_of (as_told unknown lines)

  others_by : (lines : List Numbered) → (heard_in_lines plain (map (entry_of plain) lines)).others ≡ []
  unfolding heard_in_lines
  others_by lines = ap counted (no_codes unknown lines)

  taken_by : (lines : List Numbered) → (heard_in_lines plain (map (entry_of plain) lines)).refused ≡ 0
  unfolding heard_in_lines
  taken_by lines = none_refused unknown lines

  kept_by : (lines : List Numbered) → (heard_in_lines plain (map (entry_of plain) lines)).special ≡ 0
  unfolding heard_in_lines
  kept_by lines = none_aside unknown lines

  -- the counts
  totals_by : (heard : HeardLines) → heard.others ≡ [] → heard.refused ≡ 0 → heard.special ≡ 0
      → totals_line false heard ≡ trace_totals heard.counts
  unfolding totals_line trace_totals
  totals_by heard none taken kept =
      let count : lines_in heard.counts + 0 + 0 + 0 ≡ lines_in heard.counts = omega arith in
      rw (none, taken, kept) (rw count (simp append_assoc))

  counts_by : (heard : HeardLines) → heard.others ≡ [] → heard.refused ≡ 0 → heard.special ≡ 0
      → counts_text plain heard ≡ trace_counts heard.counts
  unfolding plain_counts
  counts_by heard none taken kept = ap (λ l. flat_map count_line heard.counts.codes ++ l) (totals_by heard none taken kept)

  pub plain_text : (text : List ℕ) → capture_text plain text ≡ trace_text text
  unfolding capture_text trace_text entries_of trace_of unskipped_from
  plain_text text =
      let lines = unskipped_from 1 text in
      ap (λ l. l ++ counts_text plain (heard_in_lines plain (map (entry_of plain) lines))) (lines_by unknown lines)
      ∙ ap (λ l. told_lines_text (map told_of_line lines) ++ l) (counts_by (heard_in_lines plain (map (entry_of plain) lines)) (others_by lines) (taken_by lines) (kept_by lines))
      ∙ ap (λ c. told_lines_text (map told_of_line lines) ++ trace_counts c) (heard_by lines)

  -- the lines that ended
  said_by : (text : List ℕ) → said_text plain text ≡ told_lines_text (trace_said text)
  unfolding said_in_capture trace_said
  said_by text = lines_by unknown (filter is_unskipped (enumerate_from 1 (map without_return (ended_pieces is_line_feed text))))

  end_by : (text : List ℕ) → (capture_end plain text).end ≡ decode_end_of (counts_of (trace_of text))
  unfolding entries_of trace_of unskipped_from
  end_by text = ap decode_end_of (heard_by (unskipped_from 1 text))

  -- a telling without options is the engine that decodes
  plain_engine : ending plain ≡ decoding
  plain_engine = λ i. record {
    whole = λ input. Ok (plain_text input i, end_by input i);
    early = Some (λ front. said_by front i);
  }

  -- it ends as that engine does
  pub plain_ends : {R W : Type 0} (run : Run R W) (result : Result TellEnd TextFault)
      → EngineEnds (telling_engine plain) run result → EngineEnds decoding run (end_alone result)
  plain_ends run result ends =
      subst (λ (engine : Engine DecodeEnd). EngineEnds engine run (end_alone result)) plain_engine (ends_alone plain run result ends)

-- A usual packet is shown, taught and counted as every packet is.

-- ---- the text begins with what it was

-- pieces at the end of a text leave its front
pub ruleset fronts = (take-append_seam, take-length)

-- ---- a packet that is usual

module _ (addr : ℕ) (message : Message) (page : Option ℕ) (code : ℕ) (payload : Payload)
    (page_is : page ≡ message_page message) (code_is : code ≡ message_code message) (no_mode : code ≢ command.vout_mode)
    (none_asked : code ≢ command.coefficients) where
  -- its text is a plain one
  plain_said : (number : ℕ) (answer : Option (List ℕ)) → (m : Message) → code ≡ message_code m
      → judged_text number (Accepted addr m answer) ≡ hex_byte addr ++ (codes " " ++ trace_text_plain_text m answer)
  plain_said number answer (ReadCoefficients c side) is = absurd (none_asked is)
  plain_said number answer (SendByte c) is = refl
  plain_said number answer (WriteByte c byte) is = refl
  plain_said number answer (WriteWord c word) is = refl
  plain_said number answer (PagePlusWrite p c carried) is = refl
  plain_said number answer (ReadCommand c) is = refl
  plain_said number answer (PagePlusRead p c) is = refl

  -- it teaches nothing
  nothing_taught : (number : ℕ) (taught : Taught) (answer : Option (List ℕ)) → (m : Message) → code ≡ message_code m
      → taught_by number None taught (Accepted addr m answer) ≡ taught
  nothing_taught number taught None m is = refl
  nothing_taught number taught (Some answer) (ReadCoefficients c side) is = absurd (none_asked is)
  nothing_taught number taught (Some answer) (SendByte c) is = refl
  nothing_taught number taught (Some answer) (WriteByte c byte) is = refl
  nothing_taught number taught (Some answer) (WriteWord c word) is = refl
  nothing_taught number taught (Some answer) (PagePlusWrite p c carried) is = refl
  nothing_taught number taught (Some answer) (ReadCommand c) is =
      let other : eqb c command.vout_mode ≡ false = grind (arith, nat_tests, is, no_mode) in rw other refl
  nothing_taught number taught (Some answer) (PagePlusRead p c) is =
      let other : eqb c command.vout_mode ≡ false = grind (arith, nat_tests, is, no_mode) in rw other refl

  pub usual_written : (judged : Judged) → payload_bytes payload ≡ message_payload message → judged ≡ Accepted addr message None
      → IsUsual (record { addr = addr; page = page; code = code; payload = payload; is_read = false }) judged
  unfolding trace_text_plain_text
  usual_written judged bytes is = record {
    text = λ number. ap (judged_text number) is ∙ plain_said number None message code_is
        ∙ λ i. hex_byte addr ++ (codes " " ++ (page_text (sym page_is i)
        ++ (name_of (sym code_is i) ++ payload_text (sym bytes i) None)));
    taught = λ number taught. ap (taught_by number None taught) is ∙ nothing_taught number taught None message code_is;
    counted = λ counts. ap (λ j. one_counted counts j) is ∙ ap (code_counted counts) (sym code_is);
    good = ap is_accepted is;
  }

  pub usual_answered : (judged : Judged) (answer : List ℕ) → payload_bytes payload ≡ answer
      → judged ≡ Accepted addr message (Some answer)
      → IsUsual (record { addr = addr; page = page; code = code; payload = payload; is_read = true }) judged
  unfolding trace_text_plain_text
  usual_answered judged answer bytes is = record {
    text = λ number. ap (judged_text number) is ∙ plain_said number (Some answer) message code_is
        ∙ λ i. hex_byte addr ++ (codes " " ++ (page_text (sym page_is i)
        ++ (name_of (sym code_is i) ++ payload_text [] (Some (sym bytes i)))));
    taught = λ number taught. ap (taught_by number None taught) is ∙ nothing_taught number taught (Some answer) message code_is;
    counted = λ counts. ap (λ j. one_counted counts j) is ∙ ap (code_counted counts) (sym code_is);
    good = ap is_accepted is;
  }

-- ---- its line, if no option changes what is shown

plain_parts : (values all times json pages explain parts muxes : Bool)
    → not (values || (all || (times || (json || (pages || (explain || (parts || muxes))))))) ≡ true
    → (values ≡ false) × (all ≡ false) × (times ≡ false) × (json ≡ false) × (pages ≡ false) × (explain ≡ false) × (parts ≡ false) × (muxes ≡ false)
plain_parts false false false false false false false false is = (refl, refl, refl, refl, refl, refl, refl, refl)
plain_parts true all times json pages explain parts muxes is = absurd (true≢false (sym is))
plain_parts false true times json pages explain parts muxes is = absurd (true≢false (sym is))
plain_parts false false true json pages explain parts muxes is = absurd (true≢false (sym is))
plain_parts false false false true pages explain parts muxes is = absurd (true≢false (sym is))
plain_parts false false false false true explain parts muxes is = absurd (true≢false (sym is))
plain_parts false false false false false true parts muxes is = absurd (true≢false (sym is))
plain_parts false false false false false false true muxes is = absurd (true≢false (sym is))
plain_parts false false false false false false false true is = absurd (true≢false (sym is))

-- options that change nothing are these
abbrev plain_of : TellOptions → TellOptions
plain_of options = plain_options options.formats options.long options.gap options.parts.named options.muxes.named

plain_is : (options : TellOptions) → is_plain options ≡ true → plain_of options ≡ options
plain_is options is =
    let (values, all, times, json, pages, explain, parts, muxes) = plain_parts options.values options.all options.times options.json options.pages
    options.explain options.parts.any options.muxes.any is in
    λ i. record {
      values = sym values i;
      formats = options.formats;
      all = sym all i;
      long = options.long;
      times = sym times i;
      json = sym json i;
      pages = sym pages i;
      explain = sym explain i;
      gap = options.gap;
      parts = record { named = options.parts.named; any = sym parts i };
      muxes = record { named = options.muxes.named; any = sym muxes i };
    }

pub usual_told : (options : TellOptions) (known : Known) (number : ℕ) (usual : Usual) (parts : TraceLine) → is_plain options ≡ true
    → IsUsual usual (parts_judged parts.write parts.read) → decimal number ++ (codes " " ++ (usual_text usual ++ codes "\n"))
    ≡ line_text options known (number, Told (record { time = None; parts = Ok parts }))
unfolding told_text
usual_told options known number usual parts plain is =
    let text = judged_text number (parts_judged parts.write parts.read) in
    ap (λ l. decimal number ++ (codes " " ++ (l ++ codes "\n"))) (sym (is.text number))
    ∙ ap (λ l. decimal number ++ l) (sym (append_assoc (codes " ") text (codes "\n")))
    ∙ sym (append_assoc (decimal number) (codes " " ++ text) (codes "\n"))
    ∙ sym (line_by options.formats options.long options.gap options.parts.named options.muxes.named known number (Ok parts))
    ∙ ap (λ o. line_text o known (number, Told (record { time = None; parts = Ok parts }))) (plain_is options plain)

-- a packet without a time leaves the first one
pub no_time : (first : Option ℕ) → option_or first None ≡ first
no_time None = refl
no_time (Some time) = refl

pub usual_heard : (options : TellOptions) (heard : HeardLines) (number : ℕ) (usual : Usual) (parts : TraceLine) → is_plain options ≡ true
    → IsUsual usual (parts_judged parts.write parts.read) → record heard { counts = code_counted heard.counts usual.code }
    ≡ line_heard_with options heard (number, Told (record { time = None; parts = Ok parts }))
usual_heard options heard number usual parts plain is =
    let lacks : Bool = lacks_pec Answer parts.write parts.read in
    let kept = ap (λ c. cond c heard.known.lacking (heard.known.lacking && lacks)) is.good in
    let untimed = ap (λ c. cond c heard.known.timed (first_if heard.known.timed (is_timed parts) number)) is.good in
    (λ i. record {
      known = record {
        taught = sym (is.taught number heard.known.taught) i;
        pages = heard.known.pages;
        beyond = heard.known.beyond;
        answers = heard.known.answers;
        refused = heard.known.refused;
        paging = heard.known.paging;
        lacking = sym kept i;
        timed = sym untimed i;
        first = sym (no_time heard.known.first) i;
        words = heard.known.words;
        parts = heard.known.parts;
      };
      counts = sym (is.counted heard.counts) i;
      others = heard.others;
      refused = heard.refused;
      special = heard.special;
    }) ∙ ap (λ o. line_heard_with o heard (number, Told (record { time = None; parts = Ok parts }))) (plain_is options plain)

-- a usual line by what it reads as
pub usual_told_in : (options : TellOptions) (known : Known) (number : ℕ) (usual : Usual) (line : LineReading) (packet : Packet)
    → is_plain options ≡ true → line.time ≡ None → line.packet ≡ Ok packet
    → IsUsual usual (parts_judged (packet_in packet).write (packet_in packet).read)
    → decimal number ++ (codes " " ++ (usual_text usual ++ codes "\n")) ≡ line_text options known (number, Told (reading_in_line line))
usual_told_in options known number usual line packet plain time read is =
    usual_told options known number usual (packet_in packet) plain is
    ∙ λ i. line_text options known (number, Told (record { time = sym time i; parts = parts_in (sym read i) }))

-- what was gathered, by another text that is the same
pub gathered_as : {E : Type 0} (result : Result (Unit {0}) E) (new old text other : List ℕ) → text ≡ other
    → OnOk result (new ≡ old ++ text) → OnOk result (new ≡ old ++ other)
gathered_as (Ok done) new old text other same told = told ∙ ap (λ l. old ++ l) same
gathered_as (Err fault) new old text other same told = tt

-- A good packet by which PAGE_PLUS carries a word is a usual one.

-- ---- lists by their places

five : (xs : List ℕ) → length xs ≡ 5 → xs ≡ get_or xs 0 0 ∷ get_or xs 1 0 ∷ get_or xs 2 0 ∷ get_or xs 3 0 ∷ get_or xs 4 0 ∷ []
five (a ∷ b ∷ c ∷ d ∷ e ∷ []) is = refl
five [] is = absurd (omega (arith, is))
five (a ∷ []) is = absurd (omega (arith, is))
five (a ∷ b ∷ []) is = absurd (omega (arith, is))
five (a ∷ b ∷ c ∷ []) is = absurd (omega (arith, is))
five (a ∷ b ∷ c ∷ d ∷ []) is = absurd (omega (arith, is))
five (a ∷ b ∷ c ∷ d ∷ e ∷ f ∷ xs) is = absurd (omega (arith, is))

eight : (xs : List ℕ) → length xs ≡ 8 → xs ≡ get_or xs 0 0 ∷ get_or xs 1 0 ∷ get_or xs 2 0 ∷ get_or xs 3 0 ∷ get_or xs 4 0
    ∷ get_or xs 5 0 ∷ get_or xs 6 0 ∷ get_or xs 7 0 ∷ []
eight (a ∷ b ∷ c ∷ xs) is = ap (λ l. a ∷ b ∷ c ∷ l) (five xs (omega (arith, is)))
eight [] is = absurd (omega (arith, is))
eight (a ∷ []) is = absurd (omega (arith, is))
eight (a ∷ b ∷ []) is = absurd (omega (arith, is))

-- ---- a code that has a word

-- it isn't one that has none
module _ (code : ℕ) (word : payload_length code ≡ 2) where
  not_page : code ≢ command.page
  unfolding line_of
  not_page is = let wrong : 1 ≡ 2 = subst (λ c. payload_length c ≡ 2) is word in absurd (omega (arith, wrong))

  not_write : code ≢ command.page_plus_write
  unfolding line_of
  not_write is = let wrong : 0 ≡ 2 = subst (λ c. payload_length c ≡ 2) is word in absurd (omega (arith, wrong))

  not_read : code ≢ command.page_plus_read
  unfolding line_of
  not_read is = let wrong : 0 ≡ 2 = subst (λ c. payload_length c ≡ 2) is word in absurd (omega (arith, wrong))

  not_asked : code ≢ command.coefficients
  unfolding line_of
  not_asked is = let wrong : 0 ≡ 2 = subst (λ c. payload_length c ≡ 2) is word in absurd (omega (arith, wrong))

  not_mode : code ≢ command.vout_mode
  unfolding line_of
  not_mode is = let wrong : 1 ≡ 2 = subst (λ c. payload_length c ≡ 2) is word in absurd (omega (arith, wrong))

  carried : is_carried code ≡ true
  carried =
      let no_page : eqb code command.page ≡ false = grind (arith, nat_tests, not_page) in
      let no_write : eqb code command.page_plus_write ≡ false = grind (arith, nat_tests, not_write) in
      let no_read : eqb code command.page_plus_read ≡ false = grind (arith, nat_tests, not_read) in
      let none_asked : eqb code command.coefficients ≡ false = grind (arith, nat_tests, not_asked) in
      rw (no_page, no_write, no_read, none_asked) refl

-- ---- the packets

pub carried_written : (exact : WritesAreExact) (addr word pec : ℕ) (write : List ℕ) → length write ≡ 8
    → get_or write 1 0 ≡ command.page_plus_write → get_or write 2 0 ≡ 4 → Some addr ≡ address_of (get_or write 0 0 ∷ [])
    → get_or write 0 0 ≡ write_address addr → is_written (get_or write 4 0) ≡ true → payload_length (get_or write 4 0) ≡ 2
    → pec ≡ pec_of (take 7 write) → pec ≡ get_or write 7 0 → word % 256 ≡ get_or write 5 0 → word / 256 ≡ get_or write 6 0
    → IsUsual (record {
      addr = addr;
      page = Some (get_or write 3 0);
      code = get_or write 4 0;
      payload = Word word;
      is_read = false;
    }) (parts_judged write None)
unfolding parts_judged
carried_written exact addr word pec write all own count address first writes length_is pec_is last low high =
    usual_written addr message (Some page) code (Word word) refl refl (not_mode code length_is) (not_asked code length_is)
    (parts_judged write None) refl judged
  where
    page : ℕ
    page = get_or write 3 0

    code : ℕ
    code = get_or write 4 0

    message : Message
    message = PagePlusWrite page code (Word word)

    front : take 7 write ≡ sent addr message
    front = ap (λ (l : List ℕ). take 7 l) (eight write all)
        ∙ λ i. first i ∷ own i ∷ count i ∷ page ∷ code ∷ sym low i ∷ sym high i ∷ []

    is_write : IsWrite addr message write
    is_write = record {
      writes = refl;
      fits = rw (carried code length_is, writes, length_is) refl;
      spelled = eight write all
          ∙ λ i. first i ∷ own i ∷ count i ∷ page ∷ code ∷ sym low i ∷ sym high i ∷ (sym last ∙ pec_is ∙ ap pec_of front) i ∷ [];
    }

    judged : parts_judged write None ≡ Accepted addr message None
    judged = ap (λ a. judged_at a write None) (sym address)
        ∙ λ i. write_judged addr (exact.places addr message write is_write i) (exact.spelled addr message write is_write i)

pub carried_answered : (requests : RequestsAreExact) (answers : AnswersAreExact) (addr word pec : ℕ) (write read : List ℕ)
    → length write ≡ 5 → length read ≡ 5 → get_or write 1 0 ≡ command.page_plus_read → get_or write 2 0 ≡ 2 → get_or read 1 0 ≡ 2
    → Some addr ≡ address_of (get_or write 0 0 ∷ []) → get_or write 0 0 ≡ write_address addr
    → get_or read 0 0 ≡ get_or write 0 0 + 1 → is_read (get_or write 4 0) ≡ true → payload_length (get_or write 4 0) ≡ 2
    → pec ≡ pec_of (write ++ take 4 read) → pec ≡ get_or read 4 0 → word % 256 ≡ get_or read 2 0 → word / 256 ≡ get_or read 3 0
    → IsUsual (record {
      addr = addr;
      page = Some (get_or write 3 0);
      code = get_or write 4 0;
      payload = Word word;
      is_read = true;
    }) (parts_judged write (Some read))
unfolding parts_judged
carried_answered requests answers addr word pec write read all whole own count answered_count address first back reads length_is
    pec_is last low high =
    usual_answered addr message (Some page) code (Word word) refl refl (not_mode code length_is) (not_asked code length_is)
    (parts_judged write (Some read)) payload refl judged
  where
    page : ℕ
    page = get_or write 3 0

    code : ℕ
    code = get_or write 4 0

    message : Message
    message = PagePlusRead page code

    payload : List ℕ
    payload = word % 256 ∷ word / 256 ∷ []

    request : write ≡ sent addr message
    request = five write all ∙ λ i. first i ∷ own i ∷ count i ∷ page ∷ code ∷ []

    back_is : get_or read 0 0 ≡ addr * 2 + 1
    back_is = back ∙ ap (λ n. n + 1) first

    front : take 4 read ≡ (addr * 2 + 1) ∷ 2 ∷ payload
    front = ap (λ (l : List ℕ). take 4 l) (five read whole) ∙ λ i. back_is i ∷ answered_count i ∷ sym low i ∷ sym high i ∷ []

    is_request : IsRequest addr message write
    is_request = record { reads = refl; fits = rw (carried code length_is, reads) refl; spelled = request }

    is_answer : IsAnswer addr message payload read
    is_answer = record {
      reads = refl;
      fits = rw (carried code length_is, reads) refl;
      counted = sym length_is;
      spelled = five read whole
          ∙ λ i. back_is i ∷ answered_count i ∷ sym low i ∷ sym high i
          ∷ (sym last ∙ pec_is ∙ λ j. pec_of (request j ++ front j)) i ∷ [];
    }

    judged : parts_judged write (Some read) ≡ Accepted addr message (Some payload)
    judged = ap (λ a. judged_at a write (Some read)) (sym address)
        ∙ (λ i. read_judged addr (requests.places addr message write is_request i) read
        (requests.spelled addr message write is_request i))
        ∙ (λ i. answer_judged addr message read (answers.spelled addr message payload read is_answer i))
        ∙ λ i. Accepted addr message (Some (answers.places addr message payload read is_answer i))

-- The lines of other codes, one code after another.

-- no line is written of the codes below 0, since there are none
pub no_lines : (others : List (ℕ × ℕ)) → other_lines others 0 ≡ []
unfolding other_lines
no_lines others = refl

-- with one code more, its line follows the lines of the codes below it
pub more_lines : (others : List (ℕ × ℕ)) (code : ℕ) → other_lines others (code + 1) ≡ other_lines others code ++ other_line others code
unfolding other_lines
more_lines others code = rw add-one refl

pub ruleset count_steps = (no_lines, more_lines, append_assoc, append-nil, IfOk-equal)

-- the counts as objects of JSON
pub no_objects : (others : List (ℕ × ℕ)) → other_jsons others 0 ≡ []
unfolding other_jsons
no_objects others = refl

-- with one code more, its object of JSON follows the objects of the codes below it
pub more_objects : (others : List (ℕ × ℕ)) (code : ℕ) → other_jsons others (code + 1) ≡ other_jsons others code ++ other_json others code
unfolding other_jsons
more_objects others code = rw add-one refl

pub ruleset json_steps = (no_objects, more_objects, append_assoc, append-nil, IfOk-equal)

-- The digits of the number after another one.

-- the last digit counted up, below 9
counted_last : (xs ds : List ℕ) (a : ℕ) → ds ≡ xs ++ a ∷ []
    → (length ds - 1 ≡ length xs) × (get_or ds (length xs) 0 ≡ a) × (set ds (length xs) (a + 1) ≡ xs ++ (a + 1) ∷ [])
counted_last xs ds a is = rw is (
  omega (arith, length-append xs (a ∷ [])),
  got xs,
  put xs,
)
  where
    got : (xs : List ℕ) → get_or (xs ++ a ∷ []) (length xs) 0 ≡ a
    got [] = refl
    got (x ∷ xs) = got xs

    put : (xs : List ℕ) → set (xs ++ a ∷ []) (length xs) (a + 1) ≡ xs ++ (a + 1) ∷ []
    put [] = refl
    put (x ∷ xs) = ap (λ l. x ∷ l) (put xs)

-- a number below 10 is one digit, and another has that of its front and one more
pub next_decimal : (m : ℕ) (ds : List ℕ) → m + 1 < 2 ^ 64 → ds ≡ decimal m → get_or ds (length ds - 1) 0 < 57
    → set ds (length ds - 1) (get_or ds (length ds - 1) 0 + 1) ≡ decimal (m + 1)
next_decimal m ds small is less = by (ltb m 10) refl
  where
    by : (b : Bool) → ltb m 10 ≡ b → set ds (length ds - 1) (get_or ds (length ds - 1) 0 + 1) ≡ decimal (m + 1)
    by true at =
        let few : m < 10 = grind (arith, nat_tests) in
        let one : ds ≡ (48 + m) ∷ [] = is ∙ decimal_digit m few in
        let last : 48 + m < 57 = subst (λ (l : List ℕ). get_or l (length l - 1) 0 < 57) one less in
        let number : 48 + m + 1 ≡ 48 + (m + 1) = omega arith in
        ap (λ (l : List ℕ). set l (length l - 1) (get_or l (length l - 1) 0 + 1)) one ∙ ap (λ k. k ∷ []) number
        ∙ sym (decimal_digit (m + 1) (omega (arith, last)))
    by false at =
        let many : 10 ≤ m = grind (arith, nat_tests) in
        let split : ds ≡ decimal (m / 10) ++ (48 + m % 10) ∷ [] = is ∙ decimal_step m many (omega (arith, small)) in
        let (place, got, put) = counted_last (decimal (m / 10)) ds (48 + m % 10) split in
        let last : 48 + m % 10 < 57 = subst (λ n. n < 57) got (subst (λ p. get_or ds p 0 < 57) place less) in
        let front : (m + 1) / 10 ≡ m / 10 = omega (arith, last) in
        let digit : (m + 1) % 10 ≡ m % 10 + 1 = omega (arith, last) in
        let number : 48 + m % 10 + 1 ≡ 48 + (m % 10 + 1) = omega arith in
        ap (λ p. set ds p (get_or ds p 0 + 1)) place ∙ ap (λ n. set ds (length (decimal (m / 10))) (n + 1)) got ∙ put
        ∙ ap (λ n. decimal (m / 10) ++ n ∷ []) number
        ∙ sym (decimal_step (m + 1) (omega (arith, many)) small ∙ (λ i. decimal (front i) ++ (48 + digit i) ∷ []))

-- What a packet says if its PEC may be missing.

-- a choice that is made
chosen : (b : Bool) (x y : Judged) → b ≡ true → cond b x y ≡ x
chosen true x y is = refl
chosen false x y is = absurd (true≢false (sym is))

-- a choice that isn't
left : (b : Bool) (x y : Judged) → b ≡ false → cond b x y ≡ y
left true x y is = absurd (true≢false is)
left false x y is = refl

-- a packet that lacks its PEC says what it says with it
pub completed_said : (all : Bool) (ones : Ones) (write : List ℕ) (read : Option (List ℕ)) (part : List ℕ)
    → is_without_pec all ones (record { write = write; read = read }) ≡ true → IsCompleted write read part
    → judged_with write (is_some read) part ≡ judged_by all ones (record { write = write; read = read })
completed_said false ones write read part lacks is = absurd (true≢false (sym lacks))
completed_said true ones write None part lacks is =
    ap (judged_with write false) is ∙ sym (chosen (lacks_pec ones write None) (completed_judged write None) (parts_judged write None) lacks)
completed_said true ones write (Some read) part lacks is =
    ap (judged_with write true) is
    ∙ sym (chosen (lacks_pec ones write (Some read)) (completed_judged write (Some read)) (parts_judged write (Some read)) lacks)

-- every other packet says what it says by itself
pub usual_said : (all : Bool) (ones : Ones) (write : List ℕ) (read : Option (List ℕ)) → is_without_pec all ones (record { write = write; read = read }) ≡ false
    → parts_judged write read ≡ judged_by all ones (record { write = write; read = read })
usual_said false ones write read lacks = refl
usual_said true ones write read lacks = sym (left (lacks_pec ones write read) (completed_judged write read) (parts_judged write read) lacks)

-- one that is good and has its PEC is good as it is
pub whole_good : (all : Bool) (ones : Ones) (write : List ℕ) (read : Option (List ℕ)) (judged : Judged)
    → is_without_pec all ones (record { write = write; read = read }) ≡ false
    → judged ≡ judged_by all ones (record { write = write; read = read }) → is_accepted judged ≡ true
    → is_accepted (parts_judged write read) ≡ true
whole_good all ones write read judged lacks is good = ap is_accepted (usual_said all ones write read lacks ∙ sym is) ∙ good

-- without words that changed a packet has the marks that it has
pub unchanged : (options : TellOptions) (words : Words) (marks : Marks) (parts : TraceLine) → options.explain ≡ false → marks.changed ≡ None
    → marks ≡ marks_with options words marks parts
unchanged options words marks parts plain none =
    (λ i. record marks { changed = none i })
    ∙ ap (λ e. record marks {
      changed = changed_since words (cond e (word_read words marks
          (other_address options.all marks.ones parts) (judged_by options.all marks.ones parts) parts) None);
    }) (sym plain)

-- a packet that changes no mode leaves what was taught
pub none_changed : (number : ℕ) (addr : Option ℕ) (taught : Taught) → changed_by number addr OfNone taught ≡ taught
none_changed number None taught = refl
none_changed number (Some addr) taught = refl

-- ---- a packet that is good, or of those that are shown as the command table has them

-- one that is good lacks nothing
good_lacks : (ones : Ones) (write : List ℕ) (read : Option (List ℕ)) → is_accepted (parts_judged write read) ≡ true → lacks_pec ones write read ≡ false
good_lacks ones write read good = by (parts_judged write read) good
  where
    rest : Bool
    rest = nat_lt (length (last_part write read)) 16
        && (not (is_nobody ones) && is_accepted (completed_judged write read))

    by : (judged : Judged) → is_accepted judged ≡ true → (is_short judged && rest) ≡ false
    by (Accepted addr message answer) is = refl
    by (Faulty addr is_read fault) is = absurd (true≢false (sym is))
    by BadSyntax is = absurd (true≢false (sym is))
    by TraceBadHex is = absurd (true≢false (sym is))

-- it says what it says by itself
pub good_said : (all : Bool) (ones : Ones) (write : List ℕ) (read : Option (List ℕ)) → (not all || is_accepted (parts_judged write read)) ≡ true
    → parts_judged write read ≡ judged_by all ones (record { write = write; read = read })
good_said false ones write read good = refl
good_said true ones write read good =
    sym (left (lacks_pec ones write read) (completed_judged write read) (parts_judged write read) (good_lacks ones write read good))

-- it has its PEC
pub good_whole : (all : Bool) (ones : Ones) (write : List ℕ) (read : Option (List ℕ)) → (not all || is_accepted (parts_judged write read)) ≡ true
    → false ≡ is_without_pec all ones (record { write = write; read = read })
good_whole false ones write read good = refl
good_whole true ones write read good = sym (good_lacks ones write read good)

-- it isn't shown by its code and bytes
pub good_known : (all : Bool) (ones : Ones) (write : List ℕ) (read : Option (List ℕ)) → (not all || is_accepted (parts_judged write read)) ≡ true
    → None ≡ other_address all ones (record { write = write; read = read })
good_known false ones write read good = refl
good_known true ones write read good =
    by (parts_judged write read) good ∙ ap (address_otherwise ones write read) (good_said true ones write read good)
  where
    by : (judged : Judged) → is_accepted judged ≡ true → None ≡ address_otherwise ones write read judged
    by (Accepted addr message answer) is = refl
    by (Faulty addr is_read fault) is = absurd (true≢false (sym is))
    by BadSyntax is = absurd (true≢false (sym is))
    by TraceBadHex is = absurd (true≢false (sym is))
