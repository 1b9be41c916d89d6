-- What is kept and written of a capture, line by line, piece by piece, and at its end.
use Rattle.std.specs.Fmt.{digits}
use Rattle.std.specs.Io.KnownBytes.{Appends, Consumes, IsAtEnd}
use Rattle.std.specs.List.{filter_map, enumerate_from, fold}
use Rattle.std.specs.Option.{option_or}
use Rattle.std.specs.Prelude.{slice_index, MatchResult}
use Rattle.std.proofs.lemmas.List.Sums.{fold-append}
use Rattle.std.proofs.Common.{◌≡◌, ◌+◌, ◌≤◌, Bool, false, [], ap, arith, ℕ, true, if◌then◌else◌, cond, ◌&&◌, List, ◌∷◌, ◌++◌, Option, Some}
use Rattle.std.proofs.Common.{None, Result, Ok, Err, OnOk, refl, sym, ◌∙◌, append_assoc, append-nil, ◌-◌, ◌<◌, not, length, map, filter}
use Rattle.std.proofs.Common.{take, drop, length-append, ◌↔◌, IsFalse, IsTrue, subst, ◌≢◌, IfOk, IfErr, length-drop, take-append-drop}
use Rattle.std.proofs.Common.{true≢false, inl, inr}
use Rattle.std.proofs.KnownBytes.{Appends-trans, Appends-nil, Consumes-nil, Consumes-trans}
use Rattle.std.proofs.lemmas.List.{map-append, nil_from_length, take_all, length-take}
use Rattle.std.proofs.lemmas.List.Elements.{filter_map-append, filter-append}
use Rattle.pm_lines.specs.{Lemmas.Engines.false_unless, declared.fault.TextFault.TextFault}
use Rattle.pm_lines.specs.Engine.{EngineEnds, Run}
use Rattle.pm_lines.specs.Lines.{Numbered, has_bytes, is_line_feed, lines_of, without_return}
use Rattle.pm_lines.specs.Streams.{AppendsFront, IsWholeText, max_text}
use Rattle.pm_lines.specs.declared.fault.TextFault.TheVariants.{Read, Syntax, BadHex as TextFaultBadHex, TooLong, Write, Memory, Setup}
use Rattle.pm_trace.specs.{Lemmas.Counts.total_one_more, OpenLines.IsAtLineFeed, TraceText.IsOfDecode, Written.Puts}
use Rattle.pm_trace.specs.{declared.decode_end.DecodeEnd.TheVariants.Clean, declared.line_fault.LineFault.LineFault}
use Rattle.pm_trace.specs.{declared.pages.PageUse.TheVariants.Beside, declared.trace_line.TraceLine.TraceLine}
use Rattle.pm_trace.specs.Counts.{counts_of, counted, counts_with, lines_in, one_counted, one_more, total_of}
use Rattle.pm_trace.specs.Lemmas.Marks.{ended-mark, ended-other, since-mark, since-other}
use Rattle.pm_trace.specs.Lemmas.Runs.{taken-unmarked, told-append, told-unmarked}
use Rattle.pm_trace.specs.Lemmas.Said.{counts_of-snoc, enumerate_from-snoc, length-map, length-snoc, lines_of_at_end}
use Rattle.pm_trace.specs.Marks.{ended_pieces, since}
use Rattle.pm_trace.specs.Pages.{Pages, nowhere, pages_by}
use Rattle.pm_trace.specs.Trace.{Judged, ToldLine, Accepted, Faulty, BadSyntax, BadHex}
use Rattle.pm_trace.specs.{Otherwise.is_refused, declared.answers.Ones.Ones}
use Rattle.pm_decode.specs.{Options.notes_comments, declared.comment.Note.Note, declared.options.TellOptions.TellOptions}
use Rattle.pm_decode.specs.{declared.page_steps.Marks.Marks, declared.page_steps.PageStep.PageStep}
use Rattle.pm_decode.specs.{declared.special.Special.Special, declared.timed_line.TimedLine.TimedLine}
use Rattle.pm_decode.specs.Lemmas.TimedLines.{timed_of-snoc, timed_passes, timed_says}
use Rattle.pm_decode.specs.PageSteps.{is_lost, is_received, judged_address, marks_by, marks_in, page_step_by, step_for, used_by}
use Rattle.pm_decode.specs.Readings.{Entry, Reading, Told, Noted, is_without_pec, judged_as, judged_by, other_address, entries_of}
use Rattle.pm_decode.specs.Readings.{entry_of, is_heard, is_passed, said_of_line}
use Rattle.pm_decode.specs.TimedLines.{timed_of, head_note, passes_timed, timed_said, PassesTimed, timed_takes}
use Rattle.pm_decode.specs.JsonText.{key, number_field}
use Rattle.pm_decode.specs.{Outcome.telling_engine, declared.telling.TellEnd.TellEnd}
use Rattle.pm_decode.specs.CaptureText.{aside_line, line_text, lines_text, read_line, told_line, capture_text, counts_text, empty_by, json_counts, other_lines}
use Rattle.pm_decode.specs.CaptureText.{plain_counts, totals_line, capture_end}
use Rattle.pm_decode.specs.Capturing.{IsBounded, Kept, entry_ended, heard_ended, capture_at_end, kept_of, capture_takes, capture_line_ended}
use Rattle.pm_decode.specs.Capturing.{capture_with_bytes, said_in_capture}
use Rattle.pm_decode.specs.Capturing.{said_text, text_ended, told_of_capture, told_at_capture_end, most_bytes}
use Rattle.pm_decode.specs.Hearing.{HeardLines, heard_lines, unheard, Heard, Known, answers_read, asides, heard_all, heard_as, heard_aside, heard_in_lines, heard_told, line_heard_with}
use Rattle.pm_decode.specs.Hearing.{is_aside, known_by, known_from, known_told, more_aside, more_if, more_refused, ones_in, part_seen, refusals, other_code, other_code_in, special_in}
use Rattle.pm_decode.specs.Hearing.{marks_with, time_since, taught_read, told_in, told_unless, unknown, told_end, words_told}
use Rattle.pm_decode.specs.Hints.{beyond_by, lacking_by, paging_by, timed_by}
use Rattle.pm_decode.specs.JsonCounts.{other_jsons, totals_json}
use Rattle.pm_decode.specs.LongEngine.{IsWhole, LongEnds}
use Rattle.pm_decode.specs.WrittenCaptures.{Gathered, Hears, StopsBytes, StopsHearing, WrittenCapture}

-- How many lines were heard and ended, at the beginning and as a line ends.

-- a line without a byte isn't begun
unbegun : (line : TimedLine) (times : Bool) → line ≡ timed_of times [] → line.is_begun ≡ false
unfolding timed_of
unbegun line times is = ap (λ l. l.is_begun) is

-- no line was heard yet
none_heard : (heard : HeardLines) → heard ≡ unheard → heard_lines heard ≡ 0
unfolding counts_of
none_heard heard is = ap heard_lines is

-- a capture of which no byte was taken and no line heard keeps the bounds of its counts
pub bounded_none : (options : TellOptions) (heard : HeardLines) (line : TimedLine) (times : Bool) → heard ≡ unheard
    → line ≡ timed_of times []
    → IsBounded (record { options = options; taken = 0; ended = 0; heard = heard; line = line })
bounded_none options heard line times none fresh =
    let few = none_heard heard none in
    let none_there : line.is_begun ≡ false = unbegun line times fresh in
    record { heard = omega (arith, few); ended = rw none_there (omega arith); taken = omega arith }

-- a capture keeps the bounds of its counts as a line ends of which a byte was taken, and at most one more is heard
pub bounded_ended : (old : Kept) (heard : HeardLines) (line : TimedLine) (times : Bool) → IsBounded old
    → line ≡ timed_of times [] → heard_lines heard ≤ heard_lines old.heard + 1 → old.ended + 1 ≤ old.taken
    → IsBounded (record old { ended = old.ended + 1; heard = heard; line = line })
bounded_ended old heard line times bounded fresh few room =
    let none_there : line.is_begun ≡ false = unbegun line times fresh in
    record {
      heard = omega (arith, few, bounded.heard);
      ended = rw none_there (omega (arith, room));
      taken = bounded.taken;
    }

-- What is known, and what is written, after one line more.

-- what the answers of one line more are taken for
heard_all-snoc : (options : TellOptions) (known : Known) (entries : List Entry) (entry : Entry)
    → heard_all options known (entries ++ entry ∷ [])
    ≡ heard_all options known entries ++ heard_as options (known_from options known entries) entry ∷ []
heard_all-snoc options known [] entry = refl
heard_all-snoc options known (first ∷ entries) entry =
    ap (λ l. heard_as options known first ∷ l) (heard_all-snoc options (known_by options known first) entries entry)

-- how many were refused
refusals-snoc : (lines : List Heard) (last : Heard) → refusals (lines ++ last ∷ []) ≡ more_refused last.0 (refusals lines)
refusals-snoc [] last = refl
refusals-snoc (first ∷ lines) last = ap (more_refused first.0) (refusals-snoc lines last)
    ∙ by (is_refused first.0) (is_refused last.0)
  where
    by : (one other : Bool) → cond one (cond other (refusals lines + 1) (refusals lines) + 1) (cond other (refusals lines + 1) (refusals lines))
        ≡ cond other (cond one (refusals lines + 1) (refusals lines) + 1) (cond one (refusals lines + 1) (refusals lines))
    by true true = refl
    by true false = refl
    by false true = refl
    by false false = refl

-- how many were set aside
asides-snoc : (lines : List Heard) (last : Heard) → asides (lines ++ last ∷ []) ≡ more_aside last (asides lines)
asides-snoc [] last = refl
asides-snoc (first ∷ lines) last = ap (more_aside first) (asides-snoc lines last)
    ∙ by (is_aside first.1.1 && not (is_refused first.0)) (is_aside last.1.1 && not (is_refused last.0))
  where
    by : (one other : Bool) → cond one (cond other (asides lines + 1) (asides lines) + 1) (cond other (asides lines + 1) (asides lines))
        ≡ cond other (cond one (asides lines + 1) (asides lines) + 1) (cond one (asides lines + 1) (asides lines))
    by true true = refl
    by true false = refl
    by false true = refl
    by false false = refl

-- one line more is heard
pub heard_of-snoc : (options : TellOptions) (entries : List Entry) (entry : Entry)
    → heard_in_lines options (entries ++ entry ∷ []) ≡ line_heard_with options (heard_in_lines options entries) entry
unfolding heard_in_lines
heard_of-snoc options entries entry = λ i. record {
  known = fold-append (known_by options) unknown entries (entry ∷ []) i;
  counts = (ap (λ l. counts_of (filter_map (told_in options.all) l)) (heard_all-snoc options unknown entries entry)
      ∙ counts (told_in options.all last) refl) i;
  others = (ap (λ l. counted (filter_map (other_code options.all) l)) (heard_all-snoc options unknown entries entry)
      ∙ others (other_code options.all last) refl) i;
  refused = (ap refusals (heard_all-snoc options unknown entries entry) ∙ refusals-snoc before last) i;
  special = (ap asides (heard_all-snoc options unknown entries entry) ∙ asides-snoc before last) i;
}
  where
    before : List Heard
    before = heard_all options unknown entries

    last : Heard
    last = heard_as options (known_from options unknown entries) entry

    lines : List ToldLine
    lines = filter_map (told_in options.all) before

    codes_before : List ℕ
    codes_before = filter_map (other_code options.all) before

    counts : (told : Option ToldLine) → told_in options.all last ≡ told
        → counts_of (filter_map (told_in options.all) (before ++ last ∷ [])) ≡ counts_with (counts_of lines) told
    counts None is =
        let same : filter_map (told_in options.all) (before ++ last ∷ []) ≡ lines ++ [] =
        filter_map-append (told_in options.all) before (last ∷ []) ∙ rw is refl in
        ap counts_of (same ∙ append-nil lines)
    counts (Some told) is =
        let same : filter_map (told_in options.all) (before ++ last ∷ []) ≡ lines ++ told ∷ [] =
        filter_map-append (told_in options.all) before (last ∷ []) ∙ rw is refl in
        ap counts_of same ∙ counts_of-snoc lines told

    others : (other : Option ℕ) → other_code options.all last ≡ other
        → counted (filter_map (other_code options.all) (before ++ last ∷ [])) ≡ more_if (counted codes_before) other
    others None is =
        let same : filter_map (other_code options.all) (before ++ last ∷ []) ≡ codes_before ++ [] =
        filter_map-append (other_code options.all) before (last ∷ []) ∙ rw is refl in
        ap counted (same ∙ append-nil codes_before)
    others (Some code) is =
        let same : filter_map (other_code options.all) (before ++ last ∷ []) ≡ codes_before ++ code ∷ [] =
        filter_map-append (other_code options.all) before (last ∷ []) ∙ rw is refl in
        ap counted same ∙ fold-append one_more [] codes_before (code ∷ [])

-- a line that is shown is one more that is counted
pub heard_one : (options : TellOptions) (heard : HeardLines) (number : ℕ) (reading : Reading)
    → heard_lines (heard_told options number reading heard) ≡ heard_lines heard + 1
heard_one options heard number reading =
    by (is_refused ones) (other_code_in options.all ones reading.parts) (judged_as options.all ones reading.parts) refl refl
  where
    ones : Ones
    ones = ones_in options heard.known reading.parts

    one : (judged : Judged) → lines_in (one_counted heard.counts judged) ≡ lines_in heard.counts + 1
    one (Accepted addr message answer) = omega arith
    one (Faulty addr read fault) = omega arith
    one BadSyntax = omega arith
    one BadHex = omega arith

    none : (parts : Result TraceLine LineFault) → is_refused ones ≡ true → other_code_in options.all ones parts ≡ None
    none (Ok parts) is = rw is refl
    none (Err fault) is = refl

    by : (refused : Bool) (other : Option ℕ) (judged : Judged) → is_refused ones ≡ refused
        → other_code_in options.all ones reading.parts ≡ other
        → lines_in (counts_with heard.counts (cond refused None (told_unless other (number, judged)))) + total_of (more_if heard.others other)
        + cond refused (heard.refused + 1) heard.refused + heard.special ≡ heard_lines heard + 1
    by true None judged is other_is = omega arith
    by true (Some code) judged is other_is = absurd (cc (none reading.parts is, other_is))
    by false None judged is other_is = let more = one judged in omega (arith, more)
    by false (Some code) judged is other_is = omega (arith, total_one_more heard.others code)

-- a line that is set aside is one more, too
pub aside_one : (options : TellOptions) (number : ℕ) (time : Option ℕ) (special : Special) (ones : Ones) (parts : Result TraceLine LineFault) (heard : HeardLines)
    → heard_lines (heard_aside options number time special ones parts heard) ≡ heard_lines heard + 1
aside_one options number time special ones parts heard = by (is_refused ones)
  where
    by : (refused : Bool) → lines_in heard.counts + total_of heard.others + cond refused (heard.refused + 1) heard.refused
        + cond (not refused) (heard.special + 1) heard.special ≡ heard_lines heard + 1
    by true = omega arith
    by false = omega arith

module _ (options : TellOptions) (heard : HeardLines) (number : ℕ) (time : Option ℕ) (parts : TraceLine) where
  -- a line is shown as a packet to a part if its address is none that is kept for something else
  pub seen_told : None ≡ special_in options heard.known (Ok parts)
      → heard_told options number (record { time = time; parts = Ok parts })
      (record heard { known = part_seen options (Ok parts) heard.known })
      ≡ line_heard_with options heard (number, Told (record { time = time; parts = Ok parts }))
  seen_told none = rw (sym none) refl

  pub line_told : (known : Known) → None ≡ special_in options known (Ok parts)
      → read_line options (part_seen options (Ok parts) known) number time (Ok parts)
      ≡ line_text options known (number, Told (record { time = time; parts = Ok parts }))
  line_told known none = rw (sym none) refl

  -- otherwise it is set aside
  pub seen_aside : (special : Special) → Some special ≡ special_in options heard.known (Ok parts)
      → heard_aside options number time special (ones_in options heard.known (Ok parts)) (Ok parts) heard
      ≡ line_heard_with options heard (number, Told (record { time = time; parts = Ok parts }))
  seen_aside special is = rw (sym is) refl

  pub line_aside : (special : Special) → Some special ≡ special_in options heard.known (Ok parts)
      → aside_line options.json special (ones_in options heard.known (Ok parts)) number (time_since heard.known.first time) (Ok parts)
      ≡ line_text options heard.known (number, Told (record { time = time; parts = Ok parts }))
  line_aside special is = rw (sym is) refl

-- a comment is heard by what it says, if comments are noted
pub comment_heard : (options : TellOptions) (heard : HeardLines) (number : ℕ) (line : TimedLine)
    → (notes_comments options && line.has_mark) ≡ true → line_heard_with options heard (number, Noted (head_note line.head))
    ≡ cond (passes_timed (notes_comments options) line) heard
    (line_heard_with options heard (number, timed_said (notes_comments options) line))
comment_heard options heard number line noted = rw noted refl

-- the text of two lists of lines is that of the first, and that of the second by what is known after the first
pub lines_text-append : (options : TellOptions) (known : Known) (xs ys : List Entry)
    → lines_text options known (xs ++ ys) ≡ lines_text options known xs ++ lines_text options (known_from options known xs) ys
lines_text-append options known [] ys = refl
lines_text-append options known (x ∷ xs) ys =
    ap (λ l. line_text options known x ++ l) (lines_text-append options (known_by options known x) xs ys)
    ∙ sym (append_assoc (line_text options known x) (lines_text options (known_by options known x) xs)
    (lines_text options (known_from options (known_by options known x) xs) ys))

-- what is known after a packet if PAGE is followed, by its place and its marks
module _ (options : TellOptions) (number : ℕ) (time : Option ℕ) (parts : TraceLine) (known : Known) where
  pub known_on_page : (lost : Bool) (ones : Ones) (lacks : Bool) (judged : Judged) (other : Option ℕ) (step : PageStep) (marks : Marks)
      → options.pages ≡ true
      → lost ≡ is_lost known.answers ones parts
      → ones ≡ ones_in options known (Ok parts)
      → judged ≡ judged_by options.all ones parts
      → other ≡ other_address options.all ones parts
      → lacks ≡ is_without_pec options.all ones parts
      → step ≡ page_step_by options.gap time known.pages lost ones parts judged other
      → marks ≡ marks_by ones lacks (Some step)
      → record {
        taught = taught_read options number marks (Ok parts) known.taught;
        pages = pages_by number step.addr step.place step.used known.pages;
        beyond = beyond_by options known.taught marks.reached number judged known.beyond;
        answers = answers_read options marks.ones (Ok parts) known.answers;
        refused = if notes_comments options then None else known.refused;
        paging = paging_by options number judged known.paging;
        lacking = lacking_by options.all parts known.lacking;
        timed = timed_by options number parts known.timed;
        first = option_or known.first time;
        words = words_told options number marks parts known.words;
        parts = known.parts;
      } ≡ known_told options number time ones (Ok parts) known
  known_on_page lost ones lacks judged other step marks pages lost_is ones_is judged_is other_is lacks_is step_is marks_is =
      rw (marks_is, step_is, lost_is, other_is, judged_is, pages) refl

  pub marks_on_page : (lost : Bool) (ones : Ones) (lacks : Bool) (judged : Judged) (other : Option ℕ) (step : PageStep) (marks : Marks)
      → options.pages ≡ true
      → lost ≡ is_lost known.answers ones parts
      → ones ≡ ones_in options known (Ok parts)
      → judged ≡ judged_by options.all ones parts
      → other ≡ other_address options.all ones parts
      → lacks ≡ is_without_pec options.all ones parts
      → step ≡ page_step_by options.gap time known.pages lost ones parts judged other
      → marks ≡ marks_by ones lacks (Some step)
      → marks ≡ marks_in options known.pages known.answers (ones_in options known (Ok parts)) time (Ok parts)
  marks_on_page lost ones lacks judged other step marks pages lost_is ones_is judged_is other_is lacks_is step_is marks_is =
      rw (marks_is, step_is, lost_is, lacks_is, other_is, judged_is, ones_is, pages) refl

-- what a comment says is shown by that
comment_told : (options : TellOptions) (known : Known) (number : ℕ) (line : TimedLine)
    → (notes_comments options && line.has_mark) ≡ true → line_text options known (number, Noted (head_note line.head))
    ≡ cond (passes_timed (notes_comments options) line) [] (line_text options known (number, timed_said (notes_comments options) line))
comment_told options known number line noted = rw noted refl

-- what follows from a good end, of that end
pub on_good : {T E P Q : Type 0} (result : Result T E) → (P → Q) → OnOk result P → OnOk result Q
on_good (Ok value) follows good = follows good
on_good (Err fault) follows good = tt

-- a comment was heard, if comments are noted
pub comment_noted : {E : Type 0} (result : Result (Unit {0}) E) (options : TellOptions) (heard new : HeardLines) (number : ℕ)
    (line : TimedLine) (note : Note) → (notes_comments options && line.has_mark) ≡ true → note ≡ head_note line.head
    → OnOk result (new ≡ line_heard_with options heard (number, Noted note))
    → OnOk result (new
    ≡ cond (passes_timed (notes_comments options) line) heard
    (line_heard_with options heard (number, timed_said (notes_comments options) line)))
comment_noted (Ok done) options heard new number line note noted is heard_is = heard_is
    ∙ ap (λ r. line_heard_with options heard (number, Noted r)) is ∙ comment_heard options heard number line noted
comment_noted (Err fault) options heard new number line note noted is heard_is = tt

pub comment_gathered : {E : Type 0} (result : Result (Unit {0}) E) (options : TellOptions) (known : Known) (old new : List ℕ) (number : ℕ)
    (line : TimedLine) (note : Note) → (notes_comments options && line.has_mark) ≡ true → note ≡ head_note line.head
    → OnOk result (new ≡ old ++ line_text options known (number, Noted note))
    → OnOk result (new ≡ old
    ++ cond (passes_timed (notes_comments options) line) [] (line_text options known (number, timed_said (notes_comments options) line)))
comment_gathered (Ok done) options known old new number line note noted is told_is = told_is
    ∙ ap (λ r. old ++ line_text options known (number, Noted r)) is ∙ ap (λ l. old ++ l) (comment_told options known number line noted)
comment_gathered (Err fault) options known old new number line note noted is told_is = tt

-- a packet was shown on its page, and what it says of PAGE was learned: what is known then, and the text
module _ (options : TellOptions) (number : ℕ) (time : Option ℕ) (parts : TraceLine) (self : Known) (lost : Bool) (ones : Ones) (lacks : Bool)
    (judged : Judged) (other : Option ℕ) (step : PageStep) (marks : Marks) where
  pub page_learned : {E : Type 0} (result : Result (Unit {0}) E) (told : Known) (pages : Pages)
      → options.pages ≡ true
      → lost ≡ is_lost self.answers ones parts
      → ones ≡ ones_in options self (Ok parts)
      → judged ≡ judged_by options.all ones parts
      → other ≡ other_address options.all ones parts
      → lacks ≡ is_without_pec options.all ones parts
      → step ≡ page_step_by options.gap time self.pages lost ones parts judged other
      → marks ≡ marks_by ones lacks (Some step)
      → told ≡ record self {
        taught = taught_read options number marks (Ok parts) self.taught;
        beyond = beyond_by options self.taught marks.reached number judged self.beyond;
        answers = answers_read options marks.ones (Ok parts) self.answers;
        refused = if notes_comments options then None else self.refused;
        paging = paging_by options number judged self.paging;
        lacking = lacking_by options.all parts self.lacking;
        timed = timed_by options number parts self.timed;
        first = option_or self.first time;
        words = words_told options number marks parts self.words;
      }
      → OnOk result (pages ≡ pages_by number step.addr step.place step.used told.pages)
      → OnOk result (record told { pages = pages } ≡ known_told options number time ones (Ok parts) self)
  page_learned (Ok done) told pages follows lost_is ones_is judged_is other_is lacks_is step_is marks_is told_is learned =
      (λ i. record {
        taught = (told_is i).taught;
        pages = (learned ∙ ap (λ (k : Known). pages_by number step.addr step.place step.used k.pages) told_is) i;
        beyond = (told_is i).beyond;
        answers = (told_is i).answers;
        refused = (told_is i).refused;
        paging = (told_is i).paging;
        lacking = (told_is i).lacking;
        timed = (told_is i).timed;
        first = (told_is i).first;
        words = (told_is i).words;
        parts = (told_is i).parts;
      })
      ∙ known_on_page options number time parts self lost ones lacks judged other step marks follows lost_is ones_is judged_is other_is
      lacks_is step_is marks_is
  page_learned (Err fault) told pages follows lost_is ones_is judged_is other_is lacks_is step_is marks_is told_is learned = tt

  pub page_told : {E : Type 0} (result : Result (Unit {0}) E) (before after : List ℕ)
      → options.pages ≡ true
      → lost ≡ is_lost self.answers ones parts
      → ones ≡ ones_in options self (Ok parts)
      → judged ≡ judged_by options.all ones parts
      → other ≡ other_address options.all ones parts
      → lacks ≡ is_without_pec options.all ones parts
      → step ≡ page_step_by options.gap time self.pages lost ones parts judged other
      → marks ≡ marks_by ones lacks (Some step)
      → after ≡ before ++ told_line options self.taught (marks_with options self.words marks parts) number (time_since self.first time) (Ok parts)
      → OnOk result (after
      ≡ before ++ read_line options self number time (Ok parts))
  page_told (Ok done) before after follows lost_is ones_is judged_is other_is lacks_is step_is marks_is text_is = text_is
      ∙ ap (λ (m : Marks). before ++ told_line options self.taught (marks_with options self.words m parts) number (time_since self.first time) (Ok parts))
      (marks_on_page options number time parts self lost ones lacks judged other step marks follows lost_is ones_is judged_is other_is
      lacks_is step_is marks_is)
  page_told (Err fault) before after follows lost_is ones_is judged_is other_is lacks_is step_is marks_is text_is = tt

-- what is known of the page of a packet that says nothing of PAGE and has no time
abbrev pub beside_step : Judged → PageStep
beside_step judged = record { addr = judged_address judged; place = nowhere; used = Beside; phase = None }

-- such a packet leaves what is known of pages, whatever its address is
pub beside_pages : (number : ℕ) (addr : Option ℕ) (pages : Pages)
    → pages_by number None nowhere Beside pages ≡ pages_by number addr nowhere Beside pages
beside_pages number None pages = refl
beside_pages number (Some addr) pages = refl

pub beside_is : (gap : ℕ) (time : Option ℕ) (pages : Pages) (lost : Bool) (ones : Ones) (parts : TraceLine) (judged : Judged) (other : Option ℕ)
    → time ≡ None → used_by lost ones parts judged other ≡ Beside
    → beside_step judged ≡ page_step_by gap time pages lost ones parts judged other
beside_is gap time pages lost ones parts judged other time_is used_is =
    sym (λ i. step_for gap (time_is i) pages (judged_address judged) (slice_index parts.write 1) (is_received ones parts) (used_is i))

pub beside_learned : {E : Type 0} (result : Result (Unit {0}) E) (number : ℕ) (judged : Judged) (told new : Pages)
    → OnOk result (new ≡ pages_by number None nowhere Beside told)
    → OnOk result (new ≡ pages_by number (beside_step judged).addr (beside_step judged).place (beside_step judged).used told)
beside_learned (Ok done) number judged told new is = is ∙ beside_pages number (judged_address judged) told
beside_learned (Err fault) number judged told new is = tt

-- What is kept and written of a capture with further bytes, and at its end.

-- ---- the lines

-- what lines say of which something is heard
abbrev pub lines_said : TellOptions → List (List ℕ) → List Entry
lines_said options lines = map (entry_of options) (filter (is_heard (notes_comments options)) (enumerate_from 1 lines))

-- one line more
abbrev pub entry_if : Bool → Entry → List Entry
entry_if passed entry = cond passed [] (entry ∷ [])

-- a line at the end of others is said after what they say, with its number, if something is heard of it
lines_said-snoc : (options : TellOptions) (lines : List (List ℕ)) (line : List ℕ) → lines_said options (lines ++ line ∷ [])
    ≡ lines_said options lines ++ entry_if (is_passed (notes_comments options) line) (1 + length lines, said_of_line options line)
lines_said-snoc options lines line =
    ap (λ l. map (entry_of options) (filter heard l)) (enumerate_from-snoc 1 lines line)
    ∙ ap (map (entry_of options)) (filter-append heard (enumerate_from 1 lines) ((1 + length lines, line) ∷ []))
    ∙ map-append (entry_of options) (filter heard (enumerate_from 1 lines)) (filter heard ((1 + length lines, line) ∷ []))
    ∙ ap (λ l. lines_said options lines ++ l) (by (is_passed (notes_comments options) line))
  where
    heard : Numbered → Bool
    heard = is_heard (notes_comments options)

    by : (c : Bool) → map (entry_of options) (cond (not c) ((1 + length lines, line) ∷ []) [])
        ≡ entry_if c (1 + length lines, said_of_line options line)
    by true = refl
    by false = refl

-- the line that goes on, as if it ended here
pub ended_entries : TellOptions → List ℕ → List Entry
ended_entries options bytes =
    entry_if (passes_timed (notes_comments (kept_of options bytes).options) (kept_of options bytes).line) (entry_ended (kept_of options bytes))

-- the bytes since the last line feed say, as a line, what the line that goes on says if it ends here
ended_here : (options : TellOptions) (bytes : List ℕ)
    → entry_if (is_passed (notes_comments options) (without_return (since is_line_feed bytes)))
    (1 + length (map without_return (ended_pieces is_line_feed bytes)), said_of_line options (without_return (since is_line_feed bytes)))
    ≡ ended_entries options bytes
unfolding kept_of ended_entries
ended_here options bytes =
    by (is_passed (notes_comments options) (without_return (since is_line_feed bytes))) refl
    ∙ ap (λ c. entry_if c (entry_ended (kept_of options bytes))) (sym (timed_passes options (since is_line_feed bytes)))
  where
    count : 1 + length (map without_return (ended_pieces is_line_feed bytes)) ≡ length (ended_pieces is_line_feed bytes) + 1
    count = let mapped = length-map (ended_pieces is_line_feed bytes) in omega arith

    by : (c : Bool) → is_passed (notes_comments options) (without_return (since is_line_feed bytes)) ≡ c
        → entry_if c (1 + length (map without_return (ended_pieces is_line_feed bytes)), said_of_line options (without_return (since is_line_feed bytes)))
        ≡ entry_if c (entry_ended (kept_of options bytes))
    by true is = refl
    by false is = λ i. (count i, sym (timed_says options (since is_line_feed bytes) is) i) ∷ []

-- what is said with a line feed more
said-mark : (options : TellOptions) (bytes : List ℕ) (b : ℕ) → is_line_feed b ≡ true
    → said_in_capture options (bytes ++ b ∷ []) ≡ said_in_capture options bytes ++ ended_entries options bytes
unfolding said_in_capture
said-mark options bytes b is =
    ap (λ l. lines_said options (map without_return l)) (ended-mark is_line_feed bytes b is)
    ∙ ap (lines_said options) (map-append without_return (ended_pieces is_line_feed bytes) (since is_line_feed bytes ∷ []))
    ∙ lines_said-snoc options (map without_return (ended_pieces is_line_feed bytes)) (without_return (since is_line_feed bytes))
    ∙ ap (λ l. lines_said options (map without_return (ended_pieces is_line_feed bytes)) ++ l) (ended_here options bytes)

-- what is said stays the same with a byte more that is no line feed
said-other : (options : TellOptions) (bytes : List ℕ) (b : ℕ) → is_line_feed b ≡ false
    → said_in_capture options (bytes ++ b ∷ []) ≡ said_in_capture options bytes
unfolding said_in_capture
said-other options bytes b other = ap (λ l. lines_said options (map without_return l)) (ended-other is_line_feed bytes b other)

-- ---- what is kept

-- what was heard so far
heard_now : (options : TellOptions) (bytes : List ℕ) → (kept_of options bytes).heard
    ≡ heard_in_lines options (said_in_capture options bytes)
unfolding kept_of
heard_now options bytes = refl

-- what is heard if the line that goes on ends here
heard_more : (options : TellOptions) (bytes : List ℕ)
    → heard_in_lines options (said_in_capture options bytes ++ ended_entries options bytes) ≡ heard_ended (kept_of options bytes)
unfolding ended_entries kept_of
heard_more options bytes = by (passes_timed (notes_comments options) (kept_of options bytes).line)
  where
    entry : Entry
    entry = entry_ended (kept_of options bytes)

    by : (c : Bool) → heard_in_lines options (said_in_capture options bytes ++ entry_if c entry)
        ≡ cond c (heard_in_lines options (said_in_capture options bytes))
        (line_heard_with options (heard_in_lines options (said_in_capture options bytes)) entry)
    by true = ap (heard_in_lines options) (append-nil (said_in_capture options bytes))
    by false = heard_of-snoc options (said_in_capture options bytes) entry

-- the text of a line that ends is the one that is written of it
text_here : (options : TellOptions) (bytes : List ℕ)
    → lines_text options (known_from options unknown (said_in_capture options bytes)) (ended_entries options bytes)
    ≡ text_ended (kept_of options bytes)
unfolding ended_entries kept_of heard_in_lines
text_here options bytes = by (passes_timed (notes_comments options) (kept_of options bytes).line)
  where
    by : (c : Bool) → lines_text options (known_from options unknown (said_in_capture options bytes))
        (entry_if c (entry_ended (kept_of options bytes)))
        ≡ cond c [] (line_text options (known_from options unknown (said_in_capture options bytes))
        (entry_ended (kept_of options bytes)))
    by true = refl
    by false = append-nil (line_text options (known_from options unknown (said_in_capture options bytes))
        (entry_ended (kept_of options bytes)))

-- the text of the line that goes on, if it ends here, is written after that of the lines that ended
text_more : (options : TellOptions) (bytes : List ℕ)
    → lines_text options unknown (said_in_capture options bytes ++ ended_entries options bytes)
    ≡ said_text options bytes ++ text_ended (kept_of options bytes)
text_more options bytes =
    lines_text-append options unknown (said_in_capture options bytes) (ended_entries options bytes)
    ∙ ap (λ l. said_text options bytes ++ l) (text_here options bytes)

-- what is kept with a line feed more
kept_of-mark : (options : TellOptions) (bytes : List ℕ) (b : ℕ) → is_line_feed b ≡ true
    → kept_of options (bytes ++ b ∷ []) ≡ record (capture_line_ended (kept_of options bytes)) { taken = length bytes + 1 }
unfolding kept_of timed_of
kept_of-mark options bytes b is = λ i. record {
  options = options;
  taken = length-snoc bytes b i;
  ended =
      (ap length (ended-mark is_line_feed bytes b is) ∙ length-append (ended_pieces is_line_feed bytes) (since is_line_feed bytes ∷ [])) i;
  heard = (ap (heard_in_lines options) (said-mark options bytes b is) ∙ heard_more options bytes) i;
  line = timed_of options.times (since-mark is_line_feed bytes b is i);
}

-- what is kept with another byte more
kept_of-other : (options : TellOptions) (bytes : List ℕ) (b : ℕ) → is_line_feed b ≡ false
    → kept_of options (bytes ++ b ∷ [])
    ≡ record (kept_of options bytes) { taken = length bytes + 1; line = timed_takes (timed_of options.times (since is_line_feed bytes)) b }
unfolding kept_of
kept_of-other options bytes b other = λ i. record {
  options = options;
  taken = length-snoc bytes b i;
  ended = length (ended-other is_line_feed bytes b other i);
  heard = heard_in_lines options (said-other options bytes b other i);
  line = (ap (timed_of options.times) (since-other is_line_feed bytes b other) ∙ timed_of-snoc options.times (since is_line_feed bytes) b)
      i;
}

-- what is kept with one byte more
kept_of-snoc : (options : TellOptions) (bytes : List ℕ) (b : ℕ) → kept_of options (bytes ++ b ∷ [])
    ≡ capture_takes (kept_of options bytes) b
unfolding capture_takes kept_of
kept_of-snoc options bytes b = by (is_line_feed b) refl
  where
    by : (c : Bool) → is_line_feed b ≡ c → kept_of options (bytes ++ b ∷ [])
        ≡ cond c (record (capture_line_ended (kept_of options bytes)) { taken = length bytes + 1 })
        (record (kept_of options bytes)
        { taken = length bytes + 1; line = timed_takes (timed_of options.times (since is_line_feed bytes)) b })
    by true is = kept_of-mark options bytes b is
    by false other = kept_of-other options bytes b other

-- what is written with one byte more
said_text-snoc : (options : TellOptions) (bytes : List ℕ) (b : ℕ)
    → said_text options (bytes ++ b ∷ []) ≡ said_text options bytes ++ cond (is_line_feed b) (text_ended (kept_of options bytes)) []
said_text-snoc options bytes b = by (is_line_feed b) refl
  where
    by : (c : Bool) → is_line_feed b ≡ c
        → said_text options (bytes ++ b ∷ []) ≡ said_text options bytes ++ cond c (text_ended (kept_of options bytes)) []
    by true is = ap (lines_text options unknown) (said-mark options bytes b is) ∙ text_more options bytes
    by false other = ap (lines_text options unknown) (said-other options bytes b other) ∙ sym (append-nil (said_text options bytes))

-- ---- further bytes

-- what is kept with further bytes
pub kept_of-append : (options : TellOptions) (bytes piece : List ℕ) → kept_of options (bytes ++ piece)
    ≡ capture_with_bytes (kept_of options bytes) piece
kept_of-append options bytes [] = ap (kept_of options) (append-nil bytes)
kept_of-append options bytes (b ∷ piece) =
    ap (kept_of options) (sym (append_assoc bytes (b ∷ []) piece)) ∙ kept_of-append options (bytes ++ b ∷ []) piece
    ∙ ap (λ k. capture_with_bytes k piece) (kept_of-snoc options bytes b)

-- what is written of further bytes
pub said_text-append : (options : TellOptions) (bytes piece : List ℕ)
    → said_text options (bytes ++ piece) ≡ said_text options bytes ++ told_of_capture (kept_of options bytes) piece
said_text-append options bytes [] = ap (said_text options) (append-nil bytes) ∙ sym (append-nil (said_text options bytes))
said_text-append options bytes (b ∷ piece) =
    let here = cond (is_line_feed b) (text_ended (kept_of options bytes)) [] in
    ap (said_text options) (sym (append_assoc bytes (b ∷ []) piece)) ∙ said_text-append options (bytes ++ b ∷ []) piece
    ∙ ap (λ l. l ++ told_of_capture (kept_of options (bytes ++ b ∷ [])) piece) (said_text-snoc options bytes b)
    ∙ append_assoc (said_text options bytes) here (told_of_capture (kept_of options (bytes ++ b ∷ [])) piece)
    ∙ ap (λ k. said_text options bytes ++ (here ++ told_of_capture k piece)) (kept_of-snoc options bytes b)

-- ---- bytes without a line feed, and one after them

-- what is kept once these bytes were taken, all of which go to the line
abbrev pub kept_with : Kept → List ℕ → Kept
kept_with kept bytes = record kept { taken = kept.taken + length bytes; line = fold timed_takes kept.line bytes }

-- what is kept with this number of bytes taken, and this line as the one that goes on
kept_at : Kept → ℕ → TimedLine → Kept
kept_at kept taken line = record kept { taken = taken; line = line }

-- no byte leaves what was kept
none_came : (kept : Kept) → kept ≡ kept_with kept []
unfolding kept_at
none_came kept = let same : kept.taken ≡ kept.taken + 0 = omega arith in ap (λ t. kept_at kept t kept.line) same

-- a byte that is no line feed goes to the line and its time
one_came : (kept : Kept) (x : ℕ) (xs : List ℕ) → is_line_feed x ≡ false → kept_with (capture_takes kept x) xs ≡ kept_with kept (x ∷ xs)
unfolding capture_takes kept_at
one_came kept x xs is =
    let takes : capture_takes kept x ≡ kept_at kept (kept.taken + 1) (timed_takes kept.line x) = rw is refl in
    let many : kept.taken + 1 + length xs ≡ kept.taken + length (x ∷ xs) = omega arith in
    ap (λ k. kept_with k xs) takes ∙ ap (λ t. kept_at kept t (fold timed_takes (timed_takes kept.line x) xs)) many

-- ---- the end

-- a capture is shown line by line
capture_lines : (options : TellOptions) (text : List ℕ) → entries_of options text ≡ lines_said options (lines_of text)
unfolding entries_of
capture_lines options text = refl

-- what is said is that of the lines that ended
said_lines : (options : TellOptions) (text : List ℕ) → said_in_capture options text
    ≡ lines_said options (map without_return (ended_pieces is_line_feed text))
unfolding said_in_capture
said_lines options text = refl

-- a line goes on if bytes follow the last line feed
line_begun : (options : TellOptions) (text : List ℕ) → (kept_of options text).line.is_begun ≡ has_bytes (since is_line_feed text)
unfolding kept_of timed_of
line_begun options text = refl

-- what is said at the end
pub entries_at_end : (options : TellOptions) (text : List ℕ) → entries_of options text
    ≡ said_in_capture options text ++ cond (has_bytes (since is_line_feed text)) (ended_entries options text) []
entries_at_end options text =
    capture_lines options text ∙ ap (lines_said options) (lines_of_at_end text) ∙ by (has_bytes (since is_line_feed text))
    ∙ ap (λ l. l ++ cond (has_bytes (since is_line_feed text)) (ended_entries options text) []) (sym (said_lines options text))
  where
    lines : List (List ℕ)
    lines = map without_return (ended_pieces is_line_feed text)

    by : (c : Bool) → lines_said options (lines ++ map without_return (cond c (since is_line_feed text ∷ []) []))
        ≡ lines_said options lines ++ cond c (ended_entries options text) []
    by true =
        lines_said-snoc options lines (without_return (since is_line_feed text))
        ∙ ap (λ l. lines_said options lines ++ l) (ended_here options text)
    by false = ap (lines_said options) (append-nil lines) ∙ sym (append-nil (lines_said options lines))

-- what is heard of a whole capture
pub heard-end : (options : TellOptions) (text : List ℕ)
    → heard_in_lines options (entries_of options text) ≡ (capture_at_end (kept_of options text)).heard
heard-end options text = ap (heard_in_lines options) (entries_at_end options text)
    ∙ by (has_bytes (since is_line_feed text)) (line_begun options text)
  where
    by : (c : Bool) → (kept_of options text).line.is_begun ≡ c
        → heard_in_lines options (said_in_capture options text ++ cond c (ended_entries options text) [])
        ≡ (capture_at_end (kept_of options text)).heard
    by true is = heard_more options text
        ∙ sym (ap (λ d. (cond d (capture_line_ended (kept_of options text)) (kept_of options text)).heard) is)
    by false is = ap (heard_in_lines options) (append-nil (said_in_capture options text)) ∙ sym (heard_now options text)
        ∙ sym (ap (λ d. (cond d (capture_line_ended (kept_of options text)) (kept_of options text)).heard) is)

-- what is written of its lines
pub lines-end : (options : TellOptions) (text : List ℕ)
    → lines_text options unknown (entries_of options text) ≡ said_text options text ++ told_at_capture_end (kept_of options text)
lines-end options text =
    ap (lines_text options unknown) (entries_at_end options text) ∙ by (has_bytes (since is_line_feed text)) (line_begun options text)
  where
    by : (c : Bool) → (kept_of options text).line.is_begun ≡ c
        → lines_text options unknown (said_in_capture options text ++ cond c (ended_entries options text) [])
        ≡ said_text options text ++ told_at_capture_end (kept_of options text)
    by true is = text_more options text ∙ sym (ap (λ d. said_text options text ++ cond d (text_ended (kept_of options text)) []) is)
    by false is = ap (lines_text options unknown) (append-nil (said_in_capture options text)) ∙ sym (append-nil (said_text options text))
        ∙ sym (ap (λ d. said_text options text ++ cond d (text_ended (kept_of options text)) []) is)

-- what is written of a whole capture
pub capture_text-end : (options : TellOptions) (text : List ℕ) → capture_text options text
    ≡ said_text options text
    ++ (told_at_capture_end (kept_of options text) ++ counts_text options (capture_at_end (kept_of options text)).heard)
unfolding capture_text
capture_text-end options text =
    ap (λ l. l ++ counts_text options (heard_in_lines options (entries_of options text))) (lines-end options text)
    ∙ append_assoc (said_text options text) (told_at_capture_end (kept_of options text))
    (counts_text options (heard_in_lines options (entries_of options text)))
    ∙ ap (λ h. said_text options text ++ (told_at_capture_end (kept_of options text) ++ counts_text options h)) (heard-end options text)

-- ---- how many bytes were taken

-- a byte adds one to the number of bytes taken
takes-taken : (kept : Kept) (b : ℕ) → (capture_takes kept b).taken ≡ kept.taken + 1
unfolding capture_takes
takes-taken kept b = by (is_line_feed b) (record (capture_line_ended kept) { taken = kept.taken + 1 })
    (record kept { taken = kept.taken + 1; line = timed_takes kept.line b }) refl refl
  where
    by : (c : Bool) (one two : Kept) → one.taken ≡ kept.taken + 1 → two.taken ≡ kept.taken + 1 → (cond c one two).taken ≡ kept.taken + 1
    by true one two first second = first
    by false one two first second = second

-- further bytes add their own number to the number of bytes taken
pub next-taken : (kept : Kept) (bytes : List ℕ) → (capture_with_bytes kept bytes).taken ≡ kept.taken + length bytes
next-taken kept [] = omega arith
next-taken kept (b ∷ bytes) = let one = takes-taken kept b in let rest = next-taken (capture_takes kept b) bytes in omega arith

-- what is kept of bytes counts each of them as taken
pub length_kept : (options : TellOptions) (bytes : List ℕ) → (kept_of options bytes).taken ≡ length bytes
unfolding kept_of
length_kept options bytes = refl

-- the options that are kept are those that the capture is shown by
pub options_kept : (options : TellOptions) (bytes : List ℕ) → (kept_of options bytes).options ≡ options
unfolding kept_of
options_kept options bytes = refl

-- they stay at the end
pub options_at_end : (options : TellOptions) (bytes : List ℕ) → (capture_at_end (kept_of options bytes)).options ≡ options
options_at_end options bytes = by (kept_of options bytes).line.is_begun ∙ options_kept options bytes
  where
    by : (c : Bool) → (cond c (capture_line_ended (kept_of options bytes)) (kept_of options bytes)).options
        ≡ (kept_of options bytes).options
    by true = refl
    by false = refl

-- ---- bytes up to the first line feed

module _ (old : Kept) (bytes rest : List ℕ) (line : TimedLine) (passes : PassesTimed old.line bytes rest line) where
  -- what is kept once the line took its bytes
  abbrev pub passed : Kept
  passed = record old { taken = old.taken + (length bytes - length rest); line = line }

  passed_is : kept_with old passes.front ≡ passed
  passed_is =
      let count : length passes.front ≡ length bytes - length rest =
      omega (arith, ap length passes.split, length-append passes.front rest) in
      ap (λ n. record old { taken = old.taken + n; line = fold timed_takes old.line passes.front }) count
      ∙ ap (λ l. record old { taken = old.taken + (length bytes - length rest); line = l }) (sym passes.line)

  -- what is kept after the bytes that the line took
  front_passed : capture_with_bytes old passes.front ≡ passed
  front_passed =
      taken-unmarked is_line_feed capture_takes kept_with none_came one_came old passes.front passes.plain ∙ passed_is

  next_passed : capture_with_bytes old bytes ≡ capture_with_bytes passed rest
  next_passed =
      ap (capture_with_bytes old) passes.split ∙ fold-append capture_takes old passes.front rest
      ∙ ap (λ k. capture_with_bytes k rest) front_passed

  told_passed : told_of_capture old bytes ≡ told_of_capture passed rest
  told_passed =
      ap (told_of_capture old) passes.split ∙ told-append is_line_feed capture_takes text_ended old passes.front rest
      ∙ ap (λ l. l ++ told_of_capture (capture_with_bytes old passes.front) rest)
      (told-unmarked is_line_feed capture_takes text_ended old passes.front passes.plain)
      ∙ ap (λ k. told_of_capture k rest) front_passed

  -- no line feed came
  pub next_none : length rest < 1 → capture_with_bytes old bytes ≡ passed
  next_none none = next_passed ∙ ap (capture_with_bytes passed) (nil_from_length rest (omega arith))

  pub told_none : length rest < 1 → told_of_capture old bytes ≡ []
  told_none none = told_passed ∙ ap (told_of_capture passed) (nil_from_length rest (omega arith))

  -- what follows the line feed
  abbrev behind : List ℕ
  behind = take (length rest - 1) (drop 1 rest)

  -- the line that ends with it
  abbrev pub passed_end : Kept
  passed_end = record passed { taken = old.taken + (length bytes - length rest) + 1 }

  split_end : (rest : List ℕ) → IsAtLineFeed rest → 1 ≤ length rest → rest ≡ 10 ∷ take (length rest - 1) (drop 1 rest)
  split_end [] feed some = absurd (omega arith)
  split_end (b ∷ more) feed some =
      let one_less : length (b ∷ more) - 1 ≡ length more = omega arith in
      let left : take (length (b ∷ more) - 1) more ≡ more = ap (λ n. take n more) one_less ∙ take_all (length more) more (omega arith) in
      ap (λ n. n ∷ more) feed ∙ ap (λ l. 10 ∷ l) (sym left)

  pub next_ended : IsAtLineFeed rest → 1 ≤ length rest → capture_with_bytes old bytes
      ≡ capture_with_bytes (capture_line_ended passed_end) behind
  unfolding capture_takes
  next_ended feed some = next_passed ∙ ap (capture_with_bytes passed) (split_end rest feed some)

  pub told_ended : IsAtLineFeed rest → 1 ≤ length rest → told_of_capture old bytes ≡ text_ended passed_end
      ++ told_of_capture (capture_line_ended passed_end) behind
  unfolding capture_takes
  told_ended feed some = told_passed ∙ ap (told_of_capture passed) (split_end rest feed some)

-- What is written of a capture of no bytes.

-- whether options choose JSON or not, and other codes or not, the text of a capture of no bytes is the one for that choice
pub empty_is : (options : TellOptions) (json all : Bool) → options.json ≡ json → options.all ≡ all
    → empty_by json all ≡ capture_text options []
unfolding capture_text entries_of lines_of heard_in_lines counts_of plain_counts json_counts totals_line totals_json other_lines
    other_jsons number_field key digits
empty_is options false false json all = rw (json, all) refl
empty_is options false true json all = rw (json, all) refl
empty_is options true false json all = rw (json, all) refl
empty_is options true true json all = rw (json, all) refl

-- whatever the options, the text of a capture of no bytes is the one for their choice
pub empty_all : (options : TellOptions) → empty_by options.json options.all ≡ capture_text options []
empty_all options = empty_is options options.json options.all refl refl

-- What was written, in other words.

module _ (a b c : Option (List ℕ)) where
  pub AppendsFront-behind : (before part later all : List ℕ) → Appends a b before → AppendsFront b c part
      → all ≡ before ++ (part ++ later) → AppendsFront a c all
  AppendsFront-behind before part later all written (front, rest, split, some, appended) is = (
    before ++ front,
    rest ++ later,
    is ∙ ap (λ l. before ++ (l ++ later)) split ∙ ap (λ l. before ++ l) (append_assoc front rest later)
        ∙ sym (append_assoc before front (rest ++ later)),
    omega (arith, some, length-append rest later),
    Appends-trans a b c before front written appended,
  )

-- nothing is left to write, in other words
pub puts_all : (w1 w2 : Option (List ℕ)) (text left : List ℕ) → left ≡ [] → Puts w1 w2 text left → Puts w1 w2 text []
puts_all w1 w2 text left none puts = let P : List ℕ → Type 0 = λ l. Puts w1 w2 text l in subst P none puts

-- one text in two ways of writing it
pub as_all : (a b : Option (List ℕ)) (one two : List ℕ) → one ≡ two → Appends a b one → Appends a b two
as_all a b one two is all = let P : List ℕ → Type 0 = λ l. Appends a b l in subst P is all

-- whether a read failed
pub read_at : (result : Result ℕ TextFault) (count : ℕ) (failed : Bool) → result ≡ Ok count
    → MatchResult result (λ _. IsFalse failed) (λ fault. IsTrue failed ↔ (fault ≡ Read)) → IsFalse failed
read_at result count failed is why =
    let Q : Result ℕ TextFault → Type 0 = λ r. MatchResult r (λ _. IsFalse failed) (λ fault. IsTrue failed ↔ (fault ≡ Read)) in
    subst Q is why

-- if reading a piece gave a fault, the reader has failed exactly if that fault is Read
pub why_at : (result : Result ℕ TextFault) (fault : TextFault) (failed : Bool) → result ≡ Err fault
    → MatchResult result (λ _. IsFalse failed) (λ fault. IsTrue failed ↔ (fault ≡ Read)) → IsTrue failed ↔ (fault ≡ Read)
why_at result fault failed is why =
    let Q : Result ℕ TextFault → Type 0 = λ r. MatchResult r (λ _. IsFalse failed) (λ fault. IsTrue failed ↔ (fault ≡ Read)) in
    subst Q is why

-- a write is due if a piece wasn't read whole
pub due_at_fault : (full : Bool) (result : Result ℕ TextFault) (fault : TextFault) → (full ≡ true → result ≡ Ok 512) → result ≡ Err fault
    → not full ≡ true
due_at_fault true result fault whole is = let all : result ≡ Ok 512 = whole refl in absurd (cc)
due_at_fault false result fault whole is = refl

-- What was taken of a reader and written, with a piece more, and at the end.

-- no bytes say nothing
said_none : (options : TellOptions) → said_text options [] ≡ []
unfolding said_in_capture
said_none options = refl

-- a capture of no bytes ends well
nothing_end : (options : TellOptions) → record { end = Clean; hint = None } ≡ capture_end options []
unfolding entries_of lines_of heard_in_lines counts_of
nothing_end options = refl

-- nothing was read yet
pub gathered_none : (options : TellOptions) (r w : Option (List ℕ)) (text : List ℕ) (kept : Kept) → text ≡ [] → kept ≡ kept_of options []
    → Gathered options r r w w [] text kept
gathered_none options r w text kept none fresh = record {
  given = Consumes-nil r;
  kept_is = fresh;
  short = omega arith;
  done = [];
  got = Appends-nil w;
  parts = said_none options ∙ sym none;
}

module _ (options : TellOptions) (r0 r1 w0 w1 : Option (List ℕ)) (bytes text : List ℕ) (old : Kept)
    (gathered : Gathered options r0 r1 w0 w1 bytes text old) where
  -- as many bytes were taken as the reader gave
  taken_now : old.taken ≡ length bytes
  taken_now = ap (λ k. k.taken) gathered.kept_is ∙ length_kept options bytes

  pub most_now : most_bytes old.options.long ≡ most_bytes options.long
  most_now = ap (λ k. most_bytes k.options.long) gathered.kept_is ∙ ap (λ o. most_bytes o.long) (options_kept options bytes)

  -- a front of what was gathered was written
  pub put_more : (w2 : Option (List ℕ)) (left : List ℕ) → Puts w1 w2 text left → Gathered options r0 r1 w0 w2 bytes left old
  put_more w2 left puts = record {
    given = gathered.given;
    kept_is = gathered.kept_is;
    short = gathered.short;
    done = gathered.done ++ puts.front;
    got = Appends-trans w0 w1 w2 gathered.done puts.front gathered.got puts.got;
    parts = gathered.parts ∙ ap (λ l. gathered.done ++ l) puts.parts ∙ sym (append_assoc gathered.done puts.front left);
  }

  -- all of it was
  pub all_put : text ≡ [] → WrittenCapture options r0 r1 w0 w1 bytes old
  all_put none =
      let P : List ℕ → Type 0 = λ l. Appends w0 w1 l in
      record {
        given = gathered.given;
        kept_is = gathered.kept_is;
        short = gathered.short;
        text =
            subst P (sym (gathered.parts ∙ ap (λ l. gathered.done ++ l) none ∙ append-nil gathered.done)) gathered.got;
      }

  -- what the lines of further bytes say
  lines_more : (piece : List ℕ) → said_text options (bytes ++ piece) ≡ gathered.done ++ (text ++ told_of_capture old piece)
  lines_more piece =
      said_text-append options bytes piece ∙ ap (λ l. l ++ told_of_capture (kept_of options bytes) piece) gathered.parts
      ∙ append_assoc gathered.done text (told_of_capture (kept_of options bytes) piece)
      ∙ ap (λ k. gathered.done ++ (text ++ told_of_capture k piece)) (sym gathered.kept_is)

  module _ (r2 : Option (List ℕ)) (text' : List ℕ) (new : Kept) where
    parts_more : {count : ℕ} → (hears : Hears r1 r2 text text' old new count)
        → said_text options (bytes ++ hears.bytes) ≡ gathered.done ++ text'
    parts_more hears = lines_more hears.bytes ∙ ap (λ l. gathered.done ++ l) (sym hears.text_is)

    -- a piece more
    pub gathered_more : {count : ℕ} → (hears : Hears r1 r2 text text' old new count)
        → Gathered options r0 r2 w0 w1 (bytes ++ hears.bytes) text' new
    gathered_more hears =
        let count = taken_now in
        let most = most_now in
        record {
          given = Consumes-trans r0 r1 r2 bytes hears.bytes gathered.given hears.given;
          kept_is = hears.kept ∙ ap (λ k. capture_with_bytes k hears.bytes) gathered.kept_is
              ∙ sym (kept_of-append options bytes hears.bytes);
          short = omega (arith, count, most, hears.room, length-append bytes hears.bytes);
          done = gathered.done;
          got = gathered.got;
          parts = parts_more hears;
        }

    -- more was taken
    pub grown_more : {count : ℕ} → Hears r1 r2 text text' old new count → new.taken ≡ old.taken + count
    grown_more {count} hears =
        ap (λ k. k.taken) hears.kept ∙ next-taken old hears.bytes ∙ ap (λ n. old.taken + n) (sym hears.count_is)

    module _ (w2 : Option (List ℕ)) where
      -- a prefix of what was gathered was written after what was written before
      cut_behind : (all later : List ℕ) → said_text options all ≡ gathered.done ++ (text' ++ later) → AppendsFront w1 w2 text'
          → AppendsFront w0 w2 (said_text options all)
      cut_behind all later parts short =
          AppendsFront-behind w0 w1 w2 gathered.done text' later (said_text options all) gathered.got short parts

      -- what is gathered after each way that a piece is read
      pub cut_off : (result : Result ℕ TextFault) (failed : Bool) → IfOk result (λ count. Hears r1 r2 text text' old new count)
          → IfErr result (λ fault. StopsHearing r1 r2 text text' old fault)
          → MatchResult result (λ _. IsFalse failed) (λ fault. IsTrue failed ↔ (fault ≡ Read)) → AppendsFront w1 w2 text'
          → (front : List ℕ) × (IsTrue failed → length front ≤ most_bytes options.long) × Consumes r0 r2 front
          × AppendsFront w0 w2 (said_text options front)
      cut_off (Ok count) failed hears stops why short =
          let more = gathered_more hears in (
            bytes ++ hears.bytes,
            λ _. more.short,
            more.given,
            cut_behind (bytes ++ hears.bytes) [] (parts_more hears ∙ ap (λ l. gathered.done ++ l) (sym (append-nil text'))) short,
          )
      cut_off (Err TooLong) failed hears (front, more, some, given, full, is) why short = (
        bytes ++ (front ++ more),
        λ t. absurd (let wrong : TooLong ≡ Read = why.0 t in cc),
        Consumes-trans r0 r1 r2 bytes (front ++ more) gathered.given given,
        cut_behind (bytes ++ (front ++ more)) (told_of_capture (capture_with_bytes old front) more)
            (lines_more (front ++ more)
            ∙ ap (λ l. gathered.done ++ (text ++ l)) (told-append is_line_feed capture_takes text_ended old front more)
            ∙ ap (λ l. gathered.done ++ l)
            (sym (append_assoc text (told_of_capture old front) (told_of_capture (capture_with_bytes old front) more)))
            ∙ ap (λ l. gathered.done ++ (l ++ told_of_capture (capture_with_bytes old front) more)) (sym is)) short,
      )
      cut_off (Err Read) failed hears (given, is) why short =
          let P : List ℕ → Type 0 = λ l. Consumes r0 r2 l in (
            bytes,
            λ _. gathered.short,
            subst P (append-nil bytes) (Consumes-trans r0 r1 r2 bytes [] gathered.given given),
            cut_behind bytes [] (gathered.parts ∙ ap (λ l. gathered.done ++ l) (sym is ∙ sym (append-nil text'))) short,
          )
      cut_off (Err Memory) failed hears (piece, rest, some, given, is) why short = (
        bytes ++ piece,
        λ t. absurd (let wrong : Memory ≡ Read = why.0 t in cc),
        Consumes-trans r0 r1 r2 bytes piece gathered.given given,
        cut_behind (bytes ++ piece) rest (lines_more piece ∙ ap (λ l. gathered.done ++ l) is) short,
      )
      cut_off (Err (Syntax line)) failed hears stops why short = absurd stops
      cut_off (Err (TextFaultBadHex line)) failed hears stops why short = absurd stops
      cut_off (Err Write) failed hears stops why short = absurd stops
      cut_off (Err (Setup reason)) failed hears stops why short = absurd stops

      -- what was gathered was written before a refusal
      got_all : (all later : List ℕ) → Puts w1 w2 text' [] → said_text options all ≡ gathered.done ++ (text' ++ later)
          → (said_text options all ≡ (gathered.done ++ text') ++ later) × Appends w0 w2 (gathered.done ++ text')
      got_all all later puts parts =
          let P : List ℕ → Type 0 = λ l. Appends w0 w2 (gathered.done ++ l) in (
            parts ∙ sym (append_assoc gathered.done text' later),
            subst P (sym (puts.parts ∙ append-nil puts.front)) (Appends-trans w0 w1 w2 gathered.done puts.front gathered.got puts.got),
          )

      -- the capture has a byte too many
      pub put_too_long : StopsHearing r1 r2 text text' old TooLong → Puts w1 w2 text' []
          → (front : List ℕ) × (more : List ℕ) × (length front ≡ most_bytes options.long) × (0 < length more)
          × Consumes r0 r2 (front ++ more) × Appends w0 w2 (said_text options front)
      put_too_long (front, more, some, given, full, is) puts =
          let P : List ℕ → Type 0 = λ l. Consumes r0 r2 l in
          let Q : List ℕ → Type 0 = λ l. Appends w0 w2 l in
          let parts : said_text options (bytes ++ front) ≡ gathered.done ++ (text' ++ []) =
          lines_more front ∙ ap (λ l. gathered.done ++ l) (sym is ∙ sym (append-nil text')) in
          let (all, got) = got_all (bytes ++ front) [] puts parts in
          let count = taken_now in
          let most = most_now in (
            bytes ++ front,
            more,
            omega (arith, count, most, full, length-append bytes front),
            some,
            subst P (sym (append_assoc bytes front more)) (Consumes-trans r0 r1 r2 bytes (front ++ more) gathered.given given),
            subst Q (sym (all ∙ append-nil (gathered.done ++ text'))) got,
          )

      -- a read failed
      pub put_unread : StopsHearing r1 r2 text text' old Read → Puts w1 w2 text' []
          → (length bytes ≤ most_bytes options.long) × Consumes r0 r2 bytes × Appends w0 w2 (said_text options bytes)
      put_unread (given, is) puts =
          let P : List ℕ → Type 0 = λ l. Consumes r0 r2 l in
          let Q : List ℕ → Type 0 = λ l. Appends w0 w2 l in
          let (all, got) = got_all bytes [] puts (gathered.parts ∙ ap (λ l. gathered.done ++ l) (sym is ∙ sym (append-nil text'))) in (
            gathered.short,
            subst P (append-nil bytes) (Consumes-trans r0 r1 r2 bytes [] gathered.given given),
            subst Q (sym (all ∙ append-nil (gathered.done ++ text'))) got,
          )

      -- memory was refused
      pub put_memory : StopsHearing r1 r2 text text' old Memory → Puts w1 w2 text' []
          → (front : List ℕ) × (text : List ℕ) × (rest : List ℕ) × (0 < length front)
          × Consumes r0 r2 front × (said_text options front ≡ text ++ rest) × Appends w0 w2 text
      put_memory (piece, rest, some, given, is) puts =
          let (all, got) = got_all (bytes ++ piece) rest puts (lines_more piece ∙ ap (λ l. gathered.done ++ l) is) in (
            bytes ++ piece,
            gathered.done ++ text',
            rest,
            omega (arith, some, length-append bytes piece),
            Consumes-trans r0 r1 r2 bytes piece gathered.given given,
            all,
            got,
          )

-- ---- the end of all bytes

module _ (options : TellOptions) (r0 r1 w0 w1 w2 : Option (List ℕ)) (input : List ℕ) (old : Kept)
    (written : WrittenCapture options r0 r1 w0 w1 input old) where
  pub whole_input : IsAtEnd r1 → IsWhole (most_bytes options.long) r0 r1 input
  whole_input at_end = record { given = written.given; ended = at_end; short = written.short }

  options_now : old.options ≡ options
  options_now = ap (λ k. k.options) written.kept_is ∙ options_kept options input

  -- the text of a capture ends with what its end says
  end_text : (text : List ℕ) → text ≡ told_at_capture_end old ++ counts_text old.options (capture_at_end old).heard
      → capture_text options input ≡ said_text options input ++ text
  end_text text is =
      capture_text-end options input
      ∙ ap (λ k. said_text options input ++ (told_at_capture_end k ++ counts_text options (capture_at_end k).heard)) (sym written.kept_is)
      ∙ ap (λ o. said_text options input ++ (told_at_capture_end old ++ counts_text o (capture_at_end old).heard)) (sym options_now)
      ∙ ap (λ l. said_text options input ++ l) (sym is)

  -- the text of a capture was written whole
  pub end_all : (text : List ℕ) → text ≡ told_at_capture_end old ++ counts_text old.options (capture_at_end old).heard
      → Appends w1 w2 text → Appends w0 w2 (capture_text options input)
  end_all text is appended =
      as_all w0 w2 _ _ (sym (end_text text is)) (Appends-trans w0 w1 w2 (said_text options input) text written.text appended)

  -- the last write failed
  pub end_front : (text : List ℕ) → text ≡ told_at_capture_end old ++ counts_text old.options (capture_at_end old).heard
      → AppendsFront w1 w2 text → AppendsFront w0 w2 (capture_text options input)
  end_front text is short =
      AppendsFront-behind w0 w1 w2 (said_text options input) text [] (capture_text options input) written.text short
      (end_text text is ∙ ap (λ l. said_text options input ++ l) (sym (append-nil text)))

  -- how a capture ends follows from its counts
  pub end_counts : (new : Kept) (end : TellEnd) → new ≡ capture_at_end old → end ≡ told_end new.options new.heard
      → end ≡ capture_end options input
  end_counts new end kept is =
      is ∙ ap (λ k. told_end k.options k.heard) (kept ∙ ap capture_at_end written.kept_is)
      ∙ λ i. told_end (options_at_end options input i) (sym (heard-end options input) i)

  -- memory was refused at the end of a capture that has bytes
  pub end_memory : old.taken ≢ 0 → (front : List ℕ) × (text : List ℕ) × (rest : List ℕ) × (0 < length front)
      × Consumes r0 r1 front × (said_text options front ≡ text ++ rest) × Appends w0 w1 text
  end_memory some =
      let count : old.taken ≡ length input = ap (λ k. k.taken) written.kept_is ∙ length_kept options input in (
        input,
        said_text options input,
        [],
        omega (arith, some, count),
        written.given,
        sym (append-nil (said_text options input)),
        written.text,
      )

  -- a capture without bytes
  pub none_input : old.taken ≡ 0 → input ≡ []
  none_input none = nil_from_length input (sym (length_kept options input) ∙ sym (ap (λ k. k.taken) written.kept_is) ∙ none)

  -- its text was written whole
  pub none_all : old.taken ≡ 0 → (text : List ℕ) → text ≡ capture_text options [] → Appends w1 w2 text
      → Appends w0 w2 (capture_text options input)
  none_all none text is appended =
      let P : List ℕ → Type 0 = λ l. Appends w0 w2 l in
      let nothing : said_text options input ≡ [] = ap (said_text options) (none_input none) ∙ said_none options in
      subst P (ap (λ l. l ++ text) nothing ∙ is ∙ ap (capture_text options) (sym (none_input none)))
      (Appends-trans w0 w1 w2 (said_text options input) text written.text appended)

  -- if there was no byte, a prefix of the text of no bytes was written
  pub none_front : old.taken ≡ 0 → (text : List ℕ) → text ≡ capture_text options [] → AppendsFront w1 w2 text
      → AppendsFront w0 w2 (capture_text options input)
  none_front none text is short =
      let nothing : said_text options input ≡ [] = ap (said_text options) (none_input none) ∙ said_none options in
      AppendsFront-behind w0 w1 w2 (said_text options input) text [] (capture_text options input) written.text short
      (ap (capture_text options) (none_input none) ∙ sym is ∙ sym (append-nil text) ∙ ap (λ l. l ++ (text ++ [])) (sym nothing))

  -- if there was no byte, the capture ends well
  pub none_end : old.taken ≡ 0 → record { end = Clean; hint = None } ≡ capture_end options input
  none_end none = nothing_end options ∙ ap (capture_end options) (sym (none_input none))

-- ---- a piece

-- memory was refused for the first bytes of a piece
pub stops_memory : (old : Kept) (text new_text bytes part : List ℕ) (room : ℕ) → part ≡ take room bytes
    → ((rest : List ℕ) × (text ++ told_of_capture old part ≡ new_text ++ rest)) → 0 < length part
    → StopsBytes text new_text old bytes Memory
stops_memory old text new_text bytes part room is (rest, split) some =
    let more : List ℕ = drop room bytes in
    let whole : bytes ≡ part ++ more = sym (take-append-drop room bytes) ∙ ap (λ l. l ++ more) (sym is) in (
      rest ++ told_of_capture (capture_with_bytes old part) more,
      omega (arith, some, ap length whole, length-append part more),
      ap (λ l. text ++ told_of_capture old l) whole ∙ ap (λ l. text ++ l) (told-append is_line_feed capture_takes text_ended old part more)
          ∙ sym (append_assoc text (told_of_capture old part) (told_of_capture (capture_with_bytes old part) more))
          ∙ ap (λ l. l ++ told_of_capture (capture_with_bytes old part) more) split
          ∙ append_assoc new_text rest (told_of_capture (capture_with_bytes old part) more),
    )

-- no more bytes may be taken
pub stops_too_long : (old : Kept) (text new_text bytes part : List ℕ) (room : ℕ) → part ≡ take room bytes → room < length bytes
    → old.taken + room ≡ most_bytes old.options.long → new_text ≡ text ++ told_of_capture old part
    → StopsBytes text new_text old bytes TooLong
stops_too_long old text new_text bytes part room is short full said =
    let more : List ℕ = drop room bytes in
    let whole : bytes ≡ part ++ more = sym (take-append-drop room bytes) ∙ ap (λ l. l ++ more) (sym is) in
    let count : length part ≡ room = omega (arith, ap length is, length-take room bytes, short) in (
      part,
      more,
      whole,
      omega (arith, length-drop room bytes, short),
      omega (arith, count, full),
      said,
    )

-- How a telling ends, by what was read and what was written.

-- a telling over these streams
abbrev pub Ends : {R W : Type 0} → TellOptions → Run R W → Result TellEnd TextFault → Type 0
Ends options run result =
    LongEnds (most_bytes options.long) (capture_text options) (said_text options) (capture_end options) run result

-- ---- as every engine ends, if a capture may have no more bytes than a text

module _ {R W : Type 0} (options : TellOptions) (run : Run R W) (short : options.long ≡ false) where
  most_is : most_bytes options.long ≡ max_text
  most_is = ap most_bytes short

  as_whole : (old new : Option (List ℕ)) (text : List ℕ) → IsWhole (most_bytes options.long) old new text → IsWholeText old new text
  as_whole old new text whole =
      let P : ℕ → Type 0 = λ n. length text ≤ n in
      record { given = whole.given; ended = whole.ended; short = subst P most_is whole.short }

  pub as_engine : (result : Result TellEnd TextFault) → Ends options run result → EngineEnds (telling_engine options) run result
  as_engine (Ok end) (read, sound, input, whole, is, got) = (
    read,
    sound,
    capture_text options input,
    (input, as_whole _ _ input whole, ap (λ e. Ok (capture_text options input, e)) (sym is)),
    got,
  )
  as_engine (Err Write) (failed, text, inl (front, few, given, is), cut) =
      let P : ℕ → Type 0 = λ n. length front ≤ n in (
        failed,
        text,
        λ t. (front, subst P most_is (few t), given, is),
        inl (front, given, said_text options, refl, is),
        cut,
      )
  as_engine (Err Write) (failed, text, inr (read, input, whole, is), cut) = (
    failed,
    text,
    λ t. absurd (true≢false (sym t ∙ read)),
    inr (capture_end options input, (input, as_whole _ _ input whole, ap (λ t. Ok (t, capture_end options input)) (sym is))),
    cut,
  )
  as_engine (Err TooLong) (sound, why, front, (more, full, some, given), text, is, got) =
      (sound, why, front, (more, full ∙ most_is, some, given), (text, is, got))
  as_engine (Err Read) (sound, why, front, (few, given), text, is, got) =
      let P : ℕ → Type 0 = λ n. length front ≤ n in
      (sound, why, front, (subst P most_is few, given), (text, is, got))
  as_engine (Err Memory) (sound, why, front, (some, given), text, is, got) =
      (sound, why, front, (some, tt, given), (text, is, got))
  as_engine (Err (Syntax line)) (sound, why, front, never, text, is, got) = absurd never
  as_engine (Err (TextFaultBadHex line)) (sound, why, front, never, text, is, got) = absurd never
  as_engine (Err (Setup reason)) (sound, why, front, never, text, is, got) = absurd never

-- ---- each way to end

module _ {R W : Type 0} (options : TellOptions) (run : Run R W) where
  -- X3: the lines of as much as a capture may have were shown
  pub too_long : IsFalse run.reader'.failed → IsFalse run.writer'.failed
      → (front : List ℕ) × (more : List ℕ) × (length front ≡ most_bytes options.long) × (0 < length more)
      × Consumes (run.remaining run.reader.inner) (run.remaining run.reader'.inner) (front ++ more)
      × Appends (run.contents run.writer.inner) (run.contents run.writer'.inner) (said_text options front)
      → Ends options run (Err TooLong)
  too_long read sound (front, more, full, some, given, got) = (
    sound,
    (λ t. absurd (true≢false (sym t ∙ read)), λ e. absurd (cc)),
    front,
    (more, full, some, given),
    said_text options front,
    refl,
    got,
  )

  -- X4: the lines of what came before were
  pub unread : IsTrue run.reader'.failed → IsFalse run.writer'.failed → (front : List ℕ) → length front ≤ most_bytes options.long
      → Consumes (run.remaining run.reader.inner) (run.remaining run.reader'.inner) front
      → Appends (run.contents run.writer.inner) (run.contents run.writer'.inner) (said_text options front)
      → Ends options run (Err Read)
  unread failed sound front short given got =
      (sound, (λ t. refl, λ e. failed), front, (short, given), said_text options front, refl, got)

  -- X6: some of the lines were
  pub unmade : IsFalse run.reader'.failed → IsFalse run.writer'.failed
      → (front : List ℕ) × (text : List ℕ) × (rest : List ℕ) × (0 < length front)
      × Consumes (run.remaining run.reader.inner) (run.remaining run.reader'.inner) front
      × (said_text options front ≡ text ++ rest)
      × Appends (run.contents run.writer.inner) (run.contents run.writer'.inner) text
      → Ends options run (Err Memory)
  unmade read sound (front, text, rest, some, given, split, got) =
      (sound, (λ t. absurd (true≢false (sym t ∙ read)), λ e. absurd (cc)), front, (some, given), text, (rest, split), got)

  -- X5: a prefix of the lines was written, and a read may have failed before
  pub lines_cut : IsTrue run.writer'.failed
      → (front : List ℕ) × (IsTrue run.reader'.failed → length front ≤ most_bytes options.long)
      × Consumes (run.remaining run.reader.inner) (run.remaining run.reader'.inner) front
      × AppendsFront (run.contents run.writer.inner) (run.contents run.writer'.inner) (said_text options front)
      → Ends options run (Err Write)
  lines_cut failed (front, short, given, cut) =
      (failed, said_text options front, inl (front, short, given, refl), cut)

  -- X5: a prefix of the whole text was written
  pub text_cut : IsFalse run.reader'.failed → IsTrue run.writer'.failed → (input : List ℕ)
      → IsWhole (most_bytes options.long) (run.remaining run.reader.inner) (run.remaining run.reader'.inner) input
      → AppendsFront (run.contents run.writer.inner) (run.contents run.writer'.inner) (capture_text options input)
      → Ends options run (Err Write)
  text_cut read failed input whole short =
      (failed, capture_text options input, inr (read, input, whole, refl), short)

  -- all of it was written
  pub all_told : IsFalse run.reader'.failed → IsFalse run.writer'.failed → (input : List ℕ) (end : TellEnd)
      → IsWhole (most_bytes options.long) (run.remaining run.reader.inner) (run.remaining run.reader'.inner) input
      → Appends (run.contents run.writer.inner) (run.contents run.writer'.inner) (capture_text options input)
      → end ≡ capture_end options input → Ends options run (Ok end)
  all_told read sound input end whole got is = (read, sound, input, whole, is, got)

-- ---- how the loop over the pieces goes on and breaks off

-- what is heard if a piece was read
pub hears_at : (r1 r2 : Option (List ℕ)) (text text' : List ℕ) (old new : Kept) (result : Result ℕ TextFault) (count : ℕ)
    → result ≡ Ok count → IfOk result (λ count. Hears r1 r2 text text' old new count) → Hears r1 r2 text text' old new count
hears_at r1 r2 text text' old new result count is heard =
    let P : Result ℕ TextFault → Type 0 = λ r. IfOk r (λ count. Hears r1 r2 text text' old new count) in subst P is heard

-- what stops the hearing if no piece was read
pub stops_at : (r1 r2 : Option (List ℕ)) (text text' : List ℕ) (old : Kept) (result : Result ℕ TextFault) (fault : TextFault)
    → result ≡ Err fault → IfErr result (λ fault. StopsHearing r1 r2 text text' old fault) → StopsHearing r1 r2 text text' old fault
stops_at r1 r2 text text' old result fault is stopped =
    let P : Result ℕ TextFault → Type 0 = λ r. IfErr r (λ fault. StopsHearing r1 r2 text text' old fault) in subst P is stopped

module _ {R W : Type 0} (options : TellOptions) (run : Run R W) (r1 w1 : Option (List ℕ)) (bytes text text' : List ℕ) (old : Kept)
    (gathered : Gathered options (run.remaining run.reader.inner) r1 (run.contents run.writer.inner) w1 bytes text old)
    (sound : IsFalse run.writer'.failed) (puts : Puts w1 (run.contents run.writer'.inner) text' []) where
  -- what was gathered was written, and a refusal follows
  pub broke_off : (fault : TextFault) → StopsHearing r1 (run.remaining run.reader'.inner) text text' old fault
      → IsTrue run.reader'.failed ↔ (fault ≡ Read) → IsOfDecode fault × Ends options run (Err fault)
  broke_off TooLong stops why = (
    tt,
    too_long options run (false_unless run.reader'.failed (λ t. let wrong : TooLong ≡ Read = why.0 t in cc)) sound
        (put_too_long options _ _ _ _ bytes text old gathered (run.remaining run.reader'.inner) text' old (run.contents run.writer'.inner)
        stops puts),
  )
  broke_off Read stops why =
      let (short, given, got) = put_unread options _ _ _ _ bytes text old gathered (run.remaining run.reader'.inner) text' old
      (run.contents run.writer'.inner) stops puts in
      (tt, unread options run (why.1 refl) sound bytes short given got)
  broke_off Memory stops why = (
    tt,
    unmade options run (false_unless run.reader'.failed (λ t. let wrong : Memory ≡ Read = why.0 t in cc)) sound
        (put_memory options _ _ _ _ bytes text old gathered (run.remaining run.reader'.inner) text' old (run.contents run.writer'.inner)
        stops puts),
  )
  broke_off (Syntax line) stops why = absurd stops
  broke_off (TextFaultBadHex line) stops why = absurd stops
  broke_off Write stops why = absurd stops
  broke_off (Setup reason) stops why = absurd stops
