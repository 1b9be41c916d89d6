-- What is known after the lines of a capture: what they teach and say of PAGE, and how many there were of each kind. This
-- project's own choice.
use Rattle.std.specs.Prelude.{ℕ, ◌+◌, ◌/◌, ◌==◌, ◌&&◌, ◌||◌, not, nat_lt, Bool, true, false, if◌then◌else◌, is_some, ℤ, ◌-ℤ◌, pos, unwrap_or, List, [], ◌∷◌, Option, Some, None, Result, Ok, Err}
use Rattle.std.specs.List.{filter_map, fold}
use Rattle.std.specs.Option.{option_or}
use Rattle.pm_trace.specs.Counts.{Counts, counted, counts_of, counts_with, lines_in, one_more, total_of}
use Rattle.pm_trace.specs.Pages.{Pages, lost_in, no_pages, pages_shown}
use Rattle.pm_trace.specs.Trace.{Judged, ToldLine, parts_judged}
use Rattle.pm_trace.specs.TraceText.{decode_end_of}
use Rattle.pm_trace.specs.declared.line_fault.LineFault.{LineFault}
use Rattle.pm_trace.specs.declared.trace_line.TraceLine.{TraceLine}
use Rattle.pm_trace.specs.Answers.{Answers, answered_by, answers_by, none_heard, ones_of}
use Rattle.pm_trace.specs.Otherwise.{content_of, is_accepted, ones_are_answer, is_refused}
use Rattle.pm_trace.specs.declared.answers.Ones.{Ones}
use Rattle.pm_trace.specs.declared.answers.Ones.TheVariants.{Answer, Refused}
use Rattle.pm_trace.specs.declared.answers.Refusal.{Refusal}
use Rattle.pm_trace.specs.Taught.{Taught, changed_by, paged_if, taught_by, taught_lost, untaught}
use Rattle.pm_decode.specs.Hints.{beyond_by, lacking_by, paging_by, timed_by}
use Rattle.pm_decode.specs.Options.{is_named, no_addresses, notes_comments, with_address}
use Rattle.pm_decode.specs.PageSteps.{change_by, is_lost_shown, is_received, judged_address, marks_in, pages_read, shown_change, shown_use, shows_pages}
use Rattle.pm_decode.specs.Readings.{Entry, Reading, Said, Told, Aside, Noted, is_without_pec, judged_as, judged_by, other_address, is_checked, is_told}
use Rattle.pm_decode.specs.Specials.{aside_ends_all, is_to_all, kept_for, shown_ends_all, shows_part, special_of, written_to}
use Rattle.pm_decode.specs.declared.addresses.Addresses.{Addresses}
use Rattle.pm_decode.specs.declared.special.Special.{Special}
use Rattle.pm_decode.specs.declared.comment.Remark.{Remark}
use Rattle.pm_decode.specs.declared.comment.Remark.TheVariants.{Elsewhere, Refuses, Shows, Loss}
use Rattle.pm_decode.specs.declared.comment.Failure.{Failure}
use Rattle.pm_decode.specs.declared.comment.Note.{Note}
use Rattle.pm_decode.specs.declared.comment.ShownPacket.{ShownPacket}
use Rattle.pm_decode.specs.Words.{Words, changed_since, no_words, word_read, words_aside, words_heard, words_lost, words_shown}
use Rattle.pm_decode.specs.declared.hints.Hint.{Hint}
use Rattle.pm_decode.specs.declared.hints.Hint.TheVariants.{Beyond, Timed, NoTimes, NoGoodPacket, NoPec, Paging}
use Rattle.pm_decode.specs.declared.page_steps.Marks.{Marks}
use Rattle.pm_decode.specs.declared.telling.TellEnd.{TellEnd}
use Rattle.pm_decode.specs.declared.options.TellOptions.{TellOptions}

-- ---- what is known

-- what was taught of formats, said of PAGE, which line was the first one that ordered a voltage beyond 1000 V by the format that was
-- given, what decides of answers of ones, and which byte of the next packet wasn't acknowledged
pub record Known : Type 0 where
  pub taught : Taught
  pub pages : Pages
  pub beyond : Option ℕ
  pub answers : Answers
  pub refused : Option Refusal
  -- the first line that wrote PAGE, where values are shown and PAGE isn't followed
  pub paging : Option ℕ
  -- each packet that isn't good would be with its PEC
  pub lacking : Bool
  -- the first line that begins with its time, where lines have none
  pub timed : Option ℕ
  -- the time of the first packet, if lines have times
  pub first : Option ℕ
  -- the words of registers that were read
  pub words : Words
  -- the addresses that SMBus keeps for something else, and that answered as parts
  pub parts : Addresses

abbrev pub unknown : Known
unknown = record {
  taught = untaught;
  pages = no_pages;
  beyond = None;
  answers = none_heard;
  refused = None;
  paging = None;
  lacking = true;
  timed = None;
  first = None;
  words = no_words;
  parts = no_addresses;
}

-- how a packet was received of which no byte was refused, or one
abbrev pub received_by : Option Refusal → Ones → Ones
received_by None ones = ones
received_by (Some refusal) ones = Refused refusal

-- what an answer of ones is taken for, if packets without PEC are shown and it isn't good with one
abbrev pub answered_as : Bool → Answers → TraceLine → Ones
answered_as all answers parts = if all && not (is_accepted (parts_judged parts.write parts.read))
    then ones_of answers parts.write parts.read else Answer

-- how a packet was received
abbrev pub ones_in : TellOptions → Known → Result TraceLine LineFault → Ones
ones_in options known (Ok parts) = if notes_comments options
    then received_by known.refused (answered_as options.all known.answers parts) else Answer
ones_in options known (Err fault) = Answer

-- what a packet teaches; if values are shown, a mode that it may have changed isn't known any more, and a packet of PAGE says
-- that its address has pages
abbrev pub taught_over : TellOptions → ℕ → Marks → TraceLine → Taught → Taught
taught_over options number marks parts taught = if options.values
    then paged_if (shows_pages marks.ones parts) (judged_address (judged_by options.all marks.ones parts))
    (changed_by number (judged_address (judged_by options.all marks.ones parts))
    (change_by marks (other_address options.all marks.ones parts) (judged_by options.all marks.ones parts) parts) taught) else taught

-- a refused packet teaches nothing, nor does an answer that may be nobody's, or a packet that is marked; behind a line that can't be
-- read no mode is known
abbrev pub taught_read : TellOptions → ℕ → Marks → Result TraceLine LineFault → Taught → Taught
taught_read options number marks (Ok parts) taught = if not (ones_are_answer marks.ones) || is_some marks.wrong
    then taught_over options number marks parts taught
    else taught_by number marks.reached (taught_over options number marks parts taught) (judged_by options.all marks.ones parts)
taught_read options number marks (Err fault) taught = taught_lost number taught

-- what is known of answers after a clear packet: of ones if packets without PEC are shown, of codes if PAGE is followed
abbrev pub ones_told : TellOptions → Ones → TraceLine → Answers → Answers
ones_told options ones parts answers = if options.all then answers_by parts.write parts.read
    (is_checked (other_address options.all ones parts) (is_without_pec options.all ones parts) parts) answers else answers

abbrev pub codes_told : TellOptions → TraceLine → Answers → Answers
codes_told options parts answers = if options.pages then answered_by parts.write answers else answers

abbrev pub answers_read : TellOptions → Ones → Result TraceLine LineFault → Answers → Answers
answers_read options ones (Ok parts) answers =
    if (options.all || options.pages)
    && (is_received ones parts && is_told (other_address options.all ones parts) (judged_by options.all ones parts))
    then codes_told options parts (ones_told options ones parts answers) else answers
answers_read options ones (Err fault) answers = answers

-- whether each packet that isn't good would be with its PEC
abbrev pub lacking_read : Bool → Result TraceLine LineFault → Bool → Bool
lacking_read all (Ok parts) lacking = lacking_by all parts lacking
lacking_read all (Err fault) lacking = lacking

-- the first line that begins with its time
abbrev pub first_timed_line : TellOptions → ℕ → Result TraceLine LineFault → Option ℕ → Option ℕ
first_timed_line options number (Ok parts) before = timed_by options number parts before
first_timed_line options number (Err fault) before = before

-- the time of the first packet
abbrev pub first_read : Option ℕ → Result TraceLine LineFault → Option ℕ → Option ℕ
first_read time (Ok parts) before = option_or before time
first_read time (Err fault) before = before

-- the marks of a packet with that of its word, if these are shown
abbrev pub marks_with : TellOptions → Words → Marks → TraceLine → Marks
marks_with options words marks parts = record marks {
  changed = changed_since words (if options.explain then word_read words marks
      (other_address options.all marks.ones parts) (judged_by options.all marks.ones parts) parts else None);
}

abbrev pub marks_shown : TellOptions → Words → Marks → Result TraceLine LineFault → Marks
marks_shown options words marks (Ok parts) = marks_with options words marks parts
marks_shown options words marks (Err fault) = marks

-- the words that were read, after a packet
abbrev pub words_told : TellOptions → ℕ → Marks → TraceLine → Words → Words
words_told options number marks parts words = if options.explain then words_heard number marks
    (other_address options.all marks.ones parts) (judged_by options.all marks.ones parts) parts words else words

abbrev pub words_read : TellOptions → ℕ → Marks → Result TraceLine LineFault → Words → Words
words_read options number marks (Ok parts) words = words_told options number marks parts words
words_read options number marks (Err fault) words = words_lost number words

-- what is known after a packet, or a line that can't be read
abbrev pub known_told : TellOptions → ℕ → Option ℕ → Ones → Result TraceLine LineFault → Known → Known
known_told options number time ones parts known = record {
  taught = taught_read options number (marks_in options known.pages known.answers ones time parts) parts known.taught;
  pages = pages_read options number known.answers ones time parts known.pages;
  beyond = beyond_by options known.taught (marks_in options known.pages known.answers ones time parts).reached number
      (judged_as options.all ones parts) known.beyond;
  answers = answers_read options ones parts known.answers;
  refused = if notes_comments options then None else known.refused;
  paging = paging_by options number (judged_as options.all ones parts) known.paging;
  lacking = lacking_read options.all parts known.lacking;
  timed = first_timed_line options number parts known.timed;
  first = first_read time parts known.first;
  words = words_read options number (marks_in options known.pages known.answers ones time parts) parts known.words;
  parts = known.parts;
}

-- something was lost in a line, of nobody knows which address
abbrev pub known_lost : ℕ → Known → Known
known_lost number known =
    record known { taught = taught_lost number known.taught; pages = lost_in number known.pages; words = words_lost number known.words }

-- the line is a general call that may change PAGE or VOUT_MODE of any part
abbrev pub is_of_any : TellOptions → Result TraceLine LineFault → Bool
is_of_any options (Ok parts) = notes_comments options && is_to_all parts.write (is_some parts.read)
is_of_any options (Err fault) = false

-- what is known after a line that isn't skipped, which was received so
abbrev pub known_with : TellOptions → ℕ → Option ℕ → Ones → Result TraceLine LineFault → Known → Known
known_with options number time ones parts known = if is_of_any options parts
    then known_lost number (known_told options number time ones parts known) else known_told options number time ones parts known

abbrev pub known_read : TellOptions → ℕ → Option ℕ → Result TraceLine LineFault → Known → Known
known_read options number time parts known = known_with options number time (ones_in options known parts) parts known

-- the first refusal before a packet
abbrev pub first_refusal : Option Refusal → Refusal → Option Refusal
first_refusal None refusal = Some refusal
first_refusal (Some before) refusal = Some before

-- what is known after a comment that shows a packet; `lost` is whether nobody answered what was answered before
abbrev pub known_shown : ℕ → Bool → ShownPacket → Known → Known
known_shown number lost shown known = record known {
  taught = paged_if shown.has_pages (Some (shown.first / 2)) (changed_by number (Some (shown.first / 2)) (shown_change lost shown) known.taught);
  pages = pages_shown number (shown.first / 2) (shown_use lost shown) known.pages;
  words = words_shown number lost shown known.words;
}

-- what is known after a comment that shows a packet to all parts, or to one
abbrev pub known_shows : TellOptions → ℕ → ShownPacket → Known → Known
known_shows options number shown known = if shown_ends_all options (is_named known.parts (shown.first / 2)) shown
    then known_lost number known else known_shown number (is_lost_shown known.answers shown) shown known

-- what is known after a comment that says this
abbrev pub known_remarked : TellOptions → ℕ → Remark → Known → Known
known_remarked options number Elsewhere known = known
known_remarked options number (Refuses refusal) known = record known { refused = first_refusal known.refused refusal }
known_remarked options number (Shows shown) known = known_shows options number shown known
known_remarked options number Loss known = known_lost number known

-- the first time, after a transfer that failed
abbrev pub first_failed : Option Failure → Option ℕ → Option ℕ
first_failed None first = first
first_failed (Some failure) first = option_or first failure.time

-- what is known after a comment
abbrev pub known_noted : TellOptions → ℕ → Note → Known → Known
known_noted options number note known =
    record (known_remarked options number note.remark known) { first = first_failed note.failure known.first }

-- ---- a packet whose address is no part's

-- the packet's address answers as a part does that SMBus keeps for something else, or did
abbrev pub is_part : Bool → Addresses → Ones → TraceLine → ℕ → Bool
is_part all named ones parts addr = is_named named addr || (is_some (kept_for addr) && shows_part all ones parts)

abbrev pub special_to : TellOptions → Known → TraceLine → Option ℕ → Option Special
special_to options known parts None = None
special_to options known parts (Some addr) =
    special_of options (is_part options.all known.parts (ones_in options known (Ok parts)) parts addr) addr

-- what its address is, if that is no part's; without an option that changes what is shown each address is a part's
abbrev pub special_in : TellOptions → Known → Result TraceLine LineFault → Option Special
special_in options known (Ok parts) = if notes_comments options then special_to options known parts (written_to parts.write) else None
special_in options known (Err fault) = None

-- the line is set aside for what its packet's address is
abbrev pub aside_by : Option Special → Reading → Said
aside_by None reading = Told reading
aside_by (Some special) reading = Aside special reading

abbrev pub seen_as : TellOptions → Known → Said → Said
seen_as options known (Told reading) = aside_by (special_in options known reading.parts) reading
seen_as options known (Aside special reading) = Aside special reading
seen_as options known (Noted note) = Noted note

-- what is known after such a line
abbrev pub parts_aside : ℕ → Special → Result TraceLine LineFault → Known → Known
parts_aside number special (Ok parts) known = if aside_ends_all special parts then known_lost number known
    else record known { words = words_aside number parts.write known.words }
parts_aside number special (Err fault) known = known

abbrev pub known_aside : TellOptions → ℕ → Special → Option ℕ → Result TraceLine LineFault → Known → Known
known_aside options number special time parts known = record (parts_aside number special parts known) {
  refused = None;
  timed = first_timed_line options number parts known.timed;
  first = first_read time parts known.first;
}

-- a packet to a part: its address may answer as a part does
abbrev pub parts_after_packet : TellOptions → Known → TraceLine → Option ℕ → Addresses
parts_after_packet options known parts None = known.parts
parts_after_packet options known parts (Some addr) = if is_some (kept_for addr)
    && shows_part options.all (ones_in options known (Ok parts)) parts then with_address addr known.parts else known.parts

abbrev pub parts_with : TellOptions → Known → Result TraceLine LineFault → Addresses
parts_with options known (Ok parts) = if notes_comments options then parts_after_packet options known parts (written_to parts.write)
    else known.parts
parts_with options known (Err fault) = known.parts

abbrev pub part_seen : TellOptions → Result TraceLine LineFault → Known → Known
part_seen options parts known = record known { parts = parts_with options known parts }

-- ---- after a line

abbrev pub known_said : TellOptions → ℕ → Said → Known → Known
known_said options number (Told reading) known =
    known_read options number reading.time reading.parts (part_seen options reading.parts known)
known_said options number (Aside special reading) known = known_aside options number special reading.time reading.parts known
known_said options number (Noted note) known = known_noted options number note known

abbrev pub known_by : TellOptions → Known → Entry → Known
known_by options known entry = known_said options entry.0 (seen_as options known entry.1) known

-- what is known after several lines
abbrev pub known_from : TellOptions → Known → List Entry → Known
known_from options known entries = fold (known_by options) known entries

-- a time, counted from the first one
abbrev pub time_since : Option ℕ → Option ℕ → Option ℤ
time_since first None = None
time_since first (Some time) = Some (pos time -ℤ pos (unwrap_or first time))

-- ---- how a line is counted

-- the code of a packet that is shown otherwise
abbrev pub code_if : Option ℕ → ℕ → Option ℕ
code_if None code = None
code_if (Some addr) code = Some code

abbrev pub other_code_in : Bool → Ones → Result TraceLine LineFault → Option ℕ
other_code_in all ones (Ok parts) = if is_refused ones then None
    else code_if (other_address all ones parts) (content_of parts.write parts.read).code
other_code_in all ones (Err fault) = None

abbrev pub other_code_of : Bool → Ones → Said → Option ℕ
other_code_of all ones (Told reading) = other_code_in all ones reading.parts
other_code_of all ones (Aside special reading) = None
other_code_of all ones (Noted note) = None

-- a line that was received so
abbrev pub Heard : Type 0
Heard = Ones × Entry

abbrev pub other_code : Bool → Heard → Option ℕ
other_code all heard = other_code_of all heard.0 heard.1.1

-- a line that is shown as the command table has it, and wasn't refused
abbrev pub told_unless : Option ℕ → ToldLine → Option ToldLine
told_unless None told = Some told
told_unless (Some code) told = None

abbrev pub told_as : Bool → Ones → ℕ → Said → Option ToldLine
told_as all ones number (Told reading) = if is_refused ones then None
    else told_unless (other_code_in all ones reading.parts) (number, judged_as all ones reading.parts)
told_as all ones number (Aside special reading) = None
told_as all ones number (Noted note) = None

abbrev pub told_in : Bool → Heard → Option ToldLine
told_in all heard = told_as all heard.0 heard.1.0 heard.1.1

-- how a line was received by what is known before it
abbrev pub ones_said : TellOptions → Known → Said → Ones
ones_said options known (Told reading) = ones_in options known reading.parts
ones_said options known (Aside special reading) = ones_in options known reading.parts
ones_said options known (Noted note) = Answer

abbrev pub heard_as : TellOptions → Known → Entry → Heard
heard_as options known entry = (ones_said options known entry.1, (entry.0, seen_as options known entry.1))

-- how lines one after another were received
abbrev pub heard_all : TellOptions → Known → List Entry → List Heard
heard_all options known [] = []
heard_all options known (entry ∷ entries) =
    heard_as options known entry ∷ heard_all options (known_by options known entry) entries

-- how many of them were refused
abbrev pub more_refused : Ones → ℕ → ℕ
more_refused ones count = if is_refused ones then count + 1 else count

abbrev pub refusals : List Heard → ℕ
refusals [] = 0
refusals (heard ∷ lines) = more_refused heard.0 (refusals lines)

-- how many were set aside, and not refused
abbrev pub is_aside : Said → Bool
is_aside (Told reading) = false
is_aside (Aside special reading) = true
is_aside (Noted remark) = false

abbrev pub more_aside : Heard → ℕ → ℕ
more_aside heard count = if is_aside heard.1.1 && not (is_refused heard.0) then count + 1 else count

abbrev pub asides : List Heard → ℕ
asides [] = 0
asides (heard ∷ lines) = more_aside heard (asides lines)

-- ---- all that is heard

-- what is known, the counts of the lines that are shown as the command table has them, how often each other code was carried, how many
-- packets were refused, and how many went to an address that is no part's
pub record HeardLines : Type 0 where
  pub known : Known
  pub counts : Counts
  pub others : List (ℕ × ℕ)
  pub refused : ℕ
  pub special : ℕ

-- what is known after these lines
unfoldable pub heard_in_lines : TellOptions → List Entry → HeardLines
heard_in_lines options entries = record {
  known = known_from options unknown entries;
  counts = counts_of (filter_map (told_in options.all) (heard_all options unknown entries));
  others = counted (filter_map (other_code options.all) (heard_all options unknown entries));
  refused = refusals (heard_all options unknown entries);
  special = asides (heard_all options unknown entries);
}

-- before the first
abbrev pub unheard : HeardLines
unheard = record { known = unknown; counts = counts_of []; others = []; refused = 0; special = 0 }

-- how many lines there were
abbrev pub heard_lines : HeardLines → ℕ
heard_lines heard = lines_in heard.counts + total_of heard.others + heard.refused + heard.special

-- ---- one line more

abbrev pub more_if : List (ℕ × ℕ) → Option ℕ → List (ℕ × ℕ)
more_if others None = others
more_if others (Some code) = one_more others code

abbrev pub line_heard_with : TellOptions → HeardLines → Entry → HeardLines
line_heard_with options heard entry = record {
  known = known_by options heard.known entry;
  counts = counts_with heard.counts (told_in options.all (heard_as options heard.known entry));
  others = more_if heard.others (other_code options.all (heard_as options heard.known entry));
  refused = more_refused (heard_as options heard.known entry).0 heard.refused;
  special = more_aside (heard_as options heard.known entry) heard.special;
}

-- a line that is shown as a packet to a part
abbrev pub heard_told : TellOptions → ℕ → Reading → HeardLines → HeardLines
heard_told options number reading heard = record heard {
  known = known_read options number reading.time reading.parts heard.known;
  counts = counts_with heard.counts (told_as options.all (ones_in options heard.known reading.parts) number (Told reading));
  others = more_if heard.others (other_code_in options.all (ones_in options heard.known reading.parts) reading.parts);
  refused = more_refused (ones_in options heard.known reading.parts) heard.refused;
}

-- one that is set aside
abbrev pub heard_aside : TellOptions → ℕ → Option ℕ → Special → Ones → Result TraceLine LineFault → HeardLines → HeardLines
heard_aside options number time special ones parts heard = record heard {
  known = known_aside options number special time parts heard.known;
  refused = more_refused ones heard.refused;
  special = if not (is_refused ones) then heard.special + 1 else heard.special;
}

-- a packet is counted by how it was received, by its address and code if it is shown by these, and by what it says
abbrev pub code_counted_as : Ones → Option ℕ → ℕ → Option ℕ
code_counted_as ones other code = if is_refused ones then None else code_if other code

abbrev pub counted_with : Ones → Option ℕ → ℕ → ToldLine → HeardLines → HeardLines
counted_with ones other code told heard = record {
  known = heard.known;
  counts = counts_with heard.counts (if is_refused ones then None else told_unless (code_counted_as ones other code) told);
  others = more_if heard.others (code_counted_as ones other code);
  refused = more_refused ones heard.refused;
  special = heard.special;
}

-- ---- what may be wrong

-- there are bad lines, and no packet was shown as a good one or by its code
abbrev pub is_none_told : HeardLines → Bool
is_none_told heard = heard.counts.accepted == 0 && (total_of heard.others == 0 && nat_lt 0 heard.counts.bad)

-- then with times no line is a time and a packet, if no packet has a fault; without them no line is a good packet
abbrev pub lines_hint : Bool → ℕ → Option Hint
lines_hint true faults = if faults == 0 then Some NoTimes else None
lines_hint false faults = Some NoGoodPacket

-- packets without PEC aren't shown, and there are faults of packets that would all be good with it
abbrev pub is_without_any_pec : Bool → HeardLines → Bool
is_without_any_pec all heard =
    heard.counts.accepted == 0 && (nat_lt 0 heard.counts.faults && (heard.known.lacking && not all))

-- PAGE was written, and isn't followed
abbrev pub paging_hint : Option ℕ → Option Hint
paging_hint None = None
paging_hint (Some line) = Some (Paging line)

abbrev pub hint_from : Option Hint → Bool → Option ℕ → Option Hint
hint_from (Some hint) lacking paging = Some hint
hint_from None lacking paging = if lacking then Some NoPec else paging_hint paging

-- an order beyond 1000 V comes first, then a line that begins with its time
abbrev pub first_hint : Option ℕ → Option ℕ → Option Hint → Option Hint
first_hint (Some line) timed lines = Some (Beyond line)
first_hint None (Some line) lines = Some (Timed line)
first_hint None None lines = lines

abbrev pub hint_by : TellOptions → HeardLines → Option Hint
hint_by options heard = hint_from (first_hint heard.known.beyond heard.known.timed
    (if is_none_told heard then lines_hint options.times heard.counts.faults else None))
    (is_without_any_pec options.all heard) heard.known.paging

-- how a capture ends of which this was heard
abbrev pub told_end : TellOptions → HeardLines → TellEnd
told_end options heard = record { end = decode_end_of heard.counts; hint = hint_by options heard }
