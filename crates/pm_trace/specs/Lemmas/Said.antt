-- What is kept and said of a text with one byte more at its end, with more bytes, and at its end.
use Rattle.std.proofs.Common.{◌≡◌, ℕ, ◌+◌, ◌-◌, ◌≤◌, eqb, Bool, true, false, cond, not, ◌||◌, ◌&&◌, List, [], ◌∷◌, ◌++◌, length, map}
use Rattle.std.proofs.Common.{filter, take, Option, Some, None, Ok, Err, refl, sym, ap, ◌∙◌, arith, append_assoc, append-nil}
use Rattle.std.proofs.Common.{length-append}
use Rattle.std.specs.Prelude.{is_some, nat_eq}
use Rattle.std.specs.List.{list_any, list_all, ends_with, enumerate_from, filter_map, count_by}
use Rattle.std.proofs.Math.Bool.{and-true, or-true, or-false, or_assoc}
use Rattle.std.proofs.lemmas.Bool.{or_parts}
use Rattle.std.proofs.lemmas.Bool.Decides.{nat_tests}
use Rattle.std.proofs.lemmas.List.{map-append, take_all}
use Rattle.std.proofs.lemmas.List.Elements.{filter-append, filter_map-append}
use Rattle.std.proofs.lemmas.List.Folds.{list_any-append}
use Rattle.std.proofs.lemmas.List.Sums.{sum_by-append, fold-append}
use Rattle.pm_lines.specs.Lines.{is_line_feed, is_space, is_skipped, is_unskipped, has_bytes, without_return, without_empty_last}
use Rattle.pm_lines.specs.Lines.{carriage_return, lines_of, unskipped_from}
use Rattle.pm_trace.specs.Marks.{ended_pieces, since, before, after_first_mark}
use Rattle.pm_trace.specs.Trace.{ToldLine, told_of_line, Accepted, Faulty, BadSyntax, BadHex, is_slash, is_separator, is_bad_word}
use Rattle.pm_trace.specs.Trace.{has_bad_word}
use Rattle.pm_trace.specs.Trace.{is_long, is_misshapen, part_bytes, parts_of, line_read, line_judged, reading_judged, trace_of, unpaired}
use Rattle.pm_trace.specs.Trace.{max_part}
use Rattle.pm_trace.specs.Counts.{counts_of, counts_with, one_counted, one_more, counted, code_told, is_line_accepted, is_faulty, is_bad}
use Rattle.pm_trace.specs.Parts.{part_of}
use Rattle.pm_trace.specs.OpenLines.{kind_of, is_skipped_kind, is_empty_kind, plain_line, open_read, open_judged}
use Rattle.pm_trace.specs.OpenLines.{open_line_of, line_takes, is_begun}
use Rattle.pm_trace.specs.Decoding.{kept_of_bytes, said, kept_takes, kept_with_bytes, told, some_told, line_told, line_ended, told_at_end}
use Rattle.pm_trace.specs.declared.line_fault.LineFault.TheVariants as fault
use Rattle.pm_trace.specs.declared.decoder.line_kind.LineKind.TheVariants.{Blank, Comment, Packet}
use Rattle.pm_trace.specs.declared.trace_line.TraceLine.{TraceLine}
use Rattle.hex.specs.Hex.{is_hex_digit}
use Rattle.pm_frame.specs.View.{message_code}
use Rattle.pm_trace.specs.Lemmas.Marks.{ended-mark, ended-other, since-mark, since-other, split-ended}
use Rattle.pm_trace.specs.Lemmas.OpenLines.{eqb_is_symmetric, line_of-snoc}
use Rattle.pm_trace.specs.Lemmas.PlainLines.{has_slash-is, has_more-is}

-- ---- a line by what is kept of it

-- a line is skipped by its kind
-- Stands for the clause of `OpenLine::is_skipped`.
pub skipped_kind : (line : List ℕ) → is_skipped line ≡ is_skipped_kind (kind_of line)
skipped_kind [] = refl
skipped_kind (x ∷ xs) =
    ap (λ c. (is_space x && list_all is_space xs) || c) (and-true (eqb 35 x) ∙ eqb_is_symmetric 35 x)
    ∙ by (is_space x && list_all is_space xs) (eqb x 35)
  where
    by : (blank hash : Bool) → (blank || hash) ≡ is_skipped_kind (cond hash Comment (cond blank Blank Packet))
    by true true = refl
    by true false = refl
    by false true = refl
    by false false = refl

-- a bad word is one that ended or the last one
bad_word : (line : List ℕ) → has_bad_word line
    ≡ ((list_any is_bad_word (ended_pieces is_separator line) || not (list_all is_hex_digit (since is_separator line)))
    || is_some (unpaired (since is_separator line)))
bad_word line =
    ap (list_any is_bad_word) (split-ended is_separator line)
    ∙ list_any-append is_bad_word (ended_pieces is_separator line) (since is_separator line ∷ [])
    ∙ ap (λ c. list_any is_bad_word (ended_pieces is_separator line) || c) (or-false (is_bad_word (since is_separator line)))
    ∙ sym (or_assoc (list_any is_bad_word (ended_pieces is_separator line)) (not (list_all is_hex_digit (since is_separator line)))
    (is_some (unpaired (since is_separator line))))

-- a part that isn't too long is kept whole
short_part : (part : List ℕ) → is_long part ≡ false → take max_part (part_bytes part) ≡ part_bytes part
short_part part short =
    let few : length (part_bytes part) ≤ max_part = grind (arith, nat_tests) in
    take_all max_part (part_bytes part) few

-- as much of the parts as is kept
abbrev pub short_parts : List ℕ → TraceLine
short_parts line = record {
  write = take max_part (part_bytes (before is_slash line));
  read = cond (list_any is_slash line) (Some (take max_part (part_bytes (after_first_mark is_slash line)))) None;
}

-- the law of a line's reading: what is kept of a line reads as the line does
-- Stands for `parts` and `fault` of `OpenLine::parts`.
pub open_reads : (line : List ℕ) → open_read (plain_line line) ≡ line_read line
unfolding open_read plain_line line_read part_of
open_reads line =
    rw (has_more-is line, has_slash-is line) (
    ap (λ c. cond c (Err fault.BadHex) (cond (is_misshapen line) (Err fault.Syntax) (Ok (short_parts line)))) (sym (bad_word line))
    ∙ by (has_bad_word line) (is_misshapen line) refl
    )
  where
    by : (bad wrong : Bool) → is_misshapen line ≡ wrong
        → cond bad (Err fault.BadHex) (cond wrong (Err fault.Syntax) (Ok (short_parts line)))
        ≡ cond bad (Err fault.BadHex) (cond wrong (Err fault.Syntax) (Ok (parts_of line)))
    by true wrong is = refl
    by false true is = refl
    by false false is =
        let parts = or_parts (list_any is_slash (after_first_mark is_slash line)) (is_long (before is_slash line) || is_long
        (after_first_mark is_slash line)) is in
        let longs = or_parts (is_long (before is_slash line)) (is_long (after_first_mark is_slash line)) parts.1 in
        λ i. Ok (record {
          write = short_part (before is_slash line) longs.0 i;
          read = cond (list_any is_slash line) (Some (short_part (after_first_mark is_slash line) longs.1 i)) None;
        })

-- what it says, though its carriage return is held back
pub open_judges : (line : List ℕ) → open_judged (open_line_of line) ≡ line_judged (without_return line)
unfolding open_line_of open_read
open_judges line = ap reading_judged (open_reads (without_return line))

-- a line that has a byte is begun
pub line_with_bytes_is_begun : (line : List ℕ) → is_begun (open_line_of line) ≡ has_bytes line
unfolding open_line_of plain_line
line_with_bytes_is_begun [] = refl
line_with_bytes_is_begun (x ∷ xs) = by (ends_with nat_eq (x ∷ xs) carriage_return) refl
  where
    some : (hash blank : Bool) → not (is_empty_kind (cond hash Comment (cond blank Blank Packet))) ≡ true
    some true blank = refl
    some false true = refl
    some false false = refl

    by : (c : Bool) → ends_with nat_eq (x ∷ xs) carriage_return ≡ c
        → (not (is_empty_kind (kind_of (cond c (take (length (x ∷ xs) - 1) (x ∷ xs)) (x ∷ xs)))) || c) ≡ true
    by true is = or-true (not (is_empty_kind (kind_of (take (length (x ∷ xs) - 1) (x ∷ xs)))))
    by false other = rw (some (eqb x 35) (is_space x && list_all is_space xs)) refl

-- ---- the lines that ended

-- one line more has the next number
-- Stands for the number that `Decoder::line` gives.
pub enumerate_from-snoc : (n : ℕ) (ls : List (List ℕ)) (l : List ℕ)
    → enumerate_from n (ls ++ l ∷ []) ≡ enumerate_from n ls ++ (n + length ls, l) ∷ []
enumerate_from-snoc n [] l = let same : n ≡ n + 0 = omega arith in ap (λ k. (k, l) ∷ []) same
enumerate_from-snoc n (x ∷ xs) l =
    let same : n + 1 + length xs ≡ n + length (x ∷ xs) = omega arith in
    ap (λ r. (n, x) ∷ r) (enumerate_from-snoc (n + 1) xs l ∙ ap (λ k. enumerate_from (n + 1) xs ++ (k, l) ∷ []) same)

-- no line is lost
-- Stands for the number that `Decoder::line` gives.
pub length-map : (ls : List (List ℕ)) → length (map without_return ls) ≡ length ls
length-map [] = refl
length-map (l ∷ ls) = let rest = length-map ls in omega arith

-- what the lines say that are not skipped
abbrev pub told_lines : List (List ℕ) → List ToldLine
told_lines lines = map told_of_line (filter is_unskipped (enumerate_from 1 lines))

-- one line more is told, or skipped
told_lines-snoc : (lines : List (List ℕ)) (line : List ℕ)
    → told_lines (lines ++ line ∷ []) ≡ told_lines lines ++ map told_of_line (filter is_unskipped ((1 + length lines, line) ∷ []))
told_lines-snoc lines line =
    ap (λ l. map told_of_line (filter is_unskipped l)) (enumerate_from-snoc 1 lines line)
    ∙ ap (map told_of_line) (filter-append is_unskipped (enumerate_from 1 lines) ((1 + length lines, line) ∷ []))
    ∙ map-append told_of_line (filter is_unskipped (enumerate_from 1 lines)) (filter is_unskipped ((1 + length lines, line) ∷ []))

-- the line that goes on, as if it ended here
told_here : (bytes : List ℕ) → let line = without_return (since is_line_feed bytes) in
    map told_of_line (filter is_unskipped ((1 + length (map without_return (ended_pieces is_line_feed bytes)), line) ∷ []))
    ≡ some_told (line_told
    (kept_of_bytes bytes))
unfolding kept_of_bytes open_line_of plain_line
told_here bytes = by (is_skipped_kind (kind_of (without_return (since is_line_feed bytes)))) refl
  where
    line : List ℕ
    line = without_return (since is_line_feed bytes)

    count : 1 + length (map without_return (ended_pieces is_line_feed bytes)) ≡ length (ended_pieces is_line_feed bytes) + 1
    count = let mapped = length-map (ended_pieces is_line_feed bytes) in omega arith

    by : (c : Bool) → is_skipped_kind (kind_of line) ≡ c
        → map told_of_line (filter is_unskipped ((1 + length (map without_return (ended_pieces is_line_feed bytes)), line) ∷ []))
        ≡ some_told
        (cond c None (Some (length (ended_pieces is_line_feed bytes) + 1, open_judged (open_line_of (since is_line_feed bytes)))))
    by true skipped =
        ap (λ c. map told_of_line (cond (not c) ((1 + length (map without_return (ended_pieces is_line_feed bytes)), line) ∷ []) []))
        (skipped_kind line ∙ skipped)
    by false unskipped =
        ap (λ c. map told_of_line (cond (not c) ((1 + length (map without_return (ended_pieces is_line_feed bytes)), line) ∷ []) []))
        (skipped_kind line ∙ unskipped)
        ∙ (λ i. (count i, sym (open_judges (since is_line_feed bytes)) i) ∷ [])

-- a line feed more
said-mark : (bytes : List ℕ) (b : ℕ) → is_line_feed b ≡ true → said (bytes ++ b ∷ []) ≡ said bytes
    ++ some_told (line_told (kept_of_bytes bytes))
unfolding said
said-mark bytes b is =
    ap (λ l. told_lines (map without_return l)) (ended-mark is_line_feed bytes b is)
    ∙ ap told_lines (map-append without_return (ended_pieces is_line_feed bytes) (since is_line_feed bytes ∷ []))
    ∙ told_lines-snoc (map without_return (ended_pieces is_line_feed bytes)) (without_return (since is_line_feed bytes))
    ∙ ap (λ l. told_lines (map without_return (ended_pieces is_line_feed bytes)) ++ l) (told_here bytes)

-- another byte more
said-other : (bytes : List ℕ) (b : ℕ) → is_line_feed b ≡ false → said (bytes ++ b ∷ []) ≡ said bytes
unfolding said
said-other bytes b other = ap (λ l. told_lines (map without_return l)) (ended-other is_line_feed bytes b other)

-- ---- the counts

-- one line more of a kind
count_yes : (p : ToldLine → Bool) (lines : List ToldLine) (line : ToldLine) → p line ≡ true → count_by p (lines ++ line ∷ []) ≡ count_by p lines + 1
count_yes p lines line is = sum_by-append (λ x. cond (p x) 1 0) lines (line ∷ []) ∙ rw is refl

-- one line more of another kind
count_no : (p : ToldLine → Bool) (lines : List ToldLine) (line : ToldLine) → p line ≡ false → count_by p (lines ++ line ∷ []) ≡ count_by p lines
count_no p lines line other = sum_by-append (λ x. cond (p x) 1 0) lines (line ∷ []) ∙ rw other (omega arith)

-- a line without a code
counted_same : (lines : List ToldLine) (line : ToldLine) → code_told line ≡ None
    → counted (filter_map code_told (lines ++ line ∷ [])) ≡ counted (filter_map code_told lines)
counted_same lines line none =
    let same : filter_map code_told (lines ++ line ∷ []) ≡ filter_map code_told lines =
    filter_map-append code_told lines (line ∷ []) ∙ rw none (append-nil (filter_map code_told lines)) in
    ap counted same

-- a line with a code
counted_more : (lines : List ToldLine) (line : ToldLine) (code : ℕ) → code_told line ≡ Some code
    → counted (filter_map code_told (lines ++ line ∷ [])) ≡ one_more (counted (filter_map code_told lines)) code
counted_more lines line code some =
    let more : filter_map code_told (lines ++ line ∷ []) ≡ filter_map code_told lines ++ code ∷ [] =
    filter_map-append code_told lines (line ∷ []) ∙ rw some refl in
    ap counted more ∙ fold-append one_more [] (filter_map code_told lines) (code ∷ [])

-- one line more is counted
-- Stands for `ok` of `Tally::count`.
pub counts_of-snoc : (lines : List ToldLine) (line : ToldLine) → counts_of (lines ++ line ∷ []) ≡ one_counted (counts_of lines) line.1
unfolding counts_of
counts_of-snoc lines (number, Accepted addr message answer) = λ i. record {
  accepted = count_yes is_line_accepted lines (number, Accepted addr message answer) refl i;
  faults = count_no is_faulty lines (number, Accepted addr message answer) refl i;
  bad = count_no is_bad lines (number, Accepted addr message answer) refl i;
  codes = counted_more lines (number, Accepted addr message answer) (message_code message) refl i;
}
counts_of-snoc lines (number, Faulty addr read fault) = λ i. record {
  accepted = count_no is_line_accepted lines (number, Faulty addr read fault) refl i;
  faults = count_yes is_faulty lines (number, Faulty addr read fault) refl i;
  bad = count_no is_bad lines (number, Faulty addr read fault) refl i;
  codes = counted_same lines (number, Faulty addr read fault) refl i;
}
counts_of-snoc lines (number, BadSyntax) = λ i. record {
  accepted = count_no is_line_accepted lines (number, BadSyntax) refl i;
  faults = count_no is_faulty lines (number, BadSyntax) refl i;
  bad = count_yes is_bad lines (number, BadSyntax) refl i;
  codes = counted_same lines (number, BadSyntax) refl i;
}
counts_of-snoc lines (number, BadHex) = λ i. record {
  accepted = count_no is_line_accepted lines (number, BadHex) refl i;
  faults = count_no is_faulty lines (number, BadHex) refl i;
  bad = count_yes is_bad lines (number, BadHex) refl i;
  codes = counted_same lines (number, BadHex) refl i;
}

-- one line more, if there is one
counts-with : (lines : List ToldLine) (line : Option ToldLine) → counts_of (lines ++ some_told line) ≡ counts_with (counts_of lines) line
counts-with lines None = ap counts_of (append-nil lines)
counts-with lines (Some line) = counts_of-snoc lines line

-- ---- what is kept

-- one byte more
-- Stands for the bytes taken in `fed` of `Decoder::feed`.
pub length-snoc : (bytes : List ℕ) (b : ℕ) → length (bytes ++ b ∷ []) ≡ length bytes + 1
length-snoc bytes b = length-append bytes (b ∷ [])

-- what is kept with a line feed more
now-mark : (bytes : List ℕ) (b : ℕ) → is_line_feed b ≡ true
    → kept_of_bytes (bytes ++ b ∷ []) ≡ record (line_ended (kept_of_bytes bytes)) { taken = length bytes + 1 }
unfolding kept_of_bytes
now-mark bytes b is = λ i. record {
  taken = length-snoc bytes b i;
  ended =
      (ap length (ended-mark is_line_feed bytes b is) ∙ length-append (ended_pieces is_line_feed bytes) (since is_line_feed bytes ∷ [])) i;
  counts = (ap counts_of (said-mark bytes b is) ∙ counts-with (said bytes) (line_told (kept_of_bytes bytes))) i;
  line = open_line_of (since-mark is_line_feed bytes b is i);
}

-- what is kept with another byte more
now-other : (bytes : List ℕ) (b : ℕ) → is_line_feed b ≡ false
    → kept_of_bytes (bytes ++ b ∷ [])
    ≡ record (kept_of_bytes bytes) { taken = length bytes + 1; line = line_takes (open_line_of (since is_line_feed bytes)) b }
unfolding kept_of_bytes
now-other bytes b other = λ i. record {
  taken = length-snoc bytes b i;
  ended = length (ended-other is_line_feed bytes b other i);
  counts = counts_of (said-other bytes b other i);
  line = (ap open_line_of (since-other is_line_feed bytes b other) ∙ line_of-snoc (since is_line_feed bytes) b) i;
}

-- what is kept with one byte more
now-snoc : (bytes : List ℕ) (b : ℕ) → kept_of_bytes (bytes ++ b ∷ []) ≡ kept_takes (kept_of_bytes bytes) b
unfolding kept_takes kept_of_bytes
now-snoc bytes b = by (is_line_feed b) refl
  where
    by : (c : Bool) → is_line_feed b ≡ c → kept_of_bytes (bytes ++ b ∷ [])
        ≡ cond c (record (line_ended (kept_of_bytes bytes)) { taken = length bytes + 1 })
        (record (kept_of_bytes bytes) { taken = length bytes + 1; line = line_takes (open_line_of (since is_line_feed bytes)) b })
    by true is = now-mark bytes b is
    by false other = now-other bytes b other

-- what is said with one byte more
said-snoc : (bytes : List ℕ) (b : ℕ) → said (bytes ++ b ∷ []) ≡ said bytes
    ++ cond (is_line_feed b) (some_told (line_told (kept_of_bytes bytes))) []
said-snoc bytes b = by (is_line_feed b) refl
  where
    by : (c : Bool) → is_line_feed b ≡ c → said (bytes ++ b ∷ []) ≡ said bytes ++ cond c (some_told (line_told (kept_of_bytes bytes))) []
    by true is = said-mark bytes b is
    by false other = said-other bytes b other ∙ sym (append-nil (said bytes))

-- ---- more bytes

-- what is kept with further bytes
pub now-append : (bytes piece : List ℕ) → kept_of_bytes (bytes ++ piece) ≡ kept_with_bytes (kept_of_bytes bytes) piece
now-append bytes [] = ap kept_of_bytes (append-nil bytes)
now-append bytes (b ∷ piece) =
    ap kept_of_bytes (sym (append_assoc bytes (b ∷ []) piece)) ∙ now-append (bytes ++ b ∷ []) piece
    ∙ ap (λ k. kept_with_bytes k piece) (now-snoc bytes b)

-- what is said with further bytes
pub said-append : (bytes piece : List ℕ) → said (bytes ++ piece) ≡ said bytes ++ told (kept_of_bytes bytes) piece
said-append bytes [] = ap said (append-nil bytes) ∙ sym (append-nil (said bytes))
said-append bytes (b ∷ piece) =
    let here = cond (is_line_feed b) (some_told (line_told (kept_of_bytes bytes))) [] in
    ap said (sym (append_assoc bytes (b ∷ []) piece)) ∙ said-append (bytes ++ b ∷ []) piece
    ∙ ap (λ l. l ++ told (kept_of_bytes (bytes ++ b ∷ [])) piece) (said-snoc bytes b)
    ∙ append_assoc (said bytes) here (told (kept_of_bytes (bytes ++ b ∷ [])) piece)
    ∙ ap (λ k. said bytes ++ (here ++ told k piece)) (now-snoc bytes b)

-- ---- the end

-- the last line counts where it has bytes
pub last_kept : (ls : List (List ℕ)) (l : List ℕ) → without_empty_last (ls ++ l ∷ []) ≡ ls ++ cond (has_bytes l) (l ∷ []) []
last_kept [] l = refl
last_kept (x ∷ []) l = ap (λ r. x ∷ r) (last_kept [] l)
last_kept (x ∷ y ∷ ls) l = ap (λ r. x ∷ r) (last_kept (y ∷ ls) l)

-- the lines of a text, at its end
-- Stands for `finished` of `Decoder::finish`.
pub lines_of_at_end : (text : List ℕ) → lines_of text
    ≡ map without_return (ended_pieces is_line_feed text) ++ map without_return (cond (has_bytes (since is_line_feed text))
    (since is_line_feed text ∷ []) [])
unfolding lines_of
lines_of_at_end text =
    ap (λ l. map without_return (without_empty_last l)) (split-ended is_line_feed text)
    ∙ ap (map without_return) (last_kept (ended_pieces is_line_feed text) (since is_line_feed text))
    ∙ map-append without_return (ended_pieces is_line_feed text)
    (cond (has_bytes (since is_line_feed text)) (since is_line_feed text ∷ []) [])

-- a trace is told line by line
trace_lines : (text : List ℕ) → trace_of text ≡ told_lines (lines_of text)
unfolding trace_of unskipped_from
trace_lines text = refl

-- a line goes on where bytes follow the last line feed
line_begun : (text : List ℕ) → is_begun (kept_of_bytes text).line ≡ has_bytes (since is_line_feed text)
unfolding kept_of_bytes
line_begun text = line_with_bytes_is_begun (since is_line_feed text)

-- what is said is told of the lines that ended
said_lines : (text : List ℕ) → said text ≡ told_lines (map without_return (ended_pieces is_line_feed text))
unfolding said
said_lines text = refl

-- a trace is what was said, and what its end says
pub trace_of-end : (text : List ℕ) → trace_of text ≡ said text ++ some_told (told_at_end (kept_of_bytes text))
trace_of-end text = trace_lines text ∙ ap told_lines (lines_of_at_end text) ∙ by (has_bytes (since is_line_feed text)) refl
  where
    lines : List (List ℕ)
    lines = map without_return (ended_pieces is_line_feed text)

    at_end : (c : Bool) → has_bytes (since is_line_feed text) ≡ c → told_at_end (kept_of_bytes text)
        ≡ cond c (line_told (kept_of_bytes text)) None
    at_end c is = ap (λ d. cond d (line_told (kept_of_bytes text)) None) (line_begun text ∙ is)

    by : (c : Bool) → has_bytes (since is_line_feed text) ≡ c
        → told_lines (lines ++ map without_return (cond c (since is_line_feed text ∷ []) [])) ≡ said text ++ some_told (told_at_end
        (kept_of_bytes text))
    by true some =
        told_lines-snoc lines (without_return (since is_line_feed text)) ∙ ap (λ l. told_lines lines ++ l) (told_here text)
        ∙ ap (λ l. l ++ some_told (line_told (kept_of_bytes text))) (sym (said_lines text))
        ∙ ap (λ o. said text ++ some_told o) (sym (at_end true some))
    by false none =
        ap told_lines (append-nil lines) ∙ sym (said_lines text) ∙ sym (append-nil (said text))
        ∙ ap (λ o. said text ++ some_told o) (sym (at_end false none))

-- the counts at the end
pub counts-at_end : (text : List ℕ) → counts_of (trace_of text) ≡ counts_with (counts_of (said text)) (told_at_end (kept_of_bytes text))
counts-at_end text = ap counts_of (trace_of-end text) ∙ counts-with (said text) (told_at_end (kept_of_bytes text))
