-- What is kept of a line with one byte more at its end, and what it reads as if it ends.
use Rattle.std.proofs.Common.{◌≡◌, ℕ, ◌+◌, ◌-◌, ◌<◌, ◌≤◌, eqb, Bool, true, false, cond, not, ◌||◌, ◌&&◌, List, [], ◌∷◌, ◌++◌, length, take}
use Rattle.std.proofs.Common.{drop, get_or, true≢false, None}
use Rattle.std.proofs.Common.{refl, sym, ap, subst, ◌∙◌, arith, append_assoc, append-nil, inl, inr, length-append, ne_eqb}
use Rattle.std.proofs.lemmas.List.Folds.{list_any-append}
use Rattle.std.proofs.lemmas.List.Sums.{fold-append}
use Rattle.std.specs.Prelude.{nat_eq, nat_lt, codes}
use Rattle.std.specs.List.{fold, list_all, list_any, starts_with}
use Rattle.std.specs.Cmp.Lexicographic.{pointwise}
use Rattle.std.proofs.lemmas.Bool.{cases_lt, or_parts}
use Rattle.std.proofs.lemmas.Bool.Decides.{nat_tests}
use Rattle.std.proofs.lemmas.List.{take_all, length-take, length-take-le, take-append-le, take-take}
use Rattle.std.proofs.Math.Bool.{or-true, or-false, and-true}
use Rattle.pm_lines.specs.Lines.{has_bytes, is_line_feed, is_skipped, is_space, without_return}
use Rattle.pm_trace.specs.Marks.{before}
use Rattle.pm_trace.specs.OpenLines.{IsAtLineFeed, Passes, open_line_of, line_takes, open_read, plain_line}
use Rattle.pm_trace.specs.declared.decoder.open_line.OpenLine.{OpenLine}
use Rattle.pm_trace.specs.Parts.{part_of, part_takes}
use Rattle.pm_trace.specs.Trace.{line_read}
use Rattle.pm_trace.specs.Lemmas.OpenLines.{has_last, line_of-snoc, eqb_is_symmetric, without_return-snoc}
use Rattle.pm_trace.specs.Lemmas.PlainLines.{part_of-snoc}
use Rattle.pm_trace.specs.Lemmas.Said.{open_reads, skipped_kind}
use Rattle.pm_decode.specs.Options.{notes_comments}
use Rattle.pm_decode.specs.Readings.{Told, Noted, behind_word, first_word, from_first, is_comment, is_noted, is_passed, past_spaces, line_reading_of}
use Rattle.pm_decode.specs.Readings.{note_in, note_of, said_of_line, time_in, timed}
use Rattle.pm_decode.specs.TimedLines.{PassesTimed, line_begun_with, head_note, head_takes, is_comment_full, passes_timed, plain_line_takes, skips_timed, timed_of, timed_read}
use Rattle.pm_decode.specs.TimedLines.{timed_said, timed_takes, word_ended}
use Rattle.pm_decode.specs.declared.options.TellOptions.{TellOptions}
use Rattle.pm_decode.specs.declared.timed_line.TimedLine.{TimedLine}

-- ---- the first word with one byte more

-- no byte
none_there : (xs : List ℕ) → has_bytes xs ≡ false → xs ≡ []
none_there [] none = refl
none_there (x ∷ xs) none = absurd (cc)

-- a byte at the end
some_there : (xs : List ℕ) (b : ℕ) → has_bytes (xs ++ b ∷ []) ≡ true
some_there [] b = refl
some_there (x ∷ xs) b = refl

-- a byte at the end joins what stands from the first mark on, and may be the first if there was no mark
from_first-snoc : (mark : ℕ → Bool) (xs : List ℕ) (b : ℕ) → from_first mark (xs ++ b ∷ [])
    ≡ cond (has_bytes (from_first mark xs)) (from_first mark xs ++ b ∷ []) (from_first mark (b ∷ []))
from_first-snoc mark [] b = refl
from_first-snoc mark (x ∷ xs) b = by (mark x) refl (from_first-snoc mark xs b)
  where
    by : (c : Bool) → mark x ≡ c
        → from_first mark (xs ++ b ∷ []) ≡ cond (has_bytes (from_first mark xs)) (from_first mark xs ++ b ∷ []) (from_first mark (b ∷ []))
        → from_first mark ((x ∷ xs) ++ b ∷ [])
        ≡ cond (has_bytes (from_first mark (x ∷ xs))) (from_first mark (x ∷ xs) ++ b ∷ []) (from_first mark (b ∷ []))
    by true is rest = rw is refl
    by false is rest = rw is rest

-- a byte at the end joins what stands before the first mark if there was no mark and the byte is none
before-snoc : (mark : ℕ → Bool) (xs : List ℕ) (b : ℕ) → before mark (xs ++ b ∷ [])
    ≡ cond (has_bytes (from_first mark xs)) (before mark xs) (before mark xs ++ before mark (b ∷ []))
before-snoc mark [] b = refl
before-snoc mark (x ∷ xs) b = by (mark x) refl (before-snoc mark xs b)
  where
    inside : (c : Bool) (one two : List ℕ) → x ∷ cond c one two ≡ cond c (x ∷ one) (x ∷ two)
    inside true one two = refl
    inside false one two = refl

    by : (c : Bool) → mark x ≡ c
        → before mark (xs ++ b ∷ []) ≡ cond (has_bytes (from_first mark xs)) (before mark xs) (before mark xs ++ before mark (b ∷ []))
        → before mark ((x ∷ xs) ++ b ∷ [])
        ≡ cond (has_bytes (from_first mark (x ∷ xs))) (before mark (x ∷ xs)) (before mark (x ∷ xs) ++ before mark (b ∷ []))
    by true is rest = rw is refl
    by false is rest = rw is (ap (λ l. x ∷ l) rest
        ∙ inside (has_bytes (from_first mark xs)) (before mark xs) (before mark xs ++ before mark (b ∷ [])))

-- there is a word if a byte is no space
has_word : (xs : List ℕ) → has_bytes (first_word xs) ≡ has_bytes (past_spaces xs)
has_word [] = refl
has_word (x ∷ xs) = by (is_space x) refl (has_word xs)
  where
    by : (c : Bool) → is_space x ≡ c → has_bytes (first_word xs) ≡ has_bytes (past_spaces xs)
        → has_bytes (first_word (x ∷ xs)) ≡ has_bytes (past_spaces (x ∷ xs))
    by true is rest = rw is rest
    by false is rest = rw (is, is) refl

-- one byte that isn't after the word goes to it, if it is no space
abbrev word_takes : Bool → Bool → List ℕ → ℕ → List ℕ
word_takes over space word b = cond over word (cond space word (word ++ b ∷ []))

-- one byte goes after the word, if that is over or the byte is the space that ends it
abbrev behind_takes : Bool → Bool → Bool → List ℕ → ℕ → List ℕ
behind_takes over space some behind b = cond over (behind ++ b ∷ []) (cond (space && some) (b ∷ []) [])

-- a byte at the end of a line joins its first word if nothing follows that yet and the byte is no space
first_word-snoc : (xs : List ℕ) (b : ℕ) → first_word (xs ++ b ∷ [])
    ≡ word_takes (has_bytes (behind_word xs)) (is_space b) (first_word xs) b
first_word-snoc xs b = ap (before is_space) (from_first-snoc (λ x. not (is_space x)) xs b) ∙ by (has_bytes (past_spaces xs)) refl
  where
    one : (c : Bool) → is_space b ≡ c → before is_space (b ∷ []) ≡ cond c [] (b ∷ [])
    one true is = rw is refl
    one false is = rw is refl

    more : (over space : Bool) (word : List ℕ) → cond over word (word ++ cond space [] (b ∷ [])) ≡ word_takes over space word b
    more true space word = refl
    more false true word = append-nil word
    more false false word = refl

    alone : (space : Bool) → is_space b ≡ space → before is_space (cond (not space) (b ∷ []) []) ≡ word_takes false space [] b
    alone true is = refl
    alone false is = one false is

    by : (some : Bool) → has_bytes (past_spaces xs) ≡ some
        → before is_space (cond some (past_spaces xs ++ b ∷ []) (from_first (λ x. not (is_space x)) (b ∷ [])))
        ≡ word_takes (has_bytes (behind_word xs)) (is_space b) (first_word xs) b
    by true some =
        before-snoc is_space (past_spaces xs) b
        ∙ ap (λ l. cond (has_bytes (behind_word xs)) (first_word xs) (first_word xs ++ l)) (one (is_space b) refl)
        ∙ more (has_bytes (behind_word xs)) (is_space b) (first_word xs)
    by false none =
        alone (is_space b) refl
        ∙ ap (λ l. word_takes (has_bytes (from_first is_space l)) (is_space b) (before is_space l) b)
        (sym (none_there (past_spaces xs) none))

-- a byte at the end of a line goes after its first word if that is over or the byte is the space that ends it
behind_word-snoc : (xs : List ℕ) (b : ℕ) → behind_word (xs ++ b ∷ [])
    ≡ behind_takes (has_bytes (behind_word xs)) (is_space b) (has_bytes (first_word xs)) (behind_word xs) b
behind_word-snoc xs b = ap (from_first is_space) (from_first-snoc (λ x. not (is_space x)) xs b) ∙ by (has_bytes (past_spaces xs)) refl
  where
    one : (c : Bool) → is_space b ≡ c → from_first is_space (b ∷ []) ≡ cond (c && true) (b ∷ []) []
    one true is = rw is refl
    one false is = rw is refl

    alone : (space : Bool) → is_space b ≡ space → from_first is_space (cond (not space) (b ∷ []) []) ≡ behind_takes false space false [] b
    alone true is = refl
    alone false is = one false is

    by : (some : Bool) → has_bytes (past_spaces xs) ≡ some
        → from_first is_space (cond some (past_spaces xs ++ b ∷ []) (from_first (λ x. not (is_space x)) (b ∷ [])))
        ≡ behind_takes (has_bytes (behind_word xs)) (is_space b) (has_bytes (first_word xs)) (behind_word xs) b
    by true some =
        from_first-snoc is_space (past_spaces xs) b
        ∙ ap (λ l. cond (has_bytes (behind_word xs)) (behind_word xs ++ b ∷ []) l) (one (is_space b) refl)
        ∙ ap (λ c. behind_takes (has_bytes (behind_word xs)) (is_space b) c (behind_word xs) b) (sym (has_word xs ∙ some))
    by false none =
        alone (is_space b) refl
        ∙ ap (λ l. behind_takes (has_bytes (from_first is_space l)) (is_space b) (has_bytes (before is_space l)) (from_first is_space l) b)
        (sym (none_there (past_spaces xs) none))

-- ---- what is kept with one byte more

-- the first byte decides whether the line has a mark
mark-snoc : (xs : List ℕ) (b : ℕ) → starts_with nat_eq (xs ++ b ∷ []) (codes "#")
    ≡ cond (has_bytes xs) (starts_with nat_eq xs (codes "#")) (eqb b 35)
mark-snoc [] b = and-true (eqb 35 b) ∙ eqb_is_symmetric 35 b
mark-snoc (x ∷ xs) b = refl

-- the first bytes take a byte if there is room for it
take-snoc : (xs : List ℕ) (b : ℕ) → take 64 (xs ++ b ∷ []) ≡ head_takes (take 64 xs) b
take-snoc xs b =
    elim (cases_lt (length xs) 64) [
      | inl room ↦
          let whole : take 64 xs ≡ xs = take_all 64 xs (omega arith) in
          let more : take 64 (xs ++ b ∷ []) ≡ xs ++ b ∷ [] = take_all 64 (xs ++ b ∷ []) (omega (arith, length-append xs (b ∷ []))) in
          let fits : nat_lt (length xs) 64 ≡ true = grind (arith, nat_tests) in
          rw (more, whole, fits) refl
      | inr full ↦
          let same : take 64 (xs ++ b ∷ []) ≡ take 64 xs = take-append-le 64 xs (b ∷ []) full in
          let size : length (take 64 xs) ≡ 64 = length-take-le 64 xs full in
          let fits : nat_lt (length (take 64 xs)) 64 ≡ false = grind (arith, nat_tests) in
          rw (same, fits) refl
    ]

-- the beginning of a comment takes a byte if that makes or leaves the line one
head-snoc : (xs : List ℕ) (b : ℕ) → cond (is_comment (xs ++ b ∷ [])) (take 64 (xs ++ b ∷ [])) []
    ≡ cond (cond (has_bytes xs) (is_comment xs) (eqb b 35)) (head_takes (cond (is_comment xs) (take 64 xs) []) b)
    (cond (is_comment xs) (take 64 xs) [])
head-snoc [] b = ap (λ c. cond c (b ∷ []) []) (mark-snoc [] b)
head-snoc (x ∷ xs) b = by (is_comment (x ∷ xs)) (take 64 ((x ∷ xs) ++ b ∷ [])) (take 64 (x ∷ xs)) (take-snoc (x ∷ xs) b)
  where
    by : (c : Bool) (more kept : List ℕ) → more ≡ head_takes kept b
        → cond c more [] ≡ cond c (head_takes (cond c kept []) b) (cond c kept [])
    by true more kept is = is
    by false more kept is = refl

-- a word has a byte if one is kept
has_kept : (word : List ℕ) → has_bytes (part_of word).bytes ≡ has_bytes word
unfolding part_of
has_kept [] = refl
has_kept (x ∷ xs) = refl

-- the word is over once one more byte came: it was over, or it has a byte and the new one is a space
abbrev is_word_over : Bool → Bool → Bool → Bool
is_word_over over space some = over || (space && some)

-- what is kept of the word takes a byte that is no space while the word isn't over, and no other byte
word_took : (over space some : Bool) (word : List ℕ) (b : ℕ) → part_of (word_takes over space word b)
    ≡ cond (is_word_over over space some || space) (part_of word) (part_takes (part_of word) b)
word_took true space some word b = refl
word_took false true some word b = by some
  where
    by : (c : Bool) → part_of word ≡ cond (c || true) (part_of word) (part_takes (part_of word) b)
    by true = refl
    by false = refl
word_took false false some word b = part_of-snoc word b

-- what is kept of the packet takes a byte exactly if the word is over once that byte came
packet_took : (over space some : Bool) (behind : List ℕ) (b : ℕ) → has_bytes behind ≡ over
    → open_line_of (behind_takes over space some behind b)
    ≡ cond (is_word_over over space some) (line_takes (open_line_of behind) b) (open_line_of behind)
packet_took true space some behind b is = line_of-snoc behind b
packet_took false true true behind b is =
    line_of-snoc [] b ∙ ap (λ l. line_takes (open_line_of l) b) (sym (none_there behind is))
packet_took false true false behind b is = ap open_line_of (sym (none_there behind is))
packet_took false false some behind b is = ap open_line_of (sym (none_there behind is))

-- something follows the word, once one more byte came, exactly if the word is over then
over_took : (over space some : Bool) (behind : List ℕ) (b : ℕ) → has_bytes behind ≡ over
    → has_bytes (behind_takes over space some behind b) ≡ is_word_over over space some
over_took true space some behind b is = some_there behind b
over_took false true true behind b is = refl
over_took false true false behind b is = refl
over_took false false some behind b is = refl

-- a line of which each byte may be a packet's, of a comment too
abbrev whole_of : Bool → List ℕ → TimedLine
whole_of times line = record {
  times = times;
  has_mark = is_comment line;
  is_begun = has_bytes line;
  is_over = cond times (has_bytes (behind_word line)) true;
  head = cond (is_comment line) (take 64 line) [];
  word = part_of (cond times (first_word line) []);
  packet = open_line_of (cond times (behind_word line) line);
}

-- one byte more at its end
whole_of-snoc : (times : Bool) (xs : List ℕ) (b : ℕ) → whole_of times (xs ++ b ∷ []) ≡ plain_line_takes (whole_of times xs) b
whole_of-snoc false xs b = λ i. record {
  times = false;
  has_mark = mark-snoc xs b i;
  is_begun = some_there xs b i;
  is_over = true;
  head = head-snoc xs b i;
  word = part_of [];
  packet = line_of-snoc xs b i;
}
whole_of-snoc true xs b = λ i. record {
  times = true;
  has_mark = mark-snoc xs b i;
  is_begun = some_there xs b i;
  is_over = is_ended i;
  head = head-snoc xs b i;
  word = word i;
  packet = packet i;
}
  where
    over : Bool
    over = has_bytes (behind_word xs)

    tests : is_word_over over (is_space b) (has_bytes (first_word xs))
        ≡ is_word_over over (is_space b) (has_bytes (part_of (first_word xs)).bytes)
    tests = ap (λ c. is_word_over over (is_space b) c) (sym (has_kept (first_word xs)))

    is_ended : has_bytes (behind_word (xs ++ b ∷ [])) ≡ is_word_over over (is_space b) (has_bytes (part_of (first_word xs)).bytes)
    is_ended = ap has_bytes (behind_word-snoc xs b)
        ∙ over_took over (is_space b) (has_bytes (first_word xs)) (behind_word xs) b refl ∙ tests

    word : part_of (first_word (xs ++ b ∷ []))
        ≡ cond (is_word_over over (is_space b) (has_bytes (part_of (first_word xs)).bytes) || is_space b)
        (part_of (first_word xs)) (part_takes (part_of (first_word xs)) b)
    word = ap part_of (first_word-snoc xs b) ∙ word_took over (is_space b) (has_bytes (first_word xs)) (first_word xs) b
        ∙ ap (λ c. cond (c || is_space b) (part_of (first_word xs)) (part_takes (part_of (first_word xs)) b)) tests

    packet : open_line_of (behind_word (xs ++ b ∷ []))
        ≡ cond (is_word_over over (is_space b) (has_bytes (part_of (first_word xs)).bytes))
        (line_takes (open_line_of (behind_word xs)) b) (open_line_of (behind_word xs))
    packet = ap open_line_of (behind_word-snoc xs b)
        ∙ packet_took over (is_space b) (has_bytes (first_word xs)) (behind_word xs) b refl
        ∙ ap (λ c. cond c (line_takes (open_line_of (behind_word xs)) b) (open_line_of (behind_word xs))) tests

-- a line by whether it is a comment
abbrev timed_line_by : Bool → Bool → List ℕ → TimedLine
timed_line_by mark times line = record {
  times = times;
  has_mark = mark;
  is_begun = has_bytes line;
  is_over = cond times (has_bytes (behind_word (cond mark (take 1 line) line))) true;
  head = cond mark (take 64 line) [];
  word = part_of (cond times (first_word (cond mark (take 1 line) line)) []);
  packet = open_line_of (cond times (behind_word (cond mark (take 1 line) line)) (cond mark (take 1 line) line));
}

-- each byte of a line that is no comment may be a packet's
plain_of : (times : Bool) (line : List ℕ) → is_comment line ≡ false → whole_of times line ≡ timed_line_by false times line
plain_of times line is = λ i. record {
  times = times;
  has_mark = is i;
  is_begun = has_bytes line;
  is_over = cond times (has_bytes (behind_word line)) true;
  head = cond (is i) (take 64 line) [];
  word = part_of (cond times (first_word line) []);
  packet = open_line_of (cond times (behind_word line) line);
}

-- a line of one byte, which may be a comment's
single_of : (times : Bool) (b : ℕ) → whole_of times (b ∷ []) ≡ timed_line_by (is_comment (b ∷ [])) times (b ∷ [])
single_of times b = by (is_comment (b ∷ []))
  where
    own : (c : Bool) → b ∷ [] ≡ cond c (take 1 (b ∷ [])) (b ∷ [])
    own true = refl
    own false = refl

    by : (c : Bool) → record {
      times = times;
      has_mark = c;
      is_begun = true;
      is_over = cond times (has_bytes (behind_word (b ∷ []))) true;
      head = cond c (take 64 (b ∷ [])) [];
      word = part_of (cond times (first_word (b ∷ [])) []);
      packet = open_line_of (cond times (behind_word (b ∷ [])) (b ∷ []));
    } ≡ timed_line_by c times (b ∷ [])
    by c = λ i. record {
      times = times;
      has_mark = c;
      is_begun = true;
      is_over = cond times (has_bytes (behind_word (own c i))) true;
      head = cond c (take 64 (b ∷ [])) [];
      word = part_of (cond times (first_word (own c i)) []);
      packet = open_line_of (cond times (behind_word (own c i)) (own c i));
    }

-- the law of the line: one byte more at its end is one step
pub timed_of-snoc : (times : Bool) (xs : List ℕ) (b : ℕ) → timed_of times (xs ++ b ∷ []) ≡ timed_takes (timed_of times xs) b
unfolding timed_of timed_takes
timed_of-snoc times [] b = sym (single_of times b) ∙ whole_of-snoc times [] b
timed_of-snoc times (x ∷ xs) b = by (is_comment (x ∷ xs)) refl
  where
    line : List ℕ
    line = x ∷ xs

    by : (c : Bool) → is_comment line ≡ c → timed_line_by c times (line ++ b ∷ [])
        ≡ cond c (record (timed_line_by c times line) { head = head_takes (timed_line_by c times line).head b }) (plain_line_takes (timed_line_by c times line) b)
    by true is = λ i. record {
      times = times;
      has_mark = true;
      is_begun = true;
      is_over = cond times (has_bytes (behind_word (take 1 line))) true;
      head = take-snoc line b i;
      word = part_of (cond times (first_word (take 1 line)) []);
      packet = open_line_of (cond times (behind_word (take 1 line)) (take 1 line));
    }
    by false is = sym (plain_of times (line ++ b ∷ []) is) ∙ whole_of-snoc times line b
        ∙ ap (λ l. plain_line_takes l b) (plain_of times line is)

-- ---- bytes of a piece

-- a line that is no comment yet takes a byte so
takes_plain : (line : TimedLine) (b : ℕ) → (line.is_begun && line.has_mark) ≡ false → timed_takes line b ≡ plain_line_takes line b
unfolding timed_takes
takes_plain line b is = ap (λ c. cond c (record line { head = head_takes line.head b }) (plain_line_takes line b)) is

-- a line that is no comment with its first byte isn't one before it
unmarked : (begun mark first : Bool) → cond begun mark first ≡ false → (begun && mark) ≡ false
unmarked true mark first is = is
unmarked false mark first is = refl

-- a line that is no comment, and all of whose further bytes are the packet's own
packet_fold : (line : TimedLine) (front : List ℕ) → line.is_begun ≡ true → line.is_over ≡ true → line.has_mark ≡ false
    → fold timed_takes line front ≡ record line { packet = fold line_takes line.packet front }
packet_fold line [] begun over plain = refl
packet_fold line (b ∷ front) begun over plain =
    ap (λ l. fold timed_takes l front) (takes_plain line b (ap (λ c. c && line.has_mark) begun ∙ plain))
    ∙ packet_fold (plain_line_takes line b) front refl (ap (λ c. c || (is_space b && has_bytes line.word.bytes)) over)
    (ap (λ c. cond c line.has_mark (eqb b 35)) begun ∙ plain)
    ∙ λ i. record {
      times = line.times;
      has_mark = ap (λ c. cond c line.has_mark (eqb b 35)) begun i;
      is_begun = sym begun i;
      is_over = (ap (λ c. c || (is_space b && has_bytes line.word.bytes)) over ∙ sym over) i;
      head = ap (λ c. cond c (head_takes line.head b) line.head) (ap (λ c. cond c line.has_mark (eqb b 35)) begun ∙ plain) i;
      word = ap (λ c. cond ((c || (is_space b && has_bytes line.word.bytes)) || is_space b) line.word (part_takes line.word b)) over i;
      packet = fold line_takes (ap (λ c. cond (c || (is_space b && has_bytes line.word.bytes)) (line_takes line.packet b) line.packet) over
          i) front;
    }

-- a line that is no comment, and all of whose bytes are the packet's own, of which this is one
packet_begun : (line : TimedLine) (x : ℕ) (front : List ℕ) → line.is_over ≡ true → cond line.is_begun line.has_mark (eqb x 35) ≡ false
    → fold timed_takes line (x ∷ front) ≡ record (line_begun_with line x) { packet = fold line_takes line.packet (x ∷ front) }
packet_begun line x front over plain =
    ap (λ l. fold timed_takes l front) (takes_plain line x (unmarked line.is_begun line.has_mark (eqb x 35) plain))
    ∙ packet_fold (plain_line_takes line x) front refl (ap (λ c. c || (is_space x && has_bytes line.word.bytes)) over) plain
    ∙ λ i. record {
      times = line.times;
      has_mark = cond line.is_begun line.has_mark (eqb x 35);
      is_begun = true;
      is_over = (ap (λ c. c || (is_space x && has_bytes line.word.bytes)) over ∙ sym over) i;
      head = ap (λ c. cond c (head_takes line.head x) line.head) plain i;
      word = ap (λ c. cond ((c || (is_space x && has_bytes line.word.bytes)) || is_space x) line.word (part_takes line.word x)) over i;
      packet = fold line_takes (ap (λ c. cond (c || (is_space x && has_bytes line.word.bytes)) (line_takes line.packet x) line.packet) over
          i) front;
    }

-- a comment whose first bytes are kept stays as it is
told_takes : (line : TimedLine) (b : ℕ) → is_comment_full line ≡ true → line ≡ timed_takes line b
unfolding timed_takes
told_takes line b told = by line.is_begun line.has_mark (nat_lt (length line.head) 64) refl refl refl told
  where
    by : (begun mark more : Bool) → line.is_begun ≡ begun → line.has_mark ≡ mark → nat_lt (length line.head) 64 ≡ more
        → (begun && (mark && not more)) ≡ true
        → line ≡ cond (line.is_begun && line.has_mark) (record line { head = head_takes line.head b }) (plain_line_takes line b)
    by true true false begun mark full is = rw (begun, mark, full) refl
    by true true true begun mark full is = absurd (true≢false (sym is))
    by true false more begun mark full is = absurd (true≢false (sym is))
    by false mark more begun marked full is = absurd (true≢false (sym is))

-- the packet took all bytes up to the first line feed, of which there are some, of a line that is no comment
pub passes_packet : (old : TimedLine) (bytes rest : List ℕ) (packet : OpenLine) → old.is_over ≡ true → 1 ≤ length bytes
    → (get_or bytes 0 0 ≡ 10 → ⊥) → cond old.is_begun old.has_mark (eqb (get_or bytes 0 0) 35) ≡ false
    → Passes old.packet bytes rest packet → IsAtLineFeed rest
    → PassesTimed old bytes rest (record (line_begun_with old (get_or bytes 0 0)) { packet = packet })
passes_packet old bytes rest packet over some other unmarked passes stops =
    by passes.front bytes passes.split passes.plain passes.line some other unmarked
  where
    none : (rest : List ℕ) → IsAtLineFeed rest → 1 ≤ length rest → (get_or rest 0 0 ≡ 10 → ⊥) → ⊥
    none [] at some other = omega (arith, some)
    none (x ∷ xs) at some other = other at

    by : (front bytes : List ℕ) → bytes ≡ front ++ rest → list_any is_line_feed front ≡ false → packet ≡ fold line_takes old.packet front
        → 1 ≤ length bytes → (get_or bytes 0 0 ≡ 10 → ⊥) → cond old.is_begun old.has_mark (eqb (get_or bytes 0 0) 35) ≡ false
        → PassesTimed old bytes rest (record (line_begun_with old (get_or bytes 0 0)) { packet = packet })
    by [] bytes split plain line some other unmarked =
        let at : IsAtLineFeed bytes = subst (λ l. IsAtLineFeed l) (sym split) stops in
        absurd (none bytes at some other)
    by (x ∷ front) bytes split plain line some other unmarked =
        let first : x ≡ get_or bytes 0 0 = sym (ap (λ l. get_or l 0 0) split) in
        record {
          front = x ∷ front;
          split = split;
          plain = plain;
          line = ap (λ p. record (line_begun_with old (get_or bytes 0 0)) { packet = p }) line
              ∙ ap (λ n. record (line_begun_with old n) { packet = fold line_takes old.packet (x ∷ front) }) (sym first)
              ∙ sym (packet_begun old x front over (ap (λ n. cond old.is_begun old.has_mark (eqb n 35)) first ∙ unmarked));
        }

-- no byte
pub passes_none : (line : TimedLine) (bytes : List ℕ) → PassesTimed line bytes bytes line
passes_none line bytes = record { front = []; split = refl; plain = refl; line = refl }

-- one more, which is no line feed
pub passes_one : {old mid : TimedLine} {bytes : List ℕ} → (rest : List ℕ) (new : TimedLine) → PassesTimed old bytes rest mid
    → 1 ≤ length rest → (get_or rest 0 0 ≡ 10 → ⊥) → new ≡ timed_takes mid (get_or rest 0 0)
    → PassesTimed old bytes (take (length rest - 1) (drop 1 rest)) new
passes_one {old = old} {mid = mid} {bytes = bytes} [] new passes some other is = absurd (omega arith)
passes_one {old = old} {mid = mid} {bytes = bytes} (x ∷ xs) new passes some other is =
    let one_less : length (x ∷ xs) - 1 ≡ length xs = omega arith in
    let left : take (length (x ∷ xs) - 1) xs ≡ xs = ap (λ n. take n xs) one_less ∙ take_all (length xs) xs (omega arith) in
    record {
      front = passes.front ++ x ∷ [];
      split = passes.split ∙ sym (append_assoc passes.front (x ∷ []) xs) ∙ ap (λ l. (passes.front ++ x ∷ []) ++ l) (sym left);
      plain = list_any-append is_line_feed passes.front (x ∷ []) ∙ rw (passes.plain, ne_eqb x 10 other) refl;
      line = is ∙ ap (λ l. timed_takes l x) passes.line ∙ sym (fold-append timed_takes old passes.front (x ∷ []));
    }

-- one more of a comment whose first bytes are kept
pub passes_told : (line : TimedLine) (bytes rest : List ℕ) → is_comment_full line ≡ true → PassesTimed line bytes rest line
    → 1 ≤ length rest → (get_or rest 0 0 ≡ 10 → ⊥) → PassesTimed line bytes (take (length rest - 1) (drop 1 rest)) line
passes_told line bytes rest told passes some other =
    passes_one rest line passes some other (told_takes line (get_or rest 0 0) told)

-- more at once
pub passes_more : (old : TimedLine) (bytes mid_rest rest : List ℕ) (mid new : TimedLine) → PassesTimed old bytes mid_rest mid
    → PassesTimed mid mid_rest rest new → PassesTimed old bytes rest new
passes_more old bytes mid_rest rest mid new one two = record {
  front = one.front ++ two.front;
  split = one.split ∙ ap (λ l. one.front ++ l) two.split ∙ sym (append_assoc one.front two.front rest);
  plain = list_any-append is_line_feed one.front two.front ∙ rw (one.plain, two.plain) refl;
  line = two.line ∙ ap (λ l. fold timed_takes l two.front) one.line ∙ sym (fold-append timed_takes old one.front two.front);
}

-- ---- as the line ends

-- a list without a carriage return that comes last has at most one byte less
shorter : (xs : List ℕ) → length xs ≤ length (without_return xs) + 1
shorter [] = omega arith
shorter (x ∷ xs) =
    let last = has_last x xs in
    let P : List ℕ → Type 0 = λ l. length l ≤ length (without_return l) + 1 in
    subst P (sym last.is) (rw (without_return-snoc last.front last.last) (by (eqb last.last 13) last.front last.last))
  where
    by : (c : Bool) (front : List ℕ) (b : ℕ) → length (front ++ b ∷ []) ≤ length (cond c front (front ++ b ∷ [])) + 1
    by true front b = omega (arith, length-append front (b ∷ []))
    by false front b = omega arith

-- the word and what follows it, if the carriage return at the line's end is no part of the line
pub record WordEnds (line : List ℕ) : Type 0 where
  pub word : first_word (without_return line)
      ≡ cond (has_bytes (behind_word line)) (first_word line) (without_return (first_word line))
  pub behind : behind_word (without_return line) ≡ without_return (behind_word line)

-- a carriage return at the end of a line with a last byte is taken off what follows the word, otherwise off the word
word_ends-snoc : (xs : List ℕ) (b : ℕ) → WordEnds (xs ++ b ∷ [])
word_ends-snoc xs b = record { word = word; behind = behind }
  where
    over : Bool
    over = has_bytes (behind_word xs)

    some : Bool
    some = has_bytes (first_word xs)

    -- what the test of the line's last byte leaves of the two
    word_by : (c over space some : Bool) (front behind : List ℕ) → eqb b 13 ≡ c → (c ≡ true → space ≡ false)
        → has_bytes front ≡ some
        → cond c front (word_takes over space front b)
        ≡ cond (has_bytes (behind_takes over space some behind b)) (word_takes over space front b)
        (without_return (word_takes over space front b))
    word_by true true space some front behind is none there = rw (some_there behind b) refl
    word_by true false true some front behind is none there = let no : true ≡ false = none refl in absurd (cc)
    word_by true false false some front behind is none there = rw (without_return-snoc front b, is) refl
    word_by false true space some front behind is none there = rw (some_there behind b) refl
    word_by false false true true front behind is none there = refl
    word_by false false true false front behind is none there = rw (none_there front there) refl
    word_by false false false some front behind is none there = rw (without_return-snoc front b, is) refl

    behind_by : (c over space some : Bool) (behind : List ℕ) → eqb b 13 ≡ c → (c ≡ true → space ≡ false)
        → has_bytes behind ≡ over
        → cond c behind (behind_takes over space some behind b) ≡ without_return (behind_takes over space some behind b)
    behind_by true true space some behind is none there = rw (without_return-snoc behind b, is) refl
    behind_by true false true some behind is none there = let no : true ≡ false = none refl in absurd (cc)
    behind_by true false false some behind is none there = rw (none_there behind there) refl
    behind_by false true space some behind is none there = rw (without_return-snoc behind b, is) refl
    behind_by false false true true behind is none there = sym (without_return-snoc [] b ∙ rw is refl)
    behind_by false false true false behind is none there = refl
    behind_by false false false some behind is none there = refl

    no_space : eqb b 13 ≡ true → is_space b ≡ false
    no_space is = let same : b ≡ 13 = grind (arith, nat_tests) in ap is_space same

    spread : {A : Type 0} (f : List ℕ → A) (c : Bool) (one two : List ℕ) → f (cond c one two) ≡ cond c (f one) (f two)
    spread f true one two = refl
    spread f false one two = refl

    word : first_word (without_return (xs ++ b ∷ []))
        ≡ cond (has_bytes (behind_word (xs ++ b ∷ []))) (first_word (xs ++ b ∷ [])) (without_return (first_word (xs ++ b ∷ [])))
    word = ap first_word (without_return-snoc xs b) ∙ spread first_word (eqb b 13) xs (xs ++ b ∷ [])
        ∙ rw (first_word-snoc xs b, behind_word-snoc xs b)
        (word_by (eqb b 13) over (is_space b) some (first_word xs) (behind_word xs) refl no_space refl)

    behind : behind_word (without_return (xs ++ b ∷ [])) ≡ without_return (behind_word (xs ++ b ∷ []))
    behind = ap behind_word (without_return-snoc xs b) ∙ spread behind_word (eqb b 13) xs (xs ++ b ∷ [])
        ∙ rw (behind_word-snoc xs b) (behind_by (eqb b 13) over (is_space b) some (behind_word xs) refl no_space refl)

-- a carriage return at the end of any line is taken off what follows its first word, otherwise off that word
word_ends : (line : List ℕ) → WordEnds line
word_ends [] = record { word = refl; behind = refl }
word_ends (x ∷ xs) =
    let last = has_last x xs in
    let P : List ℕ → Type 0 = λ l. WordEnds l in
    subst P (sym last.is) (word_ends-snoc last.front last.last)

-- a line is read without the carriage return that is held back
open_line_reads : (line : List ℕ) → open_read (open_line_of line) ≡ line_read (without_return line)
unfolding open_line_of open_read
open_line_reads line = open_reads (without_return line)

-- a word of more bytes than are kept is no time, and another one is kept whole
time_kept : (over : Bool) (word : List ℕ)
    → cond (part_of word).is_long None (time_in (cond over (part_of word).bytes (without_return (part_of word).bytes)))
    ≡ time_in (cond over word (without_return word))
unfolding part_of
time_kept over word = by (nat_lt 300 (length word)) refl
  where
    long : (over : Bool) → 300 < length word → 18 < length (cond over word (without_return word))
    long true many = omega arith
    long false many = omega (arith, shorter word)

    none : (xs : List ℕ) → 18 < length xs → time_in xs ≡ None
    none xs many = let is : nat_lt 18 (length xs) ≡ true = grind (arith, nat_tests) in rw is refl

    by : (c : Bool) → nat_lt 300 (length word) ≡ c
        → cond c None (time_in (cond over (take 300 word) (without_return (take 300 word))))
        ≡ time_in (cond over word (without_return word))
    by true is =
        let many : 300 < length word = grind (arith, nat_tests) in
        sym (none (cond over word (without_return word)) (long over many))
    by false is =
        let few : length word ≤ 300 = grind (arith, nat_tests) in
        ap (λ l. time_in (cond over l (without_return l))) (take_all 300 word few)

-- the law of a line's reading: what is kept of a line that is no comment reads as the line does
timed_reads : (times : Bool) (line : List ℕ) → timed_read (timed_line_by false times line) ≡ line_reading_of times (without_return line)
timed_reads false line = λ i. record { time = None; parts = open_line_reads line i }
timed_reads true line =
    let ends = word_ends line in
    let time : cond (part_of (first_word line)).is_long None (time_in (word_ended (timed_line_by false true line)))
    ≡ time_in (first_word (without_return line)) =
    time_kept (has_bytes (behind_word line)) (first_word line) ∙ ap time_in (sym ends.word) in
    let parts : open_read (open_line_of (behind_word line)) ≡ line_read (behind_word (without_return line)) =
    open_line_reads (behind_word line) ∙ ap line_read (sym ends.behind) in
    λ i. timed (time i) (parts i)

-- nothing but spaces has no word
no_word : (xs : List ℕ) → list_all is_space xs ≡ not (has_bytes (first_word xs))
no_word [] = refl
no_word (x ∷ xs) = by (is_space x) refl (no_word xs)
  where
    by : (c : Bool) → is_space x ≡ c → list_all is_space xs ≡ not (has_bytes (first_word xs))
        → list_all is_space (x ∷ xs) ≡ not (has_bytes (first_word (x ∷ xs)))
    by true is rest = rw is rest
    by false is rest = rw (is, is) refl

-- the mark of a line stands before its carriage return
mark_kept : (line : List ℕ) → starts_with nat_eq (without_return line) (codes "#") ≡ starts_with nat_eq line (codes "#")
mark_kept [] = refl
mark_kept (x ∷ xs) =
    let last = has_last x xs in
    let P : List ℕ → Type 0 = λ l. starts_with nat_eq (without_return l) (codes "#") ≡ starts_with nat_eq l (codes "#") in
    subst P (sym last.is) (at_end last.front last.last)
  where
    by : (c : Bool) (b : ℕ) → eqb b 13 ≡ c → starts_with nat_eq (cond c [] (b ∷ [])) (codes "#") ≡ starts_with nat_eq (b ∷ []) (codes "#")
    by true b is = let same : b ≡ 13 = grind (arith, nat_tests) in ap (λ n. starts_with nat_eq (n ∷ []) (codes "#")) (sym same)
    by false b is = refl

    more : (c : Bool) (y : ℕ) (ys : List ℕ) (b : ℕ)
        → starts_with nat_eq (cond c (y ∷ ys) ((y ∷ ys) ++ b ∷ [])) (codes "#") ≡ starts_with nat_eq ((y ∷ ys) ++ b ∷ []) (codes "#")
    more true y ys b = refl
    more false y ys b = refl

    at_end : (front : List ℕ) (b : ℕ)
        → starts_with nat_eq (without_return (front ++ b ∷ [])) (codes "#") ≡ starts_with nat_eq (front ++ b ∷ []) (codes "#")
    at_end [] b = ap (λ l. starts_with nat_eq l (codes "#")) (without_return-snoc [] b) ∙ by (eqb b 13) b refl
    at_end (y ∷ ys) b = ap (λ l. starts_with nat_eq l (codes "#")) (without_return-snoc (y ∷ ys) b) ∙ more (eqb b 13) y ys b

-- the word has a byte if what is kept of it has one
word_there : (over : Bool) (word : List ℕ)
    → has_bytes (cond over (part_of word).bytes (without_return (part_of word).bytes)) ≡ has_bytes (cond over word (without_return word))
unfolding part_of
word_there over word = by (nat_lt 300 (length word)) refl
  where
    some : (xs : List ℕ) → 0 < length xs → has_bytes xs ≡ true
    some [] many = absurd (omega arith)
    some (x ∷ xs) many = refl

    long : (over : Bool) (xs : List ℕ) → 1 < length xs → has_bytes (cond over xs (without_return xs)) ≡ true
    long true xs many = some xs (omega arith)
    long false xs many = some (without_return xs) (omega (arith, shorter xs))

    by : (c : Bool) → nat_lt 300 (length word) ≡ c
        → has_bytes (cond over (take 300 word) (without_return (take 300 word))) ≡ has_bytes (cond over word (without_return word))
    by true is =
        let many : 300 < length word = grind (arith, nat_tests) in
        let kept : 1 < length (take 300 word) = omega (arith, many, length-take 300 word) in
        long over (take 300 word) kept ∙ sym (long over word (omega arith))
    by false is =
        let few : length word ≤ 300 = grind (arith, nat_tests) in
        ap (λ l. has_bytes (cond over l (without_return l))) (take_all 300 word few)

-- in either order
or_turned : (a b : Bool) → (a || b) ≡ (b || a)
or_turned true b = sym (or-true b)
or_turned false b = sym (or-false b)

-- a line that is no comment is skipped by what is kept of it
plain_skips : (times : Bool) (line : List ℕ) → is_comment line ≡ false
    → skips_timed (timed_line_by false times line) ≡ is_skipped (without_return line)
unfolding open_line_of plain_line
plain_skips false line plain = sym (skipped_kind (without_return line))
plain_skips true line plain =
    let word : has_bytes (word_ended (timed_line_by false true line)) ≡ has_bytes (first_word (without_return line)) =
    word_there (has_bytes (behind_word line)) (first_word line)
    ∙ ap has_bytes (sym (word_ends line).word) in
    ap not word
    ∙ ap (λ c. c || not (has_bytes (first_word (without_return line)))) (sym (mark_kept line ∙ plain))
    ∙ ap (λ c. starts_with nat_eq (without_return line) (codes "#") || c) (sym (no_word (without_return line)))
    ∙ or_turned (starts_with nat_eq (without_return line) (codes "#")) (list_all is_space (without_return line))

-- a line is skipped by what is kept of it
pub timed_skips : (times : Bool) (line : List ℕ) → skips_timed (timed_of times line) ≡ is_skipped (without_return line)
unfolding timed_of
timed_skips times line = by (is_comment line) refl
  where
    by : (c : Bool) → is_comment line ≡ c → skips_timed (timed_line_by c times line) ≡ is_skipped (without_return line)
    by true is =
        sym (or-true (list_all is_space (without_return line)))
        ∙ ap (λ c. list_all is_space (without_return line) || c) (sym (mark_kept line ∙ is))
    by false is = plain_skips times line is

-- a line is a comment by what is kept of it
marked : (times : Bool) (line : List ℕ) → (timed_of times line).has_mark ≡ is_comment line
unfolding timed_of
marked times line = refl

-- a line says nothing by what is kept of it
pub timed_passes : (options : TellOptions) (line : List ℕ)
    → passes_timed (notes_comments options) (timed_of options.times line) ≡ is_passed (notes_comments options) (without_return line)
timed_passes options line =
    ap (λ c. not (notes_comments options && c) && skips_timed (timed_of options.times line)) (marked options.times line ∙ sym (mark_kept line))
    ∙ ap (λ c. not (is_noted (notes_comments options) (without_return line)) && c) (timed_skips options.times line)

-- ---- a comment

-- a line begins with bytes of which none is a carriage return if it begins with them without the one at its end
start_returned : (line start : List ℕ) → list_any (λ c. eqb c 13) start ≡ false
    → starts_with nat_eq (without_return line) start ≡ starts_with nat_eq line start
start_returned [] start plain = refl
start_returned (x ∷ xs) start plain =
    let last = has_last x xs in
    let P : List ℕ → Type 0 = λ l. starts_with nat_eq (without_return l) start ≡ starts_with nat_eq l start in
    subst P (sym last.is) (at_end last.front last.last)
  where
    front_alone : (front start : List ℕ) (b : ℕ) → eqb b 13 ≡ true → list_any (λ c. eqb c 13) start ≡ false
        → starts_with nat_eq front start ≡ starts_with nat_eq (front ++ b ∷ []) start
    front_alone front [] b is plain = refl
    front_alone [] (y ∷ ys) b is plain =
        let same : b ≡ 13 = grind (arith, nat_tests) in
        let other : eqb y 13 ≡ false = (or_parts (eqb y 13) (list_any (λ c. eqb c 13) ys) plain).0 in
        let first : eqb y b ≡ false = ap (eqb y) same ∙ other in
        rw first refl
    front_alone (x ∷ front) (y ∷ ys) b is plain =
        ap (λ c. eqb y x && c) (front_alone front ys b is (or_parts (eqb y 13) (list_any (λ c. eqb c 13) ys) plain).1)

    at_end : (front : List ℕ) (b : ℕ) → starts_with nat_eq (without_return (front ++ b ∷ [])) start
        ≡ starts_with nat_eq (front ++ b ∷ []) start
    at_end front b = ap (λ l. starts_with nat_eq l start) (without_return-snoc front b) ∙ by (eqb b 13) refl
      where
        by : (c : Bool) → eqb b 13 ≡ c
            → starts_with nat_eq (cond c front (front ++ b ∷ [])) start ≡ starts_with nat_eq (front ++ b ∷ []) start
        by true is = front_alone front start b is plain
        by false is = refl

-- the first bytes of a long line are there without the carriage return at its end
cut_return : (xs : List ℕ) → 64 ≤ length xs → take 63 (without_return xs) ≡ take 63 xs
cut_return [] long = absurd (omega (arith, long))
cut_return (x ∷ xs) long =
    let last = has_last x xs in
    let P : List ℕ → Type 0 = λ l. 64 ≤ length l → take 63 (without_return l) ≡ take 63 l in
    subst P (sym last.is) (at_end last.front last.last) long
  where
    at_end : (front : List ℕ) (b : ℕ) → 64 ≤ length (front ++ b ∷ [])
        → take 63 (without_return (front ++ b ∷ [])) ≡ take 63 (front ++ b ∷ [])
    at_end front b enough = ap (take 63) (without_return-snoc front b) ∙ by (eqb b 13)
      where
        few : 63 ≤ length front
        few = omega (arith, length-append front (b ∷ []), enough)

        by : (c : Bool) → take 63 (cond c front (front ++ b ∷ [])) ≡ take 63 (front ++ b ∷ [])
        by true = sym (take-append-le 63 front (b ∷ []) few)
        by false = refl

-- the first bytes of a comment say what the line does
remark_kept : (line : List ℕ) → head_note (take 64 line) ≡ note_of (without_return line)
remark_kept line = ap note_in (
    elim (cases_lt (length line) 65) [
      | inl short ↦ ap (λ l. take 63 (without_return l)) (take_all 64 line (omega (arith, short)))
      | inr long ↦
          cut_return (take 64 line) (omega (arith, length-take-le 64 line (omega (arith, long))))
          ∙ take-take 63 64 line (omega arith) ∙ sym (cut_return line (omega (arith, long)))
    ])

-- a line of which something is said is by what is kept of it what it is
pub timed_says : (options : TellOptions) (line : List ℕ) → is_passed (notes_comments options) (without_return line) ≡ false
    → timed_said (notes_comments options) (timed_of options.times line) ≡ said_of_line options (without_return line)
unfolding timed_of
timed_says options line heard =
    by (notes_comments options) (is_comment line) refl (timed_passes options line ∙ heard)
    ∙ ap (λ c. cond (notes_comments options && c) (Noted (note_of (without_return line)))
    (Told (line_reading_of options.times (without_return line)))) (sym (mark_kept line))
  where
    by : (pages c : Bool) → is_comment line ≡ c
        → (not (pages && c) && skips_timed (timed_line_by c options.times line)) ≡ false
        → cond (pages && c) (Noted (head_note (cond c (take 64 line) []))) (Told (timed_read (timed_line_by c options.times line)))
        ≡ cond (pages && c) (Noted (note_of (without_return line))) (Told (line_reading_of options.times (without_return line)))
    by true true is heard = ap Noted (remark_kept line)
    by true false is heard = ap Told (timed_reads options.times line)
    by false true is heard = absurd (true≢false heard)
    by false false is heard = ap Told (timed_reads options.times line)
