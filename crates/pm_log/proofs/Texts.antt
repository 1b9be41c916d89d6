-- The text of a log as its bytes come, in any pieces, up to its end.
use Rattle.std.specs.Fmt.{digits}
use Rattle.std.specs.Io.KnownBytes.{Appends, Consumes, IsAtEnd}
use Rattle.std.specs.List.{enumerate_from, fold}
use Rattle.std.specs.Prelude.{map, nat_lt, reverse, if◌then◌else◌, is_ok}
use Rattle.std.proofs.{lemmas.Bool.Decides.nat_tests, lemmas.Grind.fold-append}
use Rattle.std.proofs.Common.{◌≡◌, List, [], refl, codes, ◌↔◌, ℕ, Ok, Err, IsFalse, IsTrue, subst, arith, ◌≤◌, ◌+◌, suc, Bool, true, false}
use Rattle.std.proofs.Common.{◌∷◌, ◌++◌, length, take, Option, Some, None, Result, sym, ◌∙◌, ap, append_assoc, cond, append-nil, OnOk}
use Rattle.std.proofs.KnownBytes.{Consumes-nil, Consumes-trans}
use Rattle.std.proofs.lemmas.List.{length-append, length-take, reverse-append, take-append-le, take_all, nil_from_length}
use Rattle.pm_host.specs.Summary.{Summary}
use Rattle.pm_limits.specs.declared.part_registers.PartRegisters.{PartRegisters}
use Rattle.pm_lines.specs.{Engine.Run, Streams.AppendsFront, declared.fault.TextFault.TextFault}
use Rattle.pm_lines.specs.Lines.{has_bytes, is_line_feed, without_empty_last}
use Rattle.pm_lines.specs.declared.fault.TextFault.TheVariants.{Syntax, BadHex, TooLong, Read, Write, Memory, Setup}
use Rattle.pm_trace.specs.Lemmas.Said.{last_kept}
use Rattle.pm_trace.specs.Lemmas.Marks.{ended-mark, ended-other, since-mark, since-other, split-ended}
use Rattle.pm_trace.specs.Marks.{ended_pieces, since}
use Rattle.pm_text.specs.declared.scenario.fault.ScenarioFault.{ScenarioFault}
use Rattle.pm_log.specs.{Lines.said_by_line, Verdicts.refusal_text, declared.checked.Refusal.Refusal, declared.checking.LogEnd.LogEnd}
use Rattle.pm_log.specs.{declared.checking.LogEnd.TheVariants.Refused, declared.fault.LogFault.LogFault}
use Rattle.pm_log.specs.{declared.fault.LogFault.TheVariants.Line, declared.log_line.LogLine.LogLine}
use Rattle.pm_log.specs.Laws.{TextLines, known_by_line, known_of_lines, ok_line}
use Rattle.pm_log.specs.Logs.{Checked, Known, at_end, has_head, line_accepted, known_after_line, line_said, max_line, no_line}
use Rattle.pm_log.specs.Logs.{known_before_lines, or_refused}
use Rattle.pm_log.specs.Logs.{accepted_if_read, with_line}
use Rattle.pm_log.specs.TakenLogs.{StopsPiece, Taken, TakesPiece}
use Rattle.pm_log.specs.Texts.{log_end, log_of, log_text, Breaks, IsAll, LogEnds, Kept, checked_lines, ended_text as ended_log}
use Rattle.pm_log.specs.Texts.{last_line_ended}
use Rattle.pm_log.specs.Texts.{log_kept_of, line_with, no_byte, raw_lines, with_byte, most_log_bytes}

-- What is written of a log of no bytes.

pub empty_text : (allowed : List PartRegisters) → codes "line 1: no #log line stands before it\n" ≡ log_text allowed []
unfolding log_of refusal_text digits
empty_text allowed = refl

pub empty_end : (allowed : List PartRegisters) → Refused ≡ log_end allowed []
unfolding log_of
empty_end allowed = refl

-- How a check of a log ends, by what was read and what was written.

module _ {R W : Type 0} (allowed : List PartRegisters) (run : Run R W) where
  abbrev All : List ℕ → Type 0
  All input = IsAll (run.remaining run.reader.inner) (run.remaining run.reader'.inner) input

  -- the line of the whole log was written
  pub all_said : IsFalse run.reader'.failed → IsFalse run.writer'.failed → (input text : List ℕ) (end : LogEnd) → All input →
      end ≡ log_end allowed input → text ≡ log_text allowed input → Appends (run.contents run.writer.inner) (run.contents run.writer'.inner) text →
      LogEnds allowed run (Ok end)
  all_said read sound input text end gave is same got = (
    read,
    sound,
    input,
    gave,
    is,
    subst (λ (l : List ℕ). Appends (run.contents run.writer.inner) (run.contents run.writer'.inner) l) same got,
  )

  -- a strict front of it was
  pub front_said : IsFalse run.reader'.failed → IsTrue run.writer'.failed → (input text : List ℕ) → All input →
      text ≡ log_text allowed input → AppendsFront (run.contents run.writer.inner) (run.contents run.writer'.inner) text →
      LogEnds allowed run (Err Write)
  front_said read failed input text gave same got = (
    read,
    failed,
    input,
    gave,
    subst (λ (l : List ℕ). AppendsFront (run.contents run.writer.inner) (run.contents run.writer'.inner) l) same got,
  )

  -- nothing was
  pub none_said : (fault : TextFault) → run.writer' ≡ run.writer → IsTrue run.reader'.failed ↔ (fault ≡ Read) →
      Breaks (run.remaining run.reader.inner) (run.remaining run.reader'.inner) fault → LogEnds allowed run (Err fault)
  none_said Write same failed never = absurd never
  none_said TooLong same failed why = (same, failed, why)
  none_said Read same failed why = (same, failed, why)
  none_said Memory same failed why = (same, failed, why)
  none_said (Syntax line) same failed never = absurd never
  none_said (BadHex line) same failed never = absurd never
  none_said (Setup reason) same failed never = absurd never

-- The lines of a text, as its bytes come.

-- ---- a line that is too long

-- the bytes that are kept of a line
abbrev kept_front : List ℕ → List ℕ
kept_front line = take (max_line + 1) line

-- the first items of a longer list, one more than so many, are longer than so many, too
long_front : (n : ℕ) (line : List ℕ) → nat_lt n (length line) ≡ true → nat_lt n (length (take (n + 1) line)) ≡ true
long_front n line long = let size = length-take (n + 1) line in grind (arith, nat_tests)

long_size : (n : ℕ) (line : List ℕ) → nat_lt n (length line) ≡ true → n + 1 ≤ length line
long_size n line long = grind (arith, nat_tests)

short_size : (n : ℕ) (line : List ℕ) → nat_lt n (length line) ≡ false → length line ≤ n + 1
short_size n line short = grind (arith, nat_tests)

short_more : (n : ℕ) (line : List ℕ) (byte : ℕ) → nat_lt n (length line) ≡ false → length (line ++ byte ∷ []) ≤ n + 1
short_more n line byte short = let size = length-append line (byte ∷ []) in grind (arith, nat_tests)

-- say what the line says
lemmas_front_said : (number : ℕ) (line : List ℕ) → line_said (number, kept_front line) ≡ line_said (number, line)
lemmas_front_said number line = go (nat_lt max_line (length line)) refl
  where
    go : (b : Bool) → nat_lt max_line (length line) ≡ b → line_said (number, kept_front line) ≡ line_said (number, line)
    go true long = rw (long, long_front max_line line long) refl
    go false short = ap (λ (l : List ℕ). line_said (number, l)) (take_all (max_line + 1) line (short_size max_line line short))

front_known : (log : Result Known Refusal) (number : ℕ) (line : List ℕ) → known_after_line log (number, kept_front line) ≡ known_after_line log (number, line)
front_known (Err refusal) number line = refl
front_known (Ok known) number line =
    ap (λ (r : Result LogLine ScenarioFault). or_refused number (accepted_if_read number known r)) (lemmas_front_said number line)

front_line : (checked : Checked) (line : List ℕ) → with_line checked (kept_front line) ≡ with_line checked line
unfolding with_line
front_line checked line = λ i. record { ended = checked.ended + 1; log = front_known checked.log (checked.ended + 1) line i }

-- one byte more
front_more : (line : List ℕ) (byte : ℕ) → line_with (kept_front line) byte ≡ kept_front (line ++ byte ∷ [])
front_more line byte = go (nat_lt max_line (length line)) refl
  where
    go : (b : Bool) → nat_lt max_line (length line) ≡ b → line_with (kept_front line) byte ≡ kept_front (line ++ byte ∷ [])
    go true long =
        rw (long_front max_line line long) (sym (take-append-le (max_line + 1) line (byte ∷ []) (long_size max_line line long)))
    go false short =
        ap (λ (l : List ℕ). line_with l byte) (take_all (max_line + 1) line (short_size max_line line short))
        ∙ rw short (sym (take_all (max_line + 1) (line ++ byte ∷ []) (short_more max_line line byte short)))

-- it has bytes if the line has
some_front : (n : ℕ) (line : List ℕ) → has_bytes (take (n + 1) line) ≡ has_bytes line
some_front n [] = ap has_bytes (take_all (n + 1) [] (omega arith))
some_front n (byte ∷ bytes) =
    let next : suc n ≡ n + 1 = omega arith in
    subst (λ (m : ℕ). has_bytes (take m (byte ∷ bytes)) ≡ true) next refl

front_some : (line : List ℕ) → has_bytes (kept_front line) ≡ has_bytes line
front_some line = some_front max_line line

-- nothing is kept of no byte
front_none : kept_front [] ≡ []
front_none = take_all (max_line + 1) [] (omega arith)

-- ---- bytes one after another

-- what is kept of bytes, by the lines that ended and the one that goes on
abbrev state : List PartRegisters → List ℕ → Kept
state allowed bytes = record {
  line = kept_front (since is_line_feed bytes);
  taken = length bytes;
  checked = checked_lines allowed (ended_pieces is_line_feed bytes);
}

one_more : (front : List ℕ) (byte : ℕ) → length front + 1 ≡ length (front ++ byte ∷ [])
one_more front byte = let size = length-append front (byte ∷ []) in omega arith

state_more : (allowed : List PartRegisters) (front : List ℕ) (byte : ℕ) → with_byte (state allowed front) byte ≡ state allowed (front ++ byte ∷ [])
unfolding with_byte
state_more allowed front byte = go (is_line_feed byte) refl
  where
    go : (b : Bool) → is_line_feed byte ≡ b → with_byte (state allowed front) byte ≡ state allowed (front ++ byte ∷ [])
    go true is =
        let line : [] ≡ kept_front (since is_line_feed (front ++ byte ∷ []))
        = sym front_none ∙ ap kept_front (sym (since-mark is_line_feed front byte is)) in
        let checked : with_line (checked_lines allowed (ended_pieces is_line_feed front)) (kept_front (since is_line_feed front))
        ≡ checked_lines allowed (ended_pieces is_line_feed (front ++ byte ∷ []))
        = front_line (checked_lines allowed (ended_pieces is_line_feed front)) (since is_line_feed front)
        ∙ sym (ap (checked_lines allowed) (ended-mark is_line_feed front byte is)
        ∙ fold-append with_line (no_line allowed) (ended_pieces is_line_feed front) (since is_line_feed front ∷ [])) in
        rw is (λ i. record { line = line i; taken = one_more front byte i; checked = checked i })
    go false other =
        let line : line_with (kept_front (since is_line_feed front)) byte ≡ kept_front (since is_line_feed (front ++ byte ∷ []))
        = front_more (since is_line_feed front) byte ∙ ap kept_front (sym (since-other is_line_feed front byte other)) in
        let checked : checked_lines allowed (ended_pieces is_line_feed front)
        ≡ checked_lines allowed (ended_pieces is_line_feed (front ++ byte ∷ []))
        = ap (checked_lines allowed) (sym (ended-other is_line_feed front byte other)) in
        rw other (λ i. record { line = line i; taken = one_more front byte i; checked = checked i })

all_kept : (allowed : List PartRegisters) (front rest : List ℕ) → fold with_byte (state allowed front) rest ≡ state allowed (front ++ rest)
all_kept allowed front [] = ap (state allowed) (sym (append-nil front))
all_kept allowed front (byte ∷ rest) =
    ap (λ (k : Kept). fold with_byte k rest) (state_more allowed front byte) ∙ all_kept allowed (front ++ byte ∷ []) rest
    ∙ ap (state allowed) (append_assoc front (byte ∷ []) rest)

kept_state : (allowed : List PartRegisters) (bytes : List ℕ) → log_kept_of allowed bytes ≡ state allowed bytes
kept_state allowed bytes = ap (λ (l : List ℕ). fold with_byte (record { line = l; taken = 0; checked = no_line allowed }) bytes) (sym front_none) ∙ all_kept allowed [] bytes

-- what is kept counts the bytes
pub taken_is : (allowed : List PartRegisters) (bytes : List ℕ) → (log_kept_of allowed bytes).taken ≡ length bytes
taken_is allowed bytes = ap (λ (k : Kept). k.taken) (kept_state allowed bytes)

-- what is kept of further bytes
pub kept_more : (allowed : List PartRegisters) (front rest : List ℕ) → fold with_byte (log_kept_of allowed front) rest ≡ log_kept_of allowed (front ++ rest)
kept_more allowed front rest = sym (fold-append with_byte (no_byte allowed) front rest)

-- at the end
lines_are : (text : List ℕ) → raw_lines text ≡ ended_pieces is_line_feed text ++ cond (has_bytes (since is_line_feed text)) (since is_line_feed text ∷ []) []
lines_are text = ap without_empty_last (split-ended is_line_feed text)
    ∙ last_kept (ended_pieces is_line_feed text) (since is_line_feed text)

state_end : (allowed : List PartRegisters) (text : List ℕ) → last_line_ended (state allowed text) ≡ checked_lines allowed (raw_lines text)
state_end allowed text = rw (front_some (since is_line_feed text)) (go (has_bytes (since is_line_feed text)) ∙ sym (ap (checked_lines allowed) (lines_are text)))
  where
    go : (b : Bool) → cond b (with_line (checked_lines allowed (ended_pieces is_line_feed text)) (kept_front (since is_line_feed text))) (checked_lines allowed (ended_pieces is_line_feed text))
        ≡ checked_lines allowed (ended_pieces is_line_feed text ++ cond b (since is_line_feed text ∷ []) [])
    go true = front_line (checked_lines allowed (ended_pieces is_line_feed text)) (since is_line_feed text)
        ∙ sym (fold-append with_line (no_line allowed) (ended_pieces is_line_feed text) (since is_line_feed text ∷ []))
    go false = ap (checked_lines allowed) (sym (append-nil (ended_pieces is_line_feed text)))

pub finished_is : (allowed : List PartRegisters) (text : List ℕ) → ended_log (last_line_ended (log_kept_of allowed text))
    ≡ log_of allowed text
unfolding log_of
finished_is allowed text = ap (λ (k : Kept). ended_log (last_line_ended k)) (kept_state allowed text)
    ∙ ap ended_log (state_end allowed text)

-- ---- the lines of a text that is accepted

-- after a line that isn't accepted nothing changes
stays : (lines : List (List ℕ)) (n : ℕ) (refusal : Refusal) → (fold with_line (record { ended = n; log = Err refusal }) lines).log ≡ Err refusal
unfolding with_line
stays [] n refusal = refl
stays (text ∷ lines) n refusal = stays lines (n + 1) refusal

module _ (allowed : List PartRegisters) where
  -- the lines of a text, and what they come to
  record ReadLines (n : ℕ) (lines : List (List ℕ)) (before : List LogLine) (known : Known) : Type 0 where
    said : List LogLine
    read : map line_said (enumerate_from (n + 1) lines) ≡ map ok_line said
    come : known_of_lines allowed (reverse said ++ before) ≡ Ok known

same_log : (r : Result Known Refusal) (a b : Known) → r ≡ Ok a → r ≡ Ok b → a ≡ b
same_log r a b made is = cc

no_refusal : (r : Result Known Refusal) (refusal : Refusal) (known : Known) {P : Type 0} → r ≡ Err refusal → r ≡ Ok known → P
no_refusal r refusal known is other = absurd (cc)

ok_fault : Known → Result Known LogFault
ok_fault known = Ok known

one_longer : (n : ℕ) (line : LogLine) (before : List LogLine) → length before ≡ n → length (line ∷ before) ≡ n + 1
one_longer n line before size = omega (arith, size)

module _ (allowed : List PartRegisters) where
  -- one line before the others
  first_line : (n : ℕ) (text : List ℕ) (lines : List (List ℕ)) (before : List LogLine) (line : LogLine) (known : Known) →
      line_said (n + 1, text) ≡ Ok line → ReadLines allowed (n + 1) lines (line ∷ before) known →
      ReadLines allowed n (text ∷ lines) before known
  first_line n text lines before line known is rest = record {
    said = line ∷ rest.said;
    read = rw is (ap (λ (l : List (Result LogLine ScenarioFault)). Ok line ∷ l) rest.read);
    come = ap (known_of_lines allowed) (joined (reverse-append (line ∷ []) rest.said)) ∙ rest.come;
  }
    where
      joined : reverse (line ∷ rest.said) ≡ reverse rest.said ++ line ∷ [] → reverse (line ∷ rest.said) ++ before ≡ reverse rest.said ++ line ∷ before
      joined same = ap (λ (l : List LogLine). l ++ before) same ∙ append_assoc (reverse rest.said) (line ∷ []) before

  -- what is left to say of the lines after the first
  abbrev Rest : ℕ → List (List ℕ) → List LogLine → Known → Type 0
  Rest n lines before known = (next : Known) (line : LogLine) → known_of_lines allowed (line ∷ before) ≡ Ok next →
      (fold with_line (record { ended = n + 1; log = Ok next }) lines).log ≡ Ok known →
      ReadLines allowed (n + 1) lines (line ∷ before) known

  -- what was known of the lines before, whose number this is
  record Was (n : ℕ) (before : List LogLine) (was : Known) : Type 0 where
    size : length before ≡ n
    at : known_of_lines allowed before ≡ Ok was

  judged_line : (n : ℕ) (text : List ℕ) (lines : List (List ℕ)) (was known : Known) (before : List LogLine) (line : LogLine)
      (r : Result Known LogFault) → Was n before was → line_said (n + 1, text) ≡ Ok line → line_accepted (n + 1) was line ≡ r →
      (fold with_line (record { ended = n + 1; log = or_refused (n + 1) r }) lines).log ≡ Ok known →
      Rest n lines before known → ReadLines allowed n (text ∷ lines) before known
  judged_line n text lines was known before line (Ok next) so_far said is left rest =
      first_line n text lines before line known said
      (rest next line (ap (λ (r : Result Known LogFault). known_by_line (length before + 1) r line) so_far.at
      ∙ ap (λ (m : ℕ). line_accepted (m + 1) was line) so_far.size ∙ is) left)
  judged_line n text lines was known before line (Err fault) so_far said is left rest =
      no_refusal _ _ known (stays lines (n + 1) (record { line = n + 1; fault = fault })) left

  said_line : (n : ℕ) (text : List ℕ) (lines : List (List ℕ)) (was known : Known) (before : List LogLine)
      (r : Result LogLine ScenarioFault) → Was n before was → line_said (n + 1, text) ≡ r →
      (fold with_line (record { ended = n + 1; log = or_refused (n + 1) (accepted_if_read (n + 1) was r) }) lines).log ≡ Ok known →
      Rest n lines before known → ReadLines allowed n (text ∷ lines) before known
  said_line n text lines was known before (Ok line) so_far said left rest =
      judged_line n text lines was known before line (line_accepted (n + 1) was line) so_far said refl left rest
  said_line n text lines was known before (Err fault) so_far said left rest =
      no_refusal _ _ known (stays lines (n + 1) (record { line = n + 1; fault = Line fault })) left

  read_lines : (lines : List (List ℕ)) (n : ℕ) (was known : Known) (before : List LogLine) → Was n before was →
      (fold with_line (record { ended = n; log = Ok was }) lines).log ≡ Ok known → ReadLines allowed n lines before known
  unfolding with_line ok_fault
  read_lines [] n was known before so_far is =
      record { said = []; read = refl; come = so_far.at ∙ ap ok_fault (same_log _ _ _ refl is) }
  read_lines (text ∷ lines) n was known before so_far is =
      said_line n text lines was known before (line_said (n + 1, text)) so_far refl is
      (λ next line come left. read_lines lines (n + 1) next known (line ∷ before)
      (record { size = one_longer n line before so_far.size; at = come }) left)

-- a text that is accepted has a head
ended_ok : (n : ℕ) (log : Result Known Refusal) (known : Known) → at_end n log ≡ Ok known → log ≡ Ok known
ended_ok n (Err refusal) known is = absurd (cc)
ended_ok n (Ok was) known is = go was.host refl is
  where
    go : (host : Option Summary) → was.host ≡ host → has_head n (Ok was) host ≡ Ok known → ◌≡◌ {A = Result Known Refusal} (Ok was) (Ok known)
    go None at is = absurd (cc)
    go (Some s) at is = is

pub text_lines : (allowed : List PartRegisters) (text : List ℕ) (known : Known) → log_of allowed text ≡ Ok known →
    TextLines allowed text known
unfolding log_of
text_lines allowed text known is =
    let found = read_lines allowed (raw_lines text) 0 (known_before_lines allowed) known [] (record { size = refl; at = refl })
    (ended_ok _ (checked_lines allowed (raw_lines text)).log known is) in
    record {
      lines = found.said;
      read = found.read;
      come = ap (known_of_lines allowed) (sym (append-nil (reverse found.said))) ∙ found.come;
    }

-- What was taken of a reader, with a piece more, and at its end.

-- nothing was read yet
pub taken_none : (allowed : List PartRegisters) (r : Option (List ℕ)) (kept : Kept) → kept ≡ no_byte allowed → Taken allowed r r [] kept
taken_none allowed r kept fresh = record { given = Consumes-nil r; kept_is = fresh; short = omega arith }

module _ (allowed : List PartRegisters) (r0 r1 : Option (List ℕ)) (front : List ℕ) (old : Kept) (taken : Taken allowed r0 r1 front old) where
  -- as many bytes were taken as the reader gave
  pub taken_now : old.taken ≡ length front
  taken_now = ap (λ (k : Kept). k.taken) taken.kept_is ∙ taken_is allowed front

  pub room_now : old.taken ≤ most_log_bytes
  room_now = let now = taken_now in let short = taken.short in omega (arith, now, short)

  -- the reader has no more
  pub all_now : IsAtEnd r1 → IsAll r0 r1 front
  all_now ended = record { given = taken.given; ended = ended; short = taken.short }

  -- nothing was taken
  pub none_now : old.taken ≡ 0 → front ≡ []
  none_now none = nil_from_length front (sym taken_now ∙ none)

  module _ (r2 : Option (List ℕ)) where
    -- a piece more
    pub taken_more : (new : Kept) (count : ℕ) (piece : TakesPiece r1 r2 old new count) → Taken allowed r0 r2 (front ++ piece.bytes) new
    taken_more new count piece =
        let now = taken_now in
        let size = length-append front piece.bytes in
        let room = piece.room in
        record {
          given = Consumes-trans r0 r1 r2 front piece.bytes taken.given piece.given;
          kept_is = piece.taken_is ∙ ap (λ (k : Kept). fold with_byte k piece.bytes) taken.kept_is ∙ kept_more allowed front piece.bytes;
          short = omega (arith, now, size, room);
        }

    -- why no more is taken
    pub broken : (fault : TextFault) → StopsPiece r1 r2 old fault → Breaks r0 r2 fault
    broken TooLong (bytes, more, given) =
        let now = taken_now in
        let size = length-append front bytes in
        (front ++ bytes, omega (arith, now, size, more), Consumes-trans r0 r1 r2 front bytes taken.given given)
    broken Read given =
        (front, subst (λ (l : List ℕ). Consumes r0 r2 l) (append-nil front) (Consumes-trans r0 r1 r2 front [] taken.given given))
    broken Memory (bytes, some, given) =
        let size = length-append front bytes in
        (front ++ bytes, omega (arith, size, some), Consumes-trans r0 r1 r2 front bytes taken.given given)
    broken Write never = absurd never
    broken (Syntax line) never = absurd never
    broken (BadHex line) never = absurd never
    broken (Setup reason) never = absurd never

-- a piece more is as many bytes more
pub grown : (allowed : List PartRegisters) (r0 r1 r2 : Option (List ℕ)) (front : List ℕ) (old new : Kept) (taken : Taken allowed r0 r1 front old) (count : ℕ) →
    TakesPiece r1 r2 old new count → new.taken ≡ old.taken + count
grown allowed r0 r1 r2 front old new taken count piece =
    let before = taken_now allowed r0 r1 front old taken in
    let after = taken_now allowed r0 r2 (front ++ piece.bytes) new (taken_more allowed r0 r1 front old taken r2 new count piece) in
    let size = length-append front piece.bytes in
    let same = piece.count_is in
    omega (arith, before, after, size, same)

-- What a call that pushes text leaves.

-- a call that ended well appended the text
pub pushed : {T E : Type 0} (r : Result T E) (new old added : List ℕ) → new ≡ (if is_ok r then old ++ added else old) → OnOk r (new ≡ old ++ added)
pushed (Ok done) new old added is = is
pushed (Err fault) new old added is = tt
