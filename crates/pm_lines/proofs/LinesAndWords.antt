-- The lines of a text and the words of a line, one after another, and how an engine over them ends.
use Rattle.std.specs.{Io.KnownBytes.Consumes, Str.bytes_eq}
use Rattle.std.specs.List.{position, position_or_len, slice_split, before_first, after_first, count_by, enumerate_from, list_all}
use Rattle.std.proofs.{Math.ListN.drop_of_length-le, lemmas.Bool.Decides.nat_tests, lemmas.List.FromFn.length-enumerate_from}
use Rattle.std.proofs.{lemmas.Slice.Eq.bytes_eq-Decides}
use Rattle.std.proofs.Common.{◌≡◌, ℕ, Bool, List, length, Option, Some, None, arith, ◌∙◌, ◌<◌, ◌≤◌, true, false, ◌++◌, length-append}
use Rattle.std.proofs.Common.{append-nil, take, drop, take-append-drop, IfSome, Result, Ok, Err, refl, sym, ap, ltb, subst, ◌+◌, eqb, []}
use Rattle.std.proofs.Common.{◌∷◌, map, ◌⊎◌, inl, inr, ◌≢◌, suc, ◌-◌, get_or, ◌&&◌, Bor, MatchOption, not}
use Rattle.std.proofs.lemmas.Bool.{false_from_ne_true, cases_lt}
use Rattle.std.proofs.lemmas.List.{length-take, length-drop, take_all, nil_from_length, length-map, take_rest}
use Rattle.std.proofs.lemmas.List.Splits.{slice_split_first, slice_split_none, length-slice_split}
use Rattle.std.proofs.lemmas.List.Sums.{position_or_len_is, count_by-le-length, fails_before_first, length-filter}
use Rattle.memchr.specs.Find.{IsFirstByte}
use Rattle.pm_lines.specs.declared.fault.TextFault.{TextFault}
use Rattle.pm_lines.specs.Engine.{Engine, EngineEnds, IsSettled, Run, engine_end, engine_outcome}
use Rattle.pm_lines.specs.Lines.{is_line_feed, is_space, without_empty_last, without_return, lines_of, is_skipped, is_unskipped}
use Rattle.pm_lines.specs.Lines.{unskipped_from, words_of, has_space_first, is_one_word, is_next}
use Rattle.pm_lines.specs.Streams.{IsWholeText, max_text}
use Rattle.pm_lines.specs.declared.fault.TextFault.TheVariants.{Syntax, BadHex, TooLong, Read, Write, Memory, Setup}

-- What a search of `memchr` finds is the first place in `std`'s words.

-- what `memchr` finds is the first place
pub first_is : (p : ℕ → Bool) (xs : List ℕ) (found : Option ℕ) → IsFirstByte p xs found → found ≡ position p xs
first_is p xs None none =
    let end : position_or_len p xs ≡ length xs =
    position_or_len_is p xs (length xs) 0 (omega arith) (λ k below. false_from_ne_true _ (none k (omega arith) below))
    (λ past. absurd (omega arith)) in
    grind (arith, nat_tests)
first_is p xs (Some at) first =
    let (before, passes) = first in
    let high = before.high in
    let place : position_or_len p xs ≡ at =
    position_or_len_is p xs at 0 (omega arith) (λ k below. false_from_ne_true _ (before.before k (omega arith) below)) (λ below. passes) in
    grind (arith, nat_tests)

-- How an engine ends follows from its input.

-- bytes of which more came than this many, in two parts
pub parted : (old new : Option (List ℕ)) (n : ℕ) (bytes : List ℕ) → n < length bytes → Consumes old new bytes
    → (front : List ℕ) × (more : List ℕ) × (length front ≡ n) × (0 < length more) × Consumes old new (front ++ more)
parted old new n bytes long given =
    let P : List ℕ → Type 0 = λ l. Consumes old new l in (
      take n bytes,
      drop n bytes,
      omega (arith, length-take n bytes),
      omega (arith, length-drop n bytes),
      subst P (sym (take-append-drop n bytes)) given,
    )

module _ {T : Type 0} (engine : Engine T) where
  -- an input that is too long, and one that isn't
  outcome-long : (input : List ℕ) → max_text < length input → engine_outcome engine input ≡ Err TooLong
  outcome-long input long = let over : ltb max_text (length input) ≡ true = grind (arith, nat_tests) in rw over refl

  outcome-short : (input : List ℕ) → length input ≤ max_text → engine_outcome engine input ≡ engine_end (engine.whole input)
  outcome-short input short = let within : ltb max_text (length input) ≡ false = grind (arith, nat_tests) in rw within refl

  -- what a reader gave as a whole
  by_whole : (old new : Option (List ℕ)) (text : List ℕ) (r : Result T TextFault) → IsWholeText old new text
      → engine_end (engine.whole text) ≡ r → IfSome old (λ input. r ≡ engine_outcome engine input)
  by_whole None new text r whole is = tt
  by_whole (Some input) None text r whole is = absurd whole.given
  by_whole (Some input) (Some rest) text r whole is =
      let same : input ≡ text = whole.given ∙ ap (λ r. text ++ r) whole.ended ∙ append-nil text in
      sym is ∙ sym (outcome-short text whole.short) ∙ ap (engine_outcome engine) (sym same)

  -- what a reader gave at its front, and more
  by_long : (old new : Option (List ℕ)) (front more : List ℕ) → length front ≡ max_text → 0 < length more
      → Consumes old new (front ++ more) → IfSome old (λ input. Err TooLong ≡ engine_outcome engine input)
  by_long None new front more full some given = tt
  by_long (Some input) None front more full some given = absurd given
  by_long (Some input) (Some rest) front more full some given =
      sym (outcome-long input (omega (arith, ap length given, length-append (front ++ more) rest, length-append front more)))

  pub follows : {R W : Type 0} (run : Run R W) (result : Result T TextFault) → EngineEnds engine run result → IsSettled result
      → IfSome (run.remaining run.reader.inner) (λ input. result ≡ engine_outcome engine input)
  follows run (Ok end) (_, _, text, (input, whole, made), _) settled = by_whole _ _ input (Ok end) whole (ap engine_end made)
  follows run (Err (Syntax line)) (_, _, front, (whole, refused), _) settled = by_whole _ _ front _ whole (ap engine_end refused)
  follows run (Err (BadHex line)) (_, _, front, (whole, refused), _) settled = by_whole _ _ front _ whole (ap engine_end refused)
  follows run (Err (Setup reason)) (_, _, front, (whole, refused), _) settled = by_whole _ _ front _ whole (ap engine_end refused)
  follows run (Err TooLong) (_, _, front, (more, full, some, given), _) settled = by_long _ _ front more full some given
  follows run (Err Read) ends settled = absurd settled
  follows run (Err Write) ends settled = absurd settled
  follows run (Err Memory) ends settled = absurd settled

-- How the lines of a text and the words of a line come off one after another, at the first mark.

-- what the first mark leaves of a list
pub record Last (p : ℕ → Bool) (xs : List ℕ) : Type 0 where
  -- it is one piece
  pub pieces : slice_split p xs ≡ xs ∷ []
  -- all stands before a mark
  pub before : before_first p xs ≡ xs
  -- nothing follows one
  pub after : after_first p xs ≡ []

-- the first piece of a list ends at its first mark, or is the last one
pub first_piece : (p : ℕ → Bool) (xs : List ℕ)
    → (slice_split p xs ≡ before_first p xs ∷ slice_split p (after_first p xs)) ⊎ Last p xs
first_piece p xs =
    elim (cases_lt (position_or_len p xs) (length xs)) [
      | inl marked ↦ inl (slice_split_first p xs 0 marked)
      | inr none ↦ inr (record {
        pieces = slice_split_none p xs
            (λ k d below. let first : k < position_or_len p xs = omega arith in fails_before_first p xs k d first);
        before = take_all (position_or_len p xs) xs none;
        after = drop_of_length-le xs {i = position_or_len p xs + 1} (omega arith);
      })
    ]

-- the rest after the first mark is shorter
pub shorter : (p : ℕ → Bool) (xs rest : List ℕ) → rest ≡ after_first p xs → eqb (length xs) 0 ≡ false → length rest + 1 ≤ length xs
shorter p xs rest after some =
    let more : 0 < length xs = grind (arith, nat_tests) in
    rw after (omega (arith, length-drop {A = ℕ} (position_or_len p xs + 1) xs))

-- a piece with others after it stays
keeps : (piece : List ℕ) (pieces : List (List ℕ)) → 0 < length pieces
    → without_empty_last (piece ∷ pieces) ≡ piece ∷ without_empty_last pieces
keeps piece [] some = absurd (omega arith)
keeps piece (next ∷ pieces) some = refl

-- a single piece stays where it isn't empty
single : (piece : List ℕ) → 0 < length piece → without_empty_last (piece ∷ []) ≡ piece ∷ []
single [] some = absurd (omega arith)
single (x ∷ xs) some = refl

-- the pieces but for an empty last one, where the first ends
ended_first : (p : ℕ → Bool) (xs : List ℕ) → 0 < length xs
    → without_empty_last (slice_split p xs) ≡ before_first p xs ∷ without_empty_last (slice_split p (after_first p xs))
ended_first p xs some =
    elim (first_piece p xs) [
      | inl marked ↦ rw marked (keeps (before_first p xs) (slice_split p (after_first p xs))
          (omega (arith, length-slice_split p (after_first p xs))))
      | inr last ↦ rw (last.pieces, last.before, last.after) (single xs some)
    ]

-- an empty text has no lines
pub lines-nil : lines_of [] ≡ []
unfolding lines_of
lines-nil = refl

-- the first line of a text that has one
pub lines-first : (text : List ℕ) → 0 < length text
    → lines_of text ≡ without_return (before_first is_line_feed text) ∷ lines_of (after_first is_line_feed text)
unfolding lines_of
lines-first text some = ap (map without_return) (ended_first is_line_feed text some)

-- an empty last piece counts for none
fewer : (pieces : List (List ℕ)) → length (without_empty_last pieces) ≤ length pieces
fewer [] = omega arith
fewer ([] ∷ []) = omega arith
fewer ((byte ∷ bytes) ∷ []) = omega arith
fewer (piece ∷ next ∷ pieces) = omega (arith, fewer (next ∷ pieces))

-- a text has at most one line more than line feeds
pub unskipped-few : (first : ℕ) (text : List ℕ) → length (unskipped_from first text) ≤ count_by is_line_feed text + 1
unfolding unskipped_from lines_of
unskipped-few first text =
    let pieces = slice_split is_line_feed text in
    let lines = map without_return (without_empty_last pieces) in
    omega (
      arith,
      length-filter is_unskipped (enumerate_from first lines),
      count_by-le-length is_unskipped (enumerate_from first lines),
      length-enumerate_from first lines,
      length-map (without_empty_last pieces) without_return,
      fewer pieces,
      length-slice_split is_line_feed text,
    )

-- an empty text has no line that is not skipped
pub unskipped-nil : (first : ℕ) → unskipped_from first [] ≡ []
unfolding unskipped_from
unskipped-nil first = rw lines-nil refl

-- a first line that is skipped
pub unskipped-skipped : (first : ℕ) (text : List ℕ) → 0 < length text → is_skipped (without_return (before_first is_line_feed text)) ≡ true
    → unskipped_from first text ≡ unskipped_from (first + 1) (after_first is_line_feed text)
unfolding unskipped_from
unskipped-skipped first text some skipped = rw (lines-first text some) (rw skipped refl)

-- a first line that is not skipped
pub unskipped-first : (first : ℕ) (text : List ℕ) → 0 < length text → is_skipped (without_return (before_first is_line_feed text)) ≡ false
    → unskipped_from first text ≡ (first, without_return (before_first is_line_feed text))
    ∷ unskipped_from (first + 1) (after_first is_line_feed text)
unfolding unskipped_from
unskipped-first first text some unskipped = rw (lines-first text some) (rw unskipped refl)

-- an empty line has no words
pub words-nil : words_of [] ≡ []
unfolding words_of
words-nil = refl

-- nothing before the first space
pub words-spaced : (line : List ℕ) → before_first is_space line ≡ [] → words_of line ≡ words_of (after_first is_space line)
unfolding words_of
words-spaced line empty =
    elim (first_piece is_space line) [
      | inl marked ↦ rw (marked, empty) refl
      | inr last ↦ rw (last.pieces, last.after, sym last.before ∙ empty) refl
    ]

-- a word before the first space
pub words-first : (line : List ℕ) (byte : ℕ) (bytes : List ℕ) → before_first is_space line ≡ byte ∷ bytes
    → words_of line ≡ (byte ∷ bytes) ∷ words_of (after_first is_space line)
unfolding words_of
words-first line byte bytes word =
    elim (first_piece is_space line) [
      | inl marked ↦ rw (marked, word) refl
      | inr last ↦ rw (last.pieces, last.after, sym last.before ∙ word) refl
    ]

-- a list of no length
empty_nil : (xs : List ℕ) → eqb (length xs) 0 ≡ true → xs ≡ []
empty_nil xs empty = nil_from_length xs (grind (arith, nat_tests))

-- a word, and what follows its space
pub words-after : (line word rest : List ℕ) → word ≡ before_first is_space line → rest ≡ after_first is_space line
    → eqb (length word) 0 ≡ false → words_of line ≡ word ∷ words_of rest
words-after line [] rest before after some = absurd (cc)
words-after line (byte ∷ bytes) rest before after some =
    words-first line byte bytes (sym before) ∙ ap (λ r. (byte ∷ bytes) ∷ words_of r) (sym after)

-- no byte is left of the line
pub words-end : (line : List ℕ) → eqb (length line) 0 ≡ true → words_of line ≡ []
words-end line empty = ap words_of (empty_nil line empty) ∙ words-nil

-- how a call that cuts a text at its first line feed goes on
pub unskipped-after_skipped : (first : ℕ) (text line rest : List ℕ) → line ≡ without_return (before_first is_line_feed text)
    → rest ≡ after_first is_line_feed text → eqb (length text) 0 ≡ false → is_skipped line ≡ true
    → unskipped_from first text ≡ unskipped_from (first + 1) rest
unskipped-after_skipped first text line rest before after some skipped =
    let more : 0 < length text = grind (arith, nat_tests) in
    unskipped-skipped first text more (sym (ap is_skipped before) ∙ skipped) ∙ ap (unskipped_from (first + 1)) (sym after)

-- a line that is not skipped, and what follows it
pub unskipped-after : (first : ℕ) (text line rest : List ℕ) → line ≡ without_return (before_first is_line_feed text)
    → rest ≡ after_first is_line_feed text → eqb (length text) 0 ≡ false → is_skipped line ≡ false
    → unskipped_from first text ≡ (first, line) ∷ unskipped_from (first + 1) rest
unskipped-after first text line rest before after some unskipped =
    let more : 0 < length text = grind (arith, nat_tests) in
    unskipped-first first text more (sym (ap is_skipped before) ∙ unskipped)
    ∙ ap (λ l. (first, l) ∷ unskipped_from (first + 1) (after_first is_line_feed text)) (sym before)
    ∙ ap (λ r. (first, line) ∷ unskipped_from (first + 1) r) (sym after)

-- a line more than what follows it
pub lines-counted : (text rest : List ℕ) → rest ≡ after_first is_line_feed text → eqb (length text) 0 ≡ false
    → length (lines_of text) ≡ length (lines_of rest) + 1
lines-counted text rest after some =
    let more : 0 < length text = grind (arith, nat_tests) in
    let counted = ap length (lines-first text more) in
    rw after (omega (arith, counted))

-- no byte is left of the text
pub unskipped-end : (first : ℕ) (text : List ℕ) → eqb (length text) 0 ≡ true → unskipped_from first text ≡ []
unskipped-end first text empty = ap (unskipped_from first) (empty_nil text empty) ∙ unskipped-nil first

-- a text of no bytes has no line
pub lines-end : (text : List ℕ) → eqb (length text) 0 ≡ true → lines_of text ≡ []
lines-end text empty = ap lines_of (empty_nil text empty) ∙ lines-nil

-- The word at a line's front: which it is, and what the line's words are behind it.

-- none of the bytes is a space
abbrev spaceless : List ℕ → Bool
spaceless bytes = list_all (λ byte. not (is_space byte)) bytes

-- the text up to the first space, and what follows it, are those of `rest` if no byte of the word before it is a space
record Behind (word rest : List ℕ) : Type 0 where
  before : before_first is_space (word ++ rest) ≡ word ++ before_first is_space rest
  after : after_first is_space (word ++ rest) ≡ after_first is_space rest

-- one more is taken
take_next : (n byte : ℕ) (bytes : List ℕ) → take (1 + n) (byte ∷ bytes) ≡ byte ∷ take n bytes
take_next n byte bytes = ap (λ k. take k (byte ∷ bytes)) (next n)
  where
    next : (n : ℕ) → 1 + n ≡ suc n
    next n = omega arith

-- one more is dropped
drop_next : (n byte : ℕ) (bytes : List ℕ) → drop ((1 + n) + 1) (byte ∷ bytes) ≡ drop (n + 1) bytes
drop_next n byte bytes = ap (λ k. drop k (byte ∷ bytes)) (next n)
  where
    next : (n : ℕ) → (1 + n) + 1 ≡ suc (n + 1)
    next n = omega arith

-- a byte that is no space is passed
before-passed : (byte : ℕ) (bytes : List ℕ) → is_space byte ≡ false
    → before_first is_space (byte ∷ bytes) ≡ byte ∷ before_first is_space bytes
before-passed byte bytes is = rw is (take_next (position_or_len is_space bytes) byte bytes)

-- a byte before the first space changes nothing of what stands behind that space
after-passed : (byte : ℕ) (bytes : List ℕ) → is_space byte ≡ false
    → after_first is_space (byte ∷ bytes) ≡ after_first is_space bytes
after-passed byte bytes is = rw is (drop_next (position_or_len is_space bytes) byte bytes)

-- a byte more that is no space
passed : (byte : ℕ) (word rest : List ℕ) (space : Bool) → is_space byte ≡ space → spaceless (byte ∷ word) ≡ true
    → (spaceless word ≡ true → Behind word rest) → Behind (byte ∷ word) rest
passed byte word rest true is free next =
    let none : false ≡ true = ap (λ space. not space && spaceless word) (sym is) ∙ free in
    absurd (cc)
passed byte word rest false is free next =
    let more = next (ap (λ space. not space && spaceless word) (sym is) ∙ free) in
    record {
      before = before-passed byte (word ++ rest) is ∙ ap (λ bytes. byte ∷ bytes) more.before;
      after = after-passed byte (word ++ rest) is ∙ more.after;
    }

-- bytes without a space are passed
behind : (word rest : List ℕ) → spaceless word ≡ true → Behind word rest
behind [] rest free = record { before = refl; after = refl }
behind (byte ∷ word) rest free = passed byte word rest (is_space byte) refl free (behind word rest)

-- the words of a line that begins with a word, whatever follows it
front : (word rest : List ℕ) → is_one_word word ≡ true
    → words_of (word ++ rest) ≡ (word ++ before_first is_space rest) ∷ words_of (after_first is_space rest)
front [] rest one = absurd (cc)
front (byte ∷ word) rest one =
    let more = behind (byte ∷ word) rest one in
    words-first ((byte ∷ word) ++ rest) byte (word ++ before_first is_space rest) more.before
    ∙ ap (λ r. ((byte ∷ word) ++ before_first is_space rest) ∷ words_of r) more.after

-- behind a word is a space or the line's end: it is the next word
pub word-taken : (word rest left : List ℕ) → is_one_word word ≡ true → before_first is_space rest ≡ []
    → left ≡ after_first is_space rest → words_of (word ++ rest) ≡ word ∷ words_of left
word-taken word rest left one ends after =
    front word rest one
    ∙ ap (λ bytes. bytes ∷ words_of (after_first is_space rest)) (ap (λ bytes. word ++ bytes) ends ∙ append-nil word)
    ∙ ap (λ r. word ∷ words_of r) (sym after)

-- a word with more bytes is another
longer : (word more : List ℕ) → more ≢ [] → bytes_eq (word ++ more) word ≡ false
longer [] [] some = absurd (some refl)
longer [] (byte ∷ more) some = refl
longer (byte ∷ word) more some = grind (arith, nat_tests, longer word more some)

-- behind a word are more bytes of the next one
pub word-is_longer : (word rest : List ℕ) → is_one_word word ≡ true → before_first is_space rest ≢ []
    → is_next word (words_of (word ++ rest)) ≡ false
word-is_longer word rest one more = rw (front word rest one) (longer word (before_first is_space rest) more)

-- the bytes are not a word's whose bytes don't stand at the front
other : (test : Bool) (word text : List ℕ) → bytes_eq (before_first is_space text) word ≡ test
    → ((rest : List ℕ) → text ≢ word ++ rest) → test ≡ false
other false word text is else = refl
other true word text is else =
    let same : before_first is_space text ≡ word = (bytes_eq-Decides (before_first is_space text) word).0 is in
    absurd (else (drop (position_or_len is_space text) text)
    (sym (take-append-drop (position_or_len is_space text) text) ∙ ap (λ bytes. bytes ++ drop (position_or_len is_space text) text) same))

-- the line doesn't begin with the word
pub word-is_other : (word text : List ℕ) → has_space_first text ≡ false → ((rest : List ℕ) → text ≢ word ++ rest)
    → is_next word (words_of text) ≡ false
word-is_other word [] first else = rw words-nil refl
word-is_other word (byte ∷ text) first else =
    let begins = before-passed byte text first in
    rw (words-first (byte ∷ text) byte (before_first is_space text) begins)
    (ap (λ bytes. bytes_eq bytes word) (sym begins) ∙ other _ word (byte ∷ text) refl else)

-- the first word of what has bytes and begins with none that is a space, and what follows its space
pub word-first : (text word rest : List ℕ) → has_space_first text ≡ false → eqb (length text) 0 ≡ false
    → word ≡ before_first is_space text → rest ≡ after_first is_space text → words_of text ≡ word ∷ words_of rest
word-first [] word rest first some before after = absurd (cc)
word-first (byte ∷ text) word rest first some before after =
    let begins = before-passed byte text first in
    words-after (byte ∷ text) word rest before after (rw (before, begins) (grind (arith, nat_tests)))

-- what a search for a word at the front gives, and then for the space or the end behind it
pub word-behind : (text word : List ℕ) (found : Option (Bor (List ℕ))) → is_one_word word ≡ true
    → (rest : List ℕ) → text ≡ word ++ rest
    → MatchOption found (before_first is_space rest ≢ [])
    (λ left. (before_first is_space rest ≡ []) × (left.now ≡ after_first is_space rest))
    → MatchOption found (is_next word (words_of text) ≡ false) (λ left. words_of text ≡ word ∷ words_of left.now)
word-behind text word None one rest is more =
    ap (λ bytes. is_next word (words_of bytes)) is ∙ word-is_longer word rest one more
word-behind text word (Some left) one rest is ends =
    ap words_of is ∙ word-taken word rest left.now one ends.0 ends.1

-- a space at the front is passed, and no word
pub words-passed : (text left : List ℕ) → 1 ≤ length text → get_or text 0 0 ≡ 32 → left ≡ take (length text - 1) (drop 1 text)
    → words_of left ≡ words_of text
words-passed [] left some space is = absurd (omega arith)
words-passed (byte ∷ bytes) left some space is = rw (is, take_rest (byte ∷ bytes) 1, space) (sym (words-spaced (32 ∷ bytes) refl))
