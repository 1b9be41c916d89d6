-- What is kept of a line, each byte of which counts, with one byte more at its end.
use Rattle.std.proofs.Common.{◌≡◌, ℕ, eqb, ltb, Bool, true, false, cond, not, ◌||◌, ◌&&◌, List, [], ◌∷◌, ◌++◌, length, take, Option, Some}
use Rattle.std.proofs.Common.{None, refl, sym, ap, ◌∙◌, arith, append_assoc, append-nil, length-append, inl, inr}
use Rattle.std.specs.Prelude.{flat_map, is_some}
use Rattle.std.specs.List.{list_any, list_all}
use Rattle.std.proofs.Math.Bool.{or-true, or-false, or_assoc}
use Rattle.std.proofs.lemmas.Bool.{or_parts, cases_lt}
use Rattle.std.proofs.lemmas.Bool.Decides.{nat_tests}
use Rattle.std.proofs.lemmas.List.{take-append-le, take_all, length-take-le}
use Rattle.std.proofs.lemmas.List.Folds.{list_any-append, list_all-append}
use Rattle.std.proofs.lemmas.Grind.{flat_map-append}
use Rattle.hex.specs.Hex.{is_hex_digit}
use Rattle.pm_lines.specs.Lines.{is_space}
use Rattle.pm_lines.specs.Pairs.{byte_of}
use Rattle.pm_trace.specs.Marks.{ended_pieces, since, before, after_first_mark}
use Rattle.pm_trace.specs.Trace.{is_slash, is_separator, unpaired, bytes_of_digits, is_bad_word, part_bytes, max_part}
use Rattle.pm_trace.specs.Parts.{Collected, part_of, part_takes}
use Rattle.pm_trace.specs.OpenLines.{kind_of, kind_takes, slashes_of, one_slash_more, has_slash, has_more_slashes, plain_line}
use Rattle.pm_trace.specs.OpenLines.{plain_takes, word_ends, word_goes_on}
use Rattle.pm_trace.specs.declared.decoder.slashes.Slashes.TheVariants as slash
use Rattle.pm_trace.specs.declared.decoder.line_kind.LineKind.TheVariants.{Blank, Comment, Packet}
use Rattle.pm_trace.specs.Lemmas.Marks.{before_none, after_none, ended-mark, ended-other, since-mark, since-other, split-ended}
use Rattle.pm_trace.specs.Lemmas.Marks.{before-marked, before-unmarked, after-marked, after-unmarked}

-- ---- pairs of digits

-- the byte that a digit makes with the one before it, where there is one
abbrev pub byte_after_digit : Option ℕ → ℕ → List ℕ
byte_after_digit None byte = []
byte_after_digit (Some high) byte = byte_of high byte ∷ []

-- the last digit then
abbrev pub digit_after : Option ℕ → ℕ → Option ℕ
digit_after None byte = Some byte
digit_after (Some high) byte = None

-- one digit more of a word
word_bytes-snoc : (word : List ℕ) (b : ℕ) → bytes_of_digits (word ++ b ∷ []) ≡ bytes_of_digits word ++ byte_after_digit (unpaired word) b
word_bytes-snoc [] b = refl
word_bytes-snoc (x ∷ []) b = refl
word_bytes-snoc (x ∷ y ∷ word) b = ap (λ l. byte_of x y ∷ l) (word_bytes-snoc word b)

-- a digit more waits, or makes a byte with the one before it
unpaired-snoc : (word : List ℕ) (b : ℕ) → unpaired (word ++ b ∷ []) ≡ digit_after (unpaired word) b
unpaired-snoc [] b = refl
unpaired-snoc (x ∷ []) b = refl
unpaired-snoc (x ∷ y ∷ word) b = unpaired-snoc word b

-- ---- a part

-- the bytes of the words that ended, and of the one that goes on
part_bytes-split : (part : List ℕ) → part_bytes part ≡ flat_map bytes_of_digits (ended_pieces is_separator part)
    ++ bytes_of_digits (since is_separator part)
part_bytes-split part =
    ap (flat_map bytes_of_digits) (split-ended is_separator part)
    ∙ flat_map-append bytes_of_digits (ended_pieces is_separator part) (since is_separator part ∷ [])
    ∙ ap (λ l. flat_map bytes_of_digits (ended_pieces is_separator part) ++ l) (append-nil (bytes_of_digits (since is_separator part)))

-- a space or a slash writes no byte
part_bytes-separator : (part : List ℕ) (b : ℕ) → is_separator b ≡ true → part_bytes (part ++ b ∷ []) ≡ part_bytes part
part_bytes-separator part b is =
    let old = flat_map bytes_of_digits (ended_pieces is_separator part) in
    let last = bytes_of_digits (since is_separator part) in
    part_bytes-split (part ++ b ∷ [])
    ∙ ap (λ l. flat_map bytes_of_digits l ++ bytes_of_digits (since is_separator (part ++ b ∷ []))) (ended-mark is_separator part b is)
    ∙ ap (λ l. flat_map bytes_of_digits (ended_pieces is_separator part ++ since is_separator part ∷ []) ++ bytes_of_digits l)
    (since-mark is_separator part b is)
    ∙ append-nil (flat_map bytes_of_digits (ended_pieces is_separator part ++ since is_separator part ∷ []))
    ∙ flat_map-append bytes_of_digits (ended_pieces is_separator part) (since is_separator part ∷ [])
    ∙ ap (λ l. old ++ l) (append-nil last) ∙ sym (part_bytes-split part)

-- another byte may end a pair
part_bytes-other : (part : List ℕ) (b : ℕ) → is_separator b ≡ false
    → part_bytes (part ++ b ∷ []) ≡ part_bytes part ++ byte_after_digit (unpaired (since is_separator part)) b
part_bytes-other part b other =
    let old = flat_map bytes_of_digits (ended_pieces is_separator part) in
    let pair = byte_after_digit (unpaired (since is_separator part)) b in
    part_bytes-split (part ++ b ∷ [])
    ∙ ap (λ l. flat_map bytes_of_digits l ++ bytes_of_digits (since is_separator (part ++ b ∷ []))) (ended-other is_separator part b other)
    ∙ ap (λ l. old ++ bytes_of_digits l) (since-other is_separator part b other)
    ∙ ap (λ l. old ++ l) (word_bytes-snoc (since is_separator part) b)
    ∙ sym (append_assoc old (bytes_of_digits (since is_separator part)) pair)
    ∙ ap (λ l. l ++ pair) (sym (part_bytes-split part))

-- one byte more of a part
-- Stands for the clause of `LinePart::take`.
pub part_of-snoc : (bytes : List ℕ) (b : ℕ) → part_of (bytes ++ b ∷ []) ≡ part_takes (part_of bytes) b
unfolding part_of part_takes
part_of-snoc bytes b =
    elim (cases_lt (length bytes) max_part) [
      | inl room ↦
          let whole : take max_part bytes ≡ bytes = take_all max_part bytes (omega arith) in
          let more : take max_part (bytes ++ b ∷ []) ≡ bytes ++ b ∷ [] = take_all max_part (bytes ++ b ∷ []) (omega
          (arith, length-append bytes (b ∷ []))) in
          let fits : ltb (length bytes) max_part ≡ true = grind (arith, nat_tests) in
          let short : ltb max_part (length bytes) ≡ false = grind (arith, nat_tests) in
          let longer : ltb max_part (length (bytes ++ b ∷ [])) ≡ false = grind (arith, nat_tests, length-append bytes (b ∷ [])) in
          rw (more, longer, whole, fits, short) refl
      | inr full ↦
          let same : take max_part (bytes ++ b ∷ []) ≡ take max_part bytes = take-append-le max_part bytes (b ∷ []) full in
          let size : length (take max_part bytes) ≡ max_part = length-take-le max_part bytes full in
          let fits : ltb (length (take max_part bytes)) max_part ≡ false = grind (arith, nat_tests) in
          let longer : ltb max_part (length (bytes ++ b ∷ [])) ≡ true = grind (arith, nat_tests, length-append bytes (b ∷ [])) in
          rw (same, longer, fits) refl
    ]

-- ---- the kind

-- one byte more, and what the line is by its first bytes
pub kind_of-snoc : (line : List ℕ) (b : ℕ) → kind_of (line ++ b ∷ []) ≡ kind_takes (kind_of line) b
kind_of-snoc [] b = by (eqb b 35) (is_space b)
  where
    by : (hash space : Bool) → cond hash Comment (cond (space && true) Blank Packet) ≡ cond hash Comment (cond space Blank Packet)
    by true space = refl
    by false true = refl
    by false false = refl
kind_of-snoc (x ∷ xs) b =
    let all : list_all is_space (xs ++ b ∷ []) ≡ (list_all is_space xs && (is_space b && true)) = list_all-append is_space xs (b ∷ []) in
    rw all (by (eqb x 35) (is_space x) (list_all is_space xs) (is_space b) refl)
  where
    by : (hash first rest space : Bool) → is_space b ≡ space
        → cond hash Comment (cond (first && (rest && (space && true))) Blank Packet)
        ≡ kind_takes (cond hash Comment (cond (first && rest) Blank Packet)) b
    by true first rest space is = refl
    by false false rest space is = refl
    by false true false space is = refl
    by false true true true is = rw is refl
    by false true true false is = rw is refl

-- ---- the two parts

-- a slash parts words
slash_separates : (xs : List ℕ) → list_any is_slash xs ≡ true → list_any is_separator xs ≡ true
slash_separates [] some = absurd (cc)
slash_separates (x ∷ xs) some = by (eqb x 47) refl (slash_separates xs)
  where
    by : (c : Bool) → eqb x 47 ≡ c → (list_any is_slash xs ≡ true → list_any is_separator xs ≡ true) → list_any is_separator (x ∷ xs) ≡ true
    by true is rest = rw (is, or-true (eqb x 32)) refl
    by false is rest = rw (rest (rw is at some), or-true (eqb x 32 || eqb x 47)) refl

-- after a slash the word that goes on stands in the read part
since_after : (xs : List ℕ) → list_any is_slash xs ≡ true → since is_separator xs ≡ since is_separator (after_first_mark is_slash xs)
since_after [] some = refl
since_after (x ∷ xs) some = by (eqb x 47) refl (since_after xs)
  where
    by : (c : Bool) → eqb x 47 ≡ c →
        (list_any is_slash xs ≡ true → since is_separator xs ≡ since is_separator (after_first_mark is_slash xs))
        → since is_separator (x ∷ xs) ≡ since is_separator (after_first_mark is_slash (x ∷ xs))
    by true is rest = rw (is, or-true (eqb x 32)) refl
    by false is rest =
        let more : list_any is_slash xs ≡ true = rw is at some in
        rw (slash_separates xs more, or-true (eqb x 32 || eqb x 47), is) (rest more)

-- what parts no words is no slash
not_slash : (b : ℕ) → is_separator b ≡ false → is_slash b ≡ false
not_slash b other = (or_parts (is_space b) (is_slash b) other).1

module _ (line : List ℕ) (b : ℕ) where
  -- a separator leaves the bytes of both parts
  write_parted : is_separator b ≡ true → part_bytes (before is_slash (line ++ b ∷ [])) ≡ part_bytes (before is_slash line)
  write_parted is = by (list_any is_slash line) refl
    where
      ends : (c : Bool) → is_slash b ≡ c → list_any is_slash line ≡ false
          → part_bytes (before is_slash (line ++ b ∷ [])) ≡ part_bytes (before is_slash line)
      ends true slash none =
          ap part_bytes (before-unmarked is_slash line (b ∷ []) none ∙ rw slash (append-nil line) ∙ sym (before_none is_slash line none))
      ends false space none =
          let goes : before is_slash (line ++ b ∷ []) ≡ line ++ b ∷ [] = before-unmarked is_slash line (b ∷ []) none ∙ rw space refl in
          ap part_bytes goes ∙ part_bytes-separator line b is ∙ ap part_bytes (sym (before_none is_slash line none))

      by : (c : Bool) → list_any is_slash line ≡ c → part_bytes (before is_slash (line ++ b ∷ [])) ≡ part_bytes (before is_slash line)
      by true some = ap part_bytes (before-marked is_slash line (b ∷ []) some)
      by false none = ends (is_slash b) refl none

  -- the read part with a space or slash more
  read_parted : is_separator b ≡ true → part_bytes (after_first_mark is_slash (line ++ b ∷ []))
      ≡ part_bytes (after_first_mark is_slash line)
  read_parted is = by (list_any is_slash line) refl
    where
      by : (c : Bool) → list_any is_slash line ≡ c → part_bytes (after_first_mark is_slash (line ++ b ∷ []))
          ≡ part_bytes (after_first_mark is_slash line)
      by true some = ap part_bytes (after-marked is_slash line (b ∷ []) some) ∙ part_bytes-separator (after_first_mark is_slash line) b is
      by false none = ap part_bytes (after-unmarked is_slash line b none ∙ sym (after_none is_slash line none))

  -- another byte goes on with the word of the part that goes on
  write_goes : is_separator b ≡ false → list_any is_slash line ≡ false
      → part_bytes (before is_slash (line ++ b ∷ [])) ≡ part_bytes (before is_slash line)
      ++ byte_after_digit (unpaired (since is_separator line)) b
  write_goes other none =
      let goes : before is_slash (line ++ b ∷ []) ≡ line ++ b ∷ [] = before-unmarked is_slash line (b ∷ []) none
      ∙ rw (not_slash b other) refl in
      ap part_bytes goes ∙ part_bytes-other line b other
      ∙ ap (λ l. part_bytes l ++ byte_after_digit (unpaired (since is_separator line)) b) (sym (before_none is_slash line none))

  -- the read part with a digit more
  read_goes : is_separator b ≡ false → list_any is_slash line ≡ true
      → part_bytes (after_first_mark is_slash (line ++ b ∷ [])) ≡ part_bytes (after_first_mark is_slash line)
      ++ byte_after_digit (unpaired (since is_separator line)) b
  read_goes other some =
      ap part_bytes (after-marked is_slash line (b ∷ []) some) ∙ part_bytes-other (after_first_mark is_slash line) b other
      ∙ ap (λ l. part_bytes (after_first_mark is_slash line) ++ byte_after_digit (unpaired l) b) (sym (since_after line some))

-- the part with the byte that a digit makes with the one before it, where there is one
abbrev pub part_after : Option ℕ → Collected → ℕ → Collected
part_after None part byte = part
part_after (Some high) part byte = part_takes part (byte_of high byte)

-- a part with the byte of a pair, if there is one
part_of-pair : (bytes : List ℕ) (d : Option ℕ) (b : ℕ) → part_of (bytes ++ byte_after_digit d b) ≡ part_after d (part_of bytes) b
part_of-pair bytes None b = ap part_of (append-nil bytes)
part_of-pair bytes (Some high) b = part_of-snoc bytes (byte_of high b)

module _ (line : List ℕ) (b : ℕ) (other : is_separator b ≡ false) where
  -- the write part as the line keeps it
  write_field : (d : Option ℕ) (s : Bool) → unpaired (since is_separator line) ≡ d → list_any is_slash line ≡ s
      → part_of (part_bytes (before is_slash (line ++ b ∷ [])))
      ≡ cond s (part_of (part_bytes (before is_slash line))) (part_after d (part_of (part_bytes (before is_slash line))) b)
  write_field d true isd iss = ap (λ l. part_of (part_bytes l)) (before-marked is_slash line (b ∷ []) iss)
  write_field d false isd iss =
      ap part_of (write_goes line b other iss ∙ ap (λ e. part_bytes (before is_slash line) ++ byte_after_digit e b) isd)
      ∙ part_of-pair (part_bytes (before is_slash line)) d b

  -- the read part as the line keeps it
  read_field : (d : Option ℕ) (s : Bool) → unpaired (since is_separator line) ≡ d → list_any is_slash line ≡ s
      → part_of (part_bytes (after_first_mark is_slash (line ++ b ∷ [])))
      ≡ cond s (part_after d (part_of (part_bytes (after_first_mark is_slash line))) b)
      (part_of (part_bytes (after_first_mark is_slash line)))
  read_field d true isd iss =
      ap part_of (read_goes line b other iss ∙ ap (λ e. part_bytes (after_first_mark is_slash line) ++ byte_after_digit e b) isd)
      ∙ part_of-pair (part_bytes (after_first_mark is_slash line)) d b
  read_field d false isd iss = ap (λ l. part_of (part_bytes l)) (after-unmarked is_slash line b iss ∙ sym (after_none is_slash line iss))

-- ---- the flags

-- a slash more
slash-snoc : (line : List ℕ) (b : ℕ) → list_any is_slash (line ++ b ∷ []) ≡ (list_any is_slash line || is_slash b)
slash-snoc line b = list_any-append is_slash line (b ∷ []) ∙ ap (λ c. list_any is_slash line || c) (or-false (is_slash b))

-- a second slash
more-snoc : (line : List ℕ) (b : ℕ) → list_any is_slash (after_first_mark is_slash (line ++ b ∷ []))
    ≡ (list_any is_slash (after_first_mark is_slash line) || (list_any is_slash line && is_slash b))
more-snoc line b = by (list_any is_slash line) refl
  where
    by : (c : Bool) → list_any is_slash line ≡ c
        → list_any is_slash (after_first_mark is_slash (line ++ b ∷ []))
        ≡ (list_any is_slash (after_first_mark is_slash line) || (c && is_slash b))
    by true some = ap (list_any is_slash) (after-marked is_slash line (b ∷ []) some) ∙ slash-snoc (after_first_mark is_slash line) b
    by false none = ap (list_any is_slash) (after-unmarked is_slash line b none) ∙ rw (after_none is_slash line none) refl

-- a line without a slash has none after it either
no_more : (line : List ℕ) → list_any is_slash line ≡ false → list_any is_slash (after_first_mark is_slash line) ≡ false
no_more line none = ap (list_any is_slash) (after_none is_slash line none)

-- a slash was seen where the line has one
pub has_slash-is : (line : List ℕ) → has_slash (slashes_of line) ≡ list_any is_slash line
has_slash-is line = by (list_any is_slash line) (list_any is_slash (after_first_mark is_slash line))
  where
    by : (any more : Bool) → has_slash (cond any (cond more slash.More slash.One) slash.None) ≡ any
    by true true = refl
    by true false = refl
    by false more = refl

-- a second slash was seen where the line has two
pub has_more-is : (line : List ℕ) → has_more_slashes (slashes_of line) ≡ list_any is_slash (after_first_mark is_slash line)
has_more-is line = by (list_any is_slash line) (list_any is_slash (after_first_mark is_slash line)) (no_more line)
  where
    by : (any more : Bool) → (any ≡ false → more ≡ false)
        → has_more_slashes (cond any (cond more slash.More slash.One) slash.None) ≡ more
    by true true none = refl
    by true false none = refl
    by false more none = sym (none refl)

-- the slashes with one byte more
slashes-snoc : (line : List ℕ) (b : ℕ)
    → slashes_of (line ++ b ∷ []) ≡ cond (is_slash b) (one_slash_more (slashes_of line)) (slashes_of line)
slashes-snoc line b =
    (λ i. cond (slash-snoc line b i) (cond (more-snoc line b i) slash.More slash.One) slash.None)
    ∙ by (list_any is_slash line) (list_any is_slash (after_first_mark is_slash line)) (is_slash b) (no_more line)
  where
    by : (any more one : Bool) → (any ≡ false → more ≡ false)
        → cond (any || one) (cond (more || (any && one)) slash.More slash.One) slash.None
        ≡ cond one (one_slash_more (cond any (cond more slash.More slash.One) slash.None)) (cond any
        (cond more slash.More slash.One) slash.None)
    by true true true none = refl
    by true true false none = refl
    by true false true none = refl
    by true false false none = refl
    by false true one none = let wrong = none refl in absurd (cc)
    by false false true none = refl
    by false false false none = refl

-- a word that ends is judged
bad-separator : (line : List ℕ) (b : ℕ) → is_separator b ≡ true
    →
    (list_any is_bad_word (ended_pieces is_separator (line ++ b ∷ [])) || not (list_all is_hex_digit (since is_separator (line ++ b ∷ []))))
    ≡ ((list_any is_bad_word (ended_pieces is_separator line) || not (list_all is_hex_digit (since is_separator line)))
    || is_some (unpaired (since is_separator line)))
bad-separator line b is =
    rw (ended-mark is_separator line b is, since-mark is_separator line b is) (
    or-false (list_any is_bad_word (ended_pieces is_separator line ++ since is_separator line ∷ []))
    ∙ list_any-append is_bad_word (ended_pieces is_separator line) (since is_separator line ∷ [])
    ∙ ap (λ c. list_any is_bad_word (ended_pieces is_separator line) || c) (or-false (is_bad_word (since is_separator line)))
    ∙ sym (or_assoc (list_any is_bad_word (ended_pieces is_separator line)) (not (list_all is_hex_digit (since is_separator line)))
    (is_some (unpaired (since is_separator line))))
    )

-- two ways to say that a word is bad
not_both : (a s h : Bool) → (a || not (s && (h && true))) ≡ ((a || not s) || not h)
not_both true s h = refl
not_both false true true = refl
not_both false true false = refl
not_both false false h = refl

-- a word that goes on is judged by its bytes so far
bad-other : (line : List ℕ) (b : ℕ) → is_separator b ≡ false
    →
    (list_any is_bad_word (ended_pieces is_separator (line ++ b ∷ [])) || not (list_all is_hex_digit (since is_separator (line ++ b ∷ []))))
    ≡ ((list_any is_bad_word (ended_pieces is_separator line) || not (list_all is_hex_digit (since is_separator line)))
    || not (is_hex_digit b))
bad-other line b other =
    rw (ended-other is_separator line b other, since-other is_separator line b other) (
    ap (λ c. list_any is_bad_word (ended_pieces is_separator line) || not c)
    (list_all-append is_hex_digit (since is_separator line) (b ∷ []))
    ∙ not_both (list_any is_bad_word (ended_pieces is_separator line)) (list_all is_hex_digit (since is_separator line)) (is_hex_digit b)
    )

-- ---- the line

-- a space or a slash more
word_ended : (line : List ℕ) (b : ℕ) → is_separator b ≡ true → plain_line (line ++ b ∷ []) ≡ word_ends (plain_line line) b
unfolding plain_line
word_ended line b is = λ i. record {
  kind = kind_of-snoc line b i;
  write = part_of (write_parted line b is i);
  read = part_of (read_parted line b is i);
  digit = unpaired (since-mark is_separator line b is i);
  slashes = slashes-snoc line b i;
  is_bad = bad-separator line b is i;
  is_returned = false;
}

-- the digit that waits then
digit-other : (line : List ℕ) (b : ℕ) → is_separator b ≡ false
    → unpaired (since is_separator (line ++ b ∷ [])) ≡ digit_after (unpaired (since is_separator line)) b
digit-other line b other = ap unpaired (since-other is_separator line b other) ∙ unpaired-snoc (since is_separator line) b

module _ (line : List ℕ) (b : ℕ) (other : is_separator b ≡ false) where
  -- another byte is no slash
  slashes_stay : slashes_of (line ++ b ∷ []) ≡ slashes_of line
  slashes_stay = slashes-snoc line b ∙ rw (not_slash b other) refl

  -- the line by the digit that waits, and whether a slash came
  went_on_by : (d : Option ℕ) (s : Bool) → unpaired (since is_separator line) ≡ d → has_slash (slashes_of line) ≡ s
      → plain_line (line ++ b ∷ []) ≡ record {
        kind = kind_takes (kind_of line) b;
        write = cond s (part_of (part_bytes (before is_slash line))) (part_after d (part_of (part_bytes (before is_slash line))) b);
        read = cond s (part_after d (part_of (part_bytes (after_first_mark is_slash line))) b)
            (part_of (part_bytes (after_first_mark is_slash line)));
        digit = digit_after d b;
        slashes = slashes_of line;
        is_bad = (list_any is_bad_word (ended_pieces is_separator line) || not (list_all is_hex_digit (since is_separator line))) || not
            (is_hex_digit b);
        is_returned = false;
      }
  unfolding plain_line
  went_on_by d s isd iss =
      let some : list_any is_slash line ≡ s = sym (has_slash-is line) ∙ iss in λ i. record {
        kind = kind_of-snoc line b i;
        write = write_field line b other d s isd some i;
        read = read_field line b other d s isd some i;
        digit = (digit-other line b other ∙ ap (λ e. digit_after e b) isd) i;
        slashes = slashes_stay i;
        is_bad = bad-other line b other i;
        is_returned = false;
      }

  -- another byte more
  word_went_on : plain_line (line ++ b ∷ []) ≡ word_goes_on (plain_line line) b
  unfolding plain_line
  word_went_on = by (unpaired (since is_separator line)) (has_slash (slashes_of line)) refl refl
    where
      by : (d : Option ℕ) (s : Bool) → unpaired (since is_separator line) ≡ d → has_slash (slashes_of line) ≡ s
          → plain_line (line ++ b ∷ []) ≡ word_goes_on (plain_line line) b
      by None true isd iss = went_on_by None true isd iss ∙ rw isd refl
      by None false isd iss = went_on_by None false isd iss ∙ rw isd refl
      by (Some high) true isd iss = went_on_by (Some high) true isd iss ∙ rw (isd, iss) refl
      by (Some high) false isd iss = went_on_by (Some high) false isd iss ∙ rw (isd, iss) refl

-- one byte more
pub plain_line-snoc : (line : List ℕ) (b : ℕ) → plain_line (line ++ b ∷ []) ≡ plain_takes (plain_line line) b
unfolding plain_takes
plain_line-snoc line b = by (is_separator b) refl
  where
    by : (c : Bool) → is_separator b ≡ c
        → plain_line (line ++ b ∷ []) ≡ cond c (word_ends (plain_line line) b) (word_goes_on (plain_line line) b)
    by true is = word_ended line b is
    by false other = word_went_on line b other
