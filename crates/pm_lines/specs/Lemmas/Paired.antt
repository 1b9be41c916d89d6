-- The bytes of a line's words, and the pairs of digits that stand one after another in it. The clauses of `spaced_pair`
-- and `four_pairs` say which pairs they take; `words_have_paired_bytes` and `not_paired` say what a line reads as whose pairs were taken.
use Rattle.std.proofs.Common.{◌≡◌, ◌∙◌, ◌-◌, ◌<◌, ◌≤◌, ◌++◌, ◌&&◌, ℕ, Bool, true, false, cond, List, [], ◌∷◌, length, take}
use Rattle.std.proofs.Common.{drop, get_or, Option, Some, None, option_map, refl, sym, ap, arith}
use Rattle.std.specs.Prelude.{filter}
use Rattle.std.specs.List.{onto_first, slice_split}
use Rattle.std.proofs.lemmas.Bool.Decides.{nat_tests}
use Rattle.std.proofs.lemmas.List.{nil_from_length, take_rest}
use Rattle.std.proofs.lemmas.List.Splits.{length-slice_split}
use Rattle.hex.specs.Hex.{is_hex_digit}
use Rattle.pm_lines.specs.Bytes.{byte_before, bytes_before, bytes_of, word_bytes}
use Rattle.pm_lines.specs.Lines.{has_bytes, is_space, words_of}
use Rattle.pm_lines.specs.Pairs.{behind_pairs, byte_of, pair_of, paired_bytes}

-- a word of no bytes adds nothing
no_word : (words : List (List ℕ)) → bytes_of ([] ∷ words) ≡ bytes_of words
no_word words = by (bytes_of words)
  where
    by : (rest : Option (List ℕ)) → bytes_before (Some []) rest ≡ rest
    by (Some rest) = refl
    by None = refl

-- words of no bytes add nothing
unfiltered : (words : List (List ℕ)) → bytes_of (filter has_bytes words) ≡ bytes_of words
unfiltered [] = refl
unfiltered ([] ∷ words) = unfiltered words ∙ sym (no_word words)
unfiltered ((x ∷ xs) ∷ words) = ap (bytes_before (word_bytes (x ∷ xs))) (unfiltered words)

-- a pair at the beginning of the first piece
pair_onto : (x y : ℕ) (pieces : List (List ℕ)) → 0 < length pieces
    → bytes_of (onto_first x (onto_first y pieces)) ≡ byte_before (pair_of x y) (bytes_of pieces)
pair_onto x y [] some = absurd (omega arith)
pair_onto x y (piece ∷ pieces) some = by (pair_of x y) (word_bytes piece) (bytes_of pieces)
  where
    by : (byte : Option ℕ) (front rest : Option (List ℕ))
        → bytes_before (byte_before byte front) rest ≡ byte_before byte (bytes_before front rest)
    by (Some byte) (Some front) (Some rest) = refl
    by (Some byte) (Some front) None = refl
    by (Some byte) None rest = refl
    by None front rest = refl

-- the bytes of pairs, where nothing follows them
abbrev pub nothing_behind : List ℕ → List ℕ → Option (List ℕ)
nothing_behind [] bytes = Some bytes
nothing_behind (x ∷ rest) bytes = None

-- a byte more
front_kept : (byte : ℕ) (rest bytes : List ℕ) → byte_before (Some byte) (nothing_behind rest bytes) ≡ nothing_behind rest (byte ∷ bytes)
front_kept byte [] bytes = refl
front_kept byte (x ∷ rest) bytes = refl

-- a space is no digit
space_no_digit : (x : ℕ) → is_space x ≡ true → is_hex_digit x ≡ false
space_no_digit x space = let at : x ≡ 32 = grind (arith, nat_tests) in ap is_hex_digit at

-- a line that has more than one byte
module _ (x y : ℕ) (rest : List ℕ)
    (later : bytes_of (slice_split is_space (y ∷ rest)) ≡ nothing_behind (behind_pairs (y ∷ rest)) (paired_bytes (y ∷ rest)))
    (last : bytes_of (slice_split is_space rest) ≡ nothing_behind (behind_pairs rest) (paired_bytes rest)) where
  -- what is to be shown, by what the first two bytes are
  abbrev Reads : Bool → Bool → Bool → Type 0
  Reads first second pair =
      bytes_of (cond first ([] ∷ slice_split is_space (y ∷ rest))
      (onto_first x (cond second ([] ∷ slice_split is_space rest) (onto_first y (slice_split is_space rest)))))
      ≡ nothing_behind (cond first (behind_pairs (y ∷ rest)) (cond pair (behind_pairs rest) (x ∷ y ∷ rest)))
      (cond first (paired_bytes (y ∷ rest)) (cond pair (byte_of x y ∷ paired_bytes rest) []))

  -- in each of these cases
  two_read : (first second digit other : Bool) → is_space y ≡ second → is_hex_digit x ≡ digit → is_hex_digit y ≡ other
      → Reads first second (digit && other)
  two_read true second digit other space hex too = no_word (slice_split is_space (y ∷ rest)) ∙ later
  two_read false true true true space hex too = let wrong : true ≡ false = sym too ∙ space_no_digit y space in absurd (cc)
  two_read false true true false space hex too = refl
  two_read false true false other space hex too = refl
  two_read false false true true space hex too =
      pair_onto x y (slice_split is_space rest) (omega (arith, length-slice_split is_space rest))
      ∙ rw (hex, too, last) (front_kept (byte_of x y) (behind_pairs rest) (paired_bytes rest))
  two_read false false true false space hex too =
      pair_onto x y (slice_split is_space rest) (omega (arith, length-slice_split is_space rest)) ∙ rw (hex, too) refl
  two_read false false false other space hex too =
      pair_onto x y (slice_split is_space rest) (omega (arith, length-slice_split is_space rest)) ∙ rw hex refl

-- the bytes of the pieces between a line's spaces are those of its pairs
split_read : (line : List ℕ) → bytes_of (slice_split is_space line) ≡ nothing_behind (behind_pairs line) (paired_bytes line)
split_read [] = no_word []
split_read (x ∷ []) = by (is_space x)
  where
    by : (space : Bool) → bytes_of (cond space ([] ∷ [] ∷ []) (onto_first x ([] ∷ []))) ≡ nothing_behind (cond space [] (x ∷ [])) []
    by true = no_word ([] ∷ []) ∙ no_word []
    by false = refl
split_read (x ∷ y ∷ rest) =
    two_read x y rest (split_read (y ∷ rest)) (split_read rest) (is_space x) (is_space y) (is_hex_digit x) (is_hex_digit y) refl refl refl

-- the bytes of a line's words are those of its pairs, where nothing follows these
pub words_have_paired_bytes : (line : List ℕ) → bytes_of (words_of line) ≡ nothing_behind (behind_pairs line) (paired_bytes line)
unfolding words_of
words_have_paired_bytes line = unfiltered (slice_split is_space line) ∙ split_read line

-- a line with pairs has a word
pub some_word : (line : List ℕ) → 0 < length (paired_bytes line) → 0 < length (words_of line)
some_word line some = by (words_of line) (behind_pairs line) (paired_bytes line) (words_have_paired_bytes line) some
  where
    by : (words : List (List ℕ)) (rest bytes : List ℕ) → bytes_of words ≡ nothing_behind rest bytes → 0 < length bytes → 0 < length words
    by [] [] bytes read some = let none : [] ≡ bytes = cc in absurd (omega (arith, ap length none))
    by [] (x ∷ rest) bytes read some = absurd (cc)
    by (word ∷ words) rest bytes read some = omega arith

-- ---- what a call that takes pair after pair leaves

-- a line whose pairs are followed by nothing
pub all_paired : (line before now rest : List ℕ) → now ≡ before ++ paired_bytes line → rest ≡ behind_pairs line → length rest < 1
    → option_map (λ more. before ++ more) (bytes_of (words_of line)) ≡ Some now
all_paired line before now rest is behind none =
    rw (words_have_paired_bytes line, ← behind, nil_from_length rest (omega (arith, none)), is) refl

-- a line whose pairs are followed by more writes no bytes
pub not_paired : (line rest : List ℕ) → rest ≡ behind_pairs line → 1 ≤ length rest → bytes_of (words_of line) ≡ None
not_paired line rest behind some = words_have_paired_bytes line ∙ by (behind_pairs line) (omega (arith, ap length behind))
  where
    by : (left : List ℕ) → 1 ≤ length left → nothing_behind left (paired_bytes line) ≡ None
    by [] some = absurd (omega arith)
    by (x ∷ left) some = refl

-- two digits write a byte, and the first is no space
pub pair_is : (x y byte : ℕ) → pair_of x y ≡ Some byte
    → (is_space x ≡ false) × ((is_hex_digit x && is_hex_digit y) ≡ true) × (byte_of x y ≡ byte)
pair_is x y byte is = by (is_space x) (is_hex_digit x) (is_hex_digit y) refl refl is
  where
    by : (space first second : Bool) → is_space x ≡ space → is_hex_digit x ≡ first
        → cond (first && second) (Some (byte_of x y)) None ≡ Some byte
        → (space ≡ false) × ((first && second) ≡ true) × (byte_of x y ≡ byte)
    by true true true at hex is = let wrong : true ≡ false = sym hex ∙ space_no_digit x at in absurd (cc)
    by false true true at hex is = (refl, refl, cc)
    by space true false at hex is = absurd (cc)
    by space false second at hex is = absurd (cc)

-- the first pair of those that are left
pub pair_taken : (rest left : List ℕ) (byte : ℕ) → 2 ≤ length rest → left ≡ take (length rest - 2) (drop 2 rest)
    → pair_of (get_or rest 0 0) (get_or rest 1 0) ≡ Some byte
    → (paired_bytes rest ≡ byte ∷ paired_bytes left) × (behind_pairs rest ≡ behind_pairs left)
pair_taken [] left byte two is pair = absurd (omega arith)
pair_taken (x ∷ []) left byte two is pair = absurd (omega arith)
pair_taken (x ∷ y ∷ rest) left byte two is pair =
    let (space, hex, value) = pair_is x y byte pair in
    let all : left ≡ rest = is ∙ take_rest (x ∷ y ∷ rest) 2 in
    (rw (space, hex, value, all) refl, rw (space, hex, all) refl)
