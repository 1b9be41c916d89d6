-- The lines of a text and the words of a line. The forms are this project's own choice.
use Rattle.std.specs.Prelude.{◌≡◌, ◌++◌, ℕ, ◌-◌, Bool, true, false, ◌&&◌, ◌||◌, not, List, [], ◌∷◌, length, map, take, filter}
use Rattle.std.specs.Prelude.{if◌then◌else◌, ◌==◌, nat_eq, bytes_eq, codes}
use Rattle.std.specs.List.{slice_split, starts_with, ends_with, list_all, enumerate_from}

-- the bytes that end a line, that part words, and that a line's end may have besides
abbrev pub is_line_feed : ℕ → Bool
is_line_feed byte = byte == 10

abbrev pub is_space : ℕ → Bool
is_space byte = byte == 32

abbrev pub carriage_return : List ℕ
carriage_return = 13 ∷ []

-- a text has at least one byte, and ends in a line feed
abbrev pub EndsLine : List ℕ → Type 0
EndsLine text = (front : List ℕ) × (text ≡ front ++ 10 ∷ [])

-- there is a byte
abbrev pub has_bytes : List ℕ → Bool
has_bytes [] = false
has_bytes (byte ∷ bytes) = true

-- the pieces, without the last one where that is empty
abbrev pub without_empty_last : List (List ℕ) → List (List ℕ)
without_empty_last [] = []
without_empty_last (piece ∷ []) = if has_bytes piece then piece ∷ [] else []
without_empty_last (piece ∷ next ∷ pieces) = piece ∷ without_empty_last (next ∷ pieces)

-- a line without one carriage return at its end, where it has one
abbrev pub without_return : List ℕ → List ℕ
without_return line =
    if ends_with nat_eq line carriage_return then take (length line - 1) line else line

-- The lines of a text: what stands before, between and after its line feeds. Nothing after the last
-- line feed is no line, and a carriage return before a line feed, or at the text's end, is no part
-- of a line.
unfoldable pub lines_of : List ℕ → List (List ℕ)
lines_of text = map without_return (without_empty_last (slice_split is_line_feed text))

-- a line that is skipped: it is empty, has spaces alone, or is a comment, with `#` as its first
-- byte
abbrev pub is_skipped : List ℕ → Bool
is_skipped line = list_all is_space line || starts_with nat_eq line (codes "#")

-- a line with its number
abbrev pub Numbered : Type 0
Numbered = ℕ × List ℕ

abbrev pub is_unskipped : Numbered → Bool
is_unskipped numbered = not (is_skipped numbered.1)

-- the lines of a text that are not skipped, each with its number, where the text's first line has
-- this number
unfoldable pub unskipped_from : ℕ → List ℕ → List Numbered
unskipped_from first text = filter is_unskipped (enumerate_from first (lines_of text))

-- the words of a line: what stands between its spaces, where that isn't empty
unfoldable pub words_of : List ℕ → List (List ℕ)
words_of line = filter has_bytes (slice_split is_space line)

-- a first byte that is a space
abbrev pub has_space_first : List ℕ → Bool
has_space_first [] = false
has_space_first (byte ∷ bytes) = is_space byte

-- a word alone: it isn't empty, and no byte of it is a space
abbrev pub is_one_word : List ℕ → Bool
is_one_word text = has_bytes text && list_all (λ byte. not (is_space byte)) text

-- the next word is this one
abbrev pub is_next : List ℕ → List (List ℕ) → Bool
is_next word [] = false
is_next word (next ∷ words) = bytes_eq next word

-- what is left of a text that is read line by line: the lines that are not skipped, how many lines
-- were passed, the skipped ones too, and how many the text has
pub record LinesLeft : Type 0 where
  pub unskipped : List Numbered
  pub passed : ℕ
  pub count : ℕ

-- what is left of a line that is read word by word: the line's number, and the words
pub record WordsLeft : Type 0 where
  pub line : ℕ
  pub words : List (List ℕ)
