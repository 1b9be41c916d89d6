-- The bytes that words write in hexadecimal. This project's own choice.
use Rattle.std.specs.Prelude.{ℕ, List, [], ◌∷◌, ◌++◌, Option, Some, None}
use Rattle.pm_lines.specs.Pairs.{pair_of}

-- a byte and the bytes that follow it, where there are both
abbrev pub byte_before : Option ℕ → Option (List ℕ) → Option (List ℕ)
byte_before (Some byte) (Some bytes) = Some (byte ∷ bytes)
byte_before (Some byte) None = None
byte_before None bytes = None

-- the bytes of a word, which is an even number of hexadecimal digits
abbrev pub word_bytes : List ℕ → Option (List ℕ)
word_bytes [] = Some []
word_bytes (digit ∷ []) = None
word_bytes (high ∷ low ∷ digits) = byte_before (pair_of high low) (word_bytes digits)

-- the bytes of a word and of the words that follow it, where there are both
abbrev pub bytes_before : Option (List ℕ) → Option (List ℕ) → Option (List ℕ)
bytes_before (Some front) (Some rest) = Some (front ++ rest)
bytes_before (Some front) None = None
bytes_before None rest = None

-- the bytes of the words one after another
abbrev pub bytes_of : List (List ℕ) → Option (List ℕ)
bytes_of [] = Some []
bytes_of (word ∷ words) = bytes_before (word_bytes word) (bytes_of words)
