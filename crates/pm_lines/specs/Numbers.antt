-- Numbers as texts have them. The forms are this project's own choice.
use Rattle.std.specs.Prelude.{ℕ, ◌/◌, ◌%◌, true, List, [], ◌∷◌, ◌++◌, codes, flat_map}
use Rattle.std.specs.Fmt.{digit_glyph}

-- a byte as two hexadecimal digits in upper case
unfoldable pub hex_byte : ℕ → List ℕ
hex_byte byte = digit_glyph true (byte / 16) ∷ digit_glyph true (byte % 16) ∷ []

-- a word as four hexadecimal digits
unfoldable pub hex_word : ℕ → List ℕ
hex_word word = hex_byte (word / 256) ++ hex_byte (word % 256)

-- bytes in hexadecimal, a space before each
abbrev pub spaced_bytes : List ℕ → List ℕ
spaced_bytes bytes = flat_map (λ byte. codes " " ++ hex_byte byte) bytes

-- the number that bytes are which went over the bus low byte first: the low byte is written last
abbrev pub hex_number : List ℕ → List ℕ
hex_number [] = []
hex_number (low ∷ bytes) = hex_number bytes ++ hex_byte low
