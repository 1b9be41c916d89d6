-- Pairs of hexadecimal digits that stand one after another, with spaces between them or none. This
-- project's own choice.
use Rattle.std.specs.Prelude.{ℕ, ◌+◌, ◌*◌, ◌&&◌, if◌then◌else◌, List, [], ◌∷◌, Option, Some, None, unwrap_or}
use Rattle.hex.specs.Hex.{hex_digit_value, is_hex_digit}
use Rattle.pm_lines.specs.Lines.{is_space}

-- a digit's value, in either case, and 0 for a byte that is no digit
abbrev pub digit_value : ℕ → ℕ
digit_value byte = unwrap_or (hex_digit_value byte) 0

-- the byte of two digits
abbrev pub byte_of : ℕ → ℕ → ℕ
byte_of high low = digit_value high * 16 + digit_value low

-- the byte that two digits write, where both are digits
abbrev pub pair_of : ℕ → ℕ → Option ℕ
pair_of high low = if is_hex_digit high && is_hex_digit low then Some (byte_of high low) else None

-- the bytes that the pairs at the beginning write
abbrev pub paired_bytes : List ℕ → List ℕ
paired_bytes [] = []
paired_bytes (x ∷ []) = []
paired_bytes (x ∷ y ∷ rest) = if is_space x then paired_bytes (y ∷ rest)
    else (if is_hex_digit x && is_hex_digit y then byte_of x y ∷ paired_bytes rest else [])

-- what follows them
abbrev pub behind_pairs : List ℕ → List ℕ
behind_pairs [] = []
behind_pairs (x ∷ []) = if is_space x then [] else x ∷ []
behind_pairs (x ∷ y ∷ rest) = if is_space x then behind_pairs (y ∷ rest)
    else (if is_hex_digit x && is_hex_digit y then behind_pairs rest else x ∷ y ∷ rest)
