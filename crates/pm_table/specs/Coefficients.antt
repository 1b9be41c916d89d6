-- The five bytes of COEFFICIENTS (PMBus 1.3 Part II): m low, m high, b low, b high, R, each number
-- in two's complement.
use Rattle.std.specs.Prelude.{ℕ, ℤ, List, [], ◌∷◌, ◌+◌, ◌*◌, ◌/◌, ◌%◌, slice_index}
use Rattle.std.specs.Int.{cast_signed, cast_unsigned, w8, w16}
use Rattle.pm_table.specs.declared.coefficients.Coefficients.{Coefficients}

-- a two's complement number of 16 bits, low byte first
abbrev pub signed_word : ℕ → ℕ → ℤ
signed_word low high = cast_signed w16 (low + 256 * high)

-- the coefficients that five bytes are
abbrev pub coefficients_of : List ℕ → Coefficients
coefficients_of bytes = record {
  m = signed_word (slice_index bytes 0) (slice_index bytes 1);
  b = signed_word (slice_index bytes 2) (slice_index bytes 3);
  r = cast_signed w8 (slice_index bytes 4);
}

-- the two bytes of a signed word: the lower eight bits, and the upper ones
abbrev pub low_byte : ℤ → ℕ
low_byte z = cast_unsigned w16 z % 256

abbrev pub high_byte : ℤ → ℕ
high_byte z = cast_unsigned w16 z / 256

-- the five bytes of coefficients
abbrev pub coefficient_bytes : Coefficients → List ℕ
coefficient_bytes c = low_byte c.m ∷ high_byte c.m ∷ low_byte c.b ∷ high_byte c.b
    ∷ cast_unsigned w8 c.r ∷ []
