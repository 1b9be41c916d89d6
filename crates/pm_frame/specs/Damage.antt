-- What happens to a message on the way, as its bits go over the wire: the bits of a byte the highest
-- first. These words are this project's own.
use Rattle.std.specs.Prelude.{◌≡◌, ℕ, ◌+◌, ◌-◌, ◌/◌, ◌%◌, ◌<◌, ◌≤◌, List, [], ◌∷◌, ◌++◌, slice_index, bit_xor, count_ones}
use Rattle.std.specs.Int.{bit_at}
use Rattle.pm_frame.specs.Pec.{pec_of}

-- the bit of a message at a place, where place 0 is the first bit that is sent; past the end 0
abbrev pub message_bit : List ℕ → ℕ → ℕ
message_bit bytes place = bit_at (slice_index bytes (place / 8)) (7 - place % 8)

-- The bits before the first place and from eight further on are the same: whatever changed lies
-- within eight neighbouring bits, which may be of two bytes.
pub record DifferWithinEight (sent heard : List ℕ) : Type 0 where
  pub first : ℕ
  pub before : (place : ℕ) → place < first → message_bit sent place ≡ message_bit heard place
  pub after : (place : ℕ) → first + 8 ≤ place → message_bit sent place ≡ message_bit heard place

-- how many bits differ between two messages of one length
abbrev pub changed_bits : List ℕ → List ℕ → ℕ
changed_bits [] heard = 0
changed_bits (x ∷ sent) [] = 0
changed_bits (x ∷ sent) (y ∷ heard) = count_ones (bit_xor x y) + changed_bits sent heard

-- the last byte is the PEC of those before it
pub record EndsInPec (bytes : List ℕ) : Type 0 where
  pub front : List ℕ
  pub is : bytes ≡ front ++ pec_of front ∷ []
