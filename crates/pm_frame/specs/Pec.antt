-- The packet error code (PEC) of a message, as the SMBus specification's packet error checking has
-- it: a CRC-8 with x^8 + x^2 + x + 1, start 0, most significant bit first, no final change. A
-- message is the bits of its bytes in a row, and `bit_xor` is the sum without carry.
use Rattle.std.specs.Prelude.{ℕ, zero, suc, ◌+◌, ◌*◌, ◌%◌, ◌^◌, List, [], ◌∷◌, length, bit_xor}
use Rattle.std.specs.Int.{bit_at}

-- twice r, kept to 8 bits: where bit 7 was set, x^2 + x + 1, which is 07h, stands for the x^8 that
-- left
unfoldable pub doubled : ℕ → ℕ
doubled r = bit_xor (2 * r % 2 ^ 8) (bit_at r 7 * 0x07)

-- what is left of x^i after division by the polynomial
unfoldable pub residue : ℕ → ℕ
residue zero = 1
residue (suc i) = doubled (residue i)

-- the sum of `residue (8 + i)` over the set bits of `byte` among its lowest `count`, where i is the
-- number of the message's bits after that bit, and `after` the number of those after the byte
unfoldable pub residues_of : ℕ → ℕ → ℕ → ℕ
residues_of byte after zero = 0
residues_of byte after (suc j) =
    bit_xor (bit_at byte j * residue (8 + (after + j))) (residues_of byte after j)

-- the PEC: the sum of `residue (8 + i)` over each set bit of the message that has i bits after it
unfoldable pub pec_of : List ℕ → ℕ
pec_of [] = 0
pec_of (byte ∷ bytes) = bit_xor (residues_of byte (8 * length bytes) 8) (pec_of bytes)
