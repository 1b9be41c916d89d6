-- The table has the code of each byte.
use Rattle.std.proofs.Common.{◌≡◌, ℕ, ◌<◌, ◌^◌, [], ◌∷◌, map, get_or, refl, ap, ◌∙◌, arith}
use Rattle.std.specs.List.{range_with_len}
use Rattle.std.proofs.lemmas.List.FromFn.{get_or-map-range_with_len}
use Rattle.pm_frame.specs.declared.packet_error_code.TheConstants.{PEC_OF_BYTE}
use Rattle.pm_frame.specs.Pec.{doubled, residue, residues_of, pec_of}
use Rattle.pm_frame.proofs.packet_error_code.pec_of_byte.Goals as goal

-- the PEC of a message of one byte
abbrev code_of : ℕ → ℕ
code_of byte = pec_of (byte ∷ [])

-- the table is the row of these codes
table_is : PEC_OF_BYTE ≡ map code_of (range_with_len 0 256)
unfolding pec_of residues_of residue doubled
table_is = refl

-- the table has the code of a byte at the place of that number
read : (byte : ℕ) → byte < 2 ^ 8 → get_or PEC_OF_BYTE byte 0 ≡ pec_of (byte ∷ [])
read byte h = ap (λ t. get_or t byte 0) table_is ∙ get_or-map-range_with_len code_of 0 256 byte byte 0 h (omega arith)

pub returns : goal.returns
returns c = ap (λ n. get_or PEC_OF_BYTE n 0) c.from.ensures ∙ read c.args.byte (omega arith)
