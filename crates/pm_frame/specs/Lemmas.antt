-- Facts on bytes, packet error codes and lengths that proofs above take by name. Each stands for a clause of its
-- definition: the register and the code are bytes, and bytes without a fault of their length are as many as wanted.
use Rattle.std.specs.Prelude.{◌≡◌, ℕ, zero, suc, ◌+◌, ◌*◌, ◌%◌, ◌^◌, ◌<◌, ◌≤◌, List, [], ◌∷◌, length, None}
use Rattle.std.proofs.Common.{bit_xor, sym, ap, ◌∙◌, arith, mod-lt}
use Rattle.std.specs.Int.{bit_at}
use Rattle.std.specs.Int.Bits.{xor_assoc, xor_self, xor_zero_l, xor_zero_r}
use Rattle.std.proofs.lemmas.Bool.{ltb-false}
use Rattle.std.proofs.lemmas.Nat.{pow_pos, xor_lt}
use Rattle.std.proofs.lemmas.Nat.Bits.{bit_at-lt}
use Rattle.pm_table.specs.RuleLemmas.{or-none, rule-none}
use Rattle.pm_frame.specs.declared.fault.FrameFault.TheVariants.{Long, Short}
use Rattle.pm_frame.specs.Fault.{length_fault}
use Rattle.pm_frame.specs.Layout.{AreBytes}
use Rattle.pm_frame.specs.Pec.{doubled, pec_of, residue, residues_of}

-- A byte in front of bytes leaves all of them bytes.
pub bytes-more : (byte : ℕ) (bytes : List ℕ) → byte < 2 ^ 8 → AreBytes bytes → AreBytes (byte ∷ bytes)
bytes-more byte bytes h rest zero = h
bytes-more byte bytes h rest (suc place) = rest place

-- A register that is doubled stays a byte.
pub doubled-lt : (r : ℕ) → doubled r < 2 ^ 8
unfolding doubled
doubled-lt r =
    let top : bit_at r 7 < 2 = bit_at-lt r 7 in
    let added : bit_at r 7 * 7 < 2 ^ 8 = omega arith in
    xor_lt 8 (2 * r % 2 ^ 8) (bit_at r 7 * 7) (mod-lt (2 * r) (pow_pos 8)) added

-- The residue of a power of x is a byte.
pub residue-lt : (i : ℕ) → residue i < 2 ^ 8
unfolding residue
residue-lt zero = omega arith
residue-lt (suc i) = doubled-lt (residue i)

-- The sum of the residues of a byte's bits is a byte.
pub residues_of-lt : (byte after count : ℕ) → residues_of byte after count < 2 ^ 8
unfolding residues_of
residues_of-lt byte after zero = omega arith
residues_of-lt byte after (suc j) =
    xor_lt 8 _ _ (bit_lt (bit_at byte j) (residue (8 + (after + j))) (bit_at-lt byte j) (residue-lt (8 + (after + j))))
    (residues_of-lt byte after j)
  where
    bit_lt : (p r : ℕ) → p < 2 → r < 2 ^ 8 → p * r < 2 ^ 8
    bit_lt zero r hp hr = omega arith
    bit_lt (suc zero) r hp hr = omega arith
    bit_lt (suc (suc p)) r hp hr = absurd (omega arith)

-- The packet error code is a byte.
pub pec_of-lt : (bytes : List ℕ) → pec_of bytes < 2 ^ 8
unfolding pec_of
pec_of-lt [] = omega arith
pec_of-lt (byte ∷ bytes) = xor_lt 8 _ _ (residues_of-lt byte (8 * length bytes) 8) (pec_of-lt bytes)

-- A term that stands in front on both sides of a sum without carry can be left out.
pub cancel_left : (t a b : ℕ) → bit_xor t a ≡ bit_xor t b → a ≡ b
cancel_left t a b h = sym (back a) ∙ ap (bit_xor t) h ∙ back b where
  back : (x : ℕ) → bit_xor t (bit_xor t x) ≡ x
  back x = sym (xor_assoc t t x) ∙ ap (λ (y : ℕ). bit_xor y x) (xor_self t) ∙ xor_zero_l x

-- A term that stands behind on both sides of a sum without carry can be left out.
pub cancel_right : (t a b : ℕ) → bit_xor a t ≡ bit_xor b t → a ≡ b
cancel_right t a b h = sym (back a) ∙ ap (λ (y : ℕ). bit_xor y t) h ∙ back b where
  back : (x : ℕ) → bit_xor (bit_xor x t) t ≡ x
  back x = xor_assoc x t t ∙ ap (bit_xor x) (xor_self t) ∙ xor_zero_r x

-- Bytes without a fault of their length are as many as wanted.
pub length_fault-found : (wanted : ℕ) (bytes : List ℕ) → length_fault wanted bytes ≡ None → length bytes ≡ wanted
unfolding length_fault
length_fault-found wanted bytes h =
    let both = or-none _ _ h in
    let above : wanted ≤ length bytes = ltb-false _ _ (rule-none _ (Short (length bytes)) both.0) in
    let below : length bytes ≤ wanted = ltb-false _ _ (rule-none _ (Long wanted) (or-none _ _ both.1).0) in
    omega arith
