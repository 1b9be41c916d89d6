-- What nothing but ones behind the read address says to a host: this is what comes where no part pulls the data line
-- low.
use Rattle.std.specs.Prelude.{◌≡◌, ◌<◌, ◌&&◌, ◌==◌, if◌then◌else◌, ℕ, Bool, false, List, ◌∷◌, replicate, Some, None}
use Rattle.pm_table.specs.declared.cell.Cell.{Cell}
use Rattle.pm_table.specs.declared.cell.Cell.TheVariants.{Out, Protect}
use Rattle.pm_table.specs.declared.reg.Reg.{Reg}
use Rattle.pm_table.specs.Cell.{cell_accepts}
use Rattle.pm_frame.specs.Layout.{read_address}
use Rattle.pm_host.specs.Answers.{good_coefficients, good_mode, good_word}

-- a first byte, and this many bytes FFh behind it
abbrev pub ones_behind : ℕ → ℕ → List ℕ
ones_behind opening count = opening ∷ replicate count 0xff

-- two bytes FFh behind the read address of 4Ah, which alone has FFh for the packet error code of WRITE_PROTECT's FFh
abbrev pub is_good_protection : ℕ → ℕ → ℕ → Bool
is_good_protection addr opening count = addr == 0x4a && (opening == read_address addr && count == 2)

-- For any first byte and any number of bytes FFh: they are never a good answer for a cell of an output, for VOUT_MODE
-- or for COEFFICIENTS. For WRITE_PROTECT they are one, with the word FFh, just where two came behind the read address of
-- 4Ah. A cell for which they are a good answer doesn't take the word that they give.
pub record OnesAreNoAnswer : Type 0 where
  pub word : (addr opening count output : ℕ) (register : Reg) →
      good_word addr (Out output register) (ones_behind opening count) ≡ None
  pub mode : (addr opening count output : ℕ) → good_mode addr output (ones_behind opening count) ≡ None
  pub coefficients : (addr opening count : ℕ) → good_coefficients addr (ones_behind opening count) ≡ None
  pub protection : (addr opening count : ℕ) → addr < 128 →
      good_word addr Protect (ones_behind opening count)
      ≡ (if is_good_protection addr opening count then Some 0xff else None)
  pub refused : (addr opening count : ℕ) (cell : Cell) (given : ℕ) → addr < 128 →
      good_word addr cell (ones_behind opening count) ≡ Some given → cell_accepts cell given ≡ false
