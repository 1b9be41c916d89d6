-- Which of a host's requests to one converter have the same packet error code (PEC) up to the read address, with which
-- the answer begins. A late answer to one of these may pass for an answer to the other. The PEC is SMBus's; which requests
-- a host sends is this project's own choice.
use Rattle.std.specs.Prelude.{◌≡◌, ◌≢◌, ◌<◌, ℕ, Bool, ◌&&◌, ◌||◌, ◌==◌, List, ◌∷◌, map, bit_xor}
use Rattle.std.specs.List.{Contains}
use Rattle.pm_table.specs.declared.cell.Cell.TheVariants.{Protect}
use Rattle.pm_table.specs.Cell.{register_code, registers}
use Rattle.pm_table.specs.Codes as command
use Rattle.pm_frame.specs.declared.message.Message.TheVariants.{PagePlusRead}
use Rattle.pm_frame.specs.Fault.{whole_answer}
use Rattle.pm_frame.specs.LateAnswers.{request_code}
use Rattle.pm_host.specs.Messages.{cell_read, coefficients_read, mode_read}

-- the codes that a host reads of an output: VOUT_MODE, and those of its registers
abbrev pub read_codes : List ℕ
read_codes = command.vout_mode ∷ map register_code registers

-- VOUT_COMMAND of a page and VOUT_MARGIN_LOW of its neighbour, or VOUT_MARGIN_HIGH of a page and VOUT_MIN of the
-- page two further on or back
abbrev pub crosses : ℕ → ℕ → ℕ → ℕ → Bool
crosses page code other another =
    code == command.vout_command && another == command.vout_margin_low && other == bit_xor page 1
    || code == command.vout_margin_high && another == command.vout_min && other == bit_xor page 2

-- the read of this code of one page, and that of another code of another page, are one request or cross
abbrev pub shares : ℕ → ℕ → ℕ → ℕ → Bool
shares page code other another =
    page == other && code == another || (crosses page code other another || crosses other another page code)

-- Two reads of outputs share their code exactly where they are one request or cross, whatever the address, so that a read
-- of VOUT_MODE shares its code with no other read of an output. The read of the coefficients, which is one request for all
-- outputs, shares its code with no read of an output. The read of WRITE_PROTECT may share its code at some addresses; its
-- answer has fewer bytes than the answer to any other request, so that neither passes for the other.
pub record ReadsThatShareTheirCode : Type 0 where
  pub outputs : (addr page code other another : ℕ) → page < 8 → other < 8 →
      Contains read_codes code → Contains read_codes another →
      (request_code addr (PagePlusRead page code) == request_code addr (PagePlusRead other another))
      ≡ shares page code other another
  pub mode : (addr page other another : ℕ) → page < 8 → other < 8 → Contains read_codes another →
      request_code addr (mode_read page) ≡ request_code addr (PagePlusRead other another) →
      (page ≡ other) × (another ≡ command.vout_mode)
  pub coefficients : (addr page code : ℕ) → page < 8 → Contains read_codes code →
      request_code addr coefficients_read ≢ request_code addr (PagePlusRead page code)
  pub protect : (page code : ℕ) → Contains read_codes code →
      whole_answer (cell_read Protect) < whole_answer (PagePlusRead page code)
  pub protect_coefficients : whole_answer (cell_read Protect) < whole_answer coefficients_read
