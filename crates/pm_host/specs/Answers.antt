-- What came back for a host's own request: it is good where it has the layout of an answer to this
-- request, which its packet error code covers too (PMBus 1.3 Part II, over SMBus).
use Rattle.std.specs.Prelude.{ℕ, ◌+◌, ◌*◌, if◌then◌else◌, List, [], ◌∷◌, Option, Some, None, is_none, option_map}
use Rattle.pm_table.specs.declared.cell.Cell.{Cell}
use Rattle.pm_table.specs.declared.coefficients.Coefficients.{Coefficients}
use Rattle.pm_table.specs.Coefficients.{coefficients_of}
use Rattle.pm_frame.specs.declared.message.Message.{Message}
use Rattle.pm_frame.specs.Fault.{answer_fault}
use Rattle.pm_frame.specs.View.{answer_payload}
use Rattle.pm_host.specs.Messages.{cell_read, mode_read, coefficients_read}

-- the payload of a good answer
unfoldable pub good_payload : ℕ → Message → List ℕ → Option (List ℕ)
good_payload addr request bytes =
    if is_none (answer_fault addr request bytes) then Some (answer_payload request bytes) else None

-- the word of a payload of one byte or two, low byte first
abbrev pub word_in : List ℕ → ℕ
word_in [] = 0
word_in (byte ∷ []) = byte
word_in (low ∷ high ∷ rest) = low + 256 * high

-- the word of a good answer for a cell
abbrev pub good_word : ℕ → Cell → List ℕ → Option ℕ
good_word addr cell bytes = option_map word_in (good_payload addr (cell_read cell) bytes)

-- the byte of a good answer for an output's VOUT_MODE
abbrev pub good_mode : ℕ → ℕ → List ℕ → Option ℕ
good_mode addr output bytes = option_map word_in (good_payload addr (mode_read output) bytes)

-- the coefficients of a good answer
abbrev pub good_coefficients : ℕ → List ℕ → Option Coefficients
good_coefficients addr bytes =
    option_map coefficients_of (good_payload addr coefficients_read bytes)
