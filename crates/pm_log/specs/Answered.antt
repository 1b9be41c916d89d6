-- For which registers a part answered: one that answered a read of a register doesn't lack it. This project's own choice.
use Rattle.std.specs.Prelude.{ℕ, if◌then◌else◌, List, [], ◌∷◌, replicate, slice_index_or, slice_set, Option, Some, None, option_map}
use Rattle.pm_table.specs.declared.cell.Cell.{Cell}
use Rattle.pm_table.specs.declared.cell.Cell.TheVariants.{Out}
use Rattle.pm_table.specs.declared.reg.Reg.{Reg}
use Rattle.pm_table.specs.declared.reg.Reg.TheVariants.{VoutMax, MarginHigh, MarginLow, VoutMin}
use Rattle.pm_table.specs.Cell.{cell_at, is_cell, place_of, places}
use Rattle.pm_table.specs.Rules.{first}
use Rattle.pm_frame.specs.declared.fault.FrameFault.{FrameFault}
use Rattle.pm_frame.specs.declared.message.Message.{Message}
use Rattle.pm_frame.specs.declared.message.Message.TheVariants.{PagePlusRead}
use Rattle.pm_frame.specs.Fault.{request_fault, answer_fault}
use Rattle.pm_frame.specs.View.{message_in}
use Rattle.pm_host.specs.Transcript.{Entry, Got}
use Rattle.pm_limits.specs.declared.part_registers.PartRegisters.{PartRegisters}
use Rattle.pm_limits.specs.Part.{has_register}

-- ---- one read

-- the cell that a read at an output reads
abbrev pub read_cell : Message → Option Cell
read_cell (PagePlusRead page code) = cell_at code page
read_cell _ = None

-- the cell for which the part at an address answered: the request is one for it, and the answer is good
abbrev pub cell_well_answered : Option FrameFault → Option FrameFault → Message → Option Cell
cell_well_answered None None request = read_cell request
cell_well_answered _ _ request = None

unfoldable pub answered_cell : ℕ → List ℕ → List ℕ → Option Cell
answered_cell addr frame bytes =
    cell_well_answered (request_fault addr frame) (answer_fault addr (message_in frame) bytes) (message_in frame)

-- the cell for which what came of a frame is an answer
abbrev pub cell_of_answer : ℕ → List ℕ → Entry → Option Cell
cell_of_answer addr frame (Got bytes) = answered_cell addr frame bytes
cell_of_answer addr frame _ = None

-- ---- the lines of the answers

-- for each cell the line of the last good answer, if there was one
unfoldable pub no_answers : List (Option ℕ)
no_answers = replicate places None

abbrev pub answer_line : List (Option ℕ) → Cell → Option ℕ
answer_line answers cell = if is_cell 8 cell then slice_index_or answers (place_of cell) None else None

-- with the answer of the line with this number
abbrev pub with_answer : ℕ → List (Option ℕ) → Option Cell → List (Option ℕ)
with_answer number answers None = answers
with_answer number answers (Some cell) =
    if is_cell 8 cell then slice_set answers (place_of cell) (Some number) else answers

-- ---- a part that is said to lack registers

-- the registers that a part may lack, in the order in which they are named
abbrev pub may_lack : List Reg
may_lack = VoutMax ∷ MarginHigh ∷ MarginLow ∷ VoutMin ∷ []

-- a register of an output that the part is said to lack, and for which it answered, with the line
abbrev pub belied_at : List (Option ℕ) → PartRegisters → ℕ → Reg → Option (Cell × ℕ)
belied_at answers part output register = if has_register part register then None
    else option_map (λ line. (Out output register, line)) (answer_line answers (Out output register))

-- the first of them
abbrev pub belied : List (Option ℕ) → PartRegisters → ℕ → Option (Cell × ℕ)
belied answers part output = first (
    belied_at answers part output VoutMax ∷
    belied_at answers part output MarginHigh ∷
    belied_at answers part output MarginLow ∷
    belied_at answers part output VoutMin ∷
    [])
