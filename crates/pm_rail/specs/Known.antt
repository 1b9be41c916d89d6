-- The words that a host knows cells to hold: this project's own choice. A cell is known where one word alone is
-- possible, and not where one is called confirmed: after a restart that was seen a confirmed word may be stale.
use Rattle.std.specs.Prelude.{ℕ, List, [], ◌∷◌, Option, Some, None, option_and_then, unwrap_or}
use Rattle.pm_table.specs.declared.cell.Cell.{Cell}
use Rattle.pm_table.specs.declared.cell.Cell.TheVariants.{Out, Protect}
use Rattle.pm_table.specs.Cell.{cell_accepts}
use Rattle.pm_table.specs.Rules.{rule}
use Rattle.pm_host.specs.declared.knowledge.Possible.{Possible}
use Rattle.pm_host.specs.declared.knowledge.Possible.TheVariants.{Any, Words}
use Rattle.pm_num.specs.AnyFormat.{Shape}
use Rattle.pm_host.specs.Summary.{Summary, possible_at}
use Rattle.pm_limits.specs.declared.part_registers.PartRegisters.{PartRegisters}
use Rattle.pm_limits.specs.Band.{known_of_output as register_known}
use Rattle.pm_rail.specs.Registers.{Held}

-- what each cell may hold
abbrev pub Cells : Type 0
Cells = Cell → Possible

-- what each cell may hold, by what a host knows of a part with these registers, in a format: a missing VOUT_MIN and a
-- missing VOUT_MAX stand at one word
abbrev pub cells_of : PartRegisters → Shape → Summary → Cells
cells_of part shape s (Out output register) = register_known part shape s output register
cells_of part shape s Protect = possible_at s Protect

-- the word that is the only one of a list, and the only one that a cell may hold
abbrev pub sole_of : List ℕ → Option ℕ
sole_of (word ∷ []) = Some word
sole_of words = None

abbrev pub sole : Possible → Option ℕ
sole Any = None
sole (Words words) = sole_of words.items

-- the word that a cell is known to hold: the only one that it may hold, where it is one that the cell takes
abbrev pub known_word : Cell → Possible → Option ℕ
known_word cell possible = option_and_then (λ word. rule (cell_accepts cell word) word) (sole possible)

abbrev pub known_at : Cells → Cell → Option ℕ
known_at cells cell = known_word cell (cells cell)

-- the word of a cell; 0 where it isn't known
abbrev pub known_or : Cells → Cell → ℕ
known_or cells cell = unwrap_or (known_at cells cell) 0

-- the words of an output's registers
abbrev pub known_of : Cells → ℕ → Held
known_of cells output register = known_or cells (Out output register)
