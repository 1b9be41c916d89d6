-- What is known of every cell of a device, in one answer.
use Rattle.std.specs.Prelude.{◌≡◌, ◌≤◌, ◌<◌, ◌+◌, ◌*◌, ℕ, List, [], slice_index_or, Some}
use Rattle.pm_table.specs.declared.cell.Cell.{Cell}
use Rattle.pm_table.specs.Cell.{cell_at, nth_cell, output_of, register_count}
use Rattle.pm_host.specs.Image.{standing_held, words_held}
use Rattle.pm_host.specs.Summary.{Summary, possible_at, standing_at}
use Rattle.pm_memory.specs.declared.known_cells.KnownCell.{KnownCell}
use Rattle.pm_memory.specs.declared.known_cells.KnownCells.{KnownCells}

-- the numbers name the cell, with output 0 for the device's own cell, and say what is known of it
pub record IsKnown (s : Summary) (of : Cell) (known : KnownCell) : Type 0 where
  pub cell : cell_at known.code known.output ≡ Some of
  pub output : known.output ≡ output_of of
  pub standing : standing_held known.standing ≡ standing_at s of
  pub flag : known.standing.is_confirmed ≤ 1
  pub words : words_held known.words ≡ possible_at s of
  pub count : known.words.count ≤ 16

-- the numbers that name no cell
abbrev pub no_cell_known : KnownCell
no_cell_known = record {
  code = 0;
  output = 0;
  standing = record { is_confirmed = 0; word = 0 };
  words = record { count = 0; words = [] };
}

-- how many cells a device has
abbrev pub cell_count : ℕ → ℕ
cell_count outputs = outputs * register_count + 1

-- the first `count` cells have their numbers, output by output, each with its registers in their order, and WRITE_PROTECT last
abbrev pub AreKnown : Summary → ℕ → List KnownCell → Type 0
AreKnown s count cells = (number : ℕ) → number < count →
    IsKnown s (nth_cell s.setup.outputs number) (slice_index_or cells number no_cell_known)

-- the numbers of all cells of a device
pub record IsKnownOf (s : Summary) (known : KnownCells) : Type 0 where
  pub count : known.count ≡ cell_count s.setup.outputs
  pub cells : AreKnown s known.count known.cells
