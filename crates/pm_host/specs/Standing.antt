-- What the host says of a cell's word, by looking back over the marks, newest first: this project's
-- own choice.
use Rattle.std.specs.Prelude.{List, [], ◌∷◌, if◌then◌else◌}
use Rattle.pm_table.specs.declared.cell.Cell.{Cell}
use Rattle.pm_host.specs.declared.knowledge.Standing.{Standing}
use Rattle.pm_host.specs.declared.knowledge.Standing.TheVariants.{Confirmed, Unknown}
use Rattle.pm_table.specs.Cell.{same_cell, is_output_cell}
use Rattle.pm_host.specs.Marks.{Mark, Put, Good, Restored, Restart}

-- The newest mark that is a restart, a write or a good answer of the cell, or for an output's cell a
-- restore, decides: a good answer confirms its word.
abbrev pub standing_of : List Mark → Cell → Standing
standing_of [] cell = Unknown
standing_of (Restart ∷ before) cell = Unknown
standing_of (Restored ∷ before) cell =
    if is_output_cell cell then Unknown else standing_of before cell
standing_of (Put put word ∷ before) cell =
    if same_cell put cell then Unknown else standing_of before cell
standing_of (Good read word ∷ before) cell =
    if same_cell read cell then Confirmed word else standing_of before cell
