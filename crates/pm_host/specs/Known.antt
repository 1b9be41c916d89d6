-- What the host holds of its marks, and what one more mark makes of it.
use Rattle.std.specs.Prelude.{◌≡◌, Bool, false, not, ◌||◌, if◌then◌else◌, List, [], ◌∷◌, length, replicate, slice_index_or, slice_set}
use Rattle.pm_table.specs.declared.cell.Cell.{Cell}
use Rattle.pm_table.specs.declared.cell.Cell.TheVariants.{Protect}
use Rattle.pm_table.specs.Cell.{place_of, places, protect_place}
use Rattle.pm_host.specs.declared.knowledge.Possible.{Possible}
use Rattle.pm_host.specs.declared.knowledge.Possible.TheVariants.{Any}
use Rattle.pm_host.specs.declared.knowledge.Standing.{Standing}
use Rattle.pm_host.specs.declared.knowledge.Standing.TheVariants.{Confirmed, Unknown}
use Rattle.pm_host.specs.Cells.{table}
use Rattle.pm_host.specs.Marks.{Mark, Put, Good, Restored, Restart}
use Rattle.pm_host.specs.Possible.{is_possible, joined, only, possible_of, restart_seen_of}
use Rattle.pm_host.specs.Standing.{standing_of}

pub record Known : Type 0 where
  -- the words that each cell may hold
  pub possible : List Possible
  -- what is said of each cell
  pub standing : List Standing
  -- a restart of the device was seen
  pub seen : Bool

abbrev pub known_possible : Known → Cell → Possible
known_possible known cell = slice_index_or known.possible (place_of cell) Any

abbrev pub known_standing : Known → Cell → Standing
known_standing known cell = slice_index_or known.standing (place_of cell) Unknown

-- there is a place for each cell
pub record HasPlaces (known : Known) : Type 0 where
  pub possible : length known.possible ≡ places
  pub standing : length known.standing ≡ places

-- nothing is known of any cell
unfoldable pub all_any : List Possible
all_any = replicate places Any

unfoldable pub all_unknown : List Standing
all_unknown = replicate places Unknown

unfoldable pub nothing_known : Known
nothing_known = record { possible = all_any; standing = all_unknown; seen = false }

-- what one more mark makes of it
abbrev pub known_after : Known → Mark → Known
known_after known (Put cell word) = record {
  possible = slice_set known.possible (place_of cell) (joined (known_possible known cell) word);
  standing = slice_set known.standing (place_of cell) Unknown;
  seen = known.seen;
}
known_after known (Good cell word) =
    let expected = is_possible word (known_possible known cell) in
    let before = if expected then known.possible else all_any in
    record {
      possible = slice_set before (place_of cell) (only word);
      standing = slice_set known.standing (place_of cell) (Confirmed word);
      seen = not expected || known.seen;
    }
known_after known Restored = record {
  possible = slice_set all_any protect_place (known_possible known Protect);
  standing = slice_set all_unknown protect_place (known_standing known Protect);
  seen = known.seen;
}
known_after known Restart = nothing_known

-- what more marks make of it, newest first
abbrev pub known_more : Known → List Mark → Known
known_more known [] = known
known_more known (mark ∷ before) = known_after (known_more known before) mark

-- what the definitions say of all marks, newest first
unfoldable pub known_now : List Mark → Known
known_now marks = record {
  possible = table places (possible_of marks);
  standing = table places (standing_of marks);
  seen = restart_seen_of marks;
}
