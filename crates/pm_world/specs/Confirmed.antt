-- What it is worth that the host calls a setting confirmed. This project's own choice: the word is the
-- converter's, unless the converter restarted since the host read it.
use Rattle.std.specs.Prelude.{◌≡◌, ℕ, Bool, true, false, ◌||◌, if◌then◌else◌, List, [], ◌∷◌, Option, Some}
use Rattle.std.specs.List.{list_any}
use Rattle.pm_table.specs.declared.cell.Cell.{Cell}
use Rattle.pm_table.specs.Cell.{IsCell, same_cell}
use Rattle.pm_model.specs.Settings.{word_at}
use Rattle.pm_device.specs.declared.config.Config.{Config}
use Rattle.pm_host.specs.declared.knowledge.Standing.TheVariants.{Confirmed}
use Rattle.pm_host.specs.Marks.{Mark, Put, Good, Restored, Restart, goods, marks}
use Rattle.pm_host.specs.Standing.{standing_of}
use Rattle.pm_host.specs.Summary.{standing_at}
use Rattle.pm_host.specs.Transcript.{Setup, Entry, Got}
use Rattle.pm_world.specs.declared.event.Event.{Event}
use Rattle.pm_world.specs.declared.event.Event.TheVariants.{RestartDevice}
use Rattle.pm_world.specs.Life.{life, now}
use Rattle.pm_world.specs.Setup.{setup_of}
use Rattle.pm_world.specs.State.{State, share_of}

-- the mark is a good answer for the cell
abbrev pub is_good_for : Cell → Mark → Bool
is_good_for cell (Put put word) = false
is_good_for cell (Good read word) = same_cell read cell
is_good_for cell Restored = false
is_good_for cell Restart = false

-- what the host was told is a good answer for the cell: bytes that came back after these entries
abbrev pub reads : Setup → List Entry → Cell → Option Entry → Bool
reads setup before cell (Some (Got bytes)) = list_any (is_good_for cell) (goods setup before bytes)
reads setup before cell _ = false

-- the event gives the host a good answer for the cell
abbrev pub reads_cell : Config → ℕ → Cell → List Event → Event → Bool
reads_cell config passes cell before event =
    reads (setup_of config passes) (life config passes before).entries cell
    (share_of (now config passes before) event).told

-- the event is a restart of the converter
abbrev pub restarts_converter : Event → Bool
restarts_converter RestartDevice = true
restarts_converter _ = false

-- The converter restarted since the host's last good answer for the cell; where there was none, it
-- restarted at all.
unfoldable pub restarted_since : Config → ℕ → Cell → List Event → Bool
restarted_since config passes cell [] = false
restarted_since config passes cell (event ∷ before) =
    if reads_cell config passes cell before event then false
    else (restarts_converter event || restarted_since config passes cell before)

-- What the host says of each cell is what its marks result in (`standing`), and a word that
-- it calls confirmed is the one that the converter holds, unless that restarted since the host read
-- the cell (`held`).
pub record ConfirmedIsHeld (config : Config) (passes : ℕ) (events : List Event) (s : State) : Type 0 where
  pub standing : (cell : Cell) → IsCell config.count cell →
      standing_at s.host cell
      ≡ standing_of (marks (setup_of config passes) (life config passes events).entries) cell
  pub held : (cell : Cell) (word : ℕ) → IsCell config.count cell →
      standing_at s.host cell ≡ Confirmed word →
      restarted_since config passes cell events ≡ false →
      word_at s.device.words cell ≡ word
