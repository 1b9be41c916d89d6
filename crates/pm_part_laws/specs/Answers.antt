-- The host's good answers beside a part as it is, and the restarts since them: this project's own choice, as `pm_world` has it of a
-- life. Lists are newest first.
use Rattle.std.specs.Prelude.{ℕ, Bool, false, ◌||◌, ◌&&◌, if◌then◌else◌, List, [], ◌∷◌}
use Rattle.pm_table.specs.declared.cell.Cell.{Cell}
use Rattle.pm_device.specs.Held.{Held}
use Rattle.pm_world.specs.Confirmed.{reads}
use Rattle.pm_world.specs.Possible.{restarts_host, answer_surprises}
use Rattle.pm_world.specs.Setup.{setup_of}
use Rattle.pm_part_laws.specs.Happenings.{Happening, Happens, Hears, beside, restarts, telling, entries_beside}

-- the happening is a restart of the host
abbrev pub renews : Happening → Bool
renews (Happens event) = restarts_host event
renews (Hears bytes ending) = false

-- the happening gives the host a good answer for the cell
abbrev pub answers : Held → ℕ → Cell → List Happening → Happening → Bool
answers held passes cell before one =
    reads (setup_of held.config passes) (entries_beside held passes before) cell (telling (beside held passes before) one)

-- the happening gives the host a good answer for the cell, whose word it didn't think possible
abbrev pub surprises_by_beside : Held → ℕ → Cell → List Happening → Happening → Bool
surprises_by_beside held passes cell before one =
    answer_surprises (setup_of held.config passes) (entries_beside held passes before) cell (telling (beside held passes before) one)

-- The converter restarted since the host's last good answer for the cell; where there was none, it restarted at all.
unfoldable pub restarted_since_beside : Held → ℕ → Cell → List Happening → Bool
restarted_since_beside held passes cell [] = false
restarted_since_beside held passes cell (one ∷ before) =
    if answers held passes cell before one then false else (restarts one || restarted_since_beside held passes cell before)

-- the host had a good answer for the cell since it last started
unfoldable pub host_has_read_beside : Held → ℕ → Cell → List Happening → Bool
host_has_read_beside held passes cell [] = false
host_has_read_beside held passes cell (one ∷ before) =
    if renews one then false else (answers held passes cell before one || host_has_read_beside held passes cell before)

-- Since the host last started, the converter restarted between two good answers for the cell that have no third one between them.
unfoldable pub restarted_between_beside : Held → ℕ → Cell → List Happening → Bool
restarted_between_beside held passes cell [] = false
restarted_between_beside held passes cell (one ∷ before) =
    if renews one then false
    else (answers held passes cell before one
    && (host_has_read_beside held passes cell before && restarted_since_beside held passes cell before)
    || restarted_between_beside held passes cell before)

-- the converter restarted since the host last started
unfoldable pub restarted_since_host_beside : List Happening → Bool
restarted_since_host_beside [] = false
restarted_since_host_beside (one ∷ before) = if renews one then false else (restarts one || restarted_since_host_beside before)
