-- What the words that the host calls possible are worth, and the restarts that it saw. This project's own
-- choice: looks back over the events and over the marks of what the host did and learned. Lists are newest
-- first.
use Rattle.std.specs.Prelude.{◌≡◌, ◌≢◌, ℕ, Bool, true, false, not, ◌||◌, ◌&&◌, if◌then◌else◌, List, [], ◌∷◌, ◌++◌, Option, Some}
use Rattle.std.specs.List.{list_any}
use Rattle.pm_table.specs.declared.cell.Cell.{Cell}
use Rattle.pm_table.specs.Cell.{IsCell, same_cell}
use Rattle.pm_model.specs.Settings.{word_at}
use Rattle.pm_device.specs.declared.config.Config.{Config}
use Rattle.pm_host.specs.declared.knowledge.Possible.TheVariants.{Any}
use Rattle.pm_host.specs.Marks.{Mark, Good, goods, marks}
use Rattle.pm_host.specs.Possible.{is_possible, possible_of, restart_seen_of}
use Rattle.pm_host.specs.Summary.{possible_at}
use Rattle.pm_host.specs.Transcript.{Setup, Entry, Got}
use Rattle.pm_world.specs.declared.event.Event.{Event}
use Rattle.pm_world.specs.declared.event.Event.TheVariants.{RestartHost}
use Rattle.pm_world.specs.Confirmed.{reads_cell, restarts_converter, restarted_since}
use Rattle.pm_world.specs.Life.{life, now}
use Rattle.pm_world.specs.Setup.{setup_of}
use Rattle.pm_world.specs.State.{State, share_of}

-- the event is a restart of the host
abbrev pub restarts_host : Event → Bool
restarts_host RestartHost = true
restarts_host _ = false

-- the host had a good answer for the cell since it last started
unfoldable pub host_has_read : Config → ℕ → Cell → List Event → Bool
host_has_read config passes cell [] = false
host_has_read config passes cell (event ∷ before) =
    if restarts_host event then false
    else (reads_cell config passes cell before event || host_has_read config passes cell before)

-- the mark is a good answer for the cell, whose word wasn't possible by the marks before it
abbrev pub is_surprise_for : Cell → List Mark → Mark → Bool
is_surprise_for cell before (Good read word) =
    same_cell read cell && not (is_possible word (possible_of before read))
is_surprise_for cell before _ = false

-- what the host was told is such an answer: bytes that came back after these entries
abbrev pub answer_surprises : Setup → List Entry → Cell → Option Entry → Bool
answer_surprises setup before cell (Some (Got bytes)) =
    list_any (is_surprise_for cell (marks setup before)) (goods setup before bytes)
answer_surprises setup before cell _ = false

-- the event gives the host such an answer
abbrev pub surprises_by : Config → ℕ → Cell → List Event → Event → Bool
surprises_by config passes cell before event =
    answer_surprises (setup_of config passes) (life config passes before).entries cell
    (share_of (now config passes before) event).told

-- Since the host last started, the converter restarted between two good answers for the cell that have
-- no third one between them.
unfoldable pub restarted_between : Config → ℕ → Cell → List Event → Bool
restarted_between config passes cell [] = false
restarted_between config passes cell (event ∷ before) =
    if restarts_host event then false
    else (reads_cell config passes cell before event
    && (host_has_read config passes cell before && restarted_since config passes cell before)
    || restarted_between config passes cell before)

-- the converter restarted since the host last started
unfoldable pub restarted_since_host : List Event → Bool
restarted_since_host [] = false
restarted_since_host (event ∷ before) =
    if restarts_host event then false else (restarts_converter event || restarted_since_host before)

-- The words that the host calls possible for a cell are what its marks result in (`possible`). It names
-- words only where it had a good answer for the cell since it started (`found`), and then the word that the
-- converter holds is one of them, unless that restarted since the last good answer for the cell (`held`).
pub record PossibleIsHeld (config : Config) (passes : ℕ) (events : List Event) (s : State) : Type 0 where
  pub possible : (cell : Cell) → IsCell config.count cell →
      possible_at s.host cell
      ≡ possible_of (marks (setup_of config passes) (life config passes events).entries) cell
  pub found : (cell : Cell) → IsCell config.count cell →
      possible_at s.host cell ≢ Any → host_has_read config passes cell events ≡ true
  pub held : (cell : Cell) → IsCell config.count cell →
      restarted_since config passes cell events ≡ false →
      is_possible (word_at s.device.words cell) (possible_at s.host cell) ≡ true

-- A good answer that the host didn't think possible comes only where it had one for the same cell before,
-- and the converter restarted since that (`surprises`). What the host says of restarts that it saw is
-- what its marks result in (`seen`): where it saw one, the converter restarted between two neighbouring good
-- answers for a cell (`between`), and so since the host started (`restarted`).
pub record SeenIsTrue (config : Config) (passes : ℕ) (events : List Event) (s : State) : Type 0 where
  pub surprises : (later before : List Event) (event : Event) (cell : Cell) →
      events ≡ later ++ event ∷ before → surprises_by config passes cell before event ≡ true →
      (host_has_read config passes cell before ≡ true) × (restarted_since config passes cell before ≡ true)
  pub seen : s.host.known.seen
      ≡ restart_seen_of (marks (setup_of config passes) (life config passes events).entries)
  pub between : s.host.known.seen ≡ true →
      (cell : Cell) × IsCell config.count cell × (restarted_between config passes cell events ≡ true)
  pub restarted : s.host.known.seen ≡ true → restarted_since_host events ≡ true
