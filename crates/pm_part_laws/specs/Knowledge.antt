-- What a host's words on a part are worth beside a part as it is: this project's own choice. Lists are newest first.
use Rattle.std.specs.Prelude.{◌≡◌, ◌≢◌, ℕ, true, false, List, ◌∷◌, ◌++◌}
use Rattle.pm_table.specs.declared.cell.Cell.{Cell}
use Rattle.pm_table.specs.Cell.{IsCell}
use Rattle.pm_model.specs.Settings.{word_at}
use Rattle.pm_device.specs.Held.{Held}
use Rattle.pm_host.specs.declared.knowledge.Possible.TheVariants.{Any}
use Rattle.pm_host.specs.declared.knowledge.Standing.TheVariants.{Confirmed}
use Rattle.pm_host.specs.Possible.{is_possible}
use Rattle.pm_host.specs.Summary.{possible_at, standing_at}
use Rattle.pm_part_laws.specs.Answers.{host_has_read_beside, restarted_between_beside, restarted_since_beside, restarted_since_host_beside}
use Rattle.pm_part_laws.specs.Answers.{surprises_by_beside}
use Rattle.pm_part_laws.specs.Happenings.{Happening, IsLifeBeside, beside}

-- A word that the host calls confirmed is the one that the part holds, unless the part restarted since the host's last good answer for it.
abbrev pub ConfirmedIsHeld : Type 0
ConfirmedIsHeld = (held : Held) (passes : ℕ) (happened : List Happening) (cell : Cell) (word : ℕ) → IsLifeBeside held passes happened →
    IsCell held.config.count cell → standing_at (beside held passes happened).host cell ≡ Confirmed word →
    restarted_since_beside held passes cell happened ≡ false → word_at (beside held passes happened).device.words cell ≡ word

-- The host names possible words only where it had a good answer for the cell since it started (`found`). The word that the part holds is
-- a possible one, unless the part restarted since the host's last good answer for it (`held`).
pub record PossibleIsHeld : Type 0 where
  pub found : (held : Held) (passes : ℕ) (happened : List Happening) (cell : Cell) → IsLifeBeside held passes happened →
      IsCell held.config.count cell → possible_at (beside held passes happened).host cell ≢ Any →
      host_has_read_beside held passes cell happened ≡ true
  pub held : (held : Held) (passes : ℕ) (happened : List Happening) (cell : Cell) → IsLifeBeside held passes happened →
      IsCell held.config.count cell → restarted_since_beside held passes cell happened ≡ false →
      is_possible (word_at (beside held passes happened).device.words cell) (possible_at (beside held passes happened).host cell) ≡ true

-- A good answer that the host didn't think possible comes only where it had one for the same cell before, and the part restarted since
-- that (`surprises`). Where the host says that it saw a restart, the part restarted between two neighbouring good answers for a cell
-- (`between`), and so since the host started (`restarted`).
pub record SeenIsTrue : Type 0 where
  pub surprises : (held : Held) (passes : ℕ) (later before : List Happening) (one : Happening) (cell : Cell) →
      IsLifeBeside held passes (later ++ one ∷ before) → surprises_by_beside held passes cell before one ≡ true →
      (host_has_read_beside held passes cell before ≡ true) × (restarted_since_beside held passes cell before ≡ true)
  pub between : (held : Held) (passes : ℕ) (happened : List Happening) → IsLifeBeside held passes happened →
      (beside held passes happened).host.known.seen ≡ true →
      (cell : Cell) × IsCell held.config.count cell × (restarted_between_beside held passes cell happened ≡ true)
  pub restarted : (held : Held) (passes : ℕ) (happened : List Happening) → IsLifeBeside held passes happened →
      (beside held passes happened).host.known.seen ≡ true → restarted_since_host_beside happened ≡ true
