-- What the end of a job is worth of both ends: this project's own choice. Lists are newest first.
use Rattle.std.specs.Prelude.{◌≡◌, ◌≢◌, ℕ, Bool, false, ◌||◌, List, ◌∷◌, ◌++◌, Some, is_some}
use Rattle.std.specs.List.{list_any}
use Rattle.pm_table.specs.declared.cell.Cell.{Cell}
use Rattle.pm_model.specs.Settings.{word_at}
use Rattle.pm_device.specs.declared.config.Config.{Config}
use Rattle.pm_host.specs.declared.job.JobEnd.TheVariants.{Differs}
use Rattle.pm_host.specs.Transcript as host
use Rattle.pm_world.specs.declared.event.Event.{Event}
use Rattle.pm_world.specs.Confirmed.{restarts_converter}
use Rattle.pm_world.specs.Job.{asked_by}
use Rattle.pm_world.specs.Life.{now}
use Rattle.pm_world.specs.Possible.{restarts_host}
use Rattle.pm_world.specs.State.{asked}

-- the event asks for a job, or restarts the host: the last job isn't the one of before any more
abbrev pub begins_other : Event → Bool
begins_other event = is_some (asked_by event) || restarts_host event

-- An order differs only where it never took: where the converter didn't restart since it was accepted, the
-- cell had the word that was read at each moment since then.
pub record DiffersNeverTook (config : Config) (passes : ℕ) (events : List Event) : Type 0 where
  pub never : (newer later since before : List Event) (order : Event) (cell : Cell) (word read : ℕ) →
      events ≡ newer ++ (later ++ (since ++ order ∷ before)) →
      asked (now config passes before) order ≡ Some (host.Order cell word) →
      list_any begins_other (later ++ since) ≡ false → list_any restarts_converter (later ++ since) ≡ false →
      (now config passes (later ++ (since ++ order ∷ before))).end ≡ Some (Differs read) →
      (read ≢ word) × (word_at (now config passes (since ++ order ∷ before)).device.words cell ≡ read)
