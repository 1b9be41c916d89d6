-- The formats that a host learned beside a part as it is: this project's own choice. Lists are newest first.
use Rattle.std.specs.Prelude.{◌≡◌, ◌≢◌, ℕ, ℤ, false, List, ◌∷◌, ◌++◌, Some}
use Rattle.std.specs.List.{list_any}
use Rattle.pm_num.specs.AnyFormat.{Shape, shape_rank}
use Rattle.pm_num.specs.NearestWord.{nearest_word}
use Rattle.pm_num.specs.Ratio.{micros}
use Rattle.pm_table.specs.declared.cell.Cell.{Cell}
use Rattle.pm_table.specs.Cell.{output_of}
use Rattle.pm_device.specs.Held.{Held, shape_for, value_for}
use Rattle.pm_host.specs.declared.job.JobEnd.TheVariants.{Learned}
use Rattle.pm_host.specs.Summary.{format_at}
use Rattle.pm_host.specs.Transcript as host
use Rattle.pm_world.specs.declared.event.Event.{Event}
use Rattle.pm_world.specs.declared.event.Event.TheVariants.{OrderMicro}
use Rattle.pm_world.specs.State.{asked}
use Rattle.pm_part_laws.specs.Answers.{renews}
use Rattle.pm_part_laws.specs.Happenings.{Happening, Happens, IsLifeBeside, begins_another, beside, entries_beside}

-- an order in microvolts came to the order of the nearest word in the part's format
pub record OrdersNearest (held : Held) (passes : ℕ) (cell : Cell) (microvolts : ℤ) (before : List Happening) : Type 0 where
  pub word : ℕ
  pub nearest : nearest_word (value_for held.config (output_of cell)) (shape_rank (shape_for held.config (output_of cell)))
      (micros microvolts) ≡ Some word
  pub ordered : entries_beside held passes (Happens (OrderMicro cell microvolts) ∷ before) ≡ host.Accepted (host.Order cell word) ∷ entries_beside held passes before

-- A format that the host holds of an output's voltages is the part's (`held`). A learn that ended Learned leaves the part's format until the
-- host restarts (`ended`); any other job leaves each format as it was (`kept`). An order in microvolts is that of the nearest word
-- (`nearest`).
pub record FormatsAreTrue : Type 0 where
  pub held : (held : Held) (passes : ℕ) (happened : List Happening) (output : ℕ) (shape : Shape) → IsLifeBeside held passes happened →
      format_at (beside held passes happened).host output ≡ Some shape → shape ≡ shape_for held.config output
  pub ended : (held : Held) (passes : ℕ) (newer later before : List Happening) (event : Event) (output : ℕ) →
      IsLifeBeside held passes (newer ++ (later ++ Happens event ∷ before)) →
      asked (beside held passes before) event ≡ Some (host.Learn output) → list_any begins_another later ≡ false →
      (beside held passes (later ++ Happens event ∷ before)).end ≡ Some Learned → list_any renews newer ≡ false →
      format_at (beside held passes (newer ++ (later ++ Happens event ∷ before))).host output ≡ Some (shape_for held.config output)
  pub kept : (held : Held) (passes : ℕ) (later before : List Happening) (event : Event) (job : host.Job) (output : ℕ) →
      IsLifeBeside held passes (later ++ Happens event ∷ before) →
      asked (beside held passes before) event ≡ Some job → list_any begins_another later ≡ false →
      (beside held passes (later ++ Happens event ∷ before)).end ≢ Some Learned →
      format_at (beside held passes (later ++ Happens event ∷ before)).host output ≡ format_at (beside held passes before).host output
  pub nearest : (held : Held) (passes : ℕ) (before : List Happening) (cell : Cell) (microvolts : ℤ) →
      IsLifeBeside held passes (Happens (OrderMicro cell microvolts) ∷ before) → OrdersNearest held passes cell microvolts before
