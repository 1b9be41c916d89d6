-- How the settings and the store of a part move, while a host begins beside it and anybody reads it: this project's own choice. Lists
-- are newest first.
use Rattle.std.specs.Prelude.{◌≡◌, ◌≢◌, ◌⊎◌, ℕ, true, false, List, ◌∷◌, ◌++◌, Option, Some, option_and_then}
use Rattle.std.specs.List.{list_any}
use Rattle.pm_table.specs.declared.cell.Cell.{Cell}
use Rattle.pm_table.specs.declared.cell.Cell.TheVariants.{Protect}
use Rattle.pm_table.specs.Cell.{IsCell, is_output_cell}
use Rattle.pm_table.specs.Protection.{is_allowed}
use Rattle.pm_model.specs.declared.order_machine.PendingJob.{PendingJob}
use Rattle.pm_model.specs.declared.order_machine.PendingJob.TheVariants.{Order, Store, Restore}
use Rattle.pm_model.specs.OrderMachine.{store_taken, words_taken}
use Rattle.pm_model.specs.Settings.{Words, with_outputs, word_at}
use Rattle.pm_device.specs.Held.{Held}
use Rattle.pm_host.specs.declared.job.JobEnd.TheVariants.{Differs}
use Rattle.pm_host.specs.Transcript as host
use Rattle.pm_world.specs.declared.event.Arrival.{Arrival}
use Rattle.pm_world.specs.declared.event.Event.{Event}
use Rattle.pm_world.specs.declared.event.Event.TheVariants.{Deliver, RestartDevice}
use Rattle.pm_world.specs.Honest.{is_whole}
use Rattle.pm_world.specs.Legal.{frame_of}
use Rattle.pm_world.specs.Retelling.{pending_code, pending_message, pending_of}
use Rattle.pm_world.specs.Setup.{setup_of}
use Rattle.pm_world.specs.State.{asked}
use Rattle.pm_part_laws.specs.Happenings.{Happening, Happens, IsLifeBeside, begins_another, beside, restarts, entries_beside}

-- the words of the cells, and those in the store, after what happened
abbrev pub words_at_beside : Held → ℕ → List Happening → Words
words_at_beside held passes happened = (beside held passes happened).device.words

abbrev pub store_at_beside : Held → ℕ → List Happening → Words
store_at_beside held passes happened = (beside held passes happened).device.store

-- the order, store or restore that is open
abbrev pub open_pending_beside : Held → ℕ → List Happening → Option PendingJob
open_pending_beside held passes happened =
    option_and_then pending_of (host.open_job (setup_of held.config passes) (entries_beside held passes happened))

-- the job is the open one, its frame is heard whole as it arrives, and WRITE_PROTECT allows its code
pub record JobTakes (held : Held) (passes : ℕ) (before : List Happening) (arrival : Arrival) (job : PendingJob) : Type 0 where
  pub opened : open_pending_beside held passes before ≡ Some job
  pub whole : is_whole (frame_of held.config.addr (pending_message job)) arrival ≡ true
  pub allowed : is_allowed (word_at (words_at_beside held passes before) Protect) (pending_code job) ≡ true

-- How a cell gets this word: the part restarted, and the word is the stored one; or an order of this word for this very cell took; or a
-- restore took, and the word is the stored one of an output's cell.
pub data MovesBy (held : Held) (passes : ℕ) (before : List Happening) (cell : Cell) (word : ℕ) : Happening → Type 0 where
  came_back : word ≡ word_at (store_at_beside held passes before) cell
      → MovesBy held passes before cell word (Happens RestartDevice)
  ordered : (arrival : Arrival) → JobTakes held passes before arrival (Order cell word)
      → MovesBy held passes before cell word (Happens (Deliver arrival))
  restored : (arrival : Arrival) → JobTakes held passes before arrival Restore
      → is_output_cell cell ≡ true → word ≡ word_at (store_at_beside held passes before) cell
      → MovesBy held passes before cell word (Happens (Deliver arrival))

-- how the store becomes this one: a store took, and copied each output's words of that moment
pub data StoresBy (held : Held) (passes : ℕ) (before : List Happening) (store : Words) : Happening → Type 0 where
  stored : (arrival : Arrival) → JobTakes held passes before arrival Store
      → store ≡ with_outputs (store_at_beside held passes before) (words_at_beside held passes before)
      → StoresBy held passes before store (Happens (Deliver arrival))

-- Whatever happens, a cell keeps its word or gets another as above (`moves`), and so does the store (`stores`). A delivery by which the open
-- job takes leaves what that job makes of the words and of the store (`takes`).
pub record PartsMoveByTheOpenJob : Type 0 where
  pub moves : (held : Held) (passes : ℕ) (before : List Happening) (one : Happening) (cell : Cell) →
      IsLifeBeside held passes (one ∷ before) → IsCell held.config.count cell →
      let word = word_at (words_at_beside held passes (one ∷ before)) cell in
      (word ≡ word_at (words_at_beside held passes before) cell) ⊎ MovesBy held passes before cell word one
  pub stores : (held : Held) (passes : ℕ) (before : List Happening) (one : Happening) → IsLifeBeside held passes (one ∷ before) →
      let store = store_at_beside held passes (one ∷ before) in
      (store ≡ store_at_beside held passes before) ⊎ StoresBy held passes before store one
  pub takes : (held : Held) (passes : ℕ) (before : List Happening) (arrival : Arrival) (job : PendingJob) →
      IsLifeBeside held passes (Happens (Deliver arrival) ∷ before) → JobTakes held passes before arrival job →
      (words_at_beside held passes (Happens (Deliver arrival) ∷ before)
      ≡ words_taken (words_at_beside held passes before) (store_at_beside held passes before) (Some job))
      × (store_at_beside held passes (Happens (Deliver arrival) ∷ before)
      ≡ store_taken (words_at_beside held passes before) (store_at_beside held passes before) (Some job))

-- An order that ended as Differs never took: if the part didn't restart since it was accepted, the cell had the word that was read at each
-- moment since then, and that isn't the ordered one.
abbrev pub DiffersNeverTook : Type 0
DiffersNeverTook = (held : Held) (passes : ℕ) (later since before : List Happening) (order : Event) (cell : Cell) (word read : ℕ) →
    IsLifeBeside held passes (later ++ (since ++ Happens order ∷ before)) →
    asked (beside held passes before) order ≡ Some (host.Order cell word) →
    list_any begins_another (later ++ since) ≡ false → list_any restarts (later ++ since) ≡ false →
    (beside held passes (later ++ (since ++ Happens order ∷ before))).end ≡ Some (Differs read) →
    (read ≢ word) × (word_at (words_at_beside held passes (since ++ Happens order ∷ before)) cell ≡ read)
