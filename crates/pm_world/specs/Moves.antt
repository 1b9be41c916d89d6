-- How the converter's settings and its store move, at each moment of a life: this project's own choice. Nothing
-- moves but by a restart of the converter and by the open job. Lists are newest first.
use Rattle.std.specs.Prelude.{◌≡◌, ◌<◌, ◌⊎◌, ℕ, Bool, true, false, if◌then◌else◌, List, [], ◌∷◌, ◌++◌, Option, Some}
use Rattle.pm_table.specs.declared.cell.Cell.{Cell}
use Rattle.pm_table.specs.declared.cell.Cell.TheVariants.{Out, Protect}
use Rattle.pm_table.specs.declared.reg.Reg.{Reg}
use Rattle.pm_table.specs.Cell.{IsCell, is_output_cell}
use Rattle.pm_table.specs.Protection.{is_allowed}
use Rattle.pm_model.specs.declared.order_machine.PendingJob.{PendingJob}
use Rattle.pm_model.specs.declared.order_machine.PendingJob.TheVariants.{Order, Store, Restore}
use Rattle.pm_model.specs.OrderMachine.{store_taken, words_taken}
use Rattle.pm_model.specs.Settings.{Words, with_outputs, word_at}
use Rattle.pm_device.specs.declared.config.Config.{Config}
use Rattle.pm_device.specs.Start.{start_word}
use Rattle.pm_world.specs.declared.event.Arrival.{Arrival}
use Rattle.pm_world.specs.declared.event.Event.{Event}
use Rattle.pm_world.specs.declared.event.Event.TheVariants.{Deliver, RestartDevice}
use Rattle.pm_world.specs.Honest.{is_whole}
use Rattle.pm_world.specs.Legal.{frame_of}
use Rattle.pm_world.specs.Lived.{IsLived}
use Rattle.pm_world.specs.Life.{now}
use Rattle.pm_world.specs.Retelling.{open_pending, pending_code, pending_message, taken_at}

-- the words of the cells, and those in the store, after some events
abbrev pub words_at : Config → ℕ → List Event → Words
words_at config passes events = (now config passes events).device.words

abbrev pub store_at : Config → ℕ → List Event → Words
store_at config passes events = (now config passes events).device.store

-- the job is the open one, its frame is heard whole as it arrives, and WRITE_PROTECT allows its code
pub record JobTakes (config : Config) (passes : ℕ) (before : List Event) (arrival : Arrival) (job : PendingJob) : Type 0 where
  pub opened : open_pending config passes before ≡ Some job
  pub whole : is_whole (frame_of config.addr (pending_message job)) arrival ≡ true
  pub allowed : is_allowed (word_at (words_at config passes before) Protect) (pending_code job) ≡ true

-- How a cell gets this word at an event: the converter restarted, and the word is the stored one; or an order of
-- this word for this very cell took; or a restore took, and the word is the stored one of an output's cell.
pub data MovesBy (config : Config) (passes : ℕ) (before : List Event) (cell : Cell) (word : ℕ) : Event → Type 0 where
  came_back : word ≡ word_at (store_at config passes before) cell
      → MovesBy config passes before cell word RestartDevice
  ordered : (arrival : Arrival) → JobTakes config passes before arrival (Order cell word)
      → MovesBy config passes before cell word (Deliver arrival)
  restored : (arrival : Arrival) → JobTakes config passes before arrival Restore
      → is_output_cell cell ≡ true → word ≡ word_at (store_at config passes before) cell
      → MovesBy config passes before cell word (Deliver arrival)

-- how the store becomes this one at an event: a store took, and copied each output's words of that moment
pub data StoresBy (config : Config) (passes : ℕ) (before : List Event) (store : Words) : Event → Type 0 where
  stored : (arrival : Arrival) → JobTakes config passes before arrival Store
      → store ≡ with_outputs (store_at config passes before) (words_at config passes before)
      → StoresBy config passes before store (Deliver arrival)

-- a store that takes
abbrev pub is_store : Option PendingJob → Bool
is_store (Some Store) = true
is_store _ = false

-- the events before the last store that took; where none did, none
unfoldable pub before_store : Config → ℕ → List Event → List Event
before_store config passes [] = []
before_store config passes (event ∷ before) =
    if is_store (taken_at config passes before event) then before else before_store config passes before

-- The store has the words of one moment, never a mixture: those of each output as they were before the last store
-- that took, or at the start. For WRITE_PROTECT, which isn't stored, it has the start word.
pub record StoreIsOfOneMoment (config : Config) (passes : ℕ) (events : List Event) : Type 0 where
  pub later : List Event
  pub is : events ≡ later ++ before_store config passes events
  pub words : (output : ℕ) (register : Reg) → output < config.count →
      word_at (store_at config passes events) (Out output register)
      ≡ word_at (words_at config passes (before_store config passes events)) (Out output register)
  pub protect : word_at (store_at config passes events) Protect ≡ start_word config Protect

-- At each moment of the events: a cell keeps its word at an event or gets another as above (`moves`), and so
-- does the store (`stores`), which has the words of one moment (`moment`). And a delivery by which the open job
-- takes leaves what that job makes of the words and the store (`takes`).
pub record MovesByTheOpenJob (config : Config) (passes : ℕ) (events : List Event) : Type 0 where
  pub moves : (later before : List Event) (event : Event) (cell : Cell) →
      events ≡ later ++ event ∷ before → IsCell config.count cell →
      let word = word_at (words_at config passes (event ∷ before)) cell in
      (word ≡ word_at (words_at config passes before) cell) ⊎ MovesBy config passes before cell word event
  pub stores : (later before : List Event) (event : Event) → events ≡ later ++ event ∷ before →
      let store = store_at config passes (event ∷ before) in
      (store ≡ store_at config passes before) ⊎ StoresBy config passes before store event
  pub takes : (later before : List Event) (arrival : Arrival) (job : PendingJob) →
      events ≡ later ++ Deliver arrival ∷ before → JobTakes config passes before arrival job →
      (words_at config passes (Deliver arrival ∷ before)
      ≡ words_taken (words_at config passes before) (store_at config passes before) (Some job))
      × (store_at config passes (Deliver arrival ∷ before)
      ≡ store_taken (words_at config passes before) (store_at config passes before) (Some job))
  pub moment : (later before : List Event) → events ≡ later ++ before → StoreIsOfOneMoment config passes before

-- in each life
abbrev pub SettingsMoveByTheOpenJob : Type 0
SettingsMoveByTheOpenJob = (config : Config) (passes : ℕ) (events : List Event) →
    IsLived config passes events → MovesByTheOpenJob config passes events
