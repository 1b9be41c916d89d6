-- The order machine: a converter's settings and its store under jobs alone. A job is an order of a word
-- for a cell, a store of the outputs' words, or their restore. It is accepted, takes any number of times
-- or never, and ends; the stored words may come back at any time. There are no bytes, pages, packet error
-- codes or passes in it. This project's own. A list of steps is newest first.
use Rattle.std.specs.Prelude.{◌≡◌, ◌⊎◌, ℕ, true, List, [], ◌∷◌, Option, Some, None, IsSome}
use Rattle.std.specs.List.{Contains}
use Rattle.pm_table.specs.declared.cell.Cell.{Cell}
use Rattle.pm_table.specs.Cell.{cell_accepts, IsCell}
use Rattle.pm_model.specs.declared.order_machine.PendingJob.{PendingJob}
use Rattle.pm_model.specs.declared.order_machine.PendingJob.TheVariants.{Order, Store, Restore}
use Rattle.pm_model.specs.Settings.{Settings, Words, restart_words, word_at, with_word, with_outputs}

pub data Step : Type 0 where
  -- a job is accepted
  Accept : (job : PendingJob) → Step
  -- the pending job takes
  Take : Step
  -- no job is pending any more
  End : Step
  -- each cell gets the word that a restart gives
  Back : Step

-- the settings at the start, the words of the cells now, those in the store, and the job that is pending;
-- the store has the outputs' words, and for WRITE_PROTECT its start word
pub record Machine : Type 0 where
  pub start : Settings
  pub words : Words
  pub store : Words
  pub pending : Option PendingJob

-- the words after a job took: an order gives its cell its word, a restore brings back the outputs' words
abbrev pub words_taken : Words → Words → Option PendingJob → Words
words_taken words store None = words
words_taken words store (Some (Order cell word)) = with_word words cell word
words_taken words store (Some Store) = words
words_taken words store (Some Restore) = with_outputs words store

-- the store after a job took: a store copies the outputs' words to it
abbrev pub store_taken : Words → Words → Option PendingJob → Words
store_taken words store None = store
store_taken words store (Some (Order cell word)) = store
store_taken words store (Some Store) = with_outputs store words
store_taken words store (Some Restore) = store

-- the machine as it starts, and what one step makes of it
abbrev pub machine_at_start : Settings → Machine
machine_at_start start =
    record { start = start; words = start.words; store = start.words; pending = None }

abbrev pub machine_stepped : Machine → Step → Machine
machine_stepped m (Accept job) = record m { pending = Some job }
machine_stepped m Take = record m {
  words = words_taken m.words m.store m.pending;
  store = store_taken m.words m.store m.pending;
}
machine_stepped m End = record m { pending = None }
machine_stepped m Back = record m { words = restart_words m.store }

-- the machine after some steps
unfoldable pub machine_of : Settings → List Step → Machine
machine_of start [] = machine_at_start start
machine_of start (step ∷ before) = machine_stepped (machine_of start before) step

-- a job that can take: the cell of an order is there, and accepts its word
abbrev pub CanTake : ℕ → Option PendingJob → Type 0
CanTake count None = Unit {0}
CanTake count (Some (Order cell word)) = IsCell count cell × (cell_accepts cell word ≡ true)
CanTake count (Some Store) = Unit {0}
CanTake count (Some Restore) = Unit {0}

-- a job may be accepted where none is pending and it can take
pub record CanAccept (m : Machine) (job : PendingJob) : Type 0 where
  pub free : m.pending ≡ None
  pub can : CanTake m.start.count (Some job)

-- only a pending job takes
abbrev pub MayStep : Machine → Step → Type 0
MayStep m (Accept job) = CanAccept m job
MayStep m Take = IsSome m.pending
MayStep m End = Unit {0}
MayStep m Back = Unit {0}

-- each of the steps might come when it came
abbrev pub IsRun : Settings → List Step → Type 0
IsRun start [] = Unit {0}
IsRun start (step ∷ before) = MayStep (machine_of start before) step × IsRun start before

-- a cell's start word, or one that was accepted for this very cell
abbrev pub IsOwnWordOfMachine : Settings → List Step → Cell → ℕ → Type 0
IsOwnWordOfMachine start steps cell word =
    (word ≡ word_at start.words cell) ⊎ Contains steps (Accept (Order cell word))

-- the pending job is one that was accepted: it can take
abbrev pub IsAccepted : Settings → List Step → Option PendingJob → Type 0
IsAccepted start steps None = Unit {0}
IsAccepted start steps (Some job) = CanTake start.count (Some job) × Contains steps (Accept job)
