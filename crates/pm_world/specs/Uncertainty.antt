-- What the words that the host calls possible are worth for all cells together: they are exactly those that
-- some other life, which tells the host just the same, leaves in the cells. This project's own choice. Lists
-- are newest first.
use Rattle.std.specs.Prelude.{◌≡◌, ◌<◌, ◌^◌, ℕ, ◌==◌, Bool, true, false, ◌||◌, if◌then◌else◌, List, [], ◌∷◌, ◌++◌, map, None, is_some}
use Rattle.std.specs.List.{range_with_len}
use Rattle.std.specs.Option.{option_map_or}
use Rattle.pm_table.specs.declared.reg.Reg.{Reg}
use Rattle.pm_table.specs.declared.cell.Cell.{Cell}
use Rattle.pm_table.specs.declared.cell.Cell.TheVariants.{Out, Protect}
use Rattle.pm_table.specs.Cell.{cell_accepts, same_cell}
use Rattle.pm_frame.specs.Layout.{AreBytes}
use Rattle.pm_model.specs.Settings.{word_at}
use Rattle.pm_device.specs.declared.config.Config.{Config}
use Rattle.pm_device.specs.declared.output_start.OutputStart.{OutputStart}
use Rattle.pm_device.specs.Held.{mode_for, shape_for}
use Rattle.pm_device.specs.Start.{IsSound, start_with_words}
use Rattle.pm_host.specs.declared.command.Command.{Command}
use Rattle.pm_host.specs.declared.command.Command.TheVariants.{ClearFaults, StoreUserAll, RestoreUserAll}
use Rattle.pm_host.specs.declared.knowledge.Possible.{Possible}
use Rattle.pm_host.specs.declared.knowledge.Possible.TheVariants.{Any, Words}
use Rattle.pm_host.specs.Answers.{good_payload}
use Rattle.pm_host.specs.Marks.{Mark, Put, Good, Restored, Restart, puts, goods}
use Rattle.pm_host.specs.Possible.{is_listed}
use Rattle.pm_host.specs.Summary.{Summary, possible_at}
use Rattle.pm_host.specs.Transcript.{Setup, Job, Entry, Accepted, Finished, Got, Restarted, sending_of}
use Rattle.pm_host.specs.Transcript as host
use Rattle.pm_world.specs.declared.event.Arrival.{Arrival}
use Rattle.pm_world.specs.declared.event.Arrival.TheVariants.{Whole, Cut}
use Rattle.pm_world.specs.declared.event.Back.TheVariants.{Bytes}
use Rattle.pm_world.specs.declared.event.Event.{Event}
use Rattle.pm_world.specs.declared.event.Event.TheVariants.{Order, Check, Learn, Clear, Store, Restore, Deliver, Finish, Exchange}
use Rattle.pm_world.specs.declared.event.Event.TheVariants.{RestartHost}
use Rattle.pm_world.specs.Confirmed.{restarts_converter}
use Rattle.pm_world.specs.Life.{life, now}
use Rattle.pm_world.specs.Possible.{restarts_host}
use Rattle.pm_world.specs.Setup.{world_fault}
use Rattle.pm_world.specs.State.{State, HasWord, event_cause}

-- nothing is against an event but perhaps that the world is full
pub record IsLegal (s : State) (event : Event) : Type 0 where
  pub free : event_cause s event ≡ None
  pub word : HasWord s event

-- each of the events is legal
abbrev pub AreLegal : Config → ℕ → List Event → Type 0
AreLegal config passes [] = Unit {0}
AreLegal config passes (event ∷ before) =
    IsLegal (now config passes before) event × AreLegal config passes before

-- neither end restarts
abbrev pub AreSteady : List Event → Type 0
AreSteady [] = Unit {0}
AreSteady (event ∷ before) =
    ((restarts_host event || restarts_converter event) ≡ false) × AreSteady before

-- a word for each cell
abbrev pub Choice : Type 0
Choice = Cell → ℕ

-- The cell may hold the word: one that is listed, or where any is possible one that the cell accepts.
abbrev pub may_hold : Cell → ℕ → Possible → Bool
may_hold cell word Any = cell_accepts cell word
may_hold cell word (Words words) = is_listed word words.items

-- the chosen words of the outputs' cells are all possible
abbrev pub ArePossible : Config → Summary → Choice → Type 0
ArePossible config s chosen = (output : ℕ) (register : Reg) → output < config.count →
    may_hold (Out output register) (chosen (Out output register)) (possible_at s (Out output register)) ≡ true

-- each of the chosen words has two bytes
abbrev pub AreWordsChosen : Config → Choice → Type 0
AreWordsChosen config chosen = (output : ℕ) (register : Reg) → output < config.count →
    chosen (Out output register) < 2 ^ 16

-- what came back were bytes
abbrev pub AreOfBytes : List Entry → Type 0
AreOfBytes [] = Unit {0}
AreOfBytes (Got bytes ∷ before) = AreBytes bytes × AreOfBytes before
AreOfBytes (entry ∷ before) = AreOfBytes before

-- what the host was told since it last restarted
abbrev pub since_restart : List Entry → List Entry
since_restart [] = []
since_restart (Accepted job ∷ before) = Accepted job ∷ since_restart before
since_restart (Finished acked ∷ before) = Finished acked ∷ since_restart before
since_restart (Got bytes ∷ before) = Got bytes ∷ since_restart before
since_restart (Restarted ∷ before) = []

-- No other word than 00h was ordered for WRITE_PROTECT or read from it, so every code may be written; and no
-- restore was ordered. A store is no mark, and changes no word.
abbrev pub leaves_open : Mark → Bool
leaves_open (Put (Out output register) word) = true
leaves_open (Put Protect word) = word == 0x00
leaves_open (Good (Out output register) word) = true
leaves_open (Good Protect word) = word == 0x00
leaves_open Restored = false
leaves_open Restart = true

abbrev pub AreOpen : List Mark → Type 0
AreOpen [] = Unit {0}
AreOpen (mark ∷ before) = (leaves_open mark ≡ true) × AreOpen before

-- a configuration with the same address, outputs and formats
pub record IsLike (config other : Config) : Type 0 where
  pub addr : other.addr ≡ config.addr
  pub count : other.count ≡ config.count
  pub shapes : (output : ℕ) → output < config.count → shape_for other output ≡ shape_for config output

-- Events that are legal one after another in a new world of this start, which is like the configuration and which
-- can be made: neither end restarts, the host is told just these entries, and each cell of each output is left with its
-- chosen word.
pub record Leaves (config : Config) (passes : ℕ) (entries : List Entry) (chosen : Choice) (start : Config) (events : List Event) : Type 0
  where
    pub alike : IsLike config start
    pub sound : IsSound start
    pub made : world_fault start passes ≡ None
    pub steady : AreSteady events
    pub legal : AreLegal start passes events
    pub told : (life start passes events).entries ≡ entries
    pub left : (output : ℕ) (register : Reg) → output < config.count →
        word_at (now start passes events).device.words (Out output register) ≡ chosen (Out output register)

-- A cell's word is due at a place of the transcript: that of its next good answer after it, otherwise the
-- chosen one. These are due before a mark, and before marks.
abbrev pub with_due : Choice → Cell → ℕ → Choice
with_due due cell word = λ other. if same_cell cell other then word else due other

abbrev pub due_at : Choice → Mark → Choice
due_at due (Good cell word) = with_due due cell word
due_at due (Put cell word) = due
due_at due Restored = due
due_at due Restart = due

abbrev pub due_before : Choice → List Mark → Choice
due_before due [] = due
due_before due (mark ∷ before) = due_before (due_at due mark) before

-- the start with the same formats in which each output's cells have these words; WRITE_PROTECT has 00h
abbrev pub start_with : Config → Choice → ℕ → OutputStart
start_with config words output = start_with_words (mode_for config output) (λ register. words (Out output register))

abbrev pub witness_start : Config → Choice → Config
witness_start config words = record config {
  starts = map (start_with config words) (range_with_len 0 8);
  protect = 0x00;
}

-- bytes that came back after these entries are a good answer to the request that was being sent
abbrev pub is_good_answer : Setup → List Entry → List ℕ → Bool
is_good_answer setup before bytes = option_map_or
    (λ request. is_some (good_payload setup.addr request bytes)) (sending_of setup before) false

-- the events that ask for a command, and for a job
abbrev pub command_event : Command → Event
command_event (ClearFaults output) = Clear output
command_event StoreUserAll = Store
command_event RestoreUserAll = Restore

abbrev pub job_event : Job → Event
job_event (host.Order cell word) = Order cell word
job_event (host.Check cell) = Check cell
job_event (host.Learn output) = Learn output
job_event (host.Send command) = command_event command

-- The event that tells an entry: bytes come back of a request that arrives whole where they are a good
-- answer, and otherwise is lost.
abbrev pub arrival_for : Bool → Arrival
arrival_for good = if good then Whole else Cut 0

abbrev pub event_of_entry : Setup → List Entry → Entry → Event
event_of_entry setup before (Accepted job) = job_event job
event_of_entry setup before (Finished acked) = Finish acked
event_of_entry setup before (Got bytes) =
    Exchange (arrival_for (is_good_answer setup before bytes)) (Bytes (record { items = bytes }))
event_of_entry setup before Restarted = RestartHost

-- the good answer for a cell that an entry is
abbrev pub marks_found : Setup → Entry → List Entry → List Mark
marks_found setup (Got bytes) before = goods setup before bytes
marks_found setup _ before = []

-- a write of an output's cell is delivered where its word is due
abbrev pub arrivals_of : Choice → List Mark → List Event
arrivals_of due (Put (Out output register) word ∷ marks) =
    (if due (Out output register) == word then Deliver Whole ∷ [] else []) ++ arrivals_of due marks
arrivals_of due (mark ∷ marks) = arrivals_of due marks
arrivals_of due [] = []

-- The retelling: for each entry the event that tells it, and then the delivery of the write that begins to be
-- sent with it.
abbrev pub witness_events : Setup → Choice → List Entry → List Event
witness_events setup due [] = []
witness_events setup due (entry ∷ before) =
    arrivals_of due (puts setup (entry ∷ before))
    ++ event_of_entry setup before entry ∷ witness_events setup (due_before due (marks_found setup entry before)) before
