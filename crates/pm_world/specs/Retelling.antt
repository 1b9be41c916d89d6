-- The life of a world, retold by the order machine: settings and a store under jobs alone, with no bytes,
-- pages, packet error codes or passes. This project's own. Lists are newest first.
use Rattle.std.specs.Prelude.{◌≡◌, ◌⊎◌, ℕ, Bool, ◌&&◌, if◌then◌else◌, List, [], ◌∷◌, ◌++◌, Option, Some, None, is_some, is_none}
use Rattle.std.specs.Prelude.{option_and_then}
use Rattle.std.specs.Option.{option_map_or}
use Rattle.pm_num.specs.Ratio.{Ratio}
use Rattle.pm_table.specs.declared.cell.Cell.{Cell}
use Rattle.pm_table.specs.declared.cell.Cell.TheVariants.{Out, Protect}
use Rattle.pm_table.specs.declared.reg.Reg.TheVariants.{Operation, VoutMax, VoutMin}
use Rattle.pm_table.specs.Cell.{cell_code}
use Rattle.pm_table.specs.Protection.{is_allowed}
use Rattle.pm_frame.specs.declared.message.Message.{Message}
use Rattle.pm_model.specs.declared.order_machine.PendingJob.{PendingJob}
use Rattle.pm_model.specs.declared.order_machine.PendingJob.TheVariants as pending
use Rattle.pm_model.specs.Commanded.{selected_register, limited}
use Rattle.pm_model.specs.OrderMachine.{Step, Accept, Take, End, Back, IsRun, machine_of}
use Rattle.pm_model.specs.Settings.{Settings, Words, word_at}
use Rattle.pm_device.specs.declared.config.Config.{Config}
use Rattle.pm_device.specs.Held.{value_for}
use Rattle.pm_device.specs.Start.{start_word, start_words}
use Rattle.pm_host.specs.declared.command.Command.{Command}
use Rattle.pm_host.specs.declared.command.Command.TheVariants.{StoreUserAll, RestoreUserAll}
use Rattle.pm_host.specs.Command.{command_code}
use Rattle.pm_host.specs.Messages.{cell_write, command_message}
use Rattle.pm_host.specs.Transcript as host
use Rattle.pm_world.specs.declared.event.Arrival.{Arrival}
use Rattle.pm_world.specs.declared.event.Event.{Event}
use Rattle.pm_world.specs.declared.event.Event.TheVariants.{Deliver, Finish, Exchange, RestartDevice, RestartHost}
use Rattle.pm_world.specs.Honest.{is_whole}
use Rattle.pm_world.specs.Legal.{frame_of}
use Rattle.pm_world.specs.Life.{life, now}
use Rattle.pm_world.specs.Setup.{setup_of}
use Rattle.pm_world.specs.State.{asked}

-- the settings that a converter starts with
abbrev pub start_settings : Config → Settings
start_settings config = record { count = config.count; words = start_words config }

-- a command as a job of the order machine: a store, or a restore, and no other, which changes no setting
abbrev pub command_pending : Command → Option PendingJob
command_pending StoreUserAll = Some pending.Store
command_pending RestoreUserAll = Some pending.Restore
command_pending _ = None

-- the order, store or restore that a job is
abbrev pub pending_of : host.Job → Option PendingJob
pending_of (host.Order cell word) = Some (pending.Order cell word)
pending_of (host.Send command) = command_pending command
pending_of (host.Check cell) = None
pending_of (host.Learn output) = None

-- the order, store or restore that is open after some events
unfoldable pub open_pending : Config → ℕ → List Event → Option PendingJob
open_pending config passes events = option_and_then pending_of
    (host.open_job (setup_of config passes) (life config passes events).entries)

-- what such a job sends, and the code that WRITE_PROTECT allows or not
abbrev pub pending_message : PendingJob → Message
pending_message (pending.Order cell word) = cell_write cell word
pending_message pending.Store = command_message StoreUserAll
pending_message pending.Restore = command_message RestoreUserAll

abbrev pub pending_code : PendingJob → ℕ
pending_code (pending.Order cell word) = cell_code cell
pending_code pending.Store = command_code StoreUserAll
pending_code pending.Restore = command_code RestoreUserAll

-- The job takes at a delivery by which its frame is heard whole, its bytes, ended by a stop, while the
-- words of a converter of this address have a WRITE_PROTECT that allows its code.
abbrev pub takes_frame : ℕ → Words → Arrival → PendingJob → Bool
takes_frame addr words arrival job = is_whole (frame_of addr (pending_message job)) arrival
    && is_allowed (word_at words Protect) (pending_code job)

abbrev pub job_taken_by : ℕ → Words → Arrival → Option PendingJob → Option PendingJob
job_taken_by addr words arrival job =
    option_and_then (λ open_one. if takes_frame addr words arrival open_one then Some open_one else None) job

-- the order, store or restore that takes at an event: the open one, at such a delivery; None at any other
unfoldable pub taken_at : Config → ℕ → List Event → Event → Option PendingJob
taken_at config passes before (Deliver arrival) = job_taken_by config.addr
    (now config passes before).device.words arrival (open_pending config passes before)
taken_at config passes before _ = None

-- a job that is accepted is told as such a one
abbrev pub accepts : Option PendingJob → List Step
accepts None = []
accepts (Some job) = Accept job ∷ []

-- one that takes is told so
abbrev pub takes : Option PendingJob → List Step
takes None = []
takes (Some job) = Take ∷ []

-- one that was open, and isn't any more, is told as its end
abbrev pub ends_between : Option PendingJob → Option PendingJob → List Step
ends_between before after = if is_some before && is_none after then End ∷ [] else []

-- How an event that asks for no job is told: a delivery by which the open order, store or restore takes, as
-- that; its end, and each restart of the host, as its end; each restart of the converter as the stored words'
-- return; and nothing else.
unfoldable pub told_beside : Config → ℕ → List Event → Event → List Step
told_beside config passes before (Deliver arrival) =
    takes (taken_at config passes before (Deliver arrival))
told_beside config passes before (Exchange arrival back) = ends_between
    (open_pending config passes before) (open_pending config passes (Exchange arrival back ∷ before))
told_beside config passes before (Finish acked) = ends_between
    (open_pending config passes before) (open_pending config passes (Finish acked ∷ before))
told_beside config passes before RestartHost = End ∷ []
told_beside config passes before RestartDevice = Back ∷ []
told_beside config passes before _ = []

-- How an event is told: a job that it asks for as the order, store or restore that it is.
unfoldable pub steps_of_event : Config → ℕ → List Event → Event → List Step
steps_of_event config passes before event =
    option_map_or (λ job. accepts (pending_of job)) (asked (now config passes before) event)
    (told_beside config passes before event)

-- The steps that retell the events: each event in its place as it is told. A step that takes stands exactly
-- at each delivery by which the open job takes.
unfoldable pub retold : Config → ℕ → List Event → List Step
retold config passes [] = []
retold config passes (event ∷ before) =
    steps_of_event config passes before event ++ retold config passes before

-- The steps that retell these events are a run of the order machine, which leaves these words, and those in
-- the store; the job that pends there is the open one.
pub record IsOrderRun (config : Config) (passes : ℕ) (events : List Event) (words store : Words) : Type 0 where
  pub run : IsRun (start_settings config) (retold config passes events)
  pub words_are : (machine_of (start_settings config) (retold config passes events)).words ≡ words
  pub store_is : (machine_of (start_settings config) (retold config passes events)).store ≡ store
  pub job_is : (machine_of (start_settings config) (retold config passes events)).pending ≡ open_pending config passes events

-- an order of this word for this very cell is among the events
pub record WasOrdered (config : Config) (passes : ℕ) (events : List Event) (cell : Cell) (word : ℕ) : Type 0 where
  pub later : List Event
  pub event : Event
  pub before : List Event
  pub is : events ≡ later ++ event ∷ before
  pub orders : steps_of_event config passes before event ≡ Accept (pending.Order cell word) ∷ []

-- a cell's start word, or one that was ordered for this very cell
abbrev pub IsOwnWord : Config → ℕ → List Event → Cell → ℕ → Type 0
IsOwnWord config passes events cell word =
    (word ≡ start_word config cell) ⊎ WasOrdered config passes events cell word

-- an output commands a value of its own: that of the word which its own OPERATION selects among its
-- own registers, cut to those of its own VOUT_MIN and VOUT_MAX
pub record CommandsOwn (config : Config) (passes : ℕ) (events : List Event) (output : ℕ) (voltage : Ratio) : Type 0 where
  pub operation : ℕ
  pub selected : ℕ
  pub least : ℕ
  pub most : ℕ
  pub own_operation : IsOwnWord config passes events (Out output Operation) operation
  pub own_selected :
      IsOwnWord config passes events (Out output (selected_register operation)) selected
  pub own_least : IsOwnWord config passes events (Out output VoutMin) least
  pub own_most : IsOwnWord config passes events (Out output VoutMax) most
  pub cut : voltage ≡ limited (value_for config output selected) (value_for config output least)
      (value_for config output most)
