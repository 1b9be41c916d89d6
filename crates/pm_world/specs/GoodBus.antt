-- What a bus comes to that is good again, whatever went before: frames that nothing disturbs, and what each of them
-- makes of an open job. This project's own choice. Lists are newest first.
use Rattle.std.specs.Prelude.{◌≡◌, ◌≢◌, ◌⊎◌, ◌+◌, ◌<◌, ℕ, Bool, true, false, not, ◌&&◌, ◌||◌, bytes_eq, if◌then◌else◌, List, [], ◌∷◌, ◌++◌}
use Rattle.std.specs.Prelude.{Option, Some, Ok}
use Rattle.std.specs.List.{list_all, list_any}
use Rattle.pm_table.specs.declared.cell.Cell.{Cell}
use Rattle.pm_table.specs.declared.cell.Cell.TheVariants.{Protect}
use Rattle.pm_table.specs.Cell.{IsCell, cell_code, same_cell}
use Rattle.pm_table.specs.Protection.{is_allowed}
use Rattle.pm_table.specs.declared.vout_mode.VoutMode.TheVariants.{Direct}
use Rattle.pm_table.specs.VoutMode.{mode_of}
use Rattle.pm_frame.specs.declared.message.Message.{Message}
use Rattle.pm_model.specs.Settings.{word_at}
use Rattle.pm_device.specs.declared.config.Config.{Config}
use Rattle.pm_device.specs.Held.{mode_for, shape_for}
use Rattle.pm_host.specs.declared.command.Command.{Command}
use Rattle.pm_host.specs.declared.job.JobEnd.TheVariants.{Done, Differs, Learned, Unknown}
use Rattle.pm_host.specs.declared.knowledge.Possible.TheVariants.{Any}
use Rattle.pm_host.specs.declared.question.Question.TheVariants.{Word, Mode, Coefficients}
use Rattle.pm_host.specs.declared.stage.Stage.{Stage}
use Rattle.pm_host.specs.declared.stage.Stage.TheVariants.{Asks, Reads, Sends, Writes}
use Rattle.pm_host.specs.declared.knowledge.Standing.TheVariants.{Confirmed}
use Rattle.pm_host.specs.Answers.{good_word}
use Rattle.pm_host.specs.Messages.{cell_read, cell_write, coefficients_read, command_message, mode_read}
use Rattle.pm_host.specs.Possible.{is_possible, only}
use Rattle.pm_host.specs.Summary.{format_at, possible_at, standing_at}
use Rattle.pm_host.specs.Transcript.{Finished, Got}
use Rattle.pm_world.specs.declared.event.Arrival.{Arrival}
use Rattle.pm_world.specs.declared.event.Back.{Back}
use Rattle.pm_world.specs.declared.event.Event.{Event}
use Rattle.pm_world.specs.declared.event.Event.TheVariants.{Check, Deliver, Exchange, Finish, Reading}
use Rattle.pm_world.specs.Honest.{IsSpelled, is_whole}
use Rattle.pm_world.specs.Legal.{back_bytes, frame_of, heard_bytes, heard_ending, is_heard_whole}
use Rattle.pm_world.specs.Lived.{IsLived}
use Rattle.pm_world.specs.Life.{life, now}
use Rattle.pm_world.specs.State.{State, answer_to}

-- a reading of the converter changes, which disturbs nothing; beside it what is sent may be delivered
abbrev pub is_reading_change : Event → Bool
is_reading_change (Reading output code word) = true
is_reading_change _ = false

abbrev pub is_beside : Event → Bool
is_beside (Deliver arrival) = true
is_beside event = is_reading_change event

-- a delivery by which the write of this frame is heard whole
abbrev pub delivers_whole : List ℕ → Event → Bool
delivers_whole frame (Deliver arrival) = is_whole frame arrival
delivers_whole frame _ = false

-- an exchange that nothing disturbs: the request's own bytes are heard, ended by a repeated start, and the
-- converter's answer to them comes back
abbrev pub comes_whole : State → Message → Arrival → Back → Bool
comes_whole s request arrival back =
    let frame = frame_of s.host.setup.addr request in
    let answer = answer_to s.device s.host.setup.addr request arrival in
    is_heard_whole frame (heard_bytes frame arrival) (heard_ending request arrival)
    && bytes_eq (back_bytes answer back) answer

-- After the events before, the write of this frame was heard whole at least once, whatever else was delivered, and
-- is over, acknowledged or not. Readings changed in between, and nothing else happened.
pub record IsWritten (frame : List ℕ) (acked : Bool) (before events : List Event) : Type 0 where
  pub between : List Event
  pub is : events ≡ Finish acked ∷ between ++ before
  pub beside : list_all is_beside between ≡ true
  pub whole : list_any (delivers_whole frame) between ≡ true

-- After the events before, the exchange of this request came whole. Readings changed in between, and nothing else.
pub record IsRead (config : Config) (passes : ℕ) (request : Message) (before events : List Event) : Type 0 where
  pub arrival : Arrival
  pub back : Back
  pub readings : List Event
  pub is : events ≡ Exchange arrival back ∷ readings ++ before
  pub beside : list_all is_reading_change readings ≡ true
  pub whole : comes_whole (now config passes (readings ++ before)) request arrival back ≡ true

-- the stage of the open job, and what the converter holds in a cell
abbrev pub stage_after : Config → ℕ → List Event → Option Stage
stage_after config passes events = (now config passes events).host.stage

abbrev pub word_held_after : Config → ℕ → List Event → Cell → ℕ
word_held_after config passes events cell = word_at (now config passes events).device.words cell

-- the word that the converter holds in a cell isn't one that the host thinks possible
abbrev pub is_surprising : Config → ℕ → List Event → Cell → Bool
is_surprising config passes events cell = not
    (is_possible (word_held_after config passes events cell) (possible_at (now config passes events).host cell))

-- A cell was read: the host had one good answer, whose word the converter holds, and holds it confirmed and alone
-- possible. Where it wasn't possible before, the host says that it saw a restart, and any word is possible for each
-- other cell; otherwise each has the words that it had. The converter's words stay.
pub record WasRead (config : Config) (passes : ℕ) (cell : Cell) (before after : List Event) : Type 0 where
  pub answer : List ℕ
  pub good : good_word config.addr cell answer ≡ Some (word_held_after config passes after cell)
  pub one_frame : (life config passes after).entries ≡ Got answer ∷ (life config passes before).entries
  pub confirmed : standing_at (now config passes after).host cell ≡ Confirmed (word_held_after config passes after cell)
  pub alone : possible_at (now config passes after).host cell ≡ only (word_held_after config passes after cell)
  pub others : (other : Cell) → IsCell 8 other → same_cell cell other ≡ false →
      possible_at (now config passes after).host other
      ≡ (if is_surprising config passes before cell then Any else possible_at (now config passes before).host other)
  pub seen : (now config passes after).host.known.seen
      ≡ (is_surprising config passes before cell || (now config passes before).host.known.seen)
  pub kept : (now config passes after).device.words ≡ (now config passes before).device.words

-- it was read, and the job is done
pub record ReadDone (config : Config) (passes : ℕ) (cell : Cell) (before after : List Event) : Type 0 where
  pub read : WasRead config passes cell before after
  pub done : (now config passes after).end ≡ Some Done

-- An order went through in this pass: its write and one read were sent, whose answer had the word; its job is done,
-- the cell's word is confirmed and alone possible, and the converter holds it.
pub record WentInPass (config : Config) (passes : ℕ) (cell : Cell) (word : ℕ) (acked : Bool) (before after : List Event) : Type 0 where
  pub answer : List ℕ
  pub good : good_word config.addr cell answer ≡ Some word
  pub two_frames : (life config passes after).entries
      ≡ Got answer ∷ Finished acked ∷ (life config passes before).entries
  pub done : (now config passes after).end ≡ Some Done
  pub confirmed : standing_at (now config passes after).host cell ≡ Confirmed word
  pub alone : possible_at (now config passes after).host cell ≡ only word
  pub held : word_held_after config passes after cell ≡ word

-- a learn of an output ended Learned, and the host holds the converter's format
pub record WasLearned (config : Config) (passes : ℕ) (output : ℕ) (after : List Event) : Type 0 where
  pub learned : (now config passes after).end ≡ Some Learned
  pub format : format_at (now config passes after).host output ≡ Some (shape_for config output)

-- a cell was asked for and read by an exchange that nothing disturbs; readings may have changed before
pub record Checks (config : Config) (passes : ℕ) (cell : Cell) (before after : List Event) : Type 0 where
  pub readings : List Event
  pub beside : list_all is_reading_change readings ≡ true
  pub read : IsRead config passes (cell_read cell) (Check cell ∷ readings ++ before) after

-- each of the cells was asked for and read as `Checks` says, one after another, in this order
abbrev pub Sweeps : Config → ℕ → List Cell → List Event → List Event → Type 0
Sweeps config passes [] before after = after ≡ before
Sweeps config passes (cell ∷ cells) before after = (middle : List Event)
    × Checks config passes cell before middle × Sweeps config passes cells middle after

-- a cell is one of these; and each of these is there
abbrev pub is_among : Cell → List Cell → Bool
is_among cell cells = list_any (λ one. same_cell one cell) cells

abbrev pub AreThere : ℕ → List Cell → Type 0
AreThere count cells = (cell : Cell) → is_among cell cells ≡ true → IsCell count cell

-- The write of an order came whole, in this pass: the host had its end and reads the cell next. Where WRITE_PROTECT
-- allows the code, the converter holds the word, and otherwise all words that it held.
pub record WasWritten (config : Config) (passes : ℕ) (cell : Cell) (word pass : ℕ) (acked : Bool) (before after : List Event) : Type 0 where
  pub stage : stage_after config passes after ≡ Some (Reads cell word pass)
  pub one_frame : (life config passes after).entries ≡ Finished acked ∷ (life config passes before).entries
  pub taken : is_allowed (word_held_after config passes before Protect) (cell_code cell) ≡ true →
      word_held_after config passes after cell ≡ word
  pub kept : is_allowed (word_held_after config passes before Protect) (cell_code cell) ≡ false →
      (now config passes after).device.words ≡ (now config passes before).device.words

-- A cell was read back that holds another word than the order's: the host had one good answer, whose word the converter
-- holds, and writes again in the next pass. The converter's words stay.
pub record WritesAgain (config : Config) (passes : ℕ) (cell : Cell) (word pass : ℕ) (before after : List Event) : Type 0 where
  pub answer : List ℕ
  pub good : good_word config.addr cell answer ≡ Some (word_held_after config passes before cell)
  pub one_frame : (life config passes after).entries ≡ Got answer ∷ (life config passes before).entries
  pub stage : stage_after config passes after ≡ Some (Writes cell word (pass + 1))
  pub kept : (now config passes after).device.words ≡ (now config passes before).device.words

-- What frames that nothing disturbs make of an open job among these events, whatever went before. Each clause has
-- the events before such frames and after them.
pub record GoodFrames (config : Config) (passes : ℕ) (events : List Event) : Type 0 where
  -- a check is done by one read
  pub check : (later before after : List Event) (cell : Cell) (tries : ℕ) → events ≡ later ++ after →
      stage_after config passes before ≡ Some (Asks (Word cell) tries) →
      IsRead config passes (cell_read cell) before after → ReadDone config passes cell before after
  -- an order that WRITE_PROTECT allows is done by the write and the read of one pass, whichever it is
  pub order : (later before middle after : List Event) (cell : Cell) (word pass : ℕ) (acked : Bool) →
      events ≡ later ++ after → stage_after config passes before ≡ Some (Writes cell word pass) →
      is_allowed (word_held_after config passes before Protect) (cell_code cell) ≡ true →
      IsWritten (frame_of config.addr (cell_write cell word)) acked before middle →
      IsRead config passes (cell_read cell) middle after → WentInPass config passes cell word acked before after
  -- an order that is to be read back, and whose word the converter holds, is done by that read
  pub read_back : (later before after : List Event) (cell : Cell) (word pass : ℕ) → events ≡ later ++ after →
      stage_after config passes before ≡ Some (Reads cell word pass) →
      word_held_after config passes before cell ≡ word →
      IsRead config passes (cell_read cell) before after → ReadDone config passes cell before after
  -- The write of an order that comes whole is followed by a read of its cell, in each pass, acknowledged or not: the
  -- converter holds the word exactly where WRITE_PROTECT allows it.
  pub write : (later before after : List Event) (cell : Cell) (word pass : ℕ) (acked : Bool) →
      events ≡ later ++ after → stage_after config passes before ≡ Some (Writes cell word pass) →
      IsWritten (frame_of config.addr (cell_write cell word)) acked before after →
      WasWritten config passes cell word pass acked before after
  -- an order that is to be read back, and whose word the converter doesn't hold, is written again where a pass is left
  pub again : (later before after : List Event) (cell : Cell) (word pass : ℕ) → events ≡ later ++ after →
      stage_after config passes before ≡ Some (Reads cell word pass) →
      word_held_after config passes before cell ≢ word → pass + 1 < passes →
      IsRead config passes (cell_read cell) before after → WritesAgain config passes cell word pass before after
  -- such an order is done by three frames where WRITE_PROTECT allows it: by that read, and by the write and the read of
  -- the next pass
  pub three : (later before first middle after : List Event) (cell : Cell) (word pass : ℕ) (acked : Bool) →
      events ≡ later ++ after → stage_after config passes before ≡ Some (Reads cell word pass) →
      word_held_after config passes before cell ≢ word → pass + 1 < passes →
      is_allowed (word_held_after config passes before Protect) (cell_code cell) ≡ true →
      IsRead config passes (cell_read cell) before first →
      IsWritten (frame_of config.addr (cell_write cell word)) acked first middle →
      IsRead config passes (cell_read cell) middle after →
      WentInPass config passes cell word acked first after
      × ((answer : List ℕ) × ((life config passes first).entries ≡ Got answer ∷ (life config passes before).entries))
  -- in the last pass it differs by that read, with the word that the converter holds
  pub last : (later before after : List Event) (cell : Cell) (word pass : ℕ) → events ≡ later ++ after →
      stage_after config passes before ≡ Some (Reads cell word pass) →
      word_held_after config passes before cell ≢ word → pass + 1 ≡ passes →
      IsRead config passes (cell_read cell) before after →
      WasRead config passes cell before after
      × ((now config passes after).end ≡ Some (Differs (word_held_after config passes before cell)))
  -- a clear, a store or a restore is done by one write that is acknowledged
  pub send : (later before after : List Event) (command : Command) (tries : ℕ) → events ≡ later ++ after →
      stage_after config passes before ≡ Some (Sends command tries) →
      IsWritten (frame_of config.addr (command_message command)) true before after →
      ((now config passes after).end ≡ Some Done)
      × ((life config passes after).entries ≡ Finished true ∷ (life config passes before).entries)
  -- a command whose write isn't acknowledged is sent again, and in the last try it is unknown whether it was carried out
  pub resend : (later before after : List Event) (command : Command) (tries : ℕ) → events ≡ later ++ after →
      stage_after config passes before ≡ Some (Sends command tries) → tries + 1 < passes →
      IsWritten (frame_of config.addr (command_message command)) false before after →
      (stage_after config passes after ≡ Some (Sends command (tries + 1)))
      × ((life config passes after).entries ≡ Finished false ∷ (life config passes before).entries)
  pub unacked : (later before after : List Event) (command : Command) (tries : ℕ) → events ≡ later ++ after →
      stage_after config passes before ≡ Some (Sends command tries) → tries + 1 ≡ passes →
      IsWritten (frame_of config.addr (command_message command)) false before after →
      ((now config passes after).end ≡ Some Unknown)
      × ((life config passes after).entries ≡ Finished false ∷ (life config passes before).entries)
  -- a learn ends Learned by one read of VOUT_MODE, or where that is DIRECT by it and one of the coefficients
  pub mode : (later before after : List Event) (output tries : ℕ) → events ≡ later ++ after →
      IsSpelled config → stage_after config passes before ≡ Some (Asks (Mode output) tries) →
      IsRead config passes (mode_read output) before after →
      ((mode_of (mode_for config output) ≢ Ok Direct) × WasLearned config passes output after)
      ⊎ ((mode_of (mode_for config output) ≡ Ok Direct)
      × (stage_after config passes after ≡ Some (Asks (Coefficients output) 0)))
  pub coefficients : (later before after : List Event) (output tries : ℕ) → events ≡ later ++ after →
      IsSpelled config → stage_after config passes before ≡ Some (Asks (Coefficients output) tries) →
      IsRead config passes coefficients_read before after → WasLearned config passes output after
  -- After 2n - 1 checks of n cells, all of them and then all but the last once more, each of them has the converter's
  -- word alone possible.
  pub sweep : (later before after : List Event) (cells : List Cell) (last : Cell) → events ≡ later ++ after →
      AreThere config.count (last ∷ cells) → Sweeps config passes (cells ++ last ∷ cells) before after →
      (cell : Cell) → is_among cell (last ∷ cells) ≡ true →
      possible_at (now config passes after).host cell ≡ only (word_held_after config passes after cell)
  -- Checks of cells show a restart where the word of one of them wasn't possible.
  pub shown : (later before after : List Event) (cells : List Cell) (cell : Cell) → events ≡ later ++ after →
      AreThere config.count cells → Sweeps config passes cells before after → is_among cell cells ≡ true →
      is_surprising config passes before cell ≡ true → (now config passes after).host.known.seen ≡ true

-- in each life
abbrev pub GoodFramesEndJobs : Type 0
GoodFramesEndJobs = (config : Config) (passes : ℕ) (events : List Event) →
    IsLived config passes events → GoodFrames config passes events
