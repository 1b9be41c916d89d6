-- What the laws of this crate say, each by a name that a crate above takes it by. A transcript is
-- newest first.
use Rattle.std.specs.Prelude.{◌≡◌, ◌≢◌, ℕ, ◌*◌, ◌<◌, ◌≤◌, ◌==◌, true, ◌||◌, if◌then◌else◌, List, [], ◌∷◌, Some, is_some}
use Rattle.pm_table.specs.declared.cell.Cell.{Cell}
use Rattle.pm_table.specs.Cell.{cell_accepts, is_output_cell, same_cell, IsCell}
use Rattle.pm_table.specs.Codes as command
use Rattle.pm_frame.specs.declared.message.Message.{Message}
use Rattle.pm_frame.specs.Layout.{fits_layout}
use Rattle.pm_frame.specs.View.{message_code}
use Rattle.pm_table.specs.declared.reg.Reg.{Reg}
use Rattle.pm_table.specs.declared.cell.Cell.TheVariants.{Out}
use Rattle.pm_host.specs.declared.command.Command.TheVariants.{RestoreUserAll}
use Rattle.pm_host.specs.declared.knowledge.Possible.TheVariants.{Any}
use Rattle.pm_host.specs.declared.knowledge.Standing.TheVariants.{Unknown}
use Rattle.pm_host.specs.Ended.{job_in, StepTells}
use Rattle.pm_host.specs.Frames.{CanSend, frames_of}
use Rattle.pm_host.specs.Marks.{Mark, Put, Good, Restored, Restart, marks}
use Rattle.pm_host.specs.Now.{host_now, AreTold}
use Rattle.pm_host.specs.Possible.{possible_of, is_possible, restart_seen_of}
use Rattle.pm_host.specs.Refusals.{IsSetup, is_busy}
use Rattle.pm_host.specs.Sound.{IsSound}
use Rattle.pm_host.specs.Standing.{standing_of}
use Rattle.pm_host.specs.Summary.{Summary, start, host_next, step_of, step_by, sending_in, possible_at, standing_at, format_at}
use Rattle.pm_host.specs.Told.{is_of_frame}
use Rattle.pm_host.specs.Transcript.{Setup, Order, Send, Entry, open_job, last_job_end, sending_of, format_of_output}

-- What a host holds after its transcript, which the definitions find by looking back over the whole
-- of it, is what one entry after another makes of its start.
pub record TranscriptsAreFollowed : Type 0 where
  -- the host holds its start after no entry, and after one more what that entry makes of what it held
  pub none : (setup : Setup) → IsSetup setup → host_now setup [] ≡ start setup
  pub more : (setup : Setup) (entries : List Entry) (entry : Entry) → IsSetup setup
      → AreTold setup (entry ∷ entries) → host_now setup (entry ∷ entries) ≡ host_next (host_now setup entries) entry
  -- what the call that brings an entry answers is how the job stands after it
  pub step : (setup : Setup) (entries : List Entry) (entry : Entry) → IsSetup setup
      → AreTold setup (entry ∷ entries)
      → step_of (host_now setup entries) entry ≡ step_by (last_job_end setup (entry ∷ entries))
  -- no entry changes what a host was made with
  pub kept : (s : Summary) (entry : Entry) → (host_next s entry).setup ≡ s.setup
  -- what the host answers is what the definitions find in the transcript and its marks
  pub busy : (setup : Setup) (entries : List Entry)
      → is_busy (host_now setup entries) ≡ is_some (open_job setup entries)
  pub sending : (setup : Setup) (entries : List Entry)
      → sending_in (host_now setup entries) ≡ sending_of setup entries
  pub format : (setup : Setup) (entries : List Entry) (output : ℕ) → output < 8
      → format_at (host_now setup entries) output ≡ format_of_output setup entries output
  pub standing : (setup : Setup) (entries : List Entry) (cell : Cell) → IsCell 8 cell
      → standing_at (host_now setup entries) cell ≡ standing_of (marks setup entries) cell
  pub possible : (setup : Setup) (entries : List Entry) (cell : Cell) → IsCell 8 cell
      → possible_at (host_now setup entries) cell ≡ possible_of (marks setup entries) cell
  pub seen : (setup : Setup) (entries : List Entry)
      → (host_now setup entries).known.seen ≡ restart_seen_of (marks setup entries)
  -- what holds of each host between two calls holds of it
  pub sound : (setup : Setup) (entries : List Entry) → IsSetup setup → AreTold setup entries
      → IsSound (host_now setup entries)

-- What the end of a job says, of a whole transcript: what the call says that tells a host of a frame, of the job that
-- is open.
pub record EndsAreTold : Type 0 where
  pub job : (setup : Setup) (entries : List Entry) →
      job_in (host_now setup entries) ≡ open_job setup entries
  pub tells : (setup : Setup) (entries : List Entry) (entry : Entry) → IsSetup setup
      → AreTold setup (entry ∷ entries) → is_of_frame entry ≡ true
      → StepTells (host_now setup entries) entry (step_by (last_job_end setup (entry ∷ entries)))
      (host_now setup (entry ∷ entries))

-- no job sends more than twice as many frames as a job has passes
abbrev pub JobsAreBounded : Type 0
JobsAreBounded = (setup : Setup) (entries : List Entry) → IsSetup setup → AreTold setup entries
    → frames_of setup entries ≤ 2 * setup.passes

-- the frames that a host sends
pub record FramesAreNamed : Type 0 where
  -- they are of these kinds and no others
  pub named : (setup : Setup) (entries : List Entry) (message : Message) → IsSetup setup
      → AreTold setup entries → sending_of setup entries ≡ Some message → CanSend setup message
  -- each has its layout
  pub fits : (setup : Setup) (message : Message) → CanSend setup message
      → fits_layout message ≡ true
  -- none means PAGE, by itself or carried
  pub never_page : (setup : Setup) (message : Message) → CanSend setup message
      → message_code message ≢ command.page

-- while an order is open, from its acceptance to its end
pub record OpenOrdersAreUncertain : Type 0 where
  -- its cell exists, and accepts its word
  pub there : (setup : Setup) (entries : List Entry) (cell : Cell) (word : ℕ) → IsSetup setup
      → AreTold setup entries → open_job setup entries ≡ Some (Order cell word)
      → IsCell setup.outputs cell
  pub accepted : (setup : Setup) (entries : List Entry) (cell : Cell) (word : ℕ) → IsSetup setup
      → AreTold setup entries → open_job setup entries ≡ Some (Order cell word)
      → cell_accepts cell word ≡ true
  -- its word is one that the cell may hold
  pub possible : (setup : Setup) (entries : List Entry) (cell : Cell) (word : ℕ) → IsSetup setup
      → AreTold setup entries → open_job setup entries ≡ Some (Order cell word)
      → is_possible word (possible_of (marks setup entries) cell) ≡ true
  -- no word of the cell is confirmed
  pub unknown : (setup : Setup) (entries : List Entry) (cell : Cell) (word : ℕ) → IsSetup setup
      → AreTold setup entries → open_job setup entries ≡ Some (Order cell word)
      → standing_of (marks setup entries) cell ≡ Unknown

-- while a restore is open, from its acceptance to its end
pub record OpenRestoresAreUncertain : Type 0 where
  -- any word is possible for each cell of an output
  pub possible : (setup : Setup) (entries : List Entry) (output : ℕ) (register : Reg)
      → AreTold setup entries → open_job setup entries ≡ Some (Send RestoreUserAll)
      → possible_of (marks setup entries) (Out output register) ≡ Any
  -- no word is confirmed for any cell of an output
  pub unknown : (setup : Setup) (entries : List Entry) (output : ℕ) (register : Reg)
      → AreTold setup entries → open_job setup entries ≡ Some (Send RestoreUserAll)
      → standing_of (marks setup entries) (Out output register) ≡ Unknown

-- Which words are possible for a cell, one mark after another: at first any; after a write that begins its
-- word too; after a good answer its word alone, and for the other cells what was possible, unless the
-- answer wasn't. After a restore any word is possible for an output's cell, after a restart for each.
pub record PossibleWordsAreFollowed : Type 0 where
  pub none : (cell : Cell) (other : ℕ) → is_possible other (possible_of [] cell) ≡ true
  pub put : (before : List Mark) (put cell : Cell) (word other : ℕ)
      → is_possible other (possible_of (Put put word ∷ before) cell)
      ≡ (if same_cell put cell then is_possible other (possible_of before cell) || word == other
      else is_possible other (possible_of before cell))
  pub good : (before : List Mark) (read cell : Cell) (word other : ℕ)
      → is_possible other (possible_of (Good read word ∷ before) cell)
      ≡ (if same_cell read cell then word == other
      else (if is_possible word (possible_of before read) then is_possible other (possible_of before cell)
      else true))
  pub restored : (before : List Mark) (cell : Cell) (other : ℕ)
      → is_possible other (possible_of (Restored ∷ before) cell)
      ≡ (if is_output_cell cell then true else is_possible other (possible_of before cell))
  pub restart : (before : List Mark) (cell : Cell) (other : ℕ)
      → is_possible other (possible_of (Restart ∷ before) cell) ≡ true
