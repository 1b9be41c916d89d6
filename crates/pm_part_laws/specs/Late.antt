-- A host, and a part that takes a write late: this project's own choice. The part keeps what it heard in a queue of its own, and
-- takes each write while at most some frames more end. Lists are newest first.
use Rattle.std.specs.Prelude.{◌≡◌, ◌+◌, ◌<◌, ◌≤◌, ℕ, zero, suc, Bool, true, false, if◌then◌else◌, List, [], ◌∷◌, ◌++◌, Option, Some, None}
use Rattle.std.specs.Prelude.{option_map, option_to_list}
use Rattle.std.specs.List.{list_any}
use Rattle.pm_table.specs.declared.cell.Cell.{Cell}
use Rattle.pm_table.specs.Cell.{is_output_cell, same_cell}
use Rattle.pm_model.specs.declared.order_machine.PendingJob.{PendingJob}
use Rattle.pm_model.specs.declared.order_machine.PendingJob.TheVariants as pending
use Rattle.pm_model.specs.OrderMachine.{store_taken, words_taken}
use Rattle.pm_model.specs.Settings.{Words, AreWords, restart_words, word_at}
use Rattle.pm_host.specs.declared.command.Command.{Command}
use Rattle.pm_host.specs.declared.command.Command.TheVariants.{StoreUserAll, RestoreUserAll}
use Rattle.pm_host.specs.Answers.{good_word}
use Rattle.pm_host.specs.Marks.{Mark, Put, Good, Restored, Restart, goods, read_by}
use Rattle.pm_host.specs.Now.{host_now}
use Rattle.pm_host.specs.Refusals.{IsSetup, may_come}
use Rattle.pm_host.specs.Told.{is_of_frame}
use Rattle.pm_host.specs.Transcript.{Setup, Job, Order, Send, Entry, Got, open_job, told_since}
use Rattle.pm_host.specs.Transcript.{is_write_turn}
use Rattle.pm_world.specs.Confirmed.{is_good_for}

-- a write that the part heard and hasn't taken, and how many frames have ended since it was heard, its own among them
pub record Waiting : Type 0 where
  pub job : PendingJob
  pub frames : ℕ

-- what the part holds, what it has stored and what waits in its queue; and what the host was told
pub record Both : Type 0 where
  pub words : Words
  pub store : Words
  pub waiting : List Waiting
  pub entries : List Entry

pub data Event : Type 0 where
  -- the part hears whole the write that the host is sending
  Hears : Event
  -- it takes the write at this place of its queue
  Takes : (place : ℕ) → Event
  -- it restarts: each register has its stored word, and the queue is empty
  Restarts : Event
  -- the host accepts a job, is told what became of a frame, or restarts
  Tells : (entry : Entry) → Event

-- the order, store or restore whose write the host is sending; None for other writes, for a request and where no job is open
abbrev pub sent_command : Command → Option PendingJob
sent_command StoreUserAll = Some pending.Store
sent_command RestoreUserAll = Some pending.Restore
sent_command _ = None

abbrev pub pending_sent_by : Option Job → List Entry → Option PendingJob
pending_sent_by (Some (Order cell word)) told = if is_write_turn told then Some (pending.Order cell word) else None
pending_sent_by (Some (Send command)) told = sent_command command
pending_sent_by job told = None

abbrev pub pending_sent_in : Setup → List Entry → Option PendingJob
pending_sent_in setup entries = pending_sent_by (open_job setup entries) (told_since entries)

-- the write at a place of the queue, and the queue without it
abbrev pub waiting_at : ℕ → List Waiting → Option PendingJob
waiting_at place [] = None
waiting_at zero (waits ∷ rest) = Some waits.job
waiting_at (suc place) (waits ∷ rest) = waiting_at place rest

abbrev pub waiting_without : ℕ → List Waiting → List Waiting
waiting_without place [] = []
waiting_without zero (waits ∷ rest) = rest
waiting_without (suc place) (waits ∷ rest) = waits ∷ waiting_without place rest

-- the queue once a frame has ended
abbrev pub all_longer : List Waiting → List Waiting
all_longer [] = []
all_longer (waits ∷ rest) = record { job = waits.job; frames = waits.frames + 1 } ∷ all_longer rest

-- each write of the queue may wait for one frame more
abbrev pub MayWait : ℕ → List Waiting → Type 0
MayWait frames [] = Unit {0}
MayWait frames (waits ∷ rest) = (waits.frames < frames) × MayWait frames rest

-- what both hold as the host begins, and after one event
abbrev pub both_begun : Words → Words → Both
both_begun held stored = record { words = held; store = stored; waiting = []; entries = [] }

abbrev pub both_after_event : Setup → Both → Event → Both
both_after_event setup both Hears = record both {
  waiting = option_to_list (option_map (λ job. record { job = job; frames = 0 }) (pending_sent_in setup both.entries)) ++ both.waiting;
}
both_after_event setup both (Takes place) = record both {
  words = words_taken both.words both.store (waiting_at place both.waiting);
  store = store_taken both.words both.store (waiting_at place both.waiting);
  waiting = waiting_without place both.waiting;
}
both_after_event setup both Restarts = record both { words = restart_words both.store; waiting = [] }
both_after_event setup both (Tells entry) = record both {
  waiting = if is_of_frame entry then all_longer both.waiting else both.waiting;
  entries = entry ∷ both.entries;
}

-- what both hold after some events
abbrev pub both_after : Setup → Words → Words → List Event → Both
both_after setup held stored [] = both_begun held stored
both_after setup held stored (event ∷ before) = both_after_event setup (both_after setup held stored before) event

-- a good answer has the word that the register then holds
abbrev pub IsTrueAnswer : Setup → Both → Entry → Type 0
IsTrueAnswer setup both (Got bytes) = (cell : Cell) (word : ℕ) →
    read_by (open_job setup both.entries) (told_since both.entries) ≡ Some cell →
    good_word setup.addr cell bytes ≡ Some word → word_at both.words cell ≡ word
IsTrueAnswer setup both entry = Unit {0}

-- What the host is told is what might come then, a good answer is true, and each write that waits still has a frame to wait.
pub record MayTell (frames : ℕ) (setup : Setup) (both : Both) (entry : Entry) : Type 0 where
  pub comes : may_come (host_now setup both.entries) entry ≡ true
  pub true_answer : IsTrueAnswer setup both entry
  pub waits : is_of_frame entry ≡ true → MayWait frames both.waiting

abbrev pub MayCome : ℕ → Setup → Both → Event → Type 0
MayCome frames setup both (Tells entry) = MayTell frames setup both entry
MayCome frames setup both event = Unit {0}

abbrev pub MayComeEach : ℕ → Setup → Words → Words → List Event → Type 0
MayComeEach frames setup held stored [] = Unit {0}
MayComeEach frames setup held stored (event ∷ before) =
    MayCome frames setup (both_after setup held stored before) event × MayComeEach frames setup held stored before

-- The life of a new host beside a part that held and had stored these words, heard nothing that it hadn't taken, and takes what it
-- hears while at most this many frames end. Nobody else writes.
pub record IsLate (frames : ℕ) (setup : Setup) (held stored : Words) (events : List Event) : Type 0 where
  pub made : IsSetup setup
  pub holds : AreWords held
  pub stores : AreWords stored
  pub came : MayComeEach frames setup held stored events

-- what the host was told after these entries is a good answer for the cell
abbrev pub answers_late : Setup → List Entry → Cell → Entry → Bool
answers_late setup before cell (Got bytes) = list_any (is_good_for cell) (goods setup before bytes)
answers_late setup before cell entry = false

-- the part restarted since the host's last good answer for the cell; where there was none, it restarted at all
abbrev pub restarted_by : Setup → Both → Cell → Event → Bool → Bool
restarted_by setup both cell Hears restarted = restarted
restarted_by setup both cell (Takes place) restarted = restarted
restarted_by setup both cell Restarts restarted = true
restarted_by setup both cell (Tells entry) restarted = if answers_late setup both.entries cell entry then false else restarted

abbrev pub restarted_since_late : Setup → Words → Words → Cell → List Event → Bool
restarted_since_late setup held stored cell [] = false
restarted_since_late setup held stored cell (event ∷ before) = restarted_by setup (both_after setup held stored before) cell event
    (restarted_since_late setup held stored cell before)

-- how many frames the entries have
abbrev pub frames_in : List Entry → ℕ
frames_in [] = 0
frames_in (entry ∷ before) = if is_of_frame entry then frames_in before + 1 else frames_in before

-- How many frames ended from a moment to the last good answer for the cell that came since, that answer's own among them; 0 where
-- none came.
abbrev pub frames_to_answer : Setup → Cell → List Entry → List Entry → ℕ
frames_to_answer setup cell [] moment = 0
frames_to_answer setup cell (entry ∷ since) moment =
    if answers_late setup (since ++ moment) cell entry then frames_in (entry ∷ since) else frames_to_answer setup cell since moment

-- The moment came after the last good answer for the cell, or at most so many frames before it.
pub record IsRecent (frames : ℕ) (setup : Setup) (cell : Cell) (entries moment : List Entry) : Type 0 where
  pub since : List Entry
  pub is : entries ≡ since ++ moment
  pub few : frames_to_answer setup cell since moment ≤ frames

-- a write that gives the cell a word
abbrev pub gives_cell_word : Cell → PendingJob → Bool
gives_cell_word cell (pending.Order other word) = same_cell other cell
gives_cell_word cell pending.Store = false
gives_cell_word cell pending.Restore = is_output_cell cell

-- a word that the cell held or had stored as the host began, or an order of which was sent for this very cell
pub data IsOwn (setup : Setup) (held stored : Words) (entries : List Entry) (cell : Cell) (word : ℕ) : Type 0 where
  was_held : word ≡ word_at held cell → IsOwn setup held stored entries cell word
  was_stored : word ≡ word_at stored cell → IsOwn setup held stored entries cell word
  was_sent : (since moment : List Entry) → entries ≡ since ++ moment → pending_sent_in setup moment ≡ Some (pending.Order cell word) →
      IsOwn setup held stored entries cell word
