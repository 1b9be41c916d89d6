-- What the laws of this crate say, each by a name that a crate above takes it by.
use Rattle.std.specs.Prelude.{◌≡◌, ℕ, true, false, List, Some}
use Rattle.pm_table.specs.declared.cell.Cell.{Cell}
use Rattle.pm_table.specs.Cell.{IsCell}
use Rattle.pm_model.specs.declared.order_machine.PendingJob.{PendingJob}
use Rattle.pm_model.specs.Settings.{Words, word_at}
use Rattle.pm_host.specs.declared.knowledge.Standing.TheVariants.{Confirmed}
use Rattle.pm_host.specs.Now.{host_now}
use Rattle.pm_host.specs.Possible.{is_possible}
use Rattle.pm_host.specs.Summary.{possible_at, standing_at}
use Rattle.pm_host.specs.Transcript.{Setup, Entry}
use Rattle.pm_part_laws.specs.Late.{Event, IsLate, IsOwn, IsRecent, both_after, restarted_since_late, pending_sent_in, gives_cell_word}

-- Whatever is lost, repeated, falsely acknowledged or taken late, in whatever order, and however often either end restarts: each
-- cell holds, and has stored, a word of its own.
pub record LateWordsAreOwn : Type 0 where
  pub held : (frames : ℕ) (setup : Setup) (held stored : Words) (events : List Event) (cell : Cell) →
      IsLate frames setup held stored events → IsCell setup.outputs cell →
      let both = both_after setup held stored events in
      IsOwn setup held stored both.entries cell (word_at both.words cell)
  pub stored : (frames : ℕ) (setup : Setup) (held stored : Words) (events : List Event) (cell : Cell) →
      IsLate frames setup held stored events → IsCell setup.outputs cell →
      let both = both_after setup held stored events in
      IsOwn setup held stored both.entries cell (word_at both.store cell)

-- the host called this word possible for the cell at such a moment
pub record WasPossible (frames : ℕ) (setup : Setup) (cell : Cell) (word : ℕ) (entries : List Entry) : Type 0 where
  pub moment : List Entry
  pub recent : IsRecent frames setup cell entries moment
  pub possible : is_possible word (possible_at (host_now setup moment) cell) ≡ true

-- The host called the word that a cell holds possible, after its last good answer for the cell or at most so many frames before it, if
-- the part didn't restart since that answer.
abbrev pub LateWordsWerePossible : Type 0
LateWordsWerePossible = (frames : ℕ) (setup : Setup) (held stored : Words) (events : List Event) (cell : Cell) →
    IsLate frames setup held stored events → IsCell setup.outputs cell →
    restarted_since_late setup held stored cell events ≡ false →
    let both = both_after setup held stored events in
    WasPossible frames setup cell (word_at both.words cell) both.entries

-- no write that gives the cell a word was being sent at any such moment
abbrev pub IsQuiet : ℕ → Setup → Cell → List Entry → Type 0
IsQuiet frames setup cell entries = (moment : List Entry) (job : PendingJob) → IsRecent frames setup cell entries moment →
    pending_sent_in setup moment ≡ Some job → gives_cell_word cell job ≡ false

-- A word that the host calls confirmed is held, where the part didn't restart since that answer, and no write that gives the cell a
-- word was being sent since or in so many frames before it.
abbrev pub LateConfirmationsAreHeld : Type 0
LateConfirmationsAreHeld = (frames : ℕ) (setup : Setup) (held stored : Words) (events : List Event) (cell : Cell) (word : ℕ) →
    IsLate frames setup held stored events → IsCell setup.outputs cell →
    restarted_since_late setup held stored cell events ≡ false →
    let both = both_after setup held stored events in
    IsQuiet frames setup cell both.entries → standing_at (host_now setup both.entries) cell ≡ Confirmed word →
    word_at both.words cell ≡ word
