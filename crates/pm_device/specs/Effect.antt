-- What an event makes of the words of the cells, of the store and of PAGE. A refusal and a read change
-- none of them.
use Rattle.std.specs.Prelude.{ℕ, List}
use Rattle.pm_model.specs.Settings.{Words, restart_words, with_word, with_outputs}
use Rattle.pm_device.specs.declared.act.Act.{Act}
use Rattle.pm_device.specs.declared.act.Act.TheVariants.{Put, Select, Store, Restore}
use Rattle.pm_device.specs.declared.config.Config.{Config}
use Rattle.pm_device.specs.declared.converter.Ending.{Ending}
use Rattle.pm_device.specs.declared.verdict.Verdict.{Verdict}
use Rattle.pm_device.specs.declared.verdict.Verdict.TheVariants.{Takes}
use Rattle.pm_device.specs.Held.{Held}
use Rattle.pm_device.specs.Start.{start_words}
use Rattle.pm_device.specs.Verdict.{verdict_of}

-- what happens to a converter: it hears bytes, it starts again, or what it measures changes
pub data Event : Type 0 where
  Hearing : (bytes : List ℕ) (ending : Ending) → Event
  Restarted : Event
  Reading : (output code word : ℕ) → Event

-- what a converter keeps from one event to the next, beside readings and status: the words of the
-- cells, those in the store, and PAGE. The store has the outputs' words, and for WRITE_PROTECT, which
-- isn't stored, its start word.
pub record Kept : Type 0 where
  pub words : Words
  pub store : Words
  pub page : ℕ

abbrev pub kept_in : Held → Kept
kept_in held = record { words = held.words; store = held.store; page = held.page }

-- what an event results in, by what is kept at that moment
pub data Outcome : Type 0 where
  Heard : (verdict : Verdict) → Outcome
  Restarts : Outcome
  Measures : (output code word : ℕ) → Outcome

abbrev pub outcome_of : Config → Kept → Event → Outcome
outcome_of config kept (Hearing bytes ending) =
    Heard (verdict_of config kept.words kept.page bytes ending)
outcome_of config kept Restarted = Restarts
outcome_of config kept (Reading output code word) = Measures output code word

-- what a converter starts with: every cell has its start word, and so has the store; PAGE is 0
abbrev pub started : Config → Kept
started config = record { words = start_words config; store = start_words config; page = 0 }

-- what a restart gives: every cell its word in the store, and PAGE is 0
abbrev pub restarted : Kept → Kept
restarted kept = record kept { words = restart_words kept.store; page = 0 }

-- what is kept after an act
abbrev pub kept_by_act : Kept → Act → Kept
kept_by_act kept (Put cell word) = record kept { words = with_word kept.words cell word }
kept_by_act kept (Select page) = record kept { page = page }
kept_by_act kept Store = record kept { store = with_outputs kept.store kept.words }
kept_by_act kept Restore = record kept { words = with_outputs kept.words kept.store }
kept_by_act kept _ = kept

-- what is kept after what an event came to
abbrev pub kept_by : Kept → Outcome → Kept
kept_by kept (Heard (Takes act)) = kept_by_act kept act
kept_by kept Restarts = restarted kept
kept_by kept _ = kept

-- what an event results in at a converter that holds this, and what it keeps after it
abbrev pub outcome_in : Held → Event → Outcome
outcome_in held event = outcome_of held.config (kept_in held) event

abbrev pub kept_after : Held → Event → Kept
kept_after held event = kept_by (kept_in held) (outcome_in held event)

-- the words, the store and PAGE after an event
abbrev pub words_after : Held → Event → Words
words_after held event = (kept_after held event).words

abbrev pub store_after : Held → Event → Words
store_after held event = (kept_after held event).store

abbrev pub page_after : Held → Event → ℕ
page_after held event = (kept_after held event).page
