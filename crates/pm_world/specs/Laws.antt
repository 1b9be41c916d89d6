-- The laws of a world, over the definitions alone. Events are newest first.
use Rattle.std.specs.Prelude.{◌≡◌, ◌↔◌, ◌<◌, ◌≤◌, ◌+◌, ◌*◌, ℕ, Bool, true, false, List, [], ◌∷◌, ◌++◌, Some, None, length}
use Rattle.std.specs.List.{list_any}
use Rattle.pm_table.specs.declared.cell.Cell.{Cell}
use Rattle.pm_table.specs.declared.cell.Cell.TheVariants.{Protect}
use Rattle.pm_table.specs.Cell.{IsCell}
use Rattle.pm_frame.specs.declared.message.Message.{Message}
use Rattle.pm_frame.specs.Damage.{DifferWithinEight}
use Rattle.pm_frame.specs.Fault.{whole_answer}
use Rattle.pm_frame.specs.Layout.{AreBytes, IsWrite, IsRequest, IsAnswer}
use Rattle.pm_model.specs.Commanded.{commanded}
use Rattle.pm_model.specs.Settings.{word_at}
use Rattle.pm_device.specs.declared.config.Config.{Config}
use Rattle.pm_device.specs.declared.converter.Ending.{Ending}
use Rattle.pm_device.specs.declared.converter.Ending.TheVariants.{Restart}
use Rattle.pm_device.specs.Held.{Held, value_for}
use Rattle.pm_device.specs.Reply.{reply_of}
use Rattle.pm_device.specs.Start.{IsSound, start_word}
use Rattle.pm_host.specs.Marks.{Mark, marks}
use Rattle.pm_host.specs.Now.{AreTold}
use Rattle.pm_host.specs.Refusals.{IsSetup}
use Rattle.pm_host.specs.Summary.{possible_at}
use Rattle.pm_host.specs.Transcript.{Order}
use Rattle.pm_world.specs.declared.event.Arrival.{Arrival}
use Rattle.pm_world.specs.declared.event.Event.{Event}
use Rattle.pm_world.specs.Confirmed.{ConfirmedIsHeld, restarted_since, restarts_converter}
use Rattle.pm_world.specs.Damage.{AreOthers, IsBetrayedDamage}
use Rattle.pm_world.specs.Ended.{DiffersNeverTook}
use Rattle.pm_world.specs.Honest.{AreFewFrames, FormatsAgree, IsSpelled, MicrosAreNearest, OrdersGoThrough, honest, sent_by}
use Rattle.pm_world.specs.Legal.{answer_in, is_legal_hearing, is_legal_return}
use Rattle.pm_world.specs.Lived.{IsLived}
use Rattle.pm_world.specs.Life.{AreTaken, AreTakenFrom, after_all, life, now}
use Rattle.pm_world.specs.OpenLists.{are_open, stays_open}
use Rattle.pm_world.specs.Possible.{PossibleIsHeld, SeenIsTrue, restarted_since_host}
use Rattle.pm_world.specs.Retelling.{CommandsOwn, IsOrderRun, IsOwnWord}
use Rattle.pm_world.specs.Setup.{setup_of, world_start}
use Rattle.pm_world.specs.State.{HasWord, IsTaken, State, asked, event_cause, event_limit, next}
use Rattle.pm_world.specs.Uncertainty.{AreLegal, AreOfBytes, AreOpen, ArePossible, AreWordsChosen, Choice, Leaves, due_before}
use Rattle.pm_world.specs.Uncertainty.{since_restart, witness_events, witness_start}

-- Whether an event is taken, its cause alone decides, in any state. An order in microvolts that nothing is against has
-- a word: a format has a nearest word for each number (`word`). So an event is taken exactly where there is room and
-- nothing else is against it (`taken`), and events are legal exactly where nothing else is against any of them
-- (`legal`).
pub record CausesDecide : Type 0 where
  pub word : (s : State) (event : Event) → event_cause s event ≡ None → HasWord s event
  pub taken : (s : State) (event : Event) →
      IsTaken s event ↔ (s.taken < event_limit) × (event_cause s event ≡ None)
  pub legal : (config : Config) (passes : ℕ) (events : List Event) → AreLegal config passes events ↔
      ((later before : List Event) (event : Event) → events ≡ later ++ event ∷ before →
      event_cause (now config passes before) event ≡ None)

-- What a world holds after its life is what one event after another makes of its start: of no event, and of
-- one more. What the host was told is a transcript that might come. Events that are taken one after another
-- from the start are the life's.
pub record LivesAreFollowed : Type 0 where
  pub none : (config : Config) (passes : ℕ) → IsSetup (setup_of config passes) →
      now config passes [] ≡ world_start config passes
  pub more : (config : Config) (passes : ℕ) (events : List Event) (event : Event) →
      IsLived config passes (event ∷ events) →
      now config passes (event ∷ events) ≡ next (now config passes events) event
  pub told : (config : Config) (passes : ℕ) (events : List Event) →
      IsLived config passes events →
      AreTold (setup_of config passes) (life config passes events).entries
  pub from_start : (config : Config) (passes : ℕ) (events : List Event) →
      IsSound config → IsSetup (setup_of config passes) → AreTakenFrom (world_start config passes) events →
      AreTaken config passes events × (now config passes events ≡ after_all (world_start config passes) events)

-- The converter's words, and those in its store, are those of a run of the order machine that retells the
-- events. Each cell has its start word, or that of an order for this very cell, and so it has in the store;
-- and each output commands a value of its own.
pub record LivesAreOrders : Type 0 where
  pub orders : (config : Config) (passes : ℕ) (events : List Event) →
      IsLived config passes events →
      IsOrderRun config passes events (now config passes events).device.words
      (now config passes events).device.store
  pub own : (config : Config) (passes : ℕ) (events : List Event) (cell : Cell) →
      IsLived config passes events →
      IsCell config.count cell →
      IsOwnWord config passes events cell (word_at (now config passes events).device.words cell)
  pub stored : (config : Config) (passes : ℕ) (events : List Event) (cell : Cell) →
      IsLived config passes events →
      IsCell config.count cell →
      IsOwnWord config passes events cell (word_at (now config passes events).device.store cell)
  pub commanded : (config : Config) (passes : ℕ) (events : List Event) (output : ℕ) →
      IsLived config passes events →
      output < config.count → CommandsOwn config passes events output
      (commanded (value_for (now config passes events).device.config output)
      (now config passes events).device.words output)

-- after each of the events, the last job has sent at most twice as many frames as a job has passes
abbrev pub FramesAreFew : Type 0
FramesAreFew = (config : Config) (passes : ℕ) (events : List Event) →
    IsLived config passes events →
    AreFewFrames config passes events

-- An undisturbed order goes through. Once its deliveries were taken, so are the end of its write and its
-- read, where the world has room for two more events.
pub record HonestOrdersGoThrough : Type 0 where
  pub taken : (config : Config) (passes : ℕ) (before : List Event) (order : Event) (cell : Cell) (word : ℕ)
      (arrivals : List Arrival) (acked : Bool) →
      IsSound config → IsSetup (setup_of config passes) →
      AreTaken config passes (sent_by order arrivals before) →
      asked (now config passes before) order ≡ Some (Order cell word) →
      length (sent_by order arrivals before) + 2 ≤ event_limit →
      AreTaken config passes (honest order arrivals acked before)
  pub through : (config : Config) (passes : ℕ) (events : List Event) →
      IsLived config passes events →
      OrdersGoThrough config passes events

-- A format that the host holds is the converter's, and an order in microvolts is that of the nearest word.
pub record LearnedFormatsAreTrue : Type 0 where
  pub agree : (config : Config) (passes : ℕ) (events : List Event) →
      IsSpelled config → IsLived config passes events →
      FormatsAgree config passes events
  pub nearest : (config : Config) (passes : ℕ) (events : List Event) →
      IsSpelled config → IsLived config passes events →
      MicrosAreNearest config passes events

-- A word that the host calls confirmed is the converter's, unless that restarted since the host read the cell.
abbrev pub ConfirmedSettingsAreHeld : Type 0
ConfirmedSettingsAreHeld = (config : Config) (passes : ℕ) (events : List Event) →
    IsLived config passes events →
    ConfirmedIsHeld config passes events (now config passes events)

-- The converter's word is among those that the host lists as possible for a cell, unless the converter restarted since the host's last good
-- answer for the cell. A restart that the host saw happened.
pub record PossibleWordsAreHeld : Type 0 where
  pub held : (config : Config) (passes : ℕ) (events : List Event) →
      IsLived config passes events →
      PossibleIsHeld config passes events (now config passes events)
  pub seen : (config : Config) (passes : ℕ) (events : List Event) →
      IsLived config passes events →
      SeenIsTrue config passes events (now config passes events)

-- What the host calls possible is exact, for all cells of all outputs together. Let the converter not have
-- restarted since the host did, and since then let WRITE_PROTECT have been ordered and read as 00h alone, and
-- no restore been ordered. Where the chosen words are all possible, the retelling tells the host just what it
-- was told since it started, and leaves all of them (`witness`): in a world that can be made, and where the chosen
-- words are below 2 ^ 16, and what came back are bytes, so are the words that it starts with (`words`). And words that any life leaves
-- which tells
-- the host just that, without a restart, are all possible (`only`). Legal events are those that are taken,
-- where there is room for them (`legal`).
pub record PossibleWordsAreExact : Type 0 where
  pub witness : (config : Config) (passes : ℕ) (events : List Event) (chosen : Choice) →
      IsLived config passes events →
      restarted_since_host events ≡ false →
      let entries = since_restart (life config passes events).entries in
      let told = marks (setup_of config passes) entries in AreOpen told →
      ArePossible config (now config passes events).host chosen →
      Leaves config passes entries chosen (witness_start config (due_before chosen told))
      (witness_events (setup_of config passes) chosen entries)
  pub only : (config : Config) (passes : ℕ) (events retold : List Event) (chosen : Choice) (other : Config) →
      IsLived config passes events →
      Leaves config passes (since_restart (life config passes events).entries) chosen other retold →
      ArePossible config (now config passes events).host chosen
  pub words : (config : Config) (passes : ℕ) (events : List Event) (chosen : Choice) →
      IsSound config → let entries = since_restart (life config passes events).entries in
      let told = marks (setup_of config passes) entries in
      AreOfBytes entries → AreWordsChosen config chosen →
      AreWordsChosen config (start_word (witness_start config (due_before chosen told)))
  pub legal : (config : Config) (passes : ℕ) (events : List Event) →
      IsSound config → IsSetup (setup_of config passes) → length events ≤ event_limit →
      AreLegal config passes events ↔ AreTaken config passes events

-- Damage that the packet error code betrays is legal: of a write, of an answer, and of a request whose answer
-- comes back whole.
pub record BetrayedDamageIsLegal : Type 0 where
  pub heard : (addr : ℕ) (message : Message) (frame bytes : List ℕ) (ending : Ending) →
      IsWrite addr message frame → IsBetrayedDamage frame bytes →
      is_legal_hearing frame bytes ending ≡ true
  pub came_back : (addr : ℕ) (request : Message) (frame payload answer bytes : List ℕ) (whole : Bool) →
      IsRequest addr request frame → IsAnswer addr request payload answer → IsBetrayedDamage answer bytes →
      is_legal_return frame (whole_answer request) whole answer bytes ≡ true
  pub answered : (held : Held) (request : Message) (frame heard : List ℕ) (whole : Bool) →
      AreOthers frame heard → DifferWithinEight frame heard →
      let answer = answer_in (reply_of held heard Restart) in AreBytes answer →
      is_legal_return frame (whole_answer request) whole answer answer ≡ true

-- An order differs only where it never took, or the converter restarted since it was accepted.
abbrev pub DifferingOrdersNeverTook : Type 0
DifferingOrdersNeverTook = (config : Config) (passes : ℕ) (events : List Event) →
    IsLived config passes events →
    DiffersNeverTook config passes events

-- What a list of events says by itself. Without a restart of the converter none is since any good answer (`since`),
-- and none since the host's start (`host`). What the retelling of the possible words has at most (`short`): so it can
-- be taken, where that is no more than the limit of events.
pub record ListsSayEnough : Type 0 where
  pub since : (config : Config) (passes : ℕ) (cell : Cell) (events : List Event) →
      list_any restarts_converter events ≡ false → restarted_since config passes cell events ≡ false
  pub host : (events : List Event) →
      list_any restarts_converter events ≡ false → restarted_since_host events ≡ false
  pub short : (config : Config) (passes : ℕ) (events : List Event) (chosen : Choice) →
      length (witness_events (setup_of config passes) chosen (since_restart (life config passes events).entries))
      ≤ 2 * length events

-- Whether what the host was told since its start leaves WRITE_PROTECT open goes by one event after another: at first
-- it does (`none`), and after one more by the event and by what is possible for WRITE_PROTECT then (`more`). It is the
-- test of the fact that is asked where the possible words are exact (`test`).
pub record OpenListsAreFollowed : Type 0 where
  pub none : (config : Config) (passes : ℕ) →
      are_open (marks (setup_of config passes) (since_restart (life config passes []).entries)) ≡ true
  pub more : (config : Config) (passes : ℕ) (events : List Event) (event : Event) →
      IsLived config passes (event ∷ events) →
      are_open (marks (setup_of config passes) (since_restart (life config passes (event ∷ events)).entries))
      ≡ stays_open (are_open (marks (setup_of config passes) (since_restart (life config passes events).entries)))
      event (possible_at (now config passes (event ∷ events)).host Protect)
  pub test : (found : List Mark) → (are_open found ≡ true) ↔ AreOpen found
