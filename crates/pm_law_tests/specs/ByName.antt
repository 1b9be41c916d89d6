-- What some laws say, each by a name that shows all that it is about, so that a caller has it without a proof: the
-- arguments of such a law stand with the name, none of them is left to be guessed, and a proof opens it where it is used.
-- This project's own choice. Lists are newest first.
use Rattle.std.specs.Prelude.{◌≡◌, ◌+◌, ◌<◌, ◌≤◌, ℕ, Bool, true, false, List, ◌∷◌, Some, length}
use Rattle.pm_table.specs.declared.cell.Cell.{Cell}
use Rattle.pm_device.specs.declared.config.Config.{Config}
use Rattle.pm_device.specs.Start.{IsSound, start_word}
use Rattle.pm_host.specs.Marks.{marks}
use Rattle.pm_host.specs.Refusals.{IsSetup}
use Rattle.pm_host.specs.Transcript.{Order}
use Rattle.pm_limits.specs.declared.band.Band.{Band}
use Rattle.pm_limits.specs.declared.part_registers.PartRegisters.{PartRegisters}
use Rattle.pm_limits.specs.declared.ends.Side.{Side}
use Rattle.pm_limits.specs.Band.{band_at, side_end}
use Rattle.pm_world.specs.declared.event.Arrival.{Arrival}
use Rattle.pm_world.specs.declared.event.Arrival.TheVariants.{Whole}
use Rattle.pm_world.specs.declared.event.Back.TheVariants as back
use Rattle.pm_world.specs.declared.event.Event.{Event}
use Rattle.pm_world.specs.declared.event.Event.TheVariants.{Exchange, Finish}
use Rattle.pm_world.specs.declared.way.Way.TheVariants.{Sent}
use Rattle.pm_world.specs.Bands.{MissingUntold, end_choices}
use Rattle.pm_world.specs.Bytes.{CarryBytes, StartsShort}
use Rattle.pm_world.specs.Honest.{IsSpelled, honest, sent_by}
use Rattle.pm_world.specs.Life.{AreTaken, life, now}
use Rattle.pm_world.specs.Lived.{IsLived}
use Rattle.pm_world.specs.Limited.{commands}
use Rattle.pm_world.specs.Possible.{restarted_since_host}
use Rattle.pm_world.specs.Setup.{setup_of}
use Rattle.pm_world.specs.State.{asked, event_limit}
use Rattle.pm_world.specs.Way.{HasGone, way_of}
use Rattle.pm_world.specs.Uncertainty.{AreOfBytes, AreOpen, AreWordsChosen, Choice, Leaves, due_before, since_restart, witness_events}
use Rattle.pm_world.specs.Uncertainty.{witness_start}

-- The end of an order's write and an undisturbed read are taken, if the order is for this word of this cell and its write
-- was delivered so.
unfoldable pub IsAhead : Config → ℕ → Event → Cell → ℕ → List Arrival → Bool → List Event → Type 0
IsAhead config passes order cell word arrivals acked before =
    AreTaken config passes (honest order arrivals acked before)

-- The end of an order's write, which was heard whole, and an undisturbed read are taken, and the order of this word goes through by them.
unfoldable pub GoesThrough : Config → ℕ → Cell → ℕ → Bool → List Event → Type 0
GoesThrough config passes cell word acked events =
    AreTaken config passes (Exchange Whole back.Whole ∷ Finish acked ∷ events)
    × HasGone config passes cell word (Exchange Whole back.Whole ∷ Finish acked ∷ events)

-- One life, which tells the host just what these events told it, leaves each output that has a band at its end on the
-- chosen side.
unfoldable pub IsReached : Config → ℕ → PartRegisters → List Event → (ℕ → Side) → Type 0
IsReached config passes part events sides =
    let host = (now config passes events).host in
    let entries = since_restart (life config passes events).entries in
    let chosen = end_choices part config host sides in
    let first = witness_start config (due_before chosen (marks (setup_of config passes) entries)) in
    let retold = witness_events (setup_of config passes) chosen entries in
    Leaves config passes entries chosen first retold
    × ((output : ℕ) (band : Band) → output < config.count → band_at part host output ≡ Some band →
    commands first passes retold output ≡ side_end (sides output) band)

-- What came back since the host last restarted were bytes; the chosen words have two bytes; and so have those with which
-- the life begins that leaves them.
unfoldable pub CameInBytes : Config → ℕ → List Event → Type 0
CameInBytes config passes events = AreOfBytes (since_restart (life config passes events).entries)

unfoldable pub IsShort : Config → Choice → Type 0
IsShort config chosen = AreWordsChosen config chosen

unfoldable pub BeginsShort : Config → ℕ → List Event → Choice → Type 0
BeginsShort config passes events chosen = AreWordsChosen config (start_word (witness_start config (due_before chosen
    (marks (setup_of config passes) (since_restart (life config passes events).entries)))))

-- `ahead` is what `honest_orders_go_through` says by its `taken`, `through` what `ways_are_followed` says by its `ahead`,
-- `reached` what `bands_are_exact` says, `came` what `answers_come_in_bytes` says, and `words` what
-- `possible_words_are_exact` says by its `words`.
pub record LawsByName : Type 0 where
  pub ahead : (config : Config) (passes : ℕ) (order : Event) (cell : Cell) (word : ℕ) (arrivals : List Arrival)
      (acked : Bool) (before : List Event) →
      IsSound config → IsSetup (setup_of config passes) →
      AreTaken config passes (sent_by order arrivals before) →
      asked (now config passes before) order ≡ Some (Order cell word) →
      length (sent_by order arrivals before) + 2 ≤ event_limit →
      IsAhead config passes order cell word arrivals acked before
  pub through : (config : Config) (passes : ℕ) (cell : Cell) (word : ℕ) (acked : Bool) (events : List Event) →
      IsSound config → IsSetup (setup_of config passes) → AreTaken config passes events →
      way_of config passes events ≡ Sent cell word true → (now config passes events).taken + 2 ≤ event_limit →
      GoesThrough config passes cell word acked events
  pub reached : (config : Config) (passes : ℕ) (part : PartRegisters) (events : List Event) (sides : ℕ → Side) →
      IsSpelled config → IsLived config passes events →
      restarted_since_host events ≡ false →
      MissingUntold part config (now config passes events).host →
      AreOpen (marks (setup_of config passes) (since_restart (life config passes events).entries)) →
      IsReached config passes part events sides
  pub came : (config : Config) (passes : ℕ) (events : List Event) →
      IsSpelled config → StartsShort config → IsLived config passes events → CarryBytes events → CameInBytes config passes events
  pub words : (config : Config) (passes : ℕ) (events : List Event) (chosen : Choice) → IsSound config →
      CameInBytes config passes events → IsShort config chosen → BeginsShort config passes events chosen
