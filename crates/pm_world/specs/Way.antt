-- How far an order has come with nothing to disturb it, by one event after another: this project's own choice of what
-- decides, while events happen, whether they have the form of an undisturbed order. Lists are newest first.
use Rattle.std.specs.Prelude.{◌≡◌, ◌↔◌, ◌+◌, ◌≤◌, ℕ, Bool, true, false, not, ◌&&◌, ◌||◌, if◌then◌else◌, List, [], ◌∷◌, Option, Some}
use Rattle.std.specs.Prelude.{is_some}
use Rattle.std.specs.List.{list_any}
use Rattle.std.specs.Option.{option_map_or}
use Rattle.pm_table.specs.declared.cell.Cell.{Cell}
use Rattle.pm_table.specs.declared.cell.Cell.TheVariants.{Protect}
use Rattle.pm_table.specs.Cell.{cell_code}
use Rattle.pm_table.specs.Protection.{is_allowed}
use Rattle.pm_frame.specs.Layout.{is_read_message}
use Rattle.pm_model.specs.Settings.{word_at}
use Rattle.pm_device.specs.declared.config.Config.{Config}
use Rattle.pm_device.specs.Start.{IsSound}
use Rattle.pm_host.specs.declared.stage.Stage.{Stage}
use Rattle.pm_host.specs.declared.stage.Stage.TheVariants.{Writes}
use Rattle.pm_host.specs.Messages.{cell_write}
use Rattle.pm_host.specs.Refusals.{IsSetup}
use Rattle.pm_host.specs.Summary.{Summary, sending_in}
use Rattle.pm_host.specs.Transcript.{Order}
use Rattle.pm_world.specs.declared.event.Arrival.{Arrival}
use Rattle.pm_world.specs.declared.event.Arrival.TheVariants.{Whole}
use Rattle.pm_world.specs.declared.event.Back.{Back}
use Rattle.pm_world.specs.declared.event.Back.TheVariants as back
use Rattle.pm_world.specs.declared.event.Event.{Event}
use Rattle.pm_world.specs.declared.event.Event.TheVariants.{Deliver, Exchange, Finish}
use Rattle.pm_world.specs.declared.way.Way.{Way}
use Rattle.pm_world.specs.declared.way.Way.TheVariants.{Off, Sent, Written, Through}
use Rattle.pm_world.specs.Honest.{WentThrough, honest, is_whole, sent_by}
use Rattle.pm_world.specs.Job.{asked_by}
use Rattle.pm_world.specs.Legal.{frame_of}
use Rattle.pm_world.specs.Lived.{IsLived}
use Rattle.pm_world.specs.Life.{AreTaken, now}
use Rattle.pm_world.specs.Setup.{setup_of}
use Rattle.pm_world.specs.State.{State, asked, event_limit}

-- the write that a host sends is heard whole as it arrives
abbrev pub hears_whole : Summary → Arrival → Bool
hears_whole s arrival = option_map_or
    (λ message. not (is_read_message message) && is_whole (frame_of s.setup.addr message) arrival) (sending_in s) false

-- a job was accepted: an order begins its way where WRITE_PROTECT allows its code
abbrev pub begun : State → Option Stage → Way
begun s (Some (Writes cell word pass)) =
    if is_allowed (word_at s.device.words Protect) (cell_code cell) then Sent cell word false else Off
begun s stage = Off

-- a delivery, heard whole or not, the end of a write, and an exchange
abbrev pub delivered_on : Bool → Way → Way
delivered_on heard (Sent cell word whole) = Sent cell word (heard || whole)
delivered_on heard way = Off

abbrev pub finished_on : Way → Way
finished_on (Sent cell word whole) = if whole then Written cell word else Off
finished_on way = Off

abbrev pub way_read_on : Way → Way
way_read_on (Written cell word) = Through cell word
way_read_on way = Off

abbrev pub exchanged_on : Arrival → Back → Way → Way
exchanged_on Whole back.Whole way = way_read_on way
exchanged_on arrival back way = Off

-- an event that asks for no job; what is none of these three is in between
abbrev pub way_goes_on : State → Event → Way → Way
way_goes_on s (Deliver arrival) way = delivered_on (hears_whole s.host arrival) way
way_goes_on s (Finish acked) way = finished_on way
way_goes_on s (Exchange arrival back) way = exchanged_on arrival back way
way_goes_on s event way = Off

-- how far it has come after an event, by the world then
abbrev pub way_after : State → Event → Way → Way
way_after s event way = if is_some (asked_by event) then begun s s.host.stage else way_goes_on s event way

-- how far the last order has come after some events
unfoldable pub way_of : Config → ℕ → List Event → Way
way_of config passes [] = Off
way_of config passes (event ∷ before) =
    way_after (now config passes (event ∷ before)) event (way_of config passes before)

-- The events are an order that WRITE_PROTECT allowed, and deliveries of its write alone; one of them was heard whole,
-- or none.
pub record WasSent (config : Config) (passes : ℕ) (cell : Cell) (word : ℕ) (whole : Bool) (events : List Event) : Type 0 where
  pub order : Event
  pub arrivals : List Arrival
  pub before : List Event
  pub is : events ≡ sent_by order arrivals before
  pub asks : asked (now config passes before) order ≡ Some (Order cell word)
  pub allowed : is_allowed (word_at (now config passes before).device.words Protect) (cell_code cell) ≡ true
  pub heard : list_any (is_whole (frame_of config.addr (cell_write cell word))) arrivals ≡ whole

-- the events have the form of such an order that nothing disturbed
pub record WasUndisturbed (config : Config) (passes : ℕ) (cell : Cell) (word : ℕ) (events : List Event) : Type 0 where
  pub order : Event
  pub arrivals : List Arrival
  pub acked : Bool
  pub before : List Event
  pub is : events ≡ honest order arrivals acked before
  pub asks : asked (now config passes before) order ≡ Some (Order cell word)
  pub allowed : is_allowed (word_at (now config passes before).device.words Protect) (cell_code cell) ≡ true
  pub heard : list_any (is_whole (frame_of config.addr (cell_write cell word))) arrivals ≡ true

-- an order went through by the last of these events
pub record HasGone (config : Config) (passes : ℕ) (cell : Cell) (word : ℕ) (events : List Event) : Type 0 where
  pub acked : Bool
  pub before : List Event
  pub went : WentThrough config passes cell word acked before events

-- How far an order has come with nothing to disturb it goes by one event after another (`none`, `more`). It is on its
-- way, with its write heard whole or not, exactly where the events are such an order and deliveries of its write
-- (`sent`), and through exactly where they have the form of an undisturbed order (`through`); then it went through
-- (`went`). Where its write was heard whole, and the world has room for two more events, the end of that write,
-- acknowledged or not, and an undisturbed read are taken, and it goes through by them (`ahead`).
pub record WaysAreFollowed : Type 0 where
  pub none : (config : Config) (passes : ℕ) → way_of config passes [] ≡ Off
  pub more : (config : Config) (passes : ℕ) (events : List Event) (event : Event) →
      way_of config passes (event ∷ events)
      ≡ way_after (now config passes (event ∷ events)) event (way_of config passes events)
  pub sent : (config : Config) (passes : ℕ) (events : List Event) (cell : Cell) (word : ℕ) (whole : Bool) →
      IsLived config passes events →
      (way_of config passes events ≡ Sent cell word whole) ↔ WasSent config passes cell word whole events
  pub through : (config : Config) (passes : ℕ) (events : List Event) (cell : Cell) (word : ℕ) →
      IsLived config passes events →
      (way_of config passes events ≡ Through cell word) ↔ WasUndisturbed config passes cell word events
  pub went : (config : Config) (passes : ℕ) (events : List Event) (cell : Cell) (word : ℕ) →
      IsLived config passes events →
      way_of config passes events ≡ Through cell word → HasGone config passes cell word events
  pub ahead : (config : Config) (passes : ℕ) (events : List Event) (cell : Cell) (word : ℕ) (acked : Bool) →
      IsSound config → IsSetup (setup_of config passes) → AreTaken config passes events →
      way_of config passes events ≡ Sent cell word true → (now config passes events).taken + 2 ≤ event_limit →
      AreTaken config passes (Exchange Whole back.Whole ∷ Finish acked ∷ events)
      × HasGone config passes cell word (Exchange Whole back.Whole ∷ Finish acked ∷ events)
