-- An order that nothing disturbs, beside a part as it is, while anybody reads the part: this project's own choice. Lists are newest first.
use Rattle.std.specs.Prelude.{◌≡◌, ℕ, Bool, true, List, [], ◌∷◌, ◌++◌, map, Some}
use Rattle.std.specs.List.{list_any}
use Rattle.pm_table.specs.declared.cell.Cell.{Cell}
use Rattle.pm_table.specs.declared.cell.Cell.TheVariants.{Protect}
use Rattle.pm_table.specs.Cell.{cell_code}
use Rattle.pm_table.specs.Protection.{is_allowed}
use Rattle.pm_model.specs.Settings.{word_at}
use Rattle.pm_device.specs.Held.{Held}
use Rattle.pm_host.specs.declared.job.JobEnd.TheVariants.{Done}
use Rattle.pm_host.specs.declared.knowledge.Standing.TheVariants.{Confirmed}
use Rattle.pm_host.specs.Messages.{cell_write}
use Rattle.pm_host.specs.Summary.{standing_at}
use Rattle.pm_host.specs.Transcript as host
use Rattle.pm_world.specs.declared.event.Arrival.{Arrival}
use Rattle.pm_world.specs.declared.event.Arrival.TheVariants.{Whole}
use Rattle.pm_world.specs.declared.event.Back.TheVariants as back
use Rattle.pm_world.specs.declared.event.Event.{Event}
use Rattle.pm_world.specs.declared.event.Event.TheVariants.{Deliver, Exchange, Finish}
use Rattle.pm_world.specs.Honest.{is_whole}
use Rattle.pm_world.specs.Legal.{frame_of}
use Rattle.pm_world.specs.State.{asked}
use Rattle.pm_part_laws.specs.Happenings.{Happening, Happens, Hears, IsLifeBeside, beside}

-- the events among what happened, without what is heard and is no job's
abbrev pub events_among : List Happening → List Event
events_among [] = []
events_among (Happens event ∷ before) = event ∷ events_among before
events_among (Hears bytes ending ∷ before) = events_among before

-- deliveries of an order's write, the end of that write, acknowledged or not, and an exchange that nothing disturbs
abbrev pub honest_frames : List Arrival → Bool → List Event
honest_frames arrivals acked = Exchange Whole back.Whole ∷ Finish acked ∷ map (λ arrival. Deliver arrival) arrivals

-- the order's job is done, its cell's word is confirmed, and the part holds it
pub record WentThrough (held : Held) (passes : ℕ) (cell : Cell) (word : ℕ) (happened : List Happening) : Type 0 where
  pub done : (beside held passes happened).end ≡ Some Done
  pub confirmed : standing_at (beside held passes happened).host cell ≡ Confirmed word
  pub holds : word_at (beside held passes happened).device.words cell ≡ word

-- An order went through that WRITE_PROTECT allowed as it was accepted, if its write was heard whole at least once and nothing disturbed its
-- read, whatever was read of the part between its frames.
abbrev pub HonestOrdersGoThrough : Type 0
HonestOrdersGoThrough = (held : Held) (passes : ℕ) (frames before : List Happening) (order : Event) (cell : Cell) (word : ℕ)
    (arrivals : List Arrival) (acked : Bool) →
    IsLifeBeside held passes (frames ++ Happens order ∷ before) → events_among frames ≡ honest_frames arrivals acked →
    asked (beside held passes before) order ≡ Some (host.Order cell word) →
    is_allowed (word_at (beside held passes before).device.words Protect) (cell_code cell) ≡ true →
    list_any (is_whole (frame_of held.config.addr (cell_write cell word))) arrivals ≡ true →
    WentThrough held passes cell word (frames ++ Happens order ∷ before)
