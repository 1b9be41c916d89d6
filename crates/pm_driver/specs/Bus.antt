-- What a bus may do to the converter at its other end, by the events of a world: this project's own premise on
-- a bus. Lists are newest first.
use Rattle.std.specs.Prelude.{◌≡◌, ◌+◌, ℕ, Bool, true, false, cond, List, [], ◌∷◌}
use Rattle.pm_device.specs.declared.converter.Ending.TheVariants.{Stop, Restart}
use Rattle.pm_device.specs.Held.{Held}
use Rattle.pm_device.specs.Effect as device
use Rattle.pm_device.specs.History.{device_next}
use Rattle.pm_device.specs.Reply.{reply_of}
use Rattle.pm_world.specs.declared.event.Arrival.{Arrival}
use Rattle.pm_world.specs.declared.event.Back.{Back}
use Rattle.pm_world.specs.declared.event.Event.{Event}
use Rattle.pm_world.specs.declared.event.Event.TheVariants.{Deliver, RestartDevice, Reading}
use Rattle.pm_world.specs.Confirmed.{restarts_converter}
use Rattle.pm_world.specs.Legal.{heard_bytes, ending_of, is_legal_hearing, is_legal_return, is_heard_whole, answer_in, back_bytes}
use Rattle.pm_part_laws.specs.Lemmas.Pageless.{answer_of}

-- what happens to a converter beside the bus: it restarts, or what it measures changes
abbrev pub is_beside_bus : Event → Bool
is_beside_bus RestartDevice = true
is_beside_bus (Reading output code word) = true
is_beside_bus _ = false

-- what happens to a converter while the frame of a write is being sent: what happens beside the bus, and it hears the frame, legally
abbrev pub may_hear : List ℕ → Event → Bool
may_hear frame RestartDevice = true
may_hear frame (Reading output code word) = true
may_hear frame (Deliver arrival) = is_legal_hearing frame (heard_bytes frame arrival) (ending_of Stop arrival)
may_hear frame _ = false

-- each of the events is such a one
abbrev pub AreAll : (Event → Bool) → List Event → Type 0
AreAll may [] = Unit {0}
AreAll may (event ∷ before) = (may event ≡ true) × AreAll may before

-- what one of them makes of what the converter holds
abbrev pub held_after_one : List ℕ → Held → Event → Held
held_after_one frame held RestartDevice = device_next held device.Restarted
held_after_one frame held (Reading output code word) = device_next held (device.Reading output code.0 word)
held_after_one frame held (Deliver arrival) =
    device_next held (device.Hearing (heard_bytes frame arrival) (ending_of Stop arrival))
held_after_one frame held _ = held

-- what a list of events makes of the converter while the frame of a write is being sent
abbrev pub held_after : List ℕ → Held → List Event → Held
held_after frame held [] = held
held_after frame held (event ∷ before) = held_after_one frame (held_after frame held before) event

-- how often the converter restarted by these events
abbrev pub restarts_in : List Event → ℕ
restarts_in [] = 0
restarts_in (event ∷ before) = cond (restarts_converter event) 1 0 + restarts_in before

-- A write was sent: the converter heard its frame any number of times, also never, each time legally, and what
-- else happened to it. A count of its restarts rose by just those that happened.
pub record IsSent (frame : List ℕ) (old : Held) (was : ℕ) (new : Held) (is : ℕ) : Type 0 where
  pub events : List Event
  pub may : AreAll (may_hear frame) events
  pub after : held_after frame old events ≡ new
  pub count : restarts_in events + was ≡ is

-- A request was sent, whose whole answer has this many bytes, and these came back: the converter heard it once,
-- legally, and what came back is a legal return of its answer. A count of its restarts rose by just those that happened.
pub record IsAsked (request : List ℕ) (needed : ℕ) (old : Held) (was : ℕ) (came : List ℕ) (new : Held) (is : ℕ) : Type 0 where
  pub before : List Event
  pub arrival : Arrival
  pub back : Back
  pub beside_before : AreAll is_beside_bus before
  pub legal : is_legal_hearing request (heard_bytes request arrival) (ending_of Restart arrival) ≡ true
  pub returned : is_legal_return request needed
      (is_heard_whole request (heard_bytes request arrival) (ending_of Restart arrival))
      (answer_of (held_after request old before) request arrival)
      (back_bytes (answer_of (held_after request old before) request arrival) back) ≡ true
  pub came_is : back_bytes (answer_of (held_after request old before) request arrival) back ≡ came
  pub after : device_next (held_after request old before)
      (device.Hearing (heard_bytes request arrival) (ending_of Restart arrival)) ≡ new
  pub count : restarts_in before + was ≡ is
