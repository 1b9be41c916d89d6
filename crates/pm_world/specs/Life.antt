-- The life of a world: what its events make the two ends live through, one event after another. A
-- list of events is newest first, and so are the pasts of the ends.
use Rattle.std.specs.Prelude.{◌≡◌, ℕ, List, [], ◌∷◌, ◌++◌, length, reverse, take, slice_get, Option, Some, None, IsSomeAnd, option_to_list}
use Rattle.pm_device.specs.declared.config.Config.{Config}
use Rattle.pm_device.specs.Effect as device
use Rattle.pm_device.specs.History.{device_now}
use Rattle.pm_host.specs.Now.{host_now}
use Rattle.pm_host.specs.Transcript as host
use Rattle.pm_world.specs.declared.event.Event.{Event}
use Rattle.pm_world.specs.declared.cause.Stop.{Stop}
use Rattle.pm_world.specs.Setup.{setup_of}
use Rattle.pm_world.specs.State.{State, Share, share_of, next, cause_of, IsTaken}

-- what the converter heard, measured and was restarted by, and what the host was told
pub record Life : Type 0 where
  pub past : List device.Event
  pub entries : List host.Entry

-- what a world holds after a life of this number of events
unfoldable pub state_of : Config → ℕ → ℕ → Life → State
state_of config passes taken life = record {
  device = device_now config life.past;
  host = host_now (setup_of config passes) life.entries;
  end = host.last_job_end (setup_of config passes) life.entries;
  taken = taken;
}

-- a life with what an event told the ends
abbrev pub lived : Life → Share → Life
lived life share = record {
  past = option_to_list share.heard ++ life.past;
  entries = option_to_list share.told ++ life.entries;
}

-- the life of a list of events
unfoldable pub life : Config → ℕ → List Event → Life
life config passes [] = record { past = []; entries = [] }
life config passes (event ∷ before) =
    let so_far = life config passes before in
    lived so_far (share_of (state_of config passes (length before) so_far) event)

-- what a world holds after its events
unfoldable pub now : Config → ℕ → List Event → State
now config passes events = state_of config passes (length events) (life config passes events)

-- each of the events was taken
abbrev pub AreTaken : Config → ℕ → List Event → Type 0
AreTaken config passes [] = Unit {0}
AreTaken config passes (event ∷ before) =
    IsTaken (now config passes before) event × AreTaken config passes before

-- what events make of a world, newest first, one after another; and that each of them was taken
abbrev pub after_all : State → List Event → State
after_all s [] = s
after_all s (event ∷ before) = next (after_all s before) event

abbrev pub AreTakenFrom : State → List Event → Type 0
AreTakenFrom s [] = Unit {0}
AreTakenFrom s (event ∷ before) = IsTaken (after_all s before) event × AreTakenFrom s before

-- what is found of events that come upon a world, one after another, by the world after each
abbrev pub found_by : {W : Type 0} → (W → Event → State → W) → W → State → List Event → W
found_by follows first s [] = first
found_by follows first s (event ∷ before) =
    follows (found_by follows first s before) event (after_all s (event ∷ before))

-- the events of a run that were taken, newest first: those before its stop, or all
abbrev pub taken_events : List Event → Option Stop → List Event
taken_events events None = reverse events
taken_events events (Some stop) = reverse (take stop.at events)

-- a run of events from a world stops at an event of its list, with the cause that this event has there
abbrev pub StopsFrom : State → List Event → Option Stop → Type 0
StopsFrom s events None = Unit {0}
StopsFrom s events (Some stop) =
    IsSomeAnd (slice_get events stop.at)
    (λ event. cause_of (after_all s (taken_events events (Some stop))) event ≡ Some stop.cause)

-- a run stops at an event of its list, with the cause that this event has, and only there
abbrev pub StopsAt : Config → ℕ → List Event → Option Stop → Type 0
StopsAt config passes events None = Unit {0}
StopsAt config passes events (Some stop) =
    IsSomeAnd (slice_get events stop.at)
    (λ event. cause_of (now config passes (taken_events events (Some stop))) event ≡ Some stop.cause)
