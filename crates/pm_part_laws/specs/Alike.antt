-- A life of a world that is like what happened beside a part: this project's own choice. Lists are newest first.
use Rattle.std.specs.Prelude.{◌≡◌, ℕ, List, [], ◌∷◌, ◌++◌}
use Rattle.std.specs.Option.{option_map_or}
use Rattle.pm_frame.specs.declared.message.Message.{Message}
use Rattle.pm_device.specs.declared.config.Config.{Config}
use Rattle.pm_device.specs.Held.{Held}
use Rattle.pm_host.specs.Refusals.{IsSetup}
use Rattle.pm_host.specs.Summary.{sending_in}
use Rattle.pm_host.specs.Transcript.{Entry}
use Rattle.pm_world.specs.declared.event.Arrival.{Arrival}
use Rattle.pm_world.specs.declared.event.Arrival.TheVariants.{Whole}
use Rattle.pm_world.specs.declared.event.Back.{Back}
use Rattle.pm_world.specs.declared.event.Back.TheVariants as back
use Rattle.pm_world.specs.declared.event.Event.{Event}
use Rattle.pm_world.specs.declared.event.Event.TheVariants.{Exchange, RestartHost}
use Rattle.pm_world.specs.Honest.{IsSpelled}
use Rattle.pm_world.specs.Legal.{back_bytes}
use Rattle.pm_world.specs.Life.{life, now}
use Rattle.pm_world.specs.Lived.{IsLived}
use Rattle.pm_world.specs.Parts.{IsPart, IsReached, stored_config}
use Rattle.pm_world.specs.Setup.{setup_of}
use Rattle.pm_world.specs.State.{State, answer_to, share_of}
use Rattle.pm_part_laws.specs.Happenings.{Happening, Happens, Hears, MayAllHappen, beside, entries_beside}
use Rattle.pm_part_laws.specs.Settings.{HaveSameSettings}

-- what came back to the host
abbrev pub came : State → Arrival → Back → List ℕ
came s arrival so = option_map_or (λ (message : Message). back_bytes (answer_to s.device s.host.setup.addr message arrival) so) (sending_in s.host) []

-- What came back of a request, by how that arrived: of one that came whole a part of its answer, and of any other these bytes, which
-- may tell of PAGE or of bits that are latched.
abbrev pub back_of : Arrival → Back → List ℕ → Back
back_of Whole so bytes = so
back_of arrival so bytes = back.Bytes (record { items = bytes })

-- an event of a life is the same, and the same bytes come back in it; bytes that are no job's are no event
abbrev pub event_like : State → Event → Event
event_like s (Exchange arrival so) = Exchange arrival (back_of arrival so (came s arrival so))
event_like s event = event

abbrev pub events_like : State → Happening → List Event
events_like s (Happens event) = event_like s event ∷ []
events_like s (Hears bytes ending) = []

-- the events of a life that are like what happened
unfoldable pub narrow : Held → ℕ → List Happening → List Event
narrow held passes [] = []
narrow held passes (one ∷ before) = events_like (beside held passes before) one ++ narrow held passes before

-- A life that is like what happened beside a part: it was lived through, its host is the same, was told the same since those
-- earlier entries and ended its last job the same, and its converter has the same settings.
pub record IsLike (config : Config) (passes : ℕ) (events : List Event) (held : Held) (happened : List Happening) (entries : List Entry) : Type 0 where
  pub lived : IsLived config passes events
  pub host : (now config passes events).host ≡ (beside held passes happened).host
  pub told_is : (life config passes events).entries ≡ entries_beside held passes happened ++ entries
  pub settings : HaveSameSettings (now config passes events).device (beside held passes happened).device
  pub words : (now config passes events).device.words ≡ (beside held passes happened).device.words
  pub store : (now config passes events).device.store ≡ (beside held passes happened).device.store
  pub ended : (now config passes events).end ≡ (beside held passes happened).end

-- the events of a life that led to a part, the newest of which is the restart of the host
abbrev pub with_host_restart : List Event → List Event
with_host_restart earlier = RestartHost ∷ earlier

-- For a part as it is there is a life that led to it, without a restart of the converter, and whose host has just started again
-- (`reached`). Whatever happens from there on, also with reads between, is like a life that goes on from that one, at each moment
-- (`like`): what happens later is events that come later. Each event tells the host the same (`tells`).
pub record LivesAlike (held : Held) (passes : ℕ) : Type 0 where
  pub earlier : List Event
  pub reached : IsReached held.config passes held.words held.store (with_host_restart earlier)
  pub spelled : IsSpelled (stored_config held.config held.store)
  pub like : (happened : List Happening) → MayAllHappen held passes happened →
      IsLike (stored_config held.config held.store) passes (narrow held passes happened ++ with_host_restart earlier) held happened
      (life (stored_config held.config held.store) passes (with_host_restart earlier)).entries
  pub tells : (happened : List Happening) (event : Event) → MayAllHappen held passes (Happens event ∷ happened) →
      (share_of (now (stored_config held.config held.store) passes (narrow held passes happened ++ with_host_restart earlier))
      (event_like (beside held passes happened) event)).told
      ≡ (share_of (beside held passes happened) event).told

-- whatever the part
abbrev pub SameSettingsLiveAlike : Type 0
SameSettingsLiveAlike = (held : Held) (passes : ℕ) → IsPart held.config held.words held.store → IsSpelled held.config →
    IsSetup (setup_of held.config passes) → LivesAlike held passes
