-- What happens to a host and a part as it is, while anybody reads the part: this project's own choice. Lists are newest first.
use Rattle.std.specs.Prelude.{◌≡◌, ℕ, Bool, false, List, [], ◌∷◌, ◌++◌, Option, None, option_to_list}
use Rattle.pm_device.specs.declared.converter.Ending.{Ending}
use Rattle.pm_device.specs.Effect as device
use Rattle.pm_device.specs.Held.{Held}
use Rattle.pm_device.specs.History.{device_next}
use Rattle.pm_host.specs.Refusals.{IsSetup}
use Rattle.pm_host.specs.Summary.{start}
use Rattle.pm_host.specs.Transcript as host
use Rattle.pm_host.specs.Transcript.{Entry}
use Rattle.pm_world.specs.declared.event.Event.{Event}
use Rattle.pm_world.specs.Confirmed.{restarts_converter}
use Rattle.pm_world.specs.Ended.{begins_other}
use Rattle.pm_world.specs.Honest.{IsSpelled}
use Rattle.pm_world.specs.Parts.{IsPart}
use Rattle.pm_world.specs.Setup.{setup_of}
use Rattle.pm_world.specs.State.{HasWord, State, asked, event_cause, next, share_of}
use Rattle.pm_part_laws.specs.Settings.{KeepsSettings}

-- What happens in a world (`Happens`); or the converter hears bytes that nobody sent for a job of the host (`Hears`), and no host is
-- told what it answers: a read of any code on any page by anybody, a write of PAGE, noise.
pub data Happening : Type 0 where
  Happens : (event : Event) → Happening
  Hears : (bytes : List ℕ) (ending : Ending) → Happening

-- a host that has just started beside a part as it is
abbrev pub begun_beside : Held → ℕ → State
begun_beside held passes = record { device = held; host = start (setup_of held.config passes); end = None; taken = 0 }

-- what a happening makes of both
abbrev pub after_happening : State → Happening → State
after_happening s (Happens event) = next s event
after_happening s (Hears bytes ending) = record s { device = device_next s.device (device.Hearing bytes ending) }

-- the host and the part after what happened
unfoldable pub beside : Held → ℕ → List Happening → State
beside held passes [] = begun_beside held passes
beside held passes (one ∷ before) = after_happening (beside held passes before) one

-- what a happening tells the host, and all that it was told
abbrev pub telling : State → Happening → Option Entry
telling s (Happens event) = (share_of s event).told
telling s (Hears bytes ending) = None

unfoldable pub entries_beside : Held → ℕ → List Happening → List Entry
entries_beside held passes [] = []
entries_beside held passes (one ∷ before) = option_to_list (telling (beside held passes before) one) ++ entries_beside held passes before

-- nothing is against an event, and bytes that are no job's keep the settings
abbrev pub MayHappen : State → Happening → Type 0
MayHappen s (Happens event) = (event_cause s event ≡ None) × HasWord s event
MayHappen s (Hears bytes ending) = KeepsSettings s.device bytes ending

abbrev pub MayAllHappen : Held → ℕ → List Happening → Type 0
MayAllHappen held passes [] = Unit {0}
MayAllHappen held passes (one ∷ before) = MayHappen (beside held passes before) one × MayAllHappen held passes before

-- A part as it is, with words held and stored that its cells accept, whatever came before; a new host beside it; and what happened
-- since. What the part starts with, PAGE, the readings and the latched status bits are any.
pub record IsLifeBeside (held : Held) (passes : ℕ) (happened : List Happening) : Type 0 where
  pub part : IsPart held.config held.words held.store
  pub spelled : IsSpelled held.config
  pub made : IsSetup (setup_of held.config passes)
  pub may : MayAllHappen held passes happened

-- the happening is a restart of the converter
abbrev pub restarts : Happening → Bool
restarts (Happens event) = restarts_converter event
restarts (Hears bytes ending) = false

-- the happening asks for a job, or restarts the host: the last job isn't the one of before any more
abbrev pub begins_another : Happening → Bool
begins_another (Happens event) = begins_other event
begins_another (Hears bytes ending) = false

-- what the host is asked for later is so each time
abbrev pub EachAsks : (Option host.Job → Type 0) → Held → ℕ → List Happening → List Happening → Type 0
EachAsks P held passes [] before = Unit {0}
EachAsks P held passes (Happens event ∷ later) before = P (asked (beside held passes (later ++ before)) event) × EachAsks P held passes later before
EachAsks P held passes (Hears bytes ending ∷ later) before = EachAsks P held passes later before
