-- Hosts and converters in pairs on one bus. Each pair has an address of its own, and no converter answers at a second
-- one. A host is told only what happens to its own pair. A converter hears its own host's frames, and it hears what is on
-- the wire for the other pairs, damaged or not. This project's own choice. Lists are newest first.
use Rattle.std.specs.Prelude.{◌≡◌, ◌≢◌, ◌<◌, ℕ, Bool, true, false, ◌||◌, ◌==◌, if◌then◌else◌, List, [], ◌∷◌}
use Rattle.pm_frame.specs.declared.message.Message.{Message}
use Rattle.pm_frame.specs.Betrayal.{is_betrayed}
use Rattle.pm_frame.specs.Layout.{read_address}
use Rattle.pm_device.specs.declared.config.Config.{Config}
use Rattle.pm_device.specs.declared.converter.Ending.{Ending}
use Rattle.pm_device.specs.Effect as device
use Rattle.pm_device.specs.Effect.{kept_in}
use Rattle.pm_device.specs.Held.{CmlFaults, Held}
use Rattle.pm_device.specs.History.{is_for_other, device_next}
use Rattle.pm_device.specs.Start.{IsSound}
use Rattle.pm_host.specs.Refusals.{IsSetup}
use Rattle.pm_world.specs.declared.event.Arrival.TheVariants.{Whole}
use Rattle.pm_world.specs.declared.event.Back.TheVariants.{Bytes}
use Rattle.pm_world.specs.declared.event.Event.{Event}
use Rattle.pm_world.specs.declared.event.Event.TheVariants.{Exchange}
use Rattle.pm_world.specs.Confirmed.{ConfirmedIsHeld}
use Rattle.pm_world.specs.Legal.{frame_of, is_legal_hearing, is_restart}
use Rattle.pm_world.specs.Life.{now}
use Rattle.pm_world.specs.Lived.{IsLived}
use Rattle.pm_world.specs.Moves.{MovesByTheOpenJob}
use Rattle.pm_world.specs.Setup.{setup_of}
use Rattle.pm_world.specs.State.{State, next}
use Rattle.pm_world.specs.Uncertainty.{IsLegal}

-- this many pairs, numbered from 0: the configuration of each converter, whose address its host has, and in how many
-- passes its host tries a job
pub record Board : Type 0 where
  pub count : ℕ
  pub config : ℕ → Config
  pub passes : ℕ → ℕ

-- bytes on the wire for one pair as the converter of another hears them, and how they end
pub record Overheard : Type 0 where
  pub bytes : List ℕ
  pub ending : Ending

-- an event of one pair, and what the converter of each other pair hears meanwhile: each may hear something else
pub record Happening : Type 0 where
  pub pair : ℕ
  pub event : Event
  pub heard : ℕ → List Overheard

-- a converter after what it overheard
unfoldable pub overhearing : Held → List Overheard → Held
overhearing held [] = held
overhearing held (heard ∷ before) = device_next (overhearing held before) (device.Hearing heard.bytes heard.ending)

-- what a pair's converter and its host hold on the board: its own events happen as in a world of its own, and by those
-- of the others its converter overhears something
unfoldable pub on_board : Board → ℕ → List Happening → State
on_board board pair [] = now (board.config pair) (board.passes pair) []
on_board board pair (happening ∷ before) =
    let s = on_board board pair before in
    if happening.pair == pair then next s happening.event
    else record s { device = overhearing s.device (happening.heard pair) }

-- the events of this pair alone
unfoldable pub own : ℕ → List Happening → List Event
own pair [] = []
own pair (happening ∷ before) =
    if happening.pair == pair then happening.event ∷ own pair before else own pair before

-- What a converter overhears passes by it: a repeated start ended it, it is for another device, or the PEC betrays it. So
-- it is where the address of a write was damaged, and became this converter's.
abbrev pub passes_by : ℕ → Overheard → Bool
passes_by addr heard = is_restart heard.ending || (is_for_other addr heard.bytes || is_betrayed [] heard.bytes)

abbrev pub AllPassBy : ℕ → List Overheard → Type 0
AllPassBy addr [] = Unit {0}
AllPassBy addr (heard ∷ before) = (passes_by addr heard ≡ true) × AllPassBy addr before

-- What comes back for a request that didn't arrive whole is given by its bytes, whoever answered. A request that was
-- damaged may have asked for status, in which a converter on a board may differ.
abbrev pub gives_return : Event → Bool
gives_return (Exchange Whole back) = true
gives_return (Exchange arrival (Bytes bytes)) = true
gives_return (Exchange arrival back) = false
gives_return event = true

-- for this pair its own events are legal one after another on the board, and all that it overhears passes by
abbrev pub AreLegalFor : Board → ℕ → List Happening → Type 0
AreLegalFor board pair [] = Unit {0}
AreLegalFor board pair (happening ∷ before) =
    (happening.pair ≡ pair → IsLegal (on_board board pair before) happening.event × (gives_return happening.event ≡ true))
    × (happening.pair ≢ pair → AllPassBy (board.config pair).addr (happening.heard pair))
    × AreLegalFor board pair before

-- a board lived through these events: each pair can be made, no two have one address, and what happens is legal for each
pub record IsLivedOn (board : Board) (events : List Happening) : Type 0 where
  pub sound : (pair : ℕ) → pair < board.count → IsSound (board.config pair)
  pub made : (pair : ℕ) → pair < board.count → IsSetup (setup_of (board.config pair) (board.passes pair))
  pub apart : (pair other : ℕ) → pair < board.count → other < board.count → pair ≢ other →
      (board.config pair).addr ≢ (board.config other).addr
  pub legal : (pair : ℕ) → pair < board.count → AreLegalFor board pair events

-- the state, with these latched bits of STATUS_CML
abbrev pub with_faults : State → CmlFaults → State
with_faults s faults = record s { device = record s.device { faults = faults } }

-- A pair on a board lived through its own events alone (`lived`), and holds what it holds after them but for latched
-- bits of STATUS_CML (`alone`): so every setting, the store and PAGE are as its own events leave them (`kept`), and so is
-- all that the host knows, and how its last job ended (`host`, `end`). All that is on the wire for another pair passes by:
-- the other host's frame as it may legally arrive, damage that turns the one address into the other included (`frames`),
-- and what follows the other's read address (`answers`).
pub record NeighboursAreApart : Type 0 where
  pub lived : (board : Board) (events : List Happening) (pair : ℕ) → IsLivedOn board events → pair < board.count →
      IsLived (board.config pair) (board.passes pair) (own pair events)
  pub alone : (board : Board) (events : List Happening) (pair : ℕ) → IsLivedOn board events → pair < board.count →
      on_board board pair events
      ≡ with_faults (now (board.config pair) (board.passes pair) (own pair events)) (on_board board pair events).device.faults
  pub kept : (board : Board) (events : List Happening) (pair : ℕ) → IsLivedOn board events → pair < board.count →
      kept_in (on_board board pair events).device
      ≡ kept_in (now (board.config pair) (board.passes pair) (own pair events)).device
  pub host : (board : Board) (events : List Happening) (pair : ℕ) → IsLivedOn board events → pair < board.count →
      (on_board board pair events).host ≡ (now (board.config pair) (board.passes pair) (own pair events)).host
  pub end : (board : Board) (events : List Happening) (pair : ℕ) → IsLivedOn board events → pair < board.count →
      (on_board board pair events).end ≡ (now (board.config pair) (board.passes pair) (own pair events)).end
  pub frames : (addr other : ℕ) (message : Message) (bytes : List ℕ) (ending : Ending) → addr ≢ other →
      is_legal_hearing (frame_of other message) bytes ending ≡ true →
      passes_by addr (record { bytes = bytes; ending = ending }) ≡ true
  pub answers : (addr other : ℕ) (rest : List ℕ) (ending : Ending) →
      passes_by addr (record { bytes = read_address other ∷ rest; ending = ending }) ≡ true

-- Beside its neighbours, too, a pair's settings are those of its own events (`kept`), which move them by the open job of its
-- own host alone (`moves`), and what that host calls confirmed is what its converter holds (`confirmed`).
pub record PairsOnABoard : Type 0 where
  pub kept : (board : Board) (events : List Happening) (pair : ℕ) → IsLivedOn board events → pair < board.count →
      kept_in (on_board board pair events).device
      ≡ kept_in (now (board.config pair) (board.passes pair) (own pair events)).device
  pub moves : (board : Board) (events : List Happening) (pair : ℕ) → IsLivedOn board events → pair < board.count →
      MovesByTheOpenJob (board.config pair) (board.passes pair) (own pair events)
  pub confirmed : (board : Board) (events : List Happening) (pair : ℕ) → IsLivedOn board events → pair < board.count →
      ConfirmedIsHeld (board.config pair) (board.passes pair) (own pair events)
      (now (board.config pair) (board.passes pair) (own pair events))
