-- The laws of a driver, over the definitions alone.
use Rattle.std.specs.Prelude.{◌≡◌, ℕ, true, false, IfSome, List, ◌++◌, length, Option, Some}
use Rattle.pm_frame.specs.Laws.{BetrayalIsRefused, DamageIsRefused, RequestsAreExact, WritesAreExact}
use Rattle.pm_device.specs.declared.config.Config.{Config}
use Rattle.pm_device.specs.Held.{Held}
use Rattle.pm_device.specs.Start.{IsSound}
use Rattle.pm_device.specs.History as history
use Rattle.pm_device.specs.Laws.{RequestsLatchAtMost, WritesReachOneCell}
use Rattle.pm_host.specs.declared.job.JobEnd.{JobEnd}
use Rattle.pm_host.specs.Refusals.{IsSetup}
use Rattle.pm_host.specs.Summary.{Summary, start}
use Rattle.pm_host.specs.Transcript.{Job, last_job}
use Rattle.pm_world.specs.declared.event.Event.{Event}
use Rattle.pm_table.specs.declared.cell.Cell.{Cell}
use Rattle.pm_world.specs.Confirmed.{restarted_since}
use Rattle.pm_world.specs.Honest.{IsSpelled}
use Rattle.pm_world.specs.Laws.{ConfirmedSettingsAreHeld, LearnedFormatsAreTrue, ListsSayEnough, LivesAreFollowed, PossibleWordsAreHeld}
use Rattle.pm_world.specs.Parts.{LivesLeaveParts, PartsAreReached, StartsAreParts, StoredConfigsStartSo}
use Rattle.pm_world.specs.Life.{life, now}
use Rattle.pm_world.specs.Lived.{IsLived}
use Rattle.pm_world.specs.Setup.{setup_of}
use Rattle.pm_driver.specs.Acts.{Act, Call}
use Rattle.pm_driver.specs.Driven.{HasLife, HasNoRestartSince, IsAsItIs, MayBegin}
use Rattle.pm_driver.specs.Ends.{EndSays, cell_of_end}
use Rattle.pm_driver.specs.Lives.{Driven, Leads, newest_tells}

-- the laws of lives, of frames and of hearings that a driver keeps its promises by
pub record LawsOfLives : Type 0 where
  pub followed : LivesAreFollowed
  pub formats : LearnedFormatsAreTrue
  pub confirmed : ConfirmedSettingsAreHeld
  pub possible : PossibleWordsAreHeld
  pub requests : RequestsAreExact
  pub writes : WritesAreExact
  pub damage : DamageIsRefused
  pub betrayal : BetrayalIsRefused
  pub latch : RequestsLatchAtMost
  pub reach : WritesReachOneCell
  pub parts : PartsAreReached
  pub left : LivesLeaveParts
  pub starts : StartsAreParts
  pub stored : StoredConfigsStartSo
  pub lists : ListsSayEnough

-- What leads on from where something led is one that leads from its beginning: calls compose.
abbrev pub LeadsCompose : {B : Type 0} → (B → Call → B → Type 0) → (B → Held) → (B → ℕ) → Type 0
LeadsCompose {B = B} gives held restarts = (first second : List Act) (middle end : Option JobEnd) (a b c : Driven B) →
    Leads gives held restarts first middle a b → Leads gives held restarts second end b c → Leads gives held restarts (second ++ first) end a c

-- Acts by which the bus counted no restart keep what `HasNoRestartSince` says of a cell: the converter didn't restart
-- since the host's last good answer for it.
abbrev pub RestartsAreCounted : {B : Type 0} → (B → Call → B → Type 0) → (B → Held) → (B → ℕ) → Type 0
RestartsAreCounted {B = B} gives held restarts = (acts : List Act) (end : Option JobEnd) (old new : Driven B) (cell : Cell) →
    Leads gives held restarts acts end old new → restarts new.bus ≡ restarts old.bus →
    HasNoRestartSince cell old.host (held old.bus) → HasNoRestartSince cell new.host (held new.bus)

-- an end is worth what it says, and the converter didn't restart since the cell was read whose word it tells
pub record EndIsTrue (config : Config) (passes : ℕ) (events : List Event) (job : Job) (end : JobEnd) : Type 0 where
  pub says : EndSays job (now config passes events).host (now config passes events).device end
  pub read : IfSome (cell_of_end job end) (λ cell. restarted_since config passes cell events ≡ false)

-- In every life whose newest event is one that the host was told of, the end of the last job says what it is worth.
abbrev pub EndsAreTrue : Type 0
EndsAreTrue = (config : Config) (passes : ℕ) (events : List Event) (job : Job) (end : JobEnd) →
    IsSpelled config → IsLived config passes events →
    newest_tells events ≡ true → last_job (life config passes events).entries ≡ Some job →
    (now config passes events).end ≡ Some end →
    EndIsTrue config passes events job end

-- A new host may begin beside a converter as it was made.
abbrev pub NewConvertersMayBegin : Type 0
NewConvertersMayBegin = (config : Config) (passes : ℕ) →
    length config.starts ≡ 8 → IsSound config → IsSpelled config → IsSetup (setup_of config passes) →
    MayBegin (start (setup_of config passes)) (history.start_of config)

-- What any life left is a part beside which a new host may begin, whatever the passes of the earlier one were.
abbrev pub LivesLeadOn : Type 0
LivesLeadOn = (was : Summary) (held : Held) → HasLife was held → length held.config.starts ≡ 8 → IsAsItIs held
