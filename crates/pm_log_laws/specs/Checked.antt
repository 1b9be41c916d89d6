-- What the claims of a log are worth over lives: this project's own choice. Lists of events are newest first, a log is
-- oldest first.
use Rattle.std.specs.Prelude.{Bool, Option, ◌≡◌, ◌≢◌, ◌<◌, ℕ, ℤ, true, false, List, [], ◌∷◌, ◌++◌, Some, None, IsSome, slice_get}
use Rattle.std.specs.List.{list_any}
use Rattle.pm_table.specs.declared.cell.Cell.{Cell}
use Rattle.pm_table.specs.declared.cell.Cell.TheVariants.{Out}
use Rattle.pm_table.specs.declared.reg.Reg.{Reg}
use Rattle.pm_table.specs.declared.reg.Reg.TheVariants.{Operation, VoutMax, VoutMin}
use Rattle.pm_host.specs.Marks.{marks}
use Rattle.pm_table.specs.Cell.{same_cell}
use Rattle.pm_model.specs.declared.order_machine.PendingJob.{PendingJob}
use Rattle.pm_model.specs.declared.order_machine.PendingJob.TheVariants as pending
use Rattle.pm_world.specs.Retelling.{open_pending}
use Rattle.pm_model.specs.Commanded.{selected_register}
use Rattle.pm_model.specs.Settings.{word_at}
use Rattle.pm_device.specs.declared.config.Config.{Config}
use Rattle.pm_log.specs.declared.act.Act.{Act}
use Rattle.pm_log.specs.declared.claim.Claim.{Claim}
use Rattle.pm_log.specs.declared.claim.Claim.TheVariants.{Holds, Commands}
use Rattle.pm_limits.specs.declared.part_registers.PartRegisters.{PartRegisters}
use Rattle.pm_limits.specs.Bounds.{Bounds, IsWithin, bounds_fault}
use Rattle.pm_limits.specs.Band.{band_at}
use Rattle.pm_log.specs.Checks.{Accepts, MightCome, is_claimed, replayed, transcript}
use Rattle.pm_world.specs.declared.event.Event.{Event}
use Rattle.pm_world.specs.Bands.{AreShort, BandStands, HoldsMissing, MissingUntold}
use Rattle.pm_world.specs.Honest.{IsSpelled}
use Rattle.pm_world.specs.Limited.{commands}
use Rattle.pm_world.specs.Confirmed.{reads_cell, restarted_since, restarts_converter}
use Rattle.pm_world.specs.Life.{life, now}
use Rattle.pm_world.specs.Lived.{IsLived}
use Rattle.pm_world.specs.Possible.{restarted_since_host, restarts_host}
use Rattle.pm_world.specs.Setup.{setup_of}
use Rattle.pm_world.specs.Surveys.{was_read}
use Rattle.pm_world.specs.Uncertainty.{AreOpen, AreSteady, IsLike, since_restart}

-- A life tells a log: since it last started, the host was asked for and told just what the log has since then. What was before
-- is any life.
abbrev pub TellsLog : Config → ℕ → List Event → List Act → Type 0
TellsLog config passes events log =
    since_restart (life config passes events).entries ≡ since_restart (transcript (setup_of config passes) log)

-- The host's last good answer for the cell since it last started came with this event, and the converter held the word then.
pub record HeldWhenRead (config : Config) (passes : ℕ) (cell : Cell) (word : ℕ) (events : List Event) : Type 0 where
  pub later : List Event
  pub event : Event
  pub before : List Event
  pub at : events ≡ later ++ event ∷ before
  pub read : reads_cell config passes cell before event ≡ true
  pub last : was_read config passes cell later (event ∷ before) ≡ false
  pub steady : list_any restarts_host later ≡ false
  pub held : word_at (now config passes (event ∷ before)).device.words cell ≡ word

-- Each claim of an accepted log, of each life that tells it. Of a word: the converter held it when the host last read the cell
-- (`read`), and holds it at the end, unless it restarted since (`held`). Of a voltage: what the output commands at the end lies
-- between the microvolts, unless the converter restarted since the good answers that the band rests on; of a part that is said to
-- lack VOUT_MIN or VOUT_MAX it asks that no such register cuts the output (`commands`).
pub record AcceptedClaimsAreHeld : Type 0 where
  pub read : (config : Config) (passes : ℕ) (events : List Event) (log : List Act) (claims : List Claim) (at : ℕ) (cell : Cell) (word : ℕ) →
      IsLived config passes events → TellsLog config passes events log →
      Accepts (setup_of config passes) log claims → slice_get claims at ≡ Some (Holds cell word) →
      HeldWhenRead config passes cell word events
  pub held : (config : Config) (passes : ℕ) (events : List Event) (log : List Act) (claims : List Claim) (at : ℕ) (cell : Cell) (word : ℕ) →
      IsLived config passes events → TellsLog config passes events log →
      Accepts (setup_of config passes) log claims → slice_get claims at ≡ Some (Holds cell word) →
      restarted_since config passes cell events ≡ false →
      word_at (now config passes events).device.words cell ≡ word
  pub commands : (config : Config) (passes : ℕ) (events : List Event) (log : List Act) (claims : List Claim) (at : ℕ) (output : ℕ)
      (part : PartRegisters) (least most : ℤ) →
      IsSpelled config → IsLived config passes events → TellsLog config passes events log →
      Accepts (setup_of config passes) log claims → slice_get claims at ≡ Some (Commands output part least most) →
      AreShort (now config passes events).device.words output →
      BandStands config passes events (now config passes events).host output →
      HoldsMissing part config (now config passes events).device.words output →
      IsWithin (record { least = least; most = most }) (commands config passes events output)

-- A life whose host was told the log, of a converter with this start, at which the cell holds another word at the end. Neither end
-- restarts in it.
pub record LeavesOther (config : Config) (passes : ℕ) (log : List Act) (cell : Cell) (word : ℕ) : Type 0 where
  pub start : Config
  pub events : List Event
  pub alike : IsLike config start
  pub lived : IsLived start passes events
  pub steady : AreSteady events
  pub tells : TellsLog start passes events log
  pub other : word_at (now start passes events).device.words cell ≢ word

-- Nothing less would do: a claim that a log doesn't force is refused only where it is false of some life that tells the log. Let
-- there be a life that does, in which the converter didn't restart since the host last started, and let the log order and read
-- no other word of WRITE_PROTECT than 00h, and no restore.
abbrev pub UnknownClaimsAreOpen : Type 0
UnknownClaimsAreOpen = (config : Config) (passes : ℕ) (events : List Event) (log : List Act) (output : ℕ) (register : Reg) (word : ℕ) →
    IsLived config passes events → TellsLog config passes events log → MightCome (setup_of config passes) log →
    restarted_since_host events ≡ false →
    AreOpen (marks (setup_of config passes) (since_restart (transcript (setup_of config passes) log))) →
    output < config.count →
    is_claimed (replayed (setup_of config passes) log) (Holds (Out output register) word) ≡ false →
    LeavesOther config passes log (Out output register) word

-- A life whose host was told the log, at whose end what the output commands doesn't lie between these microvolts. Neither end
-- restarts in it.
pub record CommandsOther (config : Config) (passes : ℕ) (log : List Act) (output : ℕ) (bounds : Bounds) : Type 0 where
  pub start : Config
  pub events : List Event
  pub alike : IsLike config start
  pub lived : IsLived start passes events
  pub steady : AreSteady events
  pub tells : TellsLog start passes events log
  pub outside : IsWithin bounds (commands start passes events output) → ⊥

-- If the host has a band after the log, microvolts that the claim isn't known for are left by some life that tells the log.
abbrev pub UnknownVoltagesAreOpen : Type 0
UnknownVoltagesAreOpen = (config : Config) (passes : ℕ) (events : List Event) (log : List Act) (output : ℕ) (part : PartRegisters)
    (least most : ℤ) →
    IsSpelled config → IsLived config passes events → TellsLog config passes events log → MightCome (setup_of config passes) log →
    restarted_since_host events ≡ false →
    AreOpen (marks (setup_of config passes) (since_restart (transcript (setup_of config passes) log))) →
    MissingUntold part config (replayed (setup_of config passes) log) →
    output < config.count → bounds_fault least most ≡ None → IsSome (band_at part (replayed (setup_of config passes) log) output) →
    is_claimed (replayed (setup_of config passes) log) (Commands output part least most) ≡ false →
    CommandsOther config passes log output (record { least = least; most = most })

-- the open job may write the cell: an order of it, and a restore
abbrev pub may_write : Cell → Option PendingJob → Bool
may_write cell None = false
may_write cell (Some (pending.Order other word)) = same_cell other cell
may_write cell (Some pending.Store) = false
may_write cell (Some pending.Restore) = true

-- at none of the later events the converter restarts or such a job is open
abbrev pub LeavesCell : Config → ℕ → Cell → List Event → List Event → Type 0
LeavesCell config passes cell [] before = Unit {0}
LeavesCell config passes cell (event ∷ later) before = (restarts_converter event ≡ false)
    × (may_write cell (open_pending config passes (later ++ before)) ≡ false)
    × LeavesCell config passes cell later before

-- The word that an accepted log claims stays after the log, as long as that is so.
abbrev pub AcceptedClaimsStay : Type 0
AcceptedClaimsStay = (config : Config) (passes : ℕ) (later before : List Event) (log : List Act) (claims : List Claim) (at : ℕ)
    (cell : Cell) (word : ℕ) →
    IsLived config passes (later ++ before) → TellsLog config passes before log →
    Accepts (setup_of config passes) log claims → slice_get claims at ≡ Some (Holds cell word) →
    restarted_since config passes cell before ≡ false → LeavesCell config passes cell later before →
    word_at (now config passes (later ++ before)).device.words cell ≡ word

-- none of the four words by which an output commands may be written at the later events: OPERATION, the word that it selects, and those
-- of VOUT_MAX and VOUT_MIN
pub record LeavesCommand (config : Config) (passes : ℕ) (output : ℕ) (later before : List Event) : Type 0 where
  pub operation : LeavesCell config passes (Out output Operation) later before
  pub selected : LeavesCell config passes
      (Out output (selected_register (word_at (now config passes before).device.words (Out output Operation)))) later before
  pub most : LeavesCell config passes (Out output VoutMax) later before
  pub least : LeavesCell config passes (Out output VoutMin) later before

-- What the output commands stays between the microvolts that an accepted log claims, as long as that is so. The premises are those of `commands`,
-- at the end of the log.
abbrev pub AcceptedVoltagesStay : Type 0
AcceptedVoltagesStay = (config : Config) (passes : ℕ) (later before : List Event) (log : List Act) (claims : List Claim) (at : ℕ)
    (output : ℕ) (part : PartRegisters) (least most : ℤ) →
    IsSpelled config → IsLived config passes (later ++ before) → TellsLog config passes before log →
    Accepts (setup_of config passes) log claims → slice_get claims at ≡ Some (Commands output part least most) →
    AreShort (now config passes before).device.words output →
    BandStands config passes before (now config passes before).host output →
    HoldsMissing part config (now config passes before).device.words output →
    LeavesCommand config passes output later before →
    IsWithin (record { least = least; most = most }) (commands config passes (later ++ before) output)
