-- A survey over a life: this project's own choice. Lists are newest first.
use Rattle.std.specs.Prelude.{◌≡◌, ◌≢◌, ◌<◌, ℕ, Bool, true, false, ◌||◌, List, [], ◌∷◌, ◌++◌, Some, None, is_none}
use Rattle.std.specs.List.{list_any}
use Rattle.pm_table.specs.declared.cell.Cell.{Cell}
use Rattle.pm_table.specs.declared.cell.Cell.TheVariants.{Out, Protect}
use Rattle.pm_table.specs.declared.reg.Reg.{Reg}
use Rattle.pm_device.specs.declared.config.Config.{Config}
use Rattle.pm_device.specs.Held.{shape_for}
use Rattle.pm_host.specs.declared.job.Job.{Job}
use Rattle.pm_host.specs.declared.job.JobEnd.{JobEnd}
use Rattle.pm_host.specs.declared.knowledge.Possible.TheVariants.{Any}
use Rattle.pm_host.specs.Summary.{possible_at}
use Rattle.pm_limits.specs.declared.band.Band.{Band}
use Rattle.pm_limits.specs.declared.part_registers.PartRegisters.{PartRegisters}
use Rattle.pm_limits.specs.Band.{InBand, band_at, decides}
use Rattle.pm_limits.specs.Part.{has_register, missing_word}
use Rattle.pm_rail.specs.declared.survey.Survey.{Survey}
use Rattle.pm_rail.specs.Known.{Cells, cells_of, known_at, known_of}
use Rattle.pm_rail.specs.Orders.{is_needed}
use Rattle.pm_rail.specs.Registers.{Wants, wants_of}
use Rattle.pm_rail.specs.Survey as survey
use Rattle.pm_rail.specs.Survey.{asking, ended, is_surveyed, next_job, nothing_read, wanted_in}
use Rattle.pm_world.specs.declared.event.Event.{Event}
use Rattle.pm_world.specs.Bands.{AreShort, HoldsMissing}
use Rattle.pm_world.specs.Confirmed.{reads_cell, restarted_since, restarts_converter}
use Rattle.pm_world.specs.Ended.{begins_other}
use Rattle.pm_world.specs.Honest.{IsSpelled}
use Rattle.pm_world.specs.Job.{asked_by}
use Rattle.pm_world.specs.Life.{now}
use Rattle.pm_world.specs.Limited.{commands}
use Rattle.pm_world.specs.Lived.{IsLived}
use Rattle.pm_world.specs.Possible.{host_has_read}
use Rattle.pm_world.specs.Plans.{IsReadSince, held_at}

-- the host had a good answer for the cell at one of the later of these events
abbrev pub was_read : Config → ℕ → Cell → List Event → List Event → Bool
was_read config passes cell [] before = false
was_read config passes cell (event ∷ later) before =
    reads_cell config passes cell (later ++ before) event || was_read config passes cell later before

-- each cell that a survey counts as read was read at the later of these events
pub record AreRead (config : Config) (passes : ℕ) (v : Survey) (later before : List Event) : Type 0 where
  pub registers : (register : Reg) → survey.has_read v.read register ≡ true →
      was_read config passes (Out v.output register) later before ≡ true
  pub protect : v.read.protect ≡ true → was_read config passes Protect later before ≡ true

-- What a survey counts as read is followed through the events. A survey that has read nothing begins at any moment
-- (`begins`), other events leave it (`more`), and so does the end of a job that it asked for, which no other job nor a
-- restart of the host came between (`told`).
pub record FollowsSurveys (config : Config) (passes : ℕ) (events : List Event) : Type 0 where
  pub begins : (v : Survey) → v.read ≡ nothing_read → AreRead config passes v [] events
  pub more : (v : Survey) (newer later before : List Event) → events ≡ (newer ++ later) ++ before →
      AreRead config passes v later before → AreRead config passes v (newer ++ later) before
  pub told : (part : PartRegisters) (v : Survey) (newer later before : List Event) (event : Event) (job : Job) (end : JobEnd) →
      events ≡ (newer ++ event ∷ later) ++ before → v.output < config.count →
      AreRead config passes v later before →
      next_job part v (now config passes (later ++ before)).host ≡ Some job → asked_by event ≡ Some job →
      list_any begins_other newer ≡ false → (now config passes events).end ≡ Some end →
      AreRead config passes (ended (asking v (Some job)) (Some job) end) (newer ++ event ∷ later) before

-- what the cells may hold by what the host knows after some events of a part with these registers, in an output's own
-- format
abbrev pub cells_at : Config → ℕ → PartRegisters → List Event → ℕ → Cells
cells_at config passes part events output = cells_of part (shape_for config output) (now config passes events).host

-- Each register of an output that is needed, by the word of OPERATION and by what is wanted, is known, and where the part
-- has it the converter didn't restart since the host's last good answer for it.
abbrev pub AreKnownSince : Config → ℕ → PartRegisters → ℕ → Wants → List Event → Type 0
AreKnownSince config passes part output wants events = (register : Reg) →
    is_needed (known_of (cells_at config passes part events output) output) wants register ≡ true →
    (is_none (known_at (cells_at config passes part events output) (Out output register)) ≡ false)
    × (missing_word part (shape_for config output) register ≡ None →
    restarted_since config passes (Out output register) events ≡ false)

-- the host had no good answer for a register that the part doesn't have, as under a guard of such a part
abbrev pub MissingUnread : Config → ℕ → PartRegisters → ℕ → List Event → Type 0
MissingUnread config passes part output events = (register : Reg) → has_register part register ≡ false →
    host_has_read config passes (Out output register) events ≡ false

-- A band has one value, and it is this one.
pub record IsOneValue (band : Band) (config : Config) (passes : ℕ) (events : List Event) (output : ℕ) : Type 0 where
  pub least : band.least ≡ commands config passes events output
  pub greatest : band.greatest ≡ commands config passes events output

-- Each needed register of an output holds the word that is known of it (`words`), and the band has one value, which is what the output
-- commands (`one`), if each is known by an answer since the converter's last restart. They are known so after a survey that ended by its
-- own rule, if the converter didn't restart since the first of its reads (`known`); then all that its plan needs is read, so that the plan
-- may begin (`ready`). What the output commands, however the survey ended, lies in the band if the converter didn't restart since the
-- answers for the registers that decide and that it hasn't read (`band`). The converter's cell of a VOUT_MIN or VOUT_MAX that the part
-- doesn't have holds the word that never cuts.
pub record KeepsSurveys (config : Config) (passes : ℕ) (events : List Event) : Type 0 where
  pub words : (part : PartRegisters) (output : ℕ) (wants : Wants) (register : Reg) → output < config.count →
      HoldsMissing part config (now config passes events).device.words output →
      AreKnownSince config passes part output wants events →
      is_needed (known_of (cells_at config passes part events output) output) wants register ≡ true →
      held_at config passes events output register ≡ known_of (cells_at config passes part events output) output register
  pub one : (part : PartRegisters) (output : ℕ) (wants : Wants) (band : Band) → output < config.count →
      HoldsMissing part config (now config passes events).device.words output →
      AreKnownSince config passes part output wants events →
      band_at part (now config passes events).host output ≡ Some band → IsOneValue band config passes events output
  pub known : (part : PartRegisters) (v : Survey) (later before : List Event) → events ≡ later ++ before →
      v.output < config.count → MissingUnread config passes part v.output events →
      AreRead config passes v later before → list_any restarts_converter later ≡ false →
      is_surveyed part v (now config passes events).host ≡ true →
      AreKnownSince config passes part v.output (wants_of (wanted_in v.plan)) events
  pub ready : (part : PartRegisters) (v : Survey) (later before : List Event) → events ≡ later ++ before →
      v.output < config.count → MissingUnread config passes part v.output events →
      HoldsMissing part config (now config passes events).device.words v.output →
      AreRead config passes v later before → list_any restarts_converter later ≡ false →
      is_surveyed part v (now config passes events).host ≡ true →
      IsReadSince config passes v.output (wants_of (wanted_in v.plan)) events
  pub band : (part : PartRegisters) (v : Survey) (later before : List Event) (band : Band) → events ≡ later ++ before →
      v.output < config.count → AreShort (now config passes events).device.words v.output →
      HoldsMissing part config (now config passes events).device.words v.output →
      AreRead config passes v later before → list_any restarts_converter later ≡ false →
      ((register : Reg) → decides (λ r. possible_at (now config passes events).host (Out v.output r)) register ≡ true →
      possible_at (now config passes events).host (Out v.output register) ≢ Any →
      survey.has_read v.read register ≡ false →
      restarted_since config passes (Out v.output register) events ≡ false) →
      band_at part (now config passes events).host v.output ≡ Some band →
      InBand band (commands config passes events v.output)

-- in each life
pub record SurveysHoldInLives : Type 0 where
  pub follows : (config : Config) (passes : ℕ) (events : List Event) →
      IsLived config passes events → FollowsSurveys config passes events
  pub keeps : (config : Config) (passes : ℕ) (events : List Event) →
      IsSpelled config → IsLived config passes events → KeepsSurveys config passes events
