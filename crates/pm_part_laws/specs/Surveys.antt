-- A survey beside a part as it is: this project's own choice. Lists are newest first.
use Rattle.std.specs.Prelude.{◌≡◌, ◌≢◌, ◌<◌, ℕ, Bool, true, false, ◌||◌, List, [], ◌∷◌, ◌++◌, Some, None, is_none}
use Rattle.std.specs.List.{list_any}
use Rattle.pm_table.specs.declared.cell.Cell.{Cell}
use Rattle.pm_table.specs.declared.cell.Cell.TheVariants.{Out, Protect}
use Rattle.pm_table.specs.declared.reg.Reg.{Reg}
use Rattle.pm_model.specs.Settings.{word_at}
use Rattle.pm_device.specs.Held.{Held, shape_for}
use Rattle.pm_host.specs.declared.job.Job.{Job}
use Rattle.pm_host.specs.declared.job.JobEnd.{JobEnd}
use Rattle.pm_host.specs.declared.knowledge.Possible.TheVariants.{Any}
use Rattle.pm_host.specs.Summary.{possible_at}
use Rattle.pm_limits.specs.declared.band.Band.{Band}
use Rattle.pm_limits.specs.declared.part_registers.PartRegisters.{PartRegisters}
use Rattle.pm_limits.specs.Band.{InBand, band_at, decides}
use Rattle.pm_limits.specs.Part.{has_register, missing_word}
use Rattle.pm_rail.specs.declared.survey.Survey.{Survey}
use Rattle.pm_rail.specs.Known.{Cells, cells_of, known_at, known_of}
use Rattle.pm_rail.specs.Orders.{is_needed}
use Rattle.pm_rail.specs.Registers.{Wants, wants_of}
use Rattle.pm_rail.specs.Registers as rail
use Rattle.pm_rail.specs.Survey as survey
use Rattle.pm_rail.specs.Survey.{asking, is_surveyed, next_job, nothing_read, wanted_in}
use Rattle.pm_world.specs.declared.event.Event.{Event}
use Rattle.pm_world.specs.Bands.{AreShort, HoldsMissing}
use Rattle.pm_world.specs.Job.{asked_by}
use Rattle.pm_part_laws.specs.Answers.{answers, host_has_read_beside, restarted_since_beside}
use Rattle.pm_part_laws.specs.Happenings.{Happening, Happens, IsLifeBeside, begins_another, beside, restarts}
use Rattle.pm_part_laws.specs.OwnWords.{commands_beside}

-- the host had a good answer for the cell at one of the later of these happenings
abbrev pub was_read_beside : Held → ℕ → Cell → List Happening → List Happening → Bool
was_read_beside held passes cell [] before = false
was_read_beside held passes cell (one ∷ later) before = answers held passes cell (later ++ before) one
    || was_read_beside held passes cell later before

-- each cell that a survey counts as read was read later
pub record AreRead (held : Held) (passes : ℕ) (v : Survey) (later before : List Happening) : Type 0 where
  pub registers : (register : Reg) → survey.has_read v.read register ≡ true →
      was_read_beside held passes (Out v.output register) later before ≡ true
  pub protect : v.read.protect ≡ true → was_read_beside held passes Protect later before ≡ true

-- the words that an output's registers hold
abbrev pub held_at_beside : Held → ℕ → List Happening → ℕ → rail.Held
held_at_beside held passes happened output register = word_at (beside held passes happened).device.words (Out output register)

-- what the cells may hold by what the host knows of a part with these registers, in an output's own format
abbrev pub cells_at_beside : Held → ℕ → PartRegisters → List Happening → ℕ → Cells
cells_at_beside held passes part happened output = cells_of part (shape_for held.config output) (beside held passes happened).host

-- Each register of an output that is needed, by the word of OPERATION and by what is wanted, is known, and where the part has it the part
-- didn't restart since the host's last good answer for it.
abbrev pub AreKnownSinceBeside : Held → ℕ → PartRegisters → ℕ → Wants → List Happening → Type 0
AreKnownSinceBeside held passes part output wants happened = (register : Reg) →
    is_needed (known_of (cells_at_beside held passes part happened output) output) wants register ≡ true →
    (is_none (known_at (cells_at_beside held passes part happened output) (Out output register)) ≡ false)
    × (missing_word part (shape_for held.config output) register ≡ None →
    restarted_since_beside held passes (Out output register) happened ≡ false)

-- the host had no good answer for a register that the part doesn't have, as under a guard of such a part
abbrev pub MissingUnreadBeside : Held → ℕ → PartRegisters → ℕ → List Happening → Type 0
MissingUnreadBeside held passes part output happened = (register : Reg) → has_register part register ≡ false →
    host_has_read_beside held passes (Out output register) happened ≡ false

-- a band has one value, and the output commands it
pub record IsOneValue (band : Band) (held : Held) (passes : ℕ) (happened : List Happening) (output : ℕ) : Type 0 where
  pub least : band.least ≡ commands_beside held passes happened output
  pub greatest : band.greatest ≡ commands_beside held passes happened output

-- What a survey counts as read is followed through what happens: of a survey that has read nothing (`begins`), and at the end of a job that
-- it asked for, which no other job nor a restart of the host came between (`told`); anything else leaves it (`more`).
--
-- Each needed register of an output holds the word that is known of it (`words`), and the band has one value, which the output commands
-- (`one`), if each is known by an answer since the part's last restart. They are known so after a survey that ended by its own rule, if the
-- part didn't restart since the first of its reads (`known`). What the output commands, however the survey ended, lies in the band if the
-- part didn't restart since the answers for the registers that decide and that the survey hasn't read (`band`).
pub record SurveysHoldBeside : Type 0 where
  pub begins : (held : Held) (passes : ℕ) (v : Survey) (before : List Happening) → IsLifeBeside held passes before →
      v.read ≡ nothing_read → AreRead held passes v [] before
  pub more : (held : Held) (passes : ℕ) (v : Survey) (newer later before : List Happening) →
      AreRead held passes v later before → AreRead held passes v (newer ++ later) before
  pub told : (held : Held) (passes : ℕ) (part : PartRegisters) (v : Survey) (newer later before : List Happening) (event : Event) (job : Job)
      (end : JobEnd) → IsLifeBeside held passes ((newer ++ Happens event ∷ later) ++ before) → v.output < held.config.count →
      AreRead held passes v later before →
      next_job part v (beside held passes (later ++ before)).host ≡ Some job → asked_by event ≡ Some job →
      list_any begins_another newer ≡ false → (beside held passes ((newer ++ Happens event ∷ later) ++ before)).end ≡ Some end →
      AreRead held passes (survey.ended (asking v (Some job)) (Some job) end) (newer ++ Happens event ∷ later) before
  pub words : (held : Held) (passes : ℕ) (part : PartRegisters) (output : ℕ) (wants : Wants) (register : Reg) (happened : List Happening) →
      IsLifeBeside held passes happened → output < held.config.count →
      HoldsMissing part held.config (beside held passes happened).device.words output →
      AreKnownSinceBeside held passes part output wants happened →
      is_needed (known_of (cells_at_beside held passes part happened output) output) wants register ≡ true →
      held_at_beside held passes happened output register ≡ known_of (cells_at_beside held passes part happened output) output register
  pub one : (held : Held) (passes : ℕ) (part : PartRegisters) (output : ℕ) (wants : Wants) (band : Band) (happened : List Happening) →
      IsLifeBeside held passes happened → output < held.config.count →
      HoldsMissing part held.config (beside held passes happened).device.words output →
      AreKnownSinceBeside held passes part output wants happened →
      band_at part (beside held passes happened).host output ≡ Some band → IsOneValue band held passes happened output
  pub known : (held : Held) (passes : ℕ) (part : PartRegisters) (v : Survey) (later before : List Happening) →
      IsLifeBeside held passes (later ++ before) → v.output < held.config.count →
      MissingUnreadBeside held passes part v.output (later ++ before) →
      AreRead held passes v later before → list_any restarts later ≡ false →
      is_surveyed part v (beside held passes (later ++ before)).host ≡ true →
      AreKnownSinceBeside held passes part v.output (wants_of (wanted_in v.plan)) (later ++ before)
  pub band : (held : Held) (passes : ℕ) (part : PartRegisters) (v : Survey) (later before : List Happening) (band : Band) →
      IsLifeBeside held passes (later ++ before) → v.output < held.config.count →
      AreShort (beside held passes (later ++ before)).device.words v.output →
      HoldsMissing part held.config (beside held passes (later ++ before)).device.words v.output →
      AreRead held passes v later before → list_any restarts later ≡ false →
      ((register : Reg) → decides (λ r. possible_at (beside held passes (later ++ before)).host (Out v.output r)) register ≡ true →
      possible_at (beside held passes (later ++ before)).host (Out v.output register) ≢ Any →
      survey.has_read v.read register ≡ false →
      restarted_since_beside held passes (Out v.output register) (later ++ before) ≡ false) →
      band_at part (beside held passes (later ++ before)).host v.output ≡ Some band →
      InBand band (commands_beside held passes (later ++ before) v.output)
