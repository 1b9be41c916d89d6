-- What the claims of a log are worth beside a part as it is, while anybody reads the part: this project's own choice. Lists of what happened
-- are newest first, a log is oldest first.
use Rattle.std.specs.Prelude.{◌≡◌, ℕ, ℤ, false, List, [], ◌∷◌, ◌++◌, Some, slice_get}
use Rattle.pm_table.specs.declared.cell.Cell.{Cell}
use Rattle.pm_table.specs.declared.cell.Cell.TheVariants.{Out}
use Rattle.pm_table.specs.declared.reg.Reg.TheVariants.{Operation, VoutMax, VoutMin}
use Rattle.pm_model.specs.Commanded.{selected_register}
use Rattle.pm_model.specs.Settings.{word_at}
use Rattle.pm_device.specs.Held.{Held}
use Rattle.pm_log.specs.declared.act.Act.{Act}
use Rattle.pm_log.specs.declared.claim.Claim.{Claim}
use Rattle.pm_log.specs.declared.claim.Claim.TheVariants.{Holds, Commands}
use Rattle.pm_log.specs.Checks.{Accepts, transcript}
use Rattle.pm_limits.specs.declared.part_registers.PartRegisters.{PartRegisters}
use Rattle.pm_limits.specs.Bounds.{IsWithin}
use Rattle.pm_world.specs.Bands.{AreShort, HoldsMissing}
use Rattle.pm_world.specs.Confirmed.{restarts_converter}
use Rattle.pm_world.specs.Setup.{setup_of}
use Rattle.pm_world.specs.Uncertainty.{since_restart}
use Rattle.pm_part_laws.specs.Answers.{restarted_since_beside}
use Rattle.pm_part_laws.specs.Happenings.{Happening, Happens, Hears, IsLifeBeside, beside, entries_beside}
use Rattle.pm_part_laws.specs.Limits.{BandStandsBeside}
use Rattle.pm_part_laws.specs.Moves.{open_pending_beside}
use Rattle.pm_part_laws.specs.OwnWords.{commands_beside}
use Rattle.pm_log_laws.specs.Checked.{may_write}

-- The host beside a part tells a log: since it last started, it was asked for and told just what the log has since then. What anybody else
-- asked the part isn't in the log.
abbrev pub TellsLogBeside : Held → ℕ → List Happening → List Act → Type 0
TellsLogBeside held passes happened log =
    since_restart (entries_beside held passes happened) ≡ since_restart (transcript (setup_of held.config passes) log)

-- at none of the later happenings the part restarts or a job is open that may write the cell
abbrev pub LeavesCellBeside : Held → ℕ → Cell → List Happening → List Happening → Type 0
LeavesCellBeside held passes cell [] before = Unit {0}
LeavesCellBeside held passes cell (Happens event ∷ later) before = (restarts_converter event ≡ false)
    × (may_write cell (open_pending_beside held passes (later ++ before)) ≡ false)
    × LeavesCellBeside held passes cell later before
LeavesCellBeside held passes cell (Hears bytes ending ∷ later) before = LeavesCellBeside held passes cell later before

-- none of the four words by which an output commands may be written later
pub record LeavesCommand (held : Held) (passes : ℕ) (output : ℕ) (later before : List Happening) : Type 0 where
  pub operation : LeavesCellBeside held passes (Out output Operation) later before
  pub selected : LeavesCellBeside held passes
      (Out output (selected_register (word_at (beside held passes before).device.words (Out output Operation)))) later before
  pub most : LeavesCellBeside held passes (Out output VoutMax) later before
  pub least : LeavesCellBeside held passes (Out output VoutMin) later before

-- Each claim of an accepted log, of each host beside a part that tells it. The part holds the claimed word, unless it restarted since the
-- host's last good answer for it (`held`), and what the output commands lies between the claimed microvolts, unless the part restarted since
-- the answers that the band rests on (`voltage`). Both stay so while the part doesn't restart and no job is open that may write what the
-- claim speaks of (`stays`, `voltage_stays`). Of a part that is said to lack VOUT_MIN or VOUT_MAX no such register cuts the output.
pub record AcceptedClaimsHoldBeside : Type 0 where
  pub holds : (held : Held) (passes : ℕ) (happened : List Happening) (log : List Act) (claims : List Claim) (at : ℕ) (cell : Cell) (word : ℕ) →
      IsLifeBeside held passes happened → TellsLogBeside held passes happened log →
      Accepts (setup_of held.config passes) log claims → slice_get claims at ≡ Some (Holds cell word) →
      restarted_since_beside held passes cell happened ≡ false →
      word_at (beside held passes happened).device.words cell ≡ word
  pub voltage : (held : Held) (passes : ℕ) (happened : List Happening) (log : List Act) (claims : List Claim) (at : ℕ) (output : ℕ)
      (part : PartRegisters) (least most : ℤ) →
      IsLifeBeside held passes happened → TellsLogBeside held passes happened log →
      Accepts (setup_of held.config passes) log claims → slice_get claims at ≡ Some (Commands output part least most) →
      AreShort (beside held passes happened).device.words output → BandStandsBeside held passes happened output →
      HoldsMissing part held.config (beside held passes happened).device.words output →
      IsWithin (record { least = least; most = most }) (commands_beside held passes happened output)
  pub stays : (held : Held) (passes : ℕ) (later before : List Happening) (log : List Act) (claims : List Claim) (at : ℕ)
      (cell : Cell) (word : ℕ) →
      IsLifeBeside held passes (later ++ before) → TellsLogBeside held passes before log →
      Accepts (setup_of held.config passes) log claims → slice_get claims at ≡ Some (Holds cell word) →
      restarted_since_beside held passes cell before ≡ false → LeavesCellBeside held passes cell later before →
      word_at (beside held passes (later ++ before)).device.words cell ≡ word
  pub voltage_stays : (held : Held) (passes : ℕ) (later before : List Happening) (log : List Act) (claims : List Claim) (at : ℕ)
      (output : ℕ) (part : PartRegisters) (least most : ℤ) →
      IsLifeBeside held passes (later ++ before) → TellsLogBeside held passes before log →
      Accepts (setup_of held.config passes) log claims → slice_get claims at ≡ Some (Commands output part least most) →
      AreShort (beside held passes before).device.words output → BandStandsBeside held passes before output →
      HoldsMissing part held.config (beside held passes before).device.words output →
      LeavesCommand held passes output later before →
      IsWithin (record { least = least; most = most }) (commands_beside held passes (later ++ before) output)
