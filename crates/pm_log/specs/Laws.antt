-- A log and the acts that it says: what its lines come to is what a check says of its acts and claims. Lists of lines and of
-- acts are newest first. This project's own choice.
use Rattle.std.specs.Prelude.{◌≡◌, ℕ, ◌+◌, Bool, true, false, not, ◌&&◌, ◌||◌, ◌==◌, if◌then◌else◌, List, [], ◌∷◌, ◌++◌, length, reverse, Option, Some, None, IsSomeAnd, option_map, Result, Ok, Err}
use Rattle.std.specs.Option.{option_map_or}
use denote.Ref.{Bor}
use Rattle.pm_host.specs.declared.host.Told.{Told}
use Rattle.pm_host.specs.declared.host.Told.TheVariants as told
use Rattle.pm_host.specs.declared.job.Job.{Job}
use Rattle.pm_host.specs.Refusals.{is_busy}
use Rattle.pm_host.specs.Summary.{Summary, start}
use Rattle.pm_host.specs.Told.{entry_told}
use Rattle.pm_host.specs.Transcript.{Setup}
use Rattle.pm_log.specs.declared.act.Act.{Act}
use Rattle.pm_log.specs.declared.act.Act.TheVariants as act
use Rattle.pm_log.specs.declared.claim.Claim.{Claim}
use Rattle.pm_log.specs.declared.claim.Claim.TheVariants.{Holds, Commands}
use Rattle.pm_log.specs.declared.check_fault.CheckFault.TheVariants as check
use Rattle.pm_log.specs.Checks.{Accepts, Checks, all_after}
use Rattle.pm_limits.specs.declared.part_registers.PartRegisters.{PartRegisters}
use Rattle.pm_limits.specs.Part.{has_register}
use Rattle.pm_table.specs.Cell.{same_cell}
use Rattle.pm_table.specs.declared.cell.Cell.{Cell}
use Rattle.pm_table.specs.declared.cell.Cell.TheVariants.{Out}
use Rattle.pm_table.specs.declared.reg.Reg.{Reg}
use Rattle.pm_log.specs.Answered.{cell_of_answer}
use Rattle.pm_log.specs.Jobs.{job_in_frame}
use Rattle.pm_log.specs.Lacks.{part_at}
use Rattle.std.specs.Prelude.{map}
use Rattle.std.specs.List.{enumerate_from}
use Rattle.pm_log.specs.Logs.{Known, came_of, line_accepted, line_said, known_before_lines}
use Rattle.pm_log.specs.Texts.{log_of, raw_lines}
use Rattle.pm_text.specs.declared.scenario.fault.ScenarioFault.{ScenarioFault}
use Rattle.pm_log.specs.Replays.{frame_fits, is_answer}
use Rattle.pm_log.specs.declared.fault.LogFault.{LogFault}
use Rattle.pm_log.specs.declared.log_line.LogLine.{LogLine}
use Rattle.pm_log.specs.declared.log_line.LogLine.TheVariants.{Note, Head, Claimed, Sent, Failed}

-- ---- the acts of lines

-- what a host was made with, and its acts
pub record Log : Type 0 where
  pub setup : Setup
  pub acts : List Act

-- what a host holds that heard them
abbrev pub host_after_log : Log → Summary
host_after_log log = all_after (start log.setup) log.acts

-- bytes as an act has them, wherever they stand
abbrev pub at_hand : List ℕ → Bor (List ℕ)
at_hand bytes = record { ref_ptr = (0, 0); now = bytes }

-- what came of a packet, as a host hears it
abbrev pub told_of_packet : Option (List ℕ) → Told
told_of_packet (Some bytes) = told.Got (at_hand bytes)
told_of_packet None = told.Finished true

-- the acts after a restart, which comes if a job is open
abbrev pub with_restart : Summary → List Act → List Act
with_restart s before = if is_busy s then act.Restarted ∷ before else before

-- the acts after the first frame of a job that it names; no act is one that names none
abbrev pub acts_with_job : Summary → Act → Result (Option Job) LogFault → List Act → List Act
acts_with_job s sent (Ok (Some job)) before = sent ∷ act.Begun job ∷ with_restart s before
acts_with_job s sent _ before = before

-- the acts after a transfer, for a host that holds this
abbrev pub with_transfer : Summary → List ℕ → Told → List Act → List Act
with_transfer s frame came before = if frame_fits s frame (entry_told came) then act.Sent (at_hand frame) came ∷ before
    else acts_with_job s (act.Sent (at_hand frame) came) (job_in_frame s.setup.addr frame (is_answer (entry_told came))) before

abbrev pub log_told : List ℕ → Told → Log → Log
log_told frame came log = record log { acts = with_transfer (host_after_log log) frame came log.acts }

-- the log with one line more
abbrev pub log_with : Option Log → LogLine → Option Log
log_with log Note = log
log_with log (Head addr outputs passes) =
    Some (record { setup = record { addr = addr; outputs = outputs; passes = passes }; acts = [] })
log_with log (Claimed claim) = log
log_with log (Sent parts) = option_map (log_told parts.write (told_of_packet parts.read)) log
log_with log (Failed write) = option_map (log_told write (told.Finished false)) log

-- the log of lines: since the last head
abbrev pub log_of_lines : List LogLine → Option Log
log_of_lines [] = None
log_of_lines (line ∷ before) = log_with (log_of_lines before) line

-- ---- what lines come to

-- a line of this number more
abbrev pub known_by_line : ℕ → Result Known LogFault → LogLine → Result Known LogFault
known_by_line number (Ok known) line = line_accepted number known line
known_by_line number (Err fault) line = Err fault

-- what lines come to for a receiver who lets parts lack these registers
abbrev pub known_of_lines : List PartRegisters → List LogLine → Result Known LogFault
known_of_lines allowed [] = Ok (known_before_lines allowed)
known_of_lines allowed (line ∷ before) = known_by_line (length before + 1) (known_of_lines allowed before) line

-- ---- what is said of a part

-- in the line the part at this address answers for the cell
abbrev pub line_answers : ℕ → Cell → LogLine → Bool
line_answers addr cell (Sent parts) =
    option_map_or (λ answered. same_cell answered cell) (cell_of_answer addr parts.write (came_of parts.read)) false
line_answers addr cell _ = false

-- it does so in a line since the last head
abbrev pub answered_since : ℕ → Cell → List LogLine → Bool
answered_since addr cell [] = false
answered_since addr cell (Head head outputs passes ∷ before) = false
answered_since addr cell (line ∷ before) = line_answers addr cell line || answered_since addr cell before

-- A claim after these lines says of the part of the last head that it lacks only registers that the receiver lets it lack, and for which it
-- didn't answer since that head.
pub record IsLacking (allowed : List PartRegisters) (addr : ℕ) (before : List LogLine) (output : ℕ) (part : PartRegisters) : Type 0 where
  pub permitted : (register : Reg) → has_register part register ≡ false → has_register (part_at allowed addr) register ≡ false
  pub unanswered : (register : Reg) → has_register part register ≡ false → answered_since addr (Out output register) before ≡ false

abbrev pub IsTrusted : List PartRegisters → ℕ → List LogLine → Claim → Type 0
IsTrusted allowed addr before (Holds cell word) = Unit {0}
IsTrusted allowed addr before (Commands output part least most) = IsLacking allowed addr before output part

-- a claim in these lines says of the part at this address that it lacks the register
abbrev pub claims_lack : Option Log → ℕ → Reg → Claim → Bool
claims_lack log addr register (Holds cell word) = false
claims_lack log addr register (Commands output part least most) =
    option_map_or (λ log. log.setup.addr == addr) log false && not (has_register part register)

abbrev pub are_lacking : ℕ → Reg → List LogLine → Bool
are_lacking addr register [] = false
are_lacking addr register (Claimed claim ∷ before) =
    claims_lack (log_of_lines before) addr register claim || are_lacking addr register before
are_lacking addr register (line ∷ before) = are_lacking addr register before

-- ---- the law

-- A claim in lines that are accepted is accepted by `check` of the acts of the lines before it, and says that the part lacks no other
-- registers than the receiver lets it lack, for none of which it answered; a claim that isn't accepted after lines that are is one that
-- says more than that, or the one that `check` names; and a register is named as lacking exactly if an accepted claim says it.
pub record LinesAreChecked : Type 0 where
  pub accepted : (allowed : List PartRegisters) (later before : List LogLine) (claim : Claim) (known : Known) →
      known_of_lines allowed (later ++ Claimed claim ∷ before) ≡ Ok known →
      IsSomeAnd (log_of_lines before) (λ log. Accepts log.setup (reverse log.acts) (claim ∷ [])
      × IsTrusted allowed log.setup.addr before claim)
  pub refused : (allowed : List PartRegisters) (before : List LogLine) (number : ℕ) (claim : Claim) (known : Known) (log : Log)
      (fault : LogFault) → known_of_lines allowed before ≡ Ok known → log_of_lines before ≡ Some log →
      line_accepted number known (Claimed claim) ≡ Err fault → IsTrusted allowed log.setup.addr before claim →
      Checks log.setup (reverse log.acts) (claim ∷ []) (Err (check.Claim 0))
  pub lacking : (allowed : List PartRegisters) (lines : List LogLine) (known : Known) (addr : ℕ) (register : Reg) →
      known_of_lines allowed lines ≡ Ok known → has_register (part_at known.without addr) register ≡ not (are_lacking addr register lines)

abbrev pub ok_line : LogLine → Result LogLine ScenarioFault
ok_line line = Ok line

-- The lines of a text that is accepted: each says something, and they come to what is known.
pub record TextLines (allowed : List PartRegisters) (text : List ℕ) (known : Known) : Type 0 where
  pub lines : List LogLine
  pub read : map line_said (enumerate_from 1 (raw_lines text)) ≡ map ok_line lines
  pub come : known_of_lines allowed (reverse lines) ≡ Ok known

-- A text that is accepted is lines that are, and each claim in it is accepted by `check` of the acts of the lines before it.
pub record LogsAreChecked : Type 0 where
  pub lines : (allowed : List PartRegisters) (text : List ℕ) (known : Known) → log_of allowed text ≡ Ok known →
      TextLines allowed text known
  pub claims : LinesAreChecked
