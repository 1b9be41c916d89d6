-- What is known after the lines of a log, and the first of them that isn't accepted. This project's own choice.
use Rattle.std.specs.Prelude.{ℕ, ◌+◌, ◌&&◌, Bool, true, false, nat_lt, nat_le, if◌then◌else◌, List, length, Option, Some, None, Result, Ok, Err}
use Rattle.pm_table.specs.Cell.{is_cell}
use Rattle.pm_table.specs.declared.cell.Cell.{Cell}
use Rattle.pm_host.specs.declared.fault.HostFault.{HostFault}
use Rattle.pm_host.specs.declared.knowledge.Possible.{Possible}
use Rattle.pm_host.specs.declared.knowledge.Possible.TheVariants.{Any}
use Rattle.pm_host.specs.Refusals.{setup_fault}
use Rattle.pm_host.specs.Summary.{Summary, possible_at, start}
use Rattle.pm_host.specs.Transcript.{Setup, Entry, Finished, Got}
use Rattle.pm_log.specs.declared.claim.Claim.{Claim}
use Rattle.pm_log.specs.declared.claim.Claim.TheVariants.{Holds, Commands}
use Rattle.pm_log.specs.Checks.{is_claimed}
use Rattle.pm_limits.specs.declared.part_registers.PartRegisters.{PartRegisters}
use Rattle.pm_lines.specs.Lines.{Numbered, without_return}
use Rattle.pm_text.specs.declared.scenario.fault.ScenarioFault.{ScenarioFault}
use Rattle.pm_text.specs.declared.scenario.fault.ScenarioFault.TheVariants.{Syntax}
use Rattle.pm_log.specs.Answered.{cell_of_answer, belied, no_answers, with_answer}
use Rattle.pm_log.specs.Lacks.{has_all, lacking_more, lacks_nothing, not_allowed, part_at}
use Rattle.pm_log.specs.Lines.{said_by_line}
use Rattle.pm_log.specs.Replays.{transferred}
use Rattle.pm_log.specs.declared.checked.Refusal.{Refusal}
use Rattle.pm_log.specs.declared.fault.LogFault.{LogFault}
use Rattle.pm_log.specs.declared.fault.LogFault.TheVariants.{Line, NoHead, Address, Setup as NoHost, Answered, Lacks, Word, Voltage}
use Rattle.pm_log.specs.declared.log_line.LogLine.{LogLine}
use Rattle.pm_log.specs.declared.log_line.LogLine.TheVariants.{Note, Head, Claimed, Sent, Failed}

-- ---- what is known

-- what the host of the last head holds, the line of the part's last good answer for each cell since then, and how many claims were
-- accepted and transfers heard; what the receiver lets parts lack, and what accepted claims say that parts lack
pub record Known : Type 0 where
  pub host : Option Summary
  pub answers : List (Option ℕ)
  pub claims : ℕ
  pub transfers : ℕ
  pub allowed : List PartRegisters
  pub without : List PartRegisters

abbrev pub known_before_lines : List PartRegisters → Known
known_before_lines allowed = record {
  host = None;
  answers = no_answers;
  claims = 0;
  transfers = 0;
  allowed = allowed;
  without = lacks_nothing;
}

-- ---- a head

abbrev pub is_address : ℕ → Bool
is_address addr = nat_le 0x08 addr && nat_le addr 0x77

abbrev pub known_with_host : Known → Option HostFault → Setup → Result Known LogFault
known_with_host known (Some fault) setup = Err (NoHost fault)
known_with_host known None setup = Ok (record known { host = Some (start setup); answers = no_answers })

abbrev pub headed : Known → Setup → Result Known LogFault
headed known setup = if is_address setup.addr then known_with_host known (setup_fault setup.outputs setup.passes) setup
    else Err Address

-- ---- a claim

-- the words that a cell may hold; any, if it isn't there
abbrev pub left_possible : Summary → Cell → Possible
left_possible s cell = if is_cell s.setup.outputs cell then possible_at s cell else Any

-- why a claim isn't known
abbrev pub unknown_claim : Summary → Claim → LogFault
unknown_claim s (Holds cell word) = Word cell word (left_possible s cell)
unknown_claim s (Commands output part least most) = Voltage output least most

-- Why a claim isn't looked at, which says that the part at an address lacks registers: it answered a read of one, or the receiver doesn't allow one.
abbrev pub lacking_fault : ℕ → PartRegisters → Option LogFault
lacking_fault addr left = if has_all left then None else Some (Lacks addr left)

abbrev pub answered_or : Option (Cell × ℕ) → ℕ → Option LogFault → Option LogFault
answered_or (Some (cell, line)) addr fault = Some (Answered addr cell line)
answered_or None addr fault = fault

abbrev pub distrusted : Known → ℕ → Claim → Option LogFault
distrusted known addr (Holds cell word) = None
distrusted known addr (Commands output part least most) = answered_or (belied known.answers part output) addr
    (lacking_fault addr (not_allowed (part_at known.allowed addr) part))

-- a claim was accepted, of the part at this address
abbrev pub lacking_by_claim : List PartRegisters → ℕ → Claim → List PartRegisters
lacking_by_claim without addr (Holds cell word) = without
lacking_by_claim without addr (Commands output part least most) = lacking_more without addr part

abbrev pub with_claim : Known → ℕ → Claim → Known
with_claim known addr claim = record known { claims = known.claims + 1; without = lacking_by_claim known.without addr claim }

abbrev pub trusted : Option LogFault → Known → Summary → Claim → Result Known LogFault
trusted (Some fault) known s claim = Err fault
trusted None known s claim = if is_claimed s claim then Ok (with_claim known s.setup.addr claim) else Err (unknown_claim s claim)

abbrev pub claimed : Known → Option Summary → Claim → Result Known LogFault
claimed known None claim = Err NoHead
claimed known (Some s) claim = trusted (distrusted known s.setup.addr claim) known s claim

-- ---- a transfer

abbrev pub one_if : Bool → ℕ
one_if false = 0
one_if true = 1

abbrev pub known_told_with : Known → List (Option ℕ) → Result (Summary × Bool) LogFault → Result Known LogFault
known_told_with known answers (Ok (s, is_told)) =
    Ok (record known { host = Some s; answers = answers; transfers = known.transfers + one_if is_told })
known_told_with known answers (Err fault) = Err fault

-- a transfer of the line with this number
abbrev pub transfer_told : ℕ → Known → Option Summary → List ℕ → Entry → Result Known LogFault
transfer_told number known None frame entry = Err NoHead
transfer_told number known (Some s) frame entry =
    known_told_with known (with_answer number known.answers (cell_of_answer s.setup.addr frame entry)) (transferred s frame entry)

-- what came of a packet: an answer, or the acknowledgement of a write
abbrev pub came_of : Option (List ℕ) → Entry
came_of (Some bytes) = Got bytes
came_of None = Finished true

-- ---- a line

-- what is known with one line more, of this number, or why it isn't accepted
abbrev pub line_accepted : ℕ → Known → LogLine → Result Known LogFault
line_accepted number known Note = Ok known
line_accepted number known (Head addr outputs passes) = headed known (record { addr = addr; outputs = outputs; passes = passes })
line_accepted number known (Claimed claim) = claimed known known.host claim
line_accepted number known (Sent parts) = transfer_told number known known.host parts.write (came_of parts.read)
line_accepted number known (Failed write) = transfer_told number known known.host write (Finished false)

abbrev pub accepted_if_read : ℕ → Known → Result LogLine ScenarioFault → Result Known LogFault
accepted_if_read number known (Ok line) = line_accepted number known line
accepted_if_read number known (Err fault) = Err (Line fault)

-- the most bytes that a line may have, with a carriage return
unfoldable pub max_line : ℕ
max_line = 4096

-- what a line says by its number and bytes
abbrev pub line_said : Numbered → Result LogLine ScenarioFault
line_said line = if nat_lt max_line (length line.1) then Err (Syntax line.0) else said_by_line (line.0, without_return line.1)

-- ---- lines one after another

-- how many lines there were, and what is known by them, or the first that isn't accepted
pub record Checked : Type 0 where
  pub ended : ℕ
  pub log : Result Known Refusal

abbrev pub no_line : List PartRegisters → Checked
no_line allowed = record { ended = 0; log = Ok (known_before_lines allowed) }

abbrev pub or_refused : ℕ → Result Known LogFault → Result Known Refusal
or_refused number (Ok known) = Ok known
or_refused number (Err fault) = Err (record { line = number; fault = fault })

-- what is known with one line more: nothing changes after the first that isn't accepted
abbrev pub known_after_line : Result Known Refusal → Numbered → Result Known Refusal
known_after_line (Err refusal) line = Err refusal
known_after_line (Ok known) line = or_refused line.0 (accepted_if_read line.0 known (line_said line))

unfoldable pub with_line : Checked → List ℕ → Checked
with_line checked text = record { ended = checked.ended + 1; log = known_after_line checked.log (checked.ended + 1, text) }

-- a text needs a head
abbrev pub has_head : ℕ → Result Known Refusal → Option Summary → Result Known Refusal
has_head ended log None = Err (record { line = ended + 1; fault = NoHead })
has_head ended log (Some s) = log

abbrev pub at_end : ℕ → Result Known Refusal → Result Known Refusal
at_end ended (Err refusal) = Err refusal
at_end ended (Ok known) = has_head ended (Ok known) known.host
