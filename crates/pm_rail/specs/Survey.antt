-- Which registers a survey of an output reads, and when it ends: this project's own choice.
use Rattle.std.specs.Prelude.{ℕ, ◌-◌, Bool, true, false, not, ◌&&◌, ◌==◌, if◌then◌else◌, [], ◌∷◌, find, Option, Some, None, is_none}
use Rattle.std.specs.Prelude.{is_some, option_map}
use Rattle.std.specs.List.{list_any}
use Rattle.pm_table.specs.declared.cell.Cell.{Cell}
use Rattle.pm_table.specs.declared.cell.Cell.TheVariants.{Out, Protect}
use Rattle.pm_table.specs.declared.reg.Reg.{Reg}
use Rattle.pm_table.specs.declared.reg.Reg.TheVariants.{Operation, VoutCommand, VoutMax, MarginHigh, MarginLow, VoutMin}
use Rattle.pm_table.specs.Cell.{registers}
use Rattle.pm_table.specs.Rules.{first, rule}
use Rattle.pm_host.specs.declared.job.Job.{Job}
use Rattle.pm_host.specs.declared.job.Job.TheVariants.{Check, Learn}
use Rattle.pm_host.specs.declared.job.JobEnd.{JobEnd}
use Rattle.pm_host.specs.declared.job.JobEnd.TheVariants.{Done, Learned}
use Rattle.pm_num.specs.AnyFormat.{Shape}
use Rattle.pm_host.specs.Summary.{Summary, format_at}
use Rattle.pm_limits.specs.declared.part_registers.PartRegisters.{PartRegisters}
use Rattle.pm_limits.specs.Part.{has_register}
use Rattle.pm_rail.specs.declared.survey.Reads.{Reads}
use Rattle.pm_rail.specs.declared.survey.Survey.{Survey}
use Rattle.pm_rail.specs.declared.wanted.Wanted.{Wanted}
use Rattle.pm_rail.specs.Known.{Cells, cells_of, known_at, known_of}
use Rattle.pm_rail.specs.Orders.{is_needed, is_unknown}
use Rattle.pm_rail.specs.Registers.{Held, Wants, nothing, wants_of}

-- the words that are wanted by the plan that a survey is for; none where it is for no plan
abbrev pub wanted_in : Option Wanted → Wanted
wanted_in None = nothing
wanted_in (Some wanted) = wanted

-- whether a cell was read
abbrev pub has_read : Reads → Reg → Bool
has_read r Operation = r.operation
has_read r VoutCommand = r.command
has_read r VoutMax = r.max
has_read r MarginHigh = r.margin_high
has_read r MarginLow = r.margin_low
has_read r VoutMin = r.min

abbrev pub nothing_read : Reads
nothing_read = record {
  operation = false;
  command = false;
  max = false;
  margin_high = false;
  margin_low = false;
  min = false;
  protect =
      false;
}

-- one more cell is read
abbrev pub and_read : Reads → Cell → Reads
and_read r (Out output Operation) = record r { operation = true }
and_read r (Out output VoutCommand) = record r { command = true }
and_read r (Out output VoutMax) = record r { max = true }
and_read r (Out output MarginHigh) = record r { margin_high = true }
and_read r (Out output MarginLow) = record r { margin_low = true }
and_read r (Out output VoutMin) = record r { min = true }
and_read r Protect = record r { protect = true }

-- a survey begins
abbrev pub survey_of : ℕ → Option Wanted → ℕ → Survey
survey_of output plan tries = record {
  output = output;
  plan = plan;
  left = tries;
  learned = false;
  read = nothing_read;
  asked = None;
}

-- a register that the part has is needed, by the word of OPERATION as far as it is known, and wasn't read since the
-- survey began
abbrev pub is_unread : PartRegisters → Reads → Held → Wants → Reg → Bool
is_unread part read held wants register =
    has_register part register && (is_needed held wants register && not (has_read read register))

-- a register is needed and isn't known: one that the part has, and one that it doesn't have
abbrev pub is_unsure : PartRegisters → Cells → ℕ → Held → Wants → Reg → Bool
is_unsure part cells output held wants register = has_register part register && is_unknown cells output held wants register

abbrev pub is_lacking : PartRegisters → Cells → ℕ → Held → Wants → Reg → Bool
is_lacking part cells output held wants register =
    not (has_register part register) && is_unknown cells output held wants register

-- What is still to be asked for: the format, then what wasn't read since the survey began, then what isn't known, as
-- after an answer that showed a restart. A plan needs WRITE_PROTECT too. A missing register is never read.
abbrev pub survey_due_in : PartRegisters → Survey → Cells → Held → Wants → Option Job
survey_due_in part v cells held wants = first (
    rule (not v.learned) (Learn v.output) ∷
    option_map (λ register. Check (Out v.output register)) (find (is_unread part v.read held wants) registers) ∷
    rule (is_some v.plan && not v.read.protect) (Check Protect) ∷
    option_map (λ register. Check (Out v.output register)) (find (is_unsure part cells v.output held wants) registers) ∷
    rule (is_some v.plan && is_none (known_at cells Protect)) (Check Protect) ∷
    [])

abbrev pub due_by : PartRegisters → Survey → Summary → Option Shape → Option Job
due_by part v s None = Some (Learn v.output)
due_by part v s (Some shape) =
    let cells = cells_of part shape s in
    survey_due_in part v cells (known_of cells v.output) (wants_of (wanted_in v.plan))

abbrev pub due_job : PartRegisters → Survey → Summary → Option Job
due_job part v s = due_by part v s (format_at s v.output)

-- A register is needed that isn't known and can't be read: OPERATION selects a margin that the part doesn't have, or a
-- word is wanted of one.
abbrev pub is_stuck_in : PartRegisters → ℕ → Cells → Held → Wants → Bool
is_stuck_in part output cells held wants = list_any (is_lacking part cells output held wants) registers

abbrev pub is_stuck_by : PartRegisters → Survey → Summary → Option Shape → Bool
is_stuck_by part v s None = false
is_stuck_by part v s (Some shape) =
    let cells = cells_of part shape s in
    is_stuck_in part v.output cells (known_of cells v.output) (wants_of (wanted_in v.plan))

abbrev pub is_stuck : PartRegisters → Survey → Summary → Bool
is_stuck part v s = is_stuck_by part v s (format_at s v.output)

-- nothing is still to be asked for, and nothing is needed that can't be read
abbrev pub is_surveyed : PartRegisters → Survey → Summary → Bool
is_surveyed part v s = is_none (due_job part v s) && not (is_stuck part v s)

-- what the survey asks for next, while it has tries left
abbrev pub next_job : PartRegisters → Survey → Summary → Option Job
next_job part v s = if v.left == 0 then None else due_job part v s

-- the survey once it has asked: each job takes a try
abbrev pub asking : Survey → Option Job → Survey
asking v None = record v { asked = None }
asking v (Some job) = record v { asked = Some job; left = v.left - 1 }

-- The survey once the job that it asked for has ended: a learn that learned a format counts, and a check that is done,
-- which has a good answer.
abbrev pub ended : Survey → Option Job → JobEnd → Survey
ended v (Some (Learn output)) Learned = record v { asked = None; learned = true }
ended v (Some (Check cell)) Done = record v { asked = None; read = and_read v.read cell }
ended v job end = record v { asked = None }
