-- When a call is refused, and which entries may come: this project's own choice.
use Rattle.std.specs.Prelude.{ℕ, ◌^◌, ◌≤◌, ℤ, unsigned_abs, Bool, true, false, not, nat_lt, ◌||◌, if◌then◌else◌, [], ◌∷◌, Option, Some}
use Rattle.std.specs.Prelude.{None, is_none, is_some, option_map, option_and_then}
use Rattle.std.specs.Option.{option_map_or}
use Rattle.pm_num.specs.declared.fault.NumFault.{NumFault}
use Rattle.pm_num.specs.declared.fault.NumFault.TheVariants.{BelowLeast, AboveGreatest, TooLarge}
use Rattle.pm_num.specs.AnyFormat.{Shape, shape_value, shape_rank, shape_lowest, shape_highest}
use Rattle.pm_num.specs.NearestWord.{is_at_most, nearest_word}
use Rattle.pm_num.specs.Ratio.{Ratio, micros}
use Rattle.pm_table.specs.Address.{IsAddress}
use Rattle.pm_table.specs.declared.cell.Cell.{Cell}
use Rattle.pm_table.specs.Cell.{cell_accepts, is_cell, is_voltage_cell, output_of}
use Rattle.pm_table.specs.Rules.{first, rule}
use Rattle.pm_frame.specs.Layout.{is_read_message}
use Rattle.pm_host.specs.declared.command.Command.{Command}
use Rattle.pm_host.specs.declared.fault.HostFault.{HostFault}
use Rattle.pm_host.specs.declared.fault.HostFault.TheVariants.{OutputCount, Passes, Busy, UnknownOutput, BadWord, TooUncertain}
use Rattle.pm_host.specs.declared.fault.HostFault.TheVariants.{FormatUnknown, Num}
use Rattle.pm_host.specs.declared.question.Question.{Question}
use Rattle.pm_host.specs.Cells.{is_command}
use Rattle.pm_host.specs.Possible.{has_room}
use Rattle.pm_host.specs.Question.{is_question}
use Rattle.pm_host.specs.Summary.{Summary, possible_at, format_at, sending_in}
use Rattle.pm_host.specs.Transcript.{Setup, Job, Order, Check, Learn, Send, Entry, Accepted, Finished, Got, Restarted}

-- the number is one from the first to the last
abbrev pub is_within : ℕ → ℕ → ℕ → Bool
is_within least greatest n = not (nat_lt n least || nat_lt greatest n)

-- H1 where the outputs aren't 1 to 8, H2 where the passes aren't 1 to 15
abbrev pub setup_fault : ℕ → ℕ → Option HostFault
setup_fault outputs passes = first (
    rule (not (is_within 1 8 outputs)) OutputCount ∷
    rule (not (is_within 1 15 passes)) Passes ∷
    [])

-- a job is open
abbrev pub is_busy : Summary → Bool
is_busy s = is_some s.stage

-- H3, then H4 where what is asked for isn't there
abbrev pub asking_fault : Summary → Bool → Option HostFault
asking_fault s there = first (
    rule (is_busy s) Busy ∷
    rule (not there) UnknownOutput ∷
    [])

-- H3, then H4 if the device hasn't the output, the cell, what a question asks for, or the output that a command names
abbrev pub output_fault : Summary → ℕ → Option HostFault
output_fault s output = asking_fault s (nat_lt output s.setup.outputs)

abbrev pub cell_fault : Summary → Cell → Option HostFault
cell_fault s cell = asking_fault s (is_cell s.setup.outputs cell)

abbrev pub question_fault : Summary → Question → Option HostFault
question_fault s question = asking_fault s (is_question s.setup.outputs question)

abbrev pub command_fault : Summary → Command → Option HostFault
command_fault s command = asking_fault s (is_command s.setup.outputs command)

-- H3, H4, then H5 for a word that the cell doesn't accept, then H6 for one that has no room beside
-- those that the cell may hold
abbrev pub order_fault : Summary → Cell → ℕ → Option HostFault
order_fault s cell word = first (
    cell_fault s cell ∷
    rule (not (cell_accepts cell word)) BadWord ∷
    rule (not (has_room word (possible_at s cell))) TooUncertain ∷
    [])

-- For an order in microvolts, before the number is looked at: H3, H4, then H5 for a cell that isn't a
-- voltage, then H7 where the output's format isn't known.
abbrev pub voltage_fault : Summary → Cell → Option HostFault
voltage_fault s cell = first (
    cell_fault s cell ∷
    rule (not (is_voltage_cell cell)) BadWord ∷
    rule (is_none (format_at s (output_of cell))) FormatUnknown ∷
    [])

-- the word for a number of microvolts, in the format of the cell's output
abbrev pub micro_word : Summary → Cell → ℤ → Option ℕ
micro_word s cell x = option_and_then
    (λ shape. nearest_word (shape_value shape) (shape_rank shape) (micros x))
    (format_at s (output_of cell))

-- N3 for a number below the least value of a format, N4 for one above the greatest
abbrev pub outside_format_fault : Ratio → Ratio → Ratio → Option NumFault
outside_format_fault least greatest x =
    if not (is_at_most least x) then Some BelowLeast
    else (if not (is_at_most x greatest) then Some AboveGreatest else None)

-- N5 for a number of microvolts beyond 10^15 in size, then N3 or N4
abbrev pub range_fault_in : Ratio → Ratio → ℤ → Option HostFault
range_fault_in least greatest x =
    if nat_lt (10 ^ 15) (unsigned_abs x) then Some (Num TooLarge)
    else option_map (λ fault. Num fault) (outside_format_fault least greatest (micros x))

abbrev pub range_fault : Shape → ℤ → Option HostFault
range_fault shape x = range_fault_in (shape_lowest shape) (shape_highest shape) x

-- H3, H4, H5 and H7 in this order, then N5, N3 and N4, then H6 for a word that has no room
abbrev pub micro_fault : Summary → Cell → ℤ → Option HostFault
micro_fault s cell x = first (
    voltage_fault s cell ∷
    option_and_then (λ shape. range_fault shape x) (format_at s (output_of cell)) ∷
    option_and_then (λ word. order_fault s cell word) (micro_word s cell x) ∷
    [])

-- a write is being sent, a read is
abbrev pub sends_write : Summary → Bool
sends_write s = option_map_or (λ message. not (is_read_message message)) (sending_in s) false

abbrev pub sends_read : Summary → Bool
sends_read s = option_map_or is_read_message (sending_in s) false

-- why a job is refused; None where it is accepted
abbrev pub job_fault : Summary → Job → Option HostFault
job_fault s (Order cell word) = order_fault s cell word
job_fault s (Check cell) = cell_fault s cell
job_fault s (Learn output) = output_fault s output
job_fault s (Send command) = command_fault s command

-- what may come next: a job that isn't refused, the end of a write or an answer where such a frame is
-- being sent, a restart
abbrev pub job_may_come : Summary → Job → Bool
job_may_come s job = is_none (job_fault s job)

abbrev pub may_come : Summary → Entry → Bool
may_come s (Accepted job) = job_may_come s job
may_come s (Finished acked) = sends_write s
may_come s (Got bytes) = sends_read s
may_come s Restarted = true

-- what a host may be made with
pub record IsSetup (setup : Setup) : Type 0 where
  pub address : IsAddress setup.addr
  pub one_output : 1 ≤ setup.outputs
  pub few_outputs : setup.outputs ≤ 8
  pub one_pass : 1 ≤ setup.passes
  pub few_passes : setup.passes ≤ 15
