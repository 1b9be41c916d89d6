-- What a sequence says, as plain numbers. This project's own choice.
use Rattle.std.specs.Prelude.{◌≡◌, ℕ, ℤ, true, ◌-◌, ◌==◌, nat_lt, if◌then◌else◌, pos, Option, Some, None, is_some, unwrap_or}
use Rattle.pm_delivery.specs.declared.delivery.Delivery.{Delivery}
use Rattle.pm_delivery.specs.declared.verdict.Verdict.{Verdict}
use Rattle.pm_host.specs.declared.job.Job.{Job}
use Rattle.pm_host.specs.Summary.{format_at}
use Rattle.pm_rail.specs.declared.fault.PlanFault.{PlanFault}
use Rattle.pm_rail.specs.FaultWords.{plan_fault_code, plan_fault_number}
use Rattle.pm_sequence.specs.declared.sequence.Act.{Act}
use Rattle.pm_sequence.specs.declared.sequence.Act.TheVariants as act
use Rattle.pm_sequence.specs.declared.sequence.End.{End}
use Rattle.pm_sequence.specs.declared.sequence.End.TheVariants as end
use Rattle.pm_sequence.specs.declared.sequence.Sequence.{Sequence}
use Rattle.pm_stairs.specs.Sequence.{step_stopped}
use Rattle.pm_memory.specs.declared.guard_image.GuardImage.{GuardImage}
use Rattle.pm_memory.specs.declared.sequence_end.SequenceEndImage.{SequenceEndImage}
use Rattle.pm_memory.specs.declared.sequence_image.SaidImage.{SaidImage}
use Rattle.pm_memory.specs.CourseImage.{job_code, job_word}
use Rattle.pm_memory.specs.SequenceEnd.{end_written}
use Rattle.pm_memory.specs.Delivery.{idle_host, is_voltage_told, said_by, heard_word_of, IsToldVoltage}
use Rattle.pm_memory.specs.Numbers.{accepted, ask_again, question_asked_number, course_ended, no_way_back, order_told_number, wait}

-- what is answered where no job begins
abbrev pub number_said : Act → ℕ
number_said (act.Job job) = accepted
number_said (act.Begins job back) = accepted
number_said (act.Passes back) = ask_again
number_said (act.Order job) = question_asked_number
number_said (act.Ask question) = accepted
number_said act.Probe = accepted
number_said act.Pause = wait
number_said (act.Wait milliseconds) = wait
number_said act.Again = ask_again
number_said (act.NoWayBack fault) = no_way_back
number_said (act.Does found) = order_told_number
number_said (act.Leaves why) = order_told_number
number_said (act.Ended why) = course_ended

-- the newest step that has begun
abbrev pub newest_begun_step : Sequence → ℕ
newest_begun_step q = if nat_lt 0 q.list.begun then q.list.begun - 1 else 0

-- The step that something is said of: one that was left is the newest, and a list that ended without one that stopped has so many steps.
abbrev pub step_ended : Sequence → End → ℕ
step_ended q end.Reached = q.list.begun
step_ended q (end.Left steps) = q.list.begun
step_ended q (end.Stopped why) = step_stopped q.list
step_ended q (end.Beyond fault) = step_stopped q.list
step_ended q end.Unjudged = step_stopped q.list
step_ended q (end.Does found) = step_stopped q.list

abbrev pub step_said : Sequence → Act → ℕ
step_said q (act.Job job) = q.list.begun
step_said q (act.Begins job back) = q.list.begun
step_said q (act.Passes back) = q.list.begun
step_said q (act.Order job) = step_stopped q.list
step_said q (act.Ask question) = q.list.begun
step_said q act.Probe = q.list.begun
step_said q act.Pause = newest_begun_step q
step_said q (act.Wait milliseconds) = q.list.begun
step_said q act.Again = q.list.begun
step_said q (act.NoWayBack fault) = q.list.begun
step_said q (act.Does found) = newest_begun_step q
step_said q (act.Leaves why) = newest_begun_step q
step_said q (act.Ended why) = step_ended q why

-- what a rail does of which something is said
abbrev pub rail_of : End → Option Verdict
rail_of end.Reached = None
rail_of (end.Left steps) = None
rail_of (end.Stopped why) = None
rail_of (end.Beyond fault) = None
rail_of end.Unjudged = None
rail_of (end.Does found) = Some found

abbrev pub rail_said : Act → Option Verdict
rail_said (act.Job job) = None
rail_said (act.Begins job back) = None
rail_said (act.Passes back) = None
rail_said (act.Order job) = None
rail_said (act.Ask question) = None
rail_said act.Probe = None
rail_said act.Pause = None
rail_said (act.Wait milliseconds) = None
rail_said act.Again = None
rail_said (act.NoWayBack fault) = None
rail_said (act.Does found) = Some found
rail_said (act.Leaves why) = rail_of why
rail_said (act.Ended why) = rail_of why

-- how long is waited before all is asked once more: 10 milliseconds, twice as long each time, 5,120 at most
abbrev pub pause_of : ℕ → ℕ
pause_of round =
    if nat_lt round 2 then 10
    else (if round == 2 then 20
    else (if round == 3 then 40
    else (if round == 4 then 80
    else (if round == 5 then 160
    else (if round == 6 then 320
    else (if round == 7 then 640
    else (if round == 8 then 1280
    else (if round == 9 then 2560 else 5120))))))))

-- the numbers of what is said
abbrev pub nothing_said : SaidImage
nothing_said = record {
  kind = 0;
  number = 0;
  code = 0;
  verdict = 0;
  bit = 0;
  has_microvolts = 0;
  word = 0;
  fault = 0;
  step = 0;
  milliseconds = 0;
  microvolts = pos 0;
}

abbrev pub ended_said : SequenceEndImage → ℕ → ℕ → SaidImage
ended_said i kind step = record nothing_said {
  kind = if kind == 0 then i.kind else kind;
  number = i.number;
  code = i.code;
  verdict = i.verdict;
  bit = i.bit;
  word = i.word;
  fault = i.fault;
  step = step;
}

abbrev pub end_said : End → ℕ → ℕ → SaidImage
end_said why kind step = ended_said (end_written (Some why)) kind step

abbrev pub wait_said : ℕ → ℕ → SaidImage
wait_said milliseconds step = record nothing_said { milliseconds = milliseconds; step = step }

abbrev pub order_said : Job → ℕ → SaidImage
order_said job step = record nothing_said { kind = 16; code = job_code (Some job); word = job_word (Some job); step = step }

abbrev pub way_back_said : PlanFault → ℕ → SaidImage
way_back_said fault step = record nothing_said {
  kind = 9;
  number = plan_fault_number fault;
  code = unwrap_or (plan_fault_code fault) 0;
  step = step;
}

abbrev pub numbers_said : Sequence → Act → SaidImage → SaidImage
numbers_said q (act.Job job) was = was
numbers_said q (act.Begins job back) was = was
numbers_said q (act.Passes back) was = was
numbers_said q (act.Order job) was = order_said job (step_stopped q.list)
numbers_said q (act.Ask question) was = was
numbers_said q act.Probe was = was
numbers_said q act.Pause was = wait_said (pause_of q.look.delivery.round) (newest_begun_step q)
numbers_said q (act.Wait milliseconds) was = wait_said milliseconds q.list.begun
numbers_said q act.Again was = was
numbers_said q (act.NoWayBack fault) was = way_back_said fault q.list.begun
numbers_said q (act.Does found) was = end_said (end.Does found) 13 (newest_begun_step q)
numbers_said q (act.Leaves why) was = end_said why 0 (newest_begun_step q)
numbers_said q (act.Ended why) was = end_said why 0 (step_ended q why)

-- READ_VOUT of a look, where it gave a good answer
pub record IsReading (host : GuardImage) (d : Delivery) (reading : Option ℤ) : Type 0 where
  pub told : nat_lt d.output 8 ≡ true → is_some reading ≡ is_voltage_told (format_at (idle_host host) d.output) d
  pub floor : IsToldVoltage (format_at (idle_host host) d.output) d reading

-- with what a register held, and with a reading
abbrev pub said_with : SaidImage → ℕ → Option ℤ → SaidImage
said_with numbers word None = record numbers { word = word }
said_with numbers word (Some x) = record numbers { word = word; has_microvolts = 1; microvolts = x }

-- numbers that are with what its register held, and with a reading
pub record IsSaidOf (host : GuardImage) (d : Delivery) (numbers : SaidImage) (found : Verdict) (new : SaidImage) : Type 0 where
  pub reading : Option ℤ
  pub written : new ≡ said_with numbers (heard_word_of d (said_by found)) reading
  pub is_reading : IsReading host d reading

abbrev pub IsSaidBy : GuardImage → Delivery → SaidImage → Option Verdict → SaidImage → Type 0
IsSaidBy host d numbers None new = new ≡ numbers
IsSaidBy host d numbers (Some found) new = IsSaidOf host d numbers found new

-- what was said last, once a sequence has said this
abbrev pub IsSaidLast : GuardImage → Sequence → Act → SaidImage → SaidImage → Type 0
IsSaidLast host q said was new = IsSaidBy host q.look.delivery (numbers_said q said was) (rail_said said) new
