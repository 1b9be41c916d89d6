-- How a course ends, by the ends of the way that it goes. This project's own choice.
use Rattle.std.specs.Prelude.{ℕ, Bool, false, ◌==◌, Option, Some, option_map}
use Rattle.pm_table.specs.declared.commands.Code.{Code}
use Rattle.pm_table.specs.Cell.{cell_code}
use Rattle.pm_table.specs.Codes as command
use Rattle.pm_host.specs.declared.job.Job.{Job as Asked}
use Rattle.pm_host.specs.declared.job.Job.TheVariants.{Order, OrderMicro, Check, Learn, Send}
use Rattle.pm_rail.specs.declared.apply_end.ApplyEnd.{ApplyEnd}
use Rattle.pm_rail.specs.declared.apply_end.ApplyEnd.TheVariants as way
use Rattle.pm_rail.specs.declared.apply_end.StopCause.TheVariants as stop
use Rattle.pm_rail.specs.declared.fault.PlanFault.{PlanFault}
use Rattle.pm_rail.specs.declared.fault.PlanFault.TheVariants as plan
use Rattle.pm_rail.specs.FaultWords.{plan_fault_code, plan_fault_number}
use Rattle.pm_course.specs.declared.answer_fault.AnswerFault.{AnswerFault}
use Rattle.pm_course.specs.declared.course_end.CourseEnd.{CourseEnd}
use Rattle.pm_course.specs.declared.course_end.CourseEnd.TheVariants.{Reached, Refused, Differs, NoFormat, OtherSource, Spent}
use Rattle.pm_course.specs.declared.course_end.Refusal.{Refusal}

abbrev pub code_of : ℕ → Code
code_of code = record { 0 = code }

-- what a job is about, by its command code: VOUT_MODE of a learn. A course asks for checks, orders and learns alone.
abbrev pub code_asked : Asked → ℕ
code_asked (Order cell word) = cell_code cell
code_asked (OrderMicro cell x) = cell_code cell
code_asked (Check cell) = cell_code cell
code_asked (Learn output) = command.vout_mode
code_asked (Send sent) = command.vout_mode

-- a refusal of a plan, and one of a job by its number
abbrev pub refusal_of_plan : PlanFault → Refusal
refusal_of_plan fault = record { number = plan_fault_number fault; register = option_map code_of (plan_fault_code fault) }

abbrev pub refusal_of_job : ℕ → Asked → Refusal
refusal_of_job number job = record { number = number; register = Some (code_of (code_asked job)) }

-- the end where a job is open that isn't the course's, which goes on once that job has ended
abbrev pub busy_end : CourseEnd
busy_end = Refused (refusal_of_plan plan.Busy)

abbrev pub is_open_end : CourseEnd → Bool
is_open_end (Refused refusal) = refusal.number == plan_fault_number plan.Busy
is_open_end Reached = false
is_open_end (Differs register word) = false
is_open_end (NoFormat mode) = false
is_open_end (OtherSource byte) = false
is_open_end (Spent code fault) = false

-- the end of a way, of a course whose last answer had this fault
abbrev pub end_of : Option AnswerFault → ApplyEnd → CourseEnd
end_of fault way.Reached = Reached
end_of fault (way.Stopped (stop.Refused refused)) = Refused (refusal_of_plan refused)
end_of fault (way.Stopped (stop.Differs register word)) = Differs register word
end_of fault (way.Stopped (stop.Spent job)) = Spent (code_of (code_asked job)) fault
