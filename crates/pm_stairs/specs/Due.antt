-- What is due in a step in words, by what a host knows, and what the stairs make of what the step's course says: this project's
-- own choice.
use Rattle.std.specs.Prelude.{ℕ, Bool, false, not, ◌&&◌, ◌==◌, if◌then◌else◌, Option, Some, None, is_none, Result, Ok, Err}
use Rattle.std.specs.Option.{option_map_or}
use Rattle.pm_table.specs.declared.cell.Cell.{Cell}
use Rattle.pm_table.specs.declared.cell.Cell.TheVariants.{Out, Protect}
use Rattle.pm_table.specs.declared.reg.Reg.{Reg}
use Rattle.pm_table.specs.declared.reg.Reg.TheVariants.{Operation}
use Rattle.pm_table.specs.Cell.{same_cell}
use Rattle.pm_table.specs.Operation.{has_on}
use Rattle.pm_table.specs.Rules.{rule}
use Rattle.pm_host.specs.declared.job.Job.{Job as Asked}
use Rattle.pm_host.specs.declared.job.Job.TheVariants.{Order, OrderMicro, Check, Learn, Send}
use Rattle.pm_host.specs.Refusals.{is_busy}
use Rattle.pm_host.specs.Summary.{Summary, possible_at}
use Rattle.pm_limits.specs.declared.part_registers.PartRegisters.{PartRegisters}
use Rattle.pm_limits.specs.declared.output_limits.OutputLimits.{OutputLimits}
use Rattle.pm_rail.specs.declared.course.Course.{Course}
use Rattle.pm_rail.specs.declared.fault.PlanFault.{PlanFault}
use Rattle.pm_rail.specs.declared.orders.PlanOrder.{PlanOrder}
use Rattle.pm_rail.specs.Course.{is_last}
use Rattle.pm_rail.specs.Known.{known_word, sole}
use Rattle.pm_rail.specs.Orders.{plan_of}
use Rattle.pm_rail.specs.Registers.{wants_of}
use Rattle.pm_course.specs.declared.course_end.CourseEnd.{CourseEnd}
use Rattle.pm_course.specs.declared.course_end.CourseEnd.TheVariants.{Differs, Reached}
use Rattle.pm_course.specs.declared.course_end.CourseNext.{CourseNext}
use Rattle.pm_course.specs.declared.course_end.CourseNext.TheVariants.{Job, Ended}
use Rattle.pm_stairs.specs.declared.due.Due.{Due}
use Rattle.pm_stairs.specs.declared.said.Said.{Said}
use Rattle.pm_stairs.specs.declared.said.Said.TheVariants.{Orders, Reads, Looks, Over, Stops}
use Rattle.pm_stairs.specs.declared.said.StepEnd.TheVariants.{Changed}
use Rattle.pm_stairs.specs.declared.said.StepEnd.TheVariants as why
use Rattle.pm_stairs.specs.declared.step.WordAct.{WordAct}
use Rattle.pm_stairs.specs.declared.step.WordAct.TheVariants.{Sets, Turns, Nothing}
use Rattle.pm_stairs.specs.declared.step.WordStep.{WordStep}
use Rattle.pm_stairs.specs.Command.{same_command}

-- the order of a plan's answer
abbrev pub plan_order : Result (Option PlanOrder) PlanFault → Option PlanOrder
plan_order (Ok order) = order
plan_order (Err fault) = None

-- A step to words: the next order of the plan, and that none is left. A step to a byte of OPERATION: its order while no job is open, and
-- that OPERATION is known to hold its command, but for bits that don't count. Before a step to a byte begins one byte alone has to be possible of OPERATION, one that can't be ordered,
-- too, so that the step can be undone. A step that orders nothing: no order, and that no job is open.
abbrev pub due_words : Result (Option PlanOrder) PlanFault → Due
due_words answer = record { order = plan_order answer; over = is_last answer; lacks = None }

abbrev pub is_command_known : Summary → ℕ → ℕ → Bool
is_command_known s output byte =
    option_map_or (λ word. same_command byte word) (known_word (Out output Operation) (possible_at s (Out output Operation))) false

abbrev pub due_byte : Summary → ℕ → ℕ → Due
due_byte s output byte = record {
  order = rule (not (is_busy s)) (record { register = Operation; word = byte });
  over = not (is_busy s) && is_command_known s output byte;
  lacks = rule (is_none (sole (possible_at s (Out output Operation)))) (Out output Operation);
}

abbrev pub step_due_of : PartRegisters → OutputLimits → Summary → ℕ → WordAct → Due
step_due_of part limits s output (Sets words) = due_words (plan_of part s limits output (wants_of words))
step_due_of part limits s output (Turns byte) = due_byte s output byte
step_due_of part limits s output Nothing = record { order = None; over = not (is_busy s); lacks = None }

abbrev pub due_now : PartRegisters → OutputLimits → Summary → WordStep → Due
due_now part limits s step = step_due_of part limits s step.output step.act

-- a job is the order that is due
abbrev pub is_due_order : ℕ → Option PlanOrder → Cell → ℕ → Bool
is_due_order output None cell word = false
is_due_order output (Some order) cell word = same_cell cell (Out output order.register) && word == order.word

-- what is looked at first; and otherwise this
abbrev pub looking_first : Option Cell → Said → Said
looking_first None said = said
looking_first (Some cell) said = Looks cell

-- Before a step turns its output off OPERATION is read in it, whatever is known, so that the step that undoes it has what the part holds.
abbrev pub is_unread_off : Course → Cell → ℕ → Bool
is_unread_off course (Out output Operation) word = not (has_on word) && not course.survey.read.operation
is_unread_off course (Out output register) word = false
is_unread_off course Protect word = false

-- An order of the step's course is given where it is due: as the step begins, where nothing has to be looked at before. An order that
-- isn't due stops the steps.
abbrev pub giving : Bool → Course → Due → Cell → ℕ → Said
giving begun course due cell word = if begun then Orders cell word
    else (if is_unread_off course cell word then Looks cell else looking_first due.lacks (Orders cell word))

-- A step that is over without the order gets none: of a byte that leaves the output on, where all was read since its last order; of one that
-- turns it off, where that was ordered and read back, with bits that don't count.
abbrev pub is_settled : Course → Due → ℕ → Bool
is_settled course due word = due.over && (if has_on word then not course.ordered else course.differed.operation)

abbrev pub ordered : Bool → ℕ → Course → Due → Cell → ℕ → Said
ordered begun output course due cell word = if is_due_order output due.order cell word
    then (if is_settled course due word then Over else giving begun course due cell word) else Stops Changed

-- what the course reads is read
abbrev pub said_of_asked_job : Bool → ℕ → Course → Due → Asked → Said
said_of_asked_job begun output course due (Order cell word) = ordered begun output course due cell word
said_of_asked_job begun output course due (Check cell) = Reads (Check cell)
said_of_asked_job begun output course due (Learn at) = Reads (Learn at)
said_of_asked_job begun output course due (OrderMicro cell x) = Stops Changed
said_of_asked_job begun output course due (Send command) = Stops Changed

-- A course has ended `Reached`: the step is over if it is so by what is known now.
abbrev pub reached : Due → Said
reached due = if due.over then Over else looking_first due.lacks (Stops Changed)

-- Its order of OPERATION differed twice: the step is over if it is so by what is known now.
abbrev pub differs_for : Due → Reg → ℕ → Said
differs_for due Operation word = if due.over then Over else Stops (why.Course (Differs Operation word))
differs_for due register word = Stops (why.Course (Differs register word))

abbrev pub ended_for : Due → CourseEnd → Said
ended_for due Reached = reached due
ended_for due (Differs register word) = differs_for due register word
ended_for due end = Stops (why.Course end)

-- what the stairs make of what the course of a step says, which has begun or begins now
abbrev pub said_of : Bool → ℕ → Course → Due → CourseNext → Said
said_of begun output course due (Job job) = said_of_asked_job begun output course due job
said_of begun output course due (Ended end) = ended_for due end
