-- One way to a voltage: what a course asks a host for next, and how it ends. This project's own choice.
use Rattle.std.specs.Prelude.{◌≡◌, ℕ, Bool, true, false, ◌&&◌, ◌||◌, ◌==◌, if◌then◌else◌, Option, Some, None, is_none, Result, Ok, Err}
use Rattle.std.specs.Option.{option_map_or}
use Rattle.pm_table.specs.declared.cell.Cell.TheVariants.{Out}
use Rattle.pm_table.specs.declared.reg.Reg.TheVariants.{Operation}
use Rattle.pm_table.specs.Operation.{has_on, selected_register}
use Rattle.pm_table.specs.Rules.{rule}
use Rattle.pm_host.specs.declared.job.Job.{Job as Asked}
use Rattle.pm_host.specs.declared.job.Job.TheVariants.{Order}
use Rattle.pm_host.specs.declared.job.JobEnd.{JobEnd}
use Rattle.pm_host.specs.declared.job.JobEnd.TheVariants as end
use Rattle.pm_host.specs.Refusals.{is_busy}
use Rattle.pm_host.specs.Summary.{Summary, possible_at}
use Rattle.pm_limits.specs.declared.part_registers.PartRegisters.{PartRegisters}
use Rattle.pm_limits.specs.declared.fault.LimitFault.{LimitFault}
use Rattle.pm_limits.specs.declared.output_limits.OutputLimits.{OutputLimits}
use Rattle.pm_limits.specs.Guard.{Guarded, LetsBegin, guard_fault, limits_at}
use Rattle.pm_rail.specs.declared.fault.PlanFault.{PlanFault}
use Rattle.pm_rail.specs.declared.fault.PlanFault.TheVariants.{Busy, NotKnown}
use Rattle.pm_rail.specs.declared.orders.PlanOrder.{PlanOrder}
use Rattle.pm_rail.specs.declared.survey.Survey.{Survey}
use Rattle.pm_rail.specs.declared.wanted.Wanted.{Wanted}
use Rattle.pm_rail.specs.Known.{known_word}
use Rattle.pm_rail.specs.Orders.{missing_fault, plan_of}
use Rattle.pm_rail.specs.Registers.{wants_of}
use Rattle.pm_rail.specs.Survey.{and_read, asking, due_job, ended, has_read, is_surveyed, nothing_read, survey_of, wanted_in}
use Rattle.pm_rail.specs.declared.apply_end.ApplyEnd.{ApplyEnd}
use Rattle.pm_rail.specs.declared.apply_end.ApplyEnd.TheVariants.{Reached, Stopped}
use Rattle.pm_rail.specs.declared.apply_end.StopCause.TheVariants.{Refused, Differs, Spent}
use Rattle.pm_rail.specs.declared.course.Course.{Course}
use Rattle.pm_rail.specs.declared.course.Differing.{Differing}
use Rattle.pm_rail.specs.declared.next.Next.{Next}
use Rattle.pm_rail.specs.declared.next.Next.TheVariants.{Job, Ended}

-- A course begins: to wanted words, with a survey of its output for their plan; to nothing, with one of what the output
-- commands; and to a byte of OPERATION, with a survey too, which is read only where the byte leaves the output on.
abbrev pub course_of : ℕ → Wanted → ℕ → Course
course_of output wanted tries = record {
  survey = survey_of output (Some wanted) tries;
  byte = None;
  ordered = false;
  done = false;
  differed = nothing_read;
  twice = None;
}

abbrev pub survey_course_of : ℕ → ℕ → Course
survey_course_of output tries = record {
  survey = survey_of output None tries;
  byte = None;
  ordered = false;
  done = false;
  differed = nothing_read;
  twice = None;
}

abbrev pub power_course_of : ℕ → ℕ → ℕ → Course
power_course_of output byte tries = record {
  survey = survey_of output None tries;
  byte = Some byte;
  ordered = false;
  done = false;
  differed = nothing_read;
  twice = None;
}

-- OPERATION is known to be this byte
abbrev pub is_operation_known : Summary → ℕ → ℕ → Bool
is_operation_known s output byte =
    option_map_or (λ word. word == byte) (known_word (Out output Operation) (possible_at s (Out output Operation))) false

-- A byte that leaves the output on is ordered where OPERATION isn't known to be it. Where it is, and it selects a margin that the part doesn't have and
-- that isn't known, P4 is said of that.
abbrev pub power_next : PartRegisters → Summary → Survey → ℕ → Result (Option PlanOrder) PlanFault
power_next part s v byte = if is_operation_known s v.output byte then (if is_surveyed part v s then Ok None
    else Err (NotKnown (Out v.output (selected_register byte)))) else Ok (Some (record { register = Operation; word = byte }))

-- What is ordered next by what the host knows: the next order of the plan, or OPERATION; and nothing where nothing is wanted.
abbrev pub order_by : PartRegisters → OutputLimits → Summary → Survey → Option ℕ → Result (Option PlanOrder) PlanFault
order_by part limits s v None = if is_none v.plan && is_surveyed part v s then Ok None
    else plan_of part s limits v.output (wants_of (wanted_in v.plan))
order_by part limits s v (Some byte) = if is_busy s then Err Busy else power_next part s v byte

abbrev pub order_next : PartRegisters → OutputLimits → Summary → Course → Result (Option PlanOrder) PlanFault
order_next part limits s course = order_by part limits s course.survey course.byte

-- no order is left
abbrev pub is_last : Result (Option PlanOrder) PlanFault → Bool
is_last (Ok None) = true
is_last order = false

-- Something was ordered since the survey began, which has ended by its own rule, and no order is left: then all is read
-- once more, by a new survey with the tries that are left.
abbrev pub is_carried_out : PartRegisters → OutputLimits → Summary → Course → Bool
is_carried_out part limits s course = course.ordered
    && (is_none course.twice && (is_surveyed part course.survey s && is_last (order_next part limits s course)))

abbrev pub once_more : Course → Course
once_more course = record course {
  survey = survey_of course.survey.output course.survey.plan course.survey.left;
  ordered = false;
}

abbrev pub renewed : PartRegisters → OutputLimits → Summary → Course → Course
renewed part limits s course = if is_carried_out part limits s course then once_more course else course

-- the job that is due, which takes a try
abbrev pub taking : Course → Asked → Next
taking course job = if course.survey.left == 0 then Ended (Stopped (Spent job)) else Job job

-- what comes next once the survey asks for nothing more: the next order, or the end
abbrev pub ordering : Course → Result (Option PlanOrder) PlanFault → Next
ordering course (Err fault) = Ended (Stopped (Refused fault))
ordering course (Ok None) = Ended Reached
ordering course (Ok (Some order)) = taking course (Order (Out course.survey.output order.register) order.word)

-- what the survey asks for comes first
abbrev pub survey_or_order : PartRegisters → OutputLimits → Summary → Course → Option Asked → Next
survey_or_order part limits s course (Some job) = taking course job
survey_or_order part limits s course None = ordering course (order_next part limits s course)

-- A word that is wanted of a register that the part doesn't have is refused before anything is read.
abbrev pub reading_for : PartRegisters → OutputLimits → Summary → Course → Option PlanFault → Next
reading_for part limits s course (Some fault) = Ended (Stopped (Refused fault))
reading_for part limits s course None = survey_or_order part limits s course (due_job part course.survey s)

-- A byte that turns the output off is ordered before anything is read, whatever is known, and all is reached once that order
-- was read back.
abbrev pub turning_off : Course → ℕ → Next
turning_off course byte = if course.done then Ended Reached else taking course (Order (Out course.survey.output Operation) byte)

abbrev pub going_to : PartRegisters → OutputLimits → Summary → Course → Option ℕ → Next
going_to part limits s course None =
    reading_for part limits s course (missing_fault part (wants_of (wanted_in course.survey.plan)))
going_to part limits s course (Some byte) = if has_on byte then survey_or_order part limits s course (due_job part course.survey s)
    else turning_off course byte

-- an order that differed a second time ends it
abbrev pub going : PartRegisters → OutputLimits → Summary → Course → Option Differing → Next
going part limits s course (Some differs) = Ended (Stopped (Differs differs.register differs.word))
going part limits s course None = going_to part limits s course course.byte

-- What a course says to do next, by what the host knows of a part with these registers and within the output's limits. Where
-- a job is open it has ended with H3, and goes on once that job is over.
abbrev pub says : PartRegisters → OutputLimits → Summary → Course → Next
says part limits s course = if is_busy s then Ended (Stopped (Refused Busy)) else going part limits s course course.twice

-- the course once it said so: a job that it named takes a try
abbrev pub is_order : Asked → Bool
is_order (Order cell word) = true
is_order job = false

abbrev pub naming : Course → Next → Course
naming course (Job job) = record course { survey = asking course.survey (Some job); ordered = course.ordered || is_order job }
naming course (Ended end) = course

-- both, of the course as it is asked
abbrev pub next_of : PartRegisters → OutputLimits → Summary → Course → Next
next_of part limits s course = says part limits s (renewed part limits s course)

abbrev pub after_next : PartRegisters → OutputLimits → Summary → Course → Course
after_next part limits s course = naming (renewed part limits s course) (next_of part limits s course)

-- An order ended so: it was read back as it was given; or it differs, the second time where one of the same register differed
-- before.
abbrev pub differing : Course → Option Asked → JobEnd → Course
differing course (Some (Order (Out output register) word)) (end.Differs read) = record course {
  differed = and_read course.differed (Out output register);
  twice = rule (has_read course.differed register) (record { register = register; word = read });
}
differing course (Some (Order cell word)) end.Done = record course { done = true }
differing course job end = course

-- the course once it was told how the job ended that it named
abbrev pub told_of : Course → JobEnd → Course
told_of course end = record (differing course course.survey.asked end) { survey = ended course.survey course.survey.asked end }

-- what a course says next, and what it is then, by a guard's host, registers and limits
abbrev pub next_by : Guarded → Course → Next
next_by guard course = next_of guard.registers (limits_at guard course.survey.output) guard.host course

abbrev pub after_by : Guarded → Course → Course
after_by guard course = after_next guard.registers (limits_at guard course.survey.output) guard.host course

-- A guard begins the job that the course names, and nothing else happens in between (`begun`); it has ended (`over`); or the
-- guard refuses the job, which leaves both (`refused`): of a course to wanted words it refuses none.
pub data BeginsNext (old : Guarded) (course : Course) (new : Guarded) : Result Next LimitFault → Course → Type 0 where
  begun : (job : Asked) → next_by old course ≡ Job job → LetsBegin old job (Ok tt) new →
      BeginsNext old course new (Ok (Job job)) (after_by old course)
  over : (end : ApplyEnd) → next_by old course ≡ Ended end → new ≡ old →
      BeginsNext old course new (Ok (Ended end)) (after_by old course)
  refused : (job : Asked) (fault : LimitFault) → next_by old course ≡ Job job → guard_fault old job ≡ Some fault → new ≡ old →
      BeginsNext old course new (Err fault) course
