-- What comes next in a list of steps whose rails are looked at. What a step asks for, and when the next one may begin by what the hosts know,
-- is what pm_stairs says (`Turns`); what a rail does is what pm_delivery says. This project's own choice.
use Rattle.std.specs.Prelude.{◌≡◌, ◌+◌, ℕ, Bool, true, false, not, ◌&&◌, ◌||◌, ◌==◌, nat_lt, if◌then◌else◌, Option, Some, None}
use Rattle.pm_table.specs.declared.cell.Cell.TheVariants.{Out}
use Rattle.pm_table.specs.declared.reg.Reg.TheVariants.{Operation}
use Rattle.pm_table.specs.Cell.{register_code}
use Rattle.pm_host.specs.declared.job.Job.{Job}
use Rattle.pm_host.specs.Summary.{Summary, possible_at}
use Rattle.pm_limits.specs.declared.part_registers.PartRegisters.{PartRegisters}
use Rattle.pm_limits.specs.declared.output_limits.OutputLimits.{OutputLimits}
use Rattle.pm_limits.specs.Guard.{Guarded, limits_at}
use Rattle.pm_rail.specs.declared.fault.PlanFault.{PlanFault}
use Rattle.pm_rail.specs.declared.power.Power.{Power}
use Rattle.pm_rail.specs.Course.{once_more}
use Rattle.pm_rail.specs.Rail.{power_of}
use Rattle.pm_course.specs.declared.answer_fault.AnswerFault.{AnswerFault}
use Rattle.pm_course.specs.declared.course_end.CourseEnd.TheVariants.{Spent}
use Rattle.pm_course.specs.declared.frame_course.FrameCourse.{FrameCourse}
use Rattle.pm_course.specs.Ends.{code_of}
use Rattle.pm_delivery.specs.declared.delivery.Delivery.{Delivery}
use Rattle.pm_delivery.specs.declared.due.Due.{Due}
use Rattle.pm_delivery.specs.declared.due.Due.TheVariants as due
use Rattle.pm_delivery.specs.declared.verdict.Verdict.{Verdict}
use Rattle.pm_delivery.specs.declared.verdict.Verdict.TheVariants as verdict
use Rattle.pm_delivery.specs.Deliveries.{looking_after}
use Rattle.pm_delivery.specs.Due.{due_of}
use Rattle.pm_delivery.specs.Ended.{delivery_verdict_of}
use Rattle.pm_delivery.specs.Reading.{reading_in}
use Rattle.pm_stairs.specs.declared.said.StepEnd.{StepEnd}
use Rattle.pm_stairs.specs.declared.said.StepEnd.TheVariants.{Course, Changed, Restarted}
use Rattle.pm_stairs.specs.declared.sequence.Placed.{Placed}
use Rattle.pm_stairs.specs.declared.sequence.Sequence.{Sequence as List}
use Rattle.pm_stairs.specs.declared.sequence.Turn.{Turn}
use Rattle.pm_stairs.specs.declared.sequence.Turn.TheVariants as turn
use Rattle.pm_stairs.specs.declared.stairs.Under.{Under}
use Rattle.pm_stairs.specs.declared.step.WordStep.{WordStep}
use Rattle.pm_stairs.specs.OpenCourse.{course_open}
use Rattle.pm_stairs.specs.Sequence.{Turns, heard_with, one_step_more, sequence_new, skipped}
use Rattle.pm_sequence.specs.declared.sequence.Fresh.{Fresh}
use Rattle.pm_sequence.specs.declared.sequence.Fresh.TheVariants as fresh
use Rattle.pm_sequence.specs.declared.gate.Gate.{Gate}
use Rattle.pm_sequence.specs.declared.gate.Gate.TheVariants as gate_is
use Rattle.pm_sequence.specs.declared.look.Look.{Look}
use Rattle.pm_sequence.specs.declared.look.LookAct.{LookAct}
use Rattle.pm_sequence.specs.declared.look.LookAct.TheVariants as look
use Rattle.pm_sequence.specs.declared.sequence.Act.{Act}
use Rattle.pm_sequence.specs.declared.sequence.Act.TheVariants as act
use Rattle.pm_sequence.specs.declared.sequence.End.{End}
use Rattle.pm_sequence.specs.declared.sequence.End.TheVariants as end
use Rattle.pm_sequence.specs.declared.sequence.Phase.{Phase}
use Rattle.pm_sequence.specs.declared.sequence.Phase.TheVariants as phase
use Rattle.pm_sequence.specs.declared.sequence.Rules.{Rules}
use Rattle.pm_sequence.specs.declared.sequence.Sequence.{Sequence}
use Rattle.pm_sequence.specs.declared.step.Step.{Step}
use Rattle.pm_sequence.specs.Gate.{is_on_order, is_job_order, is_untold, order_gate, step_gate}
use Rattle.pm_sequence.specs.Look.{look_act, look_after_due, looking, new_probe}
use Rattle.pm_sequence.specs.Lowers.{lowers}
use Rattle.pm_sequence.specs.Steps.{before_of, is_of, is_unreadable, new_of, same_heard, turns_off}
use Rattle.pm_delivery.specs.Deliveries.{new_delivery}

abbrev pub new_sequence : ℕ → Rules → Sequence
new_sequence tries rules = record {
  list = sequence_new tries rules.keeps_back rules.ends_at_restart;
  look = looking (new_delivery 0 0 0 0 0);
  look_host = 0;
  phase = phase.Steps;
  is_read = false;
  is_shown = false;
  is_waited = false;
  is_looked = false;
  leaves = rules.leaves;
  asks = rules.asks;
  told = None;
  fresh = fresh.Nothing;
  turned_on = 0;
  lowers = false;
  left = 0;
  end = None;
}

-- ---- When an order may begin ----

-- what is looked at is the output of a step as the step asks for it, from what it says that stood before; and what stands before its first order
-- was read
abbrev pub is_at : Sequence → Step → Bool
is_at q step = q.look_host == step.placed.host && (is_of q.look.delivery step && same_heard q.look.stood step.before)

abbrev pub is_read_for : Sequence → Step → Bool
is_read_for q step = q.is_read && is_at q step

-- what is said of a job of a step: an order that leaves its output on begins once what stands before is read, and its goal is within the
-- fault limits
abbrev pub read_gate : Guarded → Sequence → Step → Option Under → Gate
read_gate g q step under = if is_read_for q step then step_gate g q.look.delivery under else gate_is.Looks

abbrev pub judged_gate : Guarded → Sequence → Option Step → Job → Option Under → Gate
judged_gate g q None job under = gate_is.Goes
judged_gate g q (Some step) job under = if step.looks.is_wanted && order_gate job then read_gate g q step under else gate_is.Goes

-- the survey of the first step ahead, or of the one under way, began anew, and nothing was sent since but its reads
abbrev pub is_fresh : Fresh → Bool → Bool
is_fresh fresh.Nothing of_ahead = false
is_fresh fresh.Under of_ahead = not of_ahead
is_fresh fresh.Ahead of_ahead = of_ahead

-- an order that turns an output on begins directly after such a survey
abbrev pub fresh_gate : Fresh → Bool → Job → Gate → Gate
fresh_gate it of_ahead job gate_is.Goes = if is_on_order job && not (is_fresh it of_ahead) then gate_is.Blind else gate_is.Goes
fresh_gate it of_ahead job said = said

-- a step has two orders at most that turn its output on
abbrev pub twice_gate : Bool → Job → Gate → Gate
twice_gate had_two job gate_is.Goes = if is_on_order job && had_two then gate_is.Twice else gate_is.Goes
twice_gate had_two job said = said

abbrev pub had_two : Sequence → Bool → Bool
had_two q begins = not begins && not (nat_lt q.turned_on 2)

-- what is said of a job that a list, which is this then, names of a step, which begins with it or not
abbrev pub gate : Guarded → Sequence → Option Step → Job → List → Bool → Gate
gate g q step job list begins =
    twice_gate (had_two q begins) job (fresh_gate q.fresh (begins || list.stairs.reading) job (judged_gate g q step job list.stairs.under))

-- what stands before the first order of a step's output is looked at
abbrev pub look_before_step : Sequence → Option Step → Sequence
look_before_step q None = q
look_before_step q (Some step) = record q {
  look = looking (before_of step);
  look_host = step.placed.host;
  is_read = false;
  phase = phase.Before;
}

-- ---- How steps stop ----

-- A list that leaves steps leaves the one that stops, which counts; another one ends. A restart ends each.
abbrev pub left_out : Sequence → Sequence
left_out q = record q {
  list = skipped q.list;
  left = one_step_more q.left;
  phase = phase.Steps;
  is_shown = false;
  is_waited = false;
  is_looked = true;
  told = None;
  fresh = fresh.Nothing;
}

abbrev pub ended_by_restart : StepEnd → Bool
ended_by_restart Restarted = true
ended_by_restart Changed = false
ended_by_restart (Course why) = false

abbrev pub may_leave : End → Bool
may_leave (end.Stopped why) = not (ended_by_restart why)
may_leave why = true

abbrev pub stopped_act : Sequence → End → Act
stopped_act q why = if q.leaves && may_leave why then act.Leaves why else act.Ended why

abbrev pub stopped_after : Sequence → End → Sequence
stopped_after q why = if q.leaves && may_leave why then left_out q else record q { end = Some why }

-- ---- What comes of what the list says ----

abbrev pub shown : Sequence → Option Step → Option Placed
shown q None = None
shown q (Some step) = if q.is_shown then Some step.placed else None

abbrev pub with_list : Sequence → List → Sequence
with_list q list = record q { list = list }

abbrev pub begun_on : Sequence → ℕ → Bool → List → Sequence
begun_on q turned_on lowers list = record q {
  list = list;
  is_shown = false;
  is_waited = false;
  is_looked = false;
  told = None;
  fresh = fresh.Nothing;
  turned_on = turned_on;
  lowers = lowers;
}

abbrev pub begun_with : Sequence → List → Sequence
begun_with q list = begun_on q 0 false list

-- how many orders that turn its output on a step had, with this one, of two at most
abbrev pub on_count : ℕ → Job → ℕ
on_count had job = if is_on_order job then (if nat_lt had 2 then had + 1 else 2) else had

-- it begins with this order
abbrev pub begun_by : Guarded → Sequence → Job → List → Sequence
begun_by g q job list = begun_on q (on_count 0 job) (lowers g list.stairs.under) list

-- A job of the step under way, or one that reads for the next one: what was told is past, and a fresh survey stays so if the job is its own.
-- After an order the next step waits until the rail was looked at again.
abbrev pub fresh_after : Fresh → Bool → Fresh
fresh_after it of_ahead = if is_fresh it of_ahead then it else fresh.Nothing

abbrev pub read_after : Sequence → List → Sequence
read_after q list = record q { list = list; told = None; fresh = fresh_after q.fresh list.stairs.reading }

abbrev pub ordered_after : Sequence → Job → List → Sequence
ordered_after q job list = record q {
  list = list;
  is_shown = false;
  is_looked = false;
  told = None;
  fresh = fresh.Nothing;
  turned_on = on_count q.turned_on job;
}

abbrev pub job_after : Sequence → Job → List → Sequence
job_after q job list = if is_job_order job then ordered_after q job list else read_after q list

-- a job that is named so has begun: with the first order of a step that begins
abbrev pub job_begun_as : Guarded → Sequence → Act → Job → Sequence
job_begun_as g q (act.Begins first back) job = begun_by g q job q.list
job_begun_as g q (act.Job named) job = job_after q job q.list
job_begun_as g q (act.Passes back) job = job_after q job q.list
job_begun_as g q (act.Order named) job = job_after q job q.list
job_begun_as g q (act.Ask question) job = job_after q job q.list
job_begun_as g q act.Probe job = job_after q job q.list
job_begun_as g q act.Pause job = job_after q job q.list
job_begun_as g q (act.Wait milliseconds) job = job_after q job q.list
job_begun_as g q act.Again job = job_after q job q.list
job_begun_as g q (act.NoWayBack fault) job = job_after q job q.list
job_begun_as g q (act.Does found) job = job_after q job q.list
job_begun_as g q (act.Leaves why) job = job_after q job q.list
job_begun_as g q (act.Ended why) job = job_after q job q.list

-- an act by which the first step ahead begins with its order
abbrev pub is_begin : Act → Bool
is_begin (act.Begins job back) = true
is_begin (act.Job job) = false
is_begin (act.Passes back) = false
is_begin (act.Order job) = false
is_begin (act.Ask question) = false
is_begin act.Probe = false
is_begin act.Pause = false
is_begin (act.Wait milliseconds) = false
is_begin act.Again = false
is_begin (act.NoWayBack fault) = false
is_begin (act.Does found) = false
is_begin (act.Leaves why) = false
is_begin (act.Ended why) = false

-- nothing of what the list named begins: it is as before, but for which step was asked
abbrev pub asked_list : List → List → Bool → List
asked_list was named begins = record was { stairs = record was.stairs { reading = begins || named.stairs.reading } }

abbrev pub asked_of : Sequence → List → Bool → Sequence
asked_of q named begins = with_list q (asked_list q.list named begins)

-- nothing begins, and the survey of the course that named the job begins anew
abbrev pub survey_begun_anew : FrameCourse → FrameCourse
survey_begun_anew course = record course { course = once_more course.course }

abbrev pub afresh_by : List → Option FrameCourse → List
afresh_by list None = list
afresh_by list (Some course) = heard_with list (survey_begun_anew course) false

abbrev pub afresh : List → List
afresh list = afresh_by list (course_open list.stairs)

abbrev pub afresh_with : Sequence → Sequence
afresh_with q = record q { list = afresh q.list; fresh = if q.list.stairs.reading then fresh.Ahead else fresh.Under }

-- nothing begins, and this order is told
abbrev pub told_with : Sequence → Job → Sequence
told_with q job = record q { told = Some job }

-- the order that would be the third: the tries of its step are used up
abbrev pub spent_fault : Option Under → Option AnswerFault
spent_fault None = None
spent_fault (Some under) = under.course.fault

abbrev pub spent_end : Sequence → End
spent_end q = end.Stopped (Course (Spent (code_of (register_code Operation)) (spent_fault q.list.stairs.under)))

abbrev pub gated_act : Sequence → Gate → Job → Act → Act
gated_act q gate_is.Goes job said = if is_untold q.asks q.told job then act.Order job else said
gated_act q gate_is.Looks job said = act.Again
gated_act q (gate_is.Beyond fault) job said = stopped_act q (end.Beyond fault)
gated_act q gate_is.Unjudged job said = stopped_act q end.Unjudged
gated_act q gate_is.Blind job said = act.Again
gated_act q gate_is.Twice job said = stopped_act q (spent_end q)

abbrev pub gated_after : Sequence → Option Step → Gate → Job → Sequence → Sequence
gated_after q step gate_is.Goes job after = if is_untold q.asks q.told job then told_with q job else after
gated_after q step gate_is.Looks job after = look_before_step q step
gated_after q step (gate_is.Beyond fault) job after = stopped_after q (end.Beyond fault)
gated_after q step gate_is.Unjudged job after = stopped_after q end.Unjudged
gated_after q step gate_is.Blind job after = afresh_with q
gated_after q step gate_is.Twice job after = stopped_after q (spent_end q)

-- the step under way is over: its rail is looked at, where that is wanted and wasn't done since its last order
abbrev pub needs_look : Sequence → Step → Bool
needs_look q step = step.looks.is_wanted && not q.is_looked

abbrev pub look_here : Sequence → Step → Look
look_here q step = if is_at q step then q.look else looking (new_of step)

abbrev pub again_at : Look → Bool → Bool → Look
again_at l off lowers = record l { delivery = looking_after l.delivery off lowers; probe = new_probe }

abbrev pub looking_at : Sequence → Step → Sequence
looking_at q step = record q {
  look = again_at (look_here q step) (turns_off step.placed.step.act) q.lowers;
  look_host = step.placed.host;
  is_read = q.is_read && is_at q step;
  phase = phase.After;
}

abbrev pub list_end_of : ℕ → End
list_end_of left = if left == 0 then end.Reached else end.Left left

-- all of the step under way is over: the next one is shown once its wait is over
abbrev pub step_act : Sequence → Step → Act
step_act q step = if step.wait == 0 || q.is_waited then act.Again else act.Wait step.wait

abbrev pub step_after : Sequence → Step → Sequence
step_after q step = if step.wait == 0 || q.is_waited then record q { is_shown = true } else record q { is_waited = true; fresh = fresh.Nothing }

abbrev pub ahead_act : Sequence → Option Step → Act
ahead_act q None = act.Ended (list_end_of q.left)
ahead_act q (Some step) = step_act q step

abbrev pub ahead_after : Sequence → Option Step → Sequence
ahead_after q None = record q { end = Some (list_end_of q.left) }
ahead_after q (Some step) = step_after q step

abbrev pub over_act : Sequence → Option Step → Option Step → Act
over_act q None ahead = ahead_act q ahead
over_act q (Some step) ahead = if needs_look q step then act.Again else ahead_act q ahead

abbrev pub over_after : Sequence → Option Step → Option Step → Sequence
over_after q None ahead = ahead_after q ahead
over_after q (Some step) ahead = if needs_look q step then looking_at q step else ahead_after q ahead

abbrev pub reached_act : Sequence → Option Step → Option Step → List → Act
reached_act q under ahead list = over_act (with_list q list) under ahead

abbrev pub reached_after : Sequence → Option Step → Option Step → List → Sequence
reached_after q under ahead list = over_after (with_list q list) under ahead

-- a step that turns its output off begins at once on a way down
abbrev pub again_after : Sequence → List → Sequence
again_after q list = if list.begun == q.list.begun then with_list q list else begun_with q list

abbrev pub act_of : Guarded → Option Step → Option Step → Sequence → Turn → List → Act
act_of g under ahead q turn.Again list = act.Again
act_of g under ahead q (turn.Job job) list =
    gated_act (asked_of q list false) (gate g q under job list false) job (act.Job job)
act_of g under ahead q (turn.Begins job back) list =
    gated_act (asked_of q list true) (gate g q ahead job list true) job (act.Begins job back)
act_of g under ahead q (turn.Passes back) list = act.Passes back
act_of g under ahead q (turn.NoWayBack fault) list = act.NoWayBack fault
act_of g under ahead q turn.Reached list = reached_act q under ahead list
act_of g under ahead q (turn.Stops why) list = stopped_act (with_list q list) (end.Stopped why)

abbrev pub after_of : Guarded → Option Step → Option Step → Sequence → Turn → List → Sequence
after_of g under ahead q turn.Again list = again_after q list
after_of g under ahead q (turn.Job job) list =
    gated_after (asked_of q list false) under (gate g q under job list false) job (job_after q job list)
after_of g under ahead q (turn.Begins job back) list =
    gated_after (asked_of q list true) ahead (gate g q ahead job list true) job (begun_by g q job list)
after_of g under ahead q (turn.Passes back) list = begun_with q list
after_of g under ahead q (turn.NoWayBack fault) list = with_list q list
after_of g under ahead q turn.Reached list = reached_after q under ahead list
after_of g under ahead q (turn.Stops why) list = stopped_after (with_list q list) (end.Stopped why)

pub data Steps (g : Guarded) (under ahead : Option Step) (old : Sequence) : Act → Sequence → Type 0 where
  turns : (said : Turn) (list : List) → Turns g (shown old ahead) old.list said list →
      Steps g under ahead old (act_of g under ahead old said list) (after_of g under ahead old said list)

-- ---- What comes of a look ----

-- what is due of a delivery, and what its rail does, by what is seen of a host
abbrev pub power_in : Summary → ℕ → Power
power_in s output = power_of (possible_at s (Out output Operation))

abbrev pub delivery_due_by : PartRegisters → OutputLimits → Summary → Delivery → Due
delivery_due_by part limits s d = due_of d s.setup.passes (power_in s d.output) (reading_in part limits s d)

abbrev pub delivery_verdict_by : PartRegisters → OutputLimits → Summary → Delivery → Verdict
delivery_verdict_by part limits s d = delivery_verdict_of d s.setup.passes (power_in s d.output) (reading_in part limits s d)

abbrev pub due_in : Guarded → Delivery → Due
due_in g d = if nat_lt d.output 8 then delivery_due_by g.registers (limits_at g d.output) g.host d else due.Nothing

abbrev pub verdict_in : Guarded → Delivery → Verdict
verdict_in g d = if nat_lt d.output 8 then delivery_verdict_by g.registers (limits_at g d.output) g.host d else verdict.NotYet

-- The rail does what it is to: it delivers, or went off. One that isn't commanded on isn't asked, and one of which nothing can be read, as the
-- caller says, can't be; they do where the step doesn't have to deliver.
abbrev pub is_good_by : Step → Verdict → Bool
is_good_by step verdict.Delivers = true
is_good_by step verdict.DeliversByVoltage = true
is_good_by step verdict.WentOff = true
is_good_by step verdict.CommandedOff = not step.looks.must_deliver
is_good_by step verdict.NotKnownOn = not step.looks.must_deliver
is_good_by step verdict.PowerGoodAlone = step.looks.tells_power_good
is_good_by step verdict.NotYet = false
is_good_by step verdict.IsOff = false
is_good_by step (verdict.NewFault register place) = false
is_good_by step verdict.OutsideLimits = false
is_good_by step verdict.Beyond = false
is_good_by step verdict.NoPowerGood = false
is_good_by step (verdict.NotKnown register fault) = is_unreadable step && not step.looks.must_deliver
is_good_by step verdict.StillOn = false

abbrev pub is_verdict_good : Option Step → Verdict → Bool
is_verdict_good None verdict = false
is_verdict_good (Some step) verdict = is_good_by step verdict

-- what stands before was read; or the rail of the step that is over does this
abbrev pub before_after : Sequence → Sequence
before_after q = record q { phase = phase.Steps; is_read = true }

abbrev pub done_act : Sequence → Option Step → Verdict → Act
done_act q under said = if is_verdict_good under said then act.Does said else stopped_act q (end.Does said)

abbrev pub done_after : Sequence → Option Step → Verdict → Sequence
done_after q under said = if is_verdict_good under said then record q { phase = phase.Steps; is_looked = true }
    else stopped_after q (end.Does said)

abbrev pub found_in : Phase → Sequence → Option Step → Verdict → Act
found_in phase.Before q under said = act.Again
found_in phase.Steps q under said = done_act q under said
found_in phase.After q under said = done_act q under said

abbrev pub judged_in_phase : Phase → Sequence → Option Step → Verdict → Sequence
judged_in_phase phase.Before q under said = before_after q
judged_in_phase phase.Steps q under said = done_after q under said
judged_in_phase phase.After q under said = done_after q under said

abbrev pub found_at : Sequence → Option Step → Verdict → Act
found_at q under said = found_in q.phase q under said

abbrev pub judged_after : Sequence → Option Step → Verdict → Sequence
judged_after q under said = judged_in_phase q.phase q under said

abbrev pub said_act : Guarded → Sequence → Option Step → LookAct → Act
said_act g q under (look.Ask question) = act.Ask question
said_act g q under look.Probe = act.Probe
said_act g q under look.Pause = act.Pause
said_act g q under look.Again = act.Again
said_act g q under look.Restarted = stopped_act q (end.Stopped Restarted)
said_act g q under look.Over = found_at q under (verdict_in g q.look.delivery)

abbrev pub said_after : Guarded → Sequence → Option Step → LookAct → Sequence
said_after g q under (look.Ask question) = q
said_after g q under look.Probe = q
said_after g q under look.Pause = q
said_after g q under look.Again = q
said_after g q under look.Restarted = stopped_after q (end.Stopped Restarted)
said_after g q under look.Over = judged_after q under (verdict_in g q.look.delivery)

-- what is looked at is sent beside the list's jobs
abbrev pub with_look : Sequence → Look → Sequence
with_look q l = record q { look = l; fresh = fresh.Nothing }

abbrev pub looked_act : Guarded → Sequence → Option Step → Act
looked_act g q under =
    let due = due_in g q.look.delivery in
    said_act g (with_look q (look_after_due q.look g.host.setup.passes due)) under (look_act q.look g.host.setup.passes due)

abbrev pub looked_after : Guarded → Sequence → Option Step → Sequence
looked_after g q under =
    let due = due_in g q.look.delivery in
    said_after g (with_look q (look_after_due q.look g.host.setup.passes due)) under (look_act q.look g.host.setup.passes due)

-- ---- What comes next ----

-- the list is asked; or what is looked at; or nothing, once it has ended
pub data Acts (g : Guarded) (under ahead : Option Step) (old : Sequence) : Act → Sequence → Type 0 where
  ended : (why : End) → old.end ≡ Some why → Acts g under ahead old (act.Ended why) old
  steps : (said : Act) (new : Sequence) → old.end ≡ None → old.phase ≡ phase.Steps → Steps g under ahead old said new →
      Acts g under ahead old said new
  before : old.end ≡ None → old.phase ≡ phase.Before → Acts g under ahead old (looked_act g old under) (looked_after g old under)
  after : old.end ≡ None → old.phase ≡ phase.After → Acts g under ahead old (looked_act g old under) (looked_after g old under)
