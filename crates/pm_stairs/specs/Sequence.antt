-- A list of steps over the outputs of several parts: this project's own choice.
use Rattle.std.specs.Prelude.{◌≡◌, ◌≢◌, ℕ, Bool, true, false, not, ◌&&◌, ◌||◌, ◌==◌, if◌then◌else◌, Option, Some, None, is_some, is_none}
use Rattle.std.specs.Prelude.{◌+◌, ◌-◌, nat_lt}
use Rattle.pm_table.specs.Operation.{has_on}
use Rattle.pm_table.specs.Rules.{rule}
use Rattle.pm_host.specs.declared.job.Job.{Job as Asked}
use Rattle.pm_limits.specs.Guard.{Guarded}
use Rattle.pm_rail.specs.declared.fault.PlanFault.{PlanFault}
use Rattle.pm_rail.specs.Registers.{nothing}
use Rattle.pm_course.specs.declared.frame_course.FrameCourse.{FrameCourse}
use Rattle.pm_stairs.specs.declared.said.StepEnd.TheVariants.{Restarted}
use Rattle.pm_stairs.specs.declared.sequence.Placed.{Placed}
use Rattle.pm_stairs.specs.declared.sequence.Sequence.{Sequence}
use Rattle.pm_stairs.specs.declared.sequence.Turn.{Turn}
use Rattle.pm_stairs.specs.declared.sequence.Turn.TheVariants as turn
use Rattle.pm_stairs.specs.declared.stairs.Move.{Move}
use Rattle.pm_stairs.specs.declared.stairs.Move.TheVariants as move
use Rattle.pm_stairs.specs.declared.stairs.Stairs.{Stairs}
use Rattle.pm_stairs.specs.declared.step.Act.{Act}
use Rattle.pm_stairs.specs.declared.step.Act.TheVariants as act
use Rattle.pm_stairs.specs.declared.step.Step.{Step}
use Rattle.pm_stairs.specs.declared.step.WordStep.{WordStep}
use Rattle.pm_stairs.specs.OpenCourse.{with_course}
use Rattle.pm_stairs.specs.Stairs.{Goes, GoesAhead, stairs_new}
use Rattle.pm_stairs.specs.Steps.{step_course, step_with}
use Rattle.pm_stairs.specs.WayBack.{way_back_fault}

-- no step has begun
abbrev pub sequence_new : ℕ → Bool → Bool → Sequence
sequence_new tries keeps_back ends_at_restart = record {
  stairs = stairs_new;
  tries = tries;
  begun = 0;
  host = 0;
  under_host = 0;
  is_free = false;
  is_warned = false;
  keeps_back = keeps_back;
  ends_at_restart = ends_at_restart;
}

-- the step under way is asked first, unless it was over just now
abbrev pub is_under : Sequence → Option Placed → Bool
is_under q ahead = is_some q.stairs.under && (not q.is_free || is_none ahead)

-- the place of the host that is to be asked
abbrev pub host_ahead : ℕ → Option Placed → ℕ
host_ahead host None = host
host_ahead host (Some placed) = placed.host

abbrev pub host_due : Sequence → Option Placed → ℕ
host_due q ahead = if is_under q ahead then q.under_host else host_ahead q.host ahead

-- a step that turns an output off begins at once, with nothing read, where no way back is kept
abbrev pub is_at_once : Bool → Act → Bool
is_at_once keeps_back (act.Sets wishes) = false
is_at_once keeps_back (act.Words words) = false
is_at_once keeps_back (act.Turns byte) = not keeps_back && not (has_on byte)
is_at_once keeps_back act.Surveys = false
is_at_once keeps_back act.Rests = false

abbrev pub off_at_once : Sequence → Bool → Option Placed → Option Step
off_at_once q under None = None
off_at_once q under (Some placed) = rule (not under && is_at_once q.keeps_back placed.step.act) placed.step

-- the first step ahead, where it is asked apart from the one under way, which was over by its own host just now
abbrev pub asked_apart : Sequence → Option Placed → Option Step
asked_apart q None = None
asked_apart q (Some placed) = rule q.is_free placed.step

-- the first step ahead, where it is asked with the one under way: of the same host
abbrev pub ahead_here : Sequence → Option Placed → Option Step
ahead_here q None = None
ahead_here q (Some placed) = rule (placed.host == q.host && not (is_at_once q.keeps_back placed.step.act)) placed.step

-- a list has at most 65,535 steps
abbrev pub one_step_more : ℕ → ℕ
one_step_more begun = if nat_lt begun 65535 then begun + 1 else begun

-- one step more has begun, of the host that was asked
abbrev pub one_begun : Sequence → Stairs → Sequence
one_begun q stairs = record q {
  stairs = stairs;
  begun = one_step_more q.begun;
  under_host = q.host;
  is_free = false;
  is_warned = false;
}

abbrev pub at_once : Stairs → Step → ℕ → Stairs
at_once stairs step tries = record stairs {
  under = Some (record { step = step_with step nothing; course = step_course step tries });
  coming = None;
  reading = false;
}

-- why the way back of a step would be refused, where that wasn't said and a way back is kept
abbrev pub refused_back : Guarded → Sequence → WordStep → Option PlanFault
refused_back g q back = if not q.keeps_back || q.is_warned then None else way_back_fault g back

-- what comes of what the stairs say
abbrev pub begins_turn : Asked → WordStep → Option PlanFault → Turn
begins_turn job back None = turn.Begins job back
begins_turn job back (Some fault) = turn.NoWayBack fault

abbrev pub reached_turn : Option Placed → Turn
reached_turn None = turn.Reached
reached_turn (Some placed) = turn.Again

abbrev pub turned : Option Placed → Move → Option PlanFault → Turn
turned ahead (move.Job job) refused = turn.Job job
turned ahead (move.Begins job back) refused = begins_turn job back refused
turned ahead (move.Passes back) refused = turn.Passes back
turned ahead move.Reached refused = reached_turn ahead
turned ahead (move.Stops why) refused = turn.Stops why

abbrev pub begins_after : Sequence → Stairs → Option PlanFault → Sequence
begins_after q asked None = one_begun q asked
begins_after q asked (Some fault) = record q { is_free = false; is_warned = true }

abbrev pub with_stairs : Sequence → Stairs → Sequence
with_stairs q stairs = record q { stairs = stairs }

abbrev pub stairs_reached_after : Sequence → Stairs → Option Placed → Sequence
stairs_reached_after q asked None = record q { stairs = asked }
stairs_reached_after q asked (Some placed) = record q { stairs = asked; is_free = true; host = placed.host }

abbrev pub turned_after : Option Placed → Sequence → Move → Stairs → Option PlanFault → Sequence
turned_after ahead q (move.Job job) asked refused = record q { stairs = asked; is_free = false }
turned_after ahead q (move.Begins job back) asked refused = begins_after q asked refused
turned_after ahead q (move.Passes back) asked refused = one_begun q asked
turned_after ahead q move.Reached asked refused = stairs_reached_after q asked ahead
turned_after ahead q (move.Stops why) asked refused = record q { stairs = asked; is_free = false }

-- why the way back of the step that begins would be refused
abbrev pub refused_for : Guarded → Sequence → Move → Option PlanFault
refused_for g q (move.Job job) = None
refused_for g q (move.Begins job back) = refused_back g q back
refused_for g q (move.Passes back) = None
refused_for g q move.Reached = None
refused_for g q (move.Stops why) = None

-- what the first step ahead asks for, where the one under way is over by its own host
pub data GoesApart (g : Guarded) (tries : ℕ) (step : Step) (old : Stairs) : Move → Stairs → Type 0 where
  ended_apart : old.restarted ≡ true → GoesApart g tries step old (move.Stops Restarted) old
  goes_apart : (said : Move) (new : Stairs) → old.restarted ≡ false → GoesAhead g tries step old said new →
      GoesApart g tries step old said new

-- What the stairs say: both steps are asked by one host (`here`), or the first one ahead by its own, once the one under way was over by its
-- (`apart`).
pub data Says (g : Guarded) (ahead : Option Placed) (q : Sequence) : Move → Stairs → Type 0 where
  here : (said : Move) (asked : Stairs) → asked_apart q ahead ≡ None → Goes g q.tries (ahead_here q ahead) q.stairs said asked →
      Says g ahead q said asked
  apart : (step : Step) (said : Move) (asked : Stairs) → asked_apart q ahead ≡ Some step → GoesApart g q.tries step q.stairs said asked →
      Says g ahead q said asked

-- What comes next by the host at the place that was named. Another one is named where that is the one to ask (`elsewhere`). Where no way
-- back is kept an output is turned off at once (`at_once_of`). Otherwise the stairs are asked (`asks`).
pub data Turns (g : Guarded) (ahead : Option Placed) (old : Sequence) : Turn → Sequence → Type 0 where
  elsewhere : old.host ≢ host_due old ahead → Turns g ahead old turn.Again (record old { host = host_due old ahead })
  at_once_of : (step : Step) → old.host ≡ host_due old ahead → off_at_once old (is_under old ahead) ahead ≡ Some step →
      Turns g ahead old turn.Again (one_begun old (at_once old.stairs step old.tries))
  asks : (said : Move) (asked : Stairs) → old.host ≡ host_due old ahead → off_at_once old (is_under old ahead) ahead ≡ None →
      Says g ahead old said asked →
      Turns g ahead old (turned ahead said (refused_for g old said)) (turned_after ahead old said asked (refused_for g old said))

-- the guard refuses what was named: all is as before, but for which step stopped
abbrev pub refused_in : Sequence → Sequence → Bool → Sequence
refused_in q named begins = record q { is_free = false; stairs = record q.stairs { reading = begins || named.stairs.reading } }

-- the course whose job was named last has become this one; a restart of a part is noted where it ends the list
abbrev pub heard_with : Sequence → FrameCourse → Bool → Sequence
heard_with q course restarted = record q { stairs = with_course q.stairs course (restarted && q.ends_at_restart) }

-- what stopped is the step under way
abbrev pub has_begun : Sequence → Bool
has_begun q = is_some q.stairs.under && not q.stairs.reading

abbrev pub step_stopped : Sequence → ℕ
step_stopped q = if has_begun q && nat_lt 0 q.begun then q.begun - 1 else q.begun

-- The step that stopped is left: none is under way then, whether it had begun or not.
abbrev pub left : Stairs → Stairs
left stairs = record stairs { under = None; coming = None; reading = false }

abbrev pub skipped : Sequence → Sequence
skipped q = record q {
  stairs = left q.stairs;
  begun = if has_begun q then q.begun else one_step_more q.begun;
  is_free = false;
  is_warned = false;
}
