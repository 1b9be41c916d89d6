-- What is found of a rail, when what stands before the first order counts as read, and what a run comes to, act by act.
use Rattle.std.specs.Option.{option_or}
use Rattle.std.specs.Prelude.{not, ◌&&◌, ◌||◌, ◌==◌, nat_lt}
use Rattle.std.proofs.Common.{◌≡◌, ℕ, Bool, true, false, cond, Option, Some, None, refl, sym, ◌∙◌, ap, subst, ◌+◌, suc, List as CommonList}
use Rattle.std.proofs.Common.{[], ◌∷◌, arith, ◌<◌, ◌++◌, ◌⊎◌, inl, inr}
use Rattle.std.proofs.lemmas.Bool.{eqb-true, true≢false, eq-eqb, ne_eqb, or_left, or_right, ltb-true, ltb-false}
use Rattle.pm_table.specs.Rules.{rule}
use Rattle.pm_host.specs.declared.job.Job.{Job}
use Rattle.pm_limits.specs.{Guard.Guarded, declared.fault.LimitFault.LimitFault}
use Rattle.pm_rail.specs.declared.fault.PlanFault.{PlanFault}
use Rattle.pm_course.specs.declared.frame_course.FrameCourse.{FrameCourse}
use Rattle.pm_stairs.specs.{OpenCourse.course_open, declared.said.Said.Said, declared.sequence.Placed.Placed}
use Rattle.pm_stairs.specs.{declared.sequence.Sequence.Sequence as List, declared.sequence.Turn.Turn, declared.stairs.Move.Move}
use Rattle.pm_stairs.specs.{declared.stairs.Stairs.Stairs, declared.step.Step.Step, declared.step.WordStep.WordStep}
use Rattle.pm_stairs.specs.Sequence as list
use Rattle.pm_stairs.specs.Sequence.{Says, Turns, begins_after, begins_turn, is_under, off_at_once, one_step_more, refused_back}
use Rattle.pm_stairs.specs.Sequence.{refused_for}
use Rattle.pm_stairs.specs.Sequence.{turned, turned_after}
use Rattle.pm_stairs.specs.Stairs as goes
use Rattle.pm_stairs.specs.Stairs.{Goes, GoesUnder, under_move}
use Rattle.pm_stairs.specs.declared.said.Said.TheVariants as said
use Rattle.pm_stairs.specs.declared.said.StepEnd.TheVariants as ended
use Rattle.pm_stairs.specs.declared.sequence.Turn.TheVariants as turn
use Rattle.pm_stairs.specs.declared.stairs.Move.TheVariants as move
use Rattle.pm_delivery.specs.{Heard.is_question_due, declared.delivery.Delivery.Delivery, declared.due.Due.Due}
use Rattle.pm_delivery.specs.{declared.question.Question.Question}
use Rattle.pm_delivery.specs.{declared.verdict.Verdict.Verdict}
use Rattle.pm_delivery.specs.Deliveries.{look_before as before_number, has_status, limits_skip}
use Rattle.pm_delivery.specs.Due.{due_question, question_due_before, asks_limits}
use Rattle.pm_delivery.specs.declared.due.Due.TheVariants as due
use Rattle.pm_delivery.specs.declared.question.Question.TheVariants.{Before, OvFaultLimit, OvWarnLimit, UvWarnLimit, UvFaultLimit}
use Rattle.pm_delivery.specs.declared.verdict.Verdict.TheVariants as verdict
use Rattle.pm_sequence.specs.{Lowers.lowers, Steps.is_unreadable, declared.gate.Gate.Gate, declared.look.Look.Look}
use Rattle.pm_sequence.specs.{declared.look.LookAct.LookAct, declared.sequence.Act.Act, declared.sequence.End.End}
use Rattle.pm_sequence.specs.{declared.sequence.Phase.Phase, declared.sequence.Rules.Rules, declared.sequence.Sequence.Sequence}
use Rattle.pm_sequence.specs.{declared.step.Step.Step as SequenceStep}
use Rattle.pm_sequence.specs.Frames.{job_named, refusal_end, refused_act, refused_after, refused_with}
use Rattle.pm_sequence.specs.Gate.{is_job_order, is_untold}
use Rattle.pm_sequence.specs.Look.{look_act, look_after_due, asks_operation, look_counted, found_act, found_after, is_output_lost}
use Rattle.pm_sequence.specs.Look.{probe_due}
use Rattle.pm_sequence.specs.Sequence as does
use Rattle.pm_sequence.specs.Sequence.{afresh, afresh_by, Acts, Steps, act_of, afresh_with, after_of, ahead_act, ahead_after, asked_of}
use Rattle.pm_sequence.specs.Sequence.{begun_by, begun_on, begun_with, done_after, due_in, found_in, gate, gated_act, gated_after}
use Rattle.pm_sequence.specs.Sequence.{is_verdict_good}
use Rattle.pm_sequence.specs.Sequence.{job_after, judged_in_phase, looked_act, look_before_step, may_leave, needs_look, on_count}
use Rattle.pm_sequence.specs.Sequence.{ordered_after}
use Rattle.pm_sequence.specs.Sequence.{over_act, over_after, read_after, said_act, said_after, shown, spent_end, stopped_act, stopped_after}
use Rattle.pm_sequence.specs.Sequence.{told_with, verdict_in, with_list, with_look, asked_list, is_at, left_out, looking_at, new_sequence}
use Rattle.pm_sequence.specs.declared.gate.Gate.TheVariants as gate_is
use Rattle.pm_sequence.specs.declared.look.LookAct.TheVariants as look
use Rattle.pm_sequence.specs.declared.sequence.Act.TheVariants as act
use Rattle.pm_sequence.specs.declared.sequence.End.TheVariants as end
use Rattle.pm_sequence.specs.declared.sequence.Fresh.TheVariants as fresh
use Rattle.pm_sequence.specs.declared.sequence.Phase.TheVariants as phase
use Rattle.pm_sequence_laws.specs.Finds.{FindsAreVerdicts, IsDelivered, IsFound, by_voltage, delivers, power_good, went_off}
use Rattle.pm_sequence_laws.specs.Read.{LimitsAreRead, WasRead, EarlierAnswersCount}
use Rattle.pm_sequence_laws.specs.Runs as run
use Rattle.pm_sequence_laws.specs.Runs.{Mark, Orders, Does, Leaves, Places, marks_of, must, under_at, NoneLeft, ReachedSequencesDeliver}
use Rattle.pm_sequence_laws.specs.Runs.{Runs, settled}

-- How many steps have begun, by what a list says.

-- a step may begin with what is said
abbrev pub may_begin : Turn → Bool
may_begin turn.Again = true
may_begin (turn.Begins job back) = true
may_begin (turn.Passes back) = true
may_begin (turn.Job job) = false
may_begin (turn.NoWayBack fault) = false
may_begin turn.Reached = false
may_begin (turn.Stops why) = false

-- as many have begun as before, or the first one ahead too
pub data Counts (q : List) (ahead : Option Placed) (new : List) : Turn → Type 0 where
  same : (x : Turn) → new.begun ≡ q.begun → Counts q ahead new x
  counts_more : (x : Turn) (placed : Placed) → may_begin x ≡ true → ahead ≡ Some placed → new.begun ≡ one_step_more q.begun
      → Counts q ahead new x

abbrev is_begin : Move → Bool
is_begin (move.Begins job back) = true
is_begin (move.Passes back) = true
is_begin (move.Job job) = false
is_begin move.Reached = false
is_begin (move.Stops why) = false

abbrev begins_in : Option Move → Bool
begins_in None = false
begins_in (Some x) = is_begin x

under-quiet : (x : Said) → begins_in (under_move x) ≡ false
under-quiet (said.Orders cell word) = refl
under-quiet (said.Reads job) = refl
under-quiet (said.Looks cell) = refl
under-quiet said.Over = refl
under-quiet (said.Stops why) = refl

under-none : (g : Guarded) (old new : Stairs) (next : Option Move) → GoesUnder g old next new → begins_in next ≡ false
under-none g old new next (goes.free none) = refl
under-none g old new next (goes.absent under is gone) = refl
under-none g old new next (goes.asks under x course is says) = under-quiet x

-- no step begins where none is ahead
goes-none : (g : Guarded) (tries : ℕ) (ahead : Option Step) (old new : Stairs) (x : Move) → Goes g tries ahead old x new → ahead ≡ None
    → is_begin x ≡ false
goes-none g tries ahead old new x (goes.restarted was) is = refl
goes-none g tries ahead old new x (goes.under next new' on says) is = under-none g old new (Some x) says
goes-none g tries ahead old new x (goes.first step next between new' on over some says) is = cc
goes-none g tries ahead old new x (goes.all new' on over none) is = refl

says-none : (g : Guarded) (q : List) (x : Move) (asked : Stairs) → Says g None q x asked → is_begin x ≡ false
says-none g q x asked (list.here x' asked' none says) = goes-none g q.tries None q.stairs asked x says refl
says-none g q x asked (list.apart step x' asked' some says) = cc

begins-so : (g : Guarded) (q : List) (placed : Placed) (asked : Stairs) (job : Job) (back : WordStep) (fault : Option PlanFault)
    → Counts q (Some placed) (begins_after q asked fault) (begins_turn job back fault)
begins-so g q placed asked job back None = counts_more (turn.Begins job back) placed refl refl refl
begins-so g q placed asked job back (Some fault) = same (turn.NoWayBack fault) refl

some-so : (g : Guarded) (q : List) (placed : Placed) (x : Move) (asked : Stairs)
    → Counts q (Some placed) (turned_after (Some placed) q x asked (refused_for g q x)) (turned (Some placed) x (refused_for g q x))
some-so g q placed (move.Job job) asked = same (turn.Job job) refl
some-so g q placed (move.Begins job back) asked = begins-so g q placed asked job back (refused_back g q back)
some-so g q placed (move.Passes back) asked = counts_more (turn.Passes back) placed refl refl refl
some-so g q placed move.Reached asked = same turn.Again refl
some-so g q placed (move.Stops why) asked = same (turn.Stops why) refl

none-so : (g : Guarded) (q : List) (x : Move) (asked : Stairs) → is_begin x ≡ false
    → Counts q None (turned_after None q x asked (refused_for g q x)) (turned None x (refused_for g q x))
none-so g q (move.Job job) asked quiet = same (turn.Job job) refl
none-so g q (move.Begins job back) asked quiet = cc
none-so g q (move.Passes back) asked quiet = cc
none-so g q move.Reached asked quiet = same turn.Reached refl
none-so g q (move.Stops why) asked quiet = same (turn.Stops why) refl

asked-so : (g : Guarded) (q : List) (ahead : Option Placed) (x : Move) (asked : Stairs) → Says g ahead q x asked
    → Counts q ahead (turned_after ahead q x asked (refused_for g q x)) (turned ahead x (refused_for g q x))
asked-so g q None x asked says = none-so g q x asked (says-none g q x asked says)
asked-so g q (Some placed) x asked says = some-so g q placed x asked

off-some : (q : List) (b : Bool) (ahead : Option Placed) (step : Step) → off_at_once q b ahead ≡ Some step
    → (placed : Placed) × (ahead ≡ Some placed)
off-some q b None step is = cc
off-some q b (Some placed) step is = (placed, refl)

pub counts : (g : Guarded) (ahead : Option Placed) (q new : List) (x : Turn) → Turns g ahead q x new → Counts q ahead new x
counts g ahead q new x (list.elsewhere due) = same turn.Again refl
counts g ahead q new x (list.at_once_of step due off) =
    let some = off-some q (is_under q ahead) ahead step off in
    counts_more turn.Again some.0 refl some.1 refl
counts g ahead q new x (list.asks said' asked due off says) = asked-so g q ahead said' asked says

-- a survey that begins anew begins no step
afresh-by : (q : List) (open_course : Option FrameCourse) → (afresh_by q open_course).begun ≡ q.begun
afresh-by q None = refl
afresh-by q (Some course) = refl

pub afresh-begun : (q : List) → (afresh q).begun ≡ q.begun
afresh-begun q = afresh-by q (course_open q.stairs)

-- What an act is to how far a sequence has come.

abbrev reached : Option End
reached = Some end.Reached

-- the first step ahead has begun, which was shown, or none
pub data Begun (steps : Places) (old new : Sequence) : Type 0 where
  acted_same : new.list.begun ≡ old.list.begun → Begun steps old new
  one : (step : SequenceStep) → old.is_shown ≡ true → steps old.list.begun ≡ Some step → new.list.begun ≡ one_step_more old.list.begun
      → Begun steps old new

-- What an act is: nothing new (`quiet`); a step begins, or an order (`begins`, `orders`); the next step is shown once the newest is looked at
-- (`opens`), or all is over then (`ends`); the rail of the newest does what it is to (`finds`); a step is left (`leaves`).
pub data Kind (steps : Places) (old new : Sequence) : CommonList Mark → Type 0 where
  acted_quiet : new.list.begun ≡ old.list.begun → (new.is_shown ≡ true → old.is_shown ≡ true)
      → (new.is_looked ≡ true → old.is_looked ≡ true)
      → new.left ≡ old.left → (new.end ≡ reached → old.end ≡ reached) → Kind steps old new []
  begins : Begun steps old new → new.is_shown ≡ false → new.is_looked ≡ false → new.left ≡ old.left → (new.end ≡ reached → ⊥)
      → Kind steps old new []
  orders : Begun steps old new → new.is_shown ≡ false → new.is_looked ≡ false → new.left ≡ old.left → (new.end ≡ reached → ⊥)
      → Kind steps old new (Orders new.list.begun ∷ [])
  opens : new.list.begun ≡ old.list.begun → (must (under_at steps old.list.begun) ≡ true → old.is_looked ≡ true) → new.left ≡ old.left
      → (new.end ≡ reached → ⊥) → Kind steps old new []
  finds : (found : Verdict) → new.list.begun ≡ old.list.begun → is_verdict_good (under_at steps old.list.begun) found ≡ true → new.left
      ≡ old.left
      → (new.end ≡ reached → ⊥) → Kind steps old new (Does new.list.begun found ∷ [])
  leaves : (new.left ≡ 0 → ⊥) → (new.end ≡ reached → ⊥) → Kind steps old new (Leaves ∷ [])
  ends : new.list.begun ≡ old.list.begun → (must (under_at steps old.list.begun) ≡ true → old.is_looked ≡ true) → new.left ≡ old.left
      → steps old.list.begun ≡ None → (new.end ≡ reached → old.left ≡ 0) → (new.is_shown ≡ true → old.is_shown ≡ true)
      → (new.is_looked ≡ true → old.is_looked ≡ true) → Kind steps old new []

more-by : (n : ℕ) (b : Bool) → nat_lt n 65535 ≡ b → cond b (n + 1) n ≡ 0 → ⊥
more-by n true h is = omega arith
more-by n false h is = true≢false (subst (λ (m : ℕ). nat_lt m 65535 ≡ false) is h)

more-some : (n : ℕ) → one_step_more n ≡ 0 → ⊥
more-some n is = more-by n (nat_lt n 65535) refl is

no-end : {x : Option End} → x ≡ None → x ≡ reached → ⊥
no-end {x} none is = cc

module _ (steps : Places) (was : Sequence) where
  stop-by : (q : Sequence) (why : End) → (Some why ≡ reached → ⊥) → q.list.begun ≡ was.list.begun → (q.is_shown ≡ true → was.is_shown ≡ true)
      → (q.is_looked ≡ true → was.is_looked ≡ true) → q.left ≡ was.left → q.end ≡ None → (b : Bool)
      → Kind steps was (cond b (does.left_out q) (record q { end = Some why }))
      (marks_of (cond b (does.left_out q) (record q { end = Some why })).list.begun (cond b (act.Leaves why) (act.Ended why)))
  stop-by q why other begun shows looks lefts on true = leaves (more-some q.left) (no-end on)
  stop-by q why other begun shows looks lefts on false = acted_quiet begun shows looks lefts (λ e. absurd (other e))

  stop-kind : (q : Sequence) (why : End) → (Some why ≡ reached → ⊥) → q.list.begun ≡ was.list.begun → (q.is_shown ≡ true → was.is_shown ≡ true)
      → (q.is_looked ≡ true → was.is_looked ≡ true) → q.left ≡ was.left → q.end ≡ None
      → Kind steps was (stopped_after q why) (marks_of (stopped_after q why).list.begun (stopped_act q why))
  stop-kind q why other begun shows looks lefts on = stop-by q why other begun shows looks lefts on (q.leaves && may_leave why)

  module _ (on : was.end ≡ None) where
    look-kind : (list : List) (first : Bool) (step : Option SequenceStep) →
        Kind steps was (look_before_step (asked_of was list first) step) []
    look-kind list first None = acted_quiet refl (λ e. e) (λ e. e) refl (λ e. e)
    look-kind list first (Some step) = acted_quiet refl (λ e. e) (λ e. e) refl (λ e. e)

    anew-kind : (list : List) (first : Bool) → Kind steps was (afresh_with (asked_of was list first)) []
    anew-kind list first = acted_quiet (afresh-begun (asked_of was list first).list) (λ e. e) (λ e. e) refl (λ e. e)

    -- an order is told, or begins
    tell-by : (list : List) (first : Bool) (job : Job) (after : Sequence) (x : Act) → Kind steps was after (marks_of after.list.begun x)
        → (b : Bool)
        → Kind steps was (cond b (told_with (asked_of was list first) job) after)
        (marks_of (cond b (told_with (asked_of was list first) job) after).list.begun (cond b (act.Order job) x))
    tell-by list first job after x goes true = acted_quiet refl (λ e. e) (λ e. e) refl (λ e. e)
    tell-by list first job after x goes false = goes

    -- a job, where as many have begun
    job-by : (job : Job) (list : List) → list.begun ≡ was.list.begun → (b : Bool)
        → Kind steps was (cond b (ordered_after was job list) (read_after was list))
        (cond b (Orders (cond b (ordered_after was job list) (read_after was list)).list.begun ∷ []) [])
    job-by job list begun true = orders (acted_same begun) refl refl refl (no-end on)
    job-by job list begun false = acted_quiet begun (λ e. e) (λ e. e) refl (λ e. e)

    job-kind : (step : Option SequenceStep) (job : Job) (list : List) → list.begun ≡ was.list.begun → (is : Gate)
        → Kind steps was (gated_after (asked_of was list false) step is job (job_after was job list))
        (marks_of (gated_after (asked_of was list false) step is job (job_after was job list)).list.begun
        (gated_act (asked_of was list false) is job (act.Job job)))
    job-kind step job list begun gate_is.Goes =
        tell-by list false job (job_after was job list) (act.Job job) (job-by job list begun (is_job_order job)) (is_untold was.asks was.told job)
    job-kind step job list begun gate_is.Looks = look-kind list false step
    job-kind step job list begun (gate_is.Beyond fault) =
        stop-kind (asked_of was list false) (end.Beyond fault) (λ e. cc) refl (λ e. e) (λ e. e) refl on
    job-kind step job list begun gate_is.Blind = anew-kind list false
    job-kind step job list begun gate_is.Unjudged = stop-kind (asked_of was list false) end.Unjudged (λ e. cc) refl (λ e. e) (λ e. e) refl on
    job-kind step job list begun gate_is.Twice =
        stop-kind (asked_of was list false) (spent_end (asked_of was list false)) (λ e. cc) refl (λ e. e) (λ e. e) refl on

    -- with whatever count of orders that turn on
    begun-on-so : (turned_on : ℕ) (lowers : Bool) (list : List) → Begun steps was (begun_with was list)
        → Begun steps was (begun_on was turned_on lowers list)
    begun-on-so turned_on lowers list (acted_same is) = acted_same is
    begun-on-so turned_on lowers list (one step shown ahead is) = one step shown ahead is

    begin-kind : (g : Guarded) (step : Option SequenceStep) (job : Job) (back : WordStep) (list : List)
        → Begun steps was (begun_with was list) → (is : Gate)
        → Kind steps was (gated_after (asked_of was list true) step is job (begun_by g was job list))
        (marks_of (gated_after (asked_of was list true) step is job (begun_by g was job list)).list.begun
        (gated_act (asked_of was list true) is job (act.Begins job back)))
    begin-kind g step job back list begun gate_is.Goes =
        tell-by list true job (begun_by g was job list) (act.Begins job back)
        (orders (begun-on-so (on_count 0 job) (lowers g list.stairs.under) list begun) refl refl refl (no-end on)) (is_untold was.asks was.told job)
    begin-kind g step job back list begun gate_is.Looks = look-kind list true step
    begin-kind g step job back list begun (gate_is.Beyond fault) =
        stop-kind (asked_of was list true) (end.Beyond fault) (λ e. cc) refl (λ e. e) (λ e. e) refl on
    begin-kind g step job back list begun gate_is.Blind = anew-kind list true
    begin-kind g step job back list begun gate_is.Unjudged =
        stop-kind (asked_of was list true) end.Unjudged (λ e. cc) refl (λ e. e) (λ e. e) refl on
    begin-kind g step job back list begun gate_is.Twice =
        stop-kind (asked_of was list true) (spent_end (asked_of was list true)) (λ e. cc) refl (λ e. e) (λ e. e) refl on

    -- all of the newest step is over
    end-by : (n : ℕ) (b : Bool) → (n == 0) ≡ b → Some (cond b end.Reached (end.Left n)) ≡ reached → n ≡ 0
    end-by n true h is = eqb-true n 0 h
    end-by n false h is = cc

    step-by : (q : Sequence) (step : SequenceStep) → q.list.begun ≡ was.list.begun → q.is_shown ≡ was.is_shown → q.is_looked ≡ was.is_looked
        → q.left ≡ was.left
        → q.end ≡ None → (must (under_at steps was.list.begun) ≡ true → was.is_looked ≡ true) → (b : Bool)
        → Kind steps was (cond b (record q { is_shown = true }) (record q { is_waited = true; fresh = fresh.Nothing }))
        (marks_of (cond b (record q { is_shown = true }) (record q { is_waited = true; fresh = fresh.Nothing })).list.begun (cond b act.Again (act.Wait step.wait)))
    step-by q step begun shows looks lefts off seen true = opens begun seen lefts (no-end off)
    step-by q step begun shows looks lefts off seen false =
        acted_quiet begun (λ e. sym shows ∙ e) (λ e. sym looks ∙ e) lefts (λ e. absurd (no-end off e))

    ahead-kind : (q : Sequence) → q.list.begun ≡ was.list.begun → q.is_shown ≡ was.is_shown → q.is_looked ≡ was.is_looked → q.left ≡ was.left
        → q.end ≡ None → (must (under_at steps was.list.begun) ≡ true → was.is_looked ≡ true) → (a : Option SequenceStep)
        → steps was.list.begun ≡ a
        → Kind steps was (ahead_after q a) (marks_of (ahead_after q a).list.begun (ahead_act q a))
    ahead-kind q begun shows looks lefts off seen None is =
        ends begun seen lefts is (λ e. sym lefts ∙ end-by q.left (q.left == 0) refl e) (λ e. sym shows ∙ e) (λ e. sym looks ∙ e)
    ahead-kind q begun shows looks lefts off seen (Some step) is = step-by q step begun shows looks lefts off seen (step.wait == 0 || q.is_waited)

    seen-by : (w l m : Bool) → (w && not l) ≡ false → (w && m) ≡ true → l ≡ true
    seen-by true true m h is = refl
    seen-by true false m h is = cc
    seen-by false l m h is = cc

    over-by : (q : Sequence) (step : SequenceStep) → q.list.begun ≡ was.list.begun → q.is_shown ≡ was.is_shown → q.is_looked ≡ was.is_looked
        → q.left ≡ was.left → q.end ≡ None → under_at steps was.list.begun ≡ Some step → (b : Bool) → needs_look q step ≡ b
        → Kind steps was (cond b (does.looking_at q step) (ahead_after q (steps was.list.begun)))
        (marks_of (cond b (does.looking_at q step) (ahead_after q (steps was.list.begun))).list.begun
        (cond b act.Again (ahead_act q (steps was.list.begun))))
    over-by q step begun shows looks lefts off is true need =
        acted_quiet begun (λ e. sym shows ∙ e) (λ e. sym looks ∙ e) lefts (λ e. absurd (no-end off e))
    over-by q step begun shows looks lefts off is false need =
        ahead-kind q begun shows looks lefts off
        (λ e. sym looks ∙ seen-by step.looks.is_wanted q.is_looked step.looks.must_deliver need
        (subst (λ (s : Option SequenceStep). must s ≡ true) is e)) (steps was.list.begun) refl

    over-kind : (q : Sequence) → q.list.begun ≡ was.list.begun → q.is_shown ≡ was.is_shown → q.is_looked ≡ was.is_looked → q.left ≡ was.left
        → q.end ≡ None → (u : Option SequenceStep) → under_at steps was.list.begun ≡ u
        → Kind steps was (over_after q u (steps was.list.begun))
        (marks_of (over_after q u (steps was.list.begun)).list.begun (over_act q u (steps was.list.begun)))
    over-kind q begun shows looks lefts off None is =
        ahead-kind q begun shows looks lefts off
        (λ e. absurd (true≢false (sym e ∙ ap (λ (s : Option SequenceStep). must s) is))) (steps was.list.begun) refl
    over-kind q begun shows looks lefts off (Some step) is = over-by q step begun shows looks lefts off is (needs_look q step) refl

    -- how many have begun
    shown-by : (b : Bool) (p placed : Placed) → cond b (Some p) None ≡ Some placed → b ≡ true
    shown-by true p placed is = refl
    shown-by false p placed is = cc

    shown-some : (ahead : Option SequenceStep) (placed : Placed) → shown was ahead ≡ Some placed
        → (step : SequenceStep) × ((ahead ≡ Some step) × (was.is_shown ≡ true))
    shown-some None placed is = cc
    shown-some (Some step) placed is = (step, (refl, shown-by was.is_shown step.placed placed is))

    begun-of : (list : List) (x : Turn) → Counts was.list (shown was (steps was.list.begun)) list x → Begun steps was (begun_with was list)
    begun-of list x (same y is) = acted_same is
    begun-of list x (counts_more y placed may some is) =
        let one_is = shown-some (steps was.list.begun) placed some in
        one one_is.0 (one_is.1.1) (one_is.1.0) is

    count-of : (list : List) (x : Turn) → may_begin x ≡ false → Counts was.list (shown was (steps was.list.begun)) list x
        → list.begun ≡ was.list.begun
    count-of list x never (same y is) = is
    count-of list x never (counts_more y placed may some is) = absurd (true≢false (sym may ∙ never))

    again-by : (list : List) → Begun steps was (begun_with was list) → (b : Bool) → (list.begun == was.list.begun) ≡ b
        → Kind steps was (cond b (with_list was list) (begun_with was list)) []
    again-by list begun true h = acted_quiet (eqb-true list.begun was.list.begun h) (λ e. e) (λ e. e) refl (λ e. e)
    again-by list begun false h = begins begun refl refl refl (no-end on)

    turn-kind : (g : Guarded) (x : Turn) (list : List) → Counts was.list (shown was (steps was.list.begun)) list x
        → Kind steps was (after_of g (under_at steps was.list.begun) (steps was.list.begun) was x list)
        (marks_of (after_of g (under_at steps was.list.begun) (steps was.list.begun) was x list).list.begun
        (act_of g (under_at steps was.list.begun) (steps was.list.begun) was x list))
    turn-kind g turn.Again list many = again-by list (begun-of list turn.Again many) (list.begun == was.list.begun) refl
    turn-kind g (turn.Job job) list many =
        job-kind (under_at steps was.list.begun) job list (count-of list (turn.Job job) refl many)
        (gate g was (under_at steps was.list.begun) job list false)
    turn-kind g (turn.Begins job back) list many =
        begin-kind g (steps was.list.begun) job back list (begun-of list (turn.Begins job back) many)
        (gate g was (steps was.list.begun) job list true)
    turn-kind g (turn.Passes back) list many = begins (begun-of list (turn.Passes back) many) refl refl refl (no-end on)
    turn-kind g (turn.NoWayBack fault) list many =
        acted_quiet (count-of list (turn.NoWayBack fault) refl many) (λ e. e) (λ e. e) refl (λ e. e)
    turn-kind g turn.Reached list many =
        over-kind (with_list was list) (count-of list turn.Reached refl many) refl refl refl on (under_at steps was.list.begun) refl
    turn-kind g (turn.Stops why) list many =
        stop-kind (with_list was list) (end.Stopped why) (λ e. cc) (count-of list (turn.Stops why) refl many) (λ e. e) (λ e. e) refl on

    steps-kind : (g : Guarded) (said : Act) (new : Sequence) → Steps g (under_at steps was.list.begun) (steps was.list.begun) was said new
        → Kind steps was new (marks_of new.list.begun said)
    steps-kind g said new (does.turns x list says) = turn-kind g x list (counts g (shown was (steps was.list.begun)) was.list list x says)

    -- a look
    done-by : (q : Sequence) → q.list.begun ≡ was.list.begun → q.is_shown ≡ was.is_shown → q.is_looked ≡ was.is_looked → q.left ≡ was.left
        → q.end ≡ None → (found : Verdict) → (b : Bool) → is_verdict_good (under_at steps was.list.begun) found ≡ b
        → Kind steps was (cond b (record q { phase = phase.Steps; is_looked = true }) (stopped_after q (end.Does found)))
        (marks_of (cond b (record q { phase = phase.Steps; is_looked = true }) (stopped_after q (end.Does found))).list.begun
        (cond b (act.Does found) (stopped_act q (end.Does found))))
    done-by q begun shows looks lefts off found true good = finds found begun good lefts (no-end off)
    done-by q begun shows looks lefts off found false good =
        stop-kind q (end.Does found) (λ e. cc) begun (λ e. sym shows ∙ e) (λ e. sym looks ∙ e) lefts off

    found-kind : (q : Sequence) → q.list.begun ≡ was.list.begun → q.is_shown ≡ was.is_shown → q.is_looked ≡ was.is_looked → q.left ≡ was.left
        → q.end ≡ None → (p : Phase) (verdict : Verdict)
        → Kind steps was (judged_in_phase p q (under_at steps was.list.begun) verdict)
        (marks_of (judged_in_phase p q (under_at steps was.list.begun) verdict).list.begun
        (found_in p q (under_at steps was.list.begun) verdict))
    found-kind q begun shows looks lefts off phase.Before verdict =
        acted_quiet begun (λ e. sym shows ∙ e) (λ e. sym looks ∙ e) lefts (λ e. absurd (no-end off e))
    found-kind q begun shows looks lefts off phase.Steps verdict =
        done-by q begun shows looks lefts off verdict (is_verdict_good (under_at steps was.list.begun) verdict) refl
    found-kind q begun shows looks lefts off phase.After verdict =
        done-by q begun shows looks lefts off verdict (is_verdict_good (under_at steps was.list.begun) verdict) refl

    said-kind : (g : Guarded) (l : Look) (x : LookAct)
        → Kind steps was (said_after g (with_look was l) (under_at steps was.list.begun) x)
        (marks_of (said_after g (with_look was l) (under_at steps was.list.begun) x).list.begun
        (said_act g (with_look was l) (under_at steps was.list.begun) x))
    said-kind g l (look.Ask question) = acted_quiet refl (λ e. e) (λ e. e) refl (λ e. e)
    said-kind g l look.Probe = acted_quiet refl (λ e. e) (λ e. e) refl (λ e. e)
    said-kind g l look.Pause = acted_quiet refl (λ e. e) (λ e. e) refl (λ e. e)
    said-kind g l look.Again = acted_quiet refl (λ e. e) (λ e. e) refl (λ e. e)
    said-kind g l look.Restarted =
        stop-kind (with_look was l) (end.Stopped ended.Restarted) (λ e. cc) refl (λ e. e) (λ e. e) refl on
    said-kind g l look.Over = found-kind (with_look was l) refl refl refl refl on was.phase (verdict_in g l.delivery)

  pub kind : (g : Guarded) (said : Act) (new : Sequence) → Acts g (under_at steps was.list.begun) (steps was.list.begun) was said new
      → Kind steps was new (marks_of new.list.begun said)
  kind g said new (does.ended why is) = acted_quiet refl (λ e. e) (λ e. e) refl (λ e. e)
  kind g said new (does.steps said' new' on is says) = steps-kind on g said new says
  kind g said new (does.before on is) =
      said-kind on g (look_after_due was.look g.host.setup.passes (due_in g was.look.delivery))
      (look_act was.look g.host.setup.passes (due_in g was.look.delivery))
  kind g said new (does.after on is) =
      said-kind on g (look_after_due was.look g.host.setup.passes (due_in g was.look.delivery))
      (look_act was.look g.host.setup.passes (due_in g was.look.delivery))

  -- a job is named before the end alone
  named-on : (g : Guarded) (under ahead : Option SequenceStep) (job : Job) (named : Act) (new : Sequence) → Acts g under ahead was named new
      → job_named named ≡ Some job → was.end ≡ None
  named-on g under ahead job _ new (does.ended why is) names = cc
  named-on g under ahead job named new (does.steps said' new' on is says) names = on
  named-on g under ahead job _ new (does.before on is) names = on
  named-on g under ahead job _ new (does.after on is) names = on

  -- the guard refuses the job that is named
  pub refuse-kind : (g : Guarded) (job : Job) (named : Act) (fault : LimitFault) (is : Sequence)
      → Acts g (under_at steps was.list.begun) (steps was.list.begun) was named is → job_named named ≡ Some job
      → Kind steps was (refused_after was is named (refusal_end fault job))
      (marks_of (refused_after was is named (refusal_end fault job)).list.begun (refused_act was is named (refusal_end fault job)))
  refuse-kind g job named fault is says names =
      stop-kind (refused_with was is named) (refusal_end fault job) (λ e. cc) refl (λ e. e) (λ e. e) refl
      (named-on g (under_at steps was.list.begun) (steps was.list.begun) job named is says names)

-- When what stands before the first order counts as read, act by act.

-- ---- Acts by which nothing comes to count as read ----

module _ (R : Type 0) where
  either-read : (b : Bool) (x y : Sequence) → (x.is_read ≡ true → R) → (y.is_read ≡ true → R) → (cond b x y).is_read ≡ true → R
  either-read true x y first second = first
  either-read false x y first second = second

module _ (q : Sequence) (unread : q.is_read ≡ false) where
  never : q.is_read ≡ true → ⊥
  never e = true≢false (sym e ∙ unread)

  stop-read : (list : List) (why : End) → (stopped_after (with_list q list) why).is_read ≡ true → ⊥
  stop-read list why = either-read ⊥ (q.leaves && may_leave why) (left_out (with_list q list)) (record q { list = list; end = Some why }) never never

  before-read : (list : List) (step : Option SequenceStep) → (look_before_step (with_list q list) step).is_read ≡ true → ⊥
  before-read list None = never
  before-read list (Some step) = λ e. true≢false (sym e)

  gate-read : (list : List) (step : Option SequenceStep) (job : Job) (after : Sequence) → (after.is_read ≡ true → ⊥) → (is : Gate)
      → (gated_after (with_list q list) step is job after).is_read ≡ true → ⊥
  gate-read list step job after quiet gate_is.Goes =
      either-read ⊥ (is_untold q.asks q.told job) (told_with (with_list q list) job) after never quiet
  gate-read list step job after quiet gate_is.Looks = before-read list step
  gate-read list step job after quiet (gate_is.Beyond fault) = stop-read list (end.Beyond fault)
  gate-read list step job after quiet gate_is.Blind = never
  gate-read list step job after quiet gate_is.Unjudged = stop-read list end.Unjudged
  gate-read list step job after quiet gate_is.Twice = stop-read list (spent_end (with_list q list))

  and-read : (b : Bool) → (q.is_read && b) ≡ true → ⊥
  and-read b e = let same : (q.is_read && b) ≡ (false && b) = ap (λ (x : Bool). x && b) unread in true≢false (sym e ∙ same)

  ahead-read : (list : List) (ahead : Option SequenceStep) → (ahead_after (with_list q list) ahead).is_read ≡ true → ⊥
  ahead-read list None = never
  ahead-read list (Some step) = either-read ⊥ (step.wait == 0 || q.is_waited) _ _ never never

  over-read : (list : List) (under ahead : Option SequenceStep) → (does.over_after (with_list q list) under ahead).is_read ≡ true → ⊥
  over-read list None ahead = ahead-read list ahead
  over-read list (Some step) ahead =
      either-read ⊥ (needs_look (with_list q list) step) (looking_at (with_list q list) step) (ahead_after (with_list q list) ahead)
      (and-read (is_at (with_list q list) step)) (ahead-read list ahead)

  turn-read : (g : Guarded) (under ahead : Option SequenceStep) (x : Turn) (list : List) → (after_of g under ahead q x list).is_read ≡ true
      → ⊥
  turn-read g under ahead turn.Again list = either-read ⊥ (list.begun == q.list.begun) (with_list q list) (begun_with q list) never never
  turn-read g under ahead (turn.Job job) list =
      gate-read (asked_list q.list list false) under job (job_after q job list)
      (either-read ⊥ (is_job_order job) _ (read_after q list) never never) (gate g q under job list false)
  turn-read g under ahead (turn.Begins job back) list =
      gate-read (asked_list q.list list true) ahead job (begun_by g q job list) never (gate g q ahead job list true)
  turn-read g under ahead (turn.Passes back) list = never
  turn-read g under ahead (turn.NoWayBack fault) list = never
  turn-read g under ahead turn.Reached list = over-read list under ahead
  turn-read g under ahead (turn.Stops why) list = stop-read list (end.Stopped why)

  steps-read : (g : Guarded) (under ahead : Option SequenceStep) (new : Sequence) (said : Act) → Steps g under ahead q said new
      → new.is_read ≡ true → ⊥
  steps-read g under ahead new said (does.turns x list turned) = turn-read g under ahead x list

-- ---- A look before ----

asked-none : (o : Option Question) → due_question o ≡ due.Nothing → o ≡ None
asked-none None is = refl
asked-none (Some question) is = cc

none-again : (o : Option Question) → due_question o ≡ due.Again → ⊥
none-again None is = cc
none-again (Some question) is = cc

-- what is due of a look before
pub due-is : (g : Guarded) (d : Delivery) → d.look ≡ before_number → nat_lt d.output 8 ≡ true → due_in g d ≡ due_question (question_due_before d g.host.setup.passes)
due-is g d at small =
    let here : (d.look == before_number) ≡ true = eq-eqb d.look before_number at in
    rw (small, here) refl

nothing-by : (l : Look) (a b c : Bool) → cond a (cond b look.Probe look.Again) (found_act c due.Nothing) ≡ look.Over
    → (cond a (cond b l (look_counted l)) (found_after c l due.Nothing)).delivery ≡ l.delivery
nothing-by l true true c is = cc
nothing-by l true false c is = cc
nothing-by l false b true is = cc
nothing-by l false b false is = refl

-- nothing is left to ask once a look before is over, and what was heard stays
over-facts : (l : Look) (passes : ℕ) (o : Option Question) → look_act l passes (due_question o) ≡ look.Over
    → (o ≡ None) × ((look_after_due l passes (due_question o)).delivery ≡ l.delivery)
over-facts l passes None is = (refl, nothing-by l (asks_operation l && not l.probe.is_over) (probe_due passes l) (is_output_lost l) is)
over-facts l passes (Some question) is = cc

look-facts : (g : Guarded) (l : Look) → l.delivery.look ≡ before_number → nat_lt l.delivery.output 8 ≡ true
    → look_act l g.host.setup.passes (due_in g l.delivery) ≡ look.Over
    → (question_due_before l.delivery g.host.setup.passes ≡ None)
    × ((look_after_due l g.host.setup.passes (due_in g l.delivery)).delivery ≡ l.delivery)
look-facts g l at small is =
    let P = g.host.setup.passes in
    let o = question_due_before l.delivery P in
    let d : due_in g l.delivery ≡ due_question o = due-is g l.delivery at small in
    let facts = over-facts l P o (subst (λ (x : Due). look_act l P x ≡ look.Over) d is) in
    (facts.0, subst (λ (x : Due). (look_after_due l P x).delivery ≡ l.delivery) (sym d) facts.1)

module _ (g : Guarded) (q : Sequence) (unread : q.is_read ≡ false) (under : Option SequenceStep) where
  done-read : (l : Look) (found : Verdict) → (done_after (with_look q l) under found).is_read ≡ true → ⊥
  done-read l found = either-read ⊥ (is_verdict_good under found) _ (stopped_after (with_look q l) (end.Does found)) (never q unread)
      (either-read ⊥ (q.leaves && may_leave (end.Does found)) (left_out (with_look q l)) _ (never q unread) (never q unread))

  after-read : q.phase ≡ phase.After → (l : Look) (x : LookAct) → (said_after g (with_look q l) under x).is_read ≡ true → ⊥
  after-read is l (look.Ask question) = never q unread
  after-read is l look.Probe = never q unread
  after-read is l look.Pause = never q unread
  after-read is l look.Again = never q unread
  after-read is l look.Restarted =
      either-read ⊥ (q.leaves && may_leave (end.Stopped ended.Restarted)) (left_out (with_look q l)) _ (never q unread) (never q unread)
  after-read is l look.Over =
      subst (λ (p : Phase). (judged_in_phase p (with_look q l) under (verdict_in g l.delivery)).is_read ≡ true → ⊥) (sym is)
      (done-read l (verdict_in g l.delivery))

  before-so : q.phase ≡ phase.Before → q.look.delivery.look ≡ before_number → nat_lt q.look.delivery.output 8 ≡ true
      → (x : LookAct) → look_act q.look g.host.setup.passes (due_in g q.look.delivery) ≡ x
      → (said_after g (with_look q (look_after_due q.look g.host.setup.passes (due_in g q.look.delivery))) under x).is_read ≡ true
      → WasRead g q (said_after g (with_look q (look_after_due q.look g.host.setup.passes (due_in g q.look.delivery))) under x)
  before-so is at small (look.Ask question) h e = absurd (never q unread e)
  before-so is at small look.Probe h e = absurd (never q unread e)
  before-so is at small look.Pause h e = absurd (never q unread e)
  before-so is at small look.Again h e = absurd (never q unread e)
  before-so is at small look.Restarted h e =
      absurd (either-read ⊥ (q.leaves && may_leave (end.Stopped ended.Restarted)) _ _ (never q unread) (never q unread) e)
  before-so is at small look.Over h e =
      let facts = look-facts g q.look at small h in
      let l = look_after_due q.look g.host.setup.passes (due_in g q.look.delivery) in
      record {
        asked = facts.0;
        same = subst (λ (p : Phase). (judged_in_phase p (with_look q l) under (verdict_in g l.delivery)).look.delivery ≡ q.look.delivery) (sym is) facts.1;
      }

pub limits-read : LimitsAreRead
limits-read g under ahead old new said (does.ended why is) at small unread read = absurd (never old unread read)
limits-read g under ahead old new said (does.steps said' new' on is says) at small unread read =
    absurd (steps-read old unread g under ahead new said says read)
limits-read g under ahead old new said (does.before on is) at small unread read =
    before-so g old unread under is at small (look_act old.look g.host.setup.passes (due_in g old.look.delivery)) refl read
limits-read g under ahead old new said (does.after on is) at small unread read =
    absurd (after-read g old unread under is (look_after_due old.look g.host.setup.passes (due_in g old.look.delivery))
    (look_act old.look g.host.setup.passes (due_in g old.look.delivery)) read)

-- What a run comes to, by what each act is.

abbrev Short : Places → Type 0
Short steps = (place : ℕ) → nat_lt place 65535 ≡ false → steps place ≡ None

-- the steps before the newest are settled, and the newest too where the next one may be asked
record Inv (steps : Places) (marks : CommonList Mark) (q : Sequence) : Type 0 where
  earlier : q.left ≡ 0 → (place : ℕ) → suc place < q.list.begun → must (steps place) ≡ true → settled steps marks (suc place) ≡ true
  current : q.left ≡ 0 → (q.is_shown || q.is_looked) ≡ true → must (under_at steps q.list.begun) ≡ true
      → settled steps marks q.list.begun ≡ true
  clean : q.left ≡ 0 → NoneLeft marks
  over : q.end ≡ Some end.Reached → (q.left ≡ 0) × (steps q.list.begun ≡ None)
      × (must (under_at steps q.list.begun) ≡ true → settled steps marks q.list.begun ≡ true)

-- an order of another step changes nothing
order-apart : (b : Bool) (x : Bool) → b ≡ false → x ≡ true → cond b false x ≡ true
order-apart true x h is = cc
order-apart false x h is = is

does-apart : (b : Bool) (x y : Bool) → b ≡ false → y ≡ true → cond b x y ≡ true
does-apart true x y h is = cc
does-apart false x y h is = is

does-here : (b : Bool) (x y : Bool) → b ≡ true → x ≡ true → cond b x y ≡ true
does-here true x y h is = is
does-here false x y h is = cc

is-looked : (a b : Bool) → a ≡ false → b ≡ false → (a || b) ≡ true → ⊥
is-looked true b h k is = true≢false h
is-looked false b h k is = true≢false (sym is ∙ k)

either-of : (a b c d : Bool) → (c ≡ true → a ≡ true) → (d ≡ true → b ≡ true) → (c || d) ≡ true → (a || b) ≡ true
either-of true b c d f h is = refl
either-of false b true d f h is = absurd (true≢false (sym (f refl)))
either-of false true false d f h is = refl
either-of false false false d f h is = absurd (true≢false (sym (h is)))

-- what is said of a number stands for an equal one
abbrev Now : Places → CommonList Mark → ℕ → Type 0
Now steps marks n = must (under_at steps n) ≡ true → settled steps marks n ≡ true

moved : (steps : Places) (marks : CommonList Mark) (m n : ℕ) → m ≡ n → Now steps marks m → Now steps marks n
moved steps marks m n is now = subst (λ (k : ℕ). Now steps marks k) is now

-- a step before the newest is before it, or is it
split-at : (m n : ℕ) → m < n + 1 → (b : Bool) → nat_lt m n ≡ b → (m < n) ⊎ (m ≡ n)
split-at m n less true h = inl (ltb-true m n h)
split-at m n less false h = let over = ltb-false m n h in inr (omega arith)

more-is : (n : ℕ) → nat_lt n 65535 ≡ true → one_step_more n ≡ n + 1
more-is n h = ap (λ (b : Bool). cond b (n + 1) n) h

short-at : (steps : Places) → Short steps → (n : ℕ) (step : SequenceStep) → steps n ≡ Some step → (b : Bool) → nat_lt n 65535 ≡ b
    → nat_lt n 65535 ≡ true
short-at steps short n step is true h = h
short-at steps short n step is false h = let none = short n h in cc

module _ (steps : Places) (short : Short steps) (marks : CommonList Mark) (old new : Sequence) (inv : Inv steps marks old) where
  -- the steps before one that has begun are settled
  before-by : new.left ≡ old.left → Begun steps old new → new.left ≡ 0 → (place : ℕ) → suc place < new.list.begun → must (steps place) ≡ true
      → settled steps marks (suc place) ≡ true
  before-by lefts (acted_same begun) none place less it =
      inv.earlier (sym lefts ∙ none) place (subst (λ (n : ℕ). suc place < n) begun less) it
  before-by lefts (one step shown there begun) none place less it =
      let low = short-at steps short old.list.begun step there (nat_lt old.list.begun 65535) refl in
      let next : suc place < old.list.begun + 1 = subst (λ (n : ℕ). suc place < n) (begun ∙ more-is old.list.begun low) less in
      elim (split-at (suc place) old.list.begun next (nat_lt (suc place) old.list.begun) refl) as (λ w. settled steps marks (suc place) ≡ true) [
        | inl lower ↦ inv.earlier (sym lefts ∙ none) place lower it
        | inr here ↦ moved steps marks old.list.begun (suc place) (sym here)
            (inv.current (sym lefts ∙ none) (or_left old.is_shown old.is_looked shown)) it
      ]

  apart-so : (place : ℕ) → suc place < new.list.begun → (new.list.begun == suc place) ≡ false
  apart-so place less = ne_eqb new.list.begun (suc place) (λ e. omega arith)

  kept : (more : CommonList Mark) → Kind steps old new more → Inv steps (more ++ marks) new
  kept more (acted_quiet begun shows looks lefts never) = record {
    earlier = λ none place less it. inv.earlier (sym lefts ∙ none) place (subst (λ (n : ℕ). suc place < n) begun less) it;
    current = λ none on. moved steps marks old.list.begun new.list.begun (sym begun)
        (inv.current (sym lefts ∙ none) (either-of old.is_shown old.is_looked new.is_shown new.is_looked shows looks on));
    clean = λ none. inv.clean (sym lefts ∙ none);
    over = λ e. let o = inv.over (never e) in
        (lefts ∙ o.0, ap (λ (n : ℕ). steps n) begun ∙ o.1, moved steps marks old.list.begun new.list.begun (sym begun) o.2);
  }
  kept more (begins begun shows looks lefts never) = record {
    earlier = λ none place less it. before-by lefts begun none place less it;
    current = λ none on it. absurd (is-looked new.is_shown new.is_looked shows looks on);
    clean = λ none. inv.clean (sym lefts ∙ none);
    over = λ e. absurd (never e);
  }
  kept more (orders begun shows looks lefts never) = record {
    earlier = λ none place less it. order-apart _ _ (apart-so place less) (before-by lefts begun none place less it);
    current = λ none on it. absurd (is-looked new.is_shown new.is_looked shows looks on);
    clean = λ none. inv.clean (sym lefts ∙ none);
    over = λ e. absurd (never e);
  }
  kept more (opens begun seen lefts never) = record {
    earlier = λ none place less it. inv.earlier (sym lefts ∙ none) place (subst (λ (n : ℕ). suc place < n) begun less) it;
    current = λ none on. moved steps marks old.list.begun new.list.begun (sym begun)
        (λ it. inv.current (sym lefts ∙ none) (or_right old.is_shown old.is_looked (seen it)) it);
    clean = λ none. inv.clean (sym lefts ∙ none);
    over = λ e. absurd (never e);
  }
  kept more (finds found begun good lefts never) = record {
    earlier = λ none place less it. does-apart _ _ _ (apart-so place less)
        (inv.earlier (sym lefts ∙ none) place (subst (λ (n : ℕ). suc place < n) begun less) it);
    current = λ none on it. does-here _ _ _ (eq-eqb new.list.begun new.list.begun refl)
        (ap (λ (n : ℕ). is_verdict_good (under_at steps n) found) begun ∙ good);
    clean = λ none. inv.clean (sym lefts ∙ none);
    over = λ e. absurd (never e);
  }
  kept more (leaves left never) = record {
    earlier = λ none place less it. absurd (left none);
    current = λ none on it. absurd (left none);
    clean = λ none. absurd (left none);
    over = λ e. absurd (never e);
  }
  kept more (ends begun seen lefts last none-left shows looks) = record {
    earlier = λ none place less it. inv.earlier (sym lefts ∙ none) place (subst (λ (n : ℕ). suc place < n) begun less) it;
    current = λ none on. moved steps marks old.list.begun new.list.begun (sym begun)
        (inv.current (sym lefts ∙ none) (either-of old.is_shown old.is_looked new.is_shown new.is_looked shows looks on));
    clean = λ none. inv.clean (sym lefts ∙ none);
    over = λ e. let zero_left = none-left e in (
      lefts ∙ zero_left,
      ap (λ (n : ℕ). steps n) begun ∙ last,
      moved steps marks old.list.begun new.list.begun (sym begun)
          (λ it. inv.current zero_left (or_right old.is_shown old.is_looked (seen it)) it),
    );
  }

-- at the start
is-none : None ≡ Some end.Reached → ⊥
is-none e = cc

begun-none : (steps : Places) (marks : CommonList Mark) (place : ℕ) → suc place < 0 → settled steps marks (suc place) ≡ true
begun-none steps marks place less = absurd (omega (arith, less))

inv-new : (steps : Places) (tries : ℕ) (rules : Rules) → Inv steps [] (new_sequence tries rules)
inv-new steps tries rules = record {
  earlier = λ none place less it. begun-none steps [] place less;
  current = λ none on it. absurd (true≢false (sym on));
  clean = λ none. tt;
  over = λ e. absurd (is-none e);
}

module _ (steps : Places) (short : Short steps) (tries : ℕ) (rules : Rules) where
  invariant : (marks : CommonList Mark) (q : Sequence) → Runs steps tries rules marks q → Inv steps marks q
  invariant marks q run.starts = inv-new steps tries rules
  invariant marks q (run.acts g said before old new runs says) =
      kept steps short before old new (invariant before old runs) _ (kind steps old g said new says)
  invariant marks q (run.refuses g job named fault before old after runs says names refuses) =
      kept steps short before old _ (invariant before old runs) _ (refuse-kind steps old g job named fault after says names)
  invariant marks q (run.hears before old new runs hears) =
      kept steps short before old new (invariant before old runs) []
      (acted_quiet hears.begun (λ e. sym hears.shown ∙ e) (λ e. sym hears.looked ∙ e)
      hears.left (λ e. sym hears.ended ∙ e))

-- each step that has begun is settled where all is reached
last-at : (steps : Places) (marks : CommonList Mark) (q : Sequence) → Inv steps marks q → q.end ≡ Some end.Reached → (place : ℕ)
    → place < q.list.begun → must (steps place) ≡ true → settled steps marks (suc place) ≡ true
last-at steps marks q inv e place less it =
    let over = inv.over e in
    elim (split-at (suc place) q.list.begun (omega arith) (nat_lt (suc place) q.list.begun) refl) as (λ w. settled steps marks (suc place) ≡ true) [
      | inl lower ↦ inv.earlier over.0 place lower it
      | inr here ↦ moved steps marks q.list.begun (suc place) (sym here) over.2 it
    ]

pub sequences-deliver : ReachedSequencesDeliver
sequences-deliver steps tries rules marks q short runs e =
    let inv = invariant steps short tries rules marks q runs in
    let over = inv.over e in
    (inv.clean over.0, over.1, last-at steps marks q inv e)

-- What is found of a rail, act by act.

abbrev is_find : Act → Bool
is_find (act.Does found) = true
is_find (act.Job job) = false
is_find (act.Begins job back) = false
is_find (act.Passes back) = false
is_find (act.Order job) = false
is_find (act.Ask question) = false
is_find act.Probe = false
is_find act.Pause = false
is_find (act.Wait milliseconds) = false
is_find act.Again = false
is_find (act.NoWayBack fault) = false
is_find (act.Leaves why) = false
is_find (act.Ended why) = false

either : (b : Bool) (x y : Act) → is_find x ≡ false → is_find y ≡ false → is_find (cond b x y) ≡ false
either true x y first second = first
either false x y first second = second

stop-quiet : (q : Sequence) (why : End) → is_find (stopped_act q why) ≡ false
stop-quiet q why = either (q.leaves && may_leave why) (act.Leaves why) (act.Ended why) refl refl

ahead-quiet : (q : Sequence) (ahead : Option SequenceStep) → is_find (ahead_act q ahead) ≡ false
ahead-quiet q None = refl
ahead-quiet q (Some step) = either _ act.Again (act.Wait step.wait) refl refl

over-quiet : (q : Sequence) (under ahead : Option SequenceStep) → is_find (over_act q under ahead) ≡ false
over-quiet q None ahead = ahead-quiet q ahead
over-quiet q (Some step) ahead = either (needs_look q step) act.Again (ahead_act q ahead) refl (ahead-quiet q ahead)

gate-quiet : (q : Sequence) (job : Job) (x : Act) → is_find x ≡ false → (is : Gate) → is_find (gated_act q is job x) ≡ false
gate-quiet q job x quiet gate_is.Goes = either (is_untold q.asks q.told job) (act.Order job) x refl quiet
gate-quiet q job x quiet gate_is.Looks = refl
gate-quiet q job x quiet (gate_is.Beyond fault) = stop-quiet q (end.Beyond fault)
gate-quiet q job x quiet gate_is.Blind = refl
gate-quiet q job x quiet gate_is.Unjudged = stop-quiet q end.Unjudged
gate-quiet q job x quiet gate_is.Twice = stop-quiet q (spent_end q)

turn-quiet : (g : Guarded) (under ahead : Option SequenceStep) (q : Sequence) (x : Turn) (list : List)
    → is_find (act_of g under ahead q x list) ≡ false
turn-quiet g under ahead q turn.Again list = refl
turn-quiet g under ahead q (turn.Job job) list =
    gate-quiet (asked_of q list false) job (act.Job job) refl (gate g q under job list false)
turn-quiet g under ahead q (turn.Begins job back) list =
    gate-quiet (asked_of q list true) job (act.Begins job back) refl (gate g q ahead job list true)
turn-quiet g under ahead q (turn.Passes back) list = refl
turn-quiet g under ahead q (turn.NoWayBack fault) list = refl
turn-quiet g under ahead q turn.Reached list = over-quiet (with_list q list) under ahead
turn-quiet g under ahead q (turn.Stops why) list = stop-quiet (with_list q list) (end.Stopped why)

data FindsSo (g : Guarded) (under : Option SequenceStep) (new : Sequence) : Act → Type 0 where
  a-find : (found : Verdict) → IsFound g under new found → FindsSo g under new (act.Does found)
  found_none : (said : Act) → is_find said ≡ false → FindsSo g under new said

finds-by : (g : Guarded) (q : Sequence) (under : Option SequenceStep) (b : Bool)
    → is_verdict_good under (verdict_in g q.look.delivery) ≡ b
    → FindsSo g under (cond b (record q { phase = phase.Steps; is_looked = true }) (stopped_after q (end.Does (verdict_in g q.look.delivery))))
    (cond b (act.Does (verdict_in g q.look.delivery)) (stopped_act q (end.Does (verdict_in g q.look.delivery))))
finds-by g q under true good = a-find _ (record { is = refl; good = good })
finds-by g q under false good = found_none _ (stop-quiet q (end.Does (verdict_in g q.look.delivery)))

found-so : (g : Guarded) (p : Phase) (q : Sequence) (under : Option SequenceStep)
    → FindsSo g under (judged_in_phase p q under (verdict_in g q.look.delivery)) (found_in p q under (verdict_in g q.look.delivery))
found-so g phase.Before q under = found_none act.Again refl
found-so g phase.Steps q under = finds-by g q under (is_verdict_good under (verdict_in g q.look.delivery)) refl
found-so g phase.After q under = finds-by g q under (is_verdict_good under (verdict_in g q.look.delivery)) refl

said-so : (g : Guarded) (q : Sequence) (under : Option SequenceStep) (x : LookAct)
    → FindsSo g under (said_after g q under x) (said_act g q under x)
said-so g q under (look.Ask question) = found_none (act.Ask question) refl
said-so g q under look.Probe = found_none act.Probe refl
said-so g q under look.Pause = found_none act.Pause refl
said-so g q under look.Again = found_none act.Again refl
said-so g q under look.Restarted = found_none _ (stop-quiet q (end.Stopped ended.Restarted))
said-so g q under look.Over = found-so g q.phase q under

steps-so : (g : Guarded) (under ahead : Option SequenceStep) (q new : Sequence) (said : Act) → Steps g under ahead q said new
    → FindsSo g under new said
steps-so g under ahead q new said (does.turns x list turned) = found_none _ (turn-quiet g under ahead q x list)

acts-so : (g : Guarded) (under ahead : Option SequenceStep) (q new : Sequence) (said : Act) → Acts g under ahead q said new
    → FindsSo g under new said
acts-so g under ahead q new said (does.ended why is) = found_none (act.Ended why) refl
acts-so g under ahead q new said (does.steps said' new' on is says) = steps-so g under ahead q new said says
acts-so g under ahead q new said (does.before on is) =
    said-so g (with_look q (look_after_due q.look g.host.setup.passes (due_in g q.look.delivery))) under
    (look_act q.look g.host.setup.passes (due_in g q.look.delivery))
acts-so g under ahead q new said (does.after on is) =
    said-so g (with_look q (look_after_due q.look g.host.setup.passes (due_in g q.look.delivery))) under
    (look_act q.look g.host.setup.passes (due_in g q.look.delivery))

find-of : (g : Guarded) (under : Option SequenceStep) (new : Sequence) (found : Verdict) → FindsSo g under new (act.Does found)
    → IsFound g under new found
find-of g under new found (a-find found' is) = is
find-of g under new found (found_none said quiet) = cc

-- what a step that has to deliver takes
by-must : (u m : Bool) → m ≡ true → (u && not m) ≡ true → ⊥
by-must true true must is = cc
by-must true false must is = cc
by-must false m must is = cc

delivers-so : (step : SequenceStep) (x : Verdict) → step.looks.must_deliver ≡ true → is_verdict_good (Some step) x ≡ true →
    IsDelivered step x
delivers-so step verdict.Delivers must is = delivers
delivers-so step verdict.DeliversByVoltage must is = by_voltage
delivers-so step verdict.WentOff must is = went_off
delivers-so step verdict.PowerGoodAlone must is = power_good is
delivers-so step verdict.CommandedOff must is = cc
delivers-so step verdict.NotKnownOn must is = cc
delivers-so step verdict.NotYet must is = cc
delivers-so step verdict.IsOff must is = cc
delivers-so step (verdict.NewFault register place) must is = cc
delivers-so step verdict.OutsideLimits must is = cc
delivers-so step verdict.Beyond must is = cc
delivers-so step verdict.NoPowerGood must is = cc
delivers-so step (verdict.NotKnown register fault) must is = absurd (by-must (is_unreadable step) step.looks.must_deliver must is)
delivers-so step verdict.StillOn must is = cc

pub finds-verdicts : FindsAreVerdicts
finds-verdicts = record {
  finds = λ g under ahead q new found says. find-of g under new found (acts-so g under ahead q new (act.Does found) says);
  delivers = delivers-so;
}

-- The start of the look before a first order, and what it asks, act by act.

-- ---- Where a look starts ----

-- it starts from what a step says that an earlier list heard
abbrev From : Option SequenceStep → Option SequenceStep → Sequence → Type 0
From under ahead new = (step : SequenceStep) × (((under ≡ Some step) ⊎ (ahead ≡ Some step)) × (new.look.delivery.before ≡ step.before))

module _ (under ahead : Option SequenceStep) where
  abbrev Starts : Sequence → Type 0
  Starts new = new.phase ≡ phase.Before → From under ahead new

  either-starts : (b : Bool) (x y : Sequence) → Starts x → Starts y → Starts (cond b x y)
  either-starts true x y first second = first
  either-starts false x y first second = second

  stood_never : (p : Phase) → p ≡ phase.Steps → p ≡ phase.Before → ⊥
  stood_never p on is = let wrong : phase.Steps ≡ phase.Before = sym on ∙ is in cc

  apart : phase.After ≡ phase.Before → ⊥
  apart e = cc

  module _ (g : Guarded) (q : Sequence) (on : q.phase ≡ phase.Steps) where
    -- nothing starts where only other fields change
    off : {R : Type 0} → q.phase ≡ phase.Before → R
    off {R} e = absurd (stood_never q.phase on e)

    stop-starts : (list : List) (why : End) → Starts (stopped_after (with_list q list) why)
    stop-starts list why =
        either-starts (q.leaves && may_leave why) (left_out (with_list q list)) (record q { list = list; end = Some why })
        (λ e. absurd (stood_never phase.Steps refl e)) off

    under-starts : (list : List) (step : Option SequenceStep) → under ≡ step → Starts (look_before_step (with_list q list) step)
    under-starts list None is = off
    under-starts list (Some step) is = λ e. (step, (inl is, refl))

    ahead-starts : (list : List) (step : Option SequenceStep) → ahead ≡ step → Starts (look_before_step (with_list q list) step)
    ahead-starts list None is = off
    ahead-starts list (Some step) is = λ e. (step, (inr is, refl))

    gate-starts : (list : List) (step : Option SequenceStep) (job : Job) (after : Sequence) →
        Starts (look_before_step (with_list q list) step)
        → Starts after → (is : Gate) → Starts (gated_after (with_list q list) step is job after)
    gate-starts list step job after looks goes gate_is.Goes =
        either-starts (is_untold q.asks q.told job) (told_with (with_list q list) job) after off goes
    gate-starts list step job after looks goes gate_is.Looks = looks
    gate-starts list step job after looks goes (gate_is.Beyond fault) = stop-starts list (end.Beyond fault)
    gate-starts list step job after looks goes gate_is.Blind = off
    gate-starts list step job after looks goes gate_is.Unjudged = stop-starts list end.Unjudged
    gate-starts list step job after looks goes gate_is.Twice = stop-starts list (spent_end (with_list q list))

    next-starts : (list : List) (next : Option SequenceStep) → Starts (ahead_after (with_list q list) next)
    next-starts list None = off
    next-starts list (Some step) = either-starts (step.wait == 0 || q.is_waited) _ _ off off

    over-starts : (list : List) (u a : Option SequenceStep) → Starts (over_after (with_list q list) u a)
    over-starts list None a = next-starts list a
    over-starts list (Some step) a =
        either-starts (needs_look (with_list q list) step) (looking_at (with_list q list) step) (ahead_after (with_list q list) a)
        (λ e. absurd (apart e)) (next-starts list a)

    turn-starts : (x : Turn) (list : List) → Starts (after_of g under ahead q x list)
    turn-starts turn.Again list =
        either-starts (list.begun == q.list.begun) (with_list q list) (begun_with q list) off off
    turn-starts (turn.Job job) list =
        gate-starts (asked_list q.list list false) under job (job_after q job list) (under-starts (asked_list q.list list false) under refl)
        (either-starts (is_job_order job) _ (read_after q list) off off) (gate g q under job list false)
    turn-starts (turn.Begins job back) list =
        gate-starts (asked_list q.list list true) ahead job (begun_by g q job list) (ahead-starts (asked_list q.list list true) ahead refl) off
        (gate g q ahead job list true)
    turn-starts (turn.Passes back) list = off
    turn-starts (turn.NoWayBack fault) list = off
    turn-starts turn.Reached list = over-starts list under ahead
    turn-starts (turn.Stops why) list = stop-starts list (end.Stopped why)

    steps-starts : (new : Sequence) (said : Act) → Steps g under ahead q said new → Starts new
    steps-starts new said (does.turns x list says) = turn-starts x list

starts-so : (g : Guarded) (under ahead : Option SequenceStep) (old new : Sequence) (said : Act) → Acts g under ahead old said new
    → old.phase ≡ phase.Steps → Starts under ahead new
starts-so g under ahead old new said (does.ended why is) on = λ e. absurd (stood_never under ahead old.phase on e)
starts-so g under ahead old new said (does.steps said' new' going is says) on = steps-starts under ahead g old on new said says
starts-so g under ahead old new said (does.before going is) on = let wrong : phase.Before ≡ phase.Steps = sym is ∙ on in cc
starts-so g under ahead old new said (does.after going is) on = let wrong : phase.After ≡ phase.Steps = sym is ∙ on in cc

-- ---- What it asks ----

never-limits : (k a b c e : Bool)
    → cond k None (option_or (rule a OvFaultLimit) (option_or (rule b OvWarnLimit) (option_or (rule c UvWarnLimit) (rule e UvFaultLimit))))
    ≡ Some Before → ⊥
never-limits true a b c e is = cc
never-limits false true b c e is = cc
never-limits false false true c e is = cc
never-limits false false false true e is = cc
never-limits false false false false true is = cc
never-limits false false false false false is = cc

-- STATUS_WORD is asked only where it is due
status-due : (s b : Bool) (rest : Option Question) → (rest ≡ Some Before → ⊥) → option_or (cond s (rule b Before) None) rest ≡ Some Before
    → b ≡ true
status-due true true rest never is = refl
status-due true false rest never is = absurd (never is)
status-due false b rest never is = absurd (never is)

before-due : (d : Delivery) (passes : ℕ) → question_due_before d passes ≡ Some Before → is_question_due passes d.before ≡ true
before-due d passes is =
    status-due (has_status d) (is_question_due passes d.before) (asks_limits d passes)
    (never-limits (d.fault_limits == limits_skip) (is_question_due passes d.ov_fault_limit) (is_question_due passes d.ov_warn_limit)
    (is_question_due passes d.uv_warn_limit) (is_question_due passes d.uv_fault_limit)) is

round-never : (a b c : Bool) → cond a (cond b look.Probe look.Again) (found_act c due.Nothing) ≡ look.Ask Before → ⊥
round-never true true c is = cc
round-never true false c is = cc
round-never false b true is = cc
round-never false b false is = cc

stops-never : (b : Bool) (why : End) → cond b (act.Leaves why) (act.Ended why) ≡ act.Ask Before → ⊥
stops-never true why is = cc
stops-never false why is = cc

asked-before : (l : Look) (passes : ℕ) (o : Option Question) → look_act l passes (due_question o) ≡ look.Ask Before → o ≡ Some Before
asked-before l passes None is = absurd (round-never (asks_operation l && not l.probe.is_over) (probe_due passes l) (is_output_lost l) is)
asked-before l passes (Some question) is = let same : question ≡ Before = cc in ap (λ (x : Question). Some x) same

module _ (g : Guarded) (q : Sequence) (under : Option SequenceStep) (on : q.phase ≡ phase.Before) where
  said-before : (l : Look) (x : LookAct) → said_act g (with_look q l) under x ≡ act.Ask Before → x ≡ look.Ask Before
  said-before l (look.Ask question) is = let same : question ≡ Before = cc in ap (λ (x : Question). look.Ask x) same
  said-before l look.Probe is = cc
  said-before l look.Pause is = cc
  said-before l look.Again is = cc
  said-before l look.Restarted is =
      absurd (stops-never (q.leaves && may_leave (end.Stopped ended.Restarted)) (end.Stopped ended.Restarted) is)
  said-before l look.Over is =
      let wrong : act.Again ≡ act.Ask Before =
      sym (ap (λ (p : Phase). found_in p (with_look q l) under (verdict_in g l.delivery)) on) ∙ is in cc

  asks-due : q.look.delivery.look ≡ before_number → nat_lt q.look.delivery.output 8 ≡ true → looked_act g q under ≡ act.Ask Before
      → is_question_due g.host.setup.passes q.look.delivery.before ≡ true
  asks-due at small is =
      let P = g.host.setup.passes in
      let d = q.look.delivery in
      let said : look_act q.look P (due_in g d) ≡ look.Ask Before =
      said-before (look_after_due q.look P (due_in g d)) (look_act q.look P (due_in g d)) is in
      before-due d P (asked-before q.look P (question_due_before d P)
      (subst (λ (x : Due). look_act q.look P x ≡ look.Ask Before) (due-is g d at small) said))

asks-so : (g : Guarded) (under ahead : Option SequenceStep) (old new : Sequence) (said : Act) → Acts g under ahead old said new
    → said ≡ act.Ask Before → old.phase ≡ phase.Before → old.look.delivery.look ≡ before_number → nat_lt old.look.delivery.output 8 ≡ true
    → is_question_due g.host.setup.passes old.look.delivery.before ≡ true
asks-so g under ahead old new said (does.ended why is) asks on at small = cc
asks-so g under ahead old new said (does.steps said' new' going is says) asks on at small =
    let wrong : phase.Steps ≡ phase.Before = sym is ∙ on in cc
asks-so g under ahead old new said (does.before going is) asks on at small = asks-due g old under on at small asks
asks-so g under ahead old new said (does.after going is) asks on at small = let wrong : phase.After ≡ phase.Before = sym is ∙ on in cc

pub answers-count : EarlierAnswersCount
answers-count = record {
  starts = λ g under ahead old new said says on e. starts-so g under ahead old new said says on e;
  asks = λ g under ahead old new says on at small. asks-so g under ahead old new (act.Ask Before) says refl on at small;
}
