-- How the list of a sequence goes, which orders begin, which survey is fresh, and how many orders turn an output on, act by act.
use Rattle.std.specs.Ordering.{int_eq}
use Rattle.std.specs.Prelude.{◌==◌, ◌&&◌, ◌||◌, ◌-◌, nat_lt, not, Result, IfSome, ◌+◌}
use Rattle.std.proofs.lemmas.Bool.Decides.{Decides-int_eq}
use Rattle.std.proofs.Common.{◌≡◌, ◌⊎◌, inl, inr, ℕ, Bool, true, false, cond, Option, Some, None, refl, sym, ◌∙◌, ap, subst, is_some, []}
use Rattle.std.proofs.Common.{◌∷◌, Ok}
use Rattle.std.proofs.lemmas.Bool.{and_parts, eqb-true, eqb-false}
use Rattle.pm_table.specs.{Cell.same_cell, Laws.CellsAreToldApart}
use Rattle.pm_host.specs.{declared.fault.Untold.Untold, declared.job.Job.Job}
use Rattle.pm_host.specs.Transcript.{Entry, Accepted, Finished, Got, Restarted}
use Rattle.pm_host.specs.declared.job.Job.TheVariants as asked
use Rattle.pm_limits.specs.Guard.{Guarded}
use Rattle.pm_rail.specs.Survey.{nothing_read}
use Rattle.pm_course.specs.declared.frame_course.FrameCourse.{FrameCourse}
use Rattle.pm_stairs.specs.{OpenCourse.course_open, Stairs.Goes, declared.sequence.Placed.Placed}
use Rattle.pm_stairs.specs.{declared.sequence.Sequence.Sequence as List, declared.sequence.Turn.Turn, declared.stairs.Move.Move}
use Rattle.pm_stairs.specs.{declared.stairs.Stairs.Stairs, declared.stairs.Under.Under, declared.step.Step.Step as Output}
use Rattle.pm_stairs.specs.{declared.step.WordStep.WordStep}
use Rattle.pm_stairs.specs.Sequence.{Turns, skipped}
use Rattle.pm_stairs.specs.Stairs as goes
use Rattle.pm_stairs.specs.declared.said.StepEnd.TheVariants as ended
use Rattle.pm_stairs.specs.declared.sequence.Turn.TheVariants as turn
use Rattle.pm_delivery.specs.declared.verdict.Verdict.{Verdict}
use Rattle.pm_sequence.specs.{declared.gate.Gate.Gate, declared.look.Look.Look, declared.look.LookAct.LookAct, declared.sequence.Act.Act}
use Rattle.pm_sequence.specs.{declared.sequence.End.End, declared.sequence.Fresh.Fresh, declared.sequence.Phase.Phase}
use Rattle.pm_sequence.specs.{declared.sequence.Sequence.Sequence, declared.step.Step.Step}
use Rattle.pm_sequence.specs.Frames as hear
use Rattle.pm_sequence.specs.Frames.{Hears, fresh_heard}
use Rattle.pm_sequence.specs.Gate.{is_job_order, is_untold, is_on_order, is_order_told, order_gate, same_order, step_gate}
use Rattle.pm_sequence.specs.Look.{look_act, look_after_due}
use Rattle.pm_sequence.specs.Sequence as does
use Rattle.pm_sequence.specs.Sequence.{Acts, Steps, after_of, ahead_after, asked_list, asked_of, begun_by, begun_with, done_after, due_in}
use Rattle.pm_sequence.specs.Sequence.{gate, gated_after, is_verdict_good, job_after, judged_in_phase, left_out, look_before_step}
use Rattle.pm_sequence.specs.Sequence.{may_leave, needs_look}
use Rattle.pm_sequence.specs.Sequence.{over_after, read_after, said_after, shown, spent_end, stopped_after, told_with, verdict_in}
use Rattle.pm_sequence.specs.Sequence.{with_list, with_look, act_of, ahead_act, done_act, found_in, fresh_gate, gated_act, had_two}
use Rattle.pm_sequence.specs.Sequence.{is_fresh, is_read_for, judged_gate, looked_act, over_act, said_act, stopped_act, twice_gate, afresh}
use Rattle.pm_sequence.specs.Sequence.{looking_at, ordered_after}
use Rattle.pm_sequence.specs.declared.gate.Gate.TheVariants as gate_is
use Rattle.pm_sequence.specs.declared.look.LookAct.TheVariants as look
use Rattle.pm_sequence.specs.declared.sequence.Act.TheVariants as act
use Rattle.pm_sequence.specs.declared.sequence.End.TheVariants as end
use Rattle.pm_sequence.specs.declared.sequence.Fresh.TheVariants as fresh
use Rattle.pm_sequence.specs.declared.sequence.Phase.TheVariants as phase
use Rattle.pm_sequence_laws.specs.Fresh.{ComesFresh, OrdersAreFresh, anew, ends, reads, stays}
use Rattle.pm_sequence_laws.specs.Judged as due
use Rattle.pm_sequence_laws.specs.Judged.{IsDue, IsJudged, IsTold, OrdersAreJudged, OrdersAreTold}
use Rattle.pm_sequence_laws.specs.Turned as it
use Rattle.pm_sequence_laws.specs.Turned.{IsKept, ListGoes, SequencesTurn, is_turn_begin}
use Rattle.pm_sequence_laws.specs.Twice.{CountsOn, OrdersStopAtTwo, at_once, counts, first as twice_first, keeps, passes}

-- How the list of a sequence goes, act by act.

-- one of two that have this list
pub either-list : (b : Bool) (x y : Sequence) (list : List) → x.list ≡ list → y.list ≡ list → (cond b x y).list ≡ list
either-list true x y list first second = first
either-list false x y list first second = second

before-list : (q : Sequence) (step : Option Step) → (look_before_step q step).list ≡ q.list
before-list q None = refl
before-list q (Some step) = refl

ahead-list : (q : Sequence) (ahead : Option Step) → (ahead_after q ahead).list ≡ q.list
ahead-list q None = refl
ahead-list q (Some step) = either-list (step.wait == 0 || q.is_waited) _ _ q.list refl refl

over-list : (q : Sequence) (under ahead : Option Step) → (over_after q under ahead).list ≡ q.list
over-list q None ahead = ahead-list q ahead
over-list q (Some step) ahead = either-list (needs_look q step) _ (ahead_after q ahead) q.list refl (ahead-list q ahead)

-- the list stays where a step stops, or the step is left
data Stops (leaves_steps : Bool) (old new : List) : Type 0 where
  kept : new ≡ old → Stops leaves_steps old new
  left : leaves_steps ≡ true → new ≡ skipped old → Stops leaves_steps old new

stop-by : (q : Sequence) (why : End) (may leaves_steps : Bool)
    → Stops leaves_steps q.list (cond (leaves_steps && may) (left_out q) (record q { end = Some why })).list
stop-by q why true true = left refl refl
stop-by q why false true = kept refl
stop-by q why may false = kept refl

stop-list : (q : Sequence) (why : End) → Stops q.leaves q.list (stopped_after q why).list
stop-list q why = stop-by q why (may_leave why) q.leaves

module _ (g : Guarded) (ahead : Option Placed) (leaves_steps : Bool) where
  staying : (old new : List) → Stops leaves_steps old new → ListGoes g ahead leaves_steps old new
  staying old new (kept is) = it.stays is
  staying old new (left leaves is) = it.leaves leaves is

  saying : (old list new : List) (x : Turn) → Turns g ahead old x list → new ≡ list → ListGoes g ahead leaves_steps old new
  saying old list new x turned is = it.says x (subst (λ (l : List). Turns g ahead old x l) (sym is) turned)

  stopping : (old list new : List) (x : Turn) → Turns g ahead old x list → Stops leaves_steps list new
      → ListGoes g ahead leaves_steps old new
  stopping old list new x turned (kept is) = saying old list new x turned is
  stopping old list new x turned (left leaves is) = it.says_and_leaves x list turned leaves is

  asking : (old list new : List) (x : Turn) → Turns g ahead old x list → Stops leaves_steps (asked_list old list (is_turn_begin x)) new
      → ListGoes g ahead leaves_steps old new
  asking old list new x turned (kept is) = it.asked x list turned is
  asking old list new x turned (left leaves is) = it.asked_and_leaves x list turned leaves is

  either-goes : (old : List) (b : Bool) (x y : Sequence) → ListGoes g ahead leaves_steps old x.list → ListGoes g ahead leaves_steps old y.list
      → ListGoes g ahead leaves_steps old (cond b x y).list
  either-goes old true x y first second = first
  either-goes old false x y first second = second

gate-so : (g : Guarded) (ahead : Option Placed) (q : Sequence) (step : Option Step) (job : Job) (after : Sequence) (list : List) (x : Turn)
    → Turns g ahead q.list x list → after.list ≡ list → (is : Gate)
    → ListGoes g ahead q.leaves q.list (gated_after (asked_of q list (is_turn_begin x)) step is job after).list
gate-so g ahead q step job after list x turned is gate_is.Goes =
    either-goes g ahead q.leaves q.list (is_untold q.asks q.told job) (told_with (asked_of q list (is_turn_begin x)) job) after
    (it.asked x list turned refl) (saying g ahead q.leaves q.list list after.list x turned is)
gate-so g ahead q step job after list x turned is gate_is.Looks =
    it.asked x list turned (before-list (asked_of q list (is_turn_begin x)) step)
gate-so g ahead q step job after list x turned is (gate_is.Beyond fault) =
    asking g ahead q.leaves q.list list _ x turned (stop-list (asked_of q list (is_turn_begin x)) (end.Beyond fault))
gate-so g ahead q step job after list x turned is gate_is.Blind = it.surveyed_anew x list turned refl
gate-so g ahead q step job after list x turned is gate_is.Unjudged =
    asking g ahead q.leaves q.list list _ x turned (stop-list (asked_of q list (is_turn_begin x)) end.Unjudged)
gate-so g ahead q step job after list x turned is gate_is.Twice =
    asking g ahead q.leaves q.list list _ x turned
    (stop-list (asked_of q list (is_turn_begin x)) (spent_end (asked_of q list (is_turn_begin x))))

turn-so : (g : Guarded) (under ahead : Option Step) (q : Sequence) (x : Turn) (list : List) → Turns g (shown q ahead) q.list x list
    → ListGoes g (shown q ahead) q.leaves q.list (after_of g under ahead q x list).list
turn-so g under ahead q turn.Again list turned =
    saying g (shown q ahead) q.leaves q.list list _ turn.Again turned
    (either-list (list.begun == q.list.begun) (with_list q list) (begun_with q list) list refl refl)
turn-so g under ahead q (turn.Job job) list turned =
    gate-so g (shown q ahead) q under job (job_after q job list) list (turn.Job job) turned
    (either-list (is_job_order job) _ (read_after q list) list refl refl) (gate g q under job list false)
turn-so g under ahead q (turn.Begins job back) list turned =
    gate-so g (shown q ahead) q ahead job (begun_by g q job list) list (turn.Begins job back) turned refl (gate g q ahead job list true)
turn-so g under ahead q (turn.Passes back) list turned = it.says (turn.Passes back) turned
turn-so g under ahead q (turn.NoWayBack fault) list turned = it.says (turn.NoWayBack fault) turned
turn-so g under ahead q turn.Reached list turned =
    saying g (shown q ahead) q.leaves q.list list _ turn.Reached turned (over-list (with_list q list) under ahead)
turn-so g under ahead q (turn.Stops why) list turned =
    stopping g (shown q ahead) q.leaves q.list list _ (turn.Stops why) turned (stop-list (with_list q list) (end.Stopped why))

-- a look
done-by : (q : Sequence) (found : Verdict) (b : Bool)
    → Stops q.leaves q.list (cond b (record q { phase = phase.Steps; is_looked = true }) (stopped_after q (end.Does found))).list
done-by q found true = kept refl
done-by q found false = stop-list q (end.Does found)

found-so : (p : Phase) (q : Sequence) (under : Option Step) (verdict : Verdict) →
    Stops q.leaves q.list (judged_in_phase p q under verdict).list
found-so phase.Before q under verdict = kept refl
found-so phase.Steps q under verdict = done-by q verdict (is_verdict_good under verdict)
found-so phase.After q under verdict = done-by q verdict (is_verdict_good under verdict)

said-so : (g : Guarded) (q : Sequence) (under : Option Step) (x : LookAct) → Stops q.leaves q.list (said_after g q under x).list
said-so g q under (look.Ask question) = kept refl
said-so g q under look.Probe = kept refl
said-so g q under look.Pause = kept refl
said-so g q under look.Again = kept refl
said-so g q under look.Restarted = stop-list q (end.Stopped ended.Restarted)
said-so g q under look.Over = found-so q.phase q under (verdict_in g q.look.delivery)

steps-so : (g : Guarded) (under ahead : Option Step) (q new : Sequence) (said : Act) → Steps g under ahead q said new
    → ListGoes g (shown q ahead) q.leaves q.list new.list
steps-so g under ahead q new said (does.turns x list turned) = turn-so g under ahead q x list turned

acts-so : (g : Guarded) (under ahead : Option Step) (q new : Sequence) (said : Act) → Acts g under ahead q said new
    → ListGoes g (shown q ahead) q.leaves q.list new.list
acts-so g under ahead q new said (does.ended why is) = it.stays refl
acts-so g under ahead q new said (does.steps said' new' on is says) = steps-so g under ahead q new said says
acts-so g under ahead q new said (does.before on is) =
    staying g (shown q ahead) q.leaves q.list _
    (said-so g (with_look q (look_after_due q.look g.host.setup.passes (due_in g q.look.delivery))) under
    (look_act q.look g.host.setup.passes (due_in g q.look.delivery)))
acts-so g under ahead q new said (does.after on is) =
    staying g (shown q ahead) q.leaves q.list _
    (said-so g (with_look q (look_after_due q.look g.host.setup.passes (due_in g q.look.delivery))) under
    (look_act q.look g.host.setup.passes (due_in g q.look.delivery)))

kept-so : (g : Guarded) (tries : ℕ) (ahead shut : Option Output) (old new : Stairs) (x : Move) → Goes g tries shut old x new → shut ≡ None
    → Goes g tries ahead old x new ⊎ IsKept g old new x
kept-so g tries ahead shut old new x (goes.restarted was) is = inl (goes.restarted was)
kept-so g tries ahead shut old new x (goes.under next new' on says) is = inl (goes.under next new' on says)
kept-so g tries ahead shut old new x (goes.first step next between new' on over some says) is = cc
kept-so g tries ahead shut old new x (goes.all new' on over gone) is = inr (record { reached = refl; over = over })

pub sequences-turn : SequencesTurn
sequences-turn = record {
  turns = acts-so;
  kept = λ g tries ahead old new x says. kept-so g tries ahead None old new x says refl;
}

-- Which orders a sequence begins, case by case.

-- an act that names a job, or tells one
abbrev pub is_named : Act → Bool
is_named (act.Job job) = true
is_named (act.Begins job back) = true
is_named (act.Passes back) = false
is_named (act.Order job) = true
is_named (act.Ask question) = false
is_named act.Probe = false
is_named act.Pause = false
is_named (act.Wait milliseconds) = false
is_named act.Again = false
is_named (act.NoWayBack fault) = false
is_named (act.Does found) = false
is_named (act.Leaves why) = false
is_named (act.Ended why) = false

-- one of two acts that name nothing
either : (b : Bool) (x y : Act) → is_named x ≡ false → is_named y ≡ false → is_named (cond b x y) ≡ false
either true x y first second = first
either false x y first second = second

stop-quiet : (q : Sequence) (why : End) → is_named (stopped_act q why) ≡ false
stop-quiet q why = either (q.leaves && may_leave why) (act.Leaves why) (act.Ended why) refl refl

ahead-quiet : (q : Sequence) (ahead : Option Step) → is_named (ahead_act q ahead) ≡ false
ahead-quiet q None = refl
ahead-quiet q (Some step) = either _ act.Again (act.Wait step.wait) refl refl

over-quiet : (q : Sequence) (under ahead : Option Step) → is_named (over_act q under ahead) ≡ false
over-quiet q None ahead = ahead-quiet q ahead
over-quiet q (Some step) ahead = either (needs_look q step) act.Again (ahead_act q ahead) refl (ahead-quiet q ahead)

done-quiet : (q : Sequence) (under : Option Step) (found : Verdict) → is_named (done_act q under found) ≡ false
done-quiet q under found =
    either (is_verdict_good under found) (act.Does found) (stopped_act q (end.Does found)) refl (stop-quiet q (end.Does found))

found-quiet : (p : Phase) (q : Sequence) (under : Option Step) (said : Verdict) → is_named (found_in p q under said) ≡ false
found-quiet phase.Before q under said = refl
found-quiet phase.Steps q under said = done-quiet q under said
found-quiet phase.After q under said = done-quiet q under said

said-quiet : (g : Guarded) (q : Sequence) (under : Option Step) (said : LookAct) → is_named (said_act g q under said) ≡ false
said-quiet g q under (look.Ask question) = refl
said-quiet g q under look.Probe = refl
said-quiet g q under look.Pause = refl
said-quiet g q under look.Again = refl
said-quiet g q under look.Restarted = stop-quiet q (end.Stopped ended.Restarted)
said-quiet g q under look.Over = found-quiet q.phase q under (verdict_in g q.look.delivery)

pub look-quiet : (g : Guarded) (q : Sequence) (under : Option Step) → is_named (looked_act g q under) ≡ false
look-quiet g q under = said-quiet g _ under (look_act q.look g.host.setup.passes (due_in g q.look.delivery))

-- what was let through was judged
read-goes : (b : Bool) (x : Gate) → cond b x gate_is.Looks ≡ gate_is.Goes → (b ≡ true) × (x ≡ gate_is.Goes)
read-goes true x h = (refl, h)
read-goes false x h = cc

asked-goes : (w o b : Bool) (x : Gate) → cond (w && o) (cond b x gate_is.Looks) gate_is.Goes ≡ gate_is.Goes → w ≡ true → o ≡ true
    → (b ≡ true) × (x ≡ gate_is.Goes)
asked-goes true true b x h w o = read-goes b x h
asked-goes true false b x h w o = cc
asked-goes false o b x h w is = cc

on-fresh : (o f : Bool) → cond (o && not f) gate_is.Blind gate_is.Goes ≡ gate_is.Goes → o ≡ true → f ≡ true
on-fresh true true h o = refl
on-fresh true false h o = cc
on-fresh false f h o = cc

-- an order that turns on and was let through comes of a fresh survey
fresh-goes : (it : Fresh) (b : Bool) (job : Job) (x : Gate) → fresh_gate it b job x ≡ gate_is.Goes
    → (x ≡ gate_is.Goes) × (is_on_order job ≡ true → is_fresh it b ≡ true)
fresh-goes it b job gate_is.Goes h = (refl, on-fresh (is_on_order job) (is_fresh it b) h)
fresh-goes it b job gate_is.Looks h = cc
fresh-goes it b job (gate_is.Beyond fault) h = cc
fresh-goes it b job gate_is.Unjudged h = cc
fresh-goes it b job gate_is.Blind h = cc
fresh-goes it b job gate_is.Twice h = cc

on-few : (o two : Bool) → cond (o && two) gate_is.Twice gate_is.Goes ≡ gate_is.Goes → o ≡ true → two ≡ false
on-few true true h o = cc
on-few true false h o = refl
on-few false two h o = cc

-- An order that turns on and was let through isn't the third of its step.
twice-goes : (two : Bool) (job : Job) (x : Gate) → twice_gate two job x ≡ gate_is.Goes
    → (x ≡ gate_is.Goes) × (is_on_order job ≡ true → two ≡ false)
twice-goes two job gate_is.Goes h = (refl, on-few (is_on_order job) two h)
twice-goes two job gate_is.Looks h = cc
twice-goes two job (gate_is.Beyond fault) h = cc
twice-goes two job gate_is.Unjudged h = cc
twice-goes two job gate_is.Blind h = cc
twice-goes two job gate_is.Twice h = cc

-- what a gate that lets a job through says
let-through : (g : Guarded) (q : Sequence) (step : Option Step) (job : Job) (list : List) (begins : Bool) → gate g q step job list begins ≡ gate_is.Goes
    → fresh_gate q.fresh (begins || list.stairs.reading) job (judged_gate g q step job list.stairs.under) ≡ gate_is.Goes
let-through g q step job list begins goes =
    (twice-goes (had_two q begins) job (fresh_gate q.fresh (begins || list.stairs.reading) job (judged_gate g q step job list.stairs.under)) goes).0

judged-by : (g : Guarded) (q : Sequence) (step : Option Step) (job : Job) (list : List)
    → judged_gate g q step job list.stairs.under ≡ gate_is.Goes → (it : Step) → step ≡ Some it → it.looks.is_wanted ≡ true → order_gate job ≡ true
    → (is_read_for q it ≡ true) × (step_gate g q.look.delivery list.stairs.under ≡ gate_is.Goes)
judged-by g q step job list goes it is wanted order =
    asked-goes it.looks.is_wanted (order_gate job) (is_read_for q it) (step_gate g q.look.delivery list.stairs.under)
    (subst (λ (s : Option Step). judged_gate g q s job list.stairs.under ≡ gate_is.Goes) is goes) wanted order

judged : (g : Guarded) (q : Sequence) (step : Option Step) (job : Job) (list : List) (begins : Bool) → gate g q step job list begins ≡ gate_is.Goes
    → IsJudged g q step job list
judged g q step job list begins goes = record {
  goes = judged-by g q step job list
      (fresh-goes q.fresh (begins || list.stairs.reading) job (judged_gate g q step job list.stairs.under)
      (let-through g q step job list begins goes)).0;
}

fresh-by : (g : Guarded) (q : Sequence) (step : Option Step) (job : Job) (list : List) (begins : Bool) → gate g q step job list begins ≡ gate_is.Goes
    → is_on_order job ≡ true → is_fresh q.fresh (begins || list.stairs.reading) ≡ true
fresh-by g q step job list begins goes =
    (fresh-goes q.fresh (begins || list.stairs.reading) job (judged_gate g q step job list.stairs.under)
    (let-through g q step job list begins goes)).1

-- The job that a list names of the step under way, and that was let through, isn't the third order that turns on.
few-parts : (two : Bool) → (true && not two) ≡ false → two ≡ true
few-parts true h = refl
few-parts false h = cc

pub few-by : (g : Guarded) (q : Sequence) (step : Option Step) (job : Job) (list : List) → gate g q step job list false ≡ gate_is.Goes
    → is_on_order job ≡ true → nat_lt q.turned_on 2 ≡ true
few-by g q step job list goes on =
    few-parts (nat_lt q.turned_on 2)
    ((twice-goes (had_two q false) job (fresh_gate q.fresh list.stairs.reading job (judged_gate g q step job list.stairs.under)) goes).1 on)

-- what an act names
pub data NamesSo (g : Guarded) (under ahead : Option Step) (q new : Sequence) : Act → Type 0 where
  a-job : (job : Job) (list : List) → Turns g (shown q ahead) q.list (turn.Job job) list → new.list ≡ list → IsJudged g q under job list
      → is_untold q.asks q.told job ≡ false → (is_on_order job ≡ true → is_fresh q.fresh list.stairs.reading ≡ true)
      → NamesSo g under ahead q new (act.Job job)
  a-begin : (job : Job) (back : WordStep) (list : List) → Turns g (shown q ahead) q.list (turn.Begins job back) list → new.list ≡ list
      → IsJudged g q ahead job list → is_untold q.asks q.told job ≡ false → (is_on_order job ≡ true → is_fresh q.fresh true ≡ true)
      → NamesSo g under ahead q new (act.Begins job back)
  an-order : (job : Job) → is_untold q.asks q.told job ≡ true → IsDue g under ahead q new job → new.list.begun ≡ q.list.begun
      → new.told ≡ Some job → NamesSo g under ahead q new (act.Order job)
  none : (said : Act) → is_named said ≡ false → NamesSo g under ahead q new said

next-named : (b c : Bool) (x y : ℕ) → cond ((b && false) && c) x y ≡ y
next-named true c x y = refl
next-named false c x y = refl

-- an order that may begin is told, or begins
job-goes : (g : Guarded) (under ahead : Option Step) (q : Sequence) (job : Job) (list : List)
    → Turns g (shown q ahead) q.list (turn.Job job) list → IsJudged g q under job list
    → (is_on_order job ≡ true → is_fresh q.fresh list.stairs.reading ≡ true) → (b : Bool) → is_untold q.asks q.told job ≡ b
    → NamesSo g under ahead q (cond b (told_with (asked_of q list false) job) (job_after q job list)) (cond b (act.Order job) (act.Job job))
job-goes g under ahead q job list says judged fresh true told = an-order job told (due.job list says judged refl) refl refl
job-goes g under ahead q job list says judged fresh false told = a-job job list says (either-list _ _ _ list refl refl) judged told fresh

begin-goes : (g : Guarded) (under ahead : Option Step) (q : Sequence) (job : Job) (back : WordStep) (list : List)
    → Turns g (shown q ahead) q.list (turn.Begins job back) list → IsJudged g q ahead job list
    → (is_on_order job ≡ true → is_fresh q.fresh true ≡ true) → (b : Bool) → is_untold q.asks q.told job ≡ b
    → NamesSo g under ahead q (cond b (told_with (asked_of q list true) job) (does.begun_by g q job list))
    (cond b (act.Order job) (act.Begins job back))
begin-goes g under ahead q job back list says judged fresh true told =
    an-order job told
    (due.begins list back says judged refl
    (next-named (is_some q.list.stairs.under) (nat_lt 0 q.list.begun) (q.list.begun - 1) q.list.begun)) refl refl
begin-goes g under ahead q job back list says judged fresh false told = a-begin job back list says refl judged told fresh

job-so : (g : Guarded) (under ahead : Option Step) (q : Sequence) (job : Job) (list : List) → Turns g (shown q ahead) q.list (turn.Job job) list
    → (is : Gate) → gate g q under job list false ≡ is
    → NamesSo g under ahead q (gated_after (asked_of q list false) under is job (job_after q job list))
    (gated_act (asked_of q list false) is job (act.Job job))
job-so g under ahead q job list says gate_is.Goes goes =
    job-goes g under ahead q job list says (judged g q under job list false goes) (fresh-by g q under job list false goes)
    (is_untold q.asks q.told job) refl
job-so g under ahead q job list says gate_is.Looks goes = none act.Again refl
job-so g under ahead q job list says (gate_is.Beyond fault) goes = none _ (stop-quiet (asked_of q list false) (end.Beyond fault))
job-so g under ahead q job list says gate_is.Blind goes = none act.Again refl
job-so g under ahead q job list says gate_is.Unjudged goes = none _ (stop-quiet (asked_of q list false) end.Unjudged)
job-so g under ahead q job list says gate_is.Twice goes = none _ (stop-quiet (asked_of q list false) (spent_end (asked_of q list false)))

begin-so : (g : Guarded) (under ahead : Option Step) (q : Sequence) (job : Job) (back : WordStep) (list : List)
    → Turns g (shown q ahead) q.list (turn.Begins job back) list
    → (is : Gate) → gate g q ahead job list true ≡ is
    → NamesSo g under ahead q (gated_after (asked_of q list true) ahead is job (does.begun_by g q job list))
    (gated_act (asked_of q list true) is job (act.Begins job back))
begin-so g under ahead q job back list says gate_is.Goes goes =
    begin-goes g under ahead q job back list says (judged g q ahead job list true goes) (fresh-by g q ahead job list true goes)
    (is_untold q.asks q.told job) refl
begin-so g under ahead q job back list says gate_is.Looks goes = none act.Again refl
begin-so g under ahead q job back list says (gate_is.Beyond fault) goes = none _ (stop-quiet (asked_of q list true) (end.Beyond fault))
begin-so g under ahead q job back list says gate_is.Blind goes = none act.Again refl
begin-so g under ahead q job back list says gate_is.Unjudged goes = none _ (stop-quiet (asked_of q list true) end.Unjudged)
begin-so g under ahead q job back list says gate_is.Twice goes = none _ (stop-quiet (asked_of q list true) (spent_end (asked_of q list true)))

judged_turn-so : (g : Guarded) (under ahead : Option Step) (q : Sequence) (said : Turn) (list : List)
    → Turns g (shown q ahead) q.list said list
    → NamesSo g under ahead q (after_of g under ahead q said list) (act_of g under ahead q said list)
judged_turn-so g under ahead q turn.Again list says = none act.Again refl
judged_turn-so g under ahead q (turn.Job job) list says = job-so g under ahead q job list says (gate g q under job list false) refl
judged_turn-so g under ahead q (turn.Begins job back) list says =
    begin-so g under ahead q job back list says (gate g q ahead job list true) refl
judged_turn-so g under ahead q (turn.Passes back) list says = none (act.Passes back) refl
judged_turn-so g under ahead q (turn.NoWayBack fault) list says = none (act.NoWayBack fault) refl
judged_turn-so g under ahead q turn.Reached list says = none _ (over-quiet (with_list q list) under ahead)
judged_turn-so g under ahead q (turn.Stops why) list says = none _ (stop-quiet (with_list q list) (end.Stopped why))

judged_steps-so : (g : Guarded) (under ahead : Option Step) (q new : Sequence) (said : Act) → Steps g under ahead q said new
    → NamesSo g under ahead q new said
judged_steps-so g under ahead q new said (does.turns turned list says) = judged_turn-so g under ahead q turned list says

pub judged_acts-so : (g : Guarded) (under ahead : Option Step) (q new : Sequence) (said : Act) → Acts g under ahead q said new
    → NamesSo g under ahead q new said
judged_acts-so g under ahead q new said (does.ended why is) = none (act.Ended why) refl
judged_acts-so g under ahead q new said (does.steps said' new' on is says) = judged_steps-so g under ahead q new said says
judged_acts-so g under ahead q new said (does.before on is) = none _ (look-quiet g q under)
judged_acts-so g under ahead q new said (does.after on is) = none _ (look-quiet g q under)

job-of : (g : Guarded) (under ahead : Option Step) (q new : Sequence) (job : Job) → NamesSo g under ahead q new (act.Job job)
    → (list : List) × (Turns g (shown q ahead) q.list (turn.Job job) list × (new.list ≡ list) × IsJudged g q under job list)
job-of g under ahead q new job (a-job job' list says is so told fresh) = (list, (says, is, so))
job-of g under ahead q new job (none said quiet) = cc

begin-of : (g : Guarded) (under ahead : Option Step) (q new : Sequence) (job : Job) (back : WordStep)
    → NamesSo g under ahead q new (act.Begins job back)
    → (list : List) × (Turns g (shown q ahead) q.list (turn.Begins job back) list × (new.list ≡ list) × IsJudged g q ahead job list)
begin-of g under ahead q new job back (a-begin job' back' list says is so told fresh) = (list, (says, is, so))
begin-of g under ahead q new job back (none said quiet) = cc

pub orders-judged : OrdersAreJudged
orders-judged = record {
  job = λ g under ahead q new job says. job-of g under ahead q new job (judged_acts-so g under ahead q new (act.Job job) says);
  begins = λ g under ahead q new job back says. begin-of g under ahead q new job back
      (judged_acts-so g under ahead q new (act.Begins job back) says);
}

-- ---- What is told ----

told-parts : (asks order told : Bool) → (asks && (order && not told)) ≡ false → asks ≡ true → order ≡ true → told ≡ true
told-parts true true true untold asks order = refl
told-parts true true false untold asks order = cc
told-parts true false told untold asks order = cc
told-parts false order told untold asks is = cc

untold-parts : (asks order told : Bool) → (asks && (order && not told)) ≡ true → (asks ≡ true) × (order ≡ true)
untold-parts true true told is = (refl, refl)
untold-parts true false told is = cc
untold-parts false order told is = cc

module _ (apart : CellsAreToldApart) where
  same-so : (job other : Job) → same_order job other ≡ true → job ≡ other
  same-so (asked.Order cell word) (asked.Order at second) is =
      let parts = and_parts (same_cell cell at) (word == second) is in
      let cells : cell ≡ at = (apart cell at).0 parts.0 in
      let words : word ≡ second = eqb-true word second parts.1 in rw (cells, words) refl
  same-so (asked.OrderMicro cell x) (asked.OrderMicro at y) is =
      let parts = and_parts (same_cell cell at) (int_eq x y) is in
      let cells : cell ≡ at = (apart cell at).0 parts.0 in
      let same : x ≡ y = (Decides-int_eq x y).0 parts.1 in rw (cells, same) refl
  same-so job other is = cc

  told-so : (told : Option Job) (job : Job) → is_order_told told job ≡ true → told ≡ Some job
  told-so None job is = cc
  told-so (Some other) job is = ap (λ (x : Job). Some x) (same-so other job is)

  told-of : (q : Sequence) (job : Job) → is_untold q.asks q.told job ≡ false → q.asks ≡ true → is_job_order job ≡ true → q.told ≡ Some job
  told-of q job untold asks order = told-so q.told job (told-parts q.asks (is_job_order job) (is_order_told q.told job) untold asks order)

  job-told : (g : Guarded) (under ahead : Option Step) (q new : Sequence) (job : Job) → NamesSo g under ahead q new (act.Job job)
      → q.asks ≡ true → is_job_order job ≡ true → q.told ≡ Some job
  job-told g under ahead q new job (a-job job' list says is so told fresh) asks order = told-of q job told asks order
  job-told g under ahead q new job (none said quiet) asks order = cc

  begin-told : (g : Guarded) (under ahead : Option Step) (q new : Sequence) (job : Job) (back : WordStep)
      → NamesSo g under ahead q new (act.Begins job back) → q.asks ≡ true → is_job_order job ≡ true → q.told ≡ Some job
  begin-told g under ahead q new job back (a-begin job' back' list says is so told fresh) asks order = told-of q job told asks order
  begin-told g under ahead q new job back (none said quiet) asks order = cc

  order-of : (g : Guarded) (under ahead : Option Step) (q new : Sequence) (job : Job) → NamesSo g under ahead q new (act.Order job)
      → (q.asks ≡ true) × IsTold g under ahead q new job
  order-of g under ahead q new job (an-order job' untold due begun told) =
      let parts = untold-parts q.asks (is_job_order job) (is_order_told q.told job) untold in (
        parts.0,
        record {
          order = parts.1;
          due = due;
          begun = begun;
          told = told;
        },
      )
  order-of g under ahead q new job (none said quiet) = cc

  pub orders-told : OrdersAreTold
  orders-told = record {
    job = λ g under ahead q new job says. job-told g under ahead q new job (judged_acts-so g under ahead q new (act.Job job) says);
    begins = λ g under ahead q new job back says.
        begin-told g under ahead q new job back (judged_acts-so g under ahead q new (act.Begins job back) says);
    tells = λ g under ahead q new job says. order-of g under ahead q new job (judged_acts-so g under ahead q new (act.Order job) says);
  }

-- Which survey is fresh, act by act.

-- ---- What begins anew ----

abbrev IsUnread : FrameCourse → Type 0
IsUnread course = (course.course.survey.learned ≡ false) × (course.course.survey.read ≡ nothing_read)

abbrev made : List → Bool → Option FrameCourse → Option Under → List
made q reading coming under = record q { stairs = record q.stairs { reading = reading; coming = coming; under = under } }

unread-at : (q : List) (reading : Bool) (coming : Option FrameCourse) (under : Option Under)
    → IfSome (course_open (afresh (made q reading coming under)).stairs) IsUnread
unread-at q true None under = tt
unread-at q true (Some course) under = (refl, refl)
unread-at q false coming None = tt
unread-at q false coming (Some under) = (refl, refl)

unread : (q : List) → IfSome (course_open (afresh q).stairs) IsUnread
unread q = unread-at q q.stairs.reading q.stairs.coming q.stairs.under

module _ (g : Guarded) (under ahead : Option Step) (old : Sequence) where
  abbrev Comes : Sequence → Act → Type 0
  Comes new said = ComesFresh g ahead old new said

  fresh_either : (b : Bool) (x y : Sequence) (this that : Act) → Comes x this → Comes y that → Comes (cond b x y) (cond b this that)
  fresh_either true x y this that first second = first
  fresh_either false x y this that first second = second

  stop-so : (q : Sequence) (why : End) → q.fresh ≡ old.fresh → Comes (stopped_after q why) (stopped_act q why)
  stop-so q why same =
      fresh_either (q.leaves && may_leave why) (left_out q) (record q { end = Some why }) (act.Leaves why) (act.Ended why)
      (ends (act.Leaves why) refl) (stays (act.Ended why) refl same)

  before-so : (q : Sequence) (step : Option Step) → q.fresh ≡ old.fresh → Comes (look_before_step q step) act.Again
  before-so q None same = stays act.Again refl same
  before-so q (Some step) same = stays act.Again refl same

  -- a job that reads, or an order
  read-so : (job : Job) (list : List) → is_job_order job ≡ false → (b : Bool) → is_fresh old.fresh list.stairs.reading ≡ b
      → Comes (record old { list = list; told = None; fresh = cond b old.fresh fresh.Nothing }) (act.Job job)
  read-so job list quiet true own = reads job quiet refl own
  read-so job list quiet false own = ends (act.Job job) refl

  fresh_job-so : (job : Job) (list : List) (b : Bool) → is_job_order job ≡ b
      → Comes (cond b (ordered_after old job list) (read_after old list)) (act.Job job)
  fresh_job-so job list true is = ends (act.Job job) refl
  fresh_job-so job list false is = read-so job list is (is_fresh old.fresh list.stairs.reading) refl

  fresh_gate-so : (step : Option Step) (job : Job) (after : Sequence) (said : Act) (list : List) (x : Turn)
      → Turns g (shown old ahead) old.list x list
      → Comes after said → (is : Gate)
      → Comes (gated_after (asked_of old list (is_turn_begin x)) step is job after)
      (gated_act (asked_of old list (is_turn_begin x)) is job said)
  fresh_gate-so step job after said list x turned goes gate_is.Goes =
      fresh_either (is_untold old.asks old.told job) (told_with (asked_of old list (is_turn_begin x)) job) after (act.Order job) said
      (stays (act.Order job) refl refl) goes
  fresh_gate-so step job after said list x turned goes gate_is.Looks = before-so (asked_of old list (is_turn_begin x)) step refl
  fresh_gate-so step job after said list x turned goes (gate_is.Beyond fault) =
      stop-so (asked_of old list (is_turn_begin x)) (end.Beyond fault) refl
  fresh_gate-so step job after said list x turned goes gate_is.Unjudged = stop-so (asked_of old list (is_turn_begin x)) end.Unjudged refl
  fresh_gate-so step job after said list x turned goes gate_is.Twice =
      stop-so (asked_of old list (is_turn_begin x)) (spent_end (asked_of old list (is_turn_begin x))) refl
  fresh_gate-so step job after said list x turned goes gate_is.Blind =
      anew act.Again (record {
        x = x;
        list = list;
        names = turned;
        is = refl;
        again = refl;
        unread = unread (asked_of old list (is_turn_begin x)).list;
      })

  ahead-so : (q : Sequence) (a : Option Step) → q.fresh ≡ old.fresh → Comes (ahead_after q a) (ahead_act q a)
  ahead-so q None same = stays _ refl same
  ahead-so q (Some step) same =
      fresh_either (step.wait == 0 || q.is_waited) (record q { is_shown = true }) (record q { is_waited = true; fresh = fresh.Nothing })
      act.Again
      (act.Wait step.wait) (stays act.Again refl same) (ends (act.Wait step.wait) refl)

  over-so : (q : Sequence) (u a : Option Step) → q.fresh ≡ old.fresh → Comes (over_after q u a) (over_act q u a)
  over-so q None a same = ahead-so q a same
  over-so q (Some step) a same =
      fresh_either (needs_look q step) (looking_at q step) (ahead_after q a) act.Again (ahead_act q a) (stays act.Again refl same)
      (ahead-so q a same)

  again-by : (b : Bool) (x y : Sequence) → Comes x act.Again → Comes y act.Again → Comes (cond b x y) act.Again
  again-by true x y first second = first
  again-by false x y first second = second

  fresh_turn-so : (x : Turn) (list : List) → Turns g (shown old ahead) old.list x list
      → Comes (after_of g under ahead old x list) (act_of g under ahead old x list)
  fresh_turn-so turn.Again list turned =
      again-by (list.begun == old.list.begun) (with_list old list) (begun_with old list) (stays act.Again refl refl) (ends act.Again refl)
  fresh_turn-so (turn.Job job) list turned =
      fresh_gate-so under job (job_after old job list) (act.Job job) list (turn.Job job) turned
      (fresh_job-so job list (is_job_order job) refl)
      (gate g old under job list false)
  fresh_turn-so (turn.Begins job back) list turned =
      fresh_gate-so ahead job (begun_by g old job list) (act.Begins job back) list (turn.Begins job back) turned
      (ends (act.Begins job back) refl)
      (gate g old ahead job list true)
  fresh_turn-so (turn.Passes back) list turned = ends (act.Passes back) refl
  fresh_turn-so (turn.NoWayBack fault) list turned = stays (act.NoWayBack fault) refl refl
  fresh_turn-so turn.Reached list turned = over-so (with_list old list) under ahead refl
  fresh_turn-so (turn.Stops why) list turned = stop-so (with_list old list) (end.Stopped why) refl

  fresh_steps-so : (new : Sequence) (said : Act) → Steps g under ahead old said new → Comes new said
  fresh_steps-so new said (does.turns x list turned) = fresh_turn-so x list turned

  -- ---- A look ----

  left-so : (q : Sequence) (why : End) → q.fresh ≡ fresh.Nothing → Comes (stopped_after q why) (stopped_act q why)
  left-so q why gone =
      fresh_either (q.leaves && may_leave why) (left_out q) (record q { end = Some why }) (act.Leaves why) (act.Ended why)
      (ends (act.Leaves why) refl) (ends (act.Ended why) gone)

  done-so : (q : Sequence) (found : Verdict) → q.fresh ≡ fresh.Nothing → Comes (done_after q under found) (done_act q under found)
  done-so q found gone =
      fresh_either (is_verdict_good under found) (record q { phase = phase.Steps; is_looked = true }) (stopped_after q (end.Does found))
      (act.Does found)
      (stopped_act q (end.Does found)) (ends (act.Does found) gone) (left-so q (end.Does found) gone)

  fresh_found-so : (p : Phase) (q : Sequence) (found : Verdict) → q.fresh ≡ fresh.Nothing
      → Comes (judged_in_phase p q under found) (found_in p q under found)
  fresh_found-so phase.Before q found gone = ends act.Again gone
  fresh_found-so phase.Steps q found gone = done-so q found gone
  fresh_found-so phase.After q found gone = done-so q found gone

  fresh_said-so : (l : Look) (x : LookAct) → Comes (said_after g (with_look old l) under x) (said_act g (with_look old l) under x)
  fresh_said-so l (look.Ask question) = ends (act.Ask question) refl
  fresh_said-so l look.Probe = ends act.Probe refl
  fresh_said-so l look.Pause = ends act.Pause refl
  fresh_said-so l look.Again = ends act.Again refl
  fresh_said-so l look.Restarted = left-so (with_look old l) (end.Stopped ended.Restarted) refl
  fresh_said-so l look.Over = fresh_found-so old.phase (with_look old l) (verdict_in g l.delivery) refl

  comes : (new : Sequence) (said : Act) → Acts g under ahead old said new → Comes new said
  comes new said (does.ended why is) = stays (act.Ended why) refl refl
  comes new said (does.steps said' new' on is says) = fresh_steps-so new said says
  comes new said (does.before on is) =
      fresh_said-so (look_after_due old.look g.host.setup.passes (due_in g old.look.delivery))
      (look_act old.look g.host.setup.passes (due_in g old.look.delivery))
  comes new said (does.after on is) =
      fresh_said-so (look_after_due old.look g.host.setup.passes (due_in g old.look.delivery))
      (look_act old.look g.host.setup.passes (due_in g old.look.delivery))

fresh_job-of : (g : Guarded) (under ahead : Option Step) (q new : Sequence) (job : Job) → NamesSo g under ahead q new (act.Job job)
    → is_on_order job ≡ true
    → (list : List) × (Turns g (shown q ahead) q.list (turn.Job job) list × (is_fresh q.fresh list.stairs.reading ≡ true))
fresh_job-of g under ahead q new job (a-job job' list says is so told own) on = (list, (says, own on))
fresh_job-of g under ahead q new job (none said quiet) on = cc

fresh_begin-of : (g : Guarded) (under ahead : Option Step) (q new : Sequence) (job : Job) (back : WordStep)
    → NamesSo g under ahead q new (act.Begins job back) → is_on_order job ≡ true → is_fresh q.fresh true ≡ true
fresh_begin-of g under ahead q new job back (a-begin job' back' list says is so told own) on = own on
fresh_begin-of g under ahead q new job back (none said quiet) on = cc

-- what is heard
fresh-heard : (it : Fresh) (entry : Entry) → (fresh_heard it entry ≡ fresh.Nothing) ⊎ (fresh_heard it entry ≡ it)
fresh-heard it (Got []) = inl refl
fresh-heard it (Got (byte ∷ bytes)) = inr refl
fresh-heard it (Finished acked) = inr refl
fresh-heard it (Accepted job) = inr refl
fresh-heard it Restarted = inr refl

heard-so : (g after : Guarded) (old new : Sequence) (entry : Entry) (result : Result (Unit {0}) Untold) → Hears g old entry result after new
    → (new.fresh ≡ fresh.Nothing) ⊎ (new.fresh ≡ old.fresh)
heard-so g after old new entry result (hear.nothing shut) = inr refl
heard-so g after old new entry result (hear.unheard course why opens hears) = inr refl
heard-so g after old new entry result (hear.heard course is after' opens hears) = fresh-heard old.fresh entry

silent-so : (g after : Guarded) (old new : Sequence) (entry : Entry) (result : Result (Unit {0}) Untold) → Hears g old entry result after new
    → entry ≡ Got [] → result ≡ Ok tt → new.fresh ≡ fresh.Nothing
silent-so g after old new entry result (hear.nothing shut) is ok = cc
silent-so g after old new entry result (hear.unheard course why opens hears) is ok = cc
silent-so g after old new entry result (hear.heard course it after' opens hears) is ok =
    ap (λ (e : Entry). fresh_heard old.fresh e) is

pub orders-fresh : OrdersAreFresh
orders-fresh = record {
  job = λ g under ahead q new job says on. fresh_job-of g under ahead q new job (judged_acts-so g under ahead q new (act.Job job) says) on;
  begins = λ g under ahead q new job back says on.
      fresh_begin-of g under ahead q new job back (judged_acts-so g under ahead q new (act.Begins job back) says) on;
  heard = heard-so;
  silent = λ g after old new hears. silent-so g after old new (Got []) (Ok tt) hears refl refl;
  comes = λ g under ahead old new said says. comes g under ahead old new said says;
}

-- How many orders that turn its output on a step has, act by act.

module _ (g : Guarded) (under ahead : Option Step) (old : Sequence) where
  abbrev Counts : Sequence → Act → Type 0
  Counts new said = CountsOn old new said

  twice_either : (b : Bool) (x y : Sequence) (this that : Act) → Counts x this → Counts y that → Counts (cond b x y) (cond b this that)
  twice_either true x y this that one other = one
  twice_either false x y this that one other = other

  twice_stop-so : (q : Sequence) (why : End) → q.turned_on ≡ old.turned_on → Counts (stopped_after q why) (stopped_act q why)
  twice_stop-so q why same =
      twice_either (q.leaves && may_leave why) (left_out q) (record q { end = Some why }) (act.Leaves why) (act.Ended why)
      (keeps (act.Leaves why) refl same) (keeps (act.Ended why) refl same)

  twice_before-so : (q : Sequence) (step : Option Step) → q.turned_on ≡ old.turned_on → Counts (look_before_step q step) act.Again
  twice_before-so q None same = keeps act.Again refl same
  twice_before-so q (Some step) same = keeps act.Again refl same

  -- an order, where there were fewer than two
  count-so : (had : ℕ) (it : Job) (on few : Bool) → is_on_order it ≡ on → nat_lt had 2 ≡ few → (on ≡ true → few ≡ true)
      → (new : Sequence) → old.turned_on ≡ had → new.turned_on ≡ cond on (cond few (had + 1) 2) had → Counts new (act.Job it)
  count-so had it true true on few may new was is =
      counts it on (ap (λ (n : ℕ). nat_lt n 2) was ∙ few) (is ∙ ap (λ (n : ℕ). n + 1) (sym was))
  count-so had it true false on few may new was is = let wrong : false ≡ true = may refl in cc
  count-so had it false few on is-few may new was is = keeps (act.Job it) on (is ∙ sym was)

  order-so : (it : Job) (list : List) → (is_on_order it ≡ true → nat_lt old.turned_on 2 ≡ true) → Counts (ordered_after old it list) (act.Job it)
  order-so it list few =
      count-so old.turned_on it (is_on_order it) (nat_lt old.turned_on 2) refl refl few (ordered_after old it list) refl refl

  -- a job that is no order turns nothing on
  quiet-so : (it : Job) → is_job_order it ≡ false → is_on_order it ≡ false
  quiet-so (asked.Order cell word) is = cc
  quiet-so (asked.OrderMicro cell x) is = cc
  quiet-so (asked.Check cell) is = refl
  quiet-so (asked.Learn output) is = refl
  quiet-so (asked.Send command) is = refl

  twice_job-so : (it : Job) (list : List) → (is_on_order it ≡ true → nat_lt old.turned_on 2 ≡ true) → (b : Bool) → is_job_order it ≡ b
      → Counts (cond b (ordered_after old it list) (read_after old list)) (act.Job it)
  twice_job-so it list few true is = order-so it list few
  twice_job-so it list few false is = keeps (act.Job it) (quiet-so it is) refl

  twice_gate-so : (step : Option Step) (it : Job) (list : List) (begins : Bool) (after : Sequence) (said : Act) → (is : Gate)
      → (is ≡ gate_is.Goes → Counts after said)
      → Counts (gated_after (asked_of old list begins) step is it after) (gated_act (asked_of old list begins) is it said)
  twice_gate-so step it list begins after said gate_is.Goes goes =
      twice_either (is_untold old.asks old.told it) (told_with (asked_of old list begins) it) after (act.Order it) said
      (keeps (act.Order it) refl refl) (goes refl)
  twice_gate-so step it list begins after said gate_is.Looks goes = twice_before-so (asked_of old list begins) step refl
  twice_gate-so step it list begins after said (gate_is.Beyond fault) goes =
      twice_stop-so (asked_of old list begins) (end.Beyond fault) refl
  twice_gate-so step it list begins after said gate_is.Unjudged goes = twice_stop-so (asked_of old list begins) end.Unjudged refl
  twice_gate-so step it list begins after said gate_is.Blind goes = keeps act.Again refl refl
  twice_gate-so step it list begins after said gate_is.Twice goes =
      twice_stop-so (asked_of old list begins) (spent_end (asked_of old list begins)) refl

  twice_ahead-so : (q : Sequence) (a : Option Step) → q.turned_on ≡ old.turned_on → Counts (ahead_after q a) (ahead_act q a)
  twice_ahead-so q None same = keeps _ refl same
  twice_ahead-so q (Some step) same =
      twice_either (step.wait == 0 || q.is_waited) (record q { is_shown = true }) (record q { is_waited = true; fresh = fresh.Nothing })
      act.Again
      (act.Wait step.wait) (keeps act.Again refl same) (keeps (act.Wait step.wait) refl same)

  twice_over-so : (q : Sequence) (u a : Option Step) → q.turned_on ≡ old.turned_on → Counts (over_after q u a) (over_act q u a)
  twice_over-so q None a same = twice_ahead-so q a same
  twice_over-so q (Some step) a same =
      twice_either (needs_look q step) (looking_at q step) (ahead_after q a) act.Again (ahead_act q a) (keeps act.Again refl same)
      (twice_ahead-so q a same)

  twice_again-by : (list : List) (b : Bool) → (list.begun == old.list.begun) ≡ b
      → Counts (cond b (with_list old list) (begun_with old list)) act.Again
  twice_again-by list true is = keeps act.Again refl refl
  twice_again-by list false is = at_once (eqb-false list.begun old.list.begun is) refl

  twice_turn-so : (x : Turn) (list : List) → Counts (after_of g under ahead old x list) (act_of g under ahead old x list)
  twice_turn-so turn.Again list = twice_again-by list (list.begun == old.list.begun) refl
  twice_turn-so (turn.Job it) list =
      twice_gate-so under it list false (job_after old it list) (act.Job it) (gate g old under it list false)
      (λ goes. twice_job-so it list (few-by g old under it list goes) (is_job_order it) refl)
  twice_turn-so (turn.Begins it back) list =
      twice_gate-so ahead it list true (begun_by g old it list) (act.Begins it back) (gate g old ahead it list true)
      (λ goes. twice_first it back refl)
  twice_turn-so (turn.Passes back) list = passes back refl
  twice_turn-so (turn.NoWayBack fault) list = keeps (act.NoWayBack fault) refl refl
  twice_turn-so turn.Reached list = twice_over-so (with_list old list) under ahead refl
  twice_turn-so (turn.Stops why) list = twice_stop-so (with_list old list) (end.Stopped why) refl

  -- ---- A look ----

  twice_done-so : (q : Sequence) (found : Verdict) → q.turned_on ≡ old.turned_on
      → Counts (done_after q under found) (done_act q under found)
  twice_done-so q found same =
      twice_either (is_verdict_good under found) (record q { phase = phase.Steps; is_looked = true }) (stopped_after q (end.Does found))
      (act.Does found)
      (stopped_act q (end.Does found)) (keeps (act.Does found) refl same) (twice_stop-so q (end.Does found) same)

  twice_found-so : (p : Phase) (q : Sequence) (found : Verdict) → q.turned_on ≡ old.turned_on
      → Counts (judged_in_phase p q under found) (found_in p q under found)
  twice_found-so phase.Before q found same = keeps act.Again refl same
  twice_found-so phase.Steps q found same = twice_done-so q found same
  twice_found-so phase.After q found same = twice_done-so q found same

  twice_said-so : (l : Look) (x : LookAct) → Counts (said_after g (with_look old l) under x) (said_act g (with_look old l) under x)
  twice_said-so l (look.Ask question) = keeps (act.Ask question) refl refl
  twice_said-so l look.Probe = keeps act.Probe refl refl
  twice_said-so l look.Pause = keeps act.Pause refl refl
  twice_said-so l look.Again = keeps act.Again refl refl
  twice_said-so l look.Restarted = twice_stop-so (with_look old l) (end.Stopped ended.Restarted) refl
  twice_said-so l look.Over = twice_found-so old.phase (with_look old l) (verdict_in g l.delivery) refl

  twice_steps-so : (new : Sequence) (said : Act) → Steps g under ahead old said new → Counts new said
  twice_steps-so new said (does.turns x list turned) = twice_turn-so x list

  counts-so : (new : Sequence) (said : Act) → Acts g under ahead old said new → Counts new said
  counts-so new said (does.ended why is) = keeps (act.Ended why) refl refl
  counts-so new said (does.steps said' new' on is says) = twice_steps-so new said says
  counts-so new said (does.before on is) =
      twice_said-so (look_after_due old.look g.host.setup.passes (due_in g old.look.delivery))
      (look_act old.look g.host.setup.passes (due_in g old.look.delivery))
  counts-so new said (does.after on is) =
      twice_said-so (look_after_due old.look g.host.setup.passes (due_in g old.look.delivery))
      (look_act old.look g.host.setup.passes (due_in g old.look.delivery))

twice_heard-so : (g after : Guarded) (old new : Sequence) (entry : Entry) (result : Result (Unit {0}) Untold)
    → Hears g old entry result after new
    → new.turned_on ≡ old.turned_on
twice_heard-so g after old new entry result (hear.nothing shut) = refl
twice_heard-so g after old new entry result (hear.unheard course why opens hears) = refl
twice_heard-so g after old new entry result (hear.heard course is after' opens hears) = refl

pub stops-at-two : OrdersStopAtTwo
stops-at-two = record { acts = counts-so; heard = twice_heard-so }
