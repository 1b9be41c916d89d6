-- What a caller of the stairs carries out, and its way back.
use Rattle.std.specs.Option.{option_map_or}
use Rattle.std.specs.Prelude.{◌==◌, ◌&&◌, option_map, is_none, option_and_then, unwrap_or, Result, map}
use Rattle.std.proofs.{Math.Path.fun_ext, lemmas.Bool.eqb-true, lemmas.Bool.not-true}
use Rattle.std.proofs.Common.{◌≡◌, ℕ, Bool, true, false, cond, Option, Some, None, refl, sym, ◌∙◌, ap, subst, not, List, [], ◌∷◌, Ok, Err}
use Rattle.std.proofs.Common.{◌⊎◌, inl, inr, ◌<◌, ◌++◌}
use Rattle.std.proofs.lemmas.List.{append-nil, append_assoc}
use Rattle.pm_table.specs.Operation.{has_on}
use Rattle.pm_table.specs.{Cell.same_cell, Cell.cell_accepts, Laws.CellsAreToldApart, Rules.rule, declared.cell.Cell.Cell, declared.reg.Reg.Reg}
use Rattle.pm_table.specs.declared.cell.Cell.TheVariants.{Out, Protect}
use Rattle.pm_table.specs.declared.reg.Reg.TheVariants.{Operation, VoutCommand, VoutMax, MarginHigh, MarginLow, VoutMin}
use Rattle.pm_device.specs.declared.config.Config.{Config}
use Rattle.pm_host.specs.{Jobs.accepted_job, Refusals.is_busy, declared.command.Command.TheVariants.RestoreUserAll}
use Rattle.pm_host.specs.{declared.job.Job.Job as Asked}
use Rattle.pm_host.specs.Summary.{Summary, possible_at}
use Rattle.pm_host.specs.Transcript as host
use Rattle.pm_host.specs.declared.job.Job.TheVariants.{Order, Check, Learn, OrderMicro, Send}
use Rattle.pm_limits.specs.{declared.output_limits.OutputLimits.OutputLimits, declared.part_registers.PartRegisters.PartRegisters}
use Rattle.pm_limits.specs.Guard.{Guarded, limits_at}
use Rattle.pm_rail.specs.{Known.known_word, Known.sole, Lemmas.Known.is-planned, Orders.plan_of, declared.fault.PlanFault.PlanFault}
use Rattle.pm_rail.specs.{declared.orders.PlanOrder.PlanOrder, declared.wanted.Wanted.Wanted}
use Rattle.pm_rail.specs.Lemmas.Steps.{first-of, second-of}
use Rattle.pm_rail.specs.Registers.{Held, Wants, wants_of}
use Rattle.pm_course.specs.{declared.course_end.CourseEnd.CourseEnd, declared.course_end.CourseNext.CourseNext}
use Rattle.pm_course.specs.{declared.frame_course.FrameCourse.FrameCourse}
use Rattle.pm_course.specs.declared.course_end.CourseEnd.TheVariants as end
use Rattle.pm_course.specs.declared.course_end.CourseNext.TheVariants as says
use Rattle.pm_stairs.specs.{declared.due.Due.Due, declared.said.Said.Said, declared.said.StepEnd.StepEnd}
use Rattle.pm_stairs.specs.{declared.stairs.Move.Move, declared.stairs.Move.TheVariants.Reached, declared.stairs.Stairs.Stairs}
use Rattle.pm_stairs.specs.{declared.stairs.Under.Under, declared.step.Act.Act, declared.step.Step.Step, declared.step.WordAct.WordAct}
use Rattle.pm_stairs.specs.{declared.step.WordStep.WordStep}
use Rattle.pm_rail.specs.declared.course.Course.{Course}
use Rattle.pm_stairs.specs.Command.{same_command}
use Rattle.pm_stairs.specs.Due.{said_of_asked_job, due_now, ended_for, giving, is_due_order, is_settled, is_unread_off, looking_first, said_of, step_due_of, plan_order}
use Rattle.pm_stairs.specs.Stairs as goes
use Rattle.pm_stairs.specs.Stairs.{AsksAhead, Goes, GoesAhead, GoesUnder, SaysStep, ahead_move, begins_now, trying, under_move}
use Rattle.pm_stairs.specs.Steps.{noted, step_with, act_back, back_word, act_of_words, step_of_words}
use Rattle.pm_stairs.specs.declared.said.Said.TheVariants as said
use Rattle.pm_stairs.specs.declared.said.StepEnd.TheVariants.{Changed}
use Rattle.pm_stairs.specs.declared.said.StepEnd.TheVariants as why
use Rattle.pm_stairs.specs.declared.stairs.Move.TheVariants as move
use Rattle.pm_stairs.specs.declared.step.Act.TheVariants as act
use Rattle.pm_stairs.specs.declared.step.WordAct.TheVariants as word
use Rattle.pm_world.specs.{Confirmed.restarts_converter, Honest.IsSpelled, Job.asked_by, Lemmas.Plans.last-none, Life.now}
use Rattle.pm_world.specs.{State.asked, declared.event.Event.Event, declared.event.Event.TheVariants.RestartDevice}
use Rattle.pm_world.specs.Lived.{EventsAreLived, IsLived}
use Rattle.pm_sequence_laws.specs.Back.{undoing_deed, StairsGoBack, back_step, counted_deed, counted_step, downs_of}
use Rattle.pm_sequence_laws.specs.Climb as climb
use Rattle.pm_sequence_laws.specs.Climb.{AreBacks, AreOf, ClimbsAreStairs, IsClimb, IsGuardAt, deed_of, first_step_ahead, rail_step}
use Rattle.pm_sequence_laws.specs.Climb.{rail_steps}
use Rattle.pm_sequence_laws.specs.Climb.{ClimbsComeBack, IsOnWayBack}
use Rattle.pm_sequence_laws.specs.Due as means
use Rattle.pm_sequence_laws.specs.Due.{IsStepOver, IsDueOrder, IsFirst, LacksNone, Means, MovesAreDue, is_reading_job, word_step_under}
use Rattle.pm_sequence_laws.specs.Due.{IsOf}
use Rattle.pm_sequence_laws.specs.Followed.{IsKnownFrom, IsNextOrder, MayNext, StairsAreFollowed}
use Rattle.pm_sequence_laws.specs.Stairs.{AreOver, AreSound, Deed, IsOver, IsStairs, MayRest, Nothing, RailStep, Sets, Turns, stair_of, stair_start_of}
use Rattle.pm_sequence_laws.specs.Stairs.{Rails, StairsHoldInLives, counting_word, counts_at}

-- What the stairs say, case by case.

-- ---- What a step asks for ----

-- what is said of a step, which has begun or begins now
data SaysSo (begun : Bool) (output : ℕ) (due : Due) : Said → Type 0 where
  an-order : (cell : Cell) (word : ℕ) (order : PlanOrder) → due.order ≡ Some order → Order cell word ≡ Order (Out output order.register) order.word →
      (begun ≡ false → due.lacks ≡ None) → SaysSo begun output due (said.Orders cell word)
  a-read : (job : Asked) → is_reading_job job ≡ true → SaysSo begun output due (said.Reads job)
  a-look : (cell : Cell) → SaysSo begun output due (said.Looks cell)
  an-over : due.over ≡ true → SaysSo begun output due said.Over
  a-stop : (why : StepEnd) → SaysSo begun output due (said.Stops why)

module _ (apart : CellsAreToldApart) (begun : Bool) (output : ℕ) (course : Course) (due : Due) where
  the-order : (cell : Cell) (word : ℕ) (order : PlanOrder) →
      (same_cell cell (Out output order.register) && word == order.word) ≡ true →
      Order cell word ≡ Order (Out output order.register) order.word
  the-order cell word order h =
      let cells = first-of (same_cell cell (Out output order.register)) (word == order.word) h in
      let words = second-of (same_cell cell (Out output order.register)) (word == order.word) h in
      ap (λ (c : Cell). Order c word) ((apart cell (Out output order.register)).0 cells)
      ∙ ap (λ (w : ℕ). Order (Out output order.register) w) (eqb-true word order.word words)

  order-said : (cell : Cell) (word : ℕ) (order : PlanOrder) → due.order ≡ Some order →
      Order cell word ≡ Order (Out output order.register) order.word → (b : Bool) → begun ≡ b → (unread : Bool) → (lacks : Option Cell) →
      due.lacks ≡ lacks →
      SaysSo begun output due (cond b (said.Orders cell word) (cond unread (said.Looks cell) (looking_first lacks (said.Orders cell word))))
  order-said cell word order is same true isb unread lacks isl = an-order cell word order is same (λ e. let bad = sym isb ∙ e in cc)
  order-said cell word order is same false isb true lacks isl = a-look cell
  order-said cell word order is same false isb false None isl = an-order cell word order is same (λ e. isl)
  order-said cell word order is same false isb false (Some at) isl = a-look at

  -- an order isn't given where the step is over
  settled-so : (word : ℕ) (x : Said) → SaysSo begun output due x → (b : Bool) → is_settled course due word ≡ b →
      SaysSo begun output due (cond b said.Over x)
  settled-so word x so true is = an-over (first-of due.over (cond (has_on word) (not course.ordered) course.differed.operation) is)
  settled-so word x so false is = so

  ordered-so : (cell : Cell) (word : ℕ) (o : Option PlanOrder) → due.order ≡ o → (b : Bool) → is_due_order output o cell word ≡ b →
      SaysSo begun output due (cond b (cond (is_settled course due word) said.Over (giving begun course due cell word)) (said.Stops Changed))
  ordered-so cell word o is false e = a-stop Changed
  ordered-so cell word None is true e = cc
  ordered-so cell word (Some order) is true e = settled-so word (giving begun course due cell word)
      (order-said cell word order is (the-order cell word order e) begun refl (is_unread_off course cell word) due.lacks refl)
      (is_settled course due word) refl

  asked-so : (job : Asked) → SaysSo begun output due (said_of_asked_job begun output course due job)
  asked-so (Order cell word) = ordered-so cell word due.order refl (is_due_order output due.order cell word) refl
  asked-so (Check cell) = a-read (Check cell) refl
  asked-so (Learn at) = a-read (Learn at) refl
  asked-so (OrderMicro cell x) = a-stop Changed
  asked-so (Send command) = a-stop Changed

  reached-so : (b : Bool) → due.over ≡ b → (lacks : Option Cell) → SaysSo begun output due (cond b said.Over (looking_first lacks (said.Stops Changed)))
  reached-so true is lacks = an-over is
  reached-so false is None = a-stop Changed
  reached-so false is (Some cell) = a-look cell

  differs-so : (x : Said) → SaysSo begun output due x → (b : Bool) → due.over ≡ b → SaysSo begun output due (cond b said.Over x)
  differs-so x so true is = an-over is
  differs-so x so false is = so

  ended-so : (over : CourseEnd) → SaysSo begun output due (ended_for due over)
  ended-so end.Reached = reached-so due.over refl due.lacks
  ended-so (end.Differs Operation word) = differs-so _ (a-stop _) due.over refl
  ended-so over = a-stop (why.Course over)

  said-so : (next : CourseNext) → SaysSo begun output due (said_of begun output course due next)
  said-so (says.Job job) = asked-so job
  said-so (says.Ended over) = ended-so over

  cond-so : (b : Bool) {x y : Said} → SaysSo begun output due x → SaysSo begun output due y → SaysSo begun output due (cond b x y)
  cond-so true first second = first
  cond-so false first second = second

  tried-so : (course : FrameCourse) (x : Said) → SaysSo begun output due x → SaysSo begun output due (trying course x)
  tried-so course (said.Looks cell) so = cond-so (course.course.survey.left == 0) (a-stop _) so
  tried-so course x so = so

module _ (apart : CellsAreToldApart) (g : Guarded) where
  step-so : (begun : Bool) (step : WordStep) (old new : FrameCourse) (x : Said) → SaysStep g begun step old x new →
      SaysSo begun step.output (due_now g.registers (limits_at g step.output) g.host step) x
  step-so begun step old new x says =
      let due : Due = due_now g.registers (limits_at g step.output) g.host step in
      subst (λ (y : Said). SaysSo begun step.output due y) (sym says.is_said)
      (tried-so apart begun step.output old.course due old (said_of begun step.output old.course due says.next)
      (said-so apart begun step.output old.course due says.next))

  due-order : (step : WordStep) (cell : Cell) (word : ℕ) (order : PlanOrder) →
      (due_now g.registers (limits_at g step.output) g.host step).order ≡ Some order →
      Order cell word ≡ Order (Out step.output order.register) order.word → IsDueOrder g.registers g.host step (Order cell word)
  due-order step cell word order is same = record { limits = limits_at g step.output; order = order; due = is; is_job = same }

  -- ---- The step under way ----

  data UnderSo (old : Option WordStep) : Option Move → Type 0 where
    is-free : IsStepOver g.registers g.host old → UnderSo old None
    is-read : (job : Asked) → is_reading_job job ≡ true → UnderSo old (Some (move.Job job))
    is-order : (job : Asked) (step : WordStep) → old ≡ Some step → IsDueOrder g.registers g.host step job → UnderSo old (Some (move.Job job))
    is-stop : (why : StepEnd) → UnderSo old (Some (move.Stops why))

  under-said : (old : Option WordStep) (step : WordStep) → old ≡ Some step → (x : Said) →
      SaysSo true step.output (due_now g.registers (limits_at g step.output) g.host step) x → UnderSo old (under_move x)
  under-said old step is (said.Orders cell word) (an-order cell' word' order due same lacks) =
      is-order (Order cell word) step is (due-order step cell word order due same)
  under-said old step is (said.Reads job) (a-read job' read) = is-read job read
  under-said old step is (said.Looks cell) so = is-read (Check cell) refl
  under-said old step is said.Over (an-over done) = is-free
      (subst (λ (o : Option WordStep). IsStepOver g.registers g.host o) (sym is) (limits_at g step.output, done))
  under-said old step is (said.Stops why) so = is-stop why

  under-so : (old new : Stairs) (next : Option Move) → GoesUnder g old next new →
      UnderSo (word_step_under old) next × (word_step_under new ≡ word_step_under old)
  under-so old new next (goes.free none) = (
    is-free (subst (λ (o : Option WordStep). IsStepOver g.registers g.host o)
        (sym (ap (λ (u : Option Under). option_map (λ (v : Under). v.step) u) none)) tt),
    refl,
  )
  under-so old new next (goes.absent under is gone) = (is-stop _, refl)
  under-so old new next (goes.asks under x course is says) =
      let step_is : word_step_under old ≡ Some under.step = ap (λ (u : Option Under). option_map (λ (v : Under). v.step) u) is in
      (under-said (word_step_under old) under.step step_is x (step-so true under.step under.course course x says), sym step_is)

  -- ---- The first step ahead ----

  data AheadSo (step : WordStep) (old new : Option WordStep) : Move → Type 0 where
    that-begins : (job : Asked) → IsDueOrder g.registers g.host step job → LacksNone g.registers g.host step → new ≡ Some step →
        AheadSo step old new (move.Begins job (noted g.host step))
    that-passes : IsStepOver g.registers g.host (Some step) → new ≡ Some step → AheadSo step old new (move.Passes (noted g.host step))
    that-reads : (job : Asked) → is_reading_job job ≡ true → new ≡ old → AheadSo step old new (move.Job job)
    that-stops : (why : StepEnd) → new ≡ old → AheadSo step old new (move.Stops why)

  ahead-said : (step : WordStep) (old : Stairs) (course : FrameCourse) (x : Said) →
      SaysSo false step.output (due_now g.registers (limits_at g step.output) g.host step) x →
      AheadSo step (word_step_under old) (word_step_under (goes.stairs_ahead_after old step course (begins_now x)))
      (ahead_move (noted g.host step) x)
  ahead-said step old course (said.Orders cell word) (an-order cell' word' order due same lacks) =
      that-begins (Order cell word) (due-order step cell word order due same) (limits_at g step.output, lacks refl) refl
  ahead-said step old course (said.Reads job) (a-read job' read) = that-reads job read refl
  ahead-said step old course (said.Looks cell) so = that-reads (Check cell) refl refl
  ahead-said step old course said.Over (an-over done) = that-passes (limits_at g step.output, done) refl
  ahead-said step old course (said.Stops why) so = that-stops why refl

  asks-so : (step : WordStep) (course : FrameCourse) (old new : Stairs) (next : Move) → AsksAhead g step course old next new →
      AheadSo step (word_step_under old) (word_step_under new) next
  asks-so step course old new next (goes.absent gone) = that-stops _ refl
  asks-so step course old new next (goes.asks x after says) =
      ahead-said step old after x (step-so false step course after x says)

  ahead-means : (ahead : Option Step) (old between new : Option WordStep) (step : WordStep) (next : Move) →
      IsStepOver g.registers g.host old → between ≡ old → IsFirst ahead step → AheadSo step between new next →
      Means g.registers g.host ahead old new next
  ahead-means ahead old between new step next done same of (that-begins job due lacks is) = means.begins job step done of due lacks is
  ahead-means ahead old between new step next done same of (that-passes over is) = means.passes step done of over is
  ahead-means ahead old between new step next done same of (that-reads job read is) = means.reads job read (is ∙ same)
  ahead-means ahead old between new step next done same of (that-stops why is) = means.stops why (is ∙ same)

  under-means : (ahead : Option Step) (old new : Option WordStep) (next : Move) → UnderSo old (Some next) → new ≡ old →
      Means g.registers g.host ahead old new next
  under-means ahead old new next (is-read job read) is = means.reads job read is
  under-means ahead old new next (is-order job step was due) is = means.orders job step was due is
  under-means ahead old new next (is-stop why) is = means.stops why is

  done-of : (old : Option WordStep) → UnderSo old None → IsStepOver g.registers g.host old
  done-of old (is-free done) = done

  first-so : (tries : ℕ) (ahead : Option Step) (step : Step) (old : Option WordStep) (between new : Stairs) (next : Move) →
      GoesAhead g tries step between next new → ahead ≡ Some step → IsStepOver g.registers g.host old → word_step_under between ≡ old →
      Means g.registers g.host ahead old (word_step_under new) next
  first-so tries ahead step old between new next (goes.unformed refusal none) is done same = means.stops _ same
  first-so tries ahead step old between new next (goes.asks words next' new' has says) is done same =
      ahead-means ahead old (word_step_under between) (word_step_under new) (step_with step words) next done same
      (step, (is, (words, refl)))
      (asks-so (step_with step words) (goes.coming_course between step tries) between new next says)

  means-so : (tries : ℕ) (ahead : Option Step) (old new : Stairs) (next : Move) → Goes g tries ahead old next new →
      Means g.registers g.host ahead (word_step_under old) (word_step_under new) next
  means-so tries ahead old new next (goes.restarted was) = means.stops _ refl
  means-so tries ahead old new next (goes.under next' new' on says) =
      let so = under-so old new (Some next) says in
      under-means ahead (word_step_under old) (word_step_under new) next so.0 so.1
  means-so tries ahead old new next (goes.first step next' between new' on over is says) =
      let so = under-so old between None over in
      first-so tries ahead step (word_step_under old) between new next says is (done-of (word_step_under old) so.0) so.1
  means-so tries ahead old new next (goes.all new' on over none) =
      let so = under-so old new None over in
      means.reached (done-of (word_step_under old) so.0) none so.1

pub moves-are-due : CellsAreToldApart → MovesAreDue
moves-are-due apart = λ g tries ahead old new next says. means-so apart g tries ahead old new next says

-- What a caller of the stairs carries out.

-- ---- What is due, in a life ----

-- the answer of a plan that has an order, and of one that has none left
plan-some : (answer : Result (Option PlanOrder) PlanFault) (order : PlanOrder) → plan_order answer ≡ Some order → answer ≡ Ok (Some order)
plan-some (Ok o) order is = ap (λ (x : Option PlanOrder). Ok x) is
plan-some (Err fault) order is = cc

-- a byte's order is due while the host is idle
byte-order : (busy : Bool) (byte : ℕ) (order : PlanOrder) → rule (not busy) (record { register = Operation; word = byte }) ≡ Some order →
    (busy ≡ false) × ((order.register ≡ Operation) × (order.word ≡ byte))
byte-order true byte order is = cc
byte-order false byte order is =
    let same : ◌≡◌ {A = PlanOrder} (record { register = Operation; word = byte }) order = cc in
    (refl, (sym (ap (λ (o : PlanOrder). o.register) same), sym (ap (λ (o : PlanOrder). o.word) same)))

byte-over : (busy : Bool) (known : Option ℕ) (byte : ℕ) → (not busy && option_map_or (λ word. same_command byte word) known false) ≡ true →
    (busy ≡ false) × ((word : ℕ) × (known ≡ Some word) × (same_command byte word ≡ true))
byte-over true known byte is = cc
byte-over false None byte is = cc
byte-over false (Some word) byte is = (refl, (word, refl, is))

-- a word that is known is the only one that is possible
accepted-word : (accepts : Bool) (word byte : ℕ) → rule accepts word ≡ Some byte → ◌≡◌ {A = Option ℕ} (Some word) (Some byte)
accepted-word true word byte is = is
accepted-word false word byte is = cc

sole-of-known : (cell : Cell) (only : Option ℕ) (byte : ℕ) → option_and_then (λ word. rule (cell_accepts cell word) word) only ≡ Some byte →
    only ≡ Some byte
sole-of-known cell None byte is = cc
sole-of-known cell (Some word) byte is = accepted-word (cell_accepts cell word) word byte is

known-some : (known : Option ℕ) (cell : Cell) → rule (is_none known) cell ≡ None → known ≡ Some (unwrap_or known 0)
known-some None cell is = cc
known-some (Some word) cell is = refl

module _ (config : Config) (passes : ℕ) (part : PartRegisters) (events : List Event) where
  abbrev s : Summary
  s = (now config passes events).host

  next-order : (limits : OutputLimits) (output : ℕ) (a : WordAct) (order : PlanOrder) →
      (step_due_of part limits s output a).order ≡ Some order → IsNextOrder config passes part output (deed_of a) events order.register order.word
  next-order limits output (word.Sets words) order is = (limits, plan-some (plan_of part s limits output (wants_of words)) order is)
  next-order limits output (word.Turns byte) order is = (byte-order (is_busy s) byte order is).1
  next-order limits output word.Nothing order is = cc

  may-order : (step : WordStep) (job : Asked) → IsDueOrder part s step job →
      MayNext config passes part step.output (deed_of step.act) events (accepted_job s job)
  may-order step job due = subst (λ (j : Asked). MayNext config passes part step.output (deed_of step.act) events (accepted_job s j))
      (sym due.is_job) (refl, next-order due.limits step.output step.act due.order due.due)

  may-read : (job : Asked) → is_reading_job job ≡ true → MayRest (accepted_job s job)
  may-read (Check cell) is = tt
  may-read (Learn output) is = tt
  may-read (Order cell word) is = cc
  may-read (OrderMicro cell x) is = cc
  may-read (Send command) is = cc

  over-act : (limits : OutputLimits) (output : ℕ) (a : WordAct) → (step_due_of part limits s output a).over ≡ true →
      IsOver config passes part output (deed_of a) events
  over-act limits output (word.Sets words) is = (limits, last-none (plan_of part s limits output (wants_of words)) is)
  over-act limits output (word.Turns byte) is =
      byte-over (is_busy s) (known_word (Out output Operation) (possible_at s (Out output Operation))) byte is
  over-act limits output word.Nothing is = not-true (is_busy s) is

  -- the plan of a step that begins has an answer, and OPERATION is known; where nothing is ordered the host is idle
  IsAnswered : OutputLimits → ℕ → WordAct → Type 0
  IsAnswered limits output (word.Sets words) = (order : Option PlanOrder) × (plan_of part s limits output (wants_of words) ≡ Ok order)
  IsAnswered limits output (word.Turns byte) = (is_busy s ≡ false)
      × (sole (possible_at s (Out output Operation)) ≡ Some (unwrap_or (sole (possible_at s (Out output Operation))) 0))
  IsAnswered limits output word.Nothing = is_busy s ≡ false

  answered-order : (limits lacking : OutputLimits) (output : ℕ) (a : WordAct) (order : PlanOrder) →
      (step_due_of part limits s output a).order ≡ Some order → (step_due_of part lacking s output a).lacks ≡ None →
      IsAnswered limits output a
  unfolding IsAnswered
  answered-order limits lacking output (word.Sets words) order is lacks =
      (Some order, plan-some (plan_of part s limits output (wants_of words)) order is)
  answered-order limits lacking output (word.Turns byte) order is lacks = (
    (byte-order (is_busy s) byte order is).0,
    known-some (sole (possible_at s (Out output Operation))) (Out output Operation) lacks,
  )
  answered-order limits lacking output word.Nothing order is lacks = cc

  answered-over : (limits : OutputLimits) (output : ℕ) (a : WordAct) → (step_due_of part limits s output a).over ≡ true →
      IsAnswered limits output a
  unfolding IsAnswered
  answered-over limits output (word.Sets words) is = (None, last-none (plan_of part s limits output (wants_of words)) is)
  answered-over limits output (word.Turns byte) is =
      let over = byte-over (is_busy s) (known_word (Out output Operation) (possible_at s (Out output Operation))) byte is in
      let one = sole-of-known (Out output Operation) (sole (possible_at s (Out output Operation))) over.1.0 over.1.1 in
      (over.0, one ∙ ap (λ (o : Option ℕ). Some (unwrap_or o 0)) (sym one))
  answered-over limits output word.Nothing is = not-true (is_busy s) is

  answered-idle : (limits : OutputLimits) (output : ℕ) (a : WordAct) → IsAnswered limits output a → is_busy s ≡ false
  unfolding IsAnswered
  answered-idle limits output (word.Sets words) is = (is-planned part s limits output (wants_of words) is.0 is.1).idle
  answered-idle limits output (word.Turns byte) is = is.0
  answered-idle limits output word.Nothing is = is

  -- ---- What is noted ----

  word-back : (output : ℕ) (register : Reg) (old : ℕ) (wanted : Option ℕ) →
      ((word : ℕ) → wanted ≡ Some word → known_word (Out output register) (possible_at s (Out output register)) ≡ Some old) →
      back_word s output register wanted ≡ option_map (λ (word : ℕ). old) wanted
  word-back output register old None known = refl
  word-back output register old (Some word) known = known word refl

  noted-back : (before : List Event) (done : List RailStep) (limits : OutputLimits) (output : ℕ) (a : WordAct) →
      IsAnswered limits output a → IsKnownFrom config passes part before done output (deed_of a) events →
      counted_deed (deed_of (act_back s output a)) ≡ undoing_deed (stair_of (stair_start_of config passes before) done output) (deed_of a)
  unfolding IsAnswered
  noted-back before done limits output (word.Sets words) is known = ap (λ (w : Wants). Sets w) (fun_ext each) where
    old : Held
    old = stair_of (stair_start_of config passes before) done output

    one : (register : Reg) → back_word s output register (wants_of words register)
        ≡ option_map (λ (word : ℕ). stair_of (stair_start_of config passes before) done output register) (wants_of words register)
    one register = word-back output register (stair_of (stair_start_of config passes before) done output register) (wants_of words register)
        (λ word wanted. known limits is.0 register word is.1 wanted)

    each : (register : Reg) → wants_of (record {
      command = back_word s output VoutCommand words.command;
      max = back_word s output VoutMax words.max;
      margin_high = back_word s output MarginHigh words.margin_high;
      margin_low = back_word s output MarginLow words.margin_low;
      min = back_word s output VoutMin words.min;
    }) register ≡ option_map (λ (word : ℕ). stair_of (stair_start_of config passes before) done output register) (wants_of words register)
    each Operation = refl
    each VoutCommand = one VoutCommand
    each VoutMax = one VoutMax
    each MarginHigh = one MarginHigh
    each MarginLow = one MarginLow
    each VoutMin = one VoutMin
  noted-back before done limits output (word.Turns byte) is known = ap (λ (w : ℕ). Turns w)
      (known (unwrap_or (sole (possible_at s (Out output Operation))) 0) is.1)
  noted-back before done limits output word.Nothing is known = refl

-- ---- Events ----

asks-steady : (event : Event) (job : Asked) → asked_by event ≡ Some job → restarts_converter event ≡ false
asks-steady RestartDevice job e = cc
asks-steady event job e = refl

-- what is asked for is the job
asked-is : (config : Config) (passes : ℕ) (events : List Event) (event : Event) (job : Asked) → asked_by event ≡ Some job →
    asked (now config passes events) event ≡ accepted_job (now config passes events).host job
asked-is config passes events event job by =
    ap (λ (o : Option Asked). option_and_then (accepted_job (now config passes events).host) o) by

-- what orders nothing may be asked for in each step
rest-next : (config : Config) (passes : ℕ) (part : PartRegisters) (output : ℕ) (deed : Deed) (events : List Event) (o : Option host.Job) →
    MayRest o → MayNext config passes part output deed events o
rest-next config passes part output deed events (Some (host.Order (Out other register) word)) may = absurd may
rest-next config passes part output deed events (Some (host.Order Protect word)) may = tt
rest-next config passes part output deed events (Some (host.Send RestoreUserAll)) may = may
rest-next config passes part output deed events o may = tt

step-doing : ℕ → Deed → RailStep
step-doing output deed = record { output = output; deed = deed }

-- the newest step that has begun, and the one under way, are one
newest : List WordStep → Option WordStep
newest [] = None
newest (step ∷ begun) = Some step

module _ (lives : EventsAreLived) (follow : StairsAreFollowed) (due : MovesAreDue) (config : Config) (passes : ℕ) (part : PartRegisters)
    (steps : List Step) (before : List Event) where
  abbrev host_at : List Event → Summary
  host_at events = (now config passes events).host

  -- what holds at a moment
  record Holds (begun backs : List WordStep) (ahead : List Step) (stairs : Stairs) (events : List Event) : Type 0 where
    is_stairs : IsStairs config passes part before (rail_steps begun) events
    noted_are : IsSpelled config → IsLived config passes events → AreSound config passes part before (rail_steps begun) →
        AreBacks (stair_start_of config passes before) (rail_steps begun) (rail_steps backs)
    under_is : word_step_under stairs ≡ newest begun
    in_order : AreOf begun ahead steps

  means-at : (g : Guarded) (tries : ℕ) (ahead : Option Step) (old new : Stairs) (next : Move) (events : List Event) →
      IsGuardAt config passes part events g → Goes g tries ahead old next new →
      Means part (host_at events) ahead (word_step_under old) (word_step_under new) next
  means-at g tries ahead old new next events at goes =
      subst (λ (p : PartRegisters). Means p (host_at events) ahead (word_step_under old) (word_step_under new) next) at.registers
      (subst (λ (x : Summary). Means g.registers x ahead (word_step_under old) (word_step_under new) next) at.host
      (due g tries ahead old new next goes))

  -- one more event leaves what was noted
  still : (begun backs : List WordStep) (ahead : List Step) (stairs new : Stairs) (events : List Event) (event : Event) →
      Holds begun backs ahead stairs events → IsStairs config passes part before (rail_steps begun) (event ∷ events) →
      word_step_under new ≡ word_step_under stairs → Holds begun backs ahead new (event ∷ events)
  still begun backs ahead stairs new events event was on same = record {
    is_stairs = on;
    noted_are = λ spelled lived sound. was.noted_are spelled (lives.earlier config passes (event ∷ []) events lived) sound;
    under_is = same ∙ was.under_is;
    in_order = was.in_order;
  }

  rest-more : (events : List Event) (event : Event) (begun : List WordStep) →
      IsStairs config passes part before (rail_steps begun) events → restarts_converter event ≡ false →
      MayRest (asked (now config passes events) event) → IsStairs config passes part before (rail_steps begun) (event ∷ events)
  rest-more events event [] was steady may = follow.rest config passes part before events event was steady may
  rest-more events event (step ∷ done) was steady may =
      follow.more config passes part before events event (rail_step step) (rail_steps done) was steady
      (rest-next config passes part step.output (deed_of step.act) events (asked (now config passes events) event) may)

  order-more : (events : List Event) (event : Event) (job : Asked) (step : WordStep) (done : List WordStep) →
      IsStairs config passes part before (rail_steps (step ∷ done)) events → asked_by event ≡ Some job →
      IsDueOrder part (host_at events) step job → IsStairs config passes part before (rail_steps (step ∷ done)) (event ∷ events)
  order-more events event job step done was by is =
      follow.more config passes part before events event (rail_step step) (rail_steps done) was (asks-steady event job by)
      (subst (λ (o : Option host.Job). MayNext config passes part step.output (deed_of step.act) events o)
      (sym (asked-is config passes events event job by)) (may-order config passes part events step job is))

  -- an order that is due in the step under way, where one is
  under-more : (events : List Event) (event : Event) (job : Asked) (begun : List WordStep) (step : WordStep) → newest begun ≡ Some step →
      IsStairs config passes part before (rail_steps begun) events → asked_by event ≡ Some job →
      IsDueOrder part (host_at events) step job → IsStairs config passes part before (rail_steps begun) (event ∷ events)
  unfolding newest
  under-more events event job [] step is was by order = cc
  under-more events event job (at ∷ done) step is was by order =
      let same : at ≡ step = cc in
      order-more events event job at done was by
      (subst (λ (x : WordStep). IsDueOrder part (host_at events) x job) (sym same) order)

  job-more : (begun backs : List WordStep) (ahead : List Step) (stairs new : Stairs) (events : List Event) (event : Event) (job : Asked) →
      Holds begun backs ahead stairs events → asked_by event ≡ Some job →
      Means part (host_at events) (first_step_ahead ahead) (word_step_under stairs) (word_step_under new) (move.Job job) →
      Holds begun backs ahead new (event ∷ events)
  job-more begun backs ahead stairs new events event job was by (means.reads job' read same) =
      still begun backs ahead stairs new events event was
      (rest-more events event begun was.is_stairs (asks-steady event job by)
      (subst (λ (o : Option host.Job). MayRest o) (sym (asked-is config passes events event job by))
      (may-read config passes part events job read))) same
  job-more begun backs ahead stairs new events event job was by (means.orders job' step under order same) =
      still begun backs ahead stairs new events event was
      (under-more events event job begun step (sym was.under_is ∙ under) was.is_stairs by order) same

  -- the steps that have begun are over, where the one under way is done
  done-over : (begun : List WordStep) (events : List Event) → IsStepOver part (host_at events) (newest begun) → is_busy (host_at events) ≡ false →
      AreOver config passes part (rail_steps begun) events
  unfolding newest
  done-over [] events is idle = idle
  done-over (step ∷ begun) events is idle = over-act config passes part events is.0 step.output step.act is.1

  begin-more : (limits : OutputLimits) (begun backs : List WordStep) (ahead : List Step) (wishes : Step) (stairs new : Stairs)
      (events : List Event) (step : WordStep) →
      Holds begun backs (wishes ∷ ahead) stairs events → IsStepOver part (host_at events) (word_step_under stairs) →
      IsAnswered config passes part events limits step.output step.act → IsFirst (Some wishes) step → word_step_under new ≡ Some step →
      Holds (step ∷ begun) (noted (host_at events) step ∷ backs) ahead new events
  unfolding newest step-doing
  begin-more limits begun backs ahead wishes stairs new events step was done answered is_first under =
      let over = done-over begun events (subst (λ (o : Option WordStep). IsStepOver part (host_at events) o) was.under_is done)
      (answered-idle config passes part events limits step.output step.act answered) in
      record {
        is_stairs = follow.begin config passes part before events (rail_step step) (rail_steps begun) was.is_stairs over;
        noted_are = λ spelled lived sound. (
          ap (step-doing step.output) (noted-back config passes part events before (rail_steps begun) limits step.output step.act answered
              (follow.known config passes part before events (rail_step step) (rail_steps begun) spelled lived sound was.is_stairs over)),
          was.noted_are spelled lived sound.1,
        );
        under_is = under;
        in_order = (
          wishes,
          (subst (λ (x : Step). IsOf x step) (first-is wishes is_first.0 is_first.1.0) is_first.1.1, was.in_order),
        );
      }
    where
      first-is : (x y : Step) → ◌≡◌ {A = Option Step} (Some x) (Some y) → y ≡ x
      first-is x y e = cc

  -- the machine's step is the one that is said to begin
  one-step : (x y : WordStep) (o : Option WordStep) → o ≡ Some x → o ≡ Some y → x ≡ y
  one-step x y o p q = cc

  begins-so : (begun backs : List WordStep) (ahead : List Step) (wishes : Step) (stairs new : Stairs) (events : List Event) (step back : WordStep)
      (job : Asked) → Holds begun backs (wishes ∷ ahead) stairs events →
      Means part (host_at events) (Some wishes) (word_step_under stairs) (word_step_under new) (move.Begins job back) → word_step_under new
      ≡ Some step →
      Holds (step ∷ begun) (back ∷ backs) ahead new events × IsDueOrder part (host_at events) step job
  begins-so begun backs ahead wishes stairs new events step back job was (means.begins job' at done of order lacks is) under =
      subst (λ (x : WordStep). Holds (x ∷ begun) (noted (host_at events) at ∷ backs) ahead new events
      × IsDueOrder part (host_at events) x job) (one-step at step (word_step_under new) is under) (
        begin-more order.limits begun backs ahead wishes stairs new events at was done
            (answered-order config passes part events order.limits lacks.0 at.output at.act order.order order.due lacks.1) of is,
        order,
      )

  passes-so : (begun backs : List WordStep) (ahead : List Step) (wishes : Step) (stairs new : Stairs) (events : List Event) (step back : WordStep) →
      Holds begun backs (wishes ∷ ahead) stairs events →
      Means part (host_at events) (Some wishes) (word_step_under stairs) (word_step_under new) (move.Passes back) → word_step_under new
      ≡ Some step →
      Holds (step ∷ begun) (back ∷ backs) ahead new events
  passes-so begun backs ahead wishes stairs new events step back was (means.passes at done of over is) under =
      subst (λ (x : WordStep). Holds (x ∷ begun) (noted (host_at events) at ∷ backs) ahead new events)
      (one-step at step (word_step_under new) is under)
      (begin-more over.0 begun backs ahead wishes stairs new events at was done
      (answered-over config passes part events over.0 at.output at.act over.1) of is)

  holds : {begun backs : List WordStep} {ahead : List Step} {stairs : Stairs} {events : List Event} →
      IsClimb config passes part steps before begun backs ahead stairs events → Holds begun backs ahead stairs events
  unfolding newest
  holds (climb.starts idle) = record {
    is_stairs = follow.none config passes part before idle;
    noted_are = λ spelled lived sound. tt;
    under_is = refl;
    in_order = refl;
  }
  holds (climb.beside begun backs ahead stairs events event c steady may) =
      let was = holds c in
      still begun backs ahead stairs stairs events event was (rest-more events event begun was.is_stairs steady may) refl
  holds (climb.says g tries next begun backs ahead stairs new events c at goes same) =
      let was = holds c in
      record { is_stairs = was.is_stairs; noted_are = was.noted_are; under_is = same ∙ was.under_is; in_order = was.in_order }
  holds (climb.asks g tries job begun backs ahead stairs new events event c at goes by) =
      job-more begun backs ahead stairs new events event job (holds c) by
      (means-at g tries (first_step_ahead ahead) stairs new (move.Job job) events at goes)
  holds (climb.begins g tries job step back wishes begun backs ahead stairs new events event c at goes under by) =
      let so = begins-so begun backs ahead wishes stairs new events step back job (holds c)
      (means-at g tries (Some wishes) stairs new (move.Begins job back) events at goes) under in
      still (step ∷ begun) (back ∷ backs) ahead new new events event so.0
      (order-more events event job step begun so.0.is_stairs by so.1) refl
  holds (climb.passes_by g tries step back wishes begun backs ahead stairs new events c at goes under) =
      passes-so begun backs ahead wishes stairs new events step back (holds c)
      (means-at g tries (Some wishes) stairs new (move.Passes back) events at goes) under
  holds (climb.tells begun backs ahead stairs new events c same) =
      let was = holds c in
      record { is_stairs = was.is_stairs; noted_are = was.noted_are; under_is = same ∙ was.under_is; in_order = was.in_order }

  no-first : (ahead : List Step) → first_step_ahead ahead ≡ None → ahead ≡ []
  no-first [] e = refl
  no-first (step ∷ ahead) e = cc

  climb_reached-so : (step : WordStep) (begun backs : List WordStep) (ahead : List Step) (stairs : Stairs) (new : Option WordStep)
      (events : List Event) →
      Holds (step ∷ begun) backs ahead stairs events →
      Means part (host_at events) (first_step_ahead ahead) (word_step_under stairs) new move.Reached →
      (ahead ≡ []) × AreOver config passes part (rail_steps (step ∷ begun)) events
  unfolding newest
  climb_reached-so step begun backs ahead stairs new events was (means.reached done none same) =
      let is = subst (λ (o : Option WordStep). IsStepOver part (host_at events) o) was.under_is done in
      (no-first ahead none, over-act config passes part events is.0 step.output step.act is.1)

pub climbs-are-stairs : EventsAreLived → StairsAreFollowed → MovesAreDue → ClimbsAreStairs
climbs-are-stairs lives follow due = record {
  order = λ config passes part steps before begun backs ahead stairs events c.
      (holds lives follow due config passes part steps before c).in_order;
  stairs = λ config passes part steps before begun backs ahead stairs events c.
      (holds lives follow due config passes part steps before c).is_stairs;
  backs = λ config passes part steps before begun backs ahead stairs events spelled lived c sound.
      (holds lives follow due config passes part steps before c).noted_are spelled lived sound;
  reached = λ config passes part steps before step begun backs ahead stairs new events g tries c at goes.
      climb_reached-so lives follow due config passes part steps before step begun backs ahead stairs (word_step_under new) events
      (holds lives follow due config passes part steps before c)
      (means-at lives follow due config passes part steps before g tries (first_step_ahead ahead) stairs new move.Reached events at goes);
}

-- The way back of a caller of the stairs.

-- ---- Lists, one turned round before another ----

onto : {T : Type 0} → List T → List T → List T
onto [] ys = ys
onto (x ∷ xs) ys = onto xs (x ∷ ys)

onto-append : (xs ys : List RailStep) → onto xs ys ≡ onto xs [] ++ ys
unfolding onto
onto-append [] ys = refl
onto-append (x ∷ xs) ys = onto-append xs (x ∷ ys)
    ∙ sym (ap (λ (l : List RailStep). l ++ ys) (onto-append xs (x ∷ [])) ∙ append_assoc (onto xs []) (x ∷ []) ys)

onto-back : (xs ys zs : List RailStep) → onto (onto xs ys) zs ≡ onto ys (xs ++ zs)
unfolding onto
onto-back [] ys zs = refl
onto-back (x ∷ xs) ys zs = onto-back xs (x ∷ ys) zs

onto-map : (xs ys : List RailStep) → map counted_step (onto xs ys) ≡ onto (map counted_step xs) (map counted_step ys)
unfolding onto
onto-map [] ys = refl
onto-map (x ∷ xs) ys = onto-map xs (x ∷ ys)

map-none : (steps : List RailStep) → map counted_step steps ≡ [] → steps ≡ []
map-none [] e = refl
map-none (step ∷ steps) e = cc

-- ---- A list of backs, taken apart ----

record IsPath (start : Rails) (steps front rest : List RailStep) : Type 0 where
  newest : List RailStep
  left : List RailStep
  is : steps ≡ newest ++ left
  are : AreBacks start left rest
  down : (acc : List RailStep) → downs_of start newest left acc ≡ onto (map counted_step front) acc

path : (start : Rails) (steps front rest : List RailStep) → AreBacks start steps (front ++ rest) → IsPath start steps front rest
unfolding onto
path start steps [] rest are = record { newest = []; left = steps; is = refl; are = are; down = λ acc. refl }
path start [] (back ∷ front) rest are = absurd are
path start (step ∷ done) (back ∷ front) rest are =
    let p = path start done front rest are.1 in
    record {
      newest = step ∷ p.newest;
      left = p.left;
      is = ap (λ (l : List RailStep). step ∷ l) p.is;
      are = p.are;
      down = λ acc. p.down (back_step start (p.newest ++ p.left) step ∷ acc)
          ∙ ap (λ (b : RailStep). onto (map counted_step front) (b ∷ acc))
          (sym (are.0 ∙ ap (λ (l : List RailStep). back_step start l step) p.is));
    }

none-left : (start : Rails) (left : List RailStep) → AreBacks start left [] → left ≡ []
none-left start [] are = refl
none-left start (step ∷ done) are = absurd are

down-is : {start : Rails} {steps rest : List RailStep} (begun : List RailStep) (p : IsPath start steps (onto begun []) rest) →
    map counted_step begun ≡ downs_of start p.newest p.left []
unfolding onto
down-is begun p = sym (p.down [] ∙ ap (λ (l : List RailStep). onto l []) (onto-map begun [])
    ∙ onto-back (map counted_step begun) [] [] ∙ append-nil (map counted_step begun))

-- the steps down are some, where one has begun
downs-some : (start : Rails) (newest left : List RailStep) (down : RailStep) (downs : List RailStep) →
    downs_of start newest left (down ∷ downs) ≡ [] → ⊥
downs-some start [] left down downs e = cc
downs-some start (step ∷ newest) left down downs e =
    downs-some start newest left (back_step start (newest ++ left) step) (down ∷ downs) e

-- ---- The steps of a way back have words ----

has_words : Act → Bool
has_words (act.Sets wishes) = false
has_words (act.Words words) = true
has_words (act.Turns byte) = true
has_words act.Surveys = true
has_words act.Rests = true

all_words : List Step → Bool
all_words [] = true
all_words (step ∷ steps) = has_words step.act && all_words steps

act-deed : Act → Deed
act-deed (act.Sets wishes) = Turns 0
act-deed (act.Words words) = Sets (wants_of words)
act-deed (act.Turns byte) = Turns byte
act-deed act.Surveys = Nothing
act-deed act.Rests = Nothing

rail-of : Step → RailStep
rail-of step = record { output = step.output; deed = act-deed step.act }

rails-of : List Step → List RailStep
rails-of [] = []
rails-of (step ∷ steps) = rail-of step ∷ rails-of steps

words-with : (output : ℕ) (a : Act) (words : Wanted) → has_words a ≡ true →
    rail_step (step_with (record { output = output; act = a }) words) ≡ rail-of (record { output = output; act = a })
unfolding has_words rail-of act-deed
words-with output (act.Sets wishes) words h = cc
words-with output (act.Words wanted) words h = refl
words-with output (act.Turns byte) words h = refl
words-with output act.Surveys words h = refl
words-with output act.Rests words h = refl

-- a step of such wishes
words-of : (wishes : Step) (step : WordStep) → IsOf wishes step → has_words wishes.act ≡ true → rail_step step ≡ rail-of wishes
words-of wishes step of has = ap (λ (x : WordStep). rail_step x) of.1 ∙ words-with wishes.output wishes.act of.0 has

words-ahead : (begun : List WordStep) (ahead steps : List Step) → AreOf begun ahead steps → all_words steps ≡ true → all_words ahead ≡ true
unfolding all_words
words-ahead [] ahead steps are has = ap all_words are ∙ has
words-ahead (step ∷ begun) ahead steps are has =
    second-of (has_words are.0.act) (all_words ahead) (words-ahead begun (are.0 ∷ ahead) steps are.1.1 has)

all-onto : (begun : List WordStep) (ahead steps : List Step) → AreOf begun ahead steps → all_words steps ≡ true →
    onto (rail_steps begun) (rails-of ahead) ≡ rails-of steps
unfolding onto rails-of all_words
all-onto [] ahead steps are has = ap rails-of are
all-onto (step ∷ begun) ahead steps are has =
    ap (λ (r : RailStep). onto (rail_steps begun) (r ∷ rails-of ahead))
    (words-of are.0 step are.1.0 (first-of (has_words are.0.act) (all_words ahead) (words-ahead begun (are.0 ∷ ahead) steps are.1.1 has)))
    ∙ all-onto begun (are.0 ∷ ahead) steps are.1.1 has

has-words : (a : WordAct) → has_words (act_of_words a) ≡ true
unfolding has_words
has-words (word.Sets words) = refl
has-words (word.Turns byte) = refl
has-words word.Nothing = refl

back-words : (backs : List WordStep) → all_words (map step_of_words backs) ≡ true
unfolding all_words
back-words [] = refl
back-words (back ∷ backs) = ap (λ (b : Bool). b && all_words (map step_of_words backs)) (has-words back.act) ∙ back-words backs

back-deed : (a : WordAct) → act-deed (act_of_words a) ≡ deed_of a
unfolding act-deed
back-deed (word.Sets words) = refl
back-deed (word.Turns byte) = refl
back-deed word.Nothing = refl

-- a step of an output
abbrev doing : ℕ → Deed → RailStep
doing output deed = record { output = output; deed = deed }

back-rails : (backs : List WordStep) → rails-of (map step_of_words backs) ≡ rail_steps backs
unfolding rails-of rail-of
back-rails [] = refl
back-rails (back ∷ backs) =
    ap (λ (d : Deed). doing back.output d ∷ rails-of (map step_of_words backs)) (back-deed back.act)
    ∙ ap (λ (l : List RailStep). rail_step back ∷ l) (back-rails backs)

-- ---- The way ----

no-ahead : (ahead : List Step) → first_step_ahead ahead ≡ None → ahead ≡ []
no-ahead [] e = refl
no-ahead (step ∷ ahead) e = cc

means-none : {part : PartRegisters} {s : Summary} {ahead : Option Step} {old new : Option WordStep} → Means part s ahead old new Reached →
    ahead ≡ None
means-none (means.reached done none same) = none

module _ (climbs : ClimbsAreStairs) (config : Config) (passes : ℕ) (part : PartRegisters) (steps : List Step) (before : List Event)
    (begun backs : List WordStep) (ahead : List Step) (stairs : Stairs) (stop : List Event) (spelled : IsSpelled config)
    (stop_lived : IsLived config passes stop) (up : IsClimb config passes part steps before begun backs ahead stairs stop)
    (sound : AreSound config passes part before (rail_steps begun)) where
  abbrev start : Rails
  start = stair_start_of config passes before

  the-path : (downs ups : List WordStep) (left : List Step) (back : Stairs) (events : List Event) →
      IsClimb config passes part (map step_of_words backs) stop downs ups left back events →
      IsPath start (rail_steps begun) (onto (rail_steps downs) []) (rails-of left)
  the-path downs ups left back events down = path start (rail_steps begun) (onto (rail_steps downs) []) (rails-of left)
      (subst (λ (l : List RailStep). AreBacks start (rail_steps begun) l)
      (sym (back-rails backs)
      ∙ sym (all-onto downs left (map step_of_words backs)
      (climbs.order config passes part (map step_of_words backs) stop downs ups left back events down) (back-words backs))
      ∙ onto-append (rail_steps downs) (rails-of left))
      (climbs.backs config passes part steps before begun backs ahead stairs stop spelled stop_lived up sound))

  on-way : (downs ups : List WordStep) (left : List Step) (back : Stairs) (events : List Event) →
      IsClimb config passes part (map step_of_words backs) stop downs ups left back events → IsOnWayBack start (rail_steps begun) (rail_steps downs)
  on-way downs ups left back events down =
      let p = the-path downs ups left back events down in
      record { newest = p.newest; left = p.left; is = p.is; down = down-is (rail_steps downs) p }

  module _ (goes : StairsGoBack) (hold : StairsHoldInLives) (due : MovesAreDue) (ups : List WordStep) (back new : Stairs) (events : List Event)
      (lived : IsLived config passes events) (g : Guarded) (tries : ℕ) (at : IsGuardAt config passes part events g) where
    all-way : (downs : List WordStep) → IsClimb config passes part (map step_of_words backs) stop downs ups [] back events →
        map counted_step (rail_steps downs) ≡ downs_of start (rail_steps begun) [] []
    unfolding rails-of
    all-way downs down =
        let p = the-path downs ups [] back events down in
        let left : p.left ≡ [] = none-left start p.left p.are in
        down-is (rail_steps downs) p
        ∙ ap (λ (l : List RailStep). downs_of start p.newest l []) left
        ∙ ap (λ (l : List RailStep). downs_of start l [] [])
        (sym (p.is ∙ ap (λ (l : List RailStep). p.newest ++ l) left ∙ append-nil p.newest))

    -- all downs have begun, and the last is over, where one has begun
    ends : (downs : List WordStep) (left : List Step) →
        IsClimb config passes part (map step_of_words backs) stop downs ups left back events →
        Goes g tries (first_step_ahead left) back Reached new → (left ≡ []) →
        (rail_steps downs ≡ []) ⊎ AreOver config passes part (rail_steps downs) events
    ends [] left down reached none = inl refl
    ends (step ∷ downs) left down reached none =
        inr (climbs.reached config passes part (map step_of_words backs) stop step downs ups left back new events g tries down at reached).1

    come-back : (downs : List WordStep) → IsClimb config passes part (map step_of_words backs) stop downs ups [] back events →
        (rail_steps downs ≡ []) ⊎ AreOver config passes part (rail_steps downs) events →
        (output : ℕ) (register : Reg) → output < config.count →
        counts_at config passes events output register ≡ counts_at config passes before output register
    come-back downs down over = go (rail_steps begun) sound
        (climbs.stairs config passes part steps before begun backs ahead stairs stop up) (rail_steps downs)
        (climbs.stairs config passes part (map step_of_words backs) stop downs ups [] back events down) over (all-way downs down)
      where
        go : (done : List RailStep) → AreSound config passes part before done → IsStairs config passes part before done stop →
            (way : List RailStep) → IsStairs config passes part stop way events →
            (way ≡ []) ⊎ AreOver config passes part way events → map counted_step way ≡ downs_of start done [] [] →
            (output : ℕ) (register : Reg) → output < config.count →
            counts_at config passes events output register ≡ counts_at config passes before output register
        go [] sound' was way is ends' same output register here = ap (counting_word register)
            ((hold config passes events spelled lived).between part [] stop tt
            (subst (λ (l : List RailStep). IsStairs config passes part stop l events) (map-none way same) is) output register here
            ∙ (hold config passes stop spelled stop_lived).between part [] before tt was output register here)
        go (step ∷ newest) sound' was way is (inl none) same output register here =
            absurd (downs-some start newest [] (back_step start (newest ++ []) step) []
            (sym same ∙ ap (λ (l : List RailStep). map counted_step l) none))
        go (step ∷ newest) sound' was way is (inr over') same output register here =
            goes.back config passes part before stop events step newest way spelled lived sound' was same is over' output register here

    reached-back : (downs : List WordStep) (left : List Step) →
        IsClimb config passes part (map step_of_words backs) stop downs ups left back events →
        Goes g tries (first_step_ahead left) back Reached new → (output : ℕ) (register : Reg) → output < config.count →
        counts_at config passes events output register ≡ counts_at config passes before output register
    reached-back downs left down reached =
        let none : left ≡ [] = no-ahead left (means-none (due g tries (first_step_ahead left) back new Reached reached)) in
        come-back downs
        (subst (λ (l : List Step). IsClimb config passes part (map step_of_words backs) stop downs ups l back events) none down)
        (ends downs left down reached none)

pub climbs-come-back : ClimbsAreStairs → MovesAreDue → StairsGoBack → StairsHoldInLives → ClimbsComeBack
climbs-come-back climbs due goes hold = record {
  way = λ config passes part steps before begun backs ahead stairs stop downs ups left back events spelled lived up sound down.
      on-way climbs config passes part steps before begun backs ahead stairs stop spelled lived up sound downs ups left back events down;
  back = λ config passes part steps before begun backs ahead stairs stop downs ups left back new events g tries spelled stop_lived lived up
      sound down at reached.
      reached-back climbs config passes part steps before begun backs ahead stairs stop spelled stop_lived up sound
      goes hold due ups back new events lived g tries at downs left down reached;
}

-- The calls over frames are steps of a caller of the stairs.
