-- A course that hands out frames, by the jobs of its way, while nothing disturbs its frames.
use Rattle.std.proofs.Common.{◌≡◌, ◌⊎◌, inl, inr, ◌+◌, ℕ, Bool, true, false, not, List, [], ◌∷◌, ◌++◌, Option, Some, None, Result, Ok, Err, refl, ap, ap₂, sym, subst, ◌∙◌}
use Rattle.std.specs.Prelude.{◌&&◌, if◌then◌else◌}
use Rattle.std.proofs.lemmas.Bool.{eq-eqb}
use Rattle.pm_table.specs.declared.cell.Cell.{Cell}
use Rattle.pm_table.specs.declared.cell.Cell.TheVariants.{Out, Protect}
use Rattle.pm_table.specs.Cell.{cell_code, same_cell}
use Rattle.pm_table.specs.Protection.{is_allowed}
use Rattle.pm_table.specs.Laws.{CellsAreToldApart}
use Rattle.pm_frame.specs.Layout.{is_read_message}
use Rattle.pm_model.specs.Settings.{word_at}
use Rattle.pm_device.specs.declared.config.Config.{Config}
use Rattle.pm_host.specs.declared.job.Job.{Job as Asked}
use Rattle.pm_host.specs.declared.job.Job.TheVariants as job
use Rattle.pm_host.specs.declared.job.JobEnd.{JobEnd}
use Rattle.pm_host.specs.declared.job.JobEnd.TheVariants as over
use Rattle.pm_host.specs.declared.host.Step.{Step as HostStep}
use Rattle.pm_host.specs.declared.host.Step.TheVariants.{Next, Ended as JobEnded}
use Rattle.pm_host.specs.declared.question.Question.{Question}
use Rattle.pm_host.specs.declared.question.Question.TheVariants.{Word, Mode, Coefficients}
use Rattle.pm_host.specs.declared.stage.Stage.{Stage}
use Rattle.pm_host.specs.declared.stage.Stage.TheVariants.{Asks, Reads, Writes}
use Rattle.pm_host.specs.Lemmas.{cell_read_is_request, writes_cell}
use Rattle.pm_host.specs.Messages.{cell_read}
use Rattle.pm_host.specs.Now.{host_now}
use Rattle.pm_host.specs.Possible.{is_possible}
use Rattle.pm_host.specs.Question.{question_message}
use Rattle.pm_host.specs.Refusals.{is_busy}
use Rattle.pm_host.specs.Summary.{Summary, possible_at, sending_in, stage_message, step_of}
use Rattle.pm_host.specs.Transcript.{Entry, Finished, Got}
use Rattle.pm_limits.specs.declared.part_registers.PartRegisters.{PartRegisters}
use Rattle.pm_limits.specs.declared.output_limits.OutputLimits.{OutputLimits}
use Rattle.pm_limits.specs.Guard.{limits_at}
use Rattle.pm_rail.specs.declared.course.Course.{Course}
use Rattle.pm_rail.specs.declared.course.Differing.{Differing}
use Rattle.pm_rail.specs.declared.next.Next.{Next as Said}
use Rattle.pm_rail.specs.declared.next.Next.TheVariants as said
use Rattle.pm_rail.specs.declared.orders.PlanOrder.{PlanOrder}
use Rattle.pm_rail.specs.declared.wanted.Wanted.{Wanted}
use Rattle.pm_rail.specs.Course.{after_next, next_of, renewed, told_of}
use Rattle.pm_rail.specs.Lemmas.Says.{asks-so, named-so}
use Rattle.pm_course.specs.declared.course_end.CourseEnd.{CourseEnd}
use Rattle.pm_course.specs.declared.course_end.CourseNext.TheVariants.{Job}
use Rattle.pm_course.specs.declared.course_end.Refusal.{Refusal}
use Rattle.pm_course.specs.declared.frame_course.FrameCourse.{FrameCourse}
use Rattle.pm_course.specs.Ends.{busy_end}
use Rattle.pm_course.specs.FrameCourse.{Says, SaysNext, asked_for, course_ends as ends_with, last_end, missing_of, saying_by, saying_for, saying_missing, saying_next, saying_planned, saying_source, source_of}
use Rattle.pm_course.specs.Heard.{ended_by, forgetting, heard_by, is_job_of, mode_told, noting, stepped}
use Rattle.pm_course.specs.Surprise.{is_surprise, surprises}
use Rattle.pm_world.specs.declared.event.Arrival.TheVariants.{Whole}
use Rattle.pm_world.specs.declared.event.Back.TheVariants as back
use Rattle.pm_world.specs.declared.event.Event.{Event}
use Rattle.pm_world.specs.declared.event.Event.TheVariants as event
use Rattle.pm_world.specs.Honest.{IsSpelled}
use Rattle.pm_world.specs.Job.{asked_by}
use Rattle.pm_world.specs.Life.{now, state_of}
use Rattle.pm_world.specs.Lived.{IsLived}
use Rattle.pm_world.specs.State.{State, share_of}
use Rattle.pm_course_laws.specs.FrameLives.{IsFrameCourse, asks as frame-asks, begins as frame-begins, beside as frame-beside, goes_on, hears as frame-hears}
use Rattle.pm_course_laws.specs.Progress.{pair_at}
use Rattle.pm_course_laws.specs.Progress.{IsUndisturbed, asks, begins, reads, writes}
use Rattle.pm_course_laws.specs.Chains.{Did, HasLife, Pair, Step, is_surprised}
use Rattle.pm_course_laws.proofs.Jobs as jobs
use Rattle.pm_course_laws.proofs.Said as says
use Rattle.pm_course_laws.proofs.Said.{ended-course, is_learn, learn-calm, told-forgets, told-plan}

-- ---- What a course says ----

module _ (part : PartRegisters) (limits : OutputLimits) (s : Summary) (c : FrameCourse) where
  -- a course that says a job has no end
  abbrev IsFresh : Says → Type 0
  IsFresh x = (j : Asked) → x.next ≡ Job j → x.after.end ≡ None

  for-fresh : (after : Course) (named : Asked) (r : Result Asked Refusal) → IsFresh (saying_for c after named r)
  for-fresh after named (Err refusal) j is = cc
  for-fresh after named (Ok asked) j is = refl

  next-fresh : (after : Course) (n : Said) → IsFresh (saying_next s c after n)
  next-fresh after (said.Ended end) j is = cc
  next-fresh after (said.Job named) j is = for-fresh after named (asked_for s c.course c.course.byte named) j is

  planned-fresh : (r : Result Wanted Refusal) → IsFresh (saying_planned part limits s c r)
  planned-fresh (Err refusal) j is = cc
  planned-fresh (Ok words) j is =
      next-fresh (after_next part limits s (says.way_to part limits s c words))
      (next_of part limits s (says.way_to part limits s c words)) j is

  source-fresh : (r : Result Wanted Refusal) (o : Option ℕ) → IsFresh (saying_source part limits s c r o)
  source-fresh r (Some byte) j is = cc
  source-fresh r None j is = planned-fresh r j is

  missing-fresh : (r : Result Wanted Refusal) (m : Option Refusal) → IsFresh (saying_missing part limits s c r m)
  missing-fresh r (Some refusal) j is = cc
  missing-fresh r None j is = source-fresh r (source_of s c.course c.course.byte) j is

  idle-fresh : (r : Result Wanted Refusal) (b : Bool) → IsFresh
      (if b then ends_with c busy_end else saying_missing part limits s c r (missing_of part c))
  idle-fresh r true j is = cc
  idle-fresh r false j is = missing-fresh r (missing_of part c) j is

  by-fresh : (r : Result Wanted Refusal) (l : Option CourseEnd) → IsFresh (saying_by part limits s c r l)
  by-fresh r (Some end) j is = cc
  by-fresh r None j is = idle-fresh r (is_busy s) j is

  pub fresh-job : (is : FrameCourse) (job : Asked) → SaysNext part limits s c (Job job) is → is.end ≡ None
  fresh-job is job says' = ap (λ (f : FrameCourse). f.end) says'.after ∙ by-fresh says'.words (last_end c.end) job (sym says'.next)

-- which jobs a way names
pub data IsPlain : Asked → Type 0 where
  learn : (output : ℕ) → IsPlain (job.Learn output)
  check : (cell : Cell) → IsPlain (job.Check cell)
  order : (cell : Cell) (word : ℕ) → IsPlain (job.Order cell word)

pub plain-so : (part : PartRegisters) (limits : OutputLimits) (s : Summary) (x : Course) (j : Asked) →
    next_of part limits s x ≡ said.Job j → IsPlain j
plain-so part limits s x j is =
    let course = renewed part limits s x in
    (named-so IsPlain part limits s course
    (λ k asked. asks-so IsPlain part course.survey s (learn course.survey.output)
    (λ r has. check (Out course.survey.output r)) (check Protect) k asked)
    (λ (o : PlanOrder). order (Out course.survey.output o.register) o.word) j is).1

-- the host of a life keeps its setup
same-setup : (config : Config) (passes : ℕ) (one other : List Event) →
    (now config passes one).host.setup ≡ (now config passes other).host.setup
unfolding now state_of host_now
same-setup config passes one other = refl

good-mode : (addr : ℕ) (stage : Stage) (entry : Entry) (end : JobEnd) → (end ≡ over.Done) ⊎ (end ≡ over.Learned) →
    mode_told addr stage entry end ≡ None
good-mode addr stage entry end (inl is) = ap (λ (e : JobEnd). mode_told addr stage entry e) is
good-mode addr stage entry end (inr is) = ap (λ (e : JobEnd). mode_told addr stage entry e) is

ended-none : (n : FrameCourse) (mode : Option ℕ) (twice : Option Differing) → mode ≡ None → twice ≡ None →
    (ended_by n mode twice).end ≡ n.end
ended-none n None None e f = refl
ended-none n (Some mode) twice e f = cc
ended-none n None (Some differs) e f = cc

-- what it is then
record IsOver (c f : FrameCourse) (b : Bool) (end : JobEnd) : Type 0 where
  course-is : f.course ≡ told_of (if b then forgetting c.course else c.course) end
  end-is : f.end ≡ c.end

is-over : (c : FrameCourse) (addr : ℕ) (stage : Stage) (entry : Entry) (b : Bool) (end : JobEnd) →
    (end ≡ over.Done) ⊎ (end ≡ over.Learned) →
    (told_of (if b then forgetting c.course else c.course) end).twice ≡ None →
    IsOver c (stepped (noting c addr stage entry b) addr stage entry (JobEnded end)) b end
is-over c addr stage entry b end good once = record {
  course-is = ended-course (record (noting c addr stage entry b) { course = told_of (if b then forgetting c.course else c.course) end })
      (mode_told addr stage entry end) (told_of (if b then forgetting c.course else c.course) end).twice;
  end-is = ended-none (record (noting c addr stage entry b) { course = told_of (if b then forgetting c.course else c.course) end })
      (mode_told addr stage entry end) (told_of (if b then forgetting c.course else c.course) end).twice
      (good-mode addr stage entry end good) once;
}

-- some life led to a moment of one
pub lives-at : (part : PartRegisters) (limits : List OutputLimits) (config : Config) (passes : ℕ) (events : List Event) → IsSpelled config →
    IsLived config passes events → HasLife (pair_at part limits config passes events).guard.host
    (pair_at part limits config passes events).held
lives-at part limits config passes events spelled lived = record {
  config = config;
  passes = passes;
  events = events;
  spelled = spelled;
  life = record { lived = lived; host_is = refl; held_is = refl };
}

-- a job of a course that is named, and asked for
pub record Opened (Open : Course → List Event → Asked → ℕ → Type 0) (is : FrameCourse) (mid : List Event) (j : Asked) (n : ℕ) : Type 0 where
  pub way : Open is.course mid j n
  pub plain : IsPlain j
  pub asked : is.course.survey.asked ≡ Some j

-- a course that was told how its job ended
pub record Closed (Went : Course → List Event → ℕ → Type 0) (x : Course) (new : List Event) (n : ℕ) : Type 0 where
  pub went : Went x new n
  pub once : x.twice ≡ None

-- A course of frames by the jobs of its way: how the way stands while no job is open (`Went`), and while one is (`Open`).
module _ (jobs-laws : jobs.Given) (apart : CellsAreToldApart) (config : Config) (passes : ℕ) (part : PartRegisters)
    (limits : List OutputLimits) (before : List Event) (spelled : IsSpelled config) (begun : FrameCourse)
    (begun-fresh : last_end begun.end ≡ None) (Went : Course → List Event → ℕ → Type 0) (Open : Course → List Event → Asked → ℕ → Type 0)
    (first : Went begun.course [] 0)
    (opens : (c is : FrameCourse) (n : ℕ) (later : List Event) (j : Asked) →
    IsUndisturbed config passes part limits begun before c false n later →
    IsLived config passes (later ++ before) → Went c.course later n →
    SaysNext part (limits_at (pair_at part limits config passes (later ++ before)).guard c.course.survey.output)
    (now config passes (later ++ before)).host c (Job j) is → Opened Open is later j n)
    (allowed : (x : Course) (mid : List Event) (cell : Cell) (word n : ℕ) → Open x mid (job.Order cell word) n →
    is_allowed (word_at (pair_at part limits config passes (mid ++ before)).held.words Protect) (cell_code cell) ≡ true)
    (closes : (x : Course) (mid new : List Event) (j : Asked) (n : ℕ) (b : Bool) (end : JobEnd) → Open x mid j n → x.survey.asked ≡ Some j →
    (b ≡ true → is_surprised j (pair_at part limits config passes (mid ++ before)) ≡ true) →
    Step j end (pair_at part limits config passes (mid ++ before)) (pair_at part limits config passes (new ++ before)) →
    Closed Went (told_of (if b then forgetting x else x) end) new (n + 1)) where
  abbrev d : List Event → Pair
  d es = pair_at part limits config passes (es ++ before)

  abbrev at : List Event → State
  at es = now config passes (es ++ before)

  abbrev InJob : List Event → Asked → List Event → Type 0
  InJob mid j es = jobs.InJob jobs-laws config passes spelled (mid ++ before) j (es ++ before)

  -- how it stands
  pub data Stand : FrameCourse → Bool → ℕ → List Event → Type 0 where
    idle_now : (c : FrameCourse) (n : ℕ) (later : List Event) → Went c.course later n → last_end c.end ≡ None → Stand c false n later
    open_now : (c : FrameCourse) (m n : ℕ) (later mid : List Event) (j : Asked) → m + 1 ≡ n → Open c.course mid j m →
        c.course.survey.asked ≡ Some j → last_end c.end ≡ None → InJob mid j later → Stand c true n later

  -- ---- A job begins ----

  begun-job : (later : List Event) (j : Asked) (one : Event) → IsPlain j → asked_by one ≡ Some j →
      IsLived config passes (one ∷ later ++ before) →
      InJob later j (one ∷ later)
  begun-job later j one (check cell) is lived = go one is lived where
    go : (e : Event) → asked_by e ≡ Some (job.Check cell) → IsLived config passes (e ∷ later ++ before) →
        InJob later (job.Check cell) (e ∷ later)
    go (event.Check other) h l =
        let same : other ≡ cell = cc in
        subst (λ (k : Cell). InJob later (job.Check k) (event.Check other ∷ later)) same
        (jobs.begins-check jobs-laws config passes spelled (later ++ before) other l)
    go e h l = cc
  begun-job later j one (learn o) is lived = go one is lived where
    go : (e : Event) → asked_by e ≡ Some (job.Learn o) → IsLived config passes (e ∷ later ++ before) → InJob later (job.Learn o) (e ∷ later)
    go (event.Learn other) h l =
        let same : other ≡ o = cc in
        subst (λ (k : ℕ). InJob later (job.Learn k) (event.Learn other ∷ later)) same
        (jobs.begins-learn jobs-laws config passes spelled (later ++ before) other l)
    go e h l = cc
  begun-job later j one (order cell word) is lived = go one is lived where
    go : (e : Event) → asked_by e ≡ Some (job.Order cell word) → IsLived config passes (e ∷ later ++ before) →
        InJob later (job.Order cell word) (e ∷ later)
    go (event.Order other w) h l =
        let same : job.Order other w ≡ job.Order cell word = cc in
        subst (λ (k : Asked). InJob later k (event.Order other w ∷ later)) same
        (jobs.begins-order jobs-laws config passes spelled (later ++ before) other w l)
    go e h l = cc

  -- ---- A frame leaves the job open ----

  still-open : (c : FrameCourse) (f : FrameCourse) (m : ℕ) (later new mid : List Event) (j : Asked) → Open c.course mid j m →
      c.course.survey.asked ≡ Some j → last_end c.end ≡ None →
      f.course ≡ c.course → f.end ≡ c.end → InJob mid j new → Stand f true (m + 1) new
  still-open c f m later new mid j way asked' fresh course end injob =
      open_now f m (m + 1) new mid j refl (subst (λ (k : Course). Open k mid j m) (sym course) way)
      (ap (λ (k : Course). k.survey.asked) course ∙ asked') (ap last_end end ∙ fresh) injob

  heard-next : (c : FrameCourse) (addr : ℕ) (stage : Stage) (entry : Entry) (surprised mine : Bool) → surprised ≡ false →
      let f = if mine then stepped (noting c addr stage entry surprised) addr stage entry Next else c in
      (f.course ≡ c.course) × (f.end ≡ c.end)
  heard-next c addr stage entry true mine is = cc
  heard-next c addr stage entry false true is = (refl, refl)
  heard-next c addr stage entry false false is = (refl, refl)

  goes-open : (c : FrameCourse) (m : ℕ) (later new mid : List Event) (j : Asked) (stage : Stage) (entry : Entry) (h : Summary) →
      Open c.course mid j m → c.course.survey.asked ≡ Some j → last_end c.end ≡ None →
      step_of h entry ≡ Next → surprises h stage entry ≡ false → InJob mid j new →
      Stand (heard_by c h.setup.addr stage entry (surprises h stage entry) (step_of h entry)) (goes_on (step_of h entry)) (m + 1) new
  goes-open c m later new mid j stage entry h way asked' fresh step calm injob =
      let both = heard-next c h.setup.addr stage entry (surprises h stage entry) (is_job_of c.course.survey.asked stage) calm in
      subst (λ (t : HostStep). Stand (heard_by c h.setup.addr stage entry (surprises h stage entry) t) (goes_on t) (m + 1) new) (sym step)
      (still-open c (heard_by c h.setup.addr stage entry (surprises h stage entry) Next) m later new mid j way asked' fresh
      both.0 both.1 injob)

  -- ---- A job ends ----

  module _ (c : FrameCourse) (m : ℕ) (new mid : List Event) (j : Asked) (way : Open c.course mid j m)
      (asked' : c.course.survey.asked ≡ Some j)
      (fresh : last_end c.end ≡ None) (lived : IsLived config passes (new ++ before)) (stage : Stage) (entry : Entry) (addr : ℕ)
      (b : Bool) (surprised : b ≡ true → is_surprised j (d mid) ≡ true) (end : JobEnd) (good : (end ≡ over.Done) ⊎ (end ≡ over.Learned))
      (did : Did j end (d mid) (d new)) where
    step : Step j end (d mid) (d new)
    step = record {
      did = did;
      registers = refl;
      limits = refl;
      kept = same-setup config passes (new ++ before) (mid ++ before);
      lived = lives-at part limits config passes (new ++ before) spelled lived;
    }

    closed : Closed Went (told_of (if b then forgetting c.course else c.course) end) new (m + 1)
    closed = closes c.course mid new j m b end way asked' surprised step

    over-stands : (f : FrameCourse) → IsOver c f b end → Stand f false (m + 1) new
    over-stands f is = idle_now f (m + 1) new (subst (λ (y : Course). Went y new (m + 1)) (sym is.course-is) closed.went)
        (ap last_end is.end-is ∙ fresh)

    ended : is_job_of c.course.survey.asked stage ≡ true → Stand (heard_by c addr stage entry b (JobEnded end)) false (m + 1) new
    ended mine = subst (λ (k : Bool). Stand (if k then stepped (noting c addr stage entry b) addr stage entry
        (JobEnded end) else c) false (m + 1) new)
        (sym mine) (over-stands (stepped (noting c addr stage entry b) addr stage entry (JobEnded end))
        (is-over c addr stage entry b end good closed.once))

  -- ---- One frame ----

  same-itself : (cell : Cell) → same_cell cell cell ≡ true
  same-itself cell = (apart cell cell).1 refl

  one-stage : (h : Summary) (stage other : Stage) → h.stage ≡ Some stage → h.stage ≡ Some other → stage ≡ other
  one-stage h stage other is so = let same : Some stage ≡ Some other = sym is ∙ so in cc

  one-entry : (o : Option Entry) (entry other : Entry) → o ≡ Some entry → o ≡ Some other → entry ≡ other
  one-entry o entry other is so = let same : Some entry ≡ Some other = sym is ∙ so in cc

  read-message : (stage other : Stage) (b k : Bool) → stage ≡ other → is_read_message (stage_message stage) ≡ b →
      is_read_message (stage_message other) ≡ k → b ≡ k
  read-message stage other b k same is so = sym is ∙ (ap (λ (s : Stage). is_read_message (stage_message s)) same ∙ so)

  frame-on : (c : FrameCourse) (m : ℕ) (later new mid : List Event) (j : Asked) (stage : Stage) (entry : Entry) (h : Summary) →
      Open c.course mid j m → c.course.survey.asked ≡ Some j → last_end c.end ≡ None →
      IsLived config passes (new ++ before) → is_job_of (Some j) stage ≡ true →
      (surprises h stage entry ≡ true → is_surprised j (d mid) ≡ true) → (step_of h entry ≡ Next → surprises h stage entry ≡ false) →
      jobs.Frame jobs-laws config passes spelled (mid ++ before) j part limits h entry (new ++ before) →
      Stand (heard_by c h.setup.addr stage entry (surprises h stage entry) (step_of h entry)) (goes_on (step_of h entry)) (m + 1) new
  frame-on c m later new mid j stage entry h way asked' fresh lived mine sur calm (jobs.goes step injob) =
      goes-open c m later new mid j stage entry h way asked' fresh step (calm step) injob
  frame-on c m later new mid j stage entry h way asked' fresh lived mine sur calm (jobs.ends end step good did) =
      subst (λ (t : HostStep). Stand (heard_by c h.setup.addr stage entry (surprises h stage entry) t) (goes_on t) (m + 1) new) (sym step)
      (ended c m new mid j way asked' fresh lived stage entry h.setup.addr (surprises h stage entry) sur end good did
      (ap (λ (o : Option Asked). is_job_of o stage) asked' ∙ mine))

  -- the frame of a job that reads
  read-frame : (c : FrameCourse) (m : ℕ) (later mid : List Event) (j : Asked) (stage : Stage) (entry : Entry) → Open c.course mid j m →
      c.course.survey.asked ≡ Some j → last_end c.end ≡ None →
      IsLived config passes (event.Exchange Whole back.Whole ∷ later ++ before) → (at later).host.stage ≡ Some stage →
      is_read_message (stage_message stage) ≡ true →
      (share_of (at later) (event.Exchange Whole back.Whole)).told ≡ Some entry → InJob mid j later →
      Stand (heard_by c (at later).host.setup.addr stage entry (surprises (at later).host stage entry) (step_of (at later).host entry))
      (goes_on (step_of (at later).host entry)) (m + 1) (event.Exchange Whole back.Whole ∷ later)
  read-frame c m later mid j stage entry way asked' fresh lived open' kind told' (jobs.checking cell es host kept) =
      let h = (at later).host in
      let stage-is : stage ≡ Asks (Word cell) 0 = one-stage h stage (Asks (Word cell) 0) open' (ap (λ (s : Summary). s.stage) host) in
      let got = jobs.check-frame jobs-laws config passes spelled (mid ++ before) part limits cell (later ++ before) lived host kept in
      let answer = jobs.answer_at jobs-laws config passes spelled (later ++ before) (cell_read cell) in
      let entry-is : entry ≡ Got answer = one-entry (share_of (at later) (event.Exchange Whole back.Whole)).told entry (Got answer) told'
      (jobs.exchange-told jobs-laws config passes spelled (later ++ before) (cell_read cell) (ap sending_in host)) in
      let sur-is : surprises h (Asks (Word cell) 0) (Got answer) ≡ is_surprised (job.Check cell) (d mid) =
      ap (λ (o : Option ℕ). is_surprise h cell o) got.0
      ∙ ap (λ (s : Summary). not (is_possible (word_at (d mid).held.words cell) (possible_at s cell))) host in
      subst (λ (t : Stage). Stand (heard_by c h.setup.addr t entry (surprises h t entry) (step_of h entry))
      (goes_on (step_of h entry)) (m + 1)
      (event.Exchange Whole back.Whole ∷ later)) (sym stage-is)
      (subst (λ (e : Entry). Stand (heard_by c h.setup.addr (Asks (Word cell) 0) e (surprises h (Asks (Word cell) 0) e) (step_of h e))
      (goes_on (step_of h e)) (m + 1) (event.Exchange Whole back.Whole ∷ later)) (sym entry-is)
      (frame-on c m later (event.Exchange Whole back.Whole ∷ later) mid (job.Check cell) (Asks (Word cell) 0) (Got answer) h way asked'
      fresh lived (same-itself cell) (λ e. sym sur-is ∙ e) (λ e. let bad : JobEnded over.Done ≡ Next = sym got.1 ∙ e in cc) got.2))
  read-frame c m later mid j stage entry way asked' fresh lived open' kind told' (jobs.learning o q es own host kept) =
      let h = (at later).host in
      let stage-is : stage ≡ Asks q 0 = one-stage h stage (Asks q 0) open' (ap (λ (s : Summary). s.stage) host) in
      let answer = jobs.answer_at jobs-laws config passes spelled (later ++ before) (question_message q) in
      let entry-is : entry ≡ Got answer = one-entry (share_of (at later) (event.Exchange Whole back.Whole)).told entry (Got answer) told'
      (jobs.exchange-told jobs-laws config passes spelled (later ++ before) (question_message q) (ap sending_in host)) in
      let calm : surprises h (Asks q 0) (Got answer) ≡ false = learn-calm h o (Asks q 0) (Got answer) (mine q own) in
      subst (λ (t : Stage). Stand (heard_by c h.setup.addr t entry (surprises h t entry) (step_of h entry))
      (goes_on (step_of h entry)) (m + 1)
      (event.Exchange Whole back.Whole ∷ later)) (sym stage-is)
      (subst (λ (e : Entry). Stand (heard_by c h.setup.addr (Asks q 0) e (surprises h (Asks q 0) e) (step_of h e))
      (goes_on (step_of h e)) (m + 1) (event.Exchange Whole back.Whole ∷ later)) (sym entry-is)
      (frame-on c m later (event.Exchange Whole back.Whole ∷ later) mid (job.Learn o) (Asks q 0) (Got answer) h way asked'
      fresh lived (mine q own) (λ e. let bad : true ≡ false = sym e ∙ calm in cc) (λ e. calm)
      (jobs.learn-frame jobs-laws config passes spelled (mid ++ before) part limits o (later ++ before) lived kept q own host)))
    where
      mine : (k : Question) → jobs.IsOwn o k → is_job_of (Some (job.Learn o)) (Asks k 0) ≡ true
      mine (Word cell) is = elim is [ ]
      mine (Mode at') jobs.mode = eq-eqb o o refl
      mine (Coefficients at') jobs.coefficients = eq-eqb o o refl
  read-frame c m later mid j stage entry way asked' fresh lived open' kind told' (jobs.to_write cell word es host kept opened) =
      let bad = read-message stage (Writes cell word 0) true false
      (one-stage (at later).host stage (Writes cell word 0) open' (ap (λ (s : Summary). s.stage) host)) kind (writes_cell cell word) in cc
  read-frame c m later mid j stage entry way asked' fresh lived open' kind told' (jobs.to_read cell word es host has inside may) =
      let h = (at later).host in
      let stage-is : stage ≡ Reads cell word 0 = one-stage h stage (Reads cell word 0) open' (ap (λ (s : Summary). s.stage) host) in
      let allowed = allowed c.course mid cell word m way in
      let got = jobs.back-frame jobs-laws config passes spelled (mid ++ before) part limits cell word (later ++ before)
      allowed inside lived host has in
      let answer = jobs.answer_at jobs-laws config passes spelled (later ++ before) (cell_read cell) in
      let entry-is : entry ≡ Got answer = one-entry (share_of (at later) (event.Exchange Whole back.Whole)).told entry (Got answer) told'
      (jobs.exchange-told jobs-laws config passes spelled (later ++ before) (cell_read cell) (ap sending_in host)) in
      let calm : surprises h (Reads cell word 0) (Got answer) ≡ false =
      ap (λ (o : Option ℕ). is_surprise h cell o) got.0 ∙ ap not may in
      subst (λ (t : Stage). Stand (heard_by c h.setup.addr t entry (surprises h t entry) (step_of h entry))
      (goes_on (step_of h entry)) (m + 1)
      (event.Exchange Whole back.Whole ∷ later)) (sym stage-is)
      (subst (λ (e : Entry). Stand (heard_by c h.setup.addr (Reads cell word 0) e (surprises h (Reads cell word 0) e) (step_of h e))
      (goes_on (step_of h e)) (m + 1) (event.Exchange Whole back.Whole ∷ later)) (sym entry-is)
      (frame-on c m later (event.Exchange Whole back.Whole ∷ later) mid (job.Order cell word) (Reads cell word 0) (Got answer) h way asked'
      fresh lived (ap₂ (λ (a b : Bool). a && b) (same-itself cell) (eq-eqb word word refl))
      (λ e. let bad : true ≡ false = sym e ∙ calm in cc)
      (λ e. calm) got.2))

  -- the stage of a write that is being sent is the one before its delivery
  stage-now : (later : List Event) (stage : Stage) → IsLived config passes (event.Finish true ∷ event.Deliver Whole ∷ later ++ before) →
      (at (event.Deliver Whole ∷ later)).host.stage ≡ Some stage → (other : Stage) → (at later).host.stage ≡ Some other → stage ≡ other
  stage-now later stage lived open' other is = one-stage (at (event.Deliver Whole ∷ later)).host stage other open'
      (ap (λ (s : Summary). s.stage) (jobs.deliver-host jobs-laws config passes spelled (later ++ before)
      (jobs.earlier jobs-laws config passes spelled (event.Finish true) (event.Deliver Whole ∷ later ++ before) lived)).0 ∙ is)

  -- the frame of a job that writes
  write-frame : (c : FrameCourse) (m : ℕ) (later mid : List Event) (j : Asked) (stage : Stage) → Open c.course mid j m →
      c.course.survey.asked ≡ Some j → last_end c.end ≡ None →
      IsLived config passes (event.Finish true ∷ event.Deliver Whole ∷ later ++ before) →
      (at (event.Deliver Whole ∷ later)).host.stage ≡ Some stage → is_read_message (stage_message stage) ≡ false → InJob mid j later →
      let h = (at (event.Deliver Whole ∷ later)).host in
      Stand (heard_by c h.setup.addr stage (Finished true) (surprises h stage (Finished true)) (step_of h (Finished true)))
      (goes_on (step_of h (Finished true))) (m + 1) (event.Finish true ∷ event.Deliver Whole ∷ later)
  write-frame c m later mid j stage way asked' fresh lived open' kind (jobs.checking cell es host kept) =
      let bad = read-message stage (Asks (Word cell) 0) false true
      (stage-now later stage lived open' (Asks (Word cell) 0) (ap (λ (s : Summary). s.stage) host)) kind (cell_read_is_request cell) in cc
  write-frame c m later mid j stage way asked' fresh lived open' kind (jobs.learning o q es own host kept) =
      let bad = read-message stage (Asks q 0) false true (stage-now later stage lived open' (Asks q 0)
      (ap (λ (s : Summary). s.stage) host)) kind
      (jobs.reads-so jobs-laws config passes spelled (mid ++ before) part limits o q own) in cc
  write-frame c m later mid j stage way asked' fresh lived open' kind (jobs.to_read cell word es host has inside may) =
      let bad = read-message stage (Reads cell word 0) false true
      (stage-now later stage lived open' (Reads cell word 0) (ap (λ (s : Summary). s.stage) host)) kind (cell_read_is_request cell) in cc
  write-frame c m later mid j stage way asked' fresh lived open' kind (jobs.to_write cell word es host kept opened) =
      let got = jobs.write-frame jobs-laws config passes spelled (mid ++ before) part limits cell word
      (later ++ before) lived host kept opened in
      goes-open c m later (event.Finish true ∷ event.Deliver Whole ∷ later) mid (job.Order cell word) stage (Finished true)
      (at (event.Deliver Whole ∷ later)).host way asked' fresh got.0 refl got.1

  -- ---- All of it ----

  pub stand : (c : FrameCourse) (own : Bool) (n : ℕ) (later : List Event) →
      IsUndisturbed config passes part limits begun before c own n later →
      IsLived config passes (later ++ before) → Stand c own n later
  stand c own n later begins lived = idle_now begun 0 [] first begun-fresh
  stand c own n later (asks old is m earlier one j was says' asked') lived = by (stand old false m earlier was lived') where
    lived' : IsLived config passes (earlier ++ before)
    lived' = jobs.earlier jobs-laws config passes spelled one (earlier ++ before) lived

    by : Stand old false m earlier → Stand is true (m + 1) (one ∷ earlier)
    by (idle_now f k es went fresh) =
        let o = opens old is m earlier j was lived' went says' in
        open_now is m (m + 1) (one ∷ earlier) earlier j refl o.way o.asked
        (ap last_end (fresh-job part (limits_at (d earlier).guard old.course.survey.output) (at earlier).host old is j says'))
        (begun-job earlier j one o.plain asked' lived)
  stand c own n later (writes old m earlier stage was open' kind) lived = by (stand old true m earlier was lived') where
    lived' : IsLived config passes (earlier ++ before)
    lived' = jobs.earlier jobs-laws config passes spelled (event.Deliver Whole) (earlier ++ before)
        (jobs.earlier jobs-laws config passes spelled (event.Finish true) (event.Deliver Whole ∷ earlier ++ before) lived)

    by : Stand old true m earlier →
        Stand (heard_by old (at (event.Deliver Whole ∷ earlier)).host.setup.addr stage (Finished true)
        (surprises (at (event.Deliver Whole ∷ earlier)).host stage (Finished true))
        (step_of (at (event.Deliver Whole ∷ earlier)).host (Finished true)))
        (goes_on (step_of (at (event.Deliver Whole ∷ earlier)).host (Finished true))) m (event.Finish true ∷ event.Deliver Whole ∷ earlier)
    by (open_now f k all es mid j many way asked' fresh injob) =
        let h = (at (event.Deliver Whole ∷ earlier)).host in
        subst (λ (z : ℕ). Stand (heard_by old h.setup.addr stage (Finished true)
        (surprises h stage (Finished true)) (step_of h (Finished true)))
        (goes_on (step_of h (Finished true))) z (event.Finish true ∷ event.Deliver Whole ∷ earlier)) many
        (write-frame old k earlier mid j stage way asked' fresh lived open' kind injob)
  stand c own n later (reads old m earlier stage entry was open' kind told') lived = by (stand old true m earlier was lived') where
    lived' : IsLived config passes (earlier ++ before)
    lived' = jobs.earlier jobs-laws config passes spelled (event.Exchange Whole back.Whole) (earlier ++ before) lived

    by : Stand old true m earlier →
        Stand (heard_by old (at earlier).host.setup.addr stage entry (surprises (at earlier).host stage entry)
        (step_of (at earlier).host entry))
        (goes_on (step_of (at earlier).host entry)) m (event.Exchange Whole back.Whole ∷ earlier)
    by (open_now f k all es mid j many way asked' fresh injob) =
        let h = (at earlier).host in
        subst (λ (z : ℕ). Stand (heard_by old h.setup.addr stage entry (surprises h stage entry) (step_of h entry))
        (goes_on (step_of h entry)) z (event.Exchange Whole back.Whole ∷ earlier)) many
        (read-frame old k earlier mid j stage entry way asked' fresh lived open' kind told' injob)

  -- a job that is open has a frame to send
  pub busy-so : (mid es : List Event) (j : Asked) → InJob mid j es → is_busy (at es).host ≡ true
  busy-so mid es j (jobs.checking cell l host kept) = ap (λ (h : Summary). is_busy h) host
  busy-so mid es j (jobs.learning o q l own host kept) = ap (λ (h : Summary). is_busy h) host
  busy-so mid es j (jobs.to_write cell word l host kept opened) = ap (λ (h : Summary). is_busy h) host
  busy-so mid es j (jobs.to_read cell word l host has inside may) = ap (λ (h : Summary). is_busy h) host

-- it is a course of that life
pub as-frames : {config : Config} {passes : ℕ} {part : PartRegisters} {limits : List OutputLimits}
    {begun : FrameCourse} {before : List Event}
    {c : FrameCourse} {own : Bool} {n : ℕ} {later : List Event} → IsUndisturbed config passes part limits begun before c own n later →
    IsFrameCourse config passes part begun before c own later
as-frames begins = frame-begins
as-frames {config = config} {passes = passes} {part = part} {limits = limits} {before = before} (asks c is n later one j was says' asked') =
    frame-asks (limits_at (pair_at part limits config passes (later ++ before)).guard c.course.survey.output) c is false later
    one j (as-frames was) says' asked'
as-frames (writes c n later stage was open' kind) =
    frame-hears c (event.Deliver Whole ∷ later) (event.Finish true) stage (Finished true)
    (frame-beside c true later (event.Deliver Whole) (as-frames was) tt) refl open' refl
as-frames (reads c n later stage entry was open' kind told') =
    frame-hears c later (event.Exchange Whole back.Whole) stage entry (as-frames was) refl open' told'
