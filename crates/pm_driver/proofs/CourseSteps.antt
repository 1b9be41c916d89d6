-- A course that goes along with a driver, step by step, and what it says to do next.
use Rattle.std.specs.List.{list_any}
use Rattle.std.specs.Prelude.{if◌then◌else◌, ◌&&◌, IsSomeAnd}
use Rattle.std.proofs.lemmas.List.{append_assoc}
use Rattle.std.proofs.Common.{◌≡◌, ◌<◌, ℕ, Bool, true, false, Option, Some, None, Result, Ok, Err, refl, sym, ◌∙◌, ap, subst, ◌+◌, ◌||◌}
use Rattle.std.proofs.Common.{cond, arith, List, [], ◌∷◌, ◌++◌, is_some}
use Rattle.pm_table.specs.{Cell.register_code, Protection.is_allowed, declared.reg.Reg.TheVariants.Operation}
use Rattle.pm_table.specs.Operation.{has_on, selected_register}
use Rattle.pm_table.specs.declared.cell.Cell.TheVariants.{Out, Protect}
use Rattle.pm_device.specs.{Held.Held, declared.config.Config.Config}
use Rattle.pm_host.specs.{Jobs.accepted_job, Laws.TranscriptsAreFollowed, Transcript.Entry, declared.fault.Untold.Untold}
use Rattle.pm_host.specs.{declared.host.Step.Step, declared.job.Job.Job as Asked, declared.stage.Stage.Stage}
use Rattle.pm_host.specs.Refusals.{is_busy, may_come}
use Rattle.pm_host.specs.Summary.{Summary, host_next, step_of}
use Rattle.pm_host.specs.Transcript as host
use Rattle.pm_host.specs.declared.host.Step.TheVariants.{Next as StepNext, Ended as StepEnded}
use Rattle.pm_host.specs.declared.job.Job.TheVariants.{Check, Learn, Order, OrderMicro, Send}
use Rattle.pm_limits.specs.{FaultWords.limit_fault_number, declared.output_limits.OutputLimits.OutputLimits}
use Rattle.pm_limits.specs.{declared.part_registers.PartRegisters.PartRegisters}
use Rattle.pm_limits.specs.Guard.{Guarded, limits_at, LetsBegin}
use Rattle.pm_rail.specs.{Laws.CoursesEnd, Survey.has_read, declared.course.Course.Course, declared.course.Differing.Differing}
use Rattle.pm_rail.specs.{declared.fault.PlanFault.PlanFault, declared.fault.PlanFault.TheVariants.Protected, declared.next.Next.Next}
use Rattle.pm_rail.specs.{declared.orders.PlanOrder.PlanOrder, declared.wanted.Wanted.Wanted}
use Rattle.pm_rail.specs.Course.{after_next, next_of, ordering, renewed, says, told_of}
use Rattle.pm_rail.specs.Lemmas.Says.{Said, after-own, asks-due, asks-so, off-job, says_is_said, says-busy, says-differs, says-due}
use Rattle.pm_rail.specs.Lemmas.Says.{says-missing}
use Rattle.pm_rail.specs.Lemmas.Says.{says-off, says-order, taken, told-own}
use Rattle.pm_rail.specs.declared.next.Next.TheVariants as way
use Rattle.pm_course.specs.{Surprise.surprises, declared.course_end.CourseEnd.CourseEnd, declared.course_end.CourseNext.CourseNext}
use Rattle.pm_course.specs.{declared.course_end.Refusal.Refusal, declared.frame_course.FrameCourse.FrameCourse}
use Rattle.pm_course.specs.{declared.frames.Sending.Sending}
use Rattle.pm_course.specs.Ends.{busy_end, end_of, refusal_of_plan, refusal_of_job}
use Rattle.pm_course.specs.FrameCourse as course
use Rattle.pm_course.specs.FrameCourse.{Says, SaysNext, asked_for, asking_for, course_asks, course_ends, last_end, missing_of, planning}
use Rattle.pm_course.specs.FrameCourse.{protect_in}
use Rattle.pm_course.specs.FrameCourse.{saying, saying_by, saying_for, saying_missing, saying_next, saying_planned, saying_source}
use Rattle.pm_course.specs.FrameCourse.{source_of, turn, turning, with_plan}
use Rattle.pm_course.specs.Frames.{HandsOut, Hears, IsSent, SaysBy, again, begun, heard, nothing, other, over as has_ended}
use Rattle.pm_course.specs.Frames.{refused as is_refused}
use Rattle.pm_course.specs.Heard.{ended_by, forgetting, heard_by, is_job_of, mode_told, noting, stepped}
use Rattle.pm_course.specs.declared.course_end.CourseEnd.TheVariants.{OtherSource, Reached, Refused}
use Rattle.pm_course.specs.declared.course_end.CourseNext.TheVariants.{Job, Ended}
use Rattle.pm_world.specs.{Confirmed.restarts_converter, Job.asked_by, Life.now, State.share_of, Uncertainty.job_event}
use Rattle.pm_world.specs.{declared.event.Event.Event}
use Rattle.pm_world.specs.declared.event.Event.TheVariants.{Deliver, Reading, RestartDevice}
use Rattle.pm_course_laws.specs.FrameLives.{IsFrameCourse, asks as frame_lives_asks, beside, goes_on as still, hears}
use Rattle.pm_driver.specs.{Laws.LawsOfLives, Steps.IsCalled}
use Rattle.pm_driver.specs.Acts.{Began, Call, Called, MayDo, told_of_call as acts_told_of}
use Rattle.pm_driver.specs.Bus.{AreAll, restarts_in}
use Rattle.pm_driver.specs.Courses.{Carries, EndsAt, KeepsTo, over, refused}
use Rattle.pm_driver.specs.Lives.{Driven, IsLife, Leads}
use Rattle.pm_driver.proofs.Jobs.{still-busy, guard-begun, CallEvents, call-events, is_of_bus}
use Rattle.pm_driver.proofs.Lives.{begun-busy, job-events, jobs-lead, composed-events, leads-compose, leads-nothing, nothing-events}

-- What a course that hands out frames says to do next: which jobs, at the cost of a try, and its end.

-- a job is one that an event asks for as the host accepts it: an order of a word, a check or a learn
abbrev pub IsPlain : Asked → Type 0
IsPlain (Order cell word) = Unit {0}
IsPlain (Check cell) = Unit {0}
IsPlain (Learn output) = Unit {0}
IsPlain (OrderMicro cell x) = ⊥
IsPlain (Send command) = ⊥

-- the way names such a job
says-plain : (part : PartRegisters) (limits : OutputLimits) (s : Summary) (c : Course) (job : Asked) → says part limits s c ≡ way.Job job →
    IsPlain job
says-plain part limits s c job is = go (says part limits s c) (says_is_said part limits s c) is where
  by-order : (order : Result (Option PlanOrder) PlanFault) → ordering c order ≡ way.Job job → IsPlain job
  by-order (Err fault) e = cc
  by-order (Ok None) e = cc
  by-order (Ok (Some order)) e = subst IsPlain (taken c (Order (Out c.survey.output order.register) order.word) job e).1 tt

  go : (n : Next) → Said part limits s c n → n ≡ way.Job job → IsPlain job
  go n (says-busy busy) e = cc
  go n (says-differs d twice) e = cc
  go n (says-missing fault idle) e = cc
  go n (says-off byte idle is-byte) e = subst IsPlain (off-job c byte job e).1 tt
  go n (says-due due idle is-due) e =
      let one = taken c due job e in
      subst IsPlain one.1 (asks-so IsPlain part c.survey s tt (λ r has. tt) tt due (asks-due part c.survey s due one.0 is-due))
  go n (says-order order idle none is-order) e = by-order order e

next-plain : (part : PartRegisters) (limits : OutputLimits) (s : Summary) (c : Course) (job : Asked) → next_of part limits s c ≡ way.Job job →
    IsPlain job
next-plain part limits s c job is = says-plain part limits s (renewed part limits s c) job is

-- what is asked for in its place is one too
for-plain : (s : Summary) (c : Course) (byte : Option ℕ) (job j : Asked) → IsPlain job → asked_for s c byte job ≡ Ok j → IsPlain j
for-plain s c None job j plain e = let same : job ≡ j = cc in subst IsPlain same plain
for-plain s c (Some byte) job j plain e = go (has_on byte && course.is_turning s c job) e where
  by-turn : (read : Bool) → (if read then Order (Out c.survey.output Operation) byte else Check (Out c.survey.output (selected_register byte))) ≡ j →
      IsPlain j
  by-turn true same = subst IsPlain same tt
  by-turn false same = subst IsPlain same tt

  by-allowed : (b : Bool) → (if b then Ok (turn c byte) else Err (refusal_of_plan (Protected Operation))) ≡ Ok j → IsPlain j
  by-allowed true same = by-turn (has_read c.survey.read (selected_register byte)) (let one : turn c byte ≡ j = cc in one)
  by-allowed false same = cc

  by-protect : (protect : Option ℕ) → turning c byte protect ≡ Ok j → IsPlain j
  by-protect None same = let one : Check Protect ≡ j = cc in subst IsPlain one tt
  by-protect (Some word) same = by-allowed (is_allowed word (register_code Operation)) same

  go : (b : Bool) → (if b then turning c byte (protect_in s c) else Ok job) ≡ Ok j → IsPlain j
  go true same = by-protect (protect_in s c) same
  go false same = let one : job ≡ j = cc in subst IsPlain one plain

module _ (g : Guarded) (c : FrameCourse) where
  -- the part, the limits and the host by which it says what is next
  abbrev part : PartRegisters
  part = g.registers

  abbrev limits : OutputLimits
  limits = limits_at g c.course.survey.output

  abbrev s : Summary
  s = g.host

  -- the way by these words
  abbrev way_to : Wanted → Course
  way_to formed = with_plan c.course (planning c.course formed)

  -- what it says is an end, or a job in the place of the one that its way names
  saying-so : (P : Says → Type 0) → ((end : CourseEnd) → P (course_ends c end)) →
      ((formed : Wanted) (named job : Asked) → next_of part limits s (way_to formed) ≡ way.Job named →
      asked_for s c.course c.course.byte named ≡ Ok job →
      P (course_asks c (asking_for c.course (after_next part limits s (way_to formed)) named job) job)) →
      (words : Result Wanted Refusal) → P (saying part limits s c words)
  saying-so P e a words = by-last (last_end c.end) where
    by-asked : (formed : Wanted) (named : Asked) → next_of part limits s (way_to formed) ≡ way.Job named → (r : Result Asked Refusal) →
        asked_for s c.course c.course.byte named ≡ r → P (saying_for c (after_next part limits s (way_to formed)) named r)
    by-asked formed named is (Err refusal) ri = e (Refused refusal)
    by-asked formed named is (Ok job) ri = a formed named job is ri

    by-next : (formed : Wanted) (n : Next) → next_of part limits s (way_to formed) ≡ n →
        P (saying_next s c (after_next part limits s (way_to formed)) n)
    by-next formed (way.Ended end) is = e (end_of c.fault end)
    by-next formed (way.Job named) is = by-asked formed named is (asked_for s c.course c.course.byte named) refl

    by-words : (w : Result Wanted Refusal) → P (saying_planned part limits s c w)
    by-words (Err refusal) = e (Refused refusal)
    by-words (Ok formed) = by-next formed (next_of part limits s (way_to formed)) refl

    by-source : (o : Option ℕ) → P (saying_source part limits s c words o)
    by-source (Some byte) = e (OtherSource byte)
    by-source None = by-words words

    by-missing : (o : Option Refusal) → P (saying_missing part limits s c words o)
    by-missing (Some refusal) = e (Refused refusal)
    by-missing None = by-source (source_of s c.course c.course.byte)

    by-busy : (b : Bool) → P (if b then course_ends c busy_end else saying_missing part limits s c words (missing_of part c))
    by-busy true = e busy_end
    by-busy false = by-missing (missing_of part c)

    by-last : (o : Option CourseEnd) → P (saying_by part limits s c words o)
    by-last (Some end) = e end
    by-last None = by-busy (is_busy s)

  -- a job that it says takes a try of the same output's course
  pub record SaysJob (job : Asked) (is : FrameCourse) : Type 0 where
    pub plain : IsPlain job
    pub left : is.course.survey.left < c.course.survey.left
    pub output : is.course.survey.output ≡ c.course.survey.output
    pub fresh : is.end ≡ None

  pub says-job : CoursesEnd → (job : Asked) (is : FrameCourse) → SaysNext part limits s c (Job job) is → SaysJob job is
  says-job law job is says = subst (SaysJob job) (sym says.after)
      (saying-so (λ (x : Says). x.next ≡ Job job → SaysJob job x.after) (λ end e. cc) so says.words (sym says.next))
    where
      so : (formed : Wanted) (named j : Asked) → next_of part limits s (way_to formed) ≡ way.Job named →
          asked_for s c.course c.course.byte named ≡ Ok j → Job j ≡ Job job →
          SaysJob job (course_asks c (asking_for c.course (after_next part limits s (way_to formed)) named j) j).after
      so formed named j is-next is-asked e = record {
        plain = (let same : j ≡ job = cc in subst IsPlain same
            (for-plain s c.course c.course.byte named j (next-plain part limits s (way_to formed) named is-next) is-asked));
        left = law.takes part limits s (way_to formed) named is-next;
        output = after-own g (way_to formed);
        fresh = refl;
      }

  -- an end that it says is its end
  pub says-end : (end : CourseEnd) (is : FrameCourse) → SaysNext part limits s c (Ended end) is →
      (is.end ≡ Some end) × (is.course.survey.output ≡ c.course.survey.output)
  says-end end is says = subst (λ (x : FrameCourse). (x.end ≡ Some end) × (x.course.survey.output ≡ c.course.survey.output)) (sym says.after)
      (saying-so (λ (x : Says). x.next ≡ Ended end → (x.after.end ≡ Some end) × (x.after.course.survey.output ≡ c.course.survey.output))
      (λ other e. (let same : other ≡ end = cc in ap (λ (o : CourseEnd). Some o) same, refl)) (λ formed named j is-next is-asked e. cc) says.words (sym says.next))

-- what became of a frame leaves a course its tries and its output, and is no end that it has reached
pub record IsSameWay (c is : FrameCourse) : Type 0 where
  pub left : is.course.survey.left ≡ c.course.survey.left
  pub output : is.course.survey.output ≡ c.course.survey.output
  pub fresh : is.end ≡ Some Reached → c.end ≡ Some Reached

pub heard-same : CoursesEnd → (c : FrameCourse) (addr : ℕ) (stage : Stage) (entry : Entry) (surprised : Bool) (step : Step) →
    IsSameWay c (heard_by c addr stage entry surprised step)
heard-same law c addr stage entry surprised step = by-job (is_job_of c.course.survey.asked stage) where
  noted : FrameCourse
  noted = noting c addr stage entry surprised

  by-noted : (b : Bool) → IsSameWay c (record noted { course = if b then forgetting c.course else c.course })
  by-noted true = record { left = refl; output = refl; fresh = λ e. e }
  by-noted false = record { left = refl; output = refl; fresh = λ e. e }

  ends-same : (x : FrameCourse) (mode : Option ℕ) (twice : Option Differing) → IsSameWay c x → IsSameWay c (ended_by x mode twice)
  ends-same x (Some mode) twice same = record { left = same.left; output = same.output; fresh = λ e. cc }
  ends-same x None (Some differs) same = record { left = same.left; output = same.output; fresh = λ e. cc }
  ends-same x None None same = same

  by-step : (st : Step) → IsSameWay c (stepped noted addr stage entry st)
  by-step StepNext = by-noted surprised
  by-step (StepEnded end) =
      let same = by-noted surprised in
      ends-same (record noted { course = told_of noted.course end }) (mode_told addr stage entry end) (told_of noted.course end).twice (record {
        left = law.told noted.course end ∙ same.left;
        output = told-own noted.course end ∙ same.output;
        fresh = same.fresh;
      })

  by-job : (b : Bool) → IsSameWay c (if b then stepped noted addr stage entry step else c)
  by-job true = by-step step
  by-job false = record { left = refl; output = refl; fresh = λ e. e }

-- A course that goes along with a driver, step by step.

-- ---- where nothing happens, and step after step

pub carries-nothing : {B : Type 0} (gives : B → Call → B → Type 0) (held : B → Held) (restarts : B → ℕ) (part : PartRegisters)
    (c : FrameCourse) (own : Bool) (d : Driven B) → Carries gives held restarts part c own d c own d
carries-nothing gives held restarts part c own d = record {
  asked = [];
  leads = leads-nothing gives held restarts d;
  steps = λ config passes begun' later before life was.
      subst (λ (es : List Event). IsFrameCourse config passes part begun' before c own (es ++ later))
      (sym (nothing-events gives held restarts d)) was;
}

pub carries-on : {B : Type 0} (gives : B → Call → B → Type 0) (held : B → Held) (restarts : B → ℕ) (part : PartRegisters)
    (a b c : FrameCourse) (mine own last : Bool) (x y z : Driven B) → Carries gives held restarts part a mine x b own y →
    Carries gives held restarts part b own y c last z → Carries gives held restarts part a mine x c last z
carries-on gives held restarts part a b c mine own last x y z one two = record {
  asked = two.asked ++ one.asked;
  leads = leads-compose gives held restarts one.asked two.asked None None x y z one.leads two.leads;
  steps = λ config passes begun' later before life was.
      let first = one.leads.events in
      let second = two.leads.events in
      let lived = subst (λ (es : List Event). IsLife config passes es y.host (held y.bus)) (sym (append_assoc first later before))
      (one.leads.lives config passes (later ++ before) life).is_life in
      subst (λ (es : List Event). IsFrameCourse config passes part begun' before c last es)
      (sym (ap (λ (l : List Event). l ++ later) (composed-events gives held restarts one.asked two.asked None None x y z one.leads two.leads)
      ∙ append_assoc second first later))
      (two.steps config passes begun' (first ++ later) before lived (one.steps config passes begun' later before life was));
}

-- ---- a job that begins

-- an event asks for a plain job as it is accepted
plain-event : (s : Summary) (job : Asked) (accepted : host.Job) → IsPlain job → accepted_job s job ≡ Some accepted →
    asked_by (job_event accepted) ≡ Some job
plain-event s (Order cell word) accepted plain is =
    let same : host.Order cell word ≡ accepted = cc in subst (λ j. asked_by (job_event j) ≡ Some (Order cell word)) same refl
plain-event s (Check cell) accepted plain is =
    let same : host.Check cell ≡ accepted = cc in subst (λ j. asked_by (job_event j) ≡ Some (Check cell)) same refl
plain-event s (Learn output) accepted plain is =
    let same : host.Learn output ≡ accepted = cc in subst (λ j. asked_by (job_event j) ≡ Some (Learn output)) same refl
plain-event s (OrderMicro cell x) accepted plain is = absurd plain
plain-event s (Send command) accepted plain is = absurd plain

-- what it says by a guard's host is what it says by that of the life
said-lived : {config : Config} {passes : ℕ} {events : List Event} {held : Held} (g : Guarded) (c is : FrameCourse) (next : CourseNext) →
    IsLife config passes events g.host held → SaysBy g c next is →
    SaysNext g.registers (limits_at g c.course.survey.output) (now config passes events).host c next is
said-lived g c is next life says =
    subst (λ (s : Summary). SaysNext g.registers (limits_at g c.course.survey.output) s c next is) (sym life.host_is) says

begun-carries : LawsOfLives → CoursesEnd → {B : Type 0} (gives : B → Call → B → Type 0) (held : B → Held) (restarts : B → ℕ) (bus : B)
    (g new : Guarded) (c is : FrameCourse) (job : Asked) → SaysBy g c (Job job) is → LetsBegin g job (Ok tt) new →
    Carries gives held restarts g.registers c false (record { host = g.host; bus = bus }) is true (record { host = new.host; bus = bus })
begun-carries laws law gives held restarts bus g new c is job says begins = go (accepted_job g.host job) refl begins.ok where
  plain : IsPlain job
  plain = (says-job g c law job is says).plain

  go : (o : Option host.Job) → accepted_job g.host job ≡ o →
      IsSomeAnd o (λ accepted. new.host ≡ host_next g.host (host.Accepted accepted)) →
      Carries gives held restarts g.registers c false (record { host = g.host; bus = bus }) is true (record { host = new.host; bus = bus })
  go None e ok = absurd ok
  go (Some accepted) e ok =
      let free = (guard-begun g new job begins).free accepted e in
      subst (λ (s : Summary). Carries gives held restarts g.registers c false (record { host = g.host; bus = bus }) is true
      (record { host = s; bus = bus })) (sym ok) (record {
        asked = Began accepted ∷ [];
        leads = jobs-lead laws gives held restarts g.host bus accepted free;
        steps = λ config passes begun' later before life was.
            subst (λ (es : List Event). IsFrameCourse config passes g.registers begun' before is true (es ++ later))
            (sym (job-events laws gives held restarts g.host bus accepted free))
            (frame_lives_asks (limits_at g c.course.survey.output) c is false later (job_event accepted) job was
            (said-lived g c is (Job job) life says) (plain-event g.host job accepted plain e));
      })

-- What a call that hands out a frame comes to, while no job is open: a job of the course is open then, or the course has ended.
pub record HandedOver {B : Type 0} (gives : B → Call → B → Type 0) (held : B → Held) (restarts : B → ℕ) (bus : B) (g : Guarded)
    (c : FrameCourse) (sent : Option Sending) (new : Guarded) (is : FrameCourse) : Type 0 where
  pub carries : is_busy new.host ≡ true → Carries gives held restarts g.registers c false (record { host = g.host; bus = bus }) is true
      (record { host = new.host; bus = bus })
  pub sends : is_some sent ≡ is_busy new.host
  pub ends : is_busy new.host ≡ false → (new ≡ g) × ((end : CourseEnd) × (is.end ≡ Some end) × EndsAt g c end is)
  pub left : is_busy new.host ≡ true → is.course.survey.left < c.course.survey.left
  pub fresh : is_busy new.host ≡ true → is.end ≡ None
  pub output : is.course.survey.output ≡ c.course.survey.output
  pub limits : new.limits ≡ g.limits
  pub registers : new.registers ≡ g.registers
  pub kept : new.host.setup ≡ g.host.setup

-- a guard that sends has a job open
sent-busy : (g : Guarded) (sent : Option Sending) → IsSent g sent → is_some sent ≡ is_busy g.host
sent-busy g sent is = go g.host.stage sent is where
  go : (stage : Option Stage) (o : Option Sending) → IsSent (record g { host = record g.host { stage = stage } }) o → is_some o ≡ is_some stage
  go None o e = ap is_some e
  go (Some stage) None e = absurd e
  go (Some stage) (Some sending) e = refl

pub hands-over : LawsOfLives → CoursesEnd → {B : Type 0} (gives : B → Call → B → Type 0) (held : B → Held) (restarts : B → ℕ) (bus : B)
    (g new : Guarded) (c is : FrameCourse) (sent : Option Sending) → is_busy g.host ≡ false → HandsOut g c sent new is →
    HandedOver gives held restarts bus g c sent new is
hands-over laws law gives held restarts bus g new c is sent idle (again stage sent' stands mine sends) =
    let busy : is_busy g.host ≡ true = ap is_some stands in cc
hands-over laws law gives held restarts bus g new c is sent idle (begun job sent' new' is' says begins sends) =
    let busy : is_busy new'.host ≡ true = begun-busy g.host new'.host job begins.ok in
    let said = says-job g c law job is' says in
    record {
      carries = λ b. begun-carries laws law gives held restarts bus g new' c is' job says begins;
      sends = sent-busy new' sent' sends;
      ends = λ none. cc;
      left = λ b. said.left;
      fresh = λ b. said.fresh;
      output = said.output;
      limits = begins.limits;
      registers = begins.registers;
      kept = begins.kept;
    }
hands-over laws law gives held restarts bus g new c is sent idle (has_ended end is' says) =
    let said = says-end g c end is' says in
    record {
      carries = λ b. cc;
      sends = sym idle;
      ends = λ none. (refl, (end, said.0, over says));
      left = λ b. cc;
      fresh = λ b. cc;
      output = said.1;
      limits = refl;
      registers = refl;
      kept = refl;
    }
hands-over laws law gives held restarts bus g new c is sent idle (is_refused job fault is' says refuses) = record {
  carries = λ b. cc;
  sends = sym idle;
  ends = λ none. (refl, (Refused (refusal_of_job (limit_fault_number fault) job), refl, refused job fault is' says refuses refl refl));
  left = λ b. cc;
  fresh = λ b. cc;
  output = refl;
  limits = refl;
  registers = refl;
  kept = refl;
}

-- a course goes on once a job of it was carried out
pub carries-job : {B : Type 0} (gives : B → Call → B → Type 0) (held : B → Held) (restarts : B → ℕ) (bus : B) (part : PartRegisters)
    (g new : Guarded) (a c is last : FrameCourse) (sent : Option Sending) (x z : Driven B) → is_busy new.host ≡ true →
    Carries gives held restarts part a false x c false (record { host = g.host; bus = bus }) →
    HandedOver gives held restarts bus g c sent new is → g.registers ≡ part →
    Carries gives held restarts new.registers is true (record { host = new.host; bus = bus }) last false z →
    Carries gives held restarts part a false x last false z
carries-job gives held restarts bus part g new a c is last sent x z busy so_far handed same job =
    let middle : Driven _ = record { host = new.host; bus = bus } in
    carries-on gives held restarts part a is last false true false x middle z
    (carries-on gives held restarts part a c is false false true x (record { host = g.host; bus = bus }) middle so_far
    (subst (λ (p : PartRegisters). Carries gives held restarts p c false (record { host = g.host; bus = bus }) is true middle) same
    (handed.carries busy)))
    (subst (λ (p : PartRegisters). Carries gives held restarts p is true middle last false z) (handed.registers ∙ same) job)

-- ---- a frame of the open job

-- what the converter hears, and what happens beside the bus, leaves a course as it is
beside-all : {config : Config} {passes : ℕ} {part : PartRegisters} {begun' : FrameCourse} {before : List Event} (c : FrameCourse)
    (later older : List Event) → AreAll is_of_bus older → IsFrameCourse config passes part begun' before c true later →
    IsFrameCourse config passes part begun' before c true (older ++ later)
beside-all c later [] all was = was
beside-all c later (RestartDevice ∷ older) all was =
    beside c true (older ++ later) RestartDevice (beside-all c later older all.1 was) tt
beside-all c later (Reading output code word ∷ older) all was =
    beside c true (older ++ later) (Reading output code word) (beside-all c later older all.1 was) tt
beside-all c later (Deliver arrival ∷ older) all was =
    beside c true (older ++ later) (Deliver arrival) (beside-all c later older all.1 was) tt
beside-all c later (event ∷ older) all was = let is = all.0 in cc

-- it and its host were told of the frame that the host was sending
pub record HeardSo (g : Guarded) (c : FrameCourse) (entry : host.Entry) (new : Guarded) (is : FrameCourse) : Type 0 where
  pub stage : Stage
  pub open_at : g.host.stage ≡ Some stage
  pub next : new.host ≡ host_next g.host entry
  pub limits : new.limits ≡ g.limits
  pub registers : new.registers ≡ g.registers
  pub heard : is ≡ heard_by c g.host.setup.addr stage entry (surprises g.host stage entry) (step_of g.host entry)

pub heard-so : (g new : Guarded) (c : FrameCourse) (entry : host.Entry) (is : FrameCourse) (result : Result (Unit {0}) Untold) → is_busy g.host ≡ true →
    may_come g.host entry ≡ true → Hears g c entry result new is → HeardSo g c entry new is
heard-so g new c entry is result busy may (heard stage new' open_at comes next limits registers) = record {
  stage = stage;
  open_at = open_at;
  next = next;
  limits = limits;
  registers = registers;
  heard = refl;
}
heard-so g new c entry is result busy may (nothing none) = let idle : is_busy g.host ≡ false = ap is_some none in cc
heard-so g new c entry is result busy may (other stage open_at not_so) = cc

-- a call of that frame is a step of the course
pub call-carries : LawsOfLives → {B : Type 0} (gives : B → Call → B → Type 0) (held : B → Held) (restarts : B → ℕ) (call : Call)
    (g new : Guarded) (c is : FrameCourse) (old after : B) → is_busy g.host ≡ true → MayDo g.host (Called call) →
    IsCalled call (held old) (restarts old) (held after) (restarts after) → gives old call after → HeardSo g c (acts_told_of call) new is →
    Carries gives held restarts g.registers c true (record { host = g.host; bus = old }) is (is_busy new.host)
    (record { host = new.host; bus = after })
call-carries laws gives held restarts call g new c is old after busy may called so heard' =
    subst (λ (x : FrameCourse). Carries gives held restarts g.registers c true (record { host = g.host; bus = old }) x (is_busy new.host)
    (record { host = new.host; bus = after })) (sym heard'.heard)
    (subst (λ (s : Summary). Carries gives held restarts g.registers c true (record { host = g.host; bus = old }) told_is (is_busy s)
    (record { host = s; bus = after })) (sym heard'.next) (record { asked = []; leads = leads; steps = steps }))
  where
    e : CallEvents call g.host (held old) (restarts old) (held after) (restarts after)
    e = call-events laws call g.host (held old) (restarts old) (held after) (restarts after) may called

    told_is : FrameCourse
    told_is = heard_by c g.host.setup.addr heard'.stage (acts_told_of call) (surprises g.host heard'.stage (acts_told_of call))
        (step_of g.host (acts_told_of call))

    leads : Leads gives held restarts [] None (record { host = g.host; bus = old })
        (record { host = host_next g.host (acts_told_of call); bus = after })
    leads = record {
      acts = Called call ∷ [];
      events = e.newest ∷ e.older;
      asks = refl;
      calls = (old, refl, so);
      may = (may, tt);
      host = refl;
      newest = tt;
      count = e.count;
      orders = e.orders;
      lives = λ config passes before life.
          let goes = e.goes config passes before life in
          record { is_life = goes.is_life; told = goes.told; ended = tt };
    }

    steps : (config : Config) (passes : ℕ) (begun' : FrameCourse) (later before : List Event) →
        IsLife config passes (later ++ before) g.host (held old) →
        IsFrameCourse config passes g.registers begun' before c true later →
        IsFrameCourse config passes g.registers begun' before told_is (is_busy (host_next g.host (acts_told_of call)))
        ((e.newest ∷ e.older) ++ later)
    steps config passes begun' later before life was =
        let told = subst (λ (es : List Event). ((now config passes es).host ≡ g.host)
        × ((share_of (now config passes es) e.newest).told ≡ Some (acts_told_of call)))
        (sym (append_assoc e.older later before)) (e.told config passes (later ++ before) life) in
        let s = (now config passes ((e.older ++ later) ++ before)).host in
        subst (λ (own : Bool). IsFrameCourse config passes g.registers begun' before told_is own (e.newest ∷ (e.older ++ later)))
        (still-busy g.host call busy)
        (subst (λ (x : Summary). IsFrameCourse config passes g.registers begun' before
        (heard_by c x.setup.addr heard'.stage (acts_told_of call) (surprises x heard'.stage (acts_told_of call))
        (step_of x (acts_told_of call)))
        (still (step_of x (acts_told_of call))) (e.newest ∷ (e.older ++ later))) told.0
        (hears c (e.older ++ later) e.newest heard'.stage (acts_told_of call) (beside-all c later e.older e.of_bus was) e.alone
        (ap (λ (x : Summary). x.stage) told.0 ∙ heard'.open_at) told.1))

-- what stays then
pub told-keeps : TranscriptsAreFollowed → CoursesEnd → (g new : Guarded) (c is : FrameCourse) (entry : host.Entry) → HeardSo g c entry new is →
    KeepsTo g c new is
told-keeps followed law g new c is entry heard' =
    let same = heard-same law c g.host.setup.addr heard'.stage entry (surprises g.host heard'.stage entry) (step_of g.host entry) in
    record {
      left = ap (λ (x : FrameCourse). x.course.survey.left) heard'.heard ∙ same.left;
      output = ap (λ (x : FrameCourse). x.course.survey.output) heard'.heard ∙ same.output;
      fresh = λ ended. same.fresh (sym (ap (λ (x : FrameCourse). x.end) heard'.heard) ∙ ended);
      limits = heard'.limits;
      registers = heard'.registers;
      kept = ap (λ (s : Summary). s.setup) heard'.next ∙ followed.kept g.host entry;
    }

pub keeps-on : (g h i : Guarded) (a b c : FrameCourse) → KeepsTo g a h b → KeepsTo h b i c → KeepsTo g a i c
keeps-on g h i a b c one two = record {
  left = two.left ∙ one.left;
  output = two.output ∙ one.output;
  fresh = λ ended. one.fresh (two.fresh ended);
  limits = two.limits ∙ one.limits;
  registers = two.registers ∙ one.registers;
  kept = two.kept ∙ one.kept;
}

-- ---- restarts

-- no event restarted the converter, if a count stayed
pub none-restarts : (events : List Event) (was is : ℕ) → restarts_in events + was ≡ is → is ≡ was → list_any restarts_converter events ≡ false
none-restarts events was is rose same = go events (let none : restarts_in events ≡ 0 = omega arith in none) where
  one : (b : Bool) (n : ℕ) → cond b 1 0 + n ≡ 0 → (b ≡ false) × (n ≡ 0)
  one true n e = let no : ⊥ = omega arith in absurd no
  one false n e = (refl, omega arith)

  go : (es : List Event) → restarts_in es ≡ 0 → list_any restarts_converter es ≡ false
  go [] e = refl
  go (event ∷ es) e =
      let both = one (restarts_converter event) (restarts_in es) e in
      ap (λ (b : Bool). b || list_any restarts_converter es) both.0 ∙ go es both.1
