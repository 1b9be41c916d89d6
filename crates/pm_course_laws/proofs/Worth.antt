-- What a course is worth over a life, by what it is to do, and all that holds of courses.
use Rattle.std.specs.Prelude.{if◌then◌else◌, is_some, option_and_then, ◌&&◌, IsSomeAnd, not, option_map}
use Rattle.std.proofs.lemmas.Bool.{or_parts}
use Rattle.std.proofs.Common.{◌≡◌, ℕ, ◌<◌, Bool, false, List, ◌++◌, Option, Some, None, refl, ap, subst, ◌∙◌, Ok, Result, [], inl, inr, sym}
use Rattle.std.proofs.Common.{true, ◌∷◌, ◌⊎◌, Err}
use Rattle.pm_num.specs.AnyFormat.{Shape}
use Rattle.pm_table.specs.{Cell.register_code, Protection.is_allowed, declared.reg.Reg.TheVariants.Operation}
use Rattle.pm_table.specs.Operation.{has_on, selected_register}
use Rattle.pm_table.specs.Rules.{first, rule}
use Rattle.pm_table.specs.declared.cell.Cell.TheVariants.{Out, Protect}
use Rattle.pm_device.specs.{Held.shape_for, declared.config.Config.Config}
use Rattle.pm_host.specs.{Jobs.accepted_job, declared.fault.HostFault.HostFault, declared.job.Job.Job as Asked}
use Rattle.pm_host.specs.Refusals.{cell_fault, micro_word}
use Rattle.pm_host.specs.Summary.{Summary, format_at}
use Rattle.pm_host.specs.Transcript as host
use Rattle.pm_host.specs.declared.job.Job.TheVariants.{Check, Learn, Order, OrderMicro, Send}
use Rattle.pm_limits.specs.{Part.has_register, declared.fault.LimitFault.TheVariants.MissingRegister}
use Rattle.pm_limits.specs.{declared.output_limits.OutputLimits.OutputLimits, declared.output_limits.OutputLimits.TheVariants.Unlimited}
use Rattle.pm_limits.specs.{declared.part_registers.PartRegisters.PartRegisters}
use Rattle.pm_limits.specs.Guard.{Guarded, guard_fault, limits_at, LetsBegin, of_host}
use Rattle.pm_rail.specs.{declared.course.Course.Course, declared.fault.PlanFault.TheVariants.Protected, declared.next.Next.Next as Said}
use Rattle.pm_rail.specs.{declared.wanted.Wanted.Wanted}
use Rattle.pm_rail.specs.Course.{next_of, power_course_of, course_of, is_order, renewed, after_next, naming}
use Rattle.pm_rail.specs.Lemmas.Says.{asks-so, named-so, renewed-so}
use Rattle.pm_rail.specs.Survey.{wanted_in, has_read}
use Rattle.pm_rail.specs.declared.apply_end.ApplyEnd.TheVariants as way
use Rattle.pm_rail.specs.declared.next.Next.TheVariants as said
use Rattle.pm_course.specs.{Ends.refusal_of_plan, declared.course_end.CourseEnd.TheVariants.Reached}
use Rattle.pm_course.specs.{declared.course_end.CourseNext.CourseNext, declared.course_end.Refusal.Refusal}
use Rattle.pm_course.specs.{declared.frame_course.FrameCourse.FrameCourse, declared.voltages.Voltages.Voltages}
use Rattle.pm_course.specs.FrameCourse.{SaysNext, asked_for, last_end, planning, to_byte, with_plan, format_now, going_on, to_survey}
use Rattle.pm_course.specs.FrameCourse.{asking_for, is_turning, protect_in, turn, turning}
use Rattle.pm_course.specs.Wishes.{AreFormed, meant_faults, AreMeant, missing_in}
use Rattle.pm_course.specs.declared.course_end.CourseNext.TheVariants.{Job, Ended}
use Rattle.pm_world.specs.{Ended.begins_other, Honest.IsSpelled, Job.asked_by, Lemmas.Hosts.same-outputs, Life.now, Lived.IsLived}
use Rattle.pm_world.specs.{declared.event.Event.Event}
use Rattle.pm_world.specs.Courses.{Begins, IsCourse, KeepsPower, AsksNoOrder, IsBeside, IsNoOrder, IsElse, asking_else, asks_else, protects}
use Rattle.pm_world.specs.Courses.{selects, tells_else, turns, KeepsCourses}
use Rattle.pm_world.specs.State.{State, asked}
use Rattle.pm_course_laws.specs.FrameWays.{FrameCoursesGoTheirWay}
use Rattle.pm_course_laws.specs.FrameLives.{BeginsFrames, KeepsFrameCoursesOff, IsFrameCourse, OrdersNothing, asks, begins, beside, hears}
use Rattle.pm_course_laws.specs.FrameLives.{over, refused, ChecksHad, IsHad, KeepsFrameCoursesOn, MaySay, KeepsFrameCourses, Means}
use Rattle.pm_course_laws.specs.FrameLives.{FrameCoursesHoldInLives}
use Rattle.pm_course_laws.proofs.Said as says
use Rattle.pm_course_laws.proofs.Said.{Given, names-known, own-plan, none-missing, sound-one, words-one, names-learn}

-- What a course that turns the output off is worth over a life.

module _ (laws : Given) (config : Config) (passes : ℕ) (part : PartRegisters) (output byte tries : ℕ) (before : List Event)
    (spelled : IsSpelled config) (here : output < config.count) (off : has_on byte ≡ false) where
  abbrev begun : FrameCourse
  begun = to_byte output byte tries

  abbrev at : List Event → Summary
  at es = (now config passes (es ++ before)).host

  abbrev Same : FrameCourse → Type 0
  Same c = says.Same laws.followed laws.lives config passes part begun before None c

  plain : (s : Summary) (c : FrameCourse) → Same c → says.IsPlain part Unlimited s c
  plain s c same = λ j. ap (λ (b : Option ℕ). asked_for s c.course b j) same.byte ∙ rw off refl

  planned : (c : FrameCourse) (formed : Wanted) → Same c → planning c.course formed ≡ None
  planned c formed same = ap (λ (p : Option Wanted). if is_some p then Some formed else None) same.plan'

  own-way : (c : FrameCourse) → Same c → with_plan c.course None ≡ c.course
  own-way c same = own-plan c.course None same.plan'

  names : (limits : OutputLimits) (c is : FrameCourse) (later : List Event) (job : Asked) → Same c →
      IsLived config passes (later ++ before) → SaysNext part limits (at later) c (Job job) is →
      says.Names laws.followed laws.lives config passes part begun before None limits c is later job
  names limits c is later job same lived said' = by (says.named part limits (at later) c (plain (at later) c same) job is said') where
    by : says.NamedBy part limits (at later) c said'.words job is →
        says.Names laws.followed laws.lives config passes part begun before None limits c is later job
    by n = names-known laws config passes part begun before None limits c is later job n.formed (planned c n.formed same) same n.named

  reached : (limits : OutputLimits) (c is : FrameCourse) (later : List Event) → Same c →
      last_end c.end ≡ None → SaysNext part limits (at later) c (Ended Reached) is →
      next_of part limits (at later) c.course ≡ said.Ended way.Reached
  reached limits c is later same on said' =
      let r = says.reached part limits (at later) c on is said' in
      subst (λ (y : Course). next_of part limits (at later) y ≡ said.Ended way.Reached)
      (ap (λ (p : Option Wanted). with_plan c.course p) (planned c r.formed same) ∙ own-way c same) r.reached

  pub keeps-off : (c : FrameCourse) (own : Bool) (later : List Event) → IsLived config passes (later ++ before) →
      BeginsFrames config passes part begun c own later before →
      KeepsFrameCoursesOff config passes part output byte tries c own later before
  keeps-off c own later lived b = record {
    way = went;
    names = λ limits is job said'. subst (λ (y : Course). next_of part limits (at later) y ≡ said.Job job) (own-way c stands.same)
        (names limits c is later job stands.same lived said').next;
    words = λ register rest newer older split. k.words part output byte tries c.course register rest newer older before
        (ap (λ (l : List Event). l ++ before) split)
        (subst (λ (l : List Event). Begins config passes part (power_course_of output byte tries) c.course l before) split begins');
    held = λ rest newer older split. k.held part output byte tries c.course rest newer older before
        (ap (λ (l : List Event). l ++ before) split)
        (subst (λ (l : List Event). Begins config passes part (power_course_of output byte tries) c.course l before) split begins');
    come_true = λ limits is on said'. k.come_true part limits output byte tries c.course later before refl begins'
        (reached limits c is later stands.same on said');
    untouched = λ none register. (laws.courses.untouched config passes (later ++ before) lived).held part
        (power_course_of output byte tries)
        c.course register later before refl begins' none;
  }
    where
      stands : says.Stands laws.followed laws.lives config passes part begun before None c own later
      stands = says.stands-all laws.followed laws.lives config passes part begun before None names c own later lived b.is_course

      went : IsCourse config passes part (power_course_of output byte tries) before c.course later
      went = subst (λ (y : Course). IsCourse config passes part (power_course_of output byte tries) before y later) (own-way c stands.same)
          (says.loosen laws.followed laws.lives config passes part begun before None (with_plan c.course None) own later stands.tied)

      begins' : Begins config passes part (power_course_of output byte tries) c.course later before
      begins' = record { here = here; idle = b.idle; untold = b.untold; steady = b.steady; is_course = went }

      k : KeepsPower config passes (later ++ before)
      k = laws.courses.power config passes (later ++ before) spelled lived

-- A course that orders nothing: one to wishes of which one has no word, and a survey.

-- ---- While a course says no order, each register of its output keeps its word ----

-- the job reads
abbrev pub is_reading : Asked → Bool
is_reading (Learn output) = true
is_reading (Check cell) = true
is_reading (Order cell word) = false
is_reading (OrderMicro cell x) = false
is_reading (Send command) = false

reading-asked : (output : ℕ) (s : Summary) (job : Asked) → is_reading job ≡ true → IsNoOrder output (accepted_job s job)
reading-asked output s (Learn at) is = tt
reading-asked output s (Check cell) is = tt
reading-asked output s (Order cell word) is = cc
reading-asked output s (OrderMicro cell x) is = cc
reading-asked output s (Send command) is = cc

beside-asked : (part : PartRegisters) (output : ℕ) (o : Option host.Job) → IsBeside part output o → IsNoOrder output o
beside-asked part output None b = tt
beside-asked part output (Some (host.Order (Out other register) word)) b = b
beside-asked part output (Some (host.Order Protect word)) b = tt
beside-asked part output (Some (host.Check cell)) b = tt
beside-asked part output (Some (host.Learn at)) b = tt
beside-asked part output (Some (host.Send command)) b = tt

alone-asked : (output : ℕ) (s : State) (event : Event) → begins_other event ≡ false → IsNoOrder output (asked s event)
alone-asked output s event alone = subst (λ (o : Option host.Job). IsNoOrder output o)
    (sym (go (asked_by event) (or_parts (is_some (asked_by event)) _ alone).0)) tt where
      go : (o : Option Asked) → is_some o ≡ false → option_and_then (accepted_job s.host) o ≡ None
      go None h = refl
      go (Some j) h = cc

module _ (laws : Given) (config : Config) (passes : ℕ) (part : PartRegisters) (begun : FrameCourse)
    (before : List Event) (plan : Option Wanted)
    (names : (limits : OutputLimits) (c is : FrameCourse) (later : List Event) (job : Asked) →
    says.Same laws.followed laws.lives config passes part begun before plan c → IsLived config passes (later ++ before) →
    SaysNext part limits (now config passes (later ++ before)).host c (Job job) is →
    says.Names laws.followed laws.lives config passes part begun before plan limits c is later job)
    (reads : (limits : OutputLimits) (c is : FrameCourse) (later : List Event) (job : Asked) →
    says.Same laws.followed laws.lives config passes part begun before plan c → IsLived config passes (later ++ before) →
    SaysNext part limits (now config passes (later ++ before)).host c (Job job) is → is_reading job ≡ true) where
  earlier : (event : Event) (l : List Event) → IsLived config passes (event ∷ l ++ before) → IsLived config passes (l ++ before)
  earlier event l lived' = laws.lives.earlier config passes (event ∷ []) (l ++ before) lived'

  none-asked : (c : FrameCourse) (own : Bool) (later : List Event) → IsLived config passes (later ++ before) →
      IsFrameCourse config passes part begun before c own later → AsksNoOrder config passes begun.course.survey.output later before
  none-asked c own later lived is = go is lived where
    go : {f : FrameCourse} {o : Bool} {l : List Event} → IsFrameCourse config passes part begun before f o l →
        IsLived config passes (l ++ before) → AsksNoOrder config passes begun.course.survey.output l before
    go begins lived' = tt
    go (over limits f g o l end was says') lived' = go was lived'
    go (refused limits f g o l job number was says') lived' = go was lived'
    go (asks limits f g o l event job was says' named) lived' =
        let stands = says.stands-all laws.followed laws.lives config passes part begun before plan names f o l
        (earlier event l lived') was in (
          subst (λ (x : Option Asked). IsNoOrder begun.course.survey.output
              (option_and_then (accepted_job (now config passes (l ++ before)).host) x))
              (sym named) (reading-asked begun.course.survey.output (now config passes (l ++ before)).host job
              (reads limits f g l job stands.same (earlier event l lived') says')),
          go was (earlier event l lived'),
        )
    go (hears f l event stage entry was alone open' told') lived' = (
      alone-asked begun.course.survey.output (now config passes (l ++ before)) event alone,
      go was (earlier event l lived'),
    )
    go (beside f o l event was may) lived' = (
      beside-asked part begun.course.survey.output (asked (now config passes (l ++ before)) event) may,
      go was (earlier event l lived'),
    )

  pub orders-nothing : (c : FrameCourse) (own : Bool) (later : List Event) → IsLived config passes (later ++ before) →
      BeginsFrames config passes part begun c own later before → OrdersNothing config passes begun.course.survey.output later before
  orders-nothing c own later lived b register =
      let stands = says.stands-all laws.followed laws.lives config passes part begun before plan names c own later lived b.is_course in
      (laws.courses.untouched config passes (later ++ before) lived).held part
      (says.way_of laws.followed laws.lives config passes part begun before plan begun)
      (says.way_of laws.followed laws.lives config passes part begun before plan c) register later before refl
      (record {
        here = b.here;
        idle = b.idle;
        untold = b.untold;
        steady = b.steady;
        is_course = says.loosen laws.followed laws.lives config passes part begun before plan
            (says.way_of laws.followed laws.lives config passes part begun before plan c) own later stands.tied;
      }) (none-asked c own later lived b.is_course)

-- ---- A course to nothing, and one to wishes of which one has no word, order nothing ----

abbrev ok : Wanted → Result Wanted Refusal
ok w = Ok w

-- a job of a way that is no order reads
pub way-reads : (part : PartRegisters) (limits : OutputLimits) (s : Summary) (x : Course) (job : Asked) →
    next_of part limits s x ≡ said.Job job →
    is_order job ≡ false → is_reading job ≡ true
way-reads part limits s x job is plain = by (named-so (λ (k : Asked). (is_order k ≡ true) ⊎ (is_reading k ≡ true)) part limits s r
    (λ k n. asks-so (λ (y : Asked). (is_order y ≡ true) ⊎ (is_reading y ≡ true)) part r.survey s (inr refl)
    (λ register has. inr refl) (inr refl) k n)
    (λ order. inl refl) job is).1
  where
    r : Course
    r = renewed part limits s x

    by : (is_order job ≡ true) ⊎ (is_reading job ≡ true) → is_reading job ≡ true
    by (inl order) = let never : true ≡ false = sym order ∙ plain in cc
    by (inr reads) = reads

-- a survey says the job that its way names
pub survey-names : (laws : Given) (config : Config) (passes : ℕ) (part : PartRegisters) (output tries : ℕ) (before : List Event)
    (limits : OutputLimits) (f g : FrameCourse) (l : List Event) (job : Asked) →
    says.Same laws.followed laws.lives config passes part (to_survey output tries) before None f → IsLived config passes (l ++ before) →
    SaysNext part limits (now config passes (l ++ before)).host f (Job job) g →
    says.Names laws.followed laws.lives config passes part (to_survey output tries) before None limits f g l job
survey-names laws config passes part output tries before limits f g l job same lived said' =
    let n = says.named part limits (now config passes (l ++ before)).host f
    (λ j. ap (λ (x : Option ℕ). asked_for (now config passes (l ++ before)).host f.course x j) same.byte) job g said' in
    names-known laws config passes part (to_survey output tries) before None limits f g l job n.formed
    (ap (λ (p : Option Wanted). if is_some p then Some n.formed else None) same.plan') same n.named

pub surveys-order-nothing : (laws : Given) (config : Config) (passes : ℕ) (part : PartRegisters)
    (output tries : ℕ) (c : FrameCourse) (own : Bool)
    (later before : List Event) → IsLived config passes (later ++ before) →
    BeginsFrames config passes part (to_survey output tries) c own later before → OrdersNothing config passes output later before
surveys-order-nothing laws config passes part output tries c own later before lived b =
    orders-nothing laws config passes part (to_survey output tries) before None
    (survey-names laws config passes part output tries before) reads c own later lived b
  where
    reads : (limits : OutputLimits) (f g : FrameCourse) (l : List Event) (job : Asked) →
        says.Same laws.followed laws.lives config passes part (to_survey output tries) before None f → IsLived config passes (l ++ before) →
        SaysNext part limits (now config passes (l ++ before)).host f (Job job) g → is_reading job ≡ true
    reads limits f g l job same lived' said' =
        let next = (survey-names laws config passes part output tries before limits f g l job same lived' said').next in
        way-reads part limits (now config passes (l ++ before)).host (with_plan f.course None) job next
        (laws.ends.reads part limits (now config passes (l ++ before)).host (with_plan f.course None) job same.byte refl next)

module _ (laws : Given) (config : Config) (passes : ℕ) (part : PartRegisters) (output : ℕ) (words : Wanted)
    (voltages : Voltages) (tries : ℕ)
    (before : List Event) (refusal : Refusal) (spelled : IsSpelled config)
    (faults : meant_faults (shape_for config output) voltages ≡ Some refusal) where
  abbrev nothing_begun : FrameCourse
  nothing_begun = going_on (course_of output words tries) voltages

  abbrev nothing_at : List Event → Summary
  nothing_at es = (now config passes (es ++ before)).host

  abbrev NothingSame : FrameCourse → Type 0
  NothingSame f = says.Same laws.followed laws.lives config passes part nothing_begun before (Some words) f

  nothing_plain : (s : Summary) (f : FrameCourse) → NothingSame f → says.IsPlain part Unlimited s f
  nothing_plain s f same = λ j. ap (λ (b : Option ℕ). asked_for s f.course b j) same.byte

  -- it knows no format, and its words are those that are wanted as such
  record Unknown (l : List Event) (limits : OutputLimits) (f : FrameCourse) (formed : Wanted) : Type 0 where
    pub unlearned : says.IsUnlearned part limits (nothing_at l) (says.way_to part limits (nothing_at l) f formed)
    pub formed_is : formed ≡ words

  unknown : (limits : OutputLimits) (l : List Event) (f : FrameCourse) (formed : Wanted)
      (r : Result Wanted Refusal) → r ≡ Ok formed → NothingSame f →
      IsLived config passes (l ++ before) → AreFormed (format_now (nothing_at l) f.course) (wanted_in f.course.survey.plan) f.voltages r →
      Unknown l limits f formed
  unknown limits l f formed r r-is same lived are =
      by f.course.survey.learned refl (format_at (nothing_at l) f.course.survey.output) refl where
        as-such : format_now (nothing_at l) f.course ≡ None → formed ≡ words
        as-such none =
            let is : r ≡ Ok (wanted_in f.course.survey.plan) =
            subst (λ (x : Option Shape). AreFormed x (wanted_in f.course.survey.plan) f.voltages r) none are in
            let both : Ok formed ≡ Ok words =
            sym r-is ∙ (is ∙ ap (λ (p : Option Wanted). ok (wanted_in p)) same.plan') in
            cc

        by : (b : Bool) → f.course.survey.learned ≡ b → (g : Option Shape) →
            format_at (nothing_at l) f.course.survey.output ≡ g → Unknown l limits f formed
        by false e g i = record { unlearned = inl e; formed_is = as-such (rw e refl) }
        by true e None i = record { unlearned = inr i; formed_is = as-such (rw e i) }
        by true e (Some shape) i = absurd (so formed-ok.0) where
          now-is : format_now (nothing_at l) f.course ≡ Some shape
          now-is = ap (λ (b : Bool). if b then format_at (nothing_at l) f.course.survey.output else None) e ∙ i

          shape-is : shape ≡ shape_for config output
          shape-is = (laws.formats.agree config passes (l ++ before) spelled lived).held output shape
              (sym (ap (λ (o : ℕ). format_at (nothing_at l) o) same.output) ∙ i)

          formed-ok : AreFormed (Some shape) (wanted_in f.course.survey.plan) f.voltages (Ok formed)
          formed-ok = subst (λ (x : Result Wanted Refusal). AreFormed (Some shape) (wanted_in f.course.survey.plan) f.voltages x) r-is
              (subst (λ (x : Option Shape). AreFormed x (wanted_in f.course.survey.plan) f.voltages r) now-is are)

          so : None ≡ meant_faults shape f.voltages → ⊥
          so h =
              let never : None ≡ Some refusal = h ∙ (ap (λ (x : Shape). meant_faults x f.voltages) shape-is
              ∙ (ap (λ (v : Voltages). meant_faults (shape_for config output) v) same.voltages ∙ faults)) in
              cc

  nothing_names : (limits : OutputLimits) (f g : FrameCourse) (l : List Event) (job : Asked) → NothingSame f
      → IsLived config passes (l ++ before) →
      SaysNext part limits (nothing_at l) f (Job job) g → says.Names laws.followed laws.lives config passes part nothing_begun
      before (Some words) limits f g l job
  nothing_names limits f g l job same lived' said' =
      let n = says.named part limits (nothing_at l) f (nothing_plain (nothing_at l) f same) job g said' in
      let u = unknown limits l f n.formed said'.words n.words_are same lived' said'.formed in
      names-known laws config passes part nothing_begun before (Some words) limits f g l job n.formed
      (ap (λ (p : Option Wanted). if is_some p then Some n.formed else None) same.plan' ∙ ap
      (λ (w : Wanted). Some w) u.formed_is) same n.named

  reads : (limits : OutputLimits) (f g : FrameCourse) (l : List Event) (job : Asked) → NothingSame f → IsLived config passes (l ++ before) →
      SaysNext part limits (nothing_at l) f (Job job) g → is_reading job ≡ true
  reads limits f g l job same lived' said' =
      let n = says.named part limits (nothing_at l) f (nothing_plain (nothing_at l) f same) job g said' in
      let u = unknown limits l f n.formed said'.words n.words_are same lived' said'.formed in
      subst (λ (j : Asked). is_reading j ≡ true)
      (says.due-is part limits (nothing_at l) (says.way_to part limits (nothing_at l) f n.formed) job n.idle same.byte u.unlearned
      n.named.next) refl

  pub unformed-order-nothing : (c : FrameCourse) (own : Bool) (later : List Event) → IsLived config passes (later ++ before) →
      BeginsFrames config passes part nothing_begun c own later before → OrdersNothing config passes output later before
  unformed-order-nothing c own later lived b =
      orders-nothing laws config passes part nothing_begun before (Some words) nothing_names reads c own later lived b

-- What a course to a byte that leaves the output on is worth over a life.

module _ (laws : Given) (config : Config) (passes : ℕ) (part : PartRegisters) (output byte tries : ℕ) (before : List Event)
    (spelled : IsSpelled config) (here : output < config.count) (on : has_on byte ≡ true) where
  abbrev on_begun : FrameCourse
  on_begun = to_byte output byte tries

  abbrev on_at : List Event → Summary
  on_at es = (now config passes (es ++ before)).host

  abbrev OnSame : FrameCourse → Type 0
  OnSame c = says.Same laws.followed laws.lives config passes part on_begun before None c

  abbrev Way : Course → List Event → Type 0
  Way x later = says.Way laws.followed laws.lives config passes part on_begun before None x later

  abbrev Leads : FrameCourse → FrameCourse → List Event → Event → Asked → Type 0
  Leads c is later event job = says.Leads laws.followed laws.lives config passes part on_begun before None c is later event job

  abbrev Opens : Asked → Course → Event → List Event → Type 0
  Opens job x event older = says.Opens laws.followed laws.lives config passes part on_begun before None job x event older

  on_planned : (c : FrameCourse) (formed : Wanted) → OnSame c → planning c.course formed ≡ None
  on_planned c formed same = ap (λ (p : Option Wanted). if is_some p then Some formed else None) same.plan'

  on_own-way : (c : FrameCourse) → OnSame c → with_plan c.course None ≡ c.course
  on_own-way c same = own-plan c.course None same.plan'

  -- ---- What it says ----

  abbrev on_ok : Asked → Result Asked Refusal
  on_ok job = Ok job

  -- the job is asked for in the place of the one that its way names, or is that one, which reads
  data Turns (s : Summary) (c : FrameCourse) (named job : Asked) : Type 0 where
    same-job : is_turning s c.course named ≡ false → named ≡ job → Turns s c named job
    other-job : is_turning s c.course named ≡ true → turning c.course byte (protect_in s c.course) ≡ Ok job → Turns s c named job

  turns-so : (s : Summary) (c : FrameCourse) (named job : Asked) → OnSame c → asked_for s c.course c.course.byte named ≡ Ok job →
      Turns s c named job
  turns-so s c named job same is = by (is_turning s c.course named) refl
      (sym (ap (λ (b : Option ℕ). asked_for s c.course b named) same.byte
      ∙ ap (λ (b : Bool). if b && is_turning s c.course named then turning c.course byte (protect_in s c.course) else on_ok named) on) ∙ is)
    where
      by : (b : Bool) → is_turning s c.course named ≡ b →
          (if true && b then turning c.course byte (protect_in s c.course) else on_ok named) ≡ Ok job → Turns s c named job
      by true e h = other-job e h
      by false e h = let is' : named ≡ job = cc in same-job e is'

  -- an order turns the output on
  not-order : (s : Summary) (c : FrameCourse) (named : Asked) → is_turning s c.course named ≡ false → is_order named ≡ false
  not-order s c (Order cell word) is = cc
  not-order s c (OrderMicro cell x) is = refl
  not-order s c (Check cell) is = refl
  not-order s c (Learn at) is = refl
  not-order s c (Send command) is = refl

  may-read : (s : Summary) (c : FrameCourse) (job : Asked) → is_reading job ≡ true → MaySay s c output byte job
  may-read s c (Order cell word) is = cc
  may-read s c (OrderMicro cell x) is = cc
  may-read s c (Check cell) is = tt
  may-read s c (Learn at) is = tt
  may-read s c (Send command) is = cc

  may-turn : (s : Summary) (c : FrameCourse) (job : Asked) → OnSame c → turning c.course byte (protect_in s c.course) ≡ Ok job →
      MaySay s c output byte job
  may-turn s c job same is = by (protect_in s c.course) refl is where
    ordered : (protect : ℕ) → protect_in s c.course ≡ Some protect → is_allowed protect (register_code Operation) ≡ true →
        (read : Bool) → has_read c.course.survey.read (selected_register byte) ≡ read →
        on_ok (if read then Order (Out c.course.survey.output Operation) byte else Check (Out c.course.survey.output
        (selected_register byte))) ≡ Ok job →
        MaySay s c output byte job
    ordered protect e allowed true r h =
        let job-is : Order (Out c.course.survey.output Operation) byte ≡ job = cc in
        subst (λ (j : Asked). MaySay s c output byte j) job-is (
          ap (λ (o : ℕ). Out o Operation) same.output,
          refl,
          subst (λ (p : Option ℕ). IsSomeAnd p (λ w. is_allowed w (register_code Operation) ≡ true)) (sym e) allowed,
          r,
        )
    ordered protect e allowed false r h =
        let job-is : Check (Out c.course.survey.output (selected_register byte)) ≡ job = cc in
        subst (λ (j : Asked). MaySay s c output byte j) job-is tt

    allowing : (protect : ℕ) → protect_in s c.course ≡ Some protect → (a : Bool) → is_allowed protect (register_code Operation) ≡ a →
        (if a then on_ok (turn c.course byte) else Err (refusal_of_plan (Protected Operation))) ≡ Ok job → MaySay s c output byte job
    allowing protect e true a h = ordered protect e a (has_read c.course.survey.read (selected_register byte)) refl h
    allowing protect e false a h = cc

    by : (p : Option ℕ) → protect_in s c.course ≡ p → turning c.course byte p ≡ Ok job → MaySay s c output byte job
    by None e h = let job-is : Check Protect ≡ job = cc in subst (λ (j : Asked). MaySay s c output byte j) job-is tt
    by (Some protect) e h = allowing protect e (is_allowed protect (register_code Operation)) refl h

  may-say : (limits : OutputLimits) (c is : FrameCourse) (later : List Event) (job : Asked) → OnSame c →
      SaysNext part limits (on_at later) c (Job job) is → MaySay (on_at later) c output byte job
  may-say limits c is later job same said' = by (turns-so (on_at later) c t.named job same t.asked) where
    all : says.TurnedBy part limits (on_at later) c said'.words job is
    all = says.turned part limits (on_at later) c job is said'

    t : says.Turned part limits (on_at later) c job is all.formed
    t = all.turned

    by : Turns (on_at later) c t.named job → MaySay (on_at later) c output byte job
    by (same-job plain is') = subst (λ (j : Asked). MaySay (on_at later) c output byte j) is' (may-read (on_at later) c t.named
        (way-reads part limits (on_at later) (says.way_to part limits (on_at later) c all.formed) t.named t.next (not-order
        (on_at later) c t.named plain)))
    by (other-job turned is') = may-turn (on_at later) c job same is'

  -- ---- Where that leads ----

  abbrev Else : FrameCourse → Asked → Type 0
  Else c job = IsElse part c.course.survey.output byte job

  is-else : (s : Summary) (c : FrameCourse) (job : Asked) →
      (job ≡ Check (Out c.course.survey.output (selected_register byte)) → has_register part (selected_register byte) ≡ true) →
      turning c.course byte (protect_in s c.course) ≡ Ok job → Else c job
  is-else s c job has is = by (protect_in s c.course) is where
    ordered : (read : Bool) →
        on_ok (if read then Order (Out c.course.survey.output Operation) byte else Check (Out c.course.survey.output
        (selected_register byte))) ≡ Ok job →
        Else c job
    ordered true h =
        let job-is : Order (Out c.course.survey.output Operation) byte ≡ job = cc in subst (λ (j : Asked). Else c j) job-is turns
    ordered false h =
        let job-is : Check (Out c.course.survey.output (selected_register byte)) ≡ job = cc in
        subst (λ (j : Asked). Else c j) job-is (selects (selected_register byte) (has (sym job-is)))

    allowing : (a : Bool) → (if a then on_ok (turn c.course byte) else Err (refusal_of_plan (Protected Operation))) ≡ Ok job → Else c job
    allowing true h = ordered (has_read c.course.survey.read (selected_register byte)) h
    allowing false h = cc

    by : (p : Option ℕ) → turning c.course byte p ≡ Ok job → Else c job
    by None h = let job-is : Check Protect ≡ job = cc in subst (λ (j : Asked). Else c j) job-is protects
    by (Some protect) h = allowing (is_allowed protect (register_code Operation)) h

  -- the part has the register that is checked
  selected-had : (c : FrameCourse) (later : List Event) (event : Event) (job : Asked) → OnSame c →
      IsHad part output (asked (now config passes (later ++ before)) event) → asked_by event ≡ Some job →
      job ≡ Check (Out c.course.survey.output (selected_register byte)) → has_register part (selected_register byte) ≡ true
  selected-had c later event job same had named is =
      subst (λ (o : Option Asked). IsHad part output (option_and_then (accepted_job (on_at later)) o))
      (named ∙ ap (λ (j : Asked). Some j) is) had same.output

  leads : (limits : OutputLimits) (c is : FrameCourse) (later : List Event) (event : Event) (job : Asked) → OnSame c →
      IsLived config passes (later ++ before) → ChecksHad config passes part output (event ∷ later) before →
      SaysNext part limits (on_at later) c (Job job) is → asked_by event ≡ Some job → Leads c is later event job
  leads limits c is later event job same lived had said' asked' = by (turns-so (on_at later) c t.named job same t.asked) where
    all : says.TurnedBy part limits (on_at later) c said'.words job is
    all = says.turned part limits (on_at later) c job is said'

    t : says.Turned part limits (on_at later) c job is all.formed
    t = all.turned

    x : Course
    x = with_plan c.course None

    way-same : says.way_to part limits (on_at later) c all.formed ≡ x
    way-same = ap (λ (p : Option Wanted). with_plan c.course p) (on_planned c all.formed same)

    r : Course
    r = renewed part limits (on_at later) x

    after : after_next part limits (on_at later) (says.way_to part limits (on_at later) c all.formed) ≡ naming r (said.Job t.named)
    after = ap (λ (y : Course). after_next part limits (on_at later) y) way-same
        ∙ ap (λ (n : Said). naming r n) (subst (λ (y : Course). next_of part limits (on_at later) y ≡ said.Job t.named) way-same t.next)

    course-is : is.course ≡ asking_for c.course (naming r (said.Job t.named)) t.named job
    course-is = t.course ∙ ap (λ (y : Course). asking_for c.course y t.named job) after

    plain : is_turning (on_at later) c.course t.named ≡ false → t.named ≡ job → Leads c is later event job
    plain off is' = says.named-leads laws.followed laws.lives config passes part on_begun before None limits c is later event job
        (names-known laws config passes part on_begun before None limits c is later job all.formed (on_planned c all.formed same) same
        (record {
          next = t.next ∙ ap (λ (j : Asked). said.Job j) is';
          course = t.course ∙ ap (λ (j : Asked). asking_for c.course (after_next part limits (on_at later)
              (says.way_to part limits (on_at later) c all.formed)) j job) is';
          voltages = t.voltages;
        })) asked'

    ordered' : Bool
    ordered' = (asking_for c.course (naming r (said.Job t.named)) t.named job).ordered

    left : ℕ
    left = (naming r (said.Job t.named)).survey.left

    else-is : with_plan is.course None ≡ asking_else r job left ordered'
    else-is = ap (λ (y : Course). with_plan y None) course-is
        ∙ own-plan (asking_else r job left ordered') None (renewed-so (λ (y : Course). y.survey.plan ≡ None) part limits
        (on_at later) x refl refl)

    other : turning c.course byte (protect_in (on_at later) c.course) ≡ Ok job → Leads c is later event job
    other is' =
        let may : IsElse part x.survey.output byte job =
        is-else (on_at later) c job (selected-had c later event job same had.0 asked') is' in
        record {
          same = record {
            output = ap (λ (y : Course). y.survey.output) course-is
                ∙ (renewed-so (λ (y : Course). y.survey.output ≡ x.survey.output) part limits (on_at later) x refl refl ∙ same.output);
            plan' = ap (λ (y : Course). y.survey.plan) course-is ∙ same.plan';
            byte = ap (λ (y : Course). y.byte) course-is
                ∙ (renewed-so (λ (y : Course). y.byte ≡ x.byte) part limits (on_at later) x refl refl ∙ same.byte);
            voltages = t.voltages ∙ same.voltages;
          };
          opens = λ way. subst (λ (y : Course). Opens job y event later) (sym else-is) (record {
            asked' = refl;
            went = asks_else limits x later event byte left ordered' job way same.byte may asked';
            told' = λ newer end alone over. tells_else limits x newer later event byte left ordered' job end way same.byte may asked'
                alone over;
          });
        }

    by : Turns (on_at later) c t.named job → Leads c is later event job
    by (same-job off is') = plain off is'
    by (other-job turned is') = other is'

  on_reached : (limits : OutputLimits) (c is : FrameCourse) (later : List Event) → OnSame c →
      last_end c.end ≡ None → SaysNext part limits (on_at later) c (Ended Reached) is →
      next_of part limits (on_at later) c.course ≡ said.Ended way.Reached
  on_reached limits c is later same open' said' =
      let r = says.reached part limits (on_at later) c open' is said' in
      subst (λ (y : Course). next_of part limits (on_at later) y ≡ said.Ended way.Reached)
      (ap (λ (p : Option Wanted). with_plan c.course p) (on_planned c r.formed same) ∙ on_own-way c same) r.reached

  pub keeps-on : (c : FrameCourse) (own : Bool) (later : List Event) → IsLived config passes (later ++ before) →
      ChecksHad config passes part output later before → BeginsFrames config passes part on_begun c own later before →
      KeepsFrameCoursesOn config passes part output byte tries c own later before
  keeps-on c own later lived had b = record {
    way = went;
    says = λ limits is job said'. may-say limits c is later job stands.same said';
    words = λ register rest newer older split. k.words part output byte tries c.course register rest newer older before
        (ap (λ (l : List Event). l ++ before) split)
        (subst (λ (l : List Event). Begins config passes part (power_course_of output byte tries) c.course l before) split begins');
    held = λ rest newer older split. k.held part output byte tries c.course rest newer older before
        (ap (λ (l : List Event). l ++ before) split)
        (subst (λ (l : List Event). Begins config passes part (power_course_of output byte tries) c.course l before) split begins');
    come_true = λ limits is open' said'. k.come_true part limits output byte tries c.course later before refl begins'
        (on_reached limits c is later stands.same open' said');
    untouched = λ none register. (laws.courses.untouched config passes (later ++ before) lived).held part
        (power_course_of output byte tries)
        c.course register later before refl begins' none;
  }
    where
      stands : says.Stands laws.followed laws.lives config passes part on_begun before None c own later
      stands = says.stands-by laws.followed laws.lives config passes part on_begun before None
          (λ es. ChecksHad config passes part output es before) (λ event es may. may.1) leads c own later lived had b.is_course

      went : IsCourse config passes part (power_course_of output byte tries) before c.course later
      went = subst (λ (y : Course). IsCourse config passes part (power_course_of output byte tries) before y later)
          (on_own-way c stands.same)
          (says.loosen laws.followed laws.lives config passes part on_begun before None (with_plan c.course None) own later stands.tied)

      begins' : Begins config passes part (power_course_of output byte tries) c.course later before
      begins' = record { here = here; idle = b.idle; untold = b.untold; steady = b.steady; is_course = went }

      k : KeepsPower config passes (later ++ before)
      k = laws.courses.power config passes (later ++ before) spelled lived

-- What a course to wishes is worth over a life.

module _ (laws : Given) (config : Config) (passes : ℕ) (part : PartRegisters) (output : ℕ) (words wanted : Wanted) (voltages : Voltages)
    (tries : ℕ) (before : List Event) (spelled : IsSpelled config) (here : output < config.count)
    (means : Means config output words voltages wanted) where
  abbrev wishes_begun : FrameCourse
  wishes_begun = going_on (course_of output words tries) voltages

  abbrev wishes_at : List Event → Summary
  wishes_at es = (now config passes (es ++ before)).host

  abbrev WishesSame : FrameCourse → Type 0
  WishesSame c = says.Same laws.followed laws.lives config passes part wishes_begun before (Some wanted) c

  wishes_plain : (s : Summary) (c : FrameCourse) → WishesSame c → says.IsPlain part Unlimited s c
  wishes_plain s c same = λ j. ap (λ (b : Option ℕ). asked_for s c.course b j) same.byte

  -- the words that it goes by: those that are meant, where it knows the format; otherwise it learns that
  pub data Knows (limits : OutputLimits) (later : List Event) (c : FrameCourse) (formed : Wanted) : Type 0 where
    knows : planning c.course formed ≡ Some wanted → Knows limits later c formed
    learning : says.IsUnlearned part limits (wishes_at later) (says.way_to part limits (wishes_at later) c formed)
        → Knows limits later c formed

  pub known : (limits : OutputLimits) (later : List Event) (c : FrameCourse) (formed : Wanted) (r : Result Wanted Refusal) → r ≡ Ok formed →
      WishesSame c → IsLived config passes (later ++ before) →
      AreFormed (format_now (wishes_at later) c.course) (wanted_in c.course.survey.plan) c.voltages r → Knows limits later c formed
  known limits later c formed r r-is same lived are = by c.course.survey.learned refl
      (format_at (wishes_at later) c.course.survey.output) refl where
        by : (b : Bool) → c.course.survey.learned ≡ b → (f : Option Shape) → format_at (wishes_at later) c.course.survey.output ≡ f →
            Knows limits later c formed
        by false e f g = learning (inl e)
        by true e None g = learning (inr g)
        by true e (Some shape) g = knows planned where
          now-is : format_now (wishes_at later) c.course ≡ Some shape
          now-is = ap (λ (b : Bool). if b then format_at (wishes_at later) c.course.survey.output else None) e ∙ g

          shape-is : shape ≡ shape_for config output
          shape-is = (laws.formats.agree config passes (later ++ before) spelled lived).held output shape
              (sym (ap (λ (o : ℕ). format_at (wishes_at later) o) same.output) ∙ g)

          formed-ok : AreFormed (Some shape) (wanted_in c.course.survey.plan) c.voltages (Ok formed)
          formed-ok = subst (λ (x : Result Wanted Refusal). AreFormed (Some shape) (wanted_in c.course.survey.plan) c.voltages x) r-is
              (subst (λ (x : Option Shape). AreFormed x (wanted_in c.course.survey.plan) c.voltages r) now-is are)

          meant : AreMeant (shape_for config output) words voltages formed
          meant = subst (λ (x : Shape). AreMeant x words voltages formed) shape-is
              (subst (λ (v : Voltages). AreMeant shape words v formed) same.voltages
              (subst (λ (p : Option Wanted). AreMeant shape (wanted_in p) c.voltages formed) same.plan' formed-ok.1))

          formed-is : formed ≡ wanted
          formed-is = words-one (shape_for config output) (sound-one config output lived.sound here) words voltages formed wanted meant means.1

          planned : planning c.course formed ≡ Some wanted
          planned = ap (λ (p : Option Wanted). if is_some p then Some formed else None) same.plan' ∙ ap (λ (w : Wanted). Some w) formed-is

  pub wishes_names : (limits : OutputLimits) (c is : FrameCourse) (later : List Event) (job : Asked) → WishesSame c →
      IsLived config passes (later ++ before) → SaysNext part limits (wishes_at later) c (Job job) is →
      says.Names laws.followed laws.lives config passes part wishes_begun before (Some wanted) limits c is later job
  wishes_names limits c is later job same lived said' =
      by (says.named part limits (wishes_at later) c (wishes_plain (wishes_at later) c same) job is said') where
        by : says.NamedBy part limits (wishes_at later) c said'.words job is →
            says.Names laws.followed laws.lives config passes part wishes_begun before (Some wanted) limits c is later job
        by n = so (known limits later c n.formed said'.words n.words_are same lived said'.formed) where
          there : missing_in part words voltages ≡ None
          there = sym (ap (λ (p : Option Wanted). missing_in part (wanted_in p) c.voltages) same.plan'
              ∙ ap (λ (v : Voltages). missing_in part words v) same.voltages) ∙ n.there

          so : Knows limits later c n.formed →
              says.Names laws.followed laws.lives config passes part wishes_begun before (Some wanted) limits c is later job
          so (knows planned) = names-known laws config passes part wishes_begun before (Some wanted) limits c is later
              job n.formed planned same n.named
          so (learning unlearned) = names-learn laws config passes part wishes_begun before (Some wanted) limits c is
              later job n.formed same n.named
              (says.learn-either part limits (wishes_at later) (says.way_to part limits (wishes_at later) c n.formed)
              (Some wanted) job n.idle same.byte unlearned
              (none-missing part (shape_for config output) words voltages wanted means.1 there) n.named.next)

  -- its way has reached its end where it has
  pub wishes_reached : (limits : OutputLimits) (c is : FrameCourse) (later : List Event) → WishesSame c
      → IsLived config passes (later ++ before) →
      last_end c.end ≡ None → SaysNext part limits (wishes_at later) c (Ended Reached) is →
      next_of part limits (wishes_at later) (with_plan c.course (Some wanted)) ≡ said.Ended way.Reached
  wishes_reached limits c is later same lived on said' =
      by (says.reached part limits (wishes_at later) c on is said') where
        by : says.ReachedBy part limits (wishes_at later) c said'.words →
            next_of part limits (wishes_at later) (with_plan c.course (Some wanted)) ≡ said.Ended way.Reached
        by r = so (known limits later c r.formed said'.words r.words_are same lived said'.formed) where
          so : Knows limits later c r.formed
              → next_of part limits (wishes_at later) (with_plan c.course (Some wanted)) ≡ said.Ended way.Reached
          so (knows planned) = subst
              (λ (p : Option Wanted). next_of part limits (wishes_at later) (with_plan c.course p) ≡ said.Ended way.Reached)
              planned r.reached
          so (learning unlearned) = absurd (says.due-not-reached part limits (wishes_at later)
              (says.way_to part limits (wishes_at later) c r.formed) r.idle
              same.byte unlearned r.reached)

  -- it goes the way of pm_rail, whatever restarts
  pub goes : (c : FrameCourse) (own : Bool) (later : List Event) → IsLived config passes (later ++ before) →
      IsFrameCourse config passes part wishes_begun before c own later →
      IsCourse config passes part (course_of output wanted tries) before (with_plan c.course (Some wanted)) later
  goes c own later lived is =
      says.loosen laws.followed laws.lives config passes part wishes_begun before (Some wanted) (with_plan c.course (Some wanted)) own later
      (says.stands-all laws.followed laws.lives config passes part wishes_begun before (Some wanted) wishes_names c own later lived is).tied

  pub keeps : (c : FrameCourse) (own : Bool) (later : List Event) → IsLived config passes (later ++ before) →
      BeginsFrames config passes part wishes_begun c own later before →
      KeepsFrameCourses config passes part output words wanted voltages tries c own later before
  keeps c own later lived b = record {
    way = went;
    names = λ limits is job said'. (wishes_names limits c is later job stands.same lived said').next;
    free = λ g is job host registers said'. free g is job host registers said';
    held = λ missing rest newer older split. k.held part output wanted tries x rest newer older before
        (ap (λ (l : List Event). l ++ before) split)
        (subst (λ (l : List Event). Begins config passes part (course_of output wanted tries) x l before) split begins') missing;
    kept = λ missing register none. k.kept part output wanted tries x register later before refl begins' missing none;
    come_true = λ missing limits is register word on said' wants. k.come_true part limits output wanted tries x
        register word later before refl
        begins' missing (wishes_reached limits c is later stands.same lived on said') wants;
    commanded = λ missing limits is on said'. k.commanded part limits output wanted tries x later before refl begins' missing
        (wishes_reached limits c is later stands.same lived on said');
    untouched = λ none register. (laws.courses.untouched config passes (later ++ before) lived).held part (course_of output wanted tries) x
        register later before refl begins' none;
  }
    where
      stands : says.Stands laws.followed laws.lives config passes part wishes_begun before (Some wanted) c own later
      stands = says.stands-all laws.followed laws.lives config passes part wishes_begun before (Some wanted) wishes_names c own later lived
          b.is_course

      x : Course
      x = with_plan c.course (Some wanted)

      went : IsCourse config passes part (course_of output wanted tries) before x later
      went = goes c own later lived b.is_course

      begins' : Begins config passes part (course_of output wanted tries) x later before
      begins' = record { here = here; idle = b.idle; untold = b.untold; steady = b.steady; is_course = went }

      k : KeepsCourses config passes (later ++ before)
      k = laws.courses.words config passes (later ++ before) spelled lived

      free : (g : Guarded) (is : FrameCourse) (job : Asked) → g.host ≡ wishes_at later → g.registers ≡ part →
          SaysNext part (limits_at g output) (wishes_at later) c (Job job) is → guard_fault g job ≡ None
      free g is job host registers said' = laws.ends.free g x job stands.same.byte
          (subst (λ (o : ℕ). o < g.host.setup.outputs) (sym stands.same.output)
          (subst (λ (s : Summary). output < s.setup.outputs) (sym host)
          (subst (λ (n : ℕ). output < n) (sym (same-outputs config passes (later ++ before))) here)))
          (subst (λ (o : ℕ). next_of g.registers (limits_at g o) g.host x ≡ said.Job job) (sym stands.same.output)
          (subst (λ (s : Summary). next_of g.registers (limits_at g output) s x ≡ said.Job job) (sym host)
          (subst (λ (p : PartRegisters). next_of p (limits_at g output) (wishes_at later) x ≡ said.Job job) (sym registers)
          (wishes_names (limits_at g output) c is later job stands.same lived said').next)))

-- What a course says by a guard, and all that holds of courses.

-- a guard begins no check of a register that the part doesn't have
pub had-so : (g new : Guarded) (job : Asked) (output : ℕ) → LetsBegin g job (Ok tt) new → IsHad g.registers output (accepted_job g.host job)
had-so g new (Check (Out other register)) output lets = λ same. by (cell_fault g.host (Out other register))
    (has_register g.registers register) refl
    (sym lets.fault) where
      by : (f : Option HostFault) (has : Bool) → has_register g.registers register ≡ has →
          first (of_host f ∷ rule (not has) MissingRegister ∷ []) ≡ None → has_register g.registers register ≡ true
      by f true e h = e
      by None false e h = cc
      by (Some fault) false e h = cc
had-so g new (Check Protect) output lets = tt
had-so g new (Order cell word) output lets = tt
had-so g new (OrderMicro cell x) output lets = by (micro_word g.host cell x) where
  by : (w : Option ℕ) → IsHad g.registers output (option_map (λ word. host.Order cell word) w)
  by None = tt
  by (Some word) = tt
had-so g new (Learn at) output lets = tt
had-so g new (Send command) output lets = tt

-- what a course says by a guard is what it says by the life's host
pub said-so : (part : PartRegisters) (g : Guarded) (s : Summary) (c is : FrameCourse) (next : CourseNext) →
    g.host ≡ s → g.registers ≡ part →
    SaysNext g.registers (limits_at g c.course.survey.output) g.host c next is →
    SaysNext part (limits_at g c.course.survey.output) s c next is
said-so part g s c is next host' registers says =
    subst (λ (p : PartRegisters). SaysNext p (limits_at g c.course.survey.output) s c next is) registers
    (subst (λ (x : Summary). SaysNext g.registers (limits_at g c.course.survey.output) x c next is) host' says)

-- ---- What a course that hands out frames is worth over a life ----

pub hold-in-lives : Given → FrameCoursesHoldInLives
hold-in-lives laws = record {
  words = λ config passes part output words wanted voltages tries c own later before spelled lived means b.
      keeps laws config passes part output words wanted voltages tries before spelled b.here means c own later lived b;
  unformed = λ config passes part output words voltages tries c own later before refusal spelled lived faults b.
      unformed-order-nothing laws config passes part output words voltages tries before refusal spelled faults c own later lived b;
  surveys = λ config passes part output tries c own later before spelled lived b.
      surveys-order-nothing laws config passes part output tries c own later before lived b;
  off = λ config passes part output byte tries c own later before off spelled lived b.
      keeps-off laws config passes part output byte tries before spelled b.here off c own later lived b;
  on = λ config passes part output byte tries c own later before on spelled lived had b.
      keeps-on laws config passes part output byte tries before spelled b.here on c own later lived had b;
  had = λ g new job output lets. had-so g new job output lets;
}

pub go-their-way : Given → FrameCoursesGoTheirWay
go-their-way laws config passes part output words wanted voltages tries c own later before spelled lived here means is =
    goes laws config passes part output words wanted voltages tries before spelled here means c own later lived is
