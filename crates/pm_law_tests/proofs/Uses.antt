-- How laws are used: runs, parts, tries, and what a course over a bus is worth.
use Rattle.std.specs.Prelude.{Option, Some, None, Result, Ok, Err, IfOk, OnOk, OnSome, ◌≡◌, ℕ, true, false, not, List, [], ◌∷◌, ◌++◌}
use Rattle.std.specs.Prelude.{if◌then◌else◌}
use Rattle.std.proofs.lemmas.List.{append-nil}
use Rattle.std.proofs.Common.{◌∙◌, ap, refl, subst, sym, ◌≤◌, Bool, arith}
use Rattle.pm_table.specs.{RuleLemmas.rule-none, Rules.rule, declared.reg.Reg.Reg}
use Rattle.pm_table.specs.declared.cell.Cell.TheVariants.{Out, Protect}
use Rattle.pm_table.specs.declared.reg.Reg.TheVariants.{Operation, VoutCommand, VoutMax, MarginHigh, MarginLow, VoutMin}
use Rattle.pm_model.specs.Settings.{Words, word_at}
use Rattle.pm_device.specs.{Held.Held, declared.config.Config.Config}
use Rattle.pm_host.specs.{Transcript.Setup, declared.fault.HostFault.HostFault}
use Rattle.pm_host.specs.Refusals.{IsSetup, is_busy}
use Rattle.pm_host.specs.Summary.{Summary, start}
use Rattle.pm_host.specs.Transcript as host
use Rattle.pm_limits.specs.{Guard.limits_at, Laws.WholePartsMissNothing, declared.fault.LimitFault.TheVariants.MissingRegister}
use Rattle.pm_limits.specs.{declared.output_limits.OutputLimits.OutputLimits, declared.part_registers.PartRegisters.PartRegisters}
use Rattle.pm_limits.specs.Part.{all_registers, has_register}
use Rattle.pm_course.specs.{Ends.is_open_end, declared.course_end.CourseEnd.CourseEnd, declared.course_end.CourseEnd.TheVariants.Reached}
use Rattle.pm_course.specs.{declared.course_end.CourseNext.TheVariants.Ended, declared.frame_course.FrameCourse.FrameCourse}
use Rattle.pm_course.specs.{declared.wish.Wishes.Wishes}
use Rattle.pm_course.specs.FrameCourse.{SaysNext, last_end, saying_by, to_wishes}
use Rattle.pm_course.specs.Wishes.{voltages_in, words_in}
use Rattle.pm_world.specs.{Bands.HoldsMissing, Life.now, Plans.PlansHoldInLives, Setup.setup_of, State.asked, Surveys.MissingUnread}
use Rattle.pm_world.specs.{declared.event.Event.Event}
use Rattle.pm_course_laws.specs.FrameLives.{ChecksHad, IsHad, FrameCoursesHoldInLives, IsFrameCourse, KeepsFrameCourses, begins}
use Rattle.pm_driver.specs.{Acts.Call, Lives.IsLife}
use Rattle.pm_driver.specs.Courses.{EndsAt, RunsCourse, over, refused}
use Rattle.pm_driver.specs.Driven.{IsAsItIs, MayBegin, Driving}
use Rattle.pm_law_tests.specs.Drivers.{WishesAreHeld}
use Rattle.pm_law_tests.specs.Beside.{LedTo, PartLife, both_in}

-- How laws are used: what a run found, a part with every register, a host that begins, what happened beside a part.

-- What holds wherever a run found a world follows from the facts that it hands out there.

pub found-so : {X E : Type 0} (r : Result (Option X) E) {A S H G : Type 0} → (A → S → H → G) →
    IfOk r (λ found. OnSome found A) → OnOk r S → IfOk r (λ found. OnSome found H) → IfOk r (λ found. OnSome found G)
found-so (Ok (Some world)) so lived spelled short = so lived spelled short
found-so (Ok None) so lived spelled short = tt
found-so (Err fault) so lived spelled short = tt

-- what holds of the run's life and of its configuration's numbers
pub found-lived : {X E : Type 0} (r : Result (Option X) E) (B C : Type 0) {A S G : Type 0} → (A → S → G) →
    IfOk r (λ found. OnSome found A) → OnOk r (B × C × S) → IfOk r (λ found. OnSome found G)
found-lived (Ok (Some world)) B C so lived sound = so lived sound.2
found-lived (Ok None) B C so lived sound = tt
found-lived (Err fault) B C so lived sound = tt

-- A part with every register lacks none.

pub lacks-none : WholePartsMissNothing → (register : Reg) → has_register all_registers register ≡ false → ⊥
lacks-none law register lacks =
    let has = rule-none (not (has_register all_registers register)) MissingRegister (law.checked (Out 0 register)) in
    let bad = sym has ∙ ap not lacks in cc

-- The host of a part with every register was told nothing of a missing one, and no missing one has a word of its own.
pub whole-unread : WholePartsMissNothing → (part : PartRegisters) → part ≡ all_registers
    → (config : Config) (passes output : ℕ) (events : List Event) →
    MissingUnread config passes part output events
whole-unread law part whole config passes output events register lacks =
    absurd (lacks-none law register (subst (λ (p : PartRegisters). has_register p register ≡ false) whole lacks))

pub whole-holds : PlansHoldInLives → (part : PartRegisters) → part ≡ all_registers → (config : Config) (words : Words) (output : ℕ) →
    HoldsMissing part config words output
whole-holds law part whole config words output =
    subst (λ (p : PartRegisters). HoldsMissing p config words output) (sym whole) (law.whole config words output)

-- It has each register, so no check is of one that it lacks.
pub has-all : (register : Reg) → has_register all_registers register ≡ true
has-all Operation = refl
has-all VoutCommand = refl
has-all VoutMax = refl
has-all MarginHigh = refl
has-all MarginLow = refl
has-all VoutMin = refl

whole-job : (output : ℕ) (job : Option host.Job) → IsHad all_registers output job
whole-job output None = tt
whole-job output (Some (host.Order cell word)) = tt
whole-job output (Some (host.Check (Out other register))) = λ same. has-all register
whole-job output (Some (host.Check Protect)) = tt
whole-job output (Some (host.Learn at)) = tt
whole-job output (Some (host.Send command)) = tt

pub whole-had : (config : Config) (passes output : ℕ) (later before : List Event) → ChecksHad config passes all_registers output later before
whole-had config passes output [] before = tt
whole-had config passes output (event ∷ later) before = (
  whole-job output (asked (now config passes (later ++ before)) event),
  whole-had config passes output later before,
)

-- A host that is made for a part as it is may begin beside it.

abbrev setup_by : ℕ → ℕ → ℕ → Setup
setup_by address outputs passes = record { addr = address; outputs = outputs; passes = passes }

pub made-begins : (held : Held) (address outputs passes : ℕ) (result : Result Summary HostFault) → IsAsItIs held →
    address ≡ held.config.addr → outputs ≡ held.config.count →
    IfOk result (λ host. host ≡ start (setup_by address outputs passes)) → IfOk result (λ host. IsSetup host.setup) →
    IfOk result (λ host. MayBegin host held)
made-begins held address outputs passes (Ok host) is addr count made setup =
    let same : setup_by address outputs passes ≡ setup_of held.config passes =
    ap (λ (a : ℕ). setup_by a outputs passes) addr ∙ ap (λ (o : ℕ). setup_by held.config.addr o passes) count in
    record {
      passes = passes;
      is = is;
      setup = subst (λ (s : Setup). IsSetup s) same (subst (λ (h : Summary). IsSetup h.setup) made setup);
      made = made ∙ ap (λ (s : Setup). start s) same;
    }
made-begins held address outputs passes (Err fault) is addr count made setup = tt

-- A fact on what happened beside a part is one on the host and the converter that it led to.

pub led : {life : PartLife} {host : Summary} {device : Held} → LedTo life host device → (P : Summary → Held → Type 0) →
    P (both_in life).host (both_in life).device → P host device
led {life = life} {host = host} {device = device} is P so =
    subst (λ (d : Held). P host d) (sym is.device_is) (subst (λ (s : Summary). P s (both_in life).device) (sym is.host_is) so)

-- How many tries are enough at most.

-- of a course to wishes
pub few : (b : Bool) → (if b then 15 else 28) ≤ 28
few true = omega arith
few false = omega arith

-- of one to a byte of OPERATION
pub few-bytes : (on same : Bool) → (if on then (if same then 10 else 20) else 1) ≤ 20
few-bytes true true = omega arith
few-bytes true false = omega arith
few-bytes false same = omega arith

-- What a course over a bus is worth, by what it is worth in a life.

-- an end that stays is the one that the course has
ended-so : (o : Option CourseEnd) (e : CourseEnd) → last_end o ≡ Some e → o ≡ Some e
ended-so None e is = cc
ended-so (Some end) e is = by (not (is_open_end end)) is where
  by : (b : Bool) → rule b end ≡ Some e → Some end ≡ Some e
  by true h = h
  by false h = cc

-- a course that says Reached, and that hadn't said so, has no end that stays
goes-on : (part : PartRegisters) (limits : OutputLimits) (s : Summary) (last is : FrameCourse) →
    SaysNext part limits s last (Ended Reached) is → (last.end ≡ Some Reached → ⊥) → last_end last.end ≡ None
goes-on part limits s last is says fresh = go (last_end last.end) refl where
  go : (o : Option CourseEnd) → last_end last.end ≡ o → o ≡ None
  go None e = refl
  go (Some end) e =
      let said = says.next ∙ ap (λ (o : Option CourseEnd). (saying_by part limits s last says.words o).next) e in
      let same : end ≡ Reached = cc in
      absurd (fresh (ended-so last.end end e ∙ ap (λ (x : CourseEnd). Some x) same))

pub wishes-held : FrameCoursesHoldInLives → PlansHoldInLives → WholePartsMissNothing → {B : Type 0} (gives : B → Call → B → Type 0)
    (held : B → Held) (restarts : B → ℕ) (output : ℕ) (wishes : Wishes) (tries : ℕ) (old new : Driving B) (end : CourseEnd) (is : FrameCourse) →
    is_busy old.guard.host ≡ false → old.guard.registers ≡ all_registers →
    RunsCourse gives held restarts old (to_wishes output wishes tries) end new is →
    WishesAreHeld held restarts output wishes old end new
wishes-held law plans whole gives held restarts output wishes tries old new end is idle registers runs reached counted led there wanted
    means register word wants =
    by-end runs.ends
  where
    part : PartRegisters
    part = old.guard.registers

    later : List Event
    later = runs.carries.leads.events

    life : IsLife led.config led.passes (later ++ led.events) new.guard.host (held new.bus)
    life = (runs.carries.leads.lives led.config led.passes led.events led.life).is_life

    keeps : KeepsFrameCourses led.config led.passes part output (words_in wishes) wanted (voltages_in wishes) tries runs.last false later
        led.events
    keeps = law.words led.config led.passes part output (words_in wishes) wanted (voltages_in wishes) tries runs.last false later led.events
        led.spelled life.lived means (record {
          here = there;
          idle = subst (λ (s : Summary). is_busy s ≡ false) (sym led.life.host_is) idle;
          untold = whole-unread whole part registers led.config led.passes output led.events;
          steady = runs.steady counted;
          is_course = subst (λ (es : List Event). IsFrameCourse led.config led.passes part (to_wishes output wishes tries) led.events runs.last
              false es) (append-nil later)
              (runs.carries.steps led.config led.passes (to_wishes output wishes tries) [] led.events led.life begins);
        })

    none : (o : Option CourseEnd) → o ≡ None → o ≡ Some Reached → ⊥
    none o one other = cc

    by-end : EndsAt new.guard runs.last end is → word_at (held new.bus).words (Out output register) ≡ word
    by-end (over says) =
        let said : SaysNext part (limits_at new.guard runs.last.course.survey.output) (now led.config led.passes (later ++ led.events)).host
        runs.last (Ended Reached) is =
        subst (λ (e : CourseEnd). SaysNext part (limits_at new.guard runs.last.course.survey.output)
        (now led.config led.passes (later ++ led.events)).host runs.last (Ended e) is) reached
        (subst (λ (s : Summary). SaysNext part (limits_at new.guard runs.last.course.survey.output) s runs.last (Ended end) is)
        (sym life.host_is)
        (subst (λ (p : PartRegisters). SaysNext p (limits_at new.guard runs.last.course.survey.output) new.guard.host runs.last (Ended end) is)
        runs.registers says)) in
        subst (λ (d : Held). word_at d.words (Out output register) ≡ word) life.held_is.same
        (keeps.come_true (whole-holds plans part registers led.config (now led.config led.passes led.events).device.words output)
        (limits_at new.guard runs.last.course.survey.output) is register word
        (goes-on part (limits_at new.guard runs.last.course.survey.output) (now led.config led.passes (later ++ led.events)).host runs.last is
        said (λ ended. none (to_wishes output wishes tries).end refl (runs.fresh ended))) said wants)
    by-end (refused job fault after says refuses ends same) = absurd (let never = sym ends ∙ reached in cc)
