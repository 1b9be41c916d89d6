-- A course to wishes gets there.
use Rattle.std.proofs.Common.{◌≡◌, inl, inr, ◌<◌, ◌≤◌, ◌+◌, ℕ, Bool, true, false, not, List, [], ◌∷◌, ◌++◌, Option, Some, None, Result, Ok, Err, refl, ap, ap₂, sym, subst, ◌∙◌, arith}
use Rattle.std.specs.Prelude.{◌&&◌, ◌||◌, if◌then◌else◌, is_some, option_map, find}
use Rattle.pm_table.specs.declared.reg.Reg.TheVariants.{MarginHigh, MarginLow, Operation, VoutCommand, VoutMax, VoutMin}
use Rattle.pm_table.specs.Operation.{selected_register}
use Rattle.std.proofs.Math.Bool.{and-false}
use Rattle.pm_device.specs.Laws.{WordsHaveAnOrigin}
use Rattle.pm_world.specs.Confirmed.{restarted_since}
use Rattle.pm_world.specs.Laws.{PossibleWordsAreHeld}
use Rattle.pm_num.specs.AnyFormat.{Shape}
use Rattle.pm_table.specs.declared.cell.Cell.{Cell}
use Rattle.pm_table.specs.declared.cell.Cell.TheVariants.{Out, Protect}
use Rattle.pm_table.specs.declared.reg.Reg.{Reg}
use Rattle.pm_table.specs.Cell.{cell_code}
use Rattle.pm_table.specs.Laws.{CellsAreToldApart}
use Rattle.pm_table.specs.Protection.{is_allowed}
use Rattle.pm_model.specs.Settings.{word_at}
use Rattle.pm_device.specs.declared.config.Config.{Config}
use Rattle.pm_device.specs.Held.{Held, shape_for}
use Rattle.pm_host.specs.declared.job.Job.{Job as Asked}
use Rattle.pm_host.specs.declared.job.Job.TheVariants as job
use Rattle.pm_host.specs.Possible.{is_possible}
use Rattle.pm_host.specs.Refusals.{is_busy}
use Rattle.pm_host.specs.Summary.{Summary, format_at, possible_at}
use Rattle.pm_limits.specs.declared.part_registers.PartRegisters.{PartRegisters}
use Rattle.pm_limits.specs.declared.output_limits.OutputLimits.{OutputLimits}
use Rattle.pm_limits.specs.Guard.{guard_fault, limits_at}
use Rattle.pm_limits.specs.Part.{all_registers, has_register, missing_word}
use Rattle.pm_rail.specs.declared.apply_end.ApplyEnd.{ApplyEnd}
use Rattle.pm_rail.specs.declared.course.Course.{Course}
use Rattle.pm_rail.specs.declared.fault.PlanFault.TheVariants.{MissingRegister}
use Rattle.pm_rail.specs.declared.next.Next.TheVariants as said
use Rattle.pm_rail.specs.declared.wanted.Wanted.{Wanted}
use Rattle.pm_rail.specs.Course.{after_next, course_of, next_by, next_of}
use Rattle.pm_rail.specs.Orders.{is_wanted_missing, missing_fault, voltages as volts}
use Rattle.pm_rail.specs.Registers.{Wants, wants_of}
use Rattle.pm_rail.specs.Survey.{wanted_in}
use Rattle.pm_course.specs.declared.course_end.CourseEnd.{CourseEnd}
use Rattle.pm_course.specs.declared.course_end.CourseNext.TheVariants.{Job, Ended}
use Rattle.pm_course.specs.declared.course_end.Refusal.{Refusal}
use Rattle.pm_course.specs.declared.frame_course.FrameCourse.{FrameCourse}
use Rattle.pm_course.specs.declared.voltages.Voltages.{Voltages}
use Rattle.pm_course.specs.Ends.{end_of}
use Rattle.pm_course.specs.FrameCourse.{Says, SaysNext, format_now, going_on, last_end, missing_of, planning, saying, saying_planned, source_of, with_plan}
use Rattle.pm_course.specs.Wishes.{AreFormed, is_missing, meant_faults, missing_at, missing_in, voltage_of}
use Rattle.pm_world.specs.declared.event.Event.{Event}
use Rattle.pm_world.specs.Honest.{IsSpelled}
use Rattle.pm_world.specs.Lemmas.Hosts.{same-outputs}
use Rattle.pm_world.specs.Life.{now}
use Rattle.pm_world.specs.Lived.{IsLived}
use Rattle.pm_world.specs.State.{State}
use Rattle.pm_course_laws.specs.Chains.{ChainEnds, ChainsEnd}
use Rattle.pm_course_laws.specs.FrameLives.{Means}
use Rattle.pm_course_laws.specs.Progress.{pair_at}
use Rattle.pm_course_laws.specs.Progress.{BeginsThere, EndsSo, FrameCoursesGetThere, GetsThere, GoesThere, IsUndisturbed}
use Rattle.pm_course_laws.specs.Chains.{Chain, FitsPart, Pair, tries_for, output_words_of}
use Rattle.pm_course_laws.proofs.FrameSurveys.{surveys-there}
use Rattle.pm_course_laws.proofs.Jobs as jobs
use Rattle.pm_course_laws.proofs.Said as says
use Rattle.pm_course_laws.proofs.Said.{Given, ended-course, is_learn, learn-calm, told-forgets, told-plan, find-none, none-missing}
use Rattle.pm_course_laws.proofs.Worth as to
use Rattle.pm_course_laws.proofs.ChainFrames as way
use Rattle.pm_course_laws.proofs.CourseFrames as frames
use Rattle.pm_course_laws.proofs.Switches.{switches-there}
use Rattle.pm_course_laws.proofs.CourseFrames.{Closed, Opened, as-frames, lives-at, plain-so}

-- what else the end rests on
pub record Reading : Type 0 where
  pub possible : PossibleWordsAreHeld
  pub origin : WordsHaveAnOrigin

-- no register of which a word is wanted is missing
words-missing : (part : PartRegisters) (words : Wanted) (v : Voltages) → missing_in part words v ≡ None →
    missing_fault part (wants_of words) ≡ None
words-missing part words v is =
    ap (λ (r : Option Reg). option_map (λ register. MissingRegister register) r)
    (find-none (is_missing part words v) (is_wanted_missing part (wants_of words)) volts less
    (none (find (is_missing part words v) volts) is))
  where
    none : (found : Option Reg) → option_map missing_at found ≡ None → found ≡ None
    none None h = refl
    none (Some r) h = cc

    first-off : (a b n : Bool) → ((a || b) && n) ≡ false → (a && n) ≡ false
    first-off true b n h = h
    first-off false b n h = refl

    less : (r : Reg) → is_missing part words v r ≡ false → is_wanted_missing part (wants_of words) r ≡ false
    less r h = first-off (is_some (wants_of words r)) _ (not (has_register part r)) h

module _ (laws : Given) (jobs-laws : jobs.Given) (apart : CellsAreToldApart) (read : Reading) (config : Config)
    (passes : ℕ) (part : PartRegisters)
    (limits : List OutputLimits) (output : ℕ) (words wanted : Wanted) (voltages : Voltages) (tries : ℕ) (before : List Event)
    (spelled : IsSpelled config) (here : output < config.count) (means : Means config output words voltages wanted)
    (there : missing_in part words voltages ≡ None) (begun : FrameCourse)
    (begun-same : says.Same laws.followed laws.lives config passes part
    (going_on (course_of output words tries) voltages) before (Some wanted) begun)
    (begun-fresh : last_end begun.end ≡ None) (most : ℕ)
    (engine-says : (x : Course) (es : List Event) (n : ℕ) →
    Chain (with_plan begun.course (Some wanted)) (pair_at part limits config passes before) x
    (pair_at part limits config passes (es ++ before)) n →
    ChainEnds output wanted most n (pair_at part limits config passes before) (pair_at part limits config passes (es ++ before)) x) where
  abbrev d : List Event → Pair
  d es = pair_at part limits config passes (es ++ before)

  abbrev at : List Event → State
  at es = now config passes (es ++ before)

  abbrev lim : List Event → FrameCourse → OutputLimits
  lim es c = limits_at (d es).guard c.course.survey.output

  abbrev way_of : FrameCourse → Course
  way_of c = with_plan c.course (Some wanted)

  abbrev Same : FrameCourse → Type 0
  Same c = says.Same laws.followed laws.lives config passes part (going_on (course_of output words tries) voltages) before (Some wanted) c

  -- What stays of the course that is under way stays of one that began.
  abbrev SameSince : FrameCourse → Type 0
  SameSince c = says.Same laws.followed laws.lives config passes part begun before (Some wanted) c

  from-begun : (c : FrameCourse) → SameSince c → Same c
  from-begun c same = record {
    output = same.output ∙ begun-same.output;
    plan' = same.plan' ∙ begun-same.plan';
    byte = same.byte ∙ begun-same.byte;
    voltages = same.voltages ∙ begun-same.voltages;
  }

  since-begun : (c : FrameCourse) → Same c → SameSince c
  since-begun c same = record {
    output = same.output ∙ sym begun-same.output;
    plan' = same.plan' ∙ sym begun-same.plan';
    byte = same.byte ∙ sym begun-same.byte;
    voltages = same.voltages ∙ sym begun-same.voltages;
  }

  names-now : (l : OutputLimits) (c is : FrameCourse) (later : List Event) (j : Asked) → Same c → IsLived config passes (later ++ before) →
      SaysNext part l (at later).host c (Job j) is →
      says.Names laws.followed laws.lives config passes part (going_on (course_of output words tries) voltages)
      before (Some wanted) l c is later j
  names-now l c is later j same lived says' =
      to.wishes_names laws config passes part output words wanted voltages tries before spelled here means l c is later j same lived says'

  names-since : (l : OutputLimits) (c is : FrameCourse) (later : List Event) (j : Asked) → SameSince c →
      IsLived config passes (later ++ before) →
      SaysNext part l (at later).host c (Job j) is → says.Names laws.followed laws.lives config passes part begun
      before (Some wanted) l c is later j
  names-since l c is later j same lived says' =
      let n = names-now l c is later j (from-begun c same) lived says' in
      record { next = n.next; after = n.after; same = since-begun is n.same }

  -- its way by the jobs that it names
  abbrev Went : Course → List Event → ℕ → Type 0
  Went y es n = Chain (way_of begun) (d []) (with_plan y (Some wanted)) (d es) n

  here-begun : begun.course.survey.output < config.count
  here-begun = subst (λ (o : ℕ). o < config.count) (sym begun-same.output) here

  once-now : (x : Course) (es : List Event) (n : ℕ) → Chain (way_of begun) (d []) x (d es) n → x.twice ≡ None
  once-now x es n chain = (engine-says x es n chain).once

  allows-now : (x : Course) (es : List Event) (n : ℕ) (cell : Cell) (word : ℕ) → Chain (way_of begun) (d []) x (d es) n →
      next_by (d es).guard x ≡ said.Job (job.Order cell word) →
      is_allowed (word_at (d es).held.words Protect) (cell_code cell) ≡ true
  allows-now x es n cell word chain names = (engine-says x es n chain).allowed cell word names

  abbrev Stand : FrameCourse → Bool → ℕ → List Event → Type 0
  Stand c own n later = way.Stand laws jobs-laws apart read.origin config passes part limits before spelled begun begun-fresh here-begun
      (Some wanted) names-since once-now allows-now c own n later

  -- ---- How it ends ----

  -- a course that has ended did so as its way
  pub record WayEnds (s : Summary) (l : OutputLimits) (c : FrameCourse) (end : CourseEnd) : Type 0 where
    pub apply : ApplyEnd
    pub says' : end ≡ end_of c.fault apply
    pub next' : next_of part l s (way_of c) ≡ said.Ended apply

  module _ (c : FrameCourse) (later : List Event) (n : ℕ) (same : Same c) (lived : IsLived config passes (later ++ before))
      (chain : Went c.course later n) (fresh : last_end c.end ≡ None) where
    abbrev s : Summary
    s = (at later).host

    abbrev l : OutputLimits
    l = lim later c

    known-ends : ChainEnds output wanted most n (d []) (d later) (way_of c)
    known-ends = engine-says (way_of c) later n chain

    there-here : missing_of part c ≡ None
    there-here = ap (λ (p : Option Wanted). missing_in part (wanted_in p) c.voltages) same.plan'
        ∙ (ap (λ (v : Voltages). missing_in part words v) same.voltages ∙ there)

    source-here : source_of s c.course c.course.byte ≡ None
    source-here = way.no-source laws jobs-laws apart read.origin config passes part limits before spelled begun begun-fresh here-begun
        (Some wanted) names-since once-now allows-now c later lived (since-begun c same) begun-same.byte
        (λ e. subst (λ (o : ℕ). is_possible (output_words_of (d later).held o Operation) (possible_at s (Out o Operation)) ≡ true)
        (sym begun-same.output) (known-ends.may Operation e))

    -- without a format the words that are wanted as such are those that it goes by
    by-formed : (r : Result Wanted Refusal) → AreFormed (format_now s c.course) (wanted_in c.course.survey.plan) c.voltages r →
        (f : Wanted) × (r ≡ Ok f) × ((format_now s c.course ≡ None) → f ≡ words)
    by-formed r are = go (format_now s c.course) refl r are where
      format-is : (shape : Shape) → format_now s c.course ≡ Some shape → shape ≡ shape_for config output
      format-is shape e = by c.course.survey.learned refl e where
        by : (b : Bool) → c.course.survey.learned ≡ b → (if b then format_at s c.course.survey.output else None) ≡ Some shape →
            shape ≡ shape_for config output
        by true e' h = (laws.formats.agree config passes (later ++ before) spelled lived).held output shape
            (sym (ap (λ (o : ℕ). format_at s o) same.output) ∙ h)
        by false e' h = cc

      go : (o : Option Shape) → format_now s c.course ≡ o → (q : Result Wanted Refusal) →
          AreFormed o (wanted_in c.course.survey.plan) c.voltages q → (f : Wanted) × (q ≡ Ok f) × ((o ≡ None) → f ≡ words)
      go None e (Ok f) a = let is : f ≡ wanted_in c.course.survey.plan = cc in
          (f, refl, λ none. is ∙ ap wanted_in same.plan')
      go None e (Err x) a = cc
      go (Some shape) e (Ok f) a = (f, refl, λ none. let bad : Some shape ≡ None = none in cc)
      go (Some shape) e (Err x) a =
          let one : Some x ≡ None = a.0 ∙ (ap₂ (λ (h : Shape) (v : Voltages). meant_faults h v) (format-is shape e)
          same.voltages ∙ sym means.0) in cc

    wanted-there : missing_fault part (wants_of wanted) ≡ None
    wanted-there = none-missing part (shape_for config output) words voltages wanted means.1 there

    ends-way : (is : FrameCourse) (end : CourseEnd) → SaysNext part l s c (Ended end) is → WayEnds s l c end
    ends-way is end says' = go (by-formed says'.words says'.formed) where
      go : (f : Wanted) × (says'.words ≡ Ok f) × ((format_now s c.course ≡ None) → f ≡ words) → WayEnds s l c end
      go (f, words-are, plain') = by (to.known laws config passes part output words wanted voltages tries
          before spelled here means l later c f
          says'.words words-are same lived says'.formed) where
            said' : saying part l s c says'.words ≡ saying_planned part l s c (Ok f)
            said' = says.by-words part l s c says'.words f fresh known-ends.idle there-here source-here words-are

            got : (apply : ApplyEnd) × (end ≡ end_of c.fault apply) × (next_of part l s (says.way_to part l s c f) ≡ said.Ended apply)
            got = way.ended-way s c (after_next part l s (says.way_to part l s c f))
                (next_of part l s (says.way_to part l s c f)) end same.byte
                (ap (λ (x : Says). x.next) (sym said') ∙ sym says'.next)

            by : to.Knows laws config passes part output words wanted voltages tries before spelled here means
                l later c f → WayEnds s l c end
            by (to.knows planned) = record {
              apply = got.0;
              says' = got.1;
              next' = subst (λ (p : Option Wanted). next_of part l s (with_plan c.course p) ≡ said.Ended got.0) planned got.2;
            }
            by (to.learning unlearned) = record {
              apply = got.0;
              says' = got.1;
              next' = says.next-due part l s (way_of c) known-ends.idle same.byte unlearned known-ends.once wanted-there
                  ∙ (sym (says.next-due part l s (says.way_to part l s c f) known-ends.idle same.byte unlearned
                  known-ends.once missing-none) ∙ got.2);
            }
              where
                unformed : format_now s c.course ≡ None
                unformed = un unlearned where
                  un : says.IsUnlearned part l s (says.way_to part l s c f) → format_now s c.course ≡ None
                  un (inl e) = ap (λ (b : Bool). if b then format_at s c.course.survey.output else None) e
                  un (inr e) = if-none c.course.survey.learned e where
                    if-none : (b : Bool) → format_at s c.course.survey.output ≡ None →
                        (if b then format_at s c.course.survey.output else None) ≡ None
                    if-none true h = h
                    if-none false h = refl

                missing-none : missing_fault part (wants_of (wanted_in (planning c.course f))) ≡ None
                missing-none = ap (λ (p : Option Wanted). missing_fault part
                    (wants_of (wanted_in (if is_some p then Some f else None)))) same.plan'
                    ∙ (ap (λ (w : Wanted). missing_fault part (wants_of w)) (plain' unformed) ∙ words-missing part words voltages there)

    ends-so : (is : FrameCourse) (end : CourseEnd) → SaysNext part l s c (Ended end) is →
        EndsSo output wanted (d []) (d later) c end
    ends-so is end says' =
        let w = ends-way is end says' in
        record { way = w.apply; says = w.says'; ends = known-ends.ends w.apply w.next' }

    -- a job that it says is refused by nothing, and none too many
    free-job : (is : FrameCourse) (j : Asked) → SaysNext part l s c (Job j) is → (n + 1 ≤ most) × (guard_fault (d later).guard j ≡ None)
    free-job is j says' =
        let named = names-now l c is later j same lived says' in (
          known-ends.more j named.next,
          laws.ends.free (d later).guard (way_of c) j same.byte
              (subst (λ (o : ℕ). o < s.setup.outputs) (sym same.output)
              (subst (λ (k : ℕ). output < k) (sym (same-outputs config passes (later ++ before))) here)) named.next,
        )

  by-stand : (c : FrameCourse) (own : Bool) (n : ℕ) (later : List Event) → IsLived config passes (later ++ before) → Same c →
      Stand c own n later → (own ≡ true → is_busy (at later).host ≡ true) → GetsThere output wanted most (d []) (d later) c own n
  by-stand c own n later lived same (frames.idle_now f k es chain fresh) sends = record {
    few = (engine-says (way_of c) later n chain).few;
    sends = sends;
    free = λ e is j says'. free-job c later n same lived chain fresh is j says';
    ends = λ e is end says'. ends-so c later n same lived chain fresh is end says';
  }
  by-stand c own n later lived same (frames.open_now f k all es mid j many open' asked' fresh injob) sends = record {
    few = let more = (engine-says open'.x mid k open'.chain).more j open'.names' in omega arith;
    sends = sends;
    free = λ e is end says'. cc;
    ends = λ e is end says'. cc;
  }

  pub got : (c : FrameCourse) (own : Bool) (n : ℕ) (later : List Event) → IsLived config passes (later ++ before) →
      IsUndisturbed config passes part limits begun before c own n later →
      GetsThere output wanted most (d []) (d later) c own n
  got c own n later lived is =
      let stands = way.stand laws jobs-laws apart read.origin config passes part limits before spelled begun begun-fresh here-begun
      (Some wanted) names-since once-now allows-now c own n later lived is in
      let same = way.same-of laws jobs-laws apart read.origin config passes part limits before spelled begun begun-fresh here-begun
      (Some wanted) names-since once-now allows-now lived is in
      by-stand c own n later lived (from-begun c same) stands (way.sends laws jobs-laws apart read.origin config passes part limits before
      spelled begun begun-fresh here-begun (Some wanted) names-since once-now allows-now c own n later stands)

module _ (laws : Given) (jobs-laws : jobs.Given) (apart : CellsAreToldApart) (engine : ChainsEnd) (read : Reading) where
  begins-there : BeginsThere
  begins-there config passes part limits output words wanted voltages tries c own n later before spelled lived here
      means idle there fits enough is =
      let first = laws.lives.earlier config passes later before lived in
      got laws jobs-laws apart read config passes part limits output words wanted voltages tries before spelled here means there
      (going_on (course_of output words tries) voltages) (record { output = refl; plan' = refl; byte = refl; voltages = refl }) refl
      (tries_for (limits_at (pair_at part limits config passes before).guard output)
      (now config passes before).device output (wants_of wanted))
      (λ x es k chain. engine.begins output wanted tries k (pair_at part limits config passes before)
      (pair_at part limits config passes (es ++ before)) x
      (lives-at part limits config passes before spelled first) idle
      (subst (λ (k : ℕ). output < k) (sym (same-outputs config passes before)) here) fits enough chain)
      c own n later lived is

  goes-there : GoesThere
  goes-there config passes part limits output words wanted voltages tries begun c own mine n later earlier before
      spelled lived here means course idle on once many stand there fits is =
      let moment = earlier ++ before in
      let first = laws.lives.earlier config passes later moment lived in
      let same = (says.stands-all laws.followed laws.lives config passes part
      (going_on (course_of output words tries) voltages) before (Some wanted)
      (to.wishes_names laws config passes part output words wanted voltages tries before spelled here means) begun
      mine earlier first course).same in
      let held = (read.possible.held config passes moment first) in
      got laws jobs-laws apart read config passes part limits output words wanted voltages tries moment spelled here means there
      begun (record { output = same.output; plan' = same.plan'; byte = same.byte; voltages = same.voltages }) on 28
      (λ x es k chain. engine.goes_on output wanted k (pair_at part limits config passes moment)
      (pair_at part limits config passes (es ++ moment))
      (with_plan begun.course (Some wanted)) x (lives-at part limits config passes moment spelled first) idle
      (subst (λ (k : ℕ). output < k) (sym (same-outputs config passes moment)) here) fits (record {
        own = same.output;
        plan = refl;
        byte = same.byte;
        once = once;
        may = λ register read'. held.held (Out output register) here
            (subst (λ (o : ℕ). restarted_since config passes (Out o register) moment ≡ false) same.output (stand.registers register read'));
        protect = λ read'. held.held Protect tt (stand.protect read');
      }) many chain)
      c own n later lived is

-- a part with every register has what is wanted
all-there : (r : Reg) → has_register all_registers r ≡ true
all-there Operation = refl
all-there VoutCommand = refl
all-there VoutMax = refl
all-there MarginHigh = refl
all-there MarginLow = refl
all-there VoutMin = refl

whole-there : (words : Wanted) (voltages : Voltages) → missing_in all_registers words voltages ≡ None
whole-there words voltages = ap (λ (r : Option Reg). option_map missing_at r) (unfound volts) where
  unfound : (list : List Reg) → find (is_missing all_registers words voltages) list ≡ None
  unfound [] = refl
  unfound (r ∷ rest) = ap (λ (b : Bool). if b then Some r else find (is_missing all_registers words voltages) rest)
      (ap (λ (b : Bool). (is_some (wants_of words r) || is_some (voltage_of voltages r)) && not b) (all-there r)
      ∙ and-false (is_some (wants_of words r) || is_some (voltage_of voltages r))) ∙ unfound rest

whole-fits : (held : Held) (output : ℕ) (wants : Wants) → FitsPart all_registers held output wants
whole-fits held output wants = record {
  wanted = ap (λ (r : Option Reg). option_map (λ register. MissingRegister register) r) (unfound volts);
  selected = all-there (selected_register (output_words_of held output Operation));
  missing = never;
}
  where
    unfound : (list : List Reg) → find (is_wanted_missing all_registers wants) list ≡ None
    unfound [] = refl
    unfound (r ∷ rest) = ap (λ (b : Bool). if b then Some r else find (is_wanted_missing all_registers wants) rest)
        (ap (λ (b : Bool). is_some (wants r) && not b) (all-there r) ∙ and-false (is_some (wants r))) ∙ unfound rest

    never : (r : Reg) (w : ℕ) → missing_word all_registers (shape_for held.config output) r ≡ Some w → output_words_of held output r ≡ w
    never VoutMax w m = cc
    never VoutMin w m = cc
    never r w m = cc

pub get-there : Given → jobs.Given → CellsAreToldApart → ChainsEnd → Reading → FrameCoursesGetThere
get-there laws jobs-laws apart engine read = record {
  begins = begins-there laws jobs-laws apart engine read;
  goes_on = goes-there laws jobs-laws apart engine read;
  switches = switches-there laws.lives jobs-laws apart engine;
  surveys = surveys-there laws jobs-laws apart read.origin engine;
  whole = λ words voltages held output wants. (whole-there words voltages, whole-fits held output wants);
}
