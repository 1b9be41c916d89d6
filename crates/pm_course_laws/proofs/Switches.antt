-- A course to a byte of OPERATION gets there.
use Rattle.std.proofs.Common.{◌≡◌, ◌<◌, ◌≤◌, ◌+◌, ℕ, Bool, true, false, List, [], ◌∷◌, ◌++◌, Option, Some, None, Result, Ok, Err, refl, ap, sym, subst, ◌∙◌, arith}
use Rattle.std.specs.Prelude.{◌&&◌, if◌then◌else◌, is_some}
use Rattle.pm_num.specs.AnyFormat.{Shape}
use Rattle.pm_table.specs.declared.cell.Cell.{Cell}
use Rattle.pm_table.specs.declared.cell.Cell.TheVariants.{Out, Protect}
use Rattle.pm_table.specs.declared.reg.Reg.TheVariants.{Operation}
use Rattle.pm_table.specs.Cell.{cell_code, register_code}
use Rattle.pm_table.specs.Laws.{CellsAreToldApart}
use Rattle.pm_table.specs.Operation.{has_on, selected_register}
use Rattle.pm_table.specs.Protection.{is_allowed}
use Rattle.pm_model.specs.Settings.{word_at}
use Rattle.pm_device.specs.declared.config.Config.{Config}
use Rattle.pm_host.specs.declared.job.Job.{Job as Asked}
use Rattle.pm_host.specs.declared.job.Job.TheVariants as job
use Rattle.pm_host.specs.declared.job.JobEnd.{JobEnd}
use Rattle.pm_host.specs.declared.host.Step.{Step as HostStep}
use Rattle.pm_host.specs.declared.host.Step.TheVariants.{Next, Ended as JobEnded}
use Rattle.pm_host.specs.declared.stage.Stage.{Stage}
use Rattle.pm_host.specs.Summary.{Summary, step_of}
use Rattle.pm_host.specs.Transcript.{Entry, Finished}
use Rattle.pm_limits.specs.declared.part_registers.PartRegisters.{PartRegisters}
use Rattle.pm_limits.specs.declared.output_limits.OutputLimits.{OutputLimits}
use Rattle.pm_limits.specs.Guard.{limits_at}
use Rattle.pm_rail.specs.declared.apply_end.ApplyEnd.{ApplyEnd}
use Rattle.pm_rail.specs.declared.course.Course.{Course}
use Rattle.pm_rail.specs.declared.next.Next.{Next as Said}
use Rattle.pm_rail.specs.declared.next.Next.TheVariants as said
use Rattle.pm_rail.specs.declared.wanted.Wanted.{Wanted}
use Rattle.pm_rail.specs.Course.{after_by, after_next, naming, next_by, next_of, power_course_of, renewed, told_of}
use Rattle.pm_rail.specs.Lemmas.Says.{differing-same, ended-same, renewed-so}
use Rattle.pm_rail.specs.Survey.{wanted_in}
use Rattle.pm_course.specs.declared.course_end.CourseEnd.{CourseEnd}
use Rattle.pm_course.specs.declared.course_end.CourseEnd.TheVariants.{Reached}
use Rattle.pm_course.specs.declared.course_end.CourseNext.TheVariants.{Job, Ended}
use Rattle.pm_course.specs.declared.course_end.Refusal.{Refusal}
use Rattle.pm_course.specs.declared.frame_course.FrameCourse.{FrameCourse}
use Rattle.pm_course.specs.declared.voltages.Voltages.{Voltages}
use Rattle.pm_rail.specs.declared.fault.PlanFault.TheVariants.{Protected}
use Rattle.pm_course.specs.Ends.{end_of, refusal_of_plan}
use Rattle.pm_course.specs.FrameCourse.{Says, SaysNext, asked_for, asking_for, format_now, is_turning, last_end, missing_of, protect_in, saying_for, saying_next, source_of, to_byte, turn, turning, with_plan}
use Rattle.pm_course.specs.Heard.{forgetting, heard_by, is_job_of, mode_told, noting, stepped}
use Rattle.pm_course.specs.Surprise.{surprises}
use Rattle.pm_course.specs.Wishes.{AreFormed, meant_faults, missing_in, no_voltages}
use Rattle.pm_world.specs.declared.event.Arrival.TheVariants.{Whole}
use Rattle.pm_world.specs.declared.event.Event.{Event}
use Rattle.pm_world.specs.declared.event.Event.TheVariants as event
use Rattle.pm_world.specs.Honest.{IsSpelled}
use Rattle.pm_world.specs.Lemmas.Hosts.{same-outputs}
use Rattle.pm_world.specs.Life.{now}
use Rattle.pm_world.specs.Lived.{EventsAreLived, IsLived}
use Rattle.pm_course_laws.specs.Chains.{ByteChain, ByteEnds, ChainsEnd, IsAskedFor, IsSwitched, Pair, Step, byte_tries, forgotten, is_surprised, none_yet, one_on}
use Rattle.pm_course_laws.specs.Progress.{GetsSwitched, IsUndisturbed, SwitchesThere, asks, begins, pair_at, reads, writes}
use Rattle.pm_course_laws.proofs.CourseFrames as frames
use Rattle.pm_course_laws.proofs.CourseFrames.{Closed, IsPlain, Opened, check, learn, lives-at, order, plain-so}
use Rattle.pm_course_laws.proofs.Jobs as jobs
use Rattle.pm_course_laws.proofs.Said as says
use Rattle.pm_course_laws.proofs.Said.{own-plan, ended-voltages, is_learn, told-forgets}

-- what is asked for in the place of a job is a read or an order too
asked-plain : (s : Summary) (course : Course) (byte : ℕ) (j k : Asked) → IsPlain j → asked_for s course (Some byte) j ≡ Ok k → IsPlain k
asked-plain s course byte j k plain is = go (has_on byte && is_turning s course j) is where
  same : (a b : Asked) → ◌≡◌ {A = Result Asked Refusal} (Ok a) (Ok b) → IsPlain a → IsPlain b
  same a b e p = let one : a ≡ b = cc in subst (λ (x : Asked). IsPlain x) one p

  turned : (read : Bool) → ◌≡◌ {A = Result Asked Refusal} (Ok (if read then job.Order (Out course.survey.output Operation) byte
      else job.Check (Out course.survey.output (selected_register byte)))) (Ok k) → IsPlain k
  turned true e = same (job.Order (Out course.survey.output Operation) byte) k e (order (Out course.survey.output Operation) byte)
  turned false e = same (job.Check (Out course.survey.output (selected_register byte))) k e
      (check (Out course.survey.output (selected_register byte)))

  by : (p : Option ℕ) → turning course byte p ≡ Ok k → IsPlain k
  by None e = same (job.Check Protect) k e (check Protect)
  by (Some protect) e = allowing (is_allowed protect (register_code Operation)) e where
    allowing : (a : Bool) → (if a then Ok (turn course byte) else Err (refusal_of_plan (Protected Operation))) ≡ Ok k → IsPlain k
    allowing true h = turned _ h
    allowing false h = cc

  go : (b : Bool) → (if b then turning course byte (protect_in s course) else Ok j) ≡ Ok k → IsPlain k
  go true e = by (protect_in s course) e
  go false e = same j k e plain

-- what became of a frame leaves the voltages
heard-voltages : (c : FrameCourse) (addr : ℕ) (stage : Stage) (entry : Entry) (surprised : Bool) (step : HostStep) →
    (heard_by c addr stage entry surprised step).voltages ≡ c.voltages
heard-voltages c addr stage entry surprised step = go (is_job_of c.course.survey.asked stage) step where
  go : (mine : Bool) (step : HostStep) →
      (if mine then stepped (noting c addr stage entry surprised) addr stage entry step else c).voltages ≡ c.voltages
  go false step = refl
  go true Next = refl
  go true (JobEnded end) = ended-voltages (record (noting c addr stage entry surprised) {
    course = told_of (noting c addr stage entry surprised).course end;
  }) (mode_told addr stage entry end) (told_of (noting c addr stage entry surprised).course end).twice

-- a course with no voltages has its words, whatever the format
pub formed-so : (v : Voltages) → v ≡ no_voltages → (f : Option Shape) (words : Wanted) (r : Result Wanted Refusal) → AreFormed f words v r →
    (w : Wanted) × (r ≡ Ok w)
formed-so v none None words (Ok w) a = (w, refl)
formed-so v none None words (Err x) a = cc
formed-so v none (Some shape) words (Ok w) a = (w, refl)
formed-so v none (Some shape) words (Err x) a =
    let one : Some x ≡ None = a.0 ∙ ap (λ (u : Voltages). meant_faults shape u) none in cc

module _ (lives : EventsAreLived) (jobs-laws : jobs.Given) (apart : CellsAreToldApart) (config : Config) (passes : ℕ) (part : PartRegisters)
    (limits : List OutputLimits) (output byte tries most : ℕ) (before : List Event) (spelled : IsSpelled config)
    (engine-says : (x : Course) (es : List Event) (n : ℕ) →
    ByteChain byte (power_course_of output byte tries) (pair_at part limits config passes before) x
    (pair_at part limits config passes (es ++ before)) n →
    ByteEnds output byte most n (pair_at part limits config passes before) (pair_at part limits config passes (es ++ before)) x) where
  abbrev d : List Event → Pair
  d es = pair_at part limits config passes (es ++ before)

  abbrev host_at : List Event → Summary
  host_at es = (now config passes (es ++ before)).host

  abbrev lim : List Event → FrameCourse → OutputLimits
  lim es c = limits_at (d es).guard c.course.survey.output

  abbrev IsSwitchedNow : List Event → Type 0
  IsSwitchedNow es = IsSwitched output byte (d []) (d es)

  abbrev IsAskedNow : List Event → Asked → Type 0
  IsAskedNow es j = IsAskedFor output byte (d []) (d es) j

  -- how its way stands, and its open job
  abbrev Went : Course → List Event → ℕ → Type 0
  Went x es n = ByteChain byte (power_course_of output byte tries) (d []) x (d es) n

  record Open (x : Course) (mid : List Event) (j : Asked) (n : ℕ) : Type 0 where
    y : Course
    named : Asked
    chain : ByteChain byte (power_course_of output byte tries) (d []) y (d mid) n
    names : next_by (d mid).guard y ≡ said.Job named
    asks' : asked_for (d mid).guard.host y (Some byte) named ≡ Ok j
    is : x ≡ asking_for y (after_by (d mid).guard y) named j

  -- what stays of its way
  record Kept (x : Course) : Type 0 where
    plan : x.survey.plan ≡ None
    byte' : x.byte ≡ Some byte

  kept-told : (x : Course) (end : JobEnd) → Kept x → Kept (told_of x end)
  kept-told x end k = record {
    plan = (ended-same x.survey x.survey.asked end).2 ∙ k.plan;
    byte' = (differing-same x x.survey.asked end).0 ∙ k.byte';
  }

  named-byte : (x : Course) (n : Said) → (naming x n).byte ≡ x.byte
  named-byte x (said.Job j) = refl
  named-byte x (said.Ended end) = refl

  kept : (x : Course) (p : Pair) (n : ℕ) → ByteChain byte (power_course_of output byte tries) (d []) x p n → Kept x
  kept x p n none_yet = record { plan = refl; byte' = refl }
  kept x p n (one_on was named j end middle last m again chain names asks' does sur) =
      let k = kept was middle m chain in
      let told = kept-told (asking_for was (after_by middle.guard was) named j) end (record {
        plan = k.plan;
        byte' = named-byte (renewed middle.guard.registers (limits_at middle.guard was.survey.output) middle.guard.host was)
            (next_by middle.guard was)
            ∙ (renewed-so (λ (c : Course). c.byte ≡ was.byte) middle.guard.registers
            (limits_at middle.guard was.survey.output) middle.guard.host
            was refl refl ∙ k.byte');
      }) in
      record { plan = told.plan; byte' = told.byte' }

  -- its way is the course's, with no words
  own-way : (later : List Event) (c : FrameCourse) (formed : Wanted) → Kept c.course →
      says.way_to part (lim later c) (host_at later) c formed ≡ c.course
  own-way later c formed k = ap (λ (p : Option Wanted). with_plan c.course (if is_some p then Some formed else None)) k.plan
      ∙ own-plan c.course None k.plan

  opens : (c is : FrameCourse) (n : ℕ) (later : List Event) (j : Asked) →
      IsUndisturbed config passes part limits (to_byte output byte tries) before c false n later → IsLived config passes (later ++ before) →
      Went c.course later n → SaysNext part (lim later c) (host_at later) c (Job j) is → Opened Open is later j n
  opens c is n later j was lived chain says' = by (says.turned part (lim later c) (host_at later) c j is says') where
    k : Kept c.course
    k = kept c.course (d later) n chain

    by : says.TurnedBy part (lim later c) (host_at later) c says'.words j is → Opened Open is later j n
    by all =
        let t = all.turned in
        let way = own-way later c all.formed k in
        let names = subst (λ (x : Course). next_of part (lim later c) (host_at later) x ≡ said.Job t.named) way t.next in
        let asked-is : asked_for (host_at later) c.course (Some byte) t.named ≡ Ok j =
        subst (λ (b : Option ℕ). asked_for (host_at later) c.course b t.named ≡ Ok j) k.byte' t.asked in
        record {
          way = record {
            y = c.course;
            named = t.named;
            chain = chain;
            names = names;
            asks' = asked-is;
            is = t.course ∙ ap (λ (x : Course). asking_for c.course (after_next part (lim later c) (host_at later) x) t.named j) way;
          };
          plain = asked-plain (host_at later) c.course byte t.named j
              (plain-so part (lim later c) (host_at later) c.course t.named names) asked-is;
          asked = ap (λ (x : Course). x.survey.asked) t.course;
        }

  not-learn : (mid : List Event) (k : Asked) → is_surprised k (d mid) ≡ true → is_learn k ≡ false
  not-learn mid (job.Check cell) h = refl
  not-learn mid (job.Learn o) h = cc
  not-learn mid (job.Order cell word) h = cc
  not-learn mid (job.OrderMicro cell w) h = cc
  not-learn mid (job.Send command) h = cc

  closes : (x : Course) (mid new : List Event) (j : Asked) (n : ℕ) (b : Bool) (end : JobEnd) → Open x mid j n → x.survey.asked ≡ Some j →
      (b ≡ true → is_surprised j (d mid) ≡ true) → Step j end (d mid) (d new) →
      Closed Went (told_of (if b then forgetting x else x) end) new (n + 1)
  closes x mid new j n b end way asked' surprised step =
      let chained = one_on way.y way.named j end (d mid) (d new) n b way.chain way.names way.asks' step surprised in
      let is : told_of (if b then forgetting x else x) end ≡ forgotten b
      (told_of (asking_for way.y (after_by (d mid).guard way.y) way.named j) end)
      = told b (λ e. not-learn mid j (surprised e)) ∙ ap (λ (y : Course). forgotten b (told_of y end)) way.is in
      record {
        went = subst (λ (y : Course). Went y new (n + 1)) (sym is) chained;
        once = ap (λ (y : Course). y.twice) is ∙ (engine-says _ new (n + 1) chained).once;
      }
    where
      told : (a : Bool) → (a ≡ true → is_learn j ≡ false) → told_of (if a then forgetting x else x) end ≡ forgotten a (told_of x end)
      told false free = refl
      told true free = told-forgets x j end asked' (free refl)

  allowed : (x : Course) (mid : List Event) (cell : Cell) (word n : ℕ) → Open x mid (job.Order cell word) n →
      is_allowed (word_at (d mid).held.words Protect) (cell_code cell) ≡ true
  allowed x mid cell word n way = ((engine-says way.y mid n way.chain).asks way.named (job.Order cell word) way.names
      way.asks').1.allowed cell word refl

  -- it has no voltages
  no-wish : (c : FrameCourse) (own : Bool) (n : ℕ) (later : List Event) →
      IsUndisturbed config passes part limits (to_byte output byte tries) before c own n later → c.voltages ≡ no_voltages
  no-wish c own n later begins = refl
  no-wish c own n later (asks was is m earlier one j un says' asked') =
      (says.turned part (lim earlier was) (host_at earlier) was j c says').turned.voltages ∙ no-wish was false m earlier un
  no-wish c own n later (writes was m earlier stage un open' kind) =
      let h = host_at (event.Deliver Whole ∷ earlier) in
      heard-voltages was h.setup.addr stage (Finished true) (surprises h stage (Finished true)) (step_of h (Finished true))
      ∙ no-wish was true m earlier un
  no-wish c own n later (reads was m earlier stage entry un open' kind told') =
      let h = host_at earlier in
      heard-voltages was h.setup.addr stage entry (surprises h stage entry) (step_of h entry) ∙ no-wish was true m earlier un

  module _ (c : FrameCourse) (later : List Event) (n : ℕ) (chain : Went c.course later n) (fresh : last_end c.end ≡ None)
      (none : c.voltages ≡ no_voltages) where
    abbrev s : Summary
    s = host_at later

    abbrev l : OutputLimits
    l = lim later c

    known-ends : ByteEnds output byte most n (d []) (d later) c.course
    known-ends = engine-says c.course later n chain

    k : Kept c.course
    k = kept c.course (d later) n chain

    there-here : missing_of part c ≡ None
    there-here = ap (λ (p : Option Wanted). missing_in part (wanted_in p) c.voltages) k.plan
        ∙ ap (λ (v : Voltages). missing_in part (wanted_in None) v) none

    source-here : source_of s c.course c.course.byte ≡ None
    source-here = ap (λ (b : Option ℕ). source_of s c.course b) k.byte'

    ended-by : (after : Course) (said' : Said) (end : CourseEnd) → (saying_next s c after said').next ≡ Ended end →
        next_of part l s c.course ≡ said' →
        (apply : ApplyEnd) × (end ≡ end_of c.fault apply) × (next_of part l s c.course ≡ said.Ended apply)
    ended-by after (said.Ended apply) end is next = let same : end_of c.fault apply ≡ end = cc in (apply, sym same, next)
    ended-by after (said.Job named) end is next = absurd (go (asked_for s c.course c.course.byte named) refl is) where
      go : (r : Result Asked Refusal) → asked_for s c.course c.course.byte named ≡ r → (saying_for c after named r).next ≡ Ended end → ⊥
      go (Ok j) e h = cc
      go (Err refusal) e h = known-ends.unrefused named refusal next
          (subst (λ (b : Option ℕ). asked_for s c.course b named ≡ Err refusal) k.byte' e)

    ends-so : (is : FrameCourse) (end : CourseEnd) → SaysNext part l s c (Ended end) is →
        (end ≡ Reached) × IsSwitchedNow later
    ends-so is end says' = by (formed-so c.voltages none (format_now s c.course) (wanted_in c.course.survey.plan) says'.words says'.formed) where
      by : (w : Wanted) × (says'.words ≡ Ok w) → (end ≡ Reached) × IsSwitchedNow later
      by (w, words-are) =
          let said' = says.by-words part l s c says'.words w fresh known-ends.idle there-here source-here words-are in
          let way = own-way later c w k in
          let is-next : (saying_next s c (after_next part l s c.course) (next_of part l s c.course)).next ≡ Ended end =
          subst (λ (x : Course). (saying_next s c (after_next part l s x) (next_of part l s x)).next ≡ Ended end) way
          (ap (λ (x : Says). x.next) (sym said') ∙ sym says'.next) in
          let e = ended-by (after_next part l s c.course) (next_of part l s c.course) end is-next refl in
          let got = known-ends.ends e.0 e.2 in
          (e.1 ∙ ap (λ (a : ApplyEnd). end_of c.fault a) got.0, got.1)

    free-job : (is : FrameCourse) (j : Asked) → SaysNext part l s c (Job j) is → (n + 1 ≤ most) × IsAskedNow later j
    free-job is j says' = by (says.turned part l s c j is says') where
      by : says.TurnedBy part l s c says'.words j is → (n + 1 ≤ most) × IsAskedNow later j
      by all = known-ends.asks all.turned.named j
          (subst (λ (x : Course). next_of part l s x ≡ said.Job all.turned.named) (own-way later c all.formed k) all.turned.next)
          (subst (λ (b : Option ℕ). asked_for s c.course b all.turned.named ≡ Ok j) k.byte' all.turned.asked)

  abbrev Stand : FrameCourse → Bool → ℕ → List Event → Type 0
  Stand c own n later = frames.Stand jobs-laws apart config passes part limits before spelled
      (to_byte output byte tries) refl Went Open none_yet
      opens allowed closes c own n later

  by-stand : (c : FrameCourse) (own : Bool) (n : ℕ) (later : List Event) → c.voltages ≡ no_voltages → Stand c own n later →
      GetsSwitched output byte most (d []) (d later) c own n
  by-stand c own n later none (frames.idle_now f k' es chain fresh) = record {
    few = (engine-says c.course later n chain).few;
    sends = λ e. cc;
    free = λ e is j says'. free-job c later n chain fresh none is j says';
    ends = λ e is end says'. ends-so c later n chain fresh none is end says';
  }
  by-stand c own n later none (frames.open_now f k' all es mid j many way asked' fresh injob) = record {
    few = let more = ((engine-says way.y mid k' way.chain).asks way.named j way.names way.asks').0 in omega arith;
    sends = λ e. frames.busy-so jobs-laws apart config passes part limits before spelled (to_byte output byte tries) refl Went Open none_yet
        opens allowed closes mid later j injob;
    free = λ e is end says'. cc;
    ends = λ e is end says'. cc;
  }

  pub got : (c : FrameCourse) (own : Bool) (n : ℕ) (later : List Event) → IsLived config passes (later ++ before) →
      IsUndisturbed config passes part limits (to_byte output byte tries) before c own n later →
      GetsSwitched output byte most (d []) (d later) c own n
  got c own n later lived is = by-stand c own n later (no-wish c own n later is)
      (frames.stand jobs-laws apart config passes part limits before spelled (to_byte output byte tries) refl Went Open none_yet
      opens allowed closes c own n later is lived)

pub switches-there : EventsAreLived → jobs.Given → CellsAreToldApart → ChainsEnd → SwitchesThere
switches-there lives jobs-laws apart engine config passes part limits output byte tries c own n later before spelled lived
    here idle there may enough is =
    let first = lives.earlier config passes later before lived in
    got lives jobs-laws apart config passes part limits output byte tries
    (byte_tries (now config passes before).device output byte) before spelled
    (λ x es k chain. engine.switches output byte tries k (pair_at part limits config passes before)
    (pair_at part limits config passes (es ++ before)) x
    (lives-at part limits config passes before spelled first) idle
    (subst (λ (m : ℕ). output < m) (sym (same-outputs config passes before)) here) there may enough chain)
    c own n later lived is
