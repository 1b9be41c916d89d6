-- A survey gets there.
use Rattle.std.proofs.Common.{◌≡◌, ◌<◌, ◌≤◌, ◌+◌, ℕ, Bool, true, List, [], ◌++◌, Option, Some, None, Ok, refl, ap, sym, subst, ◌∙◌, arith}
use Rattle.std.specs.Prelude.{if◌then◌else◌, is_some}
use Rattle.pm_table.specs.declared.cell.Cell.{Cell}
use Rattle.pm_table.specs.declared.cell.Cell.TheVariants.{Protect}
use Rattle.pm_table.specs.declared.reg.Reg.TheVariants.{Operation}
use Rattle.pm_table.specs.Cell.{cell_code}
use Rattle.pm_table.specs.Laws.{CellsAreToldApart}
use Rattle.pm_table.specs.Protection.{is_allowed}
use Rattle.pm_model.specs.Settings.{word_at}
use Rattle.pm_device.specs.declared.config.Config.{Config}
use Rattle.pm_device.specs.Laws.{WordsHaveAnOrigin}
use Rattle.pm_host.specs.declared.job.Job.{Job as Asked}
use Rattle.pm_host.specs.declared.job.Job.TheVariants as job
use Rattle.pm_host.specs.Refusals.{is_busy}
use Rattle.pm_host.specs.Summary.{Summary}
use Rattle.pm_limits.specs.declared.part_registers.PartRegisters.{PartRegisters}
use Rattle.pm_limits.specs.declared.output_limits.OutputLimits.{OutputLimits}
use Rattle.pm_limits.specs.Guard.{guard_fault, limits_at}
use Rattle.pm_rail.specs.declared.apply_end.ApplyEnd.{ApplyEnd}
use Rattle.pm_rail.specs.declared.course.Course.{Course}
use Rattle.pm_rail.specs.declared.next.Next.TheVariants as said
use Rattle.pm_rail.specs.declared.wanted.Wanted.{Wanted}
use Rattle.pm_rail.specs.Course.{after_next, next_by, next_of, survey_course_of}
use Rattle.pm_rail.specs.Survey.{wanted_in}
use Rattle.pm_course.specs.declared.course_end.CourseEnd.{CourseEnd}
use Rattle.pm_course.specs.declared.course_end.CourseEnd.TheVariants.{Reached}
use Rattle.pm_course.specs.declared.course_end.CourseNext.TheVariants.{Job, Ended}
use Rattle.pm_course.specs.declared.frame_course.FrameCourse.{FrameCourse}
use Rattle.pm_course.specs.declared.voltages.Voltages.{Voltages}
use Rattle.pm_course.specs.Ends.{end_of}
use Rattle.pm_course.specs.FrameCourse.{Says, SaysNext, format_now, last_end, missing_of, saying, saying_planned, source_of, to_survey, with_plan}
use Rattle.pm_course.specs.Wishes.{missing_in}
use Rattle.pm_world.specs.declared.event.Event.{Event}
use Rattle.pm_world.specs.Honest.{IsSpelled}
use Rattle.pm_world.specs.Lemmas.Hosts.{same-outputs}
use Rattle.pm_world.specs.Life.{now}
use Rattle.pm_world.specs.Lived.{IsLived}
use Rattle.pm_course_laws.specs.Chains.{Chain, ChainsEnd, Pair, SurveyEnds}
use Rattle.pm_course_laws.specs.Progress.{GetsRead, IsUndisturbed, SurveysThere, pair_at}
use Rattle.pm_course_laws.proofs.ChainFrames as way
use Rattle.pm_course_laws.proofs.CourseFrames as frames
use Rattle.pm_course_laws.proofs.CourseFrames.{lives-at}
use Rattle.pm_course_laws.proofs.Jobs as jobs
use Rattle.pm_course_laws.proofs.Said as says
use Rattle.pm_course_laws.proofs.Said.{Given}
use Rattle.pm_course_laws.proofs.Worth.{survey-names}
use Rattle.pm_course_laws.proofs.Switches.{formed-so}

module _ (laws : Given) (jobs-laws : jobs.Given) (apart : CellsAreToldApart) (origin : WordsHaveAnOrigin) (config : Config) (passes : ℕ)
    (part : PartRegisters) (limits : List OutputLimits) (output tries most : ℕ) (before : List Event) (spelled : IsSpelled config)
    (here : output < config.count)
    (engine-says : (x : Course) (es : List Event) (n : ℕ) →
    Chain (survey_course_of output tries) (pair_at part limits config passes before) x (pair_at part limits config passes (es ++ before)) n →
    SurveyEnds output most n (pair_at part limits config passes before) (pair_at part limits config passes (es ++ before)) x) where
  abbrev d : List Event → Pair
  d es = pair_at part limits config passes (es ++ before)

  abbrev host_at : List Event → Summary
  host_at es = (now config passes (es ++ before)).host

  abbrev lim : List Event → FrameCourse → OutputLimits
  lim es c = limits_at (d es).guard c.course.survey.output

  abbrev way_of : FrameCourse → Course
  way_of c = with_plan c.course None

  abbrev Went : Course → List Event → ℕ → Type 0
  Went y es n = Chain (survey_course_of output tries) (d []) (with_plan y None) (d es) n

  abbrev Same : FrameCourse → Type 0
  Same c = says.Same laws.followed laws.lives config passes part (to_survey output tries) before None c

  once-now : (x : Course) (es : List Event) (n : ℕ) → Chain (survey_course_of output tries) (d []) x (d es) n → x.twice ≡ None
  once-now x es n chain = (engine-says x es n chain).once

  allows-now : (x : Course) (es : List Event) (n : ℕ) (cell : Cell) (word : ℕ) → Chain (survey_course_of output tries) (d []) x (d es) n →
      next_by (d es).guard x ≡ said.Job (job.Order cell word) → is_allowed (word_at (d es).held.words Protect) (cell_code cell) ≡ true
  allows-now x es n cell word chain names = absurd ((engine-says x es n chain).reads cell word names)

  abbrev Stand : FrameCourse → Bool → ℕ → List Event → Type 0
  Stand c own n later = way.Stand laws jobs-laws apart origin config passes part limits before spelled (to_survey output tries) refl here None
      (survey-names laws config passes part output tries before) once-now allows-now c own n later

  module _ (c : FrameCourse) (later : List Event) (n : ℕ) (same : Same c) (lived : IsLived config passes (later ++ before))
      (chain : Went c.course later n) (fresh : last_end c.end ≡ None) where
    abbrev s : Summary
    s = host_at later

    abbrev l : OutputLimits
    l = lim later c

    known-ends : SurveyEnds output most n (d []) (d later) (way_of c)
    known-ends = engine-says (way_of c) later n chain

    there : missing_of part c ≡ None
    there = ap (λ (p : Option Wanted). missing_in part (wanted_in p) c.voltages) same.plan'
        ∙ ap (λ (v : Voltages). missing_in part (wanted_in None) v) same.voltages

    source : source_of s c.course c.course.byte ≡ None
    source = way.no-source laws jobs-laws apart origin config passes part limits before spelled (to_survey output tries) refl here None
        (survey-names laws config passes part output tries before) once-now allows-now c later lived same refl (known-ends.may Operation)

    ends-so : (is : FrameCourse) (end : CourseEnd) → SaysNext part l s c (Ended end) is →
        (end ≡ Reached) × ((d later).held.words ≡ (d []).held.words)
    ends-so is end says' = by (formed-so c.voltages same.voltages (format_now s c.course) (wanted_in c.course.survey.plan) says'.words
        says'.formed)
      where
        by : (w : Wanted) × (says'.words ≡ Ok w) → (end ≡ Reached) × ((d later).held.words ≡ (d []).held.words)
        by (w, words-are) =
            let said' : saying part l s c says'.words ≡ saying_planned part l s c (Ok w) =
            says.by-words part l s c says'.words w fresh known-ends.idle there source words-are in
            let got = way.ended-way s c (after_next part l s (says.way_to part l s c w)) (next_of part l s (says.way_to part l s c w)) end
            same.byte (ap (λ (x : Says). x.next) (sym said') ∙ sym says'.next) in
            let planned : (if is_some c.course.survey.plan then Some w else None) ≡ None =
            ap (λ (p : Option Wanted). if is_some p then Some w else None) same.plan' in
            let next : next_of part l s (way_of c) ≡ said.Ended got.0 =
            subst (λ (p : Option Wanted). next_of part l s (with_plan c.course p) ≡ said.Ended got.0) planned got.2 in
            (got.1 ∙ ap (λ (a : ApplyEnd). end_of c.fault a) (known-ends.ends got.0 next), known-ends.words)

    free-job : (is : FrameCourse) (j : Asked) → SaysNext part l s c (Job j) is → (n + 1 ≤ most) × (guard_fault (d later).guard j ≡ None)
    free-job is j says' =
        let named = survey-names laws config passes part output tries before l c is later j same lived says' in
        known-ends.more j named.next

  by-stand : (c : FrameCourse) (own : Bool) (n : ℕ) (later : List Event) → IsLived config passes (later ++ before) → Same c →
      Stand c own n later → (own ≡ true → is_busy (host_at later) ≡ true) → GetsRead most (d []) (d later) c own n
  by-stand c own n later lived same (frames.idle_now f k es chain fresh) sends = record {
    few = (engine-says (way_of c) later n chain).few;
    sends = sends;
    free = λ e is j says'. free-job c later n same lived chain fresh is j says';
    ends = λ e is end says'. ends-so c later n same lived chain fresh is end says';
  }
  by-stand c own n later lived same (frames.open_now f k all es mid j many open' asked' fresh injob) sends = record {
    few = let more = ((engine-says open'.x mid k open'.chain).more j open'.names').0 in omega arith;
    sends = sends;
    free = λ e is j says'. cc;
    ends = λ e is end says'. cc;
  }

  pub got : (c : FrameCourse) (own : Bool) (n : ℕ) (later : List Event) → IsLived config passes (later ++ before) →
      IsUndisturbed config passes part limits (to_survey output tries) before c own n later → GetsRead most (d []) (d later) c own n
  got c own n later lived is =
      let stands = way.stand laws jobs-laws apart origin config passes part limits before spelled (to_survey output tries) refl here None
      (survey-names laws config passes part output tries before) once-now allows-now c own n later lived is in
      by-stand c own n later lived
      (way.same-of laws jobs-laws apart origin config passes part limits before spelled (to_survey output tries) refl here None
      (survey-names laws config passes part output tries before) once-now allows-now lived is)
      stands (way.sends laws jobs-laws apart origin config passes part limits before spelled (to_survey output tries) refl here None
      (survey-names laws config passes part output tries before) once-now allows-now c own n later stands)

pub surveys-there : Given → jobs.Given → CellsAreToldApart → WordsHaveAnOrigin → ChainsEnd → SurveysThere
surveys-there laws jobs-laws apart origin engine config passes part limits output tries c own n later before spelled lived here idle there
    enough is =
    let first = laws.lives.earlier config passes later before lived in
    got laws jobs-laws apart origin config passes part limits output tries 10 before spelled here
    (λ x es k chain. engine.surveys output tries k (pair_at part limits config passes before) (pair_at part limits config passes (es ++ before)) x
    (lives-at part limits config passes before spelled first) idle
    (subst (λ (k : ℕ). output < k) (sym (same-outputs config passes before)) here) there enough chain)
    c own n later lived is
