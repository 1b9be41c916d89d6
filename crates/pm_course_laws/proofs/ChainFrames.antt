-- The frames of a course that goes its way by the jobs that this names, one to wishes or a survey, while nothing disturbs them.
use Rattle.std.proofs.Common.{◌≡◌, ◌+◌, ℕ, Bool, true, false, List, ◌++◌, Option, Some, None, Result, Ok, Err, refl, ap, sym, subst, ◌∙◌}
use Rattle.std.specs.Prelude.{◌<◌, [], if◌then◌else◌}
use Rattle.pm_table.specs.declared.cell.Cell.{Cell}
use Rattle.pm_table.specs.declared.cell.Cell.TheVariants.{Out, Protect}
use Rattle.pm_table.specs.declared.reg.Reg.TheVariants.{Operation}
use Rattle.pm_table.specs.Cell.{IsCell, cell_accepts, cell_code}
use Rattle.pm_table.specs.Laws.{CellsAreToldApart}
use Rattle.pm_table.specs.Protection.{is_allowed}
use Rattle.pm_model.specs.Settings.{word_at}
use Rattle.pm_device.specs.declared.config.Config.{Config}
use Rattle.pm_device.specs.Laws.{WordsHaveAnOrigin}
use Rattle.pm_host.specs.declared.job.Job.{Job as Asked}
use Rattle.pm_host.specs.declared.job.Job.TheVariants as job
use Rattle.pm_host.specs.declared.job.JobEnd.{JobEnd}
use Rattle.pm_host.specs.Possible.{is_possible}
use Rattle.pm_host.specs.Refusals.{is_busy}
use Rattle.pm_host.specs.Summary.{Summary, possible_at}
use Rattle.pm_limits.specs.declared.part_registers.PartRegisters.{PartRegisters}
use Rattle.pm_limits.specs.declared.output_limits.OutputLimits.{OutputLimits}
use Rattle.pm_limits.specs.Guard.{limits_at}
use Rattle.pm_rail.specs.declared.apply_end.ApplyEnd.{ApplyEnd}
use Rattle.pm_rail.specs.declared.course.Course.{Course}
use Rattle.pm_rail.specs.declared.next.Next.{Next as Said}
use Rattle.pm_rail.specs.declared.next.Next.TheVariants as said
use Rattle.pm_rail.specs.declared.wanted.Wanted.{Wanted}
use Rattle.pm_rail.specs.Course.{after_by, after_next, naming, next_by, next_of, renewed, told_of}
use Rattle.pm_rail.specs.Survey.{has_read}
use Rattle.pm_course.specs.declared.course_end.CourseEnd.{CourseEnd}
use Rattle.pm_course.specs.declared.course_end.CourseNext.TheVariants.{Job, Ended}
use Rattle.pm_course.specs.declared.course_end.Refusal.{Refusal}
use Rattle.pm_course.specs.declared.frame_course.FrameCourse.{FrameCourse}
use Rattle.pm_course.specs.Ends.{end_of}
use Rattle.pm_course.specs.FrameCourse.{SaysNext, asked_for, last_end, saying_for, saying_next, source_of, untaken_at, with_plan}
use Rattle.pm_course.specs.Heard.{forgetting}
use Rattle.pm_world.specs.declared.event.Event.{Event}
use Rattle.pm_world.specs.Honest.{IsSpelled}
use Rattle.pm_world.specs.Life.{life, now, state_of}
use Rattle.pm_world.specs.Lived.{IsLived}
use Rattle.pm_world.specs.State.{State}
use Rattle.pm_course_laws.specs.Chains.{Chain, Pair, Step, forgotten, is_surprised, no_job, one_more, output_words_of}
use Rattle.pm_course_laws.specs.Progress.{IsUndisturbed, pair_at}
use Rattle.pm_course_laws.proofs.ChainedSurveys.{sole-taken}
use Rattle.pm_course_laws.proofs.CourseFrames as frames
use Rattle.pm_course_laws.proofs.CourseFrames.{Closed, Opened, as-frames, plain-so}
use Rattle.pm_course_laws.proofs.Jobs as jobs
use Rattle.pm_course_laws.proofs.Said as ties
use Rattle.pm_course_laws.proofs.Said.{Given, is_learn, told-forgets, told-plan}

asked-named : (part : PartRegisters) (limits : OutputLimits) (s : Summary) (was : Course) (j : Asked) → next_of part limits s was ≡ said.Job j →
    (after_next part limits s was).survey.asked ≡ Some j
asked-named part limits s was j is = ap (λ (n : Said). (naming (renewed part limits s was) n).survey.asked) is

-- a course that was told how its job ended, to the words that its way is to
told-way : (x : Course) (plan : Option Wanted) (y : Course) (j : Asked) (end : JobEnd) (b : Bool) → with_plan x plan ≡ y →
    x.survey.asked ≡ Some j → (b ≡ true → is_learn j ≡ false) →
    with_plan (told_of (if b then forgetting x else x) end) plan ≡ forgotten b (told_of y end)
told-way x plan y j end false way asked' free = told-plan x plan end ∙ ap (λ (z : Course). told_of z end) way
told-way x plan y j end true way asked' free = told-plan (forgetting x) plan end
    ∙ (told-forgets (with_plan x plan) j end asked' (free refl) ∙ ap (λ (z : Course). forgetting (told_of z end)) way)

-- an end that it says is its way's
pub ended-way : (s : Summary) (c : FrameCourse) (after : Course) (n : Said) (end : CourseEnd) → c.course.byte ≡ None →
    (saying_next s c after n).next ≡ Ended end → (apply : ApplyEnd) × (end ≡ end_of c.fault apply) × (n ≡ said.Ended apply)
ended-way s c after (said.Ended apply) end byte is = let same : end_of c.fault apply ≡ end = cc in (apply, sym same, refl)
ended-way s c after (said.Job named) end byte is = go (asked_for s c.course c.course.byte named)
    (ap (λ (b : Option ℕ). asked_for s c.course b named) byte) is where
      go : (r : Result Asked Refusal) → r ≡ Ok named → (saying_for c after named r).next ≡ Ended end →
          (apply : ApplyEnd) × (end ≡ end_of c.fault apply) × (said.Job named ≡ said.Ended apply)
      go (Ok k) e h = cc
      go (Err k) e h = cc

module _ (laws : Given) (jobs-laws : jobs.Given) (apart : CellsAreToldApart) (origin : WordsHaveAnOrigin) (config : Config)
    (passes : ℕ) (part : PartRegisters) (limits : List OutputLimits) (before : List Event) (spelled : IsSpelled config)
    (begun : FrameCourse) (fresh : last_end begun.end ≡ None) (here : begun.course.survey.output < config.count) (plan : Option Wanted)
    (names : (l : OutputLimits) (c is : FrameCourse) (later : List Event) (j : Asked) →
    ties.Same laws.followed laws.lives config passes part begun before plan c → IsLived config passes (later ++ before) →
    SaysNext part l (now config passes (later ++ before)).host c (Job j) is →
    ties.Names laws.followed laws.lives config passes part begun before plan l c is later j)
    (once : (x : Course) (es : List Event) (n : ℕ) →
    Chain (with_plan begun.course plan) (pair_at part limits config passes before) x
    (pair_at part limits config passes (es ++ before)) n → x.twice ≡ None)
    (allows : (x : Course) (es : List Event) (n : ℕ) (cell : Cell) (word : ℕ) →
    Chain (with_plan begun.course plan) (pair_at part limits config passes before) x
    (pair_at part limits config passes (es ++ before)) n →
    next_by (pair_at part limits config passes (es ++ before)).guard x ≡ said.Job (job.Order cell word) →
    is_allowed (word_at (pair_at part limits config passes (es ++ before)).held.words Protect) (cell_code cell) ≡ true) where
  abbrev pub d : List Event → Pair
  d es = pair_at part limits config passes (es ++ before)

  abbrev pub at : List Event → State
  at es = now config passes (es ++ before)

  abbrev pub lim : List Event → FrameCourse → OutputLimits
  lim es c = limits_at (d es).guard c.course.survey.output

  abbrev pub way_of : FrameCourse → Course
  way_of c = with_plan c.course plan

  -- how its way stands, and its open job
  abbrev pub Went : Course → List Event → ℕ → Type 0
  Went y es n = Chain (way_of begun) (d []) (with_plan y plan) (d es) n

  pub record Open (y : Course) (mid : List Event) (j : Asked) (n : ℕ) : Type 0 where
    pub x : Course
    pub chain : Chain (way_of begun) (d []) x (d mid) n
    pub names' : next_by (d mid).guard x ≡ said.Job j
    pub after : with_plan y plan ≡ after_by (d mid).guard x

  abbrev pub Same : FrameCourse → Type 0
  Same c = ties.Same laws.followed laws.lives config passes part begun before plan c

  pub same-of : {c : FrameCourse} {own : Bool} {n : ℕ} {later : List Event} → IsLived config passes (later ++ before) →
      IsUndisturbed config passes part limits begun before c own n later → Same c
  same-of {c = c} {own = own} {later = later} lived is =
      (ties.stands-all laws.followed laws.lives config passes part begun before plan names c own later lived (as-frames is)).same

  pub opens : (c is : FrameCourse) (n : ℕ) (later : List Event) (j : Asked) →
      IsUndisturbed config passes part limits begun before c false n later →
      IsLived config passes (later ++ before) → Went c.course later n → SaysNext part (lim later c) (at later).host c (Job j) is →
      Opened Open is later j n
  opens c is n later j was lived chain says' =
      let named = names (lim later c) c is later j (same-of lived was) lived says' in
      record {
        way = record { x = way_of c; chain = chain; names' = named.next; after = named.after };
        plain = plain-so part (lim later c) (at later).host (way_of c) j named.next;
        asked = ap (λ (y : Course). y.survey.asked) named.after
            ∙ asked-named part (lim later c) (at later).host (way_of c) j named.next;
      }

  not-learn : (mid : List Event) (k : Asked) → is_surprised k (d mid) ≡ true → is_learn k ≡ false
  not-learn mid (job.Check cell) h = refl
  not-learn mid (job.Learn o) h = cc
  not-learn mid (job.Order cell word) h = cc
  not-learn mid (job.OrderMicro cell w) h = cc
  not-learn mid (job.Send command) h = cc

  pub closes : (y : Course) (mid new : List Event) (j : Asked) (n : ℕ) (b : Bool) (end : JobEnd) → Open y mid j n →
      y.survey.asked ≡ Some j → (b ≡ true → is_surprised j (d mid) ≡ true) → Step j end (d mid) (d new) →
      Closed Went (told_of (if b then forgetting y else y) end) new (n + 1)
  closes y mid new j n b end way asked' surprised step =
      let chained = one_more way.x j end (d mid) (d new) n b way.chain way.names' step surprised in
      let way-is = told-way y plan (after_by (d mid).guard way.x) j end b way.after asked' (λ e. not-learn mid j (surprised e)) in
      record {
        went = subst (λ (x : Course). Chain (way_of begun) (d []) x (d new) (n + 1)) (sym way-is) chained;
        once = ap (λ (x : Course). x.twice) way-is
            ∙ once (forgotten b (told_of (after_by (d mid).guard way.x) end)) new (n + 1) chained;
      }

  pub allowed : (x : Course) (mid : List Event) (cell : Cell) (word n : ℕ) → Open x mid (job.Order cell word) n →
      is_allowed (word_at (d mid).held.words Protect) (cell_code cell) ≡ true
  allowed x mid cell word n way = allows way.x mid n cell word way.chain way.names'

  abbrev pub Stand : FrameCourse → Bool → ℕ → List Event → Type 0
  Stand c own n later = frames.Stand jobs-laws apart config passes part limits before spelled begun fresh Went Open no_job opens allowed closes
      c own n later

  pub stand : (c : FrameCourse) (own : Bool) (n : ℕ) (later : List Event) → IsLived config passes (later ++ before) →
      IsUndisturbed config passes part limits begun before c own n later → Stand c own n later
  stand c own n later lived is = frames.stand jobs-laws apart config passes part limits before spelled begun fresh Went Open no_job opens
      allowed closes c own n later is lived

  -- while its job is open that has a frame to send
  pub sends : (c : FrameCourse) (own : Bool) (n : ℕ) (later : List Event) → Stand c own n later → own ≡ true → is_busy (at later).host ≡ true
  sends c own n later (frames.idle_now f k es chain fresh') e = cc
  sends c own n later (frames.open_now f k all es mid j many way asked' fresh' injob) e =
      frames.busy-so jobs-laws apart config passes part limits before spelled begun fresh Went Open no_job opens allowed closes mid later j injob

  accepts-now : (later : List Event) (cell : Cell) → IsLived config passes (later ++ before) → IsCell config.count cell →
      cell_accepts cell (word_at (at later).device.words cell) ≡ true
  unfolding now state_of
  accepts-now later cell lived inside = origin.accepted config (life config passes (later ++ before)).past cell lived.sound inside

  -- OPERATION isn't known to hold a byte that its cell doesn't take
  pub no-source : (c : FrameCourse) (later : List Event) → IsLived config passes (later ++ before) → Same c → begun.course.byte ≡ None →
      (has_read c.course.survey.read Operation ≡ true → is_possible (output_words_of (d later).held begun.course.survey.output Operation)
      (possible_at (at later).host (Out begun.course.survey.output Operation)) ≡ true) →
      source_of (at later).host c.course c.course.byte ≡ None
  no-source c later lived same none may = ap (λ (b : Option ℕ). source_of (at later).host c.course b) (same.byte ∙ none)
      ∙ go c.course.survey.read.operation refl
    where
      go : (b : Bool) → c.course.survey.read.operation ≡ b →
          (if b then untaken_at (at later).host c.course.survey.output else None) ≡ None
      go false e = refl
      go true e = ap (λ (o : ℕ). untaken_at (at later).host o) same.output
          ∙ sole-taken (Out begun.course.survey.output Operation)
          (word_at (at later).device.words (Out begun.course.survey.output Operation))
          (possible_at (at later).host (Out begun.course.survey.output Operation)) (may e)
          (accepts-now later (Out begun.course.survey.output Operation) lived here)
