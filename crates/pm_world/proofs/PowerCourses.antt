-- What a course to a byte of OPERATION is worth over a life.
use Rattle.std.specs.{List.list_any, Option.option_map_or}
use Rattle.std.specs.Prelude.{is_some, option_and_then, option_map, if◌then◌else◌, is_none, unwrap_or}
use Rattle.std.proofs.{Math.Path.fun_ext, lemmas.Bool.Decides.nat_tests, lemmas.Bool.or_parts}
use Rattle.std.proofs.Common.{◌≡◌, ◌⊎◌, inl, inr, ℕ, ◌<◌, Bool, true, false, List, [], ◌∷◌, ◌++◌, Option, Some, None, refl, sym, ◌∙◌, ap}
use Rattle.std.proofs.Common.{subst, append_assoc, ◌==◌, cond, append-nil, arith}
use Rattle.pm_table.specs.{declared.cell.Cell.Cell, declared.reg.Reg.Reg, declared.reg.Reg.TheVariants.Operation}
use Rattle.pm_table.specs.Cell.{same_cell, same_register}
use Rattle.pm_table.specs.declared.cell.Cell.TheVariants.{Out, Protect}
use Rattle.pm_model.specs.declared.order_machine.PendingJob.{PendingJob}
use Rattle.pm_model.specs.Commanded.{commanded, selected}
use Rattle.pm_model.specs.declared.order_machine.PendingJob.TheVariants as pending
use Rattle.pm_device.specs.{Held.value_for, declared.config.Config.Config}
use Rattle.pm_host.specs.{Jobs.accepted_job, Marks.read_by, Possible.is_possible, Refusals.is_busy, declared.job.Job.Job as Asked}
use Rattle.pm_host.specs.{declared.job.JobEnd.JobEnd, declared.stage.Stage.Stage}
use Rattle.pm_host.specs.Ended.{job_in, stage_job}
use Rattle.pm_host.specs.Summary.{Summary, possible_at}
use Rattle.pm_host.specs.Transcript as host
use Rattle.pm_host.specs.declared.job.Job.TheVariants as job
use Rattle.pm_host.specs.declared.job.JobEnd.TheVariants as ends
use Rattle.pm_limits.specs.{Part.has_register, declared.output_limits.OutputLimits.OutputLimits}
use Rattle.pm_limits.specs.{declared.part_registers.PartRegisters.PartRegisters}
use Rattle.pm_rail.specs.{Known.known_word, Laws.IsStep, Lemmas.Known.known-held, Registers.Held}
use Rattle.pm_rail.specs.{declared.apply_end.ApplyEnd.TheVariants.Reached, declared.course.Course.Course, declared.next.Next.Next as Said}
use Rattle.pm_rail.specs.{declared.survey.Survey.Survey}
use Rattle.pm_rail.specs.Course.{after_next, differing, naming, next_of, once_more, power_course_of, renewed, told_of, is_operation_known}
use Rattle.pm_rail.specs.Lemmas.Power.{NamesPower, orders, power-job, reads, power-reached}
use Rattle.pm_rail.specs.Lemmas.Says.{asks-so, differing-same, ended-same, renewed-so}
use Rattle.pm_rail.specs.Plan.{commands_by, put}
use Rattle.pm_rail.specs.Survey.{next_job, asking, ended, is_surveyed}
use Rattle.pm_rail.specs.declared.next.Next.TheVariants as said
use Rattle.pm_world.specs.{Ended.begins_other, Honest.IsSpelled, Job.asked_by, Laws.PossibleWordsAreHeld, Life.now, Limited.commands}
use Rattle.pm_world.specs.{Plans.held_at, declared.event.Event.Event}
use Rattle.pm_world.specs.Confirmed.{restarts_converter, restarted_since}
use Rattle.pm_world.specs.Courses.{IsBeside, IsCourse, IsElse, asking_else, asks, asks_else, begins, beside, forgets, protects, says}
use Rattle.pm_world.specs.Courses.{selects, tells, tells_else, turns, KeepsPower, power_goal_at}
use Rattle.pm_world.specs.Moves.{MovesBy, came_back, ordered, restored}
use Rattle.pm_world.specs.Retelling.{open_pending, pending_of}
use Rattle.pm_world.specs.State.{State, asked}
use Rattle.pm_world.specs.Surveys.{AreRead, MissingUnread}
use Rattle.pm_world.proofs.Courses.{Given, no-order, no-restore, open-kept, two-registers, unread, unread-kept}
use Rattle.pm_world.proofs.Events.{IsLived, earlier, lived-before}
use Rattle.pm_world.proofs.Formats.{any-parts}
use Rattle.pm_world.proofs.Orders.{moves-so}
use Rattle.pm_world.proofs.Plans.{order-done, pending-open, check-ended, one-register, register-itself}

-- A course to a byte of OPERATION, at each moment of a life.

module _ (laws : Given) (possible : PossibleWordsAreHeld) (config : Config) (passes : ℕ) (part : PartRegisters) (output byte : ℕ)
    (before : List Event) (spelled : IsSpelled config) (here : output < config.count) where
  abbrev at : List Event → Summary
  at es = (now config passes (es ++ before)).host

  -- a job that others may ask for, or the order of OPERATION
  abbrev pub IsOwn : Option host.Job → Type 0
  IsOwn o = IsBeside part output o ⊎ (o ≡ Some (host.Order (Out output Operation) byte))

  -- each register has the word that it had, or OPERATION the byte
  abbrev pub IsKept : Held → Held → Type 0
  IsKept is was = (r : Reg) → (is r ≡ was r) ⊎ ((r ≡ Operation) × (is r ≡ byte))

  abbrev pub AreKept : List Event → Type 0
  AreKept [] = Unit {0}
  AreKept (event ∷ es) =
      IsKept (held_at config passes (event ∷ es ++ before) output) (held_at config passes (es ++ before) output) × AreKept es

  -- how far it has come
  pub record Way (course : Course) (es : List Event) : Type 0 where
    pub own : course.survey.output ≡ output
    pub plan : course.survey.plan ≡ None
    pub power : course.byte ≡ Some byte
    pub newer : List Event
    pub later : List Event
    pub is : es ≡ newer ++ later
    pub are : AreRead config passes course.survey newer (later ++ before)
    pub untold : MissingUnread config passes part output (es ++ before)
    pub opened : IsOwn (job_in (at es))
    pub kept : AreKept es
    pub done : course.done ≡ true → held_at config passes (es ++ before) output Operation ≡ byte

  -- ---- One more event ----

  own-unread : (o : Option host.Job) → IsOwn o → (m : Reg) → has_register part m ≡ false → (told : List host.Entry) (c : Cell) →
      read_by o told ≡ Some c → same_cell c (Out output m) ≡ false
  own-unread o (inl b) m lacks told c e = unread laws.below config passes part output o b m lacks told c e
  own-unread o (inr is) m lacks told c e = turn (host.is_write_turn told) (sym (ap (λ (x : Option host.Job). read_by x told) is) ∙ e) where
    turn : (t : Bool) → (if t then None else Some (Out output Operation)) ≡ Some c → same_cell c (Out output m) ≡ false
    turn true h = cc
    turn false h = let is' : Out output Operation ≡ c = cc in
        subst (λ (x : Cell). same_cell x (Out output m) ≡ false) is' (two-registers laws.below part output output Operation m refl lacks)

  -- the open job, as an order
  own-order : (es : List Event) → IsOwn (job_in (at es)) → (r : Reg) (word : ℕ) →
      open_pending config passes (es ++ before) ≡ Some (pending.Order (Out output r) word) → (r ≡ Operation) × (word ≡ byte)
  own-order es (inl b) r word p = absurd (no-order laws.below config passes part output (es ++ before) b r word p)
  own-order es (inr is) r word p =
      let same : ◌≡◌ {A = Option PendingJob} (Some (pending.Order (Out output Operation) byte)) (Some (pending.Order (Out output r) word)) =
      sym (pending-open laws.below config passes (es ++ before) ∙ ap (λ (o : Option host.Job). option_and_then pending_of o) is) ∙ p in
      let register : r ≡ Operation = cc in
      let word' : word ≡ byte = cc in (register, word')

  own-restore : (es : List Event) → IsOwn (job_in (at es)) → open_pending config passes (es ++ before) ≡ Some pending.Restore → ⊥
  own-restore es (inl b) p = no-restore laws.below config passes part output (es ++ before) b p
  own-restore es (inr is) p =
      let same : ◌≡◌ {A = Option PendingJob} (Some (pending.Order (Out output Operation) byte)) (Some pending.Restore) =
      sym (pending-open laws.below config passes (es ++ before) ∙ ap (λ (o : Option host.Job). option_and_then pending_of o) is) ∙ p in
      cc

  moved : {event : Event} (es : List Event) → IsOwn (job_in (at es)) → (r : Reg) (word : ℕ) →
      MovesBy config passes (es ++ before) (Out output r) word event → restarts_converter event ≡ false → (r ≡ Operation) × (word ≡ byte)
  moved es own r word (came_back e) steady = cc
  moved es own r word (ordered arrival takes) steady = own-order es own r word takes.opened
  moved es own r word (restored arrival takes out e) steady = absurd (own-restore es own takes.opened)

  keeps : (es : List Event) (event : Event) → IsOwn (job_in (at es)) → IsLived config passes (event ∷ es ++ before) →
      restarts_converter event ≡ false →
      IsKept (held_at config passes (event ∷ es ++ before) output) (held_at config passes (es ++ before) output)
  keeps es event own lived steady r =
      elim ((moves-so laws.below config passes (event ∷ es ++ before) lived).moves [] (es ++ before) event (Out output r) refl here) [
        | inl e ↦ inl e
        | inr m ↦ inr (moved es own r _ m steady)
      ]

  pub way-more : (course : Course) (es : List Event) (event : Event) → Way course es → IsLived config passes (event ∷ es ++ before) →
      restarts_converter event ≡ false → IsOwn (asked (now config passes (es ++ before)) event) → Way course (event ∷ es)
  way-more course es event was lived steady may = record {
    own = was.own;
    plan = was.plan;
    power = was.power;
    newer = event ∷ was.newer;
    later = was.later;
    is = ap (λ (l : List Event). event ∷ l) was.is;
    are = (laws.surveys.follows config passes (event ∷ es ++ before) lived).more course.survey (event ∷ []) was.newer (was.later ++ before)
        (ap (λ (l : List Event). event ∷ l) (ap (λ (l : List Event). l ++ before) was.is ∙ append_assoc was.newer was.later before))
        was.are;
    untold = λ m lacks. unread-kept laws.below config passes (Out output m) (es ++ before) event
        (λ told c e. own-unread (job_in (at es)) was.opened m lacks told c e) (was.untold m lacks);
    opened = open-kept laws.below config passes (λ (o : Option host.Job). IsOwn o) (inl tt) (es ++ before) event lived was.opened may;
    kept = (keeps es event was.opened lived steady, was.kept);
    done = λ d. elim (keeps es event was.opened lived steady Operation) [
      | inl e ↦ e ∙ was.done d
      | inr p ↦ p.1
    ];
  }

  -- an event that begins no other job asks for none
  own-none : (s : State) (event : Event) → begins_other event ≡ false → IsOwn (asked s event)
  own-none s event alone = subst (λ (o : Option host.Job). IsOwn o)
      (sym (go (asked_by event) (or_parts (is_some (asked_by event)) _ alone).0)) (inl tt) where
        go : (o : Option Asked) → is_some o ≡ false → option_and_then (accepted_job s.host) o ≡ None
        go None h = refl
        go (Some j) h = cc

  pub way-over : (course : Course) (newer es : List Event) → Way course es → IsLived config passes ((newer ++ es) ++ before) →
      list_any restarts_converter newer ≡ false → list_any begins_other newer ≡ false → Way course (newer ++ es)
  way-over course [] es was lived steady alone = was
  way-over course (event ∷ newer) es was lived steady alone =
      let still = or_parts (restarts_converter event) (list_any restarts_converter newer) steady in
      let other = or_parts (begins_other event) (list_any begins_other newer) alone in
      way-more course (newer ++ es) event (way-over course newer es was (earlier lived) still.1 other.1) lived still.0
      (own-none (now config passes ((newer ++ es) ++ before)) event other.0)

  -- ---- What it is asked ----

  pub way-renewed : (limits : OutputLimits) (course : Course) (es : List Event) → Way course es → IsLived config passes (es ++ before) →
      Way (renewed part limits (at es) course) es
  way-renewed limits course es was lived = renewed-so (λ (c : Course). Way c es) part limits (at es) course was (record {
    own = was.own;
    plan = was.plan;
    power = was.power;
    newer = [];
    later = es;
    is = refl;
    are = (laws.surveys.follows config passes (es ++ before) lived).begins (once_more course).survey refl;
    untold = was.untold;
    opened = was.opened;
    kept = was.kept;
    done = was.done;
  })

  -- it named a job
  way-named : (course : Course) (es : List Event) (j : Asked) → Way course es → Way (naming course (said.Job j)) es
  way-named course es j was = record {
    own = was.own;
    plan = was.plan;
    power = was.power;
    newer = was.newer;
    later = was.later;
    is = was.is;
    are = record { registers = was.are.registers; protect = was.are.protect };
    untold = was.untold;
    opened = was.opened;
    kept = was.kept;
    done = was.done;
  }

  read-may : (v : Survey) (s : Summary) (j : Asked) → next_job part v s ≡ Some j → (t : State) (event : Event) →
      asked_by event ≡ Some j → IsBeside part output (asked t event)
  read-may v s j is = asks-so (λ (k : Asked). (t : State) (event : Event) → asked_by event ≡ Some k → IsBeside part output (asked t event))
      part v s
      (λ t event e. by t event (job.Learn v.output) e tt)
      (λ r has t event e. by t event (job.Check (Out v.output r)) e has)
      (λ t event e. by t event (job.Check Protect) e tt) j is
    where
      by : (t : State) (event : Event) (k : Asked) → asked_by event ≡ Some k → IsBeside part output (accepted_job t.host k) →
          IsBeside part output (asked t event)
      by t event k e b = subst (λ (o : Option Asked). IsBeside part output (option_and_then (accepted_job t.host) o)) (sym e) b

  -- the end of a job of a survey is that of no order
  read-kept : (s : Summary) (v : Survey) (j : Asked) → next_job part v s ≡ Some j → (course : Course) (end : JobEnd) →
      (told_of (record course { survey = record course.survey { asked = Some j } }) end).done ≡ course.done
  read-kept s v j is = asks-so (λ (k : Asked). (course : Course) (end : JobEnd) →
      (told_of (record course { survey = record course.survey { asked = Some k } }) end).done ≡ course.done) part v s
      (λ course end. refl) (λ r has course end. refl) (λ course end. refl) j is

  -- an order that counts as done was read back as it was given: one of before, or this one
  pub done-order : (course : Course) (o : ℕ) (word : ℕ) (end : JobEnd) →
      (differing course (Some (job.Order (Out o Operation) word)) end).done ≡ true → (course.done ≡ true) ⊎ (end ≡ ends.Done)
  done-order course o word ends.Done d = inr refl
  done-order course o word ends.Learned d = inl d
  done-order course o word (ends.Differs read) d = inl d
  done-order course o word ends.Unknown d = inl d

  -- what it named is one of its own
  named-own : (course : Course) (es : List Event) (j : Asked) (event : Event) → course.survey.output ≡ output →
      NamesPower part (at es) course byte j →
      asked_by event ≡ Some j → IsOwn (asked (now config passes (es ++ before)) event)
  named-own course es _ event own (reads j asks') e = inl (read-may course.survey (at es) j asks' (now config passes (es ++ before)) event e)
  named-own course es _ event own orders e = inr (ap (λ (o : Option Asked). option_and_then (accepted_job (at es)) o) e
      ∙ ap (λ (o : ℕ). Some (host.Order (Out o Operation) byte)) own)

  pub named-is : (limits : OutputLimits) (course : Course) (s : Summary) (n : Said) → next_of part limits s course ≡ n →
      after_next part limits s course ≡ naming (renewed part limits s course) n
  named-is limits course s n is = ap (λ (x : Said). naming (renewed part limits s course) x) is

  pub way-says : (limits : OutputLimits) (course : Course) (es : List Event) → Way course es → IsLived config passes (es ++ before) →
      Way (after_next part limits (at es) course) es
  way-says limits course es was lived = go (next_of part limits (at es) course) where
    go : (n : Said) → Way (naming (renewed part limits (at es) course) n) es
    go (said.Ended end) = way-renewed limits course es was lived
    go (said.Job j) = way-named (renewed part limits (at es) course) es j (way-renewed limits course es was lived)

  pub way-asks : (limits : OutputLimits) (course : Course) (es : List Event) (event : Event) (j : Asked) → Way course es →
      IsLived config passes (event ∷ es ++ before) → restarts_converter event ≡ false →
      next_of part limits (at es) course ≡ said.Job j → asked_by event ≡ Some j →
      Way (naming (renewed part limits (at es) course) (said.Job j)) (event ∷ es)
  way-asks limits course es event j was lived steady is named =
      way-more (naming r (said.Job j)) es event (way-named r es j way) lived steady
      (named-own r es j event way.own (power-job part limits (at es) r byte way.power j is) named)
    where
      r : Course
      r = renewed part limits (at es) course

      way : Way r es
      way = way-renewed limits course es was (earlier lived)

  pub way-tells : (limits : OutputLimits) (course : Course) (newer es : List Event) (event : Event) (j : Asked) (end : JobEnd) →
      Way course es → IsLived config passes ((newer ++ event ∷ es) ++ before) →
      list_any restarts_converter newer ≡ false → restarts_converter event ≡ false →
      next_of part limits (at es) course ≡ said.Job j → asked_by event ≡ Some j → list_any begins_other newer ≡ false →
      (now config passes ((newer ++ event ∷ es) ++ before)).end ≡ Some end →
      Way (told_of (after_next part limits (at es) course) end) (newer ++ event ∷ es)
  way-tells limits course newer es event j end was lived steady first is named alone over =
      subst (λ (c : Course). Way (told_of c end) (newer ++ event ∷ es)) (sym (named-is limits course (at es) (said.Job j) is))
      (by j named (power-job part limits (at es) r byte way.power j is) gone told)
    where
      r : Course
      r = renewed part limits (at es) course

      n : Course
      n = naming r (said.Job j)

      below : IsLived config passes (event ∷ es ++ before)
      below = lived-before config passes newer (event ∷ es ++ before)
          (subst (λ (l : List Event). IsLived config passes l) (append_assoc newer (event ∷ es) before) lived)

      way : Way r es
      way = way-renewed limits course es was (earlier below)

      gone : Way n (newer ++ event ∷ es)
      gone = way-over n newer (event ∷ es) (way-asks limits course es event j was below first is named) lived steady alone

      told : next_job part r.survey (at es) ≡ Some j → Way (told_of n end) (newer ++ event ∷ es)
      told is' =
          let w = way in
          let split : newer ++ event ∷ es ≡ (newer ++ event ∷ w.newer) ++ w.later =
          ap (λ (l : List Event). newer ++ event ∷ l) w.is ∙ sym (append_assoc newer (event ∷ w.newer) w.later) in
          let moment : es ++ before ≡ w.newer ++ (w.later ++ before) =
          ap (λ (l : List Event). l ++ before) w.is ∙ append_assoc w.newer w.later before in
          record {
            own = (ended-same n.survey (Some j) end).1 ∙ w.own;
            plan = (ended-same n.survey (Some j) end).2 ∙ w.plan;
            power = (differing-same n (Some j) end).0 ∙ w.power;
            newer = newer ++ event ∷ w.newer;
            later = w.later;
            is = split;
            are = (laws.surveys.follows config passes ((newer ++ event ∷ es) ++ before) lived).told part r.survey newer w.newer
                (w.later ++ before) event j end
                (ap (λ (l : List Event). l ++ before) split ∙ append_assoc (newer ++ event ∷ w.newer) w.later before)
                (subst (λ (o : ℕ). o < config.count) (sym w.own) here) w.are
                (ap (λ (l : List Event). next_job part r.survey (now config passes l).host) (sym moment) ∙ is') named alone over;
            untold = gone.untold;
            opened = gone.opened;
            kept = gone.kept;
            done = λ d. gone.done (sym (read-kept (at es) r.survey j is' n end) ∙ d);
          }

      by : (k : Asked) → asked_by event ≡ Some k → NamesPower part (at es) r byte k → Way (naming r (said.Job k)) (newer ++ event ∷ es) →
          (next_job part r.survey (at es) ≡ Some k → Way (told_of (naming r (said.Job k)) end) (newer ++ event ∷ es)) →
          Way (told_of (naming r (said.Job k)) end) (newer ++ event ∷ es)
      by _ asked' (reads k asks') went so = so asks'
      by _ asked' orders went so = record {
        own = went.own;
        plan = went.plan;
        power = (differing-same (naming r (said.Job (job.Order (Out r.survey.output Operation) byte)))
            (Some (job.Order (Out r.survey.output Operation) byte)) end).0 ∙ went.power;
        newer = went.newer;
        later = went.later;
        is = went.is;
        are = record { registers = went.are.registers; protect = went.are.protect };
        untold = went.untold;
        opened = went.opened;
        kept = went.kept;
        done = λ d. elim (done-order (naming r (said.Job (job.Order (Out r.survey.output Operation) byte))) r.survey.output byte end d) [
          | inl was' ↦ went.done was'
          | inr ended' ↦ ap (λ (l : List Event). held_at config passes l output Operation) (append_assoc newer (event ∷ es) before)
              ∙ (order-done laws.below config passes newer (es ++ before) event (Out output Operation) byte
              (subst (λ (l : List Event). IsLived config passes l) (append_assoc newer (event ∷ es) before) lived)
              (ap (λ (o : Option Asked). option_and_then (accepted_job (at es)) o) asked'
              ∙ ap (λ (o : ℕ). Some (host.Order (Out o Operation) byte)) way.own) alone steady
              (ap (λ (l : List Event). (now config passes l).end) (sym (append_assoc newer (event ∷ es) before))
              ∙ (over ∙ ap (λ (x : JobEnd). Some x) ended'))).1
        ];
      }

  -- the format is to be learned again
  pub way-forgets : (course : Course) (es : List Event) → Way course es →
      Way (record course { survey = record course.survey { learned = false } }) es
  way-forgets course es way = record {
    own = way.own;
    plan = way.plan;
    power = way.power;
    newer = way.newer;
    later = way.later;
    is = way.is;
    are = record { registers = way.are.registers; protect = way.are.protect };
    untold = way.untold;
    opened = way.opened;
    kept = way.kept;
    done = way.done;
  }

  -- it begins
  pub way-begins : (tries : ℕ) → IsLived config passes before → is_busy (now config passes before).host ≡ false →
      MissingUnread config passes part output before → Way (power_course_of output byte tries) []
  way-begins tries lived idle untold = record {
    own = refl;
    plan = refl;
    power = refl;
    newer = [];
    later = [];
    is = refl;
    are = (laws.surveys.follows config passes before lived).begins (power_course_of output byte tries).survey refl;
    untold = untold;
    opened = inl (subst (λ (o : Option host.Job). IsBeside part output o) (sym (none (now config passes before).host idle)) tt);
    kept = tt;
    done = λ d. cc;
  }
    where
      none : (s : Summary) → is_busy s ≡ false → job_in s ≡ None
      none s free = go s.stage free where
        go : (stage : Option Stage) → is_some stage ≡ false → option_map stage_job stage ≡ None
        go None i = refl
        go (Some stage) i = cc

-- A course to a byte of OPERATION that asks for another job than the one that it named, and all that becomes of such a course in a life.

module _ (laws : Given) (possible : PossibleWordsAreHeld) (config : Config) (passes : ℕ) (part : PartRegisters) (output byte : ℕ)
    (before : List Event) (spelled : IsSpelled config) (here : output < config.count) where
  abbrev else_at : List Event → Summary
  else_at es = (now config passes (es ++ before)).host

  abbrev ElseIsOwn : Option host.Job → Type 0
  ElseIsOwn o = IsOwn laws possible config passes part output byte before spelled here o

  abbrev ElseWay : Course → List Event → Type 0
  ElseWay course es = Way laws possible config passes part output byte before spelled here course es

  else-own : (o : ℕ) (es : List Event) (j : Asked) (event : Event) → o ≡ output → IsElse part o byte j → asked_by event ≡ Some j →
      ElseIsOwn (asked (now config passes (es ++ before)) event)
  else-own o es j event own may e =
      subst (λ (x : Option Asked). ElseIsOwn (option_and_then (accepted_job (else_at es)) x)) (sym e) (so may) where
        so : {k : Asked} → IsElse part o byte k → ElseIsOwn (accepted_job (else_at es) k)
        so protects = inl tt
        so (selects register has) = inl has
        so turns = inr (ap (λ (x : ℕ). Some (host.Order (Out x Operation) byte)) own)

  way-else : (course : Course) (es : List Event) (j : Asked) (left : ℕ) (ordered' : Bool) → ElseWay course es →
      ElseWay (asking_else course j left ordered') es
  way-else course es j left ordered' was = record {
    own = was.own;
    plan = was.plan;
    power = was.power;
    newer = was.newer;
    later = was.later;
    is = was.is;
    are = record { registers = was.are.registers; protect = was.are.protect };
    untold = was.untold;
    opened = was.opened;
    kept = was.kept;
    done = was.done;
  }

  way-asks-else : (limits : OutputLimits) (course : Course) (es : List Event) (event : Event) (left : ℕ) (ordered' : Bool) (j : Asked) →
      ElseWay course es → IsLived config passes (event ∷ es ++ before) → restarts_converter event ≡ false →
      IsElse part course.survey.output byte j → asked_by event ≡ Some j →
      ElseWay (asking_else (renewed part limits (else_at es) course) j left ordered') (event ∷ es)
  way-asks-else limits course es event left ordered' j was lived steady may named =
      way-more laws possible config passes part output byte before spelled here (asking_else r j left ordered') es event
      (way-else r es j left ordered'
      (way-renewed laws possible config passes part output byte before spelled here limits course es was (earlier lived)))
      lived steady (else-own course.survey.output es j event was.own may named)
    where
      r : Course
      r = renewed part limits (else_at es) course

  way-tells-else : (limits : OutputLimits) (course : Course) (newer es : List Event) (event : Event) (left : ℕ) (ordered' : Bool)
      (j : Asked)
      (end : JobEnd) → ElseWay course es → IsLived config passes ((newer ++ event ∷ es) ++ before) →
      list_any restarts_converter newer ≡ false → restarts_converter event ≡ false →
      IsElse part course.survey.output byte j → asked_by event ≡ Some j → list_any begins_other newer ≡ false →
      (now config passes ((newer ++ event ∷ es) ++ before)).end ≡ Some end →
      ElseWay (told_of (asking_else (renewed part limits (else_at es) course) j left ordered') end) (newer ++ event ∷ es)
  way-tells-else limits course newer es event left ordered' j end was lived steady first may named alone over = by may named gone where
    r : Course
    r = renewed part limits (else_at es) course

    lived' : IsLived config passes (newer ++ (event ∷ es ++ before))
    lived' = subst (λ (l : List Event). IsLived config passes l) (append_assoc newer (event ∷ es) before) lived

    below : IsLived config passes (event ∷ es ++ before)
    below = lived-before config passes newer (event ∷ es ++ before) lived'

    way : ElseWay r es
    way = way-renewed laws possible config passes part output byte before spelled here limits course es was (earlier below)

    gone : ElseWay (asking_else r j left ordered') (newer ++ event ∷ es)
    gone = way-over laws possible config passes part output byte before spelled here (asking_else r j left ordered') newer
        (event ∷ es)
        (way-asks-else limits course es event left ordered' j was below first may named) lived steady alone

    over' : (now config passes (newer ++ (event ∷ es ++ before))).end ≡ Some end
    over' = ap (λ (l : List Event). (now config passes l).end) (sym (append_assoc newer (event ∷ es) before)) ∙ over

    read : (cell : Cell) → ((other : ℕ) (register : Reg) → cell ≡ Out other register → other ≡ output) →
        asked_by event ≡ Some (job.Check cell) → ElseWay (asking_else r (job.Check cell) left ordered') (newer ++ event ∷ es) →
        ElseWay (told_of (asking_else r (job.Check cell) left ordered') end) (newer ++ event ∷ es)
    read cell mine asked' went =
        let split : newer ++ event ∷ es ≡ (newer ++ event ∷ way.newer) ++ way.later =
        ap (λ (l : List Event). newer ++ event ∷ l) way.is ∙ sym (append_assoc newer (event ∷ way.newer) way.later) in
        let moment : newer ++ (event ∷ es ++ before) ≡ newer ++ (event ∷ (way.newer ++ (way.later ++ before))) =
        ap (λ (l : List Event). newer ++ (event ∷ l)) (ap (λ
        (l : List Event). l ++ before) way.is ∙ append_assoc way.newer way.later before) in
        let are = check-ended laws.below config passes r.survey newer way.newer (way.later ++ before) event cell end
        (subst (λ (l : List Event). IsLived config passes l) moment lived')
        (λ other register same. mine other register same ∙ sym way.own) way.are asked' alone
        (ap (λ (l : List Event). (now config passes l).end) (sym moment) ∙ over') in
        record {
          own = (ended-same (asking_else r (job.Check cell) left ordered').survey (Some (job.Check cell)) end).1 ∙ way.own;
          plan = (ended-same (asking_else r (job.Check cell) left ordered').survey (Some (job.Check cell)) end).2 ∙ way.plan;
          power = (differing-same (asking_else r (job.Check cell) left ordered') (Some (job.Check cell)) end).0 ∙ way.power;
          newer = newer ++ event ∷ way.newer;
          later = way.later;
          is = split;
          are = counted end are;
          untold = went.untold;
          opened = went.opened;
          kept = went.kept;
          done = went.done;
        }
      where
        counted : (e : JobEnd) →
            AreRead config passes (ended (asking r.survey (Some (job.Check cell))) (Some (job.Check cell)) e)
            (newer ++ event ∷ way.newer) (way.later ++ before) →
            AreRead config passes (ended (asking_else r (job.Check cell) left ordered').survey (Some (job.Check cell)) e)
            (newer ++ event ∷ way.newer) (way.later ++ before)
        counted ends.Done a = record { registers = a.registers; protect = a.protect }
        counted ends.Learned a = record { registers = a.registers; protect = a.protect }
        counted ends.Unknown a = record { registers = a.registers; protect = a.protect }
        counted (ends.Differs word) a = record { registers = a.registers; protect = a.protect }

    ordered-so : asked_by event ≡ Some (job.Order (Out course.survey.output Operation) byte) →
        ElseWay (asking_else r (job.Order (Out course.survey.output Operation) byte) left ordered') (newer ++ event ∷ es) →
        ElseWay (told_of (asking_else r (job.Order (Out course.survey.output Operation) byte) left ordered') end) (newer ++ event ∷ es)
    ordered-so asked' went = record {
      own = went.own;
      plan = went.plan;
      power = (differing-same (asking_else r (job.Order (Out course.survey.output Operation) byte) left ordered')
          (Some (job.Order (Out course.survey.output Operation) byte)) end).0 ∙ went.power;
      newer = went.newer;
      later = went.later;
      is = went.is;
      are = record { registers = went.are.registers; protect = went.are.protect };
      untold = went.untold;
      opened = went.opened;
      kept = went.kept;
      done = λ d. elim (done-order laws possible config passes part output byte before spelled here (asking_else r (job.Order
          (Out course.survey.output Operation) byte) left ordered') course.survey.output byte end d) [
            | inl was' ↦ went.done was'
            | inr ended' ↦ ap (λ (l : List Event). held_at config passes l output Operation) (append_assoc newer (event ∷ es) before)
                ∙ (order-done laws.below config passes newer (es ++ before) event (Out output Operation) byte lived'
                (ap (λ (o : Option Asked). option_and_then (accepted_job (else_at es)) o) asked'
                ∙ ap (λ (o : ℕ). Some (host.Order (Out o Operation) byte)) was.own) alone steady
                (over' ∙ ap (λ (x : JobEnd). Some x) ended')).1
          ];
    }

    by : {k : Asked} → IsElse part course.survey.output byte k → asked_by event ≡ Some k →
        ElseWay (asking_else r k left ordered') (newer ++ event ∷ es)
        → ElseWay (told_of (asking_else r k left ordered') end) (newer ++ event ∷ es)
    by protects asked' went = read Protect (λ other register same. cc) asked' went
    by (selects register has) asked' went = read (Out course.survey.output register)
        (λ other q same. let is : course.survey.output ≡ other = cc in sym is ∙ was.own) asked' went
    by turns asked' went = ordered-so asked' went

  same-byte : (course : Course) (other : ℕ) → course.byte ≡ Some byte → course.byte ≡ Some other → other ≡ byte
  same-byte course other is to' = let both : Some other ≡ Some byte = sym to' ∙ is in cc

  -- all of it
  pub way-all : (tries : ℕ) (course : Course) (es : List Event) → IsLived config passes (es ++ before) →
      list_any restarts_converter es ≡ false →
      is_busy (now config passes before).host ≡ false → MissingUnread config passes part output before →
      IsCourse config passes part (power_course_of output byte tries) before course es → ElseWay course es
  way-all tries course es lived steady idle untold is = go is lived steady where
    go : {c : Course} {l : List Event} → IsCourse config passes part (power_course_of output byte tries) before c l →
        IsLived config passes (l ++ before) → list_any restarts_converter l ≡ false → ElseWay c l
    go begins lived' steady' = way-begins laws possible config passes part output byte before spelled here tries lived' idle untold
    go (beside c later event was may) lived' steady' =
        let parts = or_parts (restarts_converter event) (list_any restarts_converter later) steady' in
        way-more laws possible config passes part output byte before spelled here c later event (go was
        (earlier lived') parts.1) lived' parts.0 (inl may)
    go (says limits c later was) lived' steady' = way-says laws possible config passes part output byte before spelled here
        limits c later (go was lived' steady') lived'
    go (asks limits c later event j was is' named) lived' steady' =
        let parts = or_parts (restarts_converter event) (list_any restarts_converter later) steady' in
        subst (λ (x : Course). ElseWay x (event ∷ later)) (sym
        (named-is laws possible config passes part output byte before spelled here limits c (else_at later) (said.Job j) is'))
        (way-asks laws possible config passes part output byte before spelled here limits c later event j (go was
        (earlier lived') parts.1) lived' parts.0 is' named)
    go (tells limits c newer later event j end was is' named alone over) lived' steady' =
        let first = any-parts restarts_converter newer (event ∷ later) steady' in
        let second = or_parts (restarts_converter event) (list_any restarts_converter later) first.1 in
        let below = lived-before config passes newer (event ∷ later ++ before)
        (subst (λ (l : List Event). IsLived config passes l) (append_assoc newer (event ∷ later) before) lived') in
        way-tells laws possible config passes part output byte before spelled here limits c newer later event j end (go was
        (earlier below) second.1) lived' first.0 second.0 is' named alone over
    go (asks_else limits c later event other left ordered' j was to' may named) lived' steady' =
        let parts = or_parts (restarts_converter event) (list_any restarts_converter later) steady' in
        let way = go was (earlier lived') parts.1 in
        way-asks-else limits c later event left ordered' j way lived' parts.0
        (subst (λ (b : ℕ). IsElse part c.survey.output b j) (same-byte c other way.power to') may) named
    go (tells_else limits c newer later event other left ordered' j end was to' may named alone over) lived' steady' =
        let first = any-parts restarts_converter newer (event ∷ later) steady' in
        let second = or_parts (restarts_converter event) (list_any restarts_converter later) first.1 in
        let below = lived-before config passes newer (event ∷ later ++ before)
        (subst (λ (l : List Event). IsLived config passes l) (append_assoc newer (event ∷ later) before) lived') in
        let way = go was (earlier below) second.1 in
        way-tells-else limits c newer later event left ordered' j end way lived' first.0 second.0
        (subst (λ (b : ℕ). IsElse part c.survey.output b j) (same-byte c other way.power to') may) named alone over
    go (forgets c later was) lived' steady' = way-forgets laws possible config passes part output byte before spelled here c
        later (go was lived' steady')

-- What a course to a byte of OPERATION is worth over a life.

-- a word that is known to be a byte is that
known-byte : (word : Option ℕ) (byte : ℕ) → option_map_or (λ w. w == byte) word false ≡ true → word ≡ Some byte
known-byte None byte is = cc
known-byte (Some w) byte is = let same : w ≡ byte = grind (arith, nat_tests) in ap (λ (x : ℕ). Some x) same

-- an output commands by its words
commands-by-words : (config : Config) (passes output : ℕ) (events : List Event) (held : Held) →
    held_at config passes events output ≡ held → commands config passes events output ≡ commands_by (value_for config output) held
unfolding commanded selected
commands-by-words config passes output events held same = ap (λ (h : Held). commands_by (value_for config output) h) same

module _ (laws : Given) (possible : PossibleWordsAreHeld) (config : Config) (passes : ℕ) (part : PartRegisters) (output byte : ℕ)
    (before : List Event) (spelled : IsSpelled config) (here : output < config.count) where
  abbrev power_at : List Event → Summary
  power_at es = (now config passes (es ++ before)).host

  abbrev PowerIsKept : Held → Held → Type 0
  PowerIsKept is was = IsKept laws possible config passes part output byte before spelled here is was

  abbrev PowerAreKept : List Event → Type 0
  PowerAreKept es = AreKept laws possible config passes part output byte before spelled here es

  abbrev PowerWay : Course → List Event → Type 0
  PowerWay course es = Way laws possible config passes part output byte before spelled here course es

  kept-drop : (rest es : List Event) → PowerAreKept (rest ++ es) → PowerAreKept es
  kept-drop [] es kept = kept
  kept-drop (event ∷ rest) es kept = kept-drop rest es kept.1

  -- each register keeps its word between any two moments, but OPERATION may take the byte
  between : (newer later : List Event) → PowerAreKept (newer ++ later) →
      PowerIsKept (held_at config passes ((newer ++ later) ++ before) output) (held_at config passes (later ++ before) output)
  between [] later kept r = inl refl
  between (event ∷ newer) later kept r = elim (kept.0 r) [
    | inr p ↦ inr p
    | inl same ↦ elim (between newer later kept.1 r) [
      | inl e ↦ inl (same ∙ e)
      | inr p ↦ inr (p.0, same ∙ p.1)
    ]
  ]

  pub words-kept : (rest newer later : List Event) → PowerAreKept (rest ++ (newer ++ later)) →
      PowerIsKept (held_at config passes ((newer ++ later) ++ before) output) (held_at config passes (later ++ before) output)
  words-kept rest newer later kept = between newer later (kept-drop rest (newer ++ later) kept)

  -- the words where OPERATION has moved
  at-goal : (es : List Event) → PowerAreKept es → held_at config passes (es ++ before) output Operation ≡ byte →
      held_at config passes (es ++ before) output ≡ put (held_at config passes before output) Operation byte
  at-goal es kept is = fun_ext (λ (r : Reg). go r (same_register Operation r) refl) where
    since : PowerIsKept (held_at config passes (es ++ before) output) (held_at config passes before output)
    since = subst (λ (l : List Event). PowerIsKept (held_at config passes (l ++ before) output) (held_at config passes before output))
        (append-nil es) (between es [] (subst (λ (l : List Event). PowerAreKept l) (sym (append-nil es)) kept))

    go : (r : Reg) (b : Bool) → same_register Operation r ≡ b →
        held_at config passes (es ++ before) output r ≡ put (held_at config passes before output) Operation byte r
    go r true s = subst (λ (x : Reg). held_at config passes (es ++ before) output x
        ≡ put (held_at config passes before output) Operation byte x) (one-register laws.below Operation r s)
        (is ∙ sym (ap (λ (b : Bool). cond b byte (held_at config passes before output Operation)) (register-itself laws.below Operation)))
    go r false s = elim (since r) [
      | inl e ↦ e ∙ sym (ap (λ (b : Bool). cond b byte (held_at config passes before output r)) s)
      | inr p ↦ absurd (let no = sym (register-itself laws.below Operation) ∙ (ap (λ (x : Reg). same_register Operation x) (sym p.0) ∙ s) in cc)
    ]

  pub keeps-rail : (rest newer later : List Event) → PowerAreKept (rest ++ (newer ++ later)) →
      IsStep (power_goal_at config passes output byte before)
      (commands config passes (later ++ before) output) (commands config passes ((newer ++ later) ++ before) output)
  keeps-rail rest newer later kept = go (so Operation) where
    kept' : PowerAreKept (newer ++ later)
    kept' = kept-drop rest (newer ++ later) kept

    so : PowerIsKept (held_at config passes ((newer ++ later) ++ before) output) (held_at config passes (later ++ before) output)
    so = between newer later kept'

    go : (held_at config passes ((newer ++ later) ++ before) output Operation ≡ held_at config passes (later ++ before) output Operation)
        ⊎ ((Operation ≡ Operation) × (held_at config passes ((newer ++ later) ++ before) output Operation ≡ byte)) →
        IsStep (power_goal_at config passes output byte before)
        (commands config passes (later ++ before) output) (commands config passes ((newer ++ later) ++ before) output)
    go (inl same) = inl (commands-by-words config passes output ((newer ++ later) ++ before) (held_at config passes (later ++ before) output)
        (fun_ext (λ (r : Reg). elim (so r) [
          | inl e ↦ e
          | inr p ↦ subst (λ (x : Reg). held_at config passes ((newer ++ later) ++ before) output x
              ≡ held_at config passes (later ++ before) output x) (sym p.0) same
        ]))
        ∙ sym (commands-by-words config passes output (later ++ before) (held_at config passes (later ++ before) output) refl))
    go (inr p) = inr (commands-by-words config passes output ((newer ++ later) ++ before)
        (put (held_at config passes before output) Operation byte) (at-goal (newer ++ later) kept' p.1))

  -- OPERATION holds the byte, if the course has ended `Reached`
  pub comes-true : (limits : OutputLimits) (course : Course) (es : List Event) → IsLived config passes (es ++ before) →
      list_any restarts_converter es ≡ false → PowerWay course es → next_of part limits (power_at es) course ≡ said.Ended Reached →
      held_at config passes (es ++ before) output Operation ≡ byte
  comes-true limits course es lived steady was reached = elim (power-reached part limits (power_at es) r byte way.power reached) [
    | inl done ↦ way.done done
    | inr over ↦ known-true over
  ]
    where
      r : Course
      r = renewed part limits (power_at es) course

      way : PowerWay r es
      way = way-renewed laws possible config passes part output byte before spelled here limits course es was lived

      known-true : (is_operation_known (power_at es) r.survey.output byte ≡ true) × (is_surveyed part r.survey (power_at es) ≡ true) →
          held_at config passes (es ++ before) output Operation ≡ byte
      known-true over = sym (known-held (λ (c : Cell). possible_at (power_at es) c) (Out output Operation)
          (held_at config passes (es ++ before) output Operation)
          among (ap (λ (o : Option ℕ). is_none o) known)) ∙ ap (λ (o : Option ℕ). unwrap_or o 0) known
        where
          known : known_word (Out output Operation) (possible_at (power_at es) (Out output Operation)) ≡ Some byte
          known = known-byte _ byte (ap (λ (o : ℕ). is_operation_known (power_at es) o byte) (sym way.own) ∙ over.0)

          moment : es ++ before ≡ way.newer ++ (way.later ++ before)
          moment = ap (λ (l : List Event). l ++ before) way.is ∙ append_assoc way.newer way.later before

          fresh : restarted_since config passes (Out output Operation) (es ++ before) ≡ false
          fresh = subst (λ (o : ℕ). restarted_since config passes (Out o Operation) (es ++ before) ≡ false) way.own
              (((laws.surveys.keeps config passes (es ++ before) spelled lived).known part r.survey way.newer (way.later ++ before) moment
              (subst (λ (o : ℕ). o < config.count) (sym way.own) here)
              (subst (λ (o : ℕ). MissingUnread config passes part o (es ++ before)) (sym way.own) way.untold)
              way.are (any-parts restarts_converter way.newer way.later
              (subst (λ (l : List Event). list_any restarts_converter l ≡ false) way.is steady)).0
              over.1 Operation refl).1 refl)

          among : is_possible (held_at config passes (es ++ before) output Operation) (possible_at (power_at es) (Out output Operation))
              ≡ true
          among = (possible.held config passes (es ++ before) lived).held (Out output Operation) here fresh

-- what courses to a byte of OPERATION are worth
pub keeps-power : Given → PossibleWordsAreHeld → (config : Config) (passes : ℕ) (events : List Event) → IsSpelled config →
    IsLived config passes events → KeepsPower config passes events
keeps-power laws possible config passes events spelled lived = record {
  words = λ part output byte tries course register rest newer later before is b.
      let l = there ((rest ++ (newer ++ later)) ++ before) is in
      words-kept laws possible config passes part output byte before spelled b.here rest newer later
      (way-all laws possible config passes part output byte before spelled b.here tries course (rest ++ (newer ++ later)) l b.steady b.idle
      b.untold b.is_course).kept register;
  held = λ part output byte tries course rest newer later before is b.
      let l = there ((rest ++ (newer ++ later)) ++ before) is in
      keeps-rail laws possible config passes part output byte before spelled b.here rest newer later
      (way-all laws possible config passes part output byte before spelled b.here tries course (rest ++ (newer ++ later)) l b.steady b.idle
      b.untold b.is_course).kept;
  come_true = λ part limits output byte tries course later before is b reached.
      let l = there (later ++ before) is in
      ap (λ (es : List Event). held_at config passes es output Operation) is
      ∙ comes-true laws possible config passes part output byte before spelled b.here limits course later l b.steady
      (way-all laws possible config passes part output byte before spelled b.here tries course later l b.steady b.idle b.untold b.is_course)
      (sym (ap (λ (es : List Event). next_of part limits (now config passes es).host course) is) ∙ reached);
}
  where
    there : (other : List Event) → events ≡ other → IsLived config passes other
    there other is = subst (λ (es : List Event). IsLived config passes es) is lived
