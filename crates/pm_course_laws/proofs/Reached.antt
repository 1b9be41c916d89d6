-- What a course has read, and what the end Reached is worth by that.
use Rattle.std.proofs.Common.{◌≡◌, ◌<◌, ℕ, Bool, true, false, List, [], ◌∷◌, ◌++◌, Option, Some, None, Ok, refl, ap, sym, subst, ◌∙◌, append_assoc}
use Rattle.std.specs.Prelude.{◌||◌, if◌then◌else◌, unwrap_or, is_none, is_some, option_map, IsSomeAnd}
use Rattle.std.specs.List.{list_any}
use Rattle.pm_table.specs.declared.cell.Cell.TheVariants.{Out, Protect}
use Rattle.pm_table.specs.declared.reg.Reg.{Reg}
use Rattle.pm_table.specs.declared.reg.Reg.TheVariants.{Operation, VoutCommand, VoutMax, MarginHigh, MarginLow, VoutMin}
use Rattle.pm_device.specs.declared.config.Config.{Config}
use Rattle.pm_host.specs.declared.job.Job.{Job as Asked}
use Rattle.pm_host.specs.declared.job.Job.TheVariants.{Order}
use Rattle.pm_host.specs.declared.job.JobEnd.{JobEnd}
use Rattle.pm_host.specs.declared.job.JobEnd.TheVariants as end
use Rattle.pm_host.specs.Summary.{Summary}
use Rattle.pm_limits.specs.declared.part_registers.PartRegisters.{PartRegisters}
use Rattle.pm_limits.specs.declared.output_limits.OutputLimits.{OutputLimits}
use Rattle.pm_rail.specs.declared.course.Course.{Course}
use Rattle.pm_rail.specs.declared.next.Next.{Next}
use Rattle.pm_rail.specs.declared.next.Next.TheVariants.{Job, Ended}
use Rattle.pm_rail.specs.declared.orders.PlanOrder.{PlanOrder}
use Rattle.pm_rail.specs.declared.survey.Survey.{Survey}
use Rattle.pm_rail.specs.declared.wanted.Wanted.{Wanted}
use Rattle.pm_rail.specs.Course.{after_next, naming, next_of, once_more, renewed, says, told_of}
use Rattle.pm_rail.specs.Lemmas.Says.{Names, differing-same, ended-same, orders, reads, renewed-so, says-job, says-reached}
use Rattle.pm_rail.specs.Orders.{plan_of}
use Rattle.pm_rail.specs.Registers.{wants_of}
use Rattle.pm_rail.specs.Survey as survey
use Rattle.pm_rail.specs.Survey.{asking, ended, is_surveyed, next_job, nothing_read, wanted_in}
use Rattle.pm_world.specs.declared.event.Event.{Event}
use Rattle.pm_world.specs.Bands.{HoldsMissing}
use Rattle.pm_world.specs.Confirmed.{reads_cell, restarted_since, restarts_converter}
use Rattle.pm_world.specs.Courses.{IsCourse, asks, asks_else, begins, beside, forgets, tells, tells_else}
use Rattle.pm_world.specs.Courses as course
use Rattle.pm_world.specs.Ended.{begins_other}
use Rattle.pm_world.specs.Honest.{IsSpelled}
use Rattle.pm_world.specs.Job.{asked_by}
use Rattle.pm_world.specs.Life.{now}
use Rattle.pm_world.specs.Lived.{EventsAreLived, IsLived}
use Rattle.pm_world.specs.Surveys.{AreRead, FollowsSurveys, MissingUnread, SurveysHoldInLives, was_read}
use Rattle.std.proofs.Math.Path.{fun_ext}
use Rattle.pm_num.specs.AnyFormat.{Shape, shape_value}
use Rattle.std.specs.Option.{option_map_or}
use Rattle.pm_table.specs.declared.cell.Cell.{Cell}
use Rattle.pm_host.specs.Possible.{only}
use Rattle.pm_model.specs.Commanded.{commanded, selected}
use Rattle.pm_device.specs.Held.{shape_for, value_for}
use Rattle.pm_host.specs.declared.knowledge.Possible.{Possible}
use Rattle.pm_host.specs.declared.knowledge.Possible.TheVariants.{Any, Words as Listed}
use Rattle.pm_host.specs.Summary.{format_at, possible_at}
use Rattle.pm_limits.specs.declared.band.Band.{Band}
use Rattle.pm_limits.specs.Band.{band_at}
use Rattle.pm_limits.specs.Part.{has_register, missing_word}
use Rattle.pm_rail.specs.Known.{Cells, cells_of, known_at, known_of, known_word}
use Rattle.pm_rail.specs.Lemmas.Ends.{done}
use Rattle.pm_rail.specs.Lemmas.Known.{IsPlanned, is-planned, wanted-needed}
use Rattle.pm_rail.specs.Laws.{SurveysEndKnown}
use Rattle.pm_rail.specs.Orders.{is_needed, order_of}
use Rattle.pm_rail.specs.Plan.{commands_by, goal_of, next_register}
use Rattle.pm_rail.specs.Registers.{Held, Wants}
use Rattle.pm_course.specs.declared.course_end.CourseEnd.TheVariants as end_of_course
use Rattle.pm_course.specs.declared.course_end.CourseNext.TheVariants as said
use Rattle.pm_course.specs.declared.frame_course.FrameCourse.{FrameCourse}
use Rattle.pm_course.specs.declared.voltages.Voltages.{Voltages}
use Rattle.pm_course.specs.FrameCourse.{SaysNext, going_on, last_end, with_plan}
use Rattle.pm_world.specs.Laws.{PossibleWordsAreHeld}
use Rattle.pm_world.specs.Plans.{held_at}
use Rattle.pm_world.specs.Surveys.{AreKnownSince, IsOneValue, KeepsSurveys, cells_at}
use Rattle.pm_rail.specs.Course.{course_of}
use Rattle.pm_course_laws.specs.FrameLives.{IsFrameCourse, Means}
use Rattle.pm_course_laws.specs.Reached.{HoldsWanted, ReachedSinceItRead, ReadsStand}
use Rattle.pm_course_laws.proofs.Said as ties
use Rattle.pm_course_laws.proofs.Said.{Given}
use Rattle.pm_course_laws.proofs.Worth as to

-- a cell that was read since, without a restart
pub was-since : (config : Config) (passes : ℕ) (cell : Cell) (later before : List Event) → was_read config passes cell later before ≡ true →
    list_any restarts_converter later ≡ false → restarted_since config passes cell (later ++ before) ≡ false
unfolding restarted_since
was-since config passes cell [] before was steady = cc
was-since config passes cell (one ∷ later) before was steady =
    go (reads_cell config passes cell (later ++ before) one) was (restarts_converter one) steady
    (was-since config passes cell later before) where
      go : (b : Bool) → (b || was_read config passes cell later before) ≡ true → (r : Bool) →
          (r || list_any restarts_converter later) ≡ false →
          (was_read config passes cell later before ≡ true → list_any restarts_converter later ≡ false →
          restarted_since config passes cell (later ++ before) ≡ false) →
          (if b then false else (r || restarted_since config passes cell (later ++ before))) ≡ false
      go true w r s more = refl
      go false w true s more = cc
      go false w false s more = more w s

module _ (lives : EventsAreLived) (surveys : SurveysHoldInLives) (config : Config) (passes : ℕ) (part : PartRegisters)
    (output : ℕ) (wanted : Wanted) (begun : Course) (before : List Event) (here : output < config.count)
    (own : begun.survey.output ≡ output)
    (plan : begun.survey.plan ≡ Some wanted) (words : begun.byte ≡ None) (none : begun.survey.read ≡ nothing_read) where
  abbrev at : List Event → Summary
  at es = (now config passes (es ++ before)).host

  -- what stays of a course, and what it has read
  pub record Way (c : Course) (later : List Event) : Type 0 where
    pub own' : c.survey.output ≡ output
    pub plan' : c.survey.plan ≡ Some wanted
    pub words' : c.byte ≡ None
    pub are : AreRead config passes c.survey later before

  -- a survey that has read nothing
  empty-read : (v : Survey) (later : List Event) → v.read ≡ nothing_read → AreRead config passes v later before
  empty-read v later is = record {
    registers = λ r h. let bad = sym h ∙ (ap (λ x. survey.has_read x r) is ∙ off r) in cc;
    protect = λ h. let bad = sym h ∙ ap (λ x. x.protect) is in cc;
  }
    where
      off : (r : Reg) → survey.has_read nothing_read r ≡ false
      off Operation = refl
      off VoutCommand = refl
      off VoutMax = refl
      off MarginHigh = refl
      off MarginLow = refl
      off VoutMin = refl

  renewed-way : (limits : OutputLimits) (c : Course) (later : List Event) → Way c later → Way (renewed part limits (at later) c) later
  renewed-way limits c later way = renewed-so (λ (x : Course). Way x later) part limits (at later) c way (record {
    own' = way.own';
    plan' = way.plan';
    words' = way.words';
    are = empty-read (once_more c).survey later refl;
  })

  named-way : (c : Course) (later : List Event) (n : Next) → Way c later → Way (naming c n) later
  named-way c later (Job j) way = record {
    own' = way.own';
    plan' = way.plan';
    words' = way.words';
    are =
        record { registers = way.are.registers; protect = way.are.protect };
  }
  named-way c later (Ended e) way = way

  more-way : (c : Course) (later : List Event) (event : Event) → IsLived config passes (event ∷ later ++ before) →
      Way c later → Way c (event ∷ later)
  more-way c later event lived way = record {
    own' = way.own';
    plan' = way.plan';
    words' = way.words';
    are = (surveys.follows config passes (event ∷ later ++ before) lived).more c.survey (event ∷ []) later before refl way.are;
  }

  same-read : (v w : Survey) (l : List Event) → v.read ≡ w.read → v.output ≡ w.output → AreRead config passes w l before →
      AreRead config passes v l before
  same-read v w l reads' outputs are = record {
    registers = λ r h. ap (λ (o : ℕ). was_read config passes (Out o r) l before) outputs
        ∙ are.registers r (ap (λ x. survey.has_read x r) (sym reads') ∙ h);
    protect = λ h. are.protect (ap (λ x. x.protect) (sym reads') ∙ h);
  }

  -- a job that it named is told
  told-way : (limits : OutputLimits) (r : Course) (newer later : List Event) (event : Event) (j : Asked) (e : JobEnd) →
      IsLived config passes ((newer ++ event ∷ later) ++ before) → Way r later →
      says part limits (at later) r ≡ Job j → asked_by event ≡ Some j →
      list_any begins_other newer ≡ false → (now config passes ((newer ++ event ∷ later) ++ before)).end ≡ Some e →
      Way (told_of (naming r (Job j)) e) (newer ++ event ∷ later)
  told-way limits r newer later event j e lived way says' asked' alone ended' = record {
    own' = (ended-same (asking r.survey (Some j)) (Some j) e).1 ∙ way.own';
    plan' = (ended-same (asking r.survey (Some j)) (Some j) e).2 ∙ way.plan';
    words' = (differing-same (naming r (Job j)) (Some j) e).0 ∙ way.words';
    are = go (says-job part limits (at later) r way.words' j says').1 refl;
  }
    where
      follows : FollowsSurveys config passes ((newer ++ event ∷ later) ++ before)
      follows = surveys.follows config passes ((newer ++ event ∷ later) ++ before) lived

      order-read : (order : PlanOrder) (k : JobEnd) →
          (ended (asking r.survey (Some (Order (Out r.survey.output order.register) order.word)))
          (Some (Order (Out r.survey.output order.register) order.word)) k).read ≡ r.survey.read
      order-read order end.Done = refl
      order-read order (end.Differs w) = refl
      order-read order end.Unknown = refl
      order-read order end.Learned = refl

      go : {k : Asked} → Names part limits (at later) r k → k ≡ j →
          AreRead config passes (ended (asking r.survey (Some j)) (Some j) e) (newer ++ event ∷ later) before
      go (reads k asks') same =
          follows.told part r.survey newer later before event j e refl (subst (λ (o : ℕ). o < config.count) (sym way.own') here) way.are
          (asks' ∙ ap (λ (x : Asked). Some x) same) asked' alone ended'
      go (orders order surveyed plan'') same =
          subst (λ (x : Asked). AreRead config passes (ended (asking r.survey (Some x)) (Some x) e) (newer ++ event ∷ later) before) same
          (same-read (ended (asking r.survey (Some (Order (Out r.survey.output order.register) order.word)))
          (Some (Order (Out r.survey.output order.register) order.word)) e)
          r.survey (newer ++ event ∷ later) (order-read order e)
          (ended-same (asking r.survey (Some (Order (Out r.survey.output order.register) order.word)))
          (Some (Order (Out r.survey.output order.register) order.word)) e).1
          (subst (λ (l : List Event). AreRead config passes r.survey l before) (append_assoc newer (event ∷ []) later)
          (follows.more r.survey (newer ++ event ∷ []) later before
          (ap (λ (l : List Event). l ++ before) (sym (append_assoc newer (event ∷ []) later))) way.are)))

  earlier-lived : (newer es : List Event) (event : Event) → IsLived config passes ((newer ++ event ∷ es) ++ before) →
      IsLived config passes (es ++ before)
  earlier-lived newer es event lived = lives.earlier config passes (newer ++ event ∷ []) (es ++ before)
      (subst (λ (l : List Event). IsLived config passes l)
      (append_assoc newer (event ∷ es) before ∙ sym (append_assoc newer (event ∷ []) (es ++ before))) lived)

  pub all-way : (c : Course) (later : List Event) → IsCourse config passes part begun before c later →
      IsLived config passes (later ++ before) → Way c later
  all-way c later begins lived = record { own' = own; plan' = plan; words' = words; are = empty-read begun.survey [] none }
  all-way c later (beside x es event was may) lived =
      more-way x es event lived (all-way x es was (lives.earlier config passes (event ∷ []) (es ++ before) lived))
  all-way c later (course.says limits x es was) lived =
      named-way (renewed part limits (at es) x) es (next_of part limits (at es) x) (renewed-way limits x es (all-way x es was lived))
  all-way c later (asks limits x es event j was named asked') lived =
      more-way (after_next part limits (at es) x) es event lived
      (named-way (renewed part limits (at es) x) es (next_of part limits (at es) x)
      (renewed-way limits x es (all-way x es was (lives.earlier config passes (event ∷ []) (es ++ before) lived))))
  all-way c later (tells limits x newer es event j e was named asked' alone ended') lived =
      subst (λ (n : Next). Way (told_of (naming (renewed part limits (at es) x) n) e) (newer ++ event ∷ es)) (sym named)
      (told-way limits (renewed part limits (at es) x) newer es event j e lived
      (renewed-way limits x es (all-way x es was (earlier-lived newer es event lived))) named asked' alone ended')
  all-way c later (asks_else limits x es event byte left ordered j was is-byte other asked') lived =
      let bad = sym (all-way x es was (lives.earlier config passes (event ∷ []) (es ++ before) lived)).words' ∙ is-byte in cc
  all-way c later (tells_else limits x newer es event byte left ordered j e was is-byte other asked' alone ended') lived =
      let bad = sym (all-way x es was (earlier-lived newer es event lived)).words' ∙ is-byte in cc
  all-way c later (forgets x es was) lived =
      let way = all-way x es was lived in
      record {
        own' = way.own';
        plan' = way.plan';
        words' = way.words';
        are =
            record { registers = way.are.registers; protect = way.are.protect };
      }

-- ---- The end Reached ----

module _ (laws : Given) (surveys : SurveysHoldInLives) (ended-known : SurveysEndKnown) (possible : PossibleWordsAreHeld) (config : Config)
    (passes : ℕ) (part : PartRegisters)
    (output : ℕ) (words wanted : Wanted) (voltages : Voltages) (tries : ℕ) (c : FrameCourse) (own : Bool) (later before : List Event)
    (spelled : IsSpelled config) (lived : IsLived config passes (later ++ before)) (here : output < config.count)
    (means : Means config output words voltages wanted)
    (course : IsFrameCourse config passes part (going_on (course_of output words tries) voltages) before c own later) where
  abbrev x : Course
  x = with_plan c.course (Some wanted)

  abbrev es : List Event
  es = later ++ before

  abbrev s : Summary
  s = (now config passes es).host

  abbrev cells : Cells
  cells = cells_at config passes part es output

  abbrev wants : Wants
  wants = wants_of wanted

  same : ties.Same laws.followed laws.lives config passes part (going_on (course_of output words tries) voltages) before (Some wanted) c
  same = (ties.stands-all laws.followed laws.lives config passes part
      (going_on (course_of output words tries) voltages) before (Some wanted)
      (to.wishes_names laws config passes part output words wanted voltages tries before spelled here means) c own later lived course).same

  -- what its survey counts as read was read since the course began
  reads-since : AreRead config passes c.course.survey later before
  reads-since =
      let way = all-way laws.lives surveys config passes part output wanted (course_of output wanted tries) before
      here refl refl refl refl x later
      (to.goes laws config passes part output words wanted voltages tries before spelled here means c own later lived course) lived in
      record { registers = way.are.registers; protect = way.are.protect }

  module _ (limits : OutputLimits) (is : FrameCourse) (stand : ReadsStand config passes c.course.survey es)
      (unread : MissingUnread config passes part output es) (missing : HoldsMissing part config (now config passes es).device.words output)
      (on : last_end c.end ≡ None) (says' : SaysNext part limits s c (said.Ended end_of_course.Reached) is) where
    r : Course
    r = renewed part limits s x

    -- what the course is asked by
    record AskedBy (y : Course) : Type 0 where
      output' : y.survey.output ≡ output
      plan' : y.survey.plan ≡ Some wanted
      byte' : y.byte ≡ None
      stands : (register : Reg) → survey.has_read y.survey.read register ≡ true →
          restarted_since config passes (Out output register) es ≡ false

    unread-stands : (register : Reg) → survey.has_read nothing_read register ≡ true →
        restarted_since config passes (Out output register) es ≡ false
    unread-stands Operation h = cc
    unread-stands VoutCommand h = cc
    unread-stands VoutMax h = cc
    unread-stands MarginHigh h = cc
    unread-stands MarginLow h = cc
    unread-stands VoutMin h = cc

    asked : AskedBy (renewed part limits s x)
    asked = renewed-so (λ (y : Course). AskedBy y) part limits s x (record {
      output' = same.output;
      plan' = refl;
      byte' = same.byte;
      stands = λ register h. subst (λ (o : ℕ). restarted_since config passes (Out o register) es ≡ false)
          same.output (stand.registers register h);
    }) (record {
      output' = same.output;
      plan' = refl;
      byte' = same.byte;
      stands = unread-stands;
    })

    over : (is_surveyed part (renewed part limits s x).survey s ≡ true)
        × (is_none (renewed part limits s x).survey.plan ≡ false →
        plan_of part s limits (renewed part limits s x).survey.output
        (wants_of (wanted_in (renewed part limits s x).survey.plan)) ≡ Ok None)
    over = says-reached part limits s (renewed part limits s x) asked.byte'
        (to.wishes_reached laws config passes part output words wanted voltages tries before spelled here means limits
        c is later same lived on says')

    planned : IsPlanned part s limits output wants None
    planned = is-planned part s limits output wants None
        (sym (ap (λ (o : ℕ). plan_of part s limits o wants) asked.output')
        ∙ (sym (ap (λ (p : Option Wanted). plan_of part s limits (renewed part limits s x).survey.output
        (wants_of (wanted_in p))) asked.plan')
        ∙ over.1 (ap (λ (p : Option Wanted). is_none p) asked.plan')))

    shape-is : planned.shape ≡ shape_for config output
    shape-is = (laws.formats.agree config passes es spelled lived).held output planned.shape planned.format

    format-is : format_at s output ≡ Some (shape_for config output)
    format-is = planned.format ∙ ap (λ (h : Shape). Some h) shape-is

    -- what is needed was read, and is known
    known-by : (v : Survey) → v.output ≡ output → v.plan ≡ Some wanted → is_surveyed part v s ≡ true → (register : Reg) →
        is_needed (known_of cells output) wants register ≡ true →
        (has_register part register ≡ true → survey.has_read v.read register ≡ true)
        × (is_none (known_at cells (Out output register)) ≡ false)
    known-by v own' plan' ended' register =
        subst (λ (o : ℕ). is_needed (known_of cells o) wants register ≡ true →
        (has_register part register ≡ true → survey.has_read v.read register ≡ true)
        × (is_none (known_at cells (Out o register)) ≡ false)) own'
        (subst (λ (p : Option Wanted). is_needed (known_of cells v.output) (wants_of (wanted_in p)) register ≡ true →
        (has_register part register ≡ true → survey.has_read v.read register ≡ true)
        × (is_none (known_at cells (Out v.output register)) ≡ false)) plan'
        (ended-known.known part v s (shape_for config output) register ended' (ap (λ (o : ℕ). format_at s o) own' ∙ format-is)))

    -- a margin that the part doesn't have isn't known
    never-known : (register : Reg) → has_register part register ≡ false → missing_word part (shape_for config output) register ≡ None →
        is_none (known_at cells (Out output register)) ≡ false → ⊥
    never-known register lacks none known = go (possible_at s (Out output register)) refl
        (ap (λ (o : Option ℕ). is_none (known_word (Out output register) (option_map_or only o (possible_at s (Out output register)))))
        (sym none) ∙ known)
      where
        go : (p : Possible) → possible_at s (Out output register) ≡ p → is_none (known_word (Out output register) p) ≡ false → ⊥
        go Any e n = cc
        go (Listed listed) e n =
            let read = (possible.held config passes es lived).found (Out output register) here (λ any. let bad = sym e ∙ any in cc) in
            let bad = sym (unread register lacks) ∙ read in cc

    since : AreKnownSince config passes part output wants es
    since register needed = by (known-by (renewed part limits s x).survey asked.output' asked.plan' over.0 register needed) where
      by : (has_register part register ≡ true → survey.has_read (renewed part limits s x).survey.read register ≡ true)
          × (is_none (known_at cells (Out output register)) ≡ false) →
          (is_none (known_at cells (Out output register)) ≡ false)
          × (missing_word part (shape_for config output) register ≡ None → restarted_since config passes (Out output register) es ≡ false)
      by (read, known) = (known, λ none. go none (has_register part register) refl) where
        go : missing_word part (shape_for config output) register ≡ None → (b : Bool) → has_register part register ≡ b →
            restarted_since config passes (Out output register) es ≡ false
        go none true has = asked.stands register (read has)
        go none false lacks = absurd (never-known register lacks none known)

    keeps : KeepsSurveys config passes es
    keeps = surveys.keeps config passes es spelled lived

    none-next : next_register (shape_value (shape_for config output)) (known_of cells output) wants ≡ None
    none-next = subst (λ (h : Shape). next_register (shape_value h) (known_of (cells_of part h s) output) wants ≡ None) shape-is
        (none (next_register (shape_value planned.shape) (known_of (cells_of part planned.shape s) output) wants) planned.next) where
          none : (o : Option Reg) → option_map (order_of (known_of (cells_of part planned.shape s) output) wants) o ≡ None → o ≡ None
          none None h = refl
          none (Some register) h = cc

    word-held : (register : Reg) (word : ℕ) → wants register ≡ Some word → held_at config passes es output register ≡ word
    word-held register word is' =
        keeps.words part output wants register here missing since
        (wanted-needed (known_of cells output) wants register (ap is_some is'))
        ∙ (done (shape_value (shape_for config output)) (known_of cells output) wants refl none-next register
        ∙ ap (λ (o : Option ℕ). unwrap_or o (known_of cells output register)) is')

    held-goal : (register : Reg) → held_at config passes es output register ≡ goal_of (held_at config passes es output) wants register
    held-goal register = go (wants register) refl where
      go : (o : Option ℕ) → wants register ≡ o → held_at config passes es output register ≡ goal_of
          (held_at config passes es output) wants register
      go None e = sym (ap (λ (o : Option ℕ). unwrap_or o (held_at config passes es output register)) e)
      go (Some word) e = word-held register word e ∙ sym (ap (λ (o : Option ℕ). unwrap_or o (held_at config passes es output register)) e)

    has-band : (v : Survey) → v.output ≡ output → is_surveyed part v s ≡ true → is_none (band_at part s output) ≡ false
    has-band v own' ended' = subst (λ (o : ℕ). is_none (band_at part s o) ≡ false) own' (ended-known.band part v s ended')

    one-band : IsSomeAnd (band_at part s output) (λ band. IsOneValue band config passes es output)
    one-band = go (band_at part s output) refl where
      go : (b : Option Band) → band_at part s output ≡ b → IsSomeAnd b (λ band. IsOneValue band config passes es output)
      go (Some band) e = keeps.one part output wants band here missing since e
      go None e = let bad = sym (ap is_none e) ∙ has-band (renewed part limits s x).survey asked.output' over.0 in cc

    holds : HoldsWanted config passes part output wanted es
    unfolding commanded selected
    holds = record {
      words = word-held;
      commanded = ap (λ (h : Held). commands_by (value_for config output) h) (fun_ext held-goal);
      one = one-band;
    }

pub reached-since-it-read : Given → SurveysHoldInLives → SurveysEndKnown → PossibleWordsAreHeld → ReachedSinceItRead
reached-since-it-read laws surveys ended-known possible = record {
  reached = λ config passes part limits output words wanted voltages tries c is own later before spelled lived here means course stand unread missing on says'.
      holds laws surveys ended-known possible config passes part output words wanted voltages tries c own later before
      spelled lived here means course
      limits is stand unread missing on says';
  steady = λ config passes v later before are steady. record {
    registers = λ register read. was-since config passes (Out v.output register) later before (are.registers register read) steady;
    protect = λ read. was-since config passes Protect later before (are.protect read) steady;
  };
  reads = λ config passes part output words wanted voltages tries c own later before spelled lived here means course.
      reads-since laws surveys ended-known possible config passes part output words wanted voltages tries c own later before
      spelled lived here means course;
}
