-- A course to wanted words by jobs that nothing disturbs: what its orders leave, and how it ends.
use Rattle.std.specs.Prelude.{Bool, List, None, Ok, Option, Some, [], cond, false, if◌then◌else◌, is_none, is_some, not, option_map, refl, slice_index_or, true, unwrap_or, ℕ, ◌&&◌, ◌+◌, ◌-◌, ◌<◌, ◌==◌, ◌||◌, ◌∷◌, ◌≡◌, ◌≢◌, ◌≤◌, ◌⊎◌}
use Rattle.std.proofs.Common.{ap, ap₂, arith, inl, inr, subst, suc, sym, zero, ◌∙◌}
use Rattle.pm_table.specs.declared.reg.Reg.{Reg}
use Rattle.pm_table.specs.declared.reg.Reg.TheVariants.{MarginHigh, MarginLow, Operation, VoutCommand, VoutMax, VoutMin}
use Rattle.pm_table.specs.Cell.{IsCell, cell_accepts, cell_code, is_voltage, register_code, same_register}
use Rattle.pm_table.specs.Laws.{CellsAreToldApart, CellsHavePlaces}
use Rattle.pm_table.specs.Protection.{is_allowed}
use Rattle.pm_model.specs.Settings.{Words, word_at}
use Rattle.pm_host.specs.declared.knowledge.Possible.{Possible}
use Rattle.pm_host.specs.Known.{HasPlaces, Known, known_after, known_possible}
use Rattle.pm_host.specs.Marks.{Good, Put}
use Rattle.pm_host.specs.Possible.{is_possible, only}
use Rattle.pm_rail.specs.declared.fault.PlanFault.TheVariants.{Busy, MissingRegister, Protected}
use Rattle.pm_rail.specs.declared.survey.Reads.{Reads}
use Rattle.pm_rail.specs.declared.wanted.Wanted.{Wanted}
use Rattle.pm_rail.specs.Known.{known_word}
use Rattle.pm_rail.specs.Lemmas.Known.{none-voltage, not-second}
use Rattle.pm_rail.specs.Orders.{answer, is_protected, is_wanted_missing, limits_fault, missing_fault, order_of, plan_of, protection_fault, voltages, words_fault}
use Rattle.pm_rail.specs.Plan.{commands_by, goal_of, is_due, next_register, put}
use Rattle.pm_rail.specs.Registers.{Held, Wants, wants_of}
use Rattle.pm_rail.specs.Lemmas.Places.{below, cell_of, each-place, has_at, is-known, none-read, same_place, total}
use Rattle.pm_course_laws.proofs.ChainedBytes.{byte-ends}
use Rattle.pm_course_laws.proofs.ByteReads.{chain-few, survey-ends}
use Rattle.pm_course_laws.proofs.ChainedSurveys.{LawsOfSurveys, asks_in, life-places, surveyed_by, true-format, Allows, At, Calm, Kind, Knows, accepts, asked-output, asked-plan, begins-at, checks, due-before, due-wanted, dues, fewer, first-none-of, five-dues, goal-stays, in-range, is_learned, kind, learns, need, next-is-due, none-due, none-next, none-some, none-three, nothing-needed, only-possible, order-only, order-others, order-whole, other-place, plan-is, plan_in, same-fits, settled, seven, survey-step, three-none, todo, two-cells, words-stay}
use Rattle.std.proofs.Math.Path.{fun_ext}
use Rattle.std.proofs.lemmas.Bool.{not-false}
use Rattle.pm_num.specs.AnyFormat.{Shape}
use Rattle.pm_table.specs.declared.cell.Cell.TheVariants.{Out, Protect}
use Rattle.pm_table.specs.Operation.{selected_register}
use Rattle.pm_table.specs.Rules.{first}
use Rattle.pm_device.specs.declared.config.Config.{Config}
use Rattle.pm_device.specs.Held.{Held as Converter, shape_for, value_for}
use Rattle.pm_host.specs.declared.job.Job.{Job as Asked}
use Rattle.pm_host.specs.declared.job.Job.TheVariants.{Order}
use Rattle.pm_host.specs.declared.job.JobEnd.{JobEnd}
use Rattle.pm_host.specs.declared.job.JobEnd.TheVariants.{Done}
use Rattle.pm_host.specs.Summary.{Summary, format_at, possible_at}
use Rattle.pm_limits.specs.declared.output_limits.OutputLimits.{OutputLimits}
use Rattle.pm_limits.specs.declared.output_limits.OutputLimits.TheVariants.{Unlimited}
use Rattle.pm_limits.specs.declared.part_registers.PartRegisters.{PartRegisters}
use Rattle.pm_limits.specs.Guard.{limits_at}
use Rattle.pm_limits.specs.Part.{has_register, missing_word}
use Rattle.pm_world.specs.Bands.{HoldsMissing}
use Rattle.pm_world.specs.Lemmas.Plans.{last-none}
use Rattle.pm_rail.specs.declared.apply_end.ApplyEnd.TheVariants.{Reached, Stopped}
use Rattle.pm_rail.specs.declared.apply_end.StopCause.TheVariants.{Refused, Spent}
use Rattle.pm_rail.specs.declared.course.Course.{Course}
use Rattle.pm_rail.specs.declared.course.Differing.{Differing}
use Rattle.pm_rail.specs.declared.fault.PlanFault.{PlanFault}
use Rattle.pm_rail.specs.declared.next.Next.TheVariants.{Ended, Job}
use Rattle.pm_rail.specs.declared.survey.Survey.{Survey}
use Rattle.pm_rail.specs.Course.{after_by, course_of, going, going_to, is_carried_out, naming, next_by, once_more, order_by, order_next, ordering, survey_or_order, reading_for, renewed, says, told_of}
use Rattle.pm_rail.specs.Laws.{CoursesEnd, SurveysEndKnown}
use Rattle.pm_rail.specs.Lemmas.Steps.{first-of, second-of}
use Rattle.pm_rail.specs.Lemmas.Surveyed.{has-none}
use Rattle.pm_rail.specs.Survey.{due_job, is_surveyed, nothing_read, survey_of, wanted_in}
use Rattle.pm_course_laws.specs.Chains.{Chain, EndsBy, FitsPart, HasLife, IsOrdered, Pair, Step, forgotten, held_fault, is_surprised, no_job, one_more, tries_for, output_words_of}
use Rattle.std.proofs.lemmas.Bool.Decides.{nat_tests}
use Rattle.pm_table.specs.declared.cell.Cell.{Cell}
use Rattle.pm_model.specs.Commanded.{commanded, selected}
use Rattle.pm_host.specs.Refusals.{is_busy}
use Rattle.pm_rail.specs.declared.apply_end.ApplyEnd.{ApplyEnd}
use Rattle.pm_rail.specs.declared.next.Next.{Next}
use Rattle.pm_rail.specs.Lemmas.Ends.{done}
use Rattle.pm_rail.specs.Lemmas.Says.{asks-due, renewed-so, taken}
use Rattle.pm_course_laws.specs.Chains.{ChainEnds, ChainsEnd, IsUnderWay}
use Rattle.pm_host.specs.Transcript as accepted

-- ---- What an order makes of what is known ----

module _ (apart : CellsAreToldApart) (law : CellsHavePlaces) (output : ℕ) (small : output < 8) (read' : Reads) (k : Known)
    (words new_words : Words) (spare : ℕ) (was : Knows output read' k words spare) (p : Option Reg) (word : ℕ)
    (taken : cell_accepts (cell_of output p) word ≡ true) (takes : word_at new_words (cell_of output p) ≡ word)
    (others : (q : Option Reg) → same_place p q ≡ false → word_at new_words (cell_of output q) ≡ word_at words (cell_of output q)) where
  abbrev now_known : Known
  now_known = known_after (known_after k (Put (cell_of output p) word)) (Good (cell_of output p) word)

  only-here : known_possible now_known (cell_of output p) ≡ only word
  only-here = order-only apart law k was.whole output small p word

  stay-there : (q : Option Reg) → same_place p q ≡ false → known_possible now_known (cell_of output q) ≡ known_possible k (cell_of output q)
  stay-there = order-others apart law k was.whole output small p word

  pub order-knows : Knows output read' now_known new_words spare
  order-knows = record {
    whole = order-whole apart law k was.whole output small p word;
    may = each-place (λ (q : Option Reg). has_at read' q ≡ true →
        is_possible (word_at new_words (cell_of output q)) (known_possible now_known (cell_of output q)) ≡ true) p
        (λ is. ap₂ (λ (w : ℕ) (o : Possible). is_possible w o) takes only-here ∙ only-possible word)
        (λ q two is. ap₂ (λ (w : ℕ) (o : Possible). is_possible w o) (others q two) (stay-there q two) ∙ was.may q is);
    calm = go was.calm;
  }
    where
      go : Calm k output words ⊎ (7 ≤ spare) → Calm now_known output new_words ⊎ (7 ≤ spare)
      go (inl calm) = inl (each-place (λ (q : Option Reg). is_possible (word_at new_words (cell_of output q))
          (known_possible now_known (cell_of output q)) ≡ true) p
          (ap₂ (λ (w : ℕ) (o : Possible). is_possible w o) takes only-here ∙ only-possible word)
          (λ q two. ap₂ (λ (w : ℕ) (o : Possible). is_possible w o) (others q two) (stay-there q two) ∙ calm q))
      go (inr enough) = inr enough

  pub order-todo : todo now_known output read' ≤ todo k output read'
  unfolding todo
  order-todo = below (λ q. not (settled k output read' q)) (λ q. not (settled now_known output read' q))
      (each-place (λ (q : Option Reg). not (settled now_known output read' q) ≡ true → not (settled k output read' q) ≡ true) p
      (λ is. own (has_at read' p) refl is)
      (λ q two is. sym (ap (λ (o : Possible). not (has_at read' q && is_some (known_word (cell_of output q) o))) (stay-there q two)) ∙ is))
    where
      there' : is_some (known_word (cell_of output p) (known_possible now_known (cell_of output p))) ≡ true
      there' = none-some _ (is-known (cell_of output p) word _ taken only-here)

      own : (b : Bool) → has_at read' p ≡ b →
          not (b && is_some (known_word (cell_of output p) (known_possible now_known (cell_of output p)))) ≡ true →
          not (b && is_some (known_word (cell_of output p) (known_possible k (cell_of output p)))) ≡ true
      own true e is = let bad : false ≡ true = sym (ap not there') ∙ is in cc
      own false e is = refl

-- WRITE_PROTECT allows each register that is due, if none is protected
pub allows : (protect : ℕ) (held : Held) (wanted : Wanted) → protection_fault protect held (wants_of wanted) ≡ None →
    Allows protect held (wants_of wanted)
allows protect held wanted free r due = by r (is_voltage r) refl due where
  not-not : (b : Bool) → not b ≡ false → b ≡ true
  not-not true e = refl
  not-not false e = cc

  by : (x : Reg) (b : Bool) → is_voltage x ≡ b → is_due held (wants_of wanted) x ≡ true → is_allowed protect (register_code x) ≡ true
  by x true volt d = not-not _ (not-second (is_due held (wants_of wanted) x) _
      (none-voltage (λ y. Protected y) (is_protected protect held (wants_of wanted)) free x volt) d)
  by Operation false volt d = let bad = due-wanted held (wants_of wanted) Operation d in cc
  by VoutCommand false volt d = cc
  by VoutMax false volt d = cc
  by MarginHigh false volt d = cc
  by MarginLow false volt d = cc
  by VoutMin false volt d = cc

-- ---- What each job leaves to do ----

module _ (laws : LawsOfSurveys) (end_known : SurveysEndKnown)
    (output : ℕ) (wanted : Wanted) (part : PartRegisters) (fault : Option PlanFault) (start : Converter) (extra : ℕ) where
  abbrev pub wanting : Wants
  wanting = wants_of wanted

  -- the words of the output
  abbrev pub of_output : Words → Held
  of_output w register = word_at w (Out output register)

  abbrev pub goal : Held
  goal = goal_of (output_words_of start output) wanting

  -- what stays of the course, by the limits and by what is held
  pub record Facts (limits : OutputLimits) (h : Converter) : Type 0 where
    pub fits : FitsPart part h output wanting
    pub judged : held_fault limits h output wanting ≡ fault
    pub at_end : goal_of (output_words_of h output) wanting ≡ goal
    pub protects : word_at h.words Protect ≡ word_at start.words Protect
    pub made : h.config ≡ start.config
    pub kept : is_some fault ≡ true → h.words ≡ start.words

  -- How many tries are enough: for what is still to be read, the orders, and one more survey; or, where nothing is due or the plan
  -- is refused, for what is still to be read.
  abbrev pub Enough : Survey → Bool → Summary → ℕ → Words → Type 0
  Enough v ordered k spare w =
      (need v k + spare + dues (of_output w) wanting + 8 + extra ≤ v.left)
      ⊎ ((ordered ≡ false) × ((dues (of_output w) wanting ≡ 0) ⊎ (is_some fault ≡ true)) × (need v k + spare + extra ≤ v.left))

  -- how far the course is
  pub record On (course : Course) (d : Pair) : Type 0 where
    pub spare : ℕ
    pub at : At course.survey d.guard d.held spare
    pub own : course.survey.output ≡ output
    pub plan : course.survey.plan ≡ Some wanted
    pub byte : course.byte ≡ None
    pub once : course.twice ≡ None
    pub part_is : d.guard.registers ≡ part
    pub facts : Facts (limits_at d.guard output) d.held
    pub enough : Enough course.survey course.ordered d.guard.host spare d.held.words
    pub lived : HasLife d.guard.host d.held

  -- the plan by what is known, once the survey has nothing to ask for
  pub plan-held : (course : Course) (d : Pair) → On course d → due_job d.guard.registers course.survey d.guard.host ≡ None →
      plan_in output wanted d.guard ≡ answer fault (option_map (order_of (of_output d.held.words) wanting)
      (next_register (value_for d.held.config output) (of_output d.held.words) wanting))
  plan-held course d on free =
      subst (λ (o : ℕ). FitsPart d.guard.registers d.held o wanting →
      plan_in o wanted d.guard ≡ answer (held_fault (limits_at d.guard o) d.held o wanting)
      (option_map (order_of (output_words_of d.held o) wanting)
      (next_register (value_for d.held.config o) (output_words_of d.held o) wanting)))
      on.own (λ fits. plan-is d.guard d.held course.survey on.spare on.at wanted (ap wanted_in on.plan) free end_known fits
      (ap is_some on.plan))
      (subst (λ (p : PartRegisters). FitsPart p d.held output wanting) (sym on.part_is) on.facts.fits)
      ∙ ap (λ (f : Option PlanFault). answer f (option_map (order_of (of_output d.held.words) wanting)
      (next_register (value_for d.held.config output) (of_output d.held.words) wanting))) on.facts.judged

  -- what is ordered next is the plan's order
  pub order-is : (course : Course) (d : Pair) → On course d → (limits : OutputLimits) → limits ≡ limits_at d.guard output →
      order_next d.guard.registers limits d.guard.host course ≡ plan_in output wanted d.guard
  order-is course d on limits same =
      ap (λ (b : Option ℕ). order_by d.guard.registers limits d.guard.host course.survey b) on.byte
      ∙ ap (λ (p : Option Wanted). if is_none p && is_surveyed d.guard.registers course.survey d.guard.host then Ok None
      else plan_of d.guard.registers d.guard.host limits course.survey.output (wants_of (wanted_in p))) on.plan
      ∙ ap₂ (λ (l : OutputLimits) (o : ℕ). plan_of d.guard.registers d.guard.host l o wanting) same on.own

  -- a course that is so far on says what its survey asks for, or orders
  pub says-is : (course : Course) (d : Pair) → On course d → (limits : OutputLimits) →
      says d.guard.registers limits d.guard.host course
      ≡ survey_or_order d.guard.registers limits d.guard.host course (due_job d.guard.registers course.survey d.guard.host)
  says-is course d on limits =
      ap (λ (b : Bool). if b then Ended (Stopped (Refused Busy)) else going d.guard.registers limits d.guard.host course course.twice)
      on.at.idle
      ∙ ap (λ (t : Option Differing). going d.guard.registers limits d.guard.host course t) on.once
      ∙ ap (λ (b : Option ℕ). going_to d.guard.registers limits d.guard.host course b) on.byte
      ∙ ap (λ (m : Option PlanFault). reading_for d.guard.registers limits d.guard.host course m)
      (ap₂ (λ (p : PartRegisters) (w : Option Wanted). missing_fault p (wants_of (wanted_in w))) on.part_is on.plan ∙ on.facts.fits.wanted)

  -- the converter that holds the same words is the same to a course
  same-facts : (limits : OutputLimits) (h new : Converter) → new.words ≡ h.words → new.config ≡ h.config → Facts limits h → Facts limits new
  same-facts limits h new words config facts = record {
    fits = same-fits part part new h output output (Some wanted) (Some wanted) refl words config refl refl facts.fits;
    judged = ap₂ (λ (c : Config) (w : Words). judge c w) config words ∙ facts.judged;
    at_end = ap (λ (w : Words). goal_of (of_output w) wanting) words ∙ facts.at_end;
    protects = ap (λ (w : Words). word_at w Protect) words ∙ facts.protects;
    made = config ∙ facts.made;
    kept = λ some. words ∙ facts.kept some;
  }
    where
      judge : Config → Words → Option PlanFault
      judge c w = first (
          limits_fault limits (value_for c output) wanting ∷
          words_fault (value_for c output) (of_output w) wanting ∷
          protection_fault (word_at w Protect) (of_output w) wanting ∷
          [])

  -- a job that the survey asks for
  pub on-read : (course : Course) (old new : Pair) (job : Asked) (end : JobEnd) → On course old →
      asks_in course.survey old.guard ≡ Some job → Step job end old new →
      On (record course { survey = surveyed_by course.survey job end; ordered = course.ordered || false }) new
  on-read course old new job end on asks runs =
      let step = survey-step laws course.survey old new job end on.spare on.lived on.at asks runs in
      record {
        spare = step.left;
        at = step.at;
        own = asked-output course.survey job end ∙ on.own;
        plan = asked-plan course.survey job end ∙ on.plan;
        byte = on.byte;
        once = on.once;
        part_is = runs.registers ∙ on.part_is;
        facts = subst (λ (l : OutputLimits). Facts l new.held)
            (ap (λ (l : List OutputLimits). slice_index_or l output Unlimited) (sym runs.limits))
            (same-facts (limits_at old.guard output) old.held new.held step.words step.config on.facts);
        enough = subst (λ (w : Words). Enough (surveyed_by course.survey job end) (course.ordered || false) new.guard.host step.left w)
            (sym step.words) (go step.left step.less step.tries on.enough);
        lived = step.lived;
      }
    where
      go : (left : ℕ) → need (surveyed_by course.survey job end) new.guard.host + left + 1
          ≤ need course.survey old.guard.host + on.spare → (surveyed_by course.survey job end).left + 1 ≡ course.survey.left →
          Enough course.survey course.ordered old.guard.host on.spare old.held.words →
          Enough (surveyed_by course.survey job end) (course.ordered || false) new.guard.host left old.held.words
      go left less tries (inl many) = inl (omega arith)
      go left less tries (inr last) = let few = last.2 in inr (ap (λ (b : Bool). b || false) last.0, last.1, omega arith)

  -- A job is to spare behind an answer that surprised.
  pub on-room : (course : Course) (old new : Pair) (job : Asked) (end : JobEnd) → (on : On course old) →
      (asks : asks_in course.survey old.guard ≡ Some job) → (runs : Step job end old new) → is_surprised job old ≡ true →
      (1 ≤ (on-read course old new job end on asks runs).spare)
      × Calm new.guard.host.known (surveyed_by course.survey job end).output new.held.words
  unfolding on-read
  on-room course old new job end on asks runs surprised =
      (survey-step laws course.survey old new job end on.spare on.lived on.at asks runs).room surprised

  -- the format is to be learned again
  pub on-forgets : (course : Course) (d : Pair) → (on : On course d) → 1 ≤ on.spare →
      Calm d.guard.host.known course.survey.output d.held.words → On (forgotten true course) d
  on-forgets course d on some calm = record {
    spare = on.spare - 1;
    at = record {
      idle = on.at.idle;
      there = on.at.there;
      format = on.at.format;
      knows = record { whole = on.at.knows.whole; may = on.at.knows.may; calm = inl calm };
    };
    own = on.own;
    plan = on.plan;
    byte = on.byte;
    once = on.once;
    part_is = on.part_is;
    facts = on.facts;
    enough = go on.enough;
    lived = on.lived;
  }
    where
      less : need (forgotten true course).survey d.guard.host + (on.spare - 1) ≤ need course.survey d.guard.host + on.spare
      less = omega arith

      go : Enough course.survey course.ordered d.guard.host on.spare d.held.words →
          Enough (forgotten true course).survey course.ordered d.guard.host (on.spare - 1) d.held.words
      go (inl many) = let l = less in inl (omega arith)
      go (inr last) = let few = last.2 in let l = less in inr (last.0, last.1, omega arith)

  -- all is read once more
  on-again : (course : Course) (d : Pair) → On course d → course.ordered ≡ true →
      next_register (value_for d.held.config output) (of_output d.held.words) wanting ≡ None → On (once_more course) d
  unfolding todo
  on-again course d on ordered none = record {
    spare = on.spare;
    at = record {
      idle = on.at.idle;
      there = on.at.there;
      format = on.at.format;
      knows = record {
        whole = on.at.knows.whole;
        may = λ p is. let bad = sym is ∙ none-read p in cc;
        calm = on.at.knows.calm;
      };
    };
    own = on.own;
    plan = on.plan;
    byte = on.byte;
    once = on.once;
    part_is = on.part_is;
    facts = on.facts;
    enough = go on.enough;
    lived = on.lived;
  }
    where
      go : Enough course.survey course.ordered d.guard.host on.spare d.held.words →
          Enough (once_more course).survey false d.guard.host on.spare d.held.words
      go (inl many) =
          let seven' : total (λ p. not (settled d.guard.host.known course.survey.output nothing_read p)) ≤ total (λ p. true) =
          below (λ p. true) _ (λ p h. refl) in
          let all' = seven in
          inr (refl, inl (none-due (value_for d.held.config output) (of_output d.held.words) wanting none), omega arith)
      go (inr last) = let bad = sym ordered ∙ last.0 in cc

  -- the course as it is asked
  pub on-renewed : (course : Course) (d : Pair) → On course d →
      On (renewed d.guard.registers (limits_at d.guard course.survey.output) d.guard.host course) d
  on-renewed course d on = go (is_carried_out d.guard.registers (limits_at d.guard course.survey.output) d.guard.host course) refl where
    none-left : (f : Option PlanFault) (n : Option Reg) (w : Held) → answer f (option_map (order_of w wanting) n) ≡ Ok None → n ≡ None
    none-left (Some x) n w is = cc
    none-left None None w is = refl
    none-left None (Some r) w is = cc

    due-none : is_surveyed d.guard.registers course.survey d.guard.host ≡ true →
        due_job d.guard.registers course.survey d.guard.host ≡ None
    due-none surveyed = empty (due_job d.guard.registers course.survey d.guard.host) (first-of _ _ surveyed) where
      empty : (o : Option Asked) → is_none o ≡ true → o ≡ None
      empty None e = refl
      empty (Some j) e = cc

    go : (b : Bool) → is_carried_out d.guard.registers (limits_at d.guard course.survey.output) d.guard.host course ≡ b →
        On (if b then once_more course else course) d
    go false e = on
    go true e =
        let rest = second-of (is_none course.twice) _ (second-of course.ordered _ e) in
        let surveyed = first-of (is_surveyed d.guard.registers course.survey d.guard.host) _ rest in
        let last = last-none _ (second-of (is_surveyed d.guard.registers course.survey d.guard.host) _ rest) in
        on-again course d on (first-of course.ordered _ e) (none-left fault _ (of_output d.held.words)
        (sym (plan-held course d on (due-none surveyed))
        ∙ (sym (order-is course d on (limits_at d.guard course.survey.output) (ap (limits_at d.guard) on.own)) ∙ last)))

  -- the order that is due, with the word that is wanted
  abbrev pub order_due : Pair → Reg → Asked
  order_due d r = Order (Out output r) (goal_of (of_output d.held.words) wanting r)

  -- a course that was told how its order ended
  abbrev pub after_order : Course → Asked → JobEnd → Course
  after_order course job end = told_of (naming course (Job job)) end

  -- the plan's next order
  pub on-wrote : (course : Course) (old new : Pair) (r : Reg) (end : JobEnd) → On course old → fault ≡ None →
      next_register (value_for old.held.config output) (of_output old.held.words) wanting ≡ Some r →
      Step (order_due old r) end old new → On (after_order course (order_due old r) end) new
  on-wrote course old new r end on free next runs = subst (λ (e : JobEnd). On
      (after_order course (order_due old r) e) new) (sym is.done) (record {
        spare = on.spare;
        at = record {
          idle = ap is_some is.idle;
          there = subst (λ (s : accepted.Setup). course.survey.output < s.outputs) (sym runs.kept) on.at.there;
          format = λ shape known'. on.at.format shape
              (ap (λ (l : List (Option Shape)). slice_index_or l course.survey.output None) (sym is.formats) ∙ known')
              ∙ ap (λ (c : Config). shape_for c course.survey.output) (sym is.config);
          knows = subst (λ (k : Known). Knows course.survey.output course.survey.read k new.held.words on.spare) (sym own.known) knows;
        };
        own = on.own;
        plan = on.plan;
        byte = on.byte;
        once = on.once;
        part_is = runs.registers ∙ on.part_is;
        facts = subst (λ (l : OutputLimits). Facts l new.held)
            (ap (λ (l : List OutputLimits). slice_index_or l output Unlimited) (sym runs.limits)) facts;
        enough = enough;
        lived = runs.lived;
      })
    where
      -- the judgement found nothing
      judged : (limits_fault (limits_at old.guard output) (value_for old.held.config output) wanting ≡ None)
          × (words_fault (value_for old.held.config output) (output_words_of old.held output) wanting ≡ None)
          × (protection_fault (word_at old.held.words Protect) (output_words_of old.held output) wanting ≡ None)
      judged = three-none _ _ _ (on.facts.judged ∙ free)

      allowed : Allows (word_at old.held.words Protect) (of_output old.held.words) wanting
      allowed = allows (word_at old.held.words Protect) (of_output old.held.words) wanted judged.2

      word : ℕ
      word = goal_of (of_output old.held.words) wanting r

      due : (is_due (of_output old.held.words) wanting r ≡ true) × (same_register r Operation ≡ false)
      due = next-is-due (value_for old.held.config output) (of_output old.held.words) wanting r next

      is : IsOrdered (Out output r) (goal_of (of_output old.held.words) wanting r) old end new
      is = runs.did (allowed r due.0)

      own : IsOrdered (Out course.survey.output r) (goal_of (of_output old.held.words) wanting r) old end new
      own = subst (λ (o : ℕ). IsOrdered (Out o r) (goal_of (of_output old.held.words) wanting r) old end new)
          (sym on.own) is

      differs : (o : ℕ) (q : Option Reg) → same_place (Some r) q ≡ false → cell_of o q ≢ Out o r
      differs o q two same = two-cells laws.apart o (Some r) q two (sym same)

      there' : (q : Option Reg) → IsCell old.guard.host.setup.outputs (cell_of course.survey.output q)
      there' (Some x) = on.at.there
      there' None = tt

      range : (course.survey.output < 8) × IsCell on.lived.config.count (cell_of course.survey.output (Some r))
      range = in-range course.survey.output (Some r) on.lived on.at.there

      taken : cell_accepts (Out course.survey.output r) (goal_of (of_output old.held.words) wanting r) ≡ true
      taken =
          let lived = runs.lived in
          ap (λ (w : ℕ). cell_accepts (Out course.survey.output r) w) (sym own.takes)
          ∙ accepts laws.origin (Out course.survey.output r) lived (in-range course.survey.output (Some r) lived
          (subst (λ (s : accepted.Setup). course.survey.output < s.outputs) (sym runs.kept) on.at.there)).1

      others : (q : Option Reg) → same_place (Some r) q ≡ false →
          word_at new.held.words (cell_of course.survey.output q) ≡ word_at old.held.words (cell_of course.survey.output q)
      others q two = own.others (cell_of course.survey.output q) (differs course.survey.output q two) (there' q)

      knows : Knows course.survey.output course.survey.read (known_after (known_after old.guard.host.known
          (Put (Out course.survey.output r) (goal_of (of_output old.held.words) wanting r)))
          (Good (Out course.survey.output r) (goal_of (of_output old.held.words) wanting r))) new.held.words on.spare
      knows = order-knows laws.apart laws.places course.survey.output range.0 course.survey.read old.guard.host.known
          old.held.words new.held.words on.spare on.at.knows (Some r)
          (goal_of (of_output old.held.words) wanting r) taken own.takes others

      few : todo new.guard.host.known course.survey.output course.survey.read
          ≤ todo old.guard.host.known course.survey.output course.survey.read
      few = subst (λ (k : Known). todo k course.survey.output course.survey.read
          ≤ todo old.guard.host.known course.survey.output course.survey.read) (sym own.known)
          (order-todo laws.apart laws.places course.survey.output range.0 course.survey.read old.guard.host.known
          old.held.words new.held.words on.spare on.at.knows (Some r)
          (goal_of (of_output old.held.words) wanting r) taken own.takes others)

      -- the words of the output are those with the one that was ordered
      words-are : of_output new.held.words
          ≡ put (of_output old.held.words) r (goal_of (of_output old.held.words) wanting r)
      words-are = fun_ext (λ (q : Reg). at-one q (same_register r q) refl) where
        at-one : (q : Reg) (b : Bool) → same_register r q ≡ b → word_at new.held.words (Out output q)
            ≡ (if b then goal_of (of_output old.held.words) wanting r else word_at old.held.words (Out output q))
        at-one q true e = ap (λ (o : Option Reg). word_at new.held.words (Out output (unwrap_or o r)))
            (other-place (Some r) (Some q) e) ∙ is.takes
        at-one q false e = is.others (Out output q) (differs output (Some q) e)
            (subst (λ (o : ℕ). o < old.guard.host.setup.outputs) on.own on.at.there)

      protect-stays : word_at new.held.words Protect ≡ word_at old.held.words Protect
      protect-stays = is.others Protect (λ same. cc) tt

      -- the register that is ordered is one that the part has
      has-it : has_register part r ≡ true
      has-it = not-false (has_register part r) (not-second (is_some (wanting r)) _
          (none-voltage (λ x. MissingRegister x) (is_wanted_missing part wanting) on.facts.fits.wanted r (volt r due.1))
          (due-wanted (of_output old.held.words) wanting r due.0))
        where
          volt : (x : Reg) → same_register x Operation ≡ false → is_voltage x ≡ true
          volt Operation e = cc
          volt VoutCommand e = refl
          volt VoutMax e = refl
          volt MarginHigh e = refl
          volt MarginLow e = refl
          volt VoutMin e = refl

      missing-stays : HoldsMissing part new.held.config new.held.words output
      missing-stays q w lacks = go (same_register r q) refl where
        lacks-old : missing_word part (shape_for old.held.config output) q ≡ Some w
        lacks-old = ap (λ (c : Config). missing_word part (shape_for c output) q) (sym is.config) ∙ lacks

        go : (b : Bool) → same_register r q ≡ b → word_at new.held.words (Out output q) ≡ w
        go true e =
            let same : Some r ≡ Some q = sym (other-place (Some r) (Some q) e) in
            let has : has_register part q ≡ true = subst (λ (o : Option Reg). has_register part (unwrap_or o r) ≡ true) same has-it in
            let bad = sym lacks-old ∙ has-none part (shape_for old.held.config output) q has in cc
        go false e = is.others (Out output q) (differs output (Some q) e)
            (subst (λ (o : ℕ). o < old.guard.host.setup.outputs) on.own on.at.there) ∙ on.facts.fits.missing q w lacks-old

      facts : Facts (limits_at old.guard output) new.held
      facts = record {
        fits = record {
          wanted = on.facts.fits.wanted;
          selected = ap (λ (h : Held). has_register part (selected_register (h Operation))) words-are
              ∙ ap (λ (b : Bool). has_register part (selected_register (if b then goal_of (of_output old.held.words) wanting r
              else word_at old.held.words (Out output Operation)))) due.1 ∙ on.facts.fits.selected;
          missing = missing-stays;
        };
        judged = none-three _ _ _
            (ap (λ (c : Config). limits_fault (limits_at old.guard output) (value_for c output) wanting) is.config ∙ judged.0)
            (ap₂ (λ (c : Config) (h : Held). words_fault (value_for c output) h wanting) is.config words-are
            ∙ words-stay (value_for old.held.config output) (of_output old.held.words) wanting r due.1 ∙ judged.1)
            (first-none-of (λ q. Protected q) (is_protected (word_at new.held.words Protect) (of_output new.held.words) wanting)
            (λ q. still q (is_due (of_output new.held.words) wanting q) refl) voltages) ∙ sym free;
        at_end = ap (λ (h : Held). goal_of h wanting) words-are ∙ goal-stays (of_output old.held.words) wanting r
            ∙ on.facts.at_end;
        protects = protect-stays ∙ on.facts.protects;
        made = is.config ∙ on.facts.made;
        kept = λ some. let bad = sym some ∙ ap is_some free in cc;
      }
        where
          still : (q : Reg) (b : Bool) → is_due (of_output new.held.words) wanting q ≡ b →
              (b && not (is_allowed (word_at new.held.words Protect) (register_code q))) ≡ false
          still q false e = refl
          still q true e = ap not (ap (λ (p : ℕ). is_allowed p (register_code q)) protect-stays
              ∙ allowed q (due-before (of_output old.held.words) wanting r q
              (subst (λ (h : Held). is_due h wanting q ≡ true) words-are e)))

      enough : Enough (after_order course (order_due old r) Done).survey (course.ordered || true) new.guard.host on.spare new.held.words
      enough = go on.enough where
        go : Enough course.survey course.ordered old.guard.host on.spare old.held.words →
            Enough (after_order course (order_due old r) Done).survey (course.ordered || true) new.guard.host on.spare new.held.words
        go (inl many) =
            let less = fewer (value_for old.held.config output) (of_output old.held.words) wanting r next in
            let one : dues (of_output new.held.words) wanting + 1 ≤ dues (of_output old.held.words) wanting =
            subst (λ (h : Held). dues h wanting + 1 ≤ dues (of_output old.held.words) wanting) (sym words-are) less in
            let few' = few in
            let same : ◌≡◌ {A = ℕ} (cond (is_learned (after_order course (order_due old r) Done).survey new.guard.host) 0 1)
            (cond (is_learned course.survey old.guard.host) 0 1) =
            ap (λ (l : List (Option Shape)). cond {A = ℕ} (course.survey.learned
            && is_some (slice_index_or l course.survey.output None)) 0 1) is.formats in
            inl (omega arith)
        go (inr (unordered, inl none, left')) =
            let bad = sym next ∙ none-next (value_for old.held.config output) (of_output old.held.words) wanting none in cc
        go (inr (unordered, inr refused, left')) = let bad = sym refused ∙ ap is_some free in cc

-- ---- It ends by what the converter holds ----

module _ (laws : LawsOfSurveys) (end_known : SurveysEndKnown)
    (output : ℕ) (wanted : Wanted) (part : PartRegisters) (fault : Option PlanFault) (start : Converter) (extra : ℕ) where
  abbrev wants : Wants
  wants = wants_of wanted

  -- how far a course is
  abbrev Way : Course → Pair → Type 0
  Way course d = On laws end_known output wanted part fault start extra course d

  -- the words of the output, and its next register
  abbrev own_words : Pair → Held
  own_words d register = output_words_of d.held output register

  abbrev next_in : Pair → Option Reg
  next_in d = next_register (value_for d.held.config output) (own_words d) wants

  renewed-way : (course : Course) (d : Pair) → Way course d →
      Way (renewed d.guard.registers (limits_at d.guard course.survey.output) d.guard.host course) d
  renewed-way course d on = on-renewed laws end_known output wanted part fault start extra course d on

  -- the order that comes next, once nothing is to be read
  order-held : (course : Course) (d : Pair) → Way course d → (limits : OutputLimits) → limits ≡ limits_at d.guard output →
      due_job d.guard.registers course.survey d.guard.host ≡ None →
      order_next d.guard.registers limits d.guard.host course ≡ answer fault (option_map (order_of (own_words d) wants) (next_in d))
  order-held course d on limits same free =
      order-is laws end_known output wanted part fault start extra course d on limits same
      ∙ plan-held laws end_known output wanted part fault start extra course d on free

  -- ---- One job ----

  -- a job of the survey that ended
  read-way : (course : Course) (old new : Pair) (job : Asked) (end : JobEnd) → Way course old →
      (course.survey.left == 0) ≡ false → due_job old.guard.registers course.survey old.guard.host ≡ Some job →
      Step job end old new → (again : Bool) → (again ≡ true → is_surprised job old ≡ true) →
      Way (forgotten again (told_of (naming course (Job job)) end)) new
  read-way course old new job end on left due runs again why' =
      by job (kind old.guard.registers course.survey old.guard.host job due)
      (asks-due old.guard.registers course.survey old.guard.host job left due) runs again why'
    where
      by : (j : Asked) → Kind course.survey old.guard.host (format_at old.guard.host course.survey.output) j →
          (if course.survey.left == 0 then None else due_job old.guard.registers course.survey old.guard.host) ≡ Some j →
          Step j end old new → (b : Bool) → (b ≡ true → is_surprised j old ≡ true) →
          Way (forgotten b (told_of (naming course (Job j)) end)) new
      by j (learns why) asks does false sur =
          on-read laws end_known output wanted part fault start extra course old new j end on asks does
      by j (learns why) asks does true sur = let bad = sur refl in cc
      by j (checks cell why) asks does false sur =
          on-read laws end_known output wanted part fault start extra course old new j end on asks does
      by j (checks cell why) asks does true sur =
          let room = on-room laws end_known output wanted part fault start extra course old new j end on asks does (sur refl) in
          on-forgets laws end_known output wanted part fault start extra (told_of (naming course (Job j)) end) new
          (on-read laws end_known output wanted part fault start extra course old new j end on asks does) room.0 room.1

  -- an order that ended
  order-way : (course : Course) (old new : Pair) (job : Asked) (end : JobEnd) → Way course old →
      (f : Option PlanFault) (n : Option Reg) → fault ≡ f → next_in old ≡ n →
      ordering course (answer f (option_map (order_of (own_words old) wants) n)) ≡ Job job →
      Step job end old new → (again : Bool) → (again ≡ true → is_surprised job old ≡ true) →
      Way (forgotten again (told_of (naming course (Job job)) end)) new
  order-way course old new job end on (Some x) n free next says' runs again sur = cc
  order-way course old new job end on None None free next says' runs again sur = cc
  order-way course old new job end on None (Some r) free next says' runs true sur =
      let t = taken course (Order (Out course.survey.output r) (goal_of (own_words old) wants r)) job says' in
      let bad = subst (λ (j : Asked). is_surprised j old ≡ true) (sym t.1) (sur refl) in cc
  order-way course old new job end on None (Some r) free next says' runs false sur =
      let t = taken course (Order (Out course.survey.output r) (goal_of (own_words old) wants r)) job says' in
      let same : order_due laws end_known output wanted part fault start extra old r ≡ job =
      ap (λ (o : ℕ). Order (Out o r) (goal_of (own_words old) wants r)) (sym on.own) ∙ t.1 in
      subst (λ (j : Asked). Way (told_of (naming course (Job j)) end) new) same
      (on-wrote laws end_known output wanted part fault start extra course old new r end on free next
      (subst (λ (j : Asked). Step j end old new) (sym same) runs))

  named-way : (course : Course) (old new : Pair) (job : Asked) (end : JobEnd) → Way course old → (limits : OutputLimits) →
      limits ≡ limits_at old.guard output → says old.guard.registers limits old.guard.host course ≡ Job job →
      Step job end old new → (again : Bool) → (again ≡ true → is_surprised job old ≡ true) →
      Way (forgotten again (told_of (naming course (Job job)) end)) new
  named-way course old new job end on limits same says' runs again sur =
      go (due_job old.guard.registers course.survey old.guard.host) refl
      (sym (says-is laws end_known output wanted part fault start extra course old on limits) ∙ says')
    where
      go : (o : Option Asked) → due_job old.guard.registers course.survey old.guard.host ≡ o →
          survey_or_order old.guard.registers limits old.guard.host course o ≡ Job job →
          Way (forgotten again (told_of (naming course (Job job)) end)) new
      go (Some j) due is =
          let t = taken course j job is in
          read-way course old new job end on t.0 (due ∙ ap (λ (x : Asked). Some x) t.1) runs again sur
      go None due is = order-way course old new job end on fault (next_in old) refl refl
          (ap (ordering course) (sym (order-held course old on limits same due)) ∙ is) runs again sur

  step-way : (course : Course) (old new : Pair) (job : Asked) (end : JobEnd) → Way course old → next_by old.guard course ≡ Job job →
      Step job end old new → (again : Bool) → (again ≡ true → is_surprised job old ≡ true) →
      Way (forgotten again (told_of (after_by old.guard course) end)) new
  step-way course old new job end on names runs again sur =
      let asked = renewed old.guard.registers (limits_at old.guard course.survey.output) old.guard.host course in
      subst (λ (n : Next). Way (forgotten again (told_of (naming asked n) end)) new) (sym names)
      (named-way asked old new job end (renewed-way course old on) (limits_at old.guard course.survey.output)
      (ap (limits_at old.guard) on.own) names runs again sur)

  -- an order that it names is one that WRITE_PROTECT allows
  allowed-ordering : (course : Course) (d : Pair) (cell : Cell) (word : ℕ) → Way course d →
      (f : Option PlanFault) (n : Option Reg) → fault ≡ f → next_in d ≡ n →
      ordering course (answer f (option_map (order_of (own_words d) wants) n)) ≡ Job (Order cell word) →
      is_allowed (word_at d.held.words Protect) (cell_code cell) ≡ true
  allowed-ordering course d cell word on (Some x) n free next is = cc
  allowed-ordering course d cell word on None None free next is = cc
  allowed-ordering course d cell word on None (Some r) free next is =
      let t = taken course (Order (Out course.survey.output r) (goal_of (own_words d) wants r)) (Order cell word) is in
      let same : Out course.survey.output r ≡ cell = cc in
      let judged = three-none _ _ _ (on.facts.judged ∙ free) in
      let due = next-is-due (value_for d.held.config output) (own_words d) wants r next in
      let may : is_allowed (word_at d.held.words Protect) (cell_code (Out course.survey.output r)) ≡ true =
      allows (word_at d.held.words Protect) (own_words d) wanted judged.2 r due.0 in
      subst (λ (c : Cell). is_allowed (word_at d.held.words Protect) (cell_code c) ≡ true) same may

  allowed-says : (course : Course) (d : Pair) (cell : Cell) (word : ℕ) → Way course d → (limits : OutputLimits) →
      limits ≡ limits_at d.guard output → says d.guard.registers limits d.guard.host course ≡ Job (Order cell word) →
      is_allowed (word_at d.held.words Protect) (cell_code cell) ≡ true
  allowed-says course d cell word on limits same says' =
      go (due_job d.guard.registers course.survey d.guard.host) refl
      (sym (says-is laws end_known output wanted part fault start extra course d on limits) ∙ says')
    where
      never : (j : Asked) → Kind course.survey d.guard.host (format_at d.guard.host course.survey.output) j → j ≡ Order cell word → ⊥
      never j (learns why) is = cc
      never j (checks c why) is = cc

      go : (o : Option Asked) → due_job d.guard.registers course.survey d.guard.host ≡ o →
          survey_or_order d.guard.registers limits d.guard.host course o ≡ Job (Order cell word) →
          is_allowed (word_at d.held.words Protect) (cell_code cell) ≡ true
      go (Some j) due is =
          let t = taken course j (Order cell word) is in
          absurd (never j (kind d.guard.registers course.survey d.guard.host j due) t.1)
      go None due is = allowed-ordering course d cell word on fault (next_in d) refl refl
          (ap (ordering course) (sym (order-held course d on limits same due)) ∙ is)

  pub way-allowed : (course : Course) (d : Pair) (cell : Cell) (word : ℕ) → Way course d → next_by d.guard course ≡ Job (Order cell word) →
      is_allowed (word_at d.held.words Protect) (cell_code cell) ≡ true
  way-allowed course d cell word on names =
      allowed-says (renewed d.guard.registers (limits_at d.guard course.survey.output) d.guard.host course) d
      cell word (renewed-way course d on)
      (limits_at d.guard course.survey.output) (ap (limits_at d.guard) on.own) names

  -- all of them
  pub all-way : (begun : Course) (old : Pair) → Way begun old → (course : Course) (new : Pair) (n : ℕ) →
      Chain begun old course new n → Way course new
  all-way begun old on course new n no_job = on
  all-way begun old on course new n (one_more before job end middle last m again runs names does sur) =
      step-way before middle last job end (all-way begun old on before middle m runs) names does again sur

  -- one try more is left than is to spare where a job is named
  left-says : (course : Course) (d : Pair) (j : Asked) → Way course d → (limits : OutputLimits) →
      limits ≡ limits_at d.guard output → says d.guard.registers limits d.guard.host course ≡ Job j → extra + 1 ≤ course.survey.left
  left-says course d j on limits same says' = by on.enough where
    by : Enough laws end_known output wanted part fault start extra course.survey course.ordered d.guard.host on.spare d.held.words →
        extra + 1 ≤ course.survey.left
    by (inl many) = omega arith
    by (inr last) = go (need course.survey d.guard.host) refl where
      go : (n : ℕ) → need course.survey d.guard.host ≡ n → extra + 1 ≤ course.survey.left
      go (suc n) e = let few = last.2 in omega arith
      go zero e = absurd (never (nothing-needed course.survey d.guard d.held on.spare on.at e)) where
        never : due_job d.guard.registers course.survey d.guard.host ≡ None → ⊥
        never free = ordered fault (next_in d) refl refl last.1
            (ap (ordering course) (sym (order-held course d on limits same free))
            ∙ (sym (ap (λ (o : Option Asked). survey_or_order d.guard.registers limits d.guard.host course o) free)
            ∙ (sym (says-is laws end_known output wanted part fault start extra course d on limits) ∙ says')))
          where
            ordered : (f : Option PlanFault) (n : Option Reg) → fault ≡ f → next_in d ≡ n →
                (dues (own_words d) wants ≡ 0) ⊎ (is_some fault ≡ true) →
                ordering course (answer f (option_map (order_of (own_words d) wants) n)) ≡ Job j → ⊥
            ordered (Some x) n f next what is = cc
            ordered None None f next what is = cc
            ordered None (Some r) f next (inl none') is =
                let bad = sym next ∙ none-next (value_for d.held.config output) (own_words d) wants none' in cc
            ordered None (Some r) f next (inr refused) is = let bad = sym refused ∙ ap is_some f in cc

  pub way-left : (course : Course) (d : Pair) (j : Asked) → Way course d → next_by d.guard course ≡ Job j → extra + 1 ≤ course.survey.left
  way-left course d j on names =
      subst (λ (n : ℕ). extra + 1 ≤ n)
      (renewed-so (λ (c : Course). c.survey.left ≡ course.survey.left) d.guard.registers
      (limits_at d.guard course.survey.output) d.guard.host course refl refl)
      (left-says (renewed d.guard.registers (limits_at d.guard course.survey.output) d.guard.host course) d j (renewed-way course d on)
      (limits_at d.guard course.survey.output) (ap (limits_at d.guard) on.own) names)

  -- ---- The end ----

  abbrev pub EndsSo : ApplyEnd → Pair → Type 0
  EndsSo end d = ((fault ≡ None) × (end ≡ Reached) × (next_in d ≡ None))
      ⊎ ((x : PlanFault) × (fault ≡ Some x) × (end ≡ Stopped (Refused x)))

  -- tries are left while a job is due, or an order
  never-spent : (course : Course) (d : Pair) → Way course d → (course.survey.left == 0) ≡ true →
      (due_job d.guard.registers course.survey d.guard.host ≡ None → (fault ≡ None) × (r : Reg) × (next_in d ≡ Some r)) →
      (due_job d.guard.registers course.survey d.guard.host ≡ None → ⊥) ⊎ (fault ≡ None) → ⊥
  never-spent course d on empty order due = go on.enough where
    none : course.survey.left ≡ 0
    none = grind (arith, nat_tests)

    go : Enough laws end_known output wanted part fault start extra course.survey course.ordered
        d.guard.host on.spare d.held.words → ⊥
    go (inl many) = let zero_left = none in omega arith
    go (inr last) =
        let zero_left = none in
        let few = last.2 in
        let free = nothing-needed course.survey d.guard d.held on.spare on.at (omega arith) in
        by free last.1 due
      where
        by : due_job d.guard.registers course.survey d.guard.host ≡ None → (dues (own_words d) wants ≡ 0) ⊎ (is_some fault ≡ true) →
            (due_job d.guard.registers course.survey d.guard.host ≡ None → ⊥) ⊎ (fault ≡ None) → ⊥
        by free what (inl never) = never free
        by free (inl none') (inr unrefused) =
            let found = order free in
            let bad = sym found.2 ∙ none-next (value_for d.held.config output) (own_words d) wants none' in cc
        by free (inr refused) (inr unrefused) = let bad = sym refused ∙ ap is_some unrefused in cc

  end-ordering : (course : Course) (d : Pair) (end : ApplyEnd) → Way course d →
      due_job d.guard.registers course.survey d.guard.host ≡ None →
      (f : Option PlanFault) (n : Option Reg) → fault ≡ f → next_in d ≡ n →
      ordering course (answer f (option_map (order_of (own_words d) wants) n)) ≡ Ended end → EndsSo end d
  end-ordering course d end on free (Some x) n refused next is =
      let same : Stopped (Refused x) ≡ end = cc in inr (x, refused, sym same)
  end-ordering course d end on free None None unrefused next is = let same : Reached ≡ end = cc in inl (unrefused, sym same, next)
  end-ordering course d end on free None (Some r) unrefused next is =
      go (course.survey.left == 0) refl is
    where
      go : (b : Bool) → (course.survey.left == 0) ≡ b →
          (if b then Ended (Stopped (Spent (Order (Out course.survey.output r) (goal_of (own_words d) wants r))))
          else Job (Order (Out course.survey.output r) (goal_of (own_words d) wants r))) ≡ Ended end → EndsSo end d
      go true empty e = absurd (never-spent course d on empty (λ free'. (unrefused, r, next)) (inr unrefused))
      go false empty e = cc

  end-way : (course : Course) (d : Pair) (end : ApplyEnd) → Way course d → (limits : OutputLimits) →
      limits ≡ limits_at d.guard output → says d.guard.registers limits d.guard.host course ≡ Ended end → EndsSo end d
  end-way course d end on limits same says' =
      go (due_job d.guard.registers course.survey d.guard.host) refl
      (sym (says-is laws end_known output wanted part fault start extra course d on limits) ∙ says')
    where
      some-none : (x : Asked) → ◌≡◌ {A = Option Asked} (Some x) None → ⊥
      some-none x e = cc

      go : (o : Option Asked) → due_job d.guard.registers course.survey d.guard.host ≡ o →
          survey_or_order d.guard.registers limits d.guard.host course o ≡ Ended end → EndsSo end d
      go None free is = end-ordering course d end on free fault (next_in d) refl refl
          (ap (ordering course) (sym (order-held course d on limits same free)) ∙ is)
      go (Some j) due is = by (course.survey.left == 0) refl is where
        by : (b : Bool) → (course.survey.left == 0) ≡ b → (if b then Ended (Stopped (Spent j)) else Job j) ≡ Ended end → EndsSo end d
        by true empty e = absurd (never-spent course d on empty (λ free. absurd (some-none j (sym due ∙ free)))
            (inl (λ free. some-none j (sym due ∙ free))))
        by false empty e = cc

  pub on-end : (course : Course) (d : Pair) (end : ApplyEnd) → Way course d → next_by d.guard course ≡ Ended end → EndsSo end d
  on-end course d end on says' =
      end-way (renewed d.guard.registers (limits_at d.guard course.survey.output) d.guard.host course) d end (renewed-way course d on)
      (limits_at d.guard course.survey.output) (ap (limits_at d.guard) on.own) says'

-- ---- From one moment to the last ----

-- from where a course is so far on, it ends by what was held there
pub ends-by : (laws : LawsOfSurveys) (end_known : SurveysEndKnown)
    (output : ℕ) (wanted : Wanted) (old new : Pair) (extra : ℕ) (begun course : Course) (end : ApplyEnd) →
    On laws end_known output wanted old.guard.registers
    (held_fault (limits_at old.guard output) old.held output (wants_of wanted)) old.held extra begun old →
    (n : ℕ) → Chain begun old course new n → next_by new.guard course ≡ Ended end →
    EndsBy output (wants_of wanted) old end new
    (held_fault (limits_at old.guard output) old.held output (wants_of wanted)) × (extra ≤ course.survey.left)
unfolding commanded selected
ends-by laws end_known output wanted old new extra begun course end on n runs says' = (
  by (on-end laws end_known output wanted _ _ _ extra course new end last says'),
  used last.enough,
)
  where
    last : On laws end_known output wanted old.guard.registers
        (held_fault (limits_at old.guard output) old.held output (wants_of wanted)) old.held extra course new
    last = all-way laws end_known output wanted _ _ _ extra begun old on course new n runs

    used : Enough laws end_known output wanted old.guard.registers
        (held_fault (limits_at old.guard output) old.held output (wants_of wanted)) old.held extra course.survey
        course.ordered new.guard.host last.spare new.held.words → extra ≤ course.survey.left
    used (inl many) = omega arith
    used (inr last') = let few = last'.2 in omega arith

    by : EndsSo laws end_known output wanted old.guard.registers
        (held_fault (limits_at old.guard output) old.held output (wants_of wanted)) old.held extra end new →
        EndsBy output (wants_of wanted) old end new
        (held_fault (limits_at old.guard output) old.held output (wants_of wanted))
    by (inl (free, reached, none)) = subst (λ (f : Option PlanFault). EndsBy output (wants_of wanted) old end new f) (sym free)
        (record {
          reached = reached;
          words = held-goal;
          commands = ap₂ (λ (c : Config) (h : Held). commands_by (value_for c output) h) last.facts.made (fun_ext held-goal);
          protect = last.facts.protects;
        })
      where
        held-goal : (register : Reg) → output_words_of new.held output register
            ≡ goal_of (output_words_of old.held output) (wants_of wanted) register
        held-goal register = done (value_for new.held.config output) (output_words_of new.held output) (wants_of wanted) refl none
            register ∙ ap (λ (h : Held). h register) last.facts.at_end
    by (inr (x, refused, is)) = subst (λ (f : Option PlanFault). EndsBy output (wants_of wanted) old end new f) (sym refused)
        (record {
          refused = is;
          words = last.facts.kept (ap is_some refused);
        })

-- a course that begins
pub begins-on : (laws : LawsOfSurveys) (end_known : SurveysEndKnown) (output : ℕ) (wanted : Wanted) (tries : ℕ) (old : Pair) →
    HasLife old.guard.host old.held → is_busy old.guard.host ≡ false → output < old.guard.host.setup.outputs →
    FitsPart old.guard.registers old.held output (wants_of wanted) →
    tries_for (limits_at old.guard output) old.held output (wants_of wanted) ≤ tries →
    On laws end_known output wanted old.guard.registers
    (held_fault (limits_at old.guard output) old.held output (wants_of wanted)) old.held
    (tries - tries_for (limits_at old.guard output) old.held output (wants_of wanted)) (course_of output wanted tries) old
begins-on laws end_known output wanted tries old has idle here fits enough =
    let first' = begins-at laws.lives (survey_of output (Some wanted) tries) old.guard old.held has idle here refl in
    let few = first'.1 in
    record {
      spare = 7;
      at = first'.0;
      own = refl;
      plan = refl;
      byte = refl;
      once = refl;
      part_is = refl;
      facts = record {
        fits = fits;
        judged = refl;
        at_end = refl;
        protects = refl;
        made = refl;
        kept = λ some. refl;
      };
      enough = go few (held_fault (limits_at old.guard output) old.held output (wants_of wanted)) refl
          (next_register (value_for old.held.config output) (output_words_of old.held output) (wants_of wanted)) refl enough;
      lived = has;
    }
  where
    go : need (survey_of output (Some wanted) tries) old.guard.host ≤ 8 → (f : Option PlanFault) →
        held_fault (limits_at old.guard output) old.held output (wants_of wanted) ≡ f → (next : Option Reg) →
        next_register (value_for old.held.config output) (output_words_of old.held output) (wants_of wanted) ≡ next →
        (if is_some f || is_none next then 15 else 28) ≤ tries →
        (need (survey_of output (Some wanted) tries) old.guard.host + 7 + dues (output_words_of old.held output) (wants_of wanted)
        + 8 + (tries - (if is_some f || is_none next then 15 else 28)) ≤ tries)
        ⊎ ((false ≡ false) × ((dues (output_words_of old.held output) (wants_of wanted) ≡ 0)
        ⊎ (is_some (held_fault (limits_at old.guard output) old.held output (wants_of wanted)) ≡ true))
        × (need (survey_of output (Some wanted) tries) old.guard.host + 7
        + (tries - (if is_some f || is_none next then 15 else 28)) ≤ tries))
    go few (Some x) f next e many = inr (refl, inr (ap is_some f), omega arith)
    go few None f None e many = inr (refl, inl (none-due (value_for old.held.config output) _ _ e), omega arith)
    go few None f (Some r) e many = let five = five-dues (output_words_of old.held output) (wants_of wanted) in inl (omega arith)

-- a course that is so far on, with so many tries over
from-on : (laws : LawsOfSurveys) (end_known : SurveysEndKnown) → CoursesEnd →
    (output : ℕ) (wanted : Wanted) (most extra n : ℕ) (old new : Pair)
    (begun course : Course) → begun.survey.left ≡ most + extra →
    On laws end_known output wanted old.guard.registers
    (held_fault (limits_at old.guard output) old.held output (wants_of wanted)) old.held extra begun old →
    Chain begun old course new n → ChainEnds output wanted most n old new course
from-on laws end_known ends output wanted most extra n old new begun course left begins chain =
    let last = all-way laws end_known output wanted old.guard.registers
    (held_fault (limits_at old.guard output) old.held output (wants_of wanted)) old.held extra begun old begins course new n chain in
    record {
      few = let many = chain-few ends begun old course new n chain in let over = used last in omega arith;
      once = last.once;
      more = λ j names.
          let many = chain-few ends begun old course new n chain in
          let over = way-left laws end_known output wanted old.guard.registers
          (held_fault (limits_at old.guard output) old.held output (wants_of wanted)) old.held extra course new j last names in omega arith;
      allowed = λ cell word names. way-allowed laws end_known output wanted old.guard.registers
          (held_fault (limits_at old.guard output) old.held output (wants_of wanted)) old.held extra course new cell word last names;
      idle = last.at.idle;
      may = λ register read. subst (λ (o : ℕ). is_possible (word_at new.held.words (Out o register))
          (possible_at new.guard.host (Out o register))
          ≡ true) last.own (last.at.knows.may (Some register) read);
      ends = λ end says'. (ends-by laws end_known output wanted old new extra begun course end begins n chain says').0;
    }
  where
    used : On laws end_known output wanted old.guard.registers
        (held_fault (limits_at old.guard output) old.held output (wants_of wanted)) old.held extra course new → extra ≤ course.survey.left
    used on = go on.enough where
      go : Enough laws end_known output wanted old.guard.registers
          (held_fault (limits_at old.guard output) old.held output (wants_of wanted)) old.held extra course.survey
          course.ordered new.guard.host on.spare new.held.words → extra ≤ course.survey.left
      go (inl many) = omega arith
      go (inr last') = let few = last'.2 in omega arith

-- a course that is under way
goes-on : (laws : LawsOfSurveys) (end_known : SurveysEndKnown) (output : ℕ) (wanted : Wanted) (old : Pair) (course : Course) →
    HasLife old.guard.host old.held → is_busy old.guard.host ≡ false → output < old.guard.host.setup.outputs →
    FitsPart old.guard.registers old.held output (wants_of wanted) → IsUnderWay output wanted old course → 28 ≤ course.survey.left →
    On laws end_known output wanted old.guard.registers
    (held_fault (limits_at old.guard output) old.held output (wants_of wanted)) old.held (course.survey.left - 28) course old
unfolding todo
goes-on laws end_known output wanted old course has idle here fits way many = record {
  spare = 7;
  at = record {
    idle = idle;
    there = subst (λ (o : ℕ). o < old.guard.host.setup.outputs) (sym way.own) here;
    format = λ shape known'. true-format laws.lives has course.survey.output shape known';
    knows = record {
      whole = subst (λ (s : Summary). HasPlaces s.known) has.life.host_is (life-places has.config has.passes has.events);
      may = λ p is. subst (λ (o : ℕ). is_possible (word_at old.held.words (cell_of o p))
          (known_possible old.guard.host.known (cell_of o p)) ≡ true)
          (sym way.own) (may-be p is);
      calm = inr (omega arith);
    };
  };
  own = way.own;
  plan = way.plan;
  byte = way.byte;
  once = way.once;
  part_is = refl;
  facts = record {
    fits = fits;
    judged = refl;
    at_end = refl;
    protects = refl;
    made = refl;
    kept = λ some. refl;
  };
  enough =
      let few : total (λ p. not (settled old.guard.host.known course.survey.output course.survey.read p)) ≤ total (λ p. true) =
      below (λ p. true) _ (λ p h. refl) in
      let all = seven in
      let one = small (is_learned course.survey old.guard.host) in
      let five = five-dues (output_words_of old.held output) (wants_of wanted) in
      inl (omega arith);
  lived = has;
}
  where
    small : (b : Bool) → cond b 0 1 ≤ 1
    small true = omega arith
    small false = omega arith

    may-be : (p : Option Reg) → has_at course.survey.read p ≡ true →
        is_possible (word_at old.held.words (cell_of output p)) (known_possible old.guard.host.known (cell_of output p)) ≡ true
    may-be (Some register) is = way.may register is
    may-be None is = way.protect is

pub chains-end : LawsOfSurveys → SurveysEndKnown → CoursesEnd → ChainsEnd
chains-end laws end_known ends = record {
  begins = λ output wanted tries n old new course has idle here fits enough chain.
      from-on laws end_known ends output wanted (tries_for (limits_at old.guard output) old.held output (wants_of wanted))
      (tries - tries_for (limits_at old.guard output) old.held output (wants_of wanted)) n old new (course_of output wanted tries) course
      (omega arith) (begins-on laws end_known output wanted tries old has idle here fits enough) chain;
  goes_on = λ output wanted n old new begun course has idle here fits way many chain.
      from-on laws end_known ends output wanted 28 (begun.survey.left - 28) n old new begun course
      (omega arith) (goes-on laws end_known output wanted old begun has idle here fits way many) chain;
  switches = byte-ends laws ends;
  surveys = survey-ends laws ends;
}
