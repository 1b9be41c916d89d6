-- What a course names, and when it has reached its end.
use Rattle.std.specs.Prelude.{◌≡◌, ◌⊎◌, ◌==◌, ◌&&◌, ◌||◌, ℕ, Bool, true, false, not, if◌then◌else◌, refl, find, Option, Some}
use Rattle.std.specs.Prelude.{None, is_none, is_some, option_map, unwrap_or, Result, Ok, Err, List, [], ◌∷◌}
use Rattle.std.specs.List.{list_any}
use Rattle.std.specs.Option.{option_or}
use Rattle.std.proofs.Common.{inl, inr, sym, ◌∙◌, ap, subst}
use Rattle.pm_num.specs.AnyFormat.{Shape}
use Rattle.pm_table.specs.declared.cell.Cell.TheVariants.{Out, Protect}
use Rattle.pm_table.specs.declared.reg.Reg.{Reg}
use Rattle.pm_table.specs.Cell.{registers}
use Rattle.pm_table.specs.RuleLemmas.{map-none}
use Rattle.pm_table.specs.Rules.{first, rule}
use Rattle.pm_host.specs.declared.job.Job.{Job as Asked}
use Rattle.pm_host.specs.declared.job.Job.TheVariants.{Check, Learn, Order, OrderMicro, Send}
use Rattle.pm_host.specs.declared.job.JobEnd.{JobEnd}
use Rattle.pm_host.specs.declared.job.JobEnd.TheVariants as end
use Rattle.pm_host.specs.Refusals.{is_busy}
use Rattle.pm_host.specs.Summary.{Summary, format_at}
use Rattle.pm_limits.specs.declared.part_registers.PartRegisters.{PartRegisters}
use Rattle.pm_limits.specs.declared.output_limits.OutputLimits.{OutputLimits}
use Rattle.pm_limits.specs.Guard.{Guarded, limits_at}
use Rattle.pm_limits.specs.Part.{has_register}
use Rattle.pm_rail.specs.declared.fault.PlanFault.{PlanFault}
use Rattle.pm_rail.specs.declared.fault.PlanFault.TheVariants.{Busy}
use Rattle.pm_rail.specs.declared.orders.PlanOrder.{PlanOrder}
use Rattle.pm_rail.specs.declared.survey.Survey.{Survey}
use Rattle.pm_rail.specs.declared.wanted.Wanted.{Wanted}
use Rattle.pm_rail.specs.Known.{Cells, cells_of, known_at, known_of}
use Rattle.pm_rail.specs.Lemmas.Known.{IsPlanned, all-off, is-planned}
use Rattle.pm_rail.specs.Lemmas.Steps.{first-of}
use Rattle.pm_rail.specs.Orders.{is_unknown, plan_of, unknown_fault}
use Rattle.pm_rail.specs.Registers.{Held, Wants, wants_of}
use Rattle.pm_rail.specs.Survey.{due_by, survey_due_in, due_job, ended, is_stuck, is_stuck_by, is_surveyed, is_unread, is_unsure}
use Rattle.pm_rail.specs.Survey.{next_job, wanted_in}
use Rattle.pm_rail.specs.declared.apply_end.ApplyEnd.TheVariants.{Reached, Stopped}
use Rattle.pm_rail.specs.declared.apply_end.StopCause.TheVariants.{Refused, Differs, Spent}
use Rattle.pm_rail.specs.declared.course.Course.{Course}
use Rattle.pm_rail.specs.declared.course.Differing.{Differing}
use Rattle.pm_rail.specs.declared.next.Next.{Next}
use Rattle.pm_rail.specs.declared.next.Next.TheVariants.{Job, Ended}
use Rattle.pm_rail.specs.Course.{after_by, differing, going, is_carried_out, is_last, naming, next_by, once_more, order_by, order_next}
use Rattle.pm_rail.specs.Course.{going_to, ordering, survey_or_order, reading_for, renewed, says, taking, told_of, turning_off}
use Rattle.pm_rail.specs.Orders.{missing_fault}
use Rattle.pm_table.specs.declared.reg.Reg.TheVariants.{Operation}
use Rattle.pm_table.specs.Operation.{has_on}

-- ---- The jobs of a survey ----

-- what holds of each job that is named
abbrev AllSo : (Asked → Type 0) → List (Option Asked) → Type 0
AllSo P [] = Unit {0}
AllSo P (one ∷ rest) = ((job : Asked) → one ≡ Some job → P job) × AllSo P rest

-- holds of the first of them
first-so : (P : Asked → Type 0) (list : List (Option Asked)) → AllSo P list → (job : Asked) → first list ≡ Some job → P job
first-so P [] all job is = cc
first-so P (one ∷ rest) all job is = go one all.0 (λ e. first-so P rest all.1 job e) is where
  go : (o : Option Asked) → ((j : Asked) → o ≡ Some j → P j) → (first rest ≡ Some job → P job) →
      option_or o (first rest) ≡ Some job → P job
  go None f more e = more e
  go (Some j) f more e = f job e

-- what holds of a job that a rule names, and of one that is named of a register which passes a test
rule-so : (P : Asked → Type 0) (b : Bool) (named job : Asked) → P named → rule b named ≡ Some job → P job
rule-so P true named job p is = let same : named ≡ job = cc in subst P same p
rule-so P false named job p is = cc

map-so : (P : Asked → Type 0) (f : Reg → Asked) (test : Reg → Bool) (list : List Reg) (job : Asked) →
    ((r : Reg) → test r ≡ true → P (f r)) → option_map f (find test list) ≡ Some job → P job
map-so P f test [] job p is = cc
map-so P f test (r ∷ list) job p is = go (test r) refl is (λ e. map-so P f test list job p e) where
  go : (b : Bool) → test r ≡ b → option_map f (if b then Some r else find test list) ≡ Some job →
      (option_map f (find test list) ≡ Some job → P job) → P job
  go true t e more = let same : f r ≡ job = cc in subst P same (p r t)
  go false t e more = more e

-- What holds of the jobs that a survey may ask for holds of the one that it asks for.
pub asks-so : (P : Asked → Type 0) (part : PartRegisters) (v : Survey) (s : Summary) → P (Learn v.output) →
    ((r : Reg) → has_register part r ≡ true → P (Check (Out v.output r))) →
    P (Check Protect) → (job : Asked) → next_job part v s ≡ Some job → P job
asks-so P part v s learn check protect job is = go (v.left == 0) is where
  wants : Wants
  wants = wants_of (wanted_in v.plan)

  listed : Cells → Held → List (Option Asked)
  listed cells held = rule (not v.learned) (Learn v.output) ∷
      option_map (λ register. Check (Out v.output register)) (find (is_unread part v.read held wants) registers) ∷
      rule (is_some v.plan && not v.read.protect) (Check Protect) ∷
      option_map (λ register. Check (Out v.output register)) (find (is_unsure part cells v.output held wants) registers) ∷
      rule (is_some v.plan && is_none (known_at cells Protect)) (Check Protect) ∷
      []

  all : (cells : Cells) (held : Held) (j : Asked) → survey_due_in part v cells held wants ≡ Some j → P j
  all cells held j e = first-so P (listed cells held) (
    (λ one named. rule-so P (not v.learned) (Learn v.output) one learn named),
    (
      (λ one named. map-so P (λ register. Check (Out v.output register)) (is_unread part v.read held wants) registers one
          (λ r t. check r (first-of (has_register part r) _ t)) named),
      (
        (λ one named. rule-so P (is_some v.plan && not v.read.protect) (Check Protect) one protect named),
        (
          (λ one named. map-so P (λ register. Check (Out v.output register)) (is_unsure part cells v.output held wants) registers one
              (λ r t. check r (first-of (has_register part r) _ t)) named),
          ((λ one named. rule-so P (is_some v.plan && is_none (known_at cells Protect)) (Check Protect) one protect named), tt),
        ),
      ),
    ),
  ) j e

  by : (format : Option Shape) → due_by part v s format ≡ Some job → P job
  by None e = let same : Learn v.output ≡ job = cc in subst P same learn
  by (Some shape) e = all (cells_of part shape s) (known_of (cells_of part shape s) v.output) job e

  go : (spent : Bool) → (if spent then None else due_job part v s) ≡ Some job → P job
  go true e = cc
  go false e = by (format_at s v.output) e

-- ---- A survey that is stuck ----

-- formats of which each is there are one
same-shape : (a b : Shape) → ◌≡◌ {A = Option Shape} (Some a) (Some b) → a ≡ b
same-shape a b e = ap (λ (o : Option Shape). unwrap_or o a) e

-- A plan is refused where a survey for it is stuck at a register that the part doesn't have.
pub stuck-plan : (part : PartRegisters) (v : Survey) (s : Summary) (limits : OutputLimits) (order : Option PlanOrder) →
    is_stuck part v s ≡ true → plan_of part s limits v.output (wants_of (wanted_in v.plan)) ≡ Ok order → ⊥
stuck-plan part v s limits order stuck is = by (format_at s v.output) refl stuck where
  wants : Wants
  wants = wants_of (wanted_in v.plan)

  planned : IsPlanned part s limits v.output wants order
  planned = is-planned part s limits v.output wants order is

  never : (test other : Reg → Bool) (list : List Reg) → ((r : Reg) → test r ≡ false) → list_any (λ r. other r && test r) list ≡ false
  never test other [] free = refl
  never test other (r ∷ list) free = go (other r) (test r) (free r) (never test other list free) where
    go : (a b : Bool) → b ≡ false → list_any (λ x. other x && test x) list ≡ false → ((a && b) || list_any (λ x. other x && test x) list)
        ≡ false
    go true true e m = cc
    go true false e m = m
    go false b e m = m

  by : (format : Option Shape) → format_at s v.output ≡ format → is_stuck_by part v s format ≡ true → ⊥
  by None e t = cc
  by (Some shape) e t =
      let cells = cells_of part shape s in
      let free = all-off (is_unknown cells v.output (known_of cells v.output) wants) (map-none _ _ (known-of shape e)) in
      let none = never (is_unknown cells v.output (known_of cells v.output) wants) (λ r. not (has_register part r)) registers free in
      let no = sym t ∙ none in cc
    where
      known-of : (shape : Shape) → format_at s v.output ≡ Some shape →
          unknown_fault (cells_of part shape s) v.output (known_of (cells_of part shape s) v.output) wants ≡ None
      known-of shape e' = let one = same-shape planned.shape shape (sym planned.format ∙ e') in
          subst (λ (x : Shape). unknown_fault (cells_of part x s) v.output (known_of (cells_of part x s) v.output) wants ≡ None) one
          planned.known

-- ---- What is said ----

-- What a course says, case by case: a job is open; an order differed twice; the part lacks a wanted register; the output is
-- turned off; the survey asks for a job; or it asks for nothing, and this is the next order.
pub data Said (part : PartRegisters) (limits : OutputLimits) (s : Summary) (course : Course) : Next → Type 0 where
  says-busy : is_busy s ≡ true → Said part limits s course (Ended (Stopped (Refused Busy)))
  says-differs : (d : Differing) → course.twice ≡ Some d → Said part limits s course (Ended (Stopped (Differs d.register d.word)))
  says-missing : (fault : PlanFault) → is_busy s ≡ false → Said part limits s course (Ended (Stopped (Refused fault)))
  says-off : (byte : ℕ) → is_busy s ≡ false → course.byte ≡ Some byte → Said part limits s course (turning_off course byte)
  says-due : (job : Asked) → is_busy s ≡ false → due_job part course.survey s ≡ Some job → Said part limits s course (taking course job)
  says-order : (order : Result (Option PlanOrder) PlanFault) → is_busy s ≡ false → due_job part course.survey s ≡ None →
      order_next part limits s course ≡ order → Said part limits s course (ordering course order)

pub says_is_said : (part : PartRegisters) (limits : OutputLimits) (s : Summary) (course : Course) →
    Said part limits s course (says part limits s course)
says_is_said part limits s course = go (is_busy s) refl where
  asks : (o : Option Asked) → is_busy s ≡ false → due_job part course.survey s ≡ o → Said part limits s course (survey_or_order part limits s course o)
  asks (Some job) idle e = says-due job idle e
  asks None idle e = says-order (order_next part limits s course) idle e refl

  has : (o : Option PlanFault) → is_busy s ≡ false → Said part limits s course (reading_for part limits s course o)
  has (Some fault) idle = says-missing fault idle
  has None idle = asks (due_job part course.survey s) idle refl

  on : (b : Bool) (byte : ℕ) → is_busy s ≡ false → course.byte ≡ Some byte → Said part limits s course
      (if b then survey_or_order part limits s course (due_job part course.survey s) else turning_off course byte)
  on true byte idle e = asks (due_job part course.survey s) idle refl
  on false byte idle e = says-off byte idle e

  to : (o : Option ℕ) → is_busy s ≡ false → course.byte ≡ o → Said part limits s course (going_to part limits s course o)
  to None idle e = has (missing_fault part (wants_of (wanted_in course.survey.plan))) idle
  to (Some byte) idle e = on (has_on byte) byte idle e

  twice : (d : Option Differing) → is_busy s ≡ false → course.twice ≡ d → Said part limits s course (going part limits s course d)
  twice (Some d) idle e = says-differs d e
  twice None idle e = to course.byte idle refl

  go : (b : Bool) → is_busy s ≡ b →
      Said part limits s course (if b then Ended (Stopped (Refused Busy)) else going part limits s course course.twice)
  go true b = says-busy b
  go false b = twice course.twice b refl

-- a job that is named finds a try, and is the one that is due
pub taken : (course : Course) (due job : Asked) → taking course due ≡ Job job → ((course.survey.left == 0) ≡ false) × (due ≡ job)
taken course due job is = go (course.survey.left == 0) refl is where
  go : (b : Bool) → (course.survey.left == 0) ≡ b → (if b then Ended (Stopped (Spent due)) else Job due) ≡ Job job →
      ((course.survey.left == 0) ≡ false) × (due ≡ job)
  go true l e = cc
  go false l e = let same : due ≡ job = cc in (l, same)

-- a job that is due is no end that is reached
pub none-reached : (course : Course) (due : Asked) → taking course due ≡ Ended Reached → ⊥
none-reached course due is = go (course.survey.left == 0) is where
  go : (b : Bool) → (if b then Ended (Stopped (Spent due)) else Job due) ≡ Ended Reached → ⊥
  go true e = cc
  go false e = cc

-- what turns the output off: its order, or the end where that was read back
pub off-job : (course : Course) (byte : ℕ) (job : Asked) → turning_off course byte ≡ Job job →
    ((course.survey.left == 0) ≡ false) × (Order (Out course.survey.output Operation) byte ≡ job)
off-job course byte job is = go course.done is where
  go : (b : Bool) → (if b then Ended Reached else taking course (Order (Out course.survey.output Operation) byte)) ≡ Job job →
      ((course.survey.left == 0) ≡ false) × (Order (Out course.survey.output Operation) byte ≡ job)
  go true e = cc
  go false e = taken course (Order (Out course.survey.output Operation) byte) job e

pub off-reached : (course : Course) (byte : ℕ) → turning_off course byte ≡ Ended Reached → course.done ≡ true
off-reached course byte is = go course.done refl is where
  go : (b : Bool) → course.done ≡ b →
      (if b then Ended Reached else taking course (Order (Out course.survey.output Operation) byte)) ≡ Ended Reached → course.done ≡ true
  go true d e = d
  go false d e = absurd (none-reached course (Order (Out course.survey.output Operation) byte) e)

-- while a try is left the survey asks for what is due
pub asks-due : (part : PartRegisters) (v : Survey) (s : Summary) (job : Asked) → (v.left == 0) ≡ false →
    due_job part v s ≡ Some job → next_job part v s ≡ Some job
asks-due part v s job left due = ap (λ (b : Bool). if b then None else due_job part v s) left ∙ due

-- no order is no order
none-some : (order : PlanOrder) → ◌≡◌ {A = Result (Option PlanOrder) PlanFault} (Ok (Some order)) (Ok None) → ⊥
none-some order e = cc

-- how a course comes to name a job: its survey asks for it, or has ended by its own rule and the order is the next one
pub data Names (part : PartRegisters) (limits : OutputLimits) (s : Summary) (course : Course) : Asked → Type 0 where
  reads : (job : Asked) → next_job part course.survey s ≡ Some job → Names part limits s course job
  orders : (order : PlanOrder) → is_surveyed part course.survey s ≡ true →
      plan_of part s limits course.survey.output (wants_of (wanted_in course.survey.plan)) ≡ Ok (Some order) →
      Names part limits s course (Order (Out course.survey.output order.register) order.word)

module _ (part : PartRegisters) (limits : OutputLimits) (s : Summary) (course : Course) (words : course.byte ≡ None) where
  -- the order is that of the plan, or none where nothing is wanted
  planned : (o : Result (Option PlanOrder) PlanFault) → order_next part limits s course ≡ o →
      ((o ≡ Ok None) × (is_none course.survey.plan ≡ true) × (is_surveyed part course.survey s ≡ true))
      ⊎ (plan_of part s limits course.survey.output (wants_of (wanted_in course.survey.plan)) ≡ o)
  planned o e = go (is_none course.survey.plan) (is_surveyed part course.survey s) refl refl
      (sym (ap (λ (b : Option ℕ). order_by part limits s course.survey b) words) ∙ e) where
        go : (a b : Bool) → is_none course.survey.plan ≡ a → is_surveyed part course.survey s ≡ b →
            (if a && b then Ok None else plan_of part s limits course.survey.output (wants_of (wanted_in course.survey.plan))) ≡ o →
            ((o ≡ Ok None) × (is_none course.survey.plan ≡ true) × (is_surveyed part course.survey s ≡ true))
            ⊎ (plan_of part s limits course.survey.output (wants_of (wanted_in course.survey.plan)) ≡ o)
        go true true n v is = inl (sym is, n, v)
        go true false n v is = inr is
        go false b n v is = inr is

  -- a survey that asks for nothing has ended by its own rule where the plan isn't refused
  by-due : due_job part course.survey s ≡ None → (o : Option PlanOrder) →
      order_next part limits s course ≡ Ok o → is_surveyed part course.survey s ≡ true
  by-due due o is = elim (planned (Ok o) is) [
    | inl nothing ↦ nothing.2
    | inr plan ↦ go (is_stuck part course.survey s) refl plan
  ]
    where
      go : (b : Bool) → is_stuck part course.survey s ≡ b →
          plan_of part s limits course.survey.output (wants_of (wanted_in course.survey.plan)) ≡ Ok o →
          is_surveyed part course.survey s ≡ true
      go true stuck plan = absurd (stuck-plan part course.survey s limits o stuck plan)
      go false free plan = ap (λ (d : Option Asked). is_none d && not (is_stuck part course.survey s)) due ∙ ap not free

  -- what a job that is named comes from
  pub says-job : (job : Asked) → says part limits s course ≡ Job job → (is_busy s ≡ false) × Names part limits s course job
  says-job job is = go (says_is_said part limits s course) is where
    go : {n : Next} → Said part limits s course n → n ≡ Job job → (is_busy s ≡ false) × Names part limits s course job
    go (says-busy b) e = cc
    go (says-differs d t) e = cc
    go (says-missing fault idle) e = cc
    go (says-off byte idle b) e = let no = sym words ∙ b in cc
    go (says-due j idle n) e =
        let t = taken course j job e in
        (idle, subst (λ (x : Asked). Names part limits s course x) t.1 (reads j (asks-due part course.survey s j t.0 n)))
    go (says-order (Err fault) idle n o) e = cc
    go (says-order (Ok None) idle n o) e = cc
    go (says-order (Ok (Some order)) idle n o) e =
        let t = taken course (Order (Out course.survey.output order.register) order.word) job e in (
          idle,
          subst (λ (x : Asked). Names part limits s course x) t.1 (elim (planned (Ok (Some order)) o) [
            | inl nothing ↦ absurd (none-some order nothing.0)
            | inr plan ↦ orders order (by-due n (Some order) o) plan
          ]),
        )

  -- each job is one of the survey if nothing is wanted
  pub says-read : course.survey.plan ≡ None → (job : Asked) → says part limits s course ≡ Job job →
      next_job part course.survey s ≡ Some job
  says-read plan job is = go (says_is_said part limits s course) is where
    go : {n : Next} → Said part limits s course n → n ≡ Job job → next_job part course.survey s ≡ Some job
    go (says-busy b) e = cc
    go (says-differs d t) e = cc
    go (says-missing fault idle) e = cc
    go (says-off byte idle b) e = let no = sym words ∙ b in cc
    go (says-due j idle n) e =
        let t = taken course j job e in
        asks-due part course.survey s j t.0 n ∙ ap (λ (x : Asked). Some x) t.1
    go (says-order (Err fault) idle n o) e = cc
    go (says-order (Ok None) idle n o) e = cc
    go (says-order (Ok (Some order)) idle n o) e = absurd (none-some order (sym (sym (ap (λ (b : Bool). if b then Ok None
        else plan_of part s limits course.survey.output (wants_of (wanted_in course.survey.plan)))
        (ap (λ (p : Option Wanted). is_none p && is_surveyed part course.survey s) plan ∙ by-due n (Some order) o))
        ∙ (sym (ap (λ (b : Option ℕ). order_by part limits s course.survey b) words) ∙ o))))

  -- the survey has ended by its own rule, and the plan has no further order, if all is reached
  pub says-reached : says part limits s course ≡ Ended Reached → (is_surveyed part course.survey s ≡ true)
      × (is_none course.survey.plan ≡ false →
      plan_of part s limits course.survey.output (wants_of (wanted_in course.survey.plan)) ≡ Ok None)
  says-reached is = go (says_is_said part limits s course) is where
    go : {n : Next} → Said part limits s course n → n ≡ Ended Reached → (is_surveyed part course.survey s ≡ true)
        × (is_none course.survey.plan ≡ false →
        plan_of part s limits course.survey.output (wants_of (wanted_in course.survey.plan)) ≡ Ok None)
    go (says-busy b) e = cc
    go (says-differs d t) e = cc
    go (says-missing fault idle) e = cc
    go (says-off byte idle b) e = let no = sym words ∙ b in cc
    go (says-due j idle n) e = absurd (none-reached course j e)
    go (says-order (Err fault) idle n o) e = cc
    go (says-order (Ok None) idle n o) e = (
      by-due n None o,
      λ some. elim (planned (Ok None) o) [
        | inl nothing ↦ let no = sym nothing.1 ∙ some in cc
        | inr plan ↦ plan
      ],
    )
    go (says-order (Ok (Some order)) idle n o) e = absurd (none-reached course _ e)

-- ---- What stays ----

-- what holds of a course and of one that begins once more holds of the one that is asked
pub renewed-so : (P : Course → Type 0) (part : PartRegisters) (limits : OutputLimits) (s : Summary) (course : Course) →
    P course → P (once_more course) → P (renewed part limits s course)
renewed-so P part limits s course p q = go (is_carried_out part limits s course) where
  go : (b : Bool) → P (if b then once_more course else course)
  go true = q
  go false = p

-- while nothing was ordered a course begins no new survey
pub renewed-none : (part : PartRegisters) (limits : OutputLimits) (s : Summary) (course : Course) → course.ordered ≡ false →
    renewed part limits s course ≡ course
renewed-none part limits s course none =
    ap (λ (b : Bool). if b && (is_none course.twice && (is_surveyed part course.survey s && is_last (order_next part limits s course)))
    then once_more course else course) none

-- the end of a job that was asked for leaves the tries, the output and the plan
abbrev pub IsSameWay : Survey → Survey → Type 0
IsSameWay v was = (v.left ≡ was.left) × (v.output ≡ was.output) × (v.plan ≡ was.plan)

pub ended-same : (v : Survey) (o : Option Asked) (e : JobEnd) → IsSameWay (ended v o e) v
ended-same v None e = (refl, refl, refl)
ended-same v (Some (Learn output)) end.Learned = (refl, refl, refl)
ended-same v (Some (Learn output)) end.Done = (refl, refl, refl)
ended-same v (Some (Learn output)) (end.Differs word) = (refl, refl, refl)
ended-same v (Some (Learn output)) end.Unknown = (refl, refl, refl)
ended-same v (Some (Check cell)) end.Done = (refl, refl, refl)
ended-same v (Some (Check cell)) end.Learned = (refl, refl, refl)
ended-same v (Some (Check cell)) (end.Differs word) = (refl, refl, refl)
ended-same v (Some (Check cell)) end.Unknown = (refl, refl, refl)
ended-same v (Some (Order cell word)) e = (refl, refl, refl)
ended-same v (Some (OrderMicro cell x)) e = (refl, refl, refl)
ended-same v (Some (Send command)) e = (refl, refl, refl)

-- the byte, and whether something was ordered, stay with the end of any job
pub differing-same : (course : Course) (o : Option Asked) (e : JobEnd) → ((differing course o e).byte ≡ course.byte)
    × ((differing course o e).ordered ≡ course.ordered)
differing-same course None e = (refl, refl)
differing-same course (Some (Order (Out output register) word)) (end.Differs read) = (refl, refl)
differing-same course (Some (Order (Out output register) word)) end.Done = (refl, refl)
differing-same course (Some (Order (Out output register) word)) end.Learned = (refl, refl)
differing-same course (Some (Order (Out output register) word)) end.Unknown = (refl, refl)
differing-same course (Some (Order Protect word)) end.Done = (refl, refl)
differing-same course (Some (Order Protect word)) end.Learned = (refl, refl)
differing-same course (Some (Order Protect word)) (end.Differs read) = (refl, refl)
differing-same course (Some (Order Protect word)) end.Unknown = (refl, refl)
differing-same course (Some (OrderMicro cell x)) e = (refl, refl)
differing-same course (Some (Check cell)) e = (refl, refl)
differing-same course (Some (Learn output)) e = (refl, refl)
differing-same course (Some (Send command)) e = (refl, refl)

-- What holds of each job of the survey and of each order of the output holds of what is named, and no job is open then.
pub named-so : (P : Asked → Type 0) (part : PartRegisters) (limits : OutputLimits) (s : Summary) (course : Course) →
    ((j : Asked) → next_job part course.survey s ≡ Some j → P j) →
    ((order : PlanOrder) → P (Order (Out course.survey.output order.register) order.word)) →
    (job : Asked) → says part limits s course ≡ Job job → (is_busy s ≡ false) × P job
named-so P part limits s course asked order job is = go (says_is_said part limits s course) is where
  go : {n : Next} → Said part limits s course n → n ≡ Job job → (is_busy s ≡ false) × P job
  go (says-busy b) e = cc
  go (says-differs d t) e = cc
  go (says-missing fault idle) e = cc
  go (says-off byte idle b) e =
      (idle, subst P (off-job course byte job e).1 (order (record { register = Operation; word = byte })))
  go (says-due j idle n) e = let t = taken course j job e in (idle, subst P t.1 (asked j (asks-due part course.survey s j t.0 n)))
  go (says-order (Err fault) idle n o) e = cc
  go (says-order (Ok None) idle n o) e = cc
  go (says-order (Ok (Some one)) idle n o) e = let t = taken course _ job e in (idle, subst P t.1 (order one))

-- a course stays that of its output
pub told-own : (course : Course) (e : JobEnd) → (told_of course e).survey.output ≡ course.survey.output
told-own course e = (ended-same course.survey course.survey.asked e).1

pub after-own : (guard : Guarded) (course : Course) → (after_by guard course).survey.output ≡ course.survey.output
after-own guard course = go (next_by guard course)
    ∙ renewed-so (λ (c : Course). c.survey.output ≡ course.survey.output) guard.registers (limits_at guard course.survey.output) guard.host
    course refl refl
  where
    go : (n : Next) → (naming (renewed guard.registers (limits_at guard course.survey.output) guard.host course) n).survey.output
        ≡ (renewed guard.registers (limits_at guard course.survey.output) guard.host course).survey.output
    go (Job j) = refl
    go (Ended end) = refl
