-- Which registers the survey of a course to a byte of OPERATION reads, and a survey for no plan, what each job leaves to read.
use Rattle.std.specs.Option.{option_map_or, option_or}
use Rattle.std.specs.Prelude.{◌≡◌, ◌≤◌, ◌<◌, ◌+◌, ◌-◌, ◌&&◌, ◌||◌, ◌⊎◌, ℕ, Bool, true, false, not, cond, if◌then◌else◌, refl, find, [], ◌∷◌}
use Rattle.std.specs.Prelude.{Option, Some, None, is_none, is_some, option_map, unwrap_or, ◌==◌, List, slice_index_or, nat_lt, Ok}
use Rattle.std.proofs.{Math.Bool.and-false, lemmas.Bool.Decides.nat_tests}
use Rattle.std.proofs.Common.{arith, sym, ◌∙◌, ap, ap₂, subst, inl, inr}
use Rattle.std.proofs.lemmas.Bool.{not-false, not-true, or_cases, or_left, or_right}
use Rattle.pm_num.specs.AnyFormat.{Shape}
use Rattle.pm_table.specs.{Operation.selected_register, Rules.rule, declared.cell.Cell.Cell, declared.reg.Reg.Reg}
use Rattle.pm_table.specs.Cell.{cell_accepts, registers, same_register}
use Rattle.pm_table.specs.Laws.{CellsAreToldApart, CellsHavePlaces}
use Rattle.pm_table.specs.declared.cell.Cell.TheVariants.{Out, Protect}
use Rattle.pm_table.specs.declared.reg.Reg.TheVariants.{Operation, VoutCommand, VoutMax, MarginHigh, MarginLow, VoutMin}
use Rattle.pm_model.specs.Settings.{Words, word_at}
use Rattle.pm_device.specs.declared.config.Config.{Config}
use Rattle.pm_device.specs.Held.{Held as Converter, shape_for}
use Rattle.pm_host.specs.{Refusals.is_busy, declared.job.Job.Job, declared.job.JobEnd.JobEnd, declared.knowledge.Possible.Possible}
use Rattle.pm_host.specs.Known.{HasPlaces, Known, known_after, known_possible}
use Rattle.pm_host.specs.Marks.{Good, Put}
use Rattle.pm_host.specs.Possible.{is_possible, only}
use Rattle.pm_host.specs.Summary.{Summary, format_at, possible_at}
use Rattle.pm_host.specs.Transcript as accepted
use Rattle.pm_host.specs.declared.job.Job.TheVariants.{Check, Learn, Order}
use Rattle.pm_limits.specs.{Lemmas.Selected.each-selected, Part.has_register, declared.output_limits.OutputLimits.OutputLimits}
use Rattle.pm_limits.specs.{declared.part_registers.PartRegisters.PartRegisters}
use Rattle.pm_limits.specs.Guard.{Guarded, guard_fault, limits_at}
use Rattle.pm_rail.specs.{Laws.CoursesEnd, Lemmas.AskedFree.asked-free, Lemmas.Known.all-off, declared.apply_end.ApplyEnd.ApplyEnd}
use Rattle.pm_rail.specs.{declared.course.Course.Course, declared.course.Differing.Differing, declared.fault.PlanFault.TheVariants.Busy}
use Rattle.pm_rail.specs.{declared.next.Next.Next, declared.survey.Reads.Reads, declared.survey.Survey.Survey}
use Rattle.pm_rail.specs.{declared.wanted.Wanted.Wanted}
use Rattle.pm_rail.specs.Course.{after_by, going, going_to, naming, next_by, order_by, ordering, survey_or_order, reading_for, renewed}
use Rattle.pm_rail.specs.Course.{says}
use Rattle.pm_rail.specs.Course.{survey_course_of, told_of}
use Rattle.pm_rail.specs.Known.{cells_of, known_at, known_of, known_word}
use Rattle.pm_rail.specs.Lemmas.Places.{below, cell_of, each-place, has_at, has-and, is-known, is-only, one_place_more as one-more}
use Rattle.pm_rail.specs.Lemmas.Places.{each_place_is_once, others-stay}
use Rattle.pm_rail.specs.Lemmas.Places.{same-itself, same_place, still-whole, total, none-read}
use Rattle.pm_rail.specs.Lemmas.Says.{asks-due, renewed-none}
use Rattle.pm_rail.specs.Lemmas.Steps.{first-of, second-of}
use Rattle.pm_rail.specs.Lemmas.Surveyed.{found_passes_test, has-none}
use Rattle.pm_rail.specs.Orders.{is_needed, missing_fault, plan_of}
use Rattle.pm_rail.specs.Registers.{Held, Wants, nothing, wants_of}
use Rattle.pm_rail.specs.Survey.{and_read, due_by, due_job, has_read, is_unread, is_unsure, wanted_in, nothing_read, is_surveyed, next_job}
use Rattle.pm_rail.specs.Survey.{survey_of}
use Rattle.pm_rail.specs.declared.apply_end.ApplyEnd.TheVariants.{Reached, Stopped}
use Rattle.pm_rail.specs.declared.apply_end.StopCause.TheVariants.{Refused, Spent}
use Rattle.pm_rail.specs.declared.next.Next.TheVariants as next
use Rattle.pm_course_laws.specs.Chains.{HasLife, IsChecked, IsLearned, Pair, Step, is_surprised, output_words_of, Chain, SurveyEnds}
use Rattle.pm_course_laws.specs.Chains.{forgotten}
use Rattle.pm_course_laws.specs.Chains.{no_job, one_more}
use Rattle.pm_course_laws.proofs.ChainedSurveys.{At, Calm, Knows, LawsOfSurveys, accepts, asks_in, in-range, is_learned, none-of, none-some}
use Rattle.pm_course_laws.proofs.ChainedSurveys.{only-possible, order-only, order-others, order-whole, other-place, others-any, settled}
use Rattle.pm_course_laws.proofs.ChainedSurveys.{surveyed_by, either, true-of, asked-output, life-places, true-format, unstuck}

-- Which registers the survey of a course to a byte of OPERATION reads, and what each of its jobs leaves to read.

-- ---- The registers that decide ----

-- OPERATION, both limits and the register that is selected
abbrev pub matters : Reg → Option Reg → Bool
matters chosen (Some Operation) = true
matters chosen (Some VoutMax) = true
matters chosen (Some VoutMin) = true
matters chosen (Some register) = same_register register chosen
matters chosen None = false

or-false : (b : Bool) → (b || false) ≡ true → b ≡ true
or-false true h = refl
or-false false h = cc

-- what is needed where nothing is wanted is one of them
needed-matters : (held : Held) (r : Reg) → is_needed held (wants_of nothing) r ≡ true →
    matters (selected_register (held Operation)) (Some r) ≡ true
needed-matters held Operation h = refl
needed-matters held VoutMax h = refl
needed-matters held VoutMin h = refl
needed-matters held VoutCommand h = or-false _ h
needed-matters held MarginHigh h = or-false _ h
needed-matters held MarginLow h = or-false _ h

-- there are four
pub four : (byte : ℕ) → total (matters (selected_register byte)) ≡ 4
unfolding total
four byte = each-selected (λ (r : Reg). total (matters r) ≡ 4) refl refl refl byte

-- how many of a set of cells are still to be read
unfoldable pub left_of : (Option Reg → Bool) → Known → ℕ → Reads → ℕ
left_of set k output read = total (λ p. set p && not (settled k output read p))

abbrev pub knows_at : Known → ℕ → Option Reg → Bool
knows_at k output p = is_some (known_word (cell_of output p) (known_possible k (cell_of output p)))

-- OPERATION was read and isn't known, and VOUT_COMMAND wasn't read: that is read then, since nobody knows what is selected
abbrev pub is_stray : Known → ℕ → Reads → Bool
is_stray k output read = has_at read (Some Operation) && (not (knows_at k output (Some Operation)) && not (has_at read (Some VoutCommand)))

abbrev pub stray : Known → ℕ → Reads → ℕ
stray k output read = cond (is_stray k output read) 1 0

-- ---- Why a register is read ----

pub record Why (v : Survey) (k : Known) (chosen : Reg) (r : Reg) : Type 0 where
  pub lost : has_read v.read r ≡ true → is_none (known_word (Out v.output r) (known_possible k (Out v.output r))) ≡ true
  pub why : (matters chosen (Some r) ≡ true) ⊎ ((r ≡ VoutCommand) × (is_stray k v.output v.read ≡ true))

-- OPERATION is found first, if it passes the test
first-found : (test : Reg → Bool) (r : Reg) → find test registers ≡ Some r → test Operation ≡ true → Operation ≡ r
first-found test r is passes =
    let same : Some Operation ≡ Some r = sym (ap (λ (b : Bool). if b then Some Operation
    else find test (VoutCommand ∷ VoutMax ∷ MarginHigh ∷ MarginLow ∷ VoutMin ∷ [])) passes) ∙ is in
    ap (λ (o : Option Reg). unwrap_or o Operation) same

-- a register that matters where VOUT_COMMAND is selected does whichever is, or is VOUT_COMMAND
by-command : (chosen r : Reg) → matters VoutCommand (Some r) ≡ true → (matters chosen (Some r) ≡ true) ⊎ (r ≡ VoutCommand)
by-command chosen Operation h = inl refl
by-command chosen VoutMax h = inl refl
by-command chosen VoutMin h = inl refl
by-command chosen VoutCommand h = inr refl
by-command chosen MarginHigh h = cc
by-command chosen MarginLow h = cc

module _ (part : PartRegisters) (v : Survey) (s : Summary) (shape : Shape) (byte : ℕ)
    (true_of : settled s.known v.output v.read (Some Operation) ≡ true →
    known_possible s.known (Out v.output Operation) ≡ only byte) where
  abbrev known : Held
  known = known_of (cells_of part shape s) v.output

  abbrev chosen : Reg
  chosen = selected_register byte

  -- OPERATION that was read is known to be its byte, or isn't known
  unknown-or : has_at v.read (Some Operation) ≡ true →
      (known Operation ≡ byte) ⊎ ((knows_at s.known v.output (Some Operation) ≡ false) × (known Operation ≡ 0))
  unknown-or read = go (known_word (Out v.output Operation) (possible_at s (Out v.output Operation))) refl where
    go : (o : Option ℕ) → known_word (Out v.output Operation) (possible_at s (Out v.output Operation)) ≡ o →
        (known Operation ≡ byte) ⊎ ((knows_at s.known v.output (Some Operation) ≡ false) × (known Operation ≡ 0))
    go None e = inr (ap is_some e, ap (λ (o : Option ℕ). unwrap_or o 0) e)
    go (Some w) e =
        let is = true_of (ap₂ (λ (a b : Bool). a && b) read (ap is_some e)) in
        inl (ap (λ (o : Option ℕ). unwrap_or o 0) e ∙ by w (sym (ap (known_word (Out v.output Operation)) is) ∙ e))
      where
        by : (x : ℕ) → known_word (Out v.output Operation) (only byte) ≡ Some x → x ≡ byte
        by x k = accepted (cell_accepts (Out v.output Operation) byte) k where
          accepted : (b : Bool) → rule b byte ≡ Some x → x ≡ byte
          accepted true m = let same : byte ≡ x = cc in sym same
          accepted false m = cc

  is-read : (r : Reg) → find (is_unread part v.read known (wants_of nothing)) registers ≡ Some r → Why v s.known chosen r
  is-read r is = record {
    lost = λ read. let bad = sym read ∙ unread in cc;
    why = go (has_at v.read (Some Operation)) refl;
  }
    where
      test : is_unread part v.read known (wants_of nothing) r ≡ true
      test = found_passes_test (is_unread part v.read known (wants_of nothing)) registers r is

      needed : is_needed known (wants_of nothing) r ≡ true
      needed = first-of (is_needed known (wants_of nothing) r) _ (second-of (has_register part r) _ test)

      unread : has_read v.read r ≡ false
      unread = not-true (has_read v.read r) (second-of (is_needed known (wants_of nothing) r) _ (second-of (has_register part r) _ test))

      go : (b : Bool) → has_at v.read (Some Operation) ≡ b →
          (matters chosen (Some r) ≡ true) ⊎ ((r ≡ VoutCommand) × (is_stray s.known v.output v.read ≡ true))
      go false e = inl (ap (λ (x : Reg). matters chosen (Some x))
          (sym (first-found (is_unread part v.read known (wants_of nothing)) r is (ap not e))))
      go true e = by (unknown-or e) where
        by : (known Operation ≡ byte) ⊎ ((knows_at s.known v.output (Some Operation) ≡ false) × (known Operation ≡ 0)) →
            (matters chosen (Some r) ≡ true) ⊎ ((r ≡ VoutCommand) × (is_stray s.known v.output v.read ≡ true))
        by (inl same) = inl (ap (λ (b : ℕ). matters (selected_register b) (Some r)) (sym same) ∙ needed-matters known r needed)
        by (inr lost) = which (by-command chosen r
            (ap (λ (b : ℕ). matters (selected_register b) (Some r)) (sym lost.1) ∙ needed-matters known r needed))
          where
            which : (matters chosen (Some r) ≡ true) ⊎ (r ≡ VoutCommand) →
                (matters chosen (Some r) ≡ true) ⊎ ((r ≡ VoutCommand) × (is_stray s.known v.output v.read ≡ true))
            which (inl own) = inl own
            which (inr is_command) = inr (
              is_command,
              ap₂ (λ (a b : Bool). a && b) e
                  (ap₂ (λ (a b : Bool). not a && not b) lost.0 (ap (has_read v.read) (sym is_command) ∙ unread)),
            )

  is-sure : (r : Reg) → find (is_unread part v.read known (wants_of nothing)) registers ≡ None →
      find (is_unsure part (cells_of part shape s) v.output known (wants_of nothing)) registers ≡ Some r → Why v s.known chosen r
  is-sure r all is = record {
    lost = λ read'. ap (λ (o : Option ℕ). is_none (known_word (Out v.output r)
        (option_map_or only o (possible_at s (Out v.output r)))))
        (sym (has-none part shape r (first-of (has_register part r) _ test)))
        ∙ second-of (is_needed known (wants_of nothing) r) _ (second-of (has_register part r) _ test);
    why = inl (by (unknown-or read));
  }
    where
      test : is_unsure part (cells_of part shape s) v.output known (wants_of nothing) r ≡ true
      test = found_passes_test (is_unsure part (cells_of part shape s) v.output known (wants_of nothing)) registers r is

      needed : is_needed known (wants_of nothing) r ≡ true
      needed = first-of (is_needed known (wants_of nothing) r) _ (second-of (has_register part r) _ test)

      read : has_at v.read (Some Operation) ≡ true
      read = not-false (has_read v.read Operation) (all-off (is_unread part v.read known (wants_of nothing)) all Operation)

      by : (known Operation ≡ byte) ⊎ ((knows_at s.known v.output (Some Operation) ≡ false) × (known Operation ≡ 0)) →
          matters chosen (Some r) ≡ true
      by (inl same) = ap (λ (b : ℕ). matters (selected_register b) (Some r)) (sym same) ∙ needed-matters known r needed
      by (inr lost) = ap (λ (x : Reg). matters chosen (Some x))
          (sym (first-found (is_unsure part (cells_of part shape s) v.output known (wants_of nothing)) r is
          (unknown-none _ lost.0)))
        where
          unknown-none : (o : Option ℕ) → is_some o ≡ false → is_none o ≡ true
          unknown-none None e = refl
          unknown-none (Some w) e = cc

-- why any job is asked for
pub data PowerKind (v : Survey) (s : Summary) (format : Option Shape) (chosen : Reg) : Job → Type 0 where
  learns : (v.learned ≡ false) ⊎ (format ≡ None) → PowerKind v s format chosen (Learn v.output)
  checks : (r : Reg) → Why v s.known chosen r → PowerKind v s format chosen (Check (Out v.output r))

module _ (part : PartRegisters) (v : Survey) (s : Summary) (byte : ℕ) (none : v.plan ≡ None)
    (true_of : settled s.known v.output v.read (Some Operation) ≡ true →
    known_possible s.known (Out v.output Operation) ≡ only byte) where
  abbrev pub own_wants : Wants
  own_wants = wants_of (wanted_in v.plan)

  own-wants : own_wants ≡ wants_of nothing
  own-wants = ap (λ (p : Option Wanted). wants_of (wanted_in p)) none

  by-shape : (shape : Shape) (job : Job) → due_by part v s (Some shape) ≡ Some job → PowerKind v s (Some shape) (selected_register byte) job
  by-shape shape job is =
      go (not v.learned) (find (is_unread part v.read (known_of (cells_of part shape s) v.output) own_wants) registers)
      (is_some v.plan && not v.read.protect)
      (find (is_unsure part (cells_of part shape s) v.output (known_of (cells_of part shape s) v.output) own_wants) registers)
      (is_some v.plan && is_none (known_at (cells_of part shape s) Protect)) refl refl
      (ap (λ (p : Option Wanted). is_some p && not v.read.protect) none) refl
      (ap (λ (p : Option Wanted). is_some p && is_none (known_at (cells_of part shape s) Protect)) none) is
    where
      at : (one : Job) → ◌≡◌ {A = Option Job} (Some one) (Some job) → PowerKind v s (Some shape) (selected_register byte) one →
          PowerKind v s (Some shape) (selected_register byte) job
      at one same it = subst (λ (o : Option Job). PowerKind v s (Some shape) (selected_register byte) (unwrap_or o one)) same it

      go : (l : Bool) (u : Option Reg) (p : Bool) (n : Option Reg) (q : Bool) → not v.learned ≡ l →
          find (is_unread part v.read (known_of (cells_of part shape s) v.output) own_wants) registers ≡ u → p ≡ false →
          find (is_unsure part (cells_of part shape s) v.output (known_of (cells_of part shape s) v.output) own_wants) registers ≡ n →
          q ≡ false →
          option_or (rule l (Learn v.output)) (option_or (option_map (λ r. Check (Out v.output r)) u) (option_or (rule p (Check Protect))
          (option_or (option_map (λ r. Check (Out v.output r)) n) (option_or (rule q (Check Protect)) None))))
          ≡ Some job → PowerKind v s (Some shape) (selected_register byte) job
      go true u p n q el eu ep en eq h = at (Learn v.output) h (learns (inl (not-true v.learned el)))
      go false (Some r) p n q el eu ep en eq h = at (Check (Out v.output r)) h (checks r (is-read part v s shape byte true_of r
          (ap (λ (w : Wants). find (is_unread part v.read (known_of (cells_of part shape s) v.output) w) registers) (sym own-wants) ∙ eu)))
      go false None true n q el eu ep en eq h = cc
      go false None false (Some r) q el eu ep en eq h = at (Check (Out v.output r)) h (checks r (is-sure part v s shape byte true_of r
          (ap (λ (w : Wants). find (is_unread part v.read (known_of (cells_of part shape s) v.output) w) registers) (sym own-wants) ∙ eu)
          (ap (λ (w : Wants). find (is_unsure part (cells_of part shape s) v.output
          (known_of (cells_of part shape s) v.output) w) registers)
          (sym own-wants) ∙ en)))
      go false None false None true el eu ep en eq h = cc
      go false None false None false el eu ep en eq h = cc

  pub power-kind : (job : Job) → due_job part v s ≡ Some job → PowerKind v s (format_at s v.output) (selected_register byte) job
  power-kind job is = go (format_at s v.output) is where
    go : (format : Option Shape) → due_by part v s format ≡ Some job → PowerKind v s format (selected_register byte) job
    go None h =
        let it : Learn v.output ≡ job = cc in
        subst (λ (j : Job). PowerKind v s None (selected_register byte) j) it (learns (inr refl))
    go (Some shape) h = by-shape shape job h

-- ---- What one good answer leaves to read ----

-- What holds of what the host knows: a cell that was read may hold what it holds, and either no answer will surprise, or one more check is
-- to spare for each cell that is to be read, and one learn; and one check where VOUT_COMMAND is to be read for want of OPERATION.
pub record Tells (output : ℕ) (read : Reads) (k : Known) (words : Words) (spare most : ℕ) : Type 0 where
  pub whole : HasPlaces k
  pub may : (p : Option Reg) → has_at read p ≡ true → is_possible (word_at words (cell_of output p))
      (known_possible k (cell_of output p)) ≡ true
  pub calm : (Calm k output words × (stray k output read ≤ spare)) ⊎ (most + 1 + stray k output read ≤ spare)

-- it tells what a survey to words has
pub as-knows : {output : ℕ} {read : Reads} {k : Known} {words : Words} {spare most : ℕ} → Tells output read k words spare most →
    Knows output read k words 7
as-knows tells = record { whole = tells.whole; may = tells.may; calm = inr (omega arith) }

-- a count of one test that implies another
fewer-strays : (a b : Bool) → (b ≡ true → a ≡ true) → cond b 1 0 ≤ cond a 1 0
fewer-strays true true h = omega arith
fewer-strays true false h = omega arith
fewer-strays false true h = let bad = h refl in cc
fewer-strays false false h = omega arith

at-most-one : (b : Bool) → cond b 1 0 ≤ 1
at-most-one true = omega arith
at-most-one false = omega arith

module _ (apart : CellsAreToldApart) (law : CellsHavePlaces) (output : ℕ) (small : output < 8) (read : Reads) (k : Known) (words : Words)
    (spare most : ℕ) (was : Tells output read k words spare most) (set : Option Reg → Bool) (few-set : total set ≤ most) (p : Option Reg)
    (taken : cell_accepts (cell_of output p) (word_at words (cell_of output p)) ≡ true)
    (lost : has_at read p ≡ true → is_none (known_word (cell_of output p) (known_possible k (cell_of output p))) ≡ true)
    (why : (set p ≡ true) ⊎ ((p ≡ Some VoutCommand) × (is_stray k output read ≡ true))) where
  abbrev word : ℕ
  word = word_at words (cell_of output p)

  abbrev pub now_read : Reads
  now_read = and_read read (cell_of output p)

  abbrev pub now_known : Known
  now_known = known_after k (Good (cell_of output p) word)

  pub record AfterOne : Type 0 where
    pub left : ℕ
    pub tells : Tells output now_read now_known words left most
    pub room : is_possible word (known_possible k (cell_of output p)) ≡ false →
        Calm now_known output words × (stray now_known output now_read + 1 ≤ left)
    pub less : left_of set now_known output now_read + left + 1 ≤ left_of set k output read + spare

  here : has_at now_read p ≡ true
  here = has-and read output p p ∙ ap (λ (b : Bool). b || has_at read p) (same-itself p)

  elsewhere : (q : Option Reg) → same_place p q ≡ false → has_at now_read q ≡ has_at read q
  elsewhere q two = has-and read output p q ∙ ap (λ (b : Bool). b || has_at read q) two

  now-knows : knows_at now_known output p ≡ true
  now-knows = none-some _ (is-known (cell_of output p) word _ taken (is-only apart law k was.whole output small p word))

  is-settled : settled now_known output now_read p ≡ true
  is-settled = ap₂ (λ (a b : Bool). a && b) here now-knows

  unsettled : settled k output read p ≡ false
  unsettled = go (has_at read p) refl where
    off : (o : Option ℕ) → is_none o ≡ true → is_some o ≡ false
    off None h = refl
    off (Some w) h = cc

    go : (b : Bool) → has_at read p ≡ b →
        (b && is_some (known_word (cell_of output p) (known_possible k (cell_of output p)))) ≡ false
    go true e = off (known_word (cell_of output p) (known_possible k (cell_of output p))) (lost e)
    go false e = refl

  -- what was answered is held, whatever the others are
  calm-after : (q : Option Reg) → (same_place p q ≡ false →
      is_possible (word_at words (cell_of output q)) (known_possible now_known (cell_of output q)) ≡ true) →
      is_possible (word_at words (cell_of output q)) (known_possible now_known (cell_of output q)) ≡ true
  calm-after q other = go (same_place p q) refl where
    go : (b : Bool) → same_place p q ≡ b →
        is_possible (word_at words (cell_of output q)) (known_possible now_known (cell_of output q)) ≡ true
    go true e = subst (λ (x : Option Reg). is_possible (word_at words (cell_of output x))
        (known_possible now_known (cell_of output x)) ≡ true)
        (sym (other-place p q e))
        (ap (λ (o : Possible). is_possible word o) (is-only apart law k was.whole output small p word) ∙ only-possible word)
    go false e = other e

  -- VOUT_COMMAND is to be read no more, once it was
  no-stray : p ≡ Some VoutCommand → is_stray now_known output now_read ≡ false
  no-stray is =
      ap (λ (b : Bool). has_at now_read (Some Operation) && (not (knows_at now_known output (Some Operation)) && not b))
      (ap (has_at now_read) (sym is) ∙ here) ∙ off (has_at now_read (Some Operation)) (not (knows_at now_known output (Some Operation)))
    where
      off : (a b : Bool) → (a && (b && false)) ≡ false
      off true true = refl
      off true false = refl
      off false b = refl

  -- the word was possible
  module _ (expected : is_possible word (known_possible k (cell_of output p)) ≡ true) where
    same-known : (q : Option Reg) → same_place p q ≡ false →
        known_possible now_known (cell_of output q) ≡ known_possible k (cell_of output q)
    same-known q two = others-stay apart law k was.whole output small p q word expected two

    same-settled : (q : Option Reg) → same_place p q ≡ false → settled now_known output now_read q ≡ settled k output read q
    same-settled q two = ap₂ (λ (a : Bool) (o : Possible). a && is_some (known_word (cell_of output q) o))
        (elsewhere q two) (same-known q two)

    -- none is to be read for want of OPERATION that wasn't before
    stray-before : is_stray now_known output now_read ≡ true → is_stray k output read ≡ true
    stray-before is = go (same_place p (Some Operation)) refl where
      operation-lost : knows_at now_known output (Some Operation) ≡ false
      operation-lost = not-true (knows_at now_known output (Some Operation))
          (first-of _ _ (second-of (has_at now_read (Some Operation)) _ is))

      command-unread : has_at now_read (Some VoutCommand) ≡ false
      command-unread = not-true (has_at now_read (Some VoutCommand))
          (second-of (not (knows_at now_known output (Some Operation))) _ (second-of (has_at now_read (Some Operation)) _ is))

      both : same_place p (Some Operation) ≡ false → (b : Bool) → same_place p (Some VoutCommand) ≡ b → is_stray k output read ≡ true
      both two true e =
          let bad = sym (ap (has_at now_read) (other-place p (Some VoutCommand) e) ∙ here) ∙ command-unread in cc
      both two false e = ap₂ (λ (a b : Bool). a && b)
          (sym (elsewhere (Some Operation) two) ∙ first-of (has_at now_read (Some Operation)) _ is)
          (ap₂ (λ (o : Possible) (b : Bool). not (is_some (known_word (cell_of output (Some Operation)) o)) && not b)
          (sym (same-known (Some Operation) two)) (sym (elsewhere (Some VoutCommand) e))
          ∙ second-of (has_at now_read (Some Operation)) _ is)

      go : (b : Bool) → same_place p (Some Operation) ≡ b → is_stray k output read ≡ true
      go true e = let bad = sym (ap (knows_at now_known output) (other-place p (Some Operation) e) ∙ now-knows) ∙ operation-lost in cc
      go false e = both e (same_place p (Some VoutCommand)) refl

    expected-tells : (left : ℕ) → (stray k output read ≤ spare → stray now_known output now_read ≤ left) →
        (most + 1 + stray k output read ≤ spare → most + 1 + stray now_known output now_read ≤ left) →
        Tells output now_read now_known words left most
    expected-tells left one other = record {
      whole = still-whole apart law k was.whole output small p word;
      may = λ q is. calm-after q (λ two. ap (λ (o : Possible). is_possible (word_at words (cell_of output q)) o) (same-known q two)
          ∙ was.may q (sym (elsewhere q two) ∙ is));
      calm = go was.calm;
    }
      where
        go : (Calm k output words × (stray k output read ≤ spare)) ⊎ (most + 1 + stray k output read ≤ spare) →
            (Calm now_known output words × (stray now_known output now_read ≤ left)) ⊎ (most + 1 + stray now_known output now_read ≤ left)
        go (inl (calm, enough)) = inl (
          (λ q. calm-after q (λ two. ap (λ (o : Possible). is_possible (word_at words (cell_of output q)) o) (same-known q two) ∙ calm q)),
          one enough,
        )
        go (inr enough) = inr (other enough)

    expected-own : set p ≡ true → AfterOne
    unfolding left_of
    expected-own own =
        let few = fewer-strays (is_stray k output read) (is_stray now_known output now_read) stray-before in
        record {
          left = spare;
          tells = expected-tells spare (λ enough. omega arith) (λ enough. omega arith);
          room = λ bad. let no = sym expected ∙ bad in cc;
          less =
              let count = one-more (λ q. set q && not (settled now_known output now_read q))
              (λ q. set q && not (settled k output read q)) p
              (λ q two. ap (λ (b : Bool). set q && not b) (sym (same-settled q two)))
              (ap (λ (b : Bool). set p && not b) is-settled ∙ and-false (set p))
              (ap₂ (λ (a b : Bool). a && not b) own unsettled) in omega arith;
        }

    expected-stray : p ≡ Some VoutCommand → is_stray k output read ≡ true → AfterOne
    unfolding left_of
    expected-stray is due =
        let before : ◌≡◌ {A = ℕ} (stray k output read) 1 = ap (λ (b : Bool). cond {A = ℕ} b 1 0) due in
        let after : ◌≡◌ {A = ℕ} (stray now_known output now_read) 0 = ap (λ (b : Bool). cond {A = ℕ} b 1 0) (no-stray is) in
        let some : 1 ≤ spare = enough was.calm before in
        record {
          left = spare - 1;
          tells = expected-tells (spare - 1) (λ enough'. omega arith) (λ enough'. omega arith);
          room = λ bad. let no = sym expected ∙ bad in cc;
          less =
              let count : total (λ q. set q && not (settled now_known output now_read q))
              ≤ total (λ q. set q && not (settled k output read q)) =
              below (λ q. set q && not (settled k output read q)) _
              (each-place (λ (q : Option Reg). (set q && not (settled now_known output now_read q)) ≡ true →
              (set q && not (settled k output read q)) ≡ true) p
              (λ bad. let no = sym (ap (λ (b : Bool). set p && not b) is-settled ∙ and-false (set p)) ∙ bad in cc)
              (λ q two is'. ap (λ (b : Bool). set q && not b) (sym (same-settled q two)) ∙ is')) in omega arith;
        }
      where
        enough : (Calm k output words × (stray k output read ≤ spare)) ⊎ (most + 1 + stray k output read ≤ spare) →
            ◌≡◌ {A = ℕ} (stray k output read) 1 → 1 ≤ spare
        enough (inl (calm, few)) one = omega arith
        enough (inr few) one = omega arith

  -- the word wasn't
  module _ (surprise : is_possible word (known_possible k (cell_of output p)) ≡ false) where
    to-spare : most + 1 + stray k output read ≤ spare
    to-spare = go was.calm where
      go : (Calm k output words × (stray k output read ≤ spare)) ⊎ (most + 1 + stray k output read ≤ spare) →
          most + 1 + stray k output read ≤ spare
      go (inl (calm, few)) = let bad = sym (calm p) ∙ surprise in cc
      go (inr few) = few

    now-calm : Calm now_known output words
    now-calm q = calm-after q (λ two. ap (λ (o : Possible). is_possible (word_at words (cell_of output q)) o)
        (others-any apart law k output small p q word surprise two))

    surprised-tells : (left : ℕ) → stray now_known output now_read ≤ left → Tells output now_read now_known words left most
    surprised-tells left few = record {
      whole = still-whole apart law k was.whole output small p word;
      may = λ q is. now-calm q;
      calm = inl (now-calm, few);
    }

    -- those that are left are the others
    others-left : left_of set now_known output now_read ≤ total (λ q. set q && not (same_place p q))
    unfolding left_of
    others-left = below (λ q. set q && not (same_place p q)) _
        (each-place (λ (q : Option Reg). (set q && not (settled now_known output now_read q)) ≡ true →
        (set q && not (same_place p q)) ≡ true) p
        (λ bad. let no = sym (ap (λ (b : Bool). set p && not b) is-settled ∙ and-false (set p)) ∙ bad in cc)
        (λ q two is. ap₂ (λ (a b : Bool). a && not b) (first-of (set q) _ is) two))

    surprised-own : set p ≡ true → AfterOne
    unfolding left_of
    surprised-own own =
        let few = at-most-one (is_stray now_known output now_read) in
        let room = to-spare in
        let rest = others-left in
        let single = each_place_is_once p in
        let most-of = few-set in
        let three = one-more (λ q. set q && not (same_place p q)) set p
        (λ q two. sym (ap (λ (b : Bool). set q && not b) two ∙ and-true (set q)))
        (ap (λ (b : Bool). set p && not b) (same-itself p) ∙ and-false (set p)) own in
        let one : total (same_place p) ≤ total (λ q. set q && not (settled k output read q)) =
        below (λ q. set q && not (settled k output read q)) (same_place p)
        (λ q same. subst (λ (x : Option Reg). (set x && not (settled k output read x)) ≡ true) (sym (other-place p q same))
        (ap₂ (λ (a b : Bool). a && not b) own unsettled)) in
        record { left = 2; tells = surprised-tells 2 (omega arith); room = λ e. (now-calm, omega arith); less = omega arith }
      where
        and-true : (b : Bool) → (b && true) ≡ b
        and-true true = refl
        and-true false = refl

    surprised-stray : p ≡ Some VoutCommand → is_stray k output read ≡ true → AfterOne
    unfolding left_of
    surprised-stray is due =
        let before : ◌≡◌ {A = ℕ} (stray k output read) 1 = ap (λ (b : Bool). cond {A = ℕ} b 1 0) due in
        let after : ◌≡◌ {A = ℕ} (stray now_known output now_read) 0 = ap (λ (b : Bool). cond {A = ℕ} b 1 0) (no-stray is) in
        let room = to-spare in
        let most-of = few-set in
        let all : total (λ q. set q && not (settled now_known output now_read q)) ≤ total set =
        below set _ (λ q h. first-of (set q) _ h) in
        record { left = 1; tells = surprised-tells 1 (omega arith); room = λ e. (now-calm, omega arith); less = omega arith }

  after-one : AfterOne
  after-one = go (is_possible word (known_possible k (cell_of output p))) refl why where
    go : (b : Bool) → is_possible word (known_possible k (cell_of output p)) ≡ b →
        (set p ≡ true) ⊎ ((p ≡ Some VoutCommand) × (is_stray k output read ≡ true)) → AfterOne
    go true e (inl own) = expected-own e own
    go true e (inr (is, due)) = expected-stray e is due
    go false e (inl own) = surprised-own e own
    go false e (inr (is, due)) = surprised-stray e is due

-- ---- Where a survey for no plan is ----

-- how many jobs are to do to read these cells
abbrev pub set_need : (Option Reg → Bool) → Survey → Summary → ℕ
set_need set v s = cond (is_learned v s) 0 1 + left_of set s.known v.output v.read

pub record Here (v : Survey) (guard : Guarded) (h : Converter) (spare most : ℕ) : Type 0 where
  pub idle : is_busy guard.host ≡ false
  pub there : v.output < guard.host.setup.outputs
  pub none : v.plan ≡ None
  pub format : (shape : Shape) → format_at guard.host v.output ≡ Some shape → shape ≡ shape_for h.config v.output
  pub tells : Tells v.output v.read guard.host.known h.words spare most

-- the byte of OPERATION that is held
abbrev pub byte_of : Survey → Converter → ℕ
byte_of v h = output_words_of h v.output Operation

-- it is a survey of which no answer is bounded otherwise
pub as-at : (v : Survey) (guard : Guarded) (h : Converter) (spare most : ℕ) → Here v guard h spare most → At v guard h 7
as-at v guard h spare most is = record {
  idle = is.idle;
  there = is.there;
  format = is.format;
  knows = as-knows is.tells;
}

-- the word of OPERATION that was read and is known
pub operation-of : {v : Survey} {guard : Guarded} {h : Converter} {spare most : ℕ} → Here v guard h spare most →
    settled guard.host.known v.output v.read (Some Operation) ≡ true →
    known_possible guard.host.known (Out v.output Operation) ≡ only (byte_of v h)
operation-of {v = v} {guard = guard} here is = true-of (as-knows here.tells) (Some Operation)
    (first-of (has_at v.read (Some Operation)) _ is) (second-of (has_at v.read (Some Operation)) _ is)

small : (b : Bool) → cond b 0 1 ≤ 1
small true = omega arith
small false = omega arith

-- a survey that has read nothing is here
pub begins-here : (v : Survey) (guard : Guarded) (h : Converter) (spare most : ℕ) (set : Option Reg → Bool) → total set ≤ most →
    is_busy guard.host ≡ false → v.output < guard.host.setup.outputs → v.plan ≡ None →
    ((shape : Shape) → format_at guard.host v.output ≡ Some shape → shape ≡ shape_for h.config v.output) →
    HasPlaces guard.host.known → Calm guard.host.known v.output h.words ⊎ (most + 1 ≤ spare) → v.read ≡ nothing_read →
    Here v guard h spare most × (set_need set v guard.host ≤ most + 1)
unfolding left_of
begins-here v guard h spare most set few idle there none format whole calm nothing = (
  record {
    idle = idle;
    there = there;
    none = none;
    format = format;
    tells = record {
      whole = whole;
      may = λ p is. let bad = sym is ∙ (ap (λ (r : Reads). has_at r p) nothing ∙ none-read p) in cc;
      calm = go calm;
    };
  },
  (let all : total (λ p. set p && not (settled guard.host.known v.output v.read p)) ≤ total set =
      below set _ (λ q h'. first-of (set q) _ h') in
      let one = small (is_learned v guard.host) in omega arith),
)
  where
    no-stray : ◌≡◌ {A = ℕ} (stray guard.host.known v.output v.read) 0
    no-stray = ap (λ (b : Bool). cond {A = ℕ} (b && (not (knows_at guard.host.known v.output (Some Operation))
        && not (has_at v.read (Some VoutCommand)))) 1 0) (ap (λ (r : Reads). has_at r (Some Operation)) nothing)

    go : Calm guard.host.known v.output h.words ⊎ (most + 1 ≤ spare) →
        (Calm guard.host.known v.output h.words × (stray guard.host.known v.output v.read ≤ spare))
        ⊎ (most + 1 + stray guard.host.known v.output v.read ≤ spare)
    go (inl quiet) = let zero_stray = no-stray in inl (quiet, omega arith)
    go (inr enough) = let zero_stray = no-stray in inr (omega arith)

-- nothing is due where nothing of what matters is to be read
pub nothing-here : (v : Survey) (guard : Guarded) (h : Converter) (spare most : ℕ) (set : Option Reg → Bool) →
    ((p : Option Reg) → matters (selected_register (byte_of v h)) p ≡ true → set p ≡ true) → Here v guard h spare most →
    set_need set v guard.host ≡ 0 → spare ≡ 0 → due_job guard.registers v guard.host ≡ None
unfolding left_of
nothing-here v guard h spare most set within here none nothing = go (due_job guard.registers v guard.host) refl where
  chosen : Reg
  chosen = selected_register (byte_of v h)

  both : (a b : ℕ) → a + b ≡ 0 → (a ≡ 0) × (b ≡ 0)
  both a b e = (omega arith, omega arith)

  learned : (b : Bool) → ◌≡◌ {A = ℕ} (cond b 0 1) 0 → b ≡ true
  learned true e = refl
  learned false e = cc

  yes : is_learned v guard.host ≡ true
  yes = learned (is_learned v guard.host) (both (cond (is_learned v guard.host) 0 1) _ none).0

  lost : (r : Reg) (a : Bool) (o : Option ℕ) → has_at v.read (Some r) ≡ a → (has_at v.read (Some r) ≡ true → is_none o ≡ true) →
      not (a && is_some o) ≡ false → ⊥
  lost r true (Some w) e h f = let bad = h e in cc
  lost r true None e h f = cc
  lost r false o e h f = cc

  never-own : (r : Reg) → matters chosen (Some r) ≡ true →
      (has_at v.read (Some r) ≡ true → is_none (known_word (Out v.output r) (known_possible guard.host.known (Out v.output r))) ≡ true) → ⊥
  never-own r own why =
      let free = none-of (λ p. set p && not (settled guard.host.known v.output v.read p))
      (both (cond (is_learned v guard.host) 0 1) _ none).1 (Some r) in
      lost r (has_at v.read (Some r)) _ refl why
      (sym (ap (λ (b : Bool). b && not (settled guard.host.known v.output v.read (Some r))) (within (Some r) own)) ∙ free)

  never-stray : is_stray guard.host.known v.output v.read ≡ true →
      (Calm guard.host.known v.output h.words × (stray guard.host.known v.output v.read ≤ spare))
      ⊎ (most + 1 + stray guard.host.known v.output v.read ≤ spare) → ⊥
  never-stray due (inl (calm, few)) =
      let one : ◌≡◌ {A = ℕ} (stray guard.host.known v.output v.read) 1 = ap (λ (b : Bool). cond {A = ℕ} b 1 0) due in absurd (omega arith)
  never-stray due (inr few) = absurd (omega arith)

  never : (job : Job) → PowerKind v guard.host (format_at guard.host v.output) (selected_register (byte_of v h)) job → ⊥
  never job (learns (inl unlearned)) =
      let bad = sym yes ∙ ap (λ (b : Bool). b && is_some (format_at guard.host v.output)) unlearned in cc
  never job (learns (inr unknown)) =
      let bad : true ≡ false = sym yes ∙ (ap (λ (f : Option Shape). v.learned && is_some f) unknown ∙ and-false v.learned) in cc
  never job (checks r why) = by why.why where
    by : (matters chosen (Some r) ≡ true) ⊎ ((r ≡ VoutCommand) × (is_stray guard.host.known v.output v.read ≡ true)) → ⊥
    by (inl own) = never-own r own why.lost
    by (inr (is, due)) = never-stray due here.tells.calm

  go : (due : Option Job) → due_job guard.registers v guard.host ≡ due → due ≡ None
  go None e = refl
  go (Some job) e = absurd (never job (power-kind guard.registers v guard.host (byte_of v h) here.none (operation-of here) job e))

-- ---- One job that reads ----

pub record ByteStep (set : Option Reg → Bool) (v after : Survey) (job : Job) (spare most : ℕ) (old new : Pair) : Type 0 where
  pub left : ℕ
  pub here : Here after new.guard new.held left most
  pub room : is_surprised job old ≡ true → Calm new.guard.host.known after.output new.held.words
      × (stray new.guard.host.known after.output after.read + 1 ≤ left)
  pub less : set_need set after new.guard.host + left + 1 ≤ set_need set v old.guard.host + spare
  pub tries : after.left + 1 ≡ v.left
  pub words : new.held.words ≡ old.held.words
  pub config : new.held.config ≡ old.held.config

module _ (laws : LawsOfSurveys) (set : Option Reg → Bool) (most : ℕ) (few : total set ≤ most) where
  pub checked : (v : Survey) (old new : Pair) (p : Option Reg) (end : JobEnd) (spare : ℕ) → HasLife old.guard.host old.held →
      Here v old.guard old.held spare most → 0 < v.left →
      (has_at v.read p ≡ true → is_none (known_word (cell_of v.output p)
      (known_possible old.guard.host.known (cell_of v.output p))) ≡ true) →
      (set p ≡ true) ⊎ ((p ≡ Some VoutCommand) × (is_stray old.guard.host.known v.output v.read ≡ true)) →
      Step (Check (cell_of v.output p)) end old new →
      ByteStep set v (surveyed_by v (Check (cell_of v.output p)) end) (Check (cell_of v.output p)) spare most old new
  checked v old new p end spare has here some lost why runs =
      let is : IsChecked (cell_of v.output p) old end new = runs.did in
      let range = in-range v.output p has here.there in
      let taken = accepts laws.origin (cell_of v.output p) has range.1 in
      let after = after-one laws.apart laws.places v.output range.0 v.read old.guard.host.known old.held.words spare most here.tells
      set few p taken lost why in
      let less = after.less in
      subst (λ (e : JobEnd). ByteStep set v (surveyed_by v (Check (cell_of v.output p)) e) (Check (cell_of v.output p)) spare most old new)
      (sym is.done) (record {
        left = after.left;
        here = record {
          idle = ap is_some is.idle;
          there = subst (λ (s : accepted.Setup). v.output < s.outputs) (sym runs.kept) here.there;
          none = here.none;
          format = λ shape known'. here.format shape (same-format v.output is.formats known')
              ∙ ap (λ (c : Config). shape_for c v.output) (sym is.config);
          tells = told (λ (k : Known) (w : Words). Tells v.output (and_read v.read (cell_of v.output p)) k w
              after.left most) is after.tells;
        };
        room = λ surprised. told (λ (k : Known) (w : Words). Calm k v.output w
            × (stray k v.output (and_read v.read (cell_of v.output p)) + 1 ≤ after.left)) is (after.room (not-true _ surprised));
        less = subst (λ (b : Bool). cond b 0 1 + left_of set new.guard.host.known v.output (and_read v.read (cell_of v.output p))
            + after.left + 1 ≤ cond (is_learned v old.guard.host) 0 1 + left_of set old.guard.host.known v.output v.read + spare)
            (ap (λ (l : List (Option Shape)). v.learned && is_some (slice_index_or l v.output None)) (sym is.formats))
            (subst (λ (k : Known). cond (is_learned v old.guard.host) 0 1 + left_of set k v.output (and_read v.read (cell_of v.output p))
            + after.left + 1 ≤ cond (is_learned v old.guard.host) 0 1 + left_of set old.guard.host.known v.output v.read + spare)
            (sym is.known) (omega arith));
        tries = omega arith;
        words = is.words;
        config = is.config;
      })
    where
      told : (P : Known → Words → Type 0) → IsChecked (cell_of v.output p) old end new →
          P (known_after old.guard.host.known (Good (cell_of v.output p) (word_at old.held.words (cell_of v.output p)))) old.held.words →
          P new.guard.host.known new.held.words
      told P is was = subst (λ (k : Known). P k new.held.words) (sym is.known)
          (subst (λ (w : Words). P (known_after old.guard.host.known
          (Good (cell_of v.output p) (word_at old.held.words (cell_of v.output p)))) w)
          (sym is.words) was)

      same-format : (output : ℕ) {o : Option Shape} → new.guard.host.formats ≡ old.guard.host.formats →
          format_at new.guard.host output ≡ o → format_at old.guard.host output ≡ o
      same-format output same is = ap (λ (l : List (Option Shape)). slice_index_or l output None) (sym same) ∙ is

  learns-now : (v : Survey) (old new : Pair) (end : JobEnd) (spare : ℕ) → Here v old.guard old.held spare most → 0 < v.left →
      is_learned v old.guard.host ≡ false → Step (Learn v.output) end old new →
      ByteStep set v (surveyed_by v (Learn v.output) end) (Learn v.output) spare most old new
  learns-now v old new end spare here some unlearned runs =
      let is : IsLearned v.output old end new = runs.did in
      subst (λ (e : JobEnd). ByteStep set v (surveyed_by v (Learn v.output) e) (Learn v.output) spare most old
      new) (sym is.learned) (record {
        left = spare;
        here = record {
          idle = ap is_some is.idle;
          there = subst (λ (s : accepted.Setup). v.output < s.outputs) (sym runs.kept) here.there;
          none = here.none;
          format = λ shape known'. one-shape shape (sym known' ∙ is.format) ∙ ap (λ (c : Config). shape_for c v.output) (sym is.config);
          tells = subst (λ (k : Known). Tells v.output v.read k new.held.words spare most)
              (sym is.known) (subst (λ (w : Words). Tells v.output v.read old.guard.host.known w spare most) (sym is.words) here.tells);
        };
        room = λ surprised. cc;
        less = subst (λ (f : Option Shape). cond (is_some f) 0 1 + left_of set new.guard.host.known v.output v.read + spare + 1
            ≤ cond (is_learned v old.guard.host) 0 1 + left_of set old.guard.host.known v.output v.read + spare) (sym is.format)
            (subst (λ (k : Known). 0 + left_of set k v.output v.read + spare + 1
            ≤ cond (is_learned v old.guard.host) 0 1 + left_of set old.guard.host.known v.output v.read + spare) (sym is.known)
            (subst (λ (b : Bool). 0 + left_of set old.guard.host.known v.output v.read + spare + 1
            ≤ cond b 0 1 + left_of set old.guard.host.known v.output v.read + spare) (sym unlearned) (omega arith)));
        tries = omega arith;
        words = is.words;
        config = is.config;
      })
    where
      one-shape : (a : Shape) {b : Shape} → ◌≡◌ {A = Option Shape} (Some a) (Some b) → a ≡ b
      one-shape a e = ap (λ (o : Option Shape). unwrap_or o a) e

  -- a job that the survey asks for
  pub byte-step : (v : Survey) (old new : Pair) (job : Job) (end : JobEnd) (spare : ℕ) → HasLife old.guard.host old.held →
      ((p : Option Reg) → matters (selected_register (byte_of v old.held)) p ≡ true → set p ≡ true) →
      Here v old.guard old.held spare most → asks_in v old.guard ≡ Some job → Step job end old new →
      ByteStep set v (surveyed_by v job end) job spare most old new
  byte-step v old new job end spare has within here asks runs = go (v.left == 0) refl asks where
    by : 0 < v.left → (j : Job) →
        PowerKind v old.guard.host (format_at old.guard.host v.output) (selected_register (byte_of v old.held)) j →
        Step j end old new → ByteStep set v (surveyed_by v j end) j spare most old new
    by some j (learns (inl unlearned)) r = learns-now v old new end spare here some
        (ap (λ (b : Bool). b && is_some (format_at old.guard.host v.output)) unlearned) r
    by some j (learns (inr none)) r = learns-now v old new end spare here some
        (ap (λ (f : Option Shape). v.learned && is_some f) none ∙ and-false v.learned) r
    by some j (checks r why) does = checked v old new (Some r) end spare has here some why.lost (place why.why) does where
      place : (matters (selected_register (byte_of v old.held)) (Some r) ≡ true)
          ⊎ ((r ≡ VoutCommand) × (is_stray old.guard.host.known v.output v.read ≡ true)) →
          (set (Some r) ≡ true) ⊎ ((Some r ≡ Some VoutCommand) × (is_stray old.guard.host.known v.output v.read ≡ true))
      place (inl own) = inl (within (Some r) own)
      place (inr (is, due)) = inr (ap (λ (x : Reg). Some x) is, due)

    go : (empty : Bool) → (v.left == 0) ≡ empty → (if empty then None else due_job old.guard.registers v old.guard.host) ≡ Some job →
        ByteStep set v (surveyed_by v job end) job spare most old new
    go true e is = cc
    go false e is = by (grind (arith, nat_tests)) job
        (power-kind old.guard.registers v old.guard.host (byte_of v old.held) here.none (operation-of here) job is) runs

-- ---- The order ----

-- registers that are the same are so both ways
turned : (r chosen : Reg) → same_register r chosen ≡ true → same_place (Some chosen) (Some r) ≡ true
turned r chosen is = ap (same_place (Some chosen)) (sym (other-place (Some r) (Some chosen) is)) ∙ same-itself (Some chosen)

-- The cells that are to be read: those that matter while OPERATION holds a byte, and before the order WRITE_PROTECT and the register
-- that the wanted byte selects.
abbrev pub turns_by : Reg → Option Reg → Bool
turns_by target p = same_place (Some target) p || same_place None p

abbrev pub cells_for : Bool → Reg → Reg → Option Reg → Bool
cells_for done chosen target = λ p. matters chosen p || (not done && turns_by target p)

abbrev pub size_for : Bool → ℕ
size_for done = if done then 4 else 6

pub size-so : (done : Bool) (chosen target : ℕ) → total (cells_for done (selected_register chosen)
    (selected_register target)) ≤ size_for done
unfolding total
size-so true chosen target =
    let one = either (matters (selected_register chosen)) (cells_for true (selected_register chosen)
    (selected_register target)) (λ p. false)
    (λ p h. or_cases (matters (selected_register chosen) p) false h) in
    let all = four chosen in omega arith
size-so false chosen target =
    let one = either (matters (selected_register chosen)) (cells_for false (selected_register chosen) (selected_register target))
    (turns_by (selected_register target)) (λ p h. or_cases (matters (selected_register chosen) p)
    (turns_by (selected_register target) p) h) in
    let two = either (same_place (Some (selected_register target))) (turns_by (selected_register target)) (same_place None)
    (λ p h. or_cases (same_place (Some (selected_register target)) p) (same_place None p) h) in
    let first = each_place_is_once (Some (selected_register target)) in
    let second = each_place_is_once None in
    let all = four chosen in omega arith

-- what matters with the wanted byte is read before the order
target-read : (chosen target : Reg) (p : Option Reg) → matters target p ≡ true → cells_for false chosen target p ≡ true
target-read chosen target (Some Operation) h = refl
target-read chosen target (Some VoutMax) h = refl
target-read chosen target (Some VoutMin) h = refl
target-read chosen target (Some VoutCommand) h =
    or_right (matters chosen (Some VoutCommand)) _ (or_left _ _ (turned VoutCommand target h))
target-read chosen target (Some MarginHigh) h = or_right (matters chosen (Some MarginHigh)) _ (or_left _ _ (turned MarginHigh target h))
target-read chosen target (Some MarginLow) h = or_right (matters chosen (Some MarginLow)) _ (or_left _ _ (turned MarginLow target h))
target-read chosen target None h = cc

module _ (apart : CellsAreToldApart) (law : CellsHavePlaces) (output : ℕ) (small' : output < 8) (read : Reads) (k : Known)
    (words new_words : Words) (spare most : ℕ) (was : Tells output read k words spare most) (byte : ℕ)
    (taken : cell_accepts (Out output Operation) byte ≡ true) (takes : word_at new_words (Out output Operation) ≡ byte)
    (others : (q : Option Reg) → same_place (Some Operation) q ≡ false →
    word_at new_words (cell_of output q) ≡ word_at words (cell_of output q)) where
  abbrev pub known-now : Known
  known-now = known_after (known_after k (Put (Out output Operation) byte)) (Good (Out output Operation) byte)

  only-here : known_possible known-now (Out output Operation) ≡ only byte
  only-here = order-only apart law k was.whole output small' (Some Operation) byte

  stay-there : (q : Option Reg) → same_place (Some Operation) q ≡ false →
      known_possible known-now (cell_of output q) ≡ known_possible k (cell_of output q)
  stay-there = order-others apart law k was.whole output small' (Some Operation) byte

  now-known : knows_at known-now output (Some Operation) ≡ true
  now-known = none-some _ (is-known (Out output Operation) byte _ taken only-here)

  none-stray : ◌≡◌ {A = ℕ} (stray known-now output read) 0
  none-stray = ap (λ (b : Bool). cond {A = ℕ} b 1 0)
      (ap (λ (b : Bool). has_at read (Some Operation) && (not b && not (has_at read (Some VoutCommand)))) now-known
      ∙ and-false (has_at read (Some Operation)))

  pub order-tells : (fewer : ℕ) → fewer ≤ most → Tells output read known-now new_words spare fewer
  order-tells fewer less = record {
    whole = order-whole apart law k was.whole output small' (Some Operation) byte;
    may = each-place (λ (q : Option Reg). has_at read q ≡ true →
        is_possible (word_at new_words (cell_of output q)) (known_possible known-now (cell_of output q)) ≡ true) (Some Operation)
        (λ is. ap₂ (λ (w : ℕ) (o : Possible). is_possible w o) takes only-here ∙ only-possible byte)
        (λ q two is. ap₂ (λ (w : ℕ) (o : Possible). is_possible w o) (others q two) (stay-there q two) ∙ was.may q is);
    calm = go was.calm;
  }
    where
      go : (Calm k output words × (stray k output read ≤ spare)) ⊎ (most + 1 + stray k output read ≤ spare) →
          (Calm known-now output new_words × (stray known-now output read ≤ spare)) ⊎ (fewer + 1 + stray known-now output read ≤ spare)
      go (inl (calm, few)) = let zero_stray = none-stray in inl (
        each-place (λ (q : Option Reg). is_possible (word_at new_words (cell_of output q))
            (known_possible known-now (cell_of output q)) ≡ true) (Some Operation)
            (ap₂ (λ (w : ℕ) (o : Possible). is_possible w o) takes only-here ∙ only-possible byte)
            (λ q two. ap₂ (λ (w : ℕ) (o : Possible). is_possible w o) (others q two) (stay-there q two) ∙ calm q),
        omega arith,
      )
      go (inr few) = let zero_stray = none-stray in inr (omega arith)

  -- no more is to be read than before it
  pub order-left : (chosen : Reg) → left_of (cells_for true (selected_register byte) (selected_register byte)) known-now output read
      ≤ left_of (cells_for false chosen (selected_register byte)) k output read
  unfolding left_of
  order-left chosen = below (λ q. cells_for false chosen (selected_register byte) q && not (settled k output read q)) _ which where
    still : (q : Option Reg) → settled known-now output read q ≡ false → settled k output read q ≡ false
    still = each-place (λ (q : Option Reg). settled known-now output read q ≡ false → settled k output read q ≡ false) (Some Operation)
        (λ is. unread (has_at read (Some Operation)) refl is)
        (λ q two is. sym (ap (λ (o : Possible). has_at read q && is_some (known_word (cell_of output q) o)) (stay-there q two)) ∙ is)
      where
        unread : (b : Bool) → has_at read (Some Operation) ≡ b → (b && knows_at known-now output (Some Operation)) ≡ false →
            (b && knows_at k output (Some Operation)) ≡ false
        unread true e is = let bad = sym now-known ∙ is in cc
        unread false e is = refl

    mattering : (a : Bool) → (a || false) ≡ true → a ≡ true
    mattering true h = refl
    mattering false h = cc

    which : (q : Option Reg) → (cells_for true (selected_register byte) (selected_register byte) q && not
        (settled known-now output read q)) ≡ true →
        (cells_for false chosen (selected_register byte) q && not (settled k output read q)) ≡ true
    which q is = ap₂ (λ (a b : Bool). a && b)
        (target-read chosen (selected_register byte) q (mattering (matters (selected_register byte) q) (first-of _ _ is)))
        (ap not (still q (not-true (settled known-now output read q)
        (second-of (cells_for true (selected_register byte) (selected_register byte) q) _ is))))

-- A survey for no plan by jobs that nothing disturbs: what each job leaves to read, and how it ends.

-- how many jobs were begun
pub chain-few : CoursesEnd → (begun : Course) (first : Pair) (course : Course) (new : Pair) (n : ℕ) → Chain begun first course new n →
    n + course.survey.left ≤ begun.survey.left
chain-few ends begun first course new n no_job = omega arith
chain-few ends begun first course new n (one_more before job end middle last m again runs names does sur) =
    let was = chain-few ends begun first before middle m runs in
    let takes = ends.takes middle.guard.registers (limits_at middle.guard before.survey.output) middle.guard.host before job names in
    let told = ends.told (after_by middle.guard before) end in
    omega arith

module _ (laws : LawsOfSurveys) (output : ℕ) (old : Pair) (extra : ℕ)
    (there : has_register old.guard.registers (selected_register (output_words_of old.held output Operation)) ≡ true) where
  -- the cells that decide what the output commands
  abbrev deciding : Option Reg → Bool
  deciding = matters (selected_register (output_words_of old.held output Operation))

  few : total deciding ≤ 4
  few = let all = four (output_words_of old.held output Operation) in omega arith

  -- how far the survey is
  record OnReads (course : Course) (d : Pair) : Type 0 where
    spare : ℕ
    here : Here course.survey d.guard d.held spare 4
    own : course.survey.output ≡ output
    byte_is : course.byte ≡ None
    once : course.twice ≡ None
    unordered : course.ordered ≡ false
    part_is : d.guard.registers ≡ old.guard.registers
    words : d.held.words ≡ old.held.words
    enough : set_need deciding course.survey d.guard.host + spare + extra ≤ course.survey.left
    lived : HasLife d.guard.host d.held

  within : (v : Survey) (d : Pair) → v.output ≡ output → d.held.words ≡ old.held.words → (p : Option Reg) →
      matters (selected_register (byte_of v d.held)) p ≡ true → deciding p ≡ true
  within v d own words p h = subst (λ (w : Words). matters (selected_register (word_at w (Out output Operation))) p ≡ true) words
      (subst (λ (o : ℕ). matters (selected_register (output_words_of d.held o Operation)) p ≡ true) own h)

  -- ---- What it says ----

  abbrev lim : Course → Pair → OutputLimits
  lim course d = limits_at d.guard course.survey.output

  abbrev due : Course → Pair → Option Job
  due course d = due_job d.guard.registers course.survey d.guard.host

  same-now : (course : Course) (d : Pair) → OnReads course d →
      renewed d.guard.registers (lim course d) d.guard.host course ≡ course
  same-now course d on = renewed-none d.guard.registers (lim course d) d.guard.host course on.unordered

  says-reads : (course : Course) (d : Pair) → OnReads course d →
      says d.guard.registers (lim course d) d.guard.host course
      ≡ survey_or_order d.guard.registers (lim course d) d.guard.host course (due course d)
  says-reads course d on =
      ap (λ (b : Bool). if b then next.Ended (Stopped (Refused Busy))
      else going d.guard.registers (lim course d) d.guard.host course course.twice) on.here.idle
      ∙ (ap (λ (t : Option Differing). going d.guard.registers (lim course d) d.guard.host course t) on.once
      ∙ (ap (λ (b : Option ℕ). going_to d.guard.registers (lim course d) d.guard.host course b) on.byte_is
      ∙ ap (λ (p : Option Wanted). reading_for d.guard.registers (lim course d) d.guard.host course
      (missing_fault d.guard.registers (wants_of (wanted_in p)))) on.here.none))

  next-reads : (course : Course) (d : Pair) → OnReads course d →
      next_by d.guard course ≡ survey_or_order d.guard.registers (lim course d) d.guard.host course (due course d)
  next-reads course d on = ap (λ (c : Course). says d.guard.registers (lim course d) d.guard.host c) (same-now course d on)
      ∙ says-reads course d on

  done-reads : (course : Course) (d : Pair) → OnReads course d → due course d ≡ None →
      survey_or_order d.guard.registers (lim course d) d.guard.host course None ≡ next.Ended Reached
  done-reads course d on free =
      ap (λ (b : Option ℕ). ordering course (order_by d.guard.registers (lim course d) d.guard.host course.survey b)) on.byte_is
      ∙ ap (λ (b : Bool). ordering course (if b then Ok None else plan_of d.guard.registers d.guard.host (lim course d)
      course.survey.output (wants_of (wanted_in course.survey.plan)))) (ap₂ (λ (p : Option Wanted) (b : Bool). is_none p && b) on.here.none surveyed)
    where
      surveyed : is_surveyed d.guard.registers course.survey d.guard.host ≡ true
      surveyed = ap₂ (λ (o : Option Job) (b : Bool). is_none o && not b) free
          (unstuck d.guard d.held course.survey 7 (as-at course.survey d.guard d.held on.spare 4 on.here) nothing
          (ap wanted_in on.here.none) free refl
          (ap₂ (λ (p : PartRegisters) (o : ℕ). has_register p (selected_register (output_words_of d.held o Operation))) on.part_is on.own
          ∙ (ap (λ (w : Words). has_register old.guard.registers (selected_register (word_at w (Out output Operation)))) on.words ∙ there)))

  -- a job that it names is due, and a try is left for it
  named : (course : Course) (d : Pair) (job : Job) → OnReads course d → next_by d.guard course ≡ next.Job job →
      ((course.survey.left == 0) ≡ false) × (due course d ≡ Some job)
  named course d job on names = go (due course d) refl (sym (next-reads course d on) ∙ names) where
    go : (o : Option Job) → due course d ≡ o →
        survey_or_order d.guard.registers (lim course d) d.guard.host course o ≡ next.Job job →
        ((course.survey.left == 0) ≡ false) × (due course d ≡ Some job)
    go None e h = let bad = sym (done-reads course d on e) ∙ h in cc
    go (Some j) e h = by (course.survey.left == 0) refl h where
      by : (b : Bool) → (course.survey.left == 0) ≡ b → (if b then next.Ended (Stopped (Spent j)) else next.Job j) ≡ next.Job job →
          ((course.survey.left == 0) ≡ false) × (due course d ≡ Some job)
      by true empty h' = cc
      by false some h' =
          let same : j ≡ job = cc in
          (some, e ∙ ap (λ (x : Job). Some x) same)

  kind-of : (course : Course) (d : Pair) (job : Job) → OnReads course d → due course d ≡ Some job →
      PowerKind course.survey d.guard.host (format_at d.guard.host course.survey.output)
      (selected_register (byte_of course.survey d.held)) job
  kind-of course d job on e = power-kind d.guard.registers course.survey d.guard.host (byte_of course.survey d.held) on.here.none
      (operation-of on.here) job e

  -- ---- One more job ----

  stepped : (course : Course) (before new : Pair) (after : Survey) (job : Job) (end : JobEnd) (again : Bool) →
      (on : OnReads course before) → after.output ≡ course.survey.output →
      ByteStep deciding course.survey after job on.spare 4 before new →
      Step job end before new → (again ≡ true → is_surprised job before ≡ true) →
      OnReads (forgotten again (record course { survey = after; ordered = course.ordered || false })) new
  stepped course before new after job end again on output-is step runs sur = by again sur where
    or-false : (b : Bool) → b ≡ false → (b || false) ≡ false
    or-false b e = ap (λ (x : Bool). x || false) e

    less : set_need deciding after new.guard.host + step.left + extra ≤ after.left
    less = let l = step.less in let t = step.tries in let e = on.enough in omega arith

    plain : OnReads (record course { survey = after; ordered = course.ordered || false }) new
    plain = record {
      spare = step.left;
      here = step.here;
      own = output-is ∙ on.own;
      byte_is = on.byte_is;
      once = on.once;
      unordered = or-false course.ordered on.unordered;
      part_is = runs.registers ∙ on.part_is;
      words = step.words ∙ on.words;
      enough = less;
      lived = runs.lived;
    }

    forgets : Calm new.guard.host.known after.output new.held.words
        × (stray new.guard.host.known after.output after.read + 1 ≤ step.left) →
        OnReads (forgotten true (record course { survey = after; ordered = course.ordered || false })) new
    forgets (calm, some) = record {
      spare = step.left - 1;
      here = record {
        idle = step.here.idle;
        there = step.here.there;
        none = step.here.none;
        format = step.here.format;
        tells = record { whole = step.here.tells.whole; may = step.here.tells.may; calm = inl (calm, omega arith) };
      };
      own = output-is ∙ on.own;
      byte_is = on.byte_is;
      once = on.once;
      unordered = or-false course.ordered on.unordered;
      part_is = runs.registers ∙ on.part_is;
      words = step.words ∙ on.words;
      enough = let l = less in omega arith;
      lived = runs.lived;
    }

    by : (b : Bool) → (b ≡ true → is_surprised job before ≡ true) →
        OnReads (forgotten b (record course { survey = after; ordered = course.ordered || false })) new
    by false s = plain
    by true s = forgets (step.room (s refl))

  step-on : (course : Course) (before new : Pair) (job : Job) (end : JobEnd) (again : Bool) → OnReads course before →
      next_by before.guard course ≡ next.Job job → Step job end before new → (again ≡ true → is_surprised job before ≡ true) →
      OnReads (forgotten again (told_of (after_by before.guard course) end)) new
  step-on course before new job end again on names runs sur =
      subst (λ (n : Next). OnReads (forgotten again (told_of (naming (renewed before.guard.registers (lim course before)
      before.guard.host course) n) end)) new) (sym names)
      (subst (λ (c : Course). OnReads (forgotten again (told_of (naming c (next.Job job)) end)) new) (sym (same-now course before on))
      (by job (kind-of course before job on is.1) (asks-due before.guard.registers course.survey before.guard.host job is.0 is.1) runs sur))
    where
      is : ((course.survey.left == 0) ≡ false) × (due course before ≡ Some job)
      is = named course before job on names

      by : (k : Job) → PowerKind course.survey before.guard.host (format_at before.guard.host course.survey.output)
          (selected_register (byte_of course.survey before.held)) k → next_job before.guard.registers course.survey before.guard.host ≡ Some k →
          Step k end before new → (again ≡ true → is_surprised k before ≡ true) →
          OnReads (forgotten again (told_of (naming course (next.Job k)) end)) new
      by k (learns why) asks does s = stepped course before new (surveyed_by course.survey k end) k end again on
          (asked-output course.survey k end) (byte-step laws deciding 4 few course.survey before new k end on.spare on.lived
          (within course.survey before on.own on.words) on.here asks does) does s
      by k (checks r why) asks does s = stepped course before new (surveyed_by course.survey k end) k end again on
          (asked-output course.survey k end) (byte-step laws deciding 4 few course.survey before new k end on.spare on.lived
          (within course.survey before on.own on.words) on.here asks does) does s

  all-on : (begun : Course) (first : Pair) → OnReads begun first → (course : Course) (d : Pair) (n : ℕ) → Chain begun first course d n →
      OnReads course d
  all-on begun first on course d n no_job = on
  all-on begun first on course d n (one_more before job end middle last m again chain names does sur) =
      step-on before middle last job end again (all-on begun first on before middle m chain) names does sur

  -- ---- The end ----

  -- tries are left while a job is due
  never-spent : (course : Course) (d : Pair) → OnReads course d → course.survey.left ≤ extra → due course d ≡ None
  never-spent course d on empty = nothing-here course.survey d.guard d.held on.spare 4 deciding
      (within course.survey d on.own on.words) on.here (let e = on.enough in omega arith) (let e = on.enough in omega arith)

  left-over : (course : Course) (d : Pair) → OnReads course d → extra ≤ course.survey.left
  left-over course d on = let e = on.enough in omega arith

  left-named : (course : Course) (d : Pair) (job : Job) → OnReads course d → due course d ≡ Some job → extra + 1 ≤ course.survey.left
  left-named course d job on is = go (nat_lt extra course.survey.left) refl where
    go : (b : Bool) → nat_lt extra course.survey.left ≡ b → extra + 1 ≤ course.survey.left
    go true e = grind (arith, nat_tests)
    go false e = absurd (let bad : Some job ≡ None = sym is ∙ never-spent course d on (grind (arith, nat_tests)) in cc)

  ends-on : (course : Course) (d : Pair) (end : ApplyEnd) → OnReads course d → next_by d.guard course ≡ next.Ended end → end ≡ Reached
  ends-on course d end on is = go (due course d) refl (sym (next-reads course d on) ∙ is) where
    none-zero : (n : ℕ) → (n == 0) ≡ true → n ≤ extra
    none-zero n h = grind (arith, nat_tests)

    go : (o : Option Job) → due course d ≡ o → survey_or_order d.guard.registers (lim course d) d.guard.host course o ≡ next.Ended end →
        end ≡ Reached
    go None e h = let same : Reached ≡ end = end-same (sym (done-reads course d on e) ∙ h) in sym same where
      end-same : ◌≡◌ {A = Next} (next.Ended Reached) (next.Ended end) → Reached ≡ end
      end-same h' = cc
    go (Some j) e h = by (course.survey.left == 0) refl h where
      by : (b : Bool) → (course.survey.left == 0) ≡ b → (if b then next.Ended (Stopped (Spent j)) else next.Job j) ≡ next.Ended end →
          end ≡ Reached
      by true empty h' = absurd (let bad : Some j ≡ None = sym e ∙ never-spent course d on (none-zero course.survey.left empty) in cc)
      by false some h' = cc

  free-on : (course : Course) (d : Pair) (job : Job) → OnReads course d → next_by d.guard course ≡ next.Job job →
      guard_fault d.guard job ≡ None
  free-on course d job on names =
      let is = named course d job on names in
      asked-free course.survey d.guard job on.here.idle on.here.there
      (asks-due d.guard.registers course.survey d.guard.host job is.0 is.1)

  no-order : (course : Course) (d : Pair) (cell : Cell) (word : ℕ) → OnReads course d →
      next_by d.guard course ≡ next.Job (Order cell word) → ⊥
  no-order course d cell word on names = go (Order cell word) refl (kind-of course d (Order cell word) on (named course d (Order cell word) on names).1) where
    go : (k : Job) → k ≡ Order cell word → PowerKind course.survey d.guard.host (format_at d.guard.host course.survey.output)
        (selected_register (byte_of course.survey d.held)) k → ⊥
    go k same (learns why) = cc
    go k same (checks r why) = cc

-- ten tries are enough: for two surveys of the format and four registers, since at most one answer of all surprises
pub survey-ends : LawsOfSurveys → CoursesEnd → (output tries n : ℕ) (old new : Pair) (course : Course) →
    HasLife old.guard.host old.held → is_busy old.guard.host ≡ false → output < old.guard.host.setup.outputs →
    has_register old.guard.registers (selected_register (output_words_of old.held output Operation)) ≡ true → 10 ≤ tries →
    Chain (survey_course_of output tries) old course new n → SurveyEnds output 10 n old new course
survey-ends laws ends output tries n old new course has idle here there many chain = record {
  few = let left = left-over laws output old (tries - 10) there course new last in let taken = taken-few in omega arith;
  more = λ job names.
      let left = left-named laws output old (tries - 10) there course new job last
      (named laws output old (tries - 10) there course new job last names).1 in
      let taken = taken-few in
      (omega arith, free-on laws output old (tries - 10) there course new job last names);
  reads = λ cell word names. no-order laws output old (tries - 10) there course new cell word last names;
  once = last.once;
  idle = last.here.idle;
  words = last.words;
  may = λ register read. subst (λ (o : ℕ). is_possible (output_words_of new.held o register)
      (possible_at new.guard.host (Out o register)) ≡ true) last.own (last.here.tells.may (Some register) read);
  ends = λ end is. ends-on laws output old (tries - 10) there course new end last is;
}
  where
    start : Here (survey_of output None tries) old.guard old.held 5 4
        × (set_need (deciding laws output old (tries - 10) there) (survey_of output None tries) old.guard.host ≤ 5)
    start = begins-here (survey_of output None tries) old.guard old.held 5 4 (deciding laws output old (tries - 10) there)
        (few laws output old (tries - 10) there) idle here refl (λ shape known'. true-format laws.lives has output shape known')
        (subst (λ (s : Summary). HasPlaces s.known) has.life.host_is (life-places has.config has.passes has.events)) (inr (omega arith)) refl

    begun : OnReads laws output old (tries - 10) there (survey_course_of output tries) old
    begun = record {
      spare = 5;
      here = start.0;
      own = refl;
      byte_is = refl;
      once = refl;
      unordered = refl;
      part_is = refl;
      words = refl;
      enough = let need = start.1 in omega arith;
      lived = has;
    }

    last : OnReads laws output old (tries - 10) there course new
    last = all-on laws output old (tries - 10) there (survey_course_of output tries) old begun course new n chain

    taken-few : n + course.survey.left ≤ tries
    taken-few = chain-few ends (survey_course_of output tries) old course new n chain
