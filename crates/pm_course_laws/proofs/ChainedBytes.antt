-- A course to a byte of OPERATION by jobs that nothing disturbs: what each job leaves to do, and how it ends.
use Rattle.std.specs.Prelude.{◌≡◌, ◌≤◌, ◌<◌, ◌+◌, ◌-◌, ◌&&◌, ◌||◌, ◌⊎◌, ℕ, Bool, true, false, not, cond, if◌then◌else◌, refl, [], ◌∷◌, Option, Some, None, is_none, is_some}
use Rattle.std.specs.Option.{option_map_or}
use Rattle.std.proofs.Common.{arith, sym, ◌∙◌, ap, ap₂, subst, inl, inr}
use Rattle.pm_num.specs.AnyFormat.{Shape}
use Rattle.pm_table.specs.declared.cell.Cell.TheVariants.{Out, Protect}
use Rattle.pm_table.specs.declared.reg.Reg.{Reg}
use Rattle.pm_table.specs.declared.reg.Reg.TheVariants.{Operation, VoutCommand, VoutMax, MarginHigh, MarginLow, VoutMin}
use Rattle.pm_table.specs.Cell.{cell_accepts, same_register}
use Rattle.pm_table.specs.Operation.{selected_register}
use Rattle.pm_table.specs.Rules.{rule}
use Rattle.pm_model.specs.Settings.{Words, word_at}
use Rattle.pm_host.specs.declared.job.Job.{Job}
use Rattle.pm_host.specs.declared.job.Job.TheVariants.{Check}
use Rattle.pm_host.specs.declared.knowledge.Possible.{Possible}
use Rattle.pm_host.specs.Known.{HasPlaces, Known, known_after, known_possible}
use Rattle.pm_host.specs.Marks.{Good, Put}
use Rattle.pm_host.specs.Possible.{only}
use Rattle.pm_host.specs.Summary.{Summary, format_at, possible_at}
use Rattle.pm_limits.specs.declared.part_registers.PartRegisters.{PartRegisters}
use Rattle.pm_limits.specs.Part.{has_register}
use Rattle.pm_rail.specs.declared.survey.Survey.{Survey}
use Rattle.pm_rail.specs.declared.wanted.Wanted.{Wanted}
use Rattle.pm_rail.specs.Known.{known_word}
use Rattle.pm_rail.specs.Lemmas.Steps.{first-of}
use Rattle.pm_rail.specs.Registers.{Held, nothing}
use Rattle.pm_rail.specs.Survey.{due_job, has_read, wanted_in}
use Rattle.pm_rail.specs.Lemmas.Places.{cell_of, has_at, same-itself, same_place, total}
use Rattle.pm_course_laws.proofs.ChainedSurveys.{Calm, LawsOfSurveys, accepts, asked-output, asks_in, in-range, is_learned, life-places, none-some, other-place, surveyed_by, true-format, two-cells}
use Rattle.std.proofs.lemmas.Bool.Decides.{nat_tests}
use Rattle.std.specs.Prelude.{◌==◌, List, slice_index_or}
use Rattle.pm_device.specs.declared.config.Config.{Config}
use Rattle.pm_device.specs.Held.{shape_for}
use Rattle.pm_host.specs.declared.job.JobEnd.{JobEnd}
use Rattle.pm_host.specs.Refusals.{is_busy}
use Rattle.pm_host.specs.Transcript as accepted
use Rattle.pm_limits.specs.Guard.{Guarded}
use Rattle.pm_course_laws.specs.Chains.{HasLife, Pair, Step, is_surprised, output_words_of}
use Rattle.pm_course_laws.proofs.ChainedSurveys.{known-is, read-is, sole-taken, true-of, unstuck}
use Rattle.std.specs.Prelude.{◌≢◌, Err, Ok, Result}
use Rattle.pm_table.specs.declared.cell.Cell.{Cell}
use Rattle.pm_table.specs.Cell.{IsCell, cell_code}
use Rattle.pm_table.specs.Operation.{has_on}
use Rattle.pm_table.specs.Protection.{is_allowed}
use Rattle.pm_table.specs.Rules.{first}
use Rattle.pm_host.specs.declared.fault.HostFault.{HostFault}
use Rattle.pm_host.specs.declared.job.Job.TheVariants.{Order}
use Rattle.pm_limits.specs.declared.fault.LimitFault.{LimitFault}
use Rattle.pm_limits.specs.declared.output_limits.OutputLimits.{OutputLimits}
use Rattle.pm_limits.specs.Guard.{guard_fault, limits_at, missing_cell, of_host}
use Rattle.pm_rail.specs.declared.apply_end.ApplyEnd.TheVariants.{Stopped}
use Rattle.pm_rail.specs.declared.apply_end.StopCause.TheVariants.{Refused}
use Rattle.pm_rail.specs.declared.course.Course.{Course}
use Rattle.pm_rail.specs.declared.course.Differing.{Differing}
use Rattle.pm_rail.specs.declared.fault.PlanFault.{PlanFault}
use Rattle.pm_rail.specs.declared.fault.PlanFault.TheVariants.{Busy, NotKnown}
use Rattle.pm_rail.specs.declared.next.Next.TheVariants.{Ended}
use Rattle.pm_rail.specs.declared.orders.PlanOrder.{PlanOrder}
use Rattle.pm_rail.specs.Course.{going, going_to, is_carried_out, is_operation_known, once_more, order_by, order_next, power_next, survey_or_order, renewed, says, turning_off}
use Rattle.pm_rail.specs.Survey.{is_surveyed}
use Rattle.pm_course_laws.specs.Chains.{forgotten}
use Rattle.std.proofs.lemmas.Bool.{eq-eqb}
use Rattle.pm_table.specs.Cell.{register_code}
use Rattle.pm_host.specs.declared.job.JobEnd.TheVariants.{Done}
use Rattle.pm_rail.specs.declared.fault.PlanFault.TheVariants.{Protected}
use Rattle.pm_rail.specs.declared.next.Next.TheVariants as next
use Rattle.pm_rail.specs.Course.{is_order, naming, ordering, taking, told_of}
use Rattle.pm_rail.specs.Lemmas.Says.{asks-due, taken}
use Rattle.pm_rail.specs.Survey.{asking}
use Rattle.pm_course.specs.declared.course_end.Refusal.{Refusal}
use Rattle.pm_course.specs.Ends.{refusal_of_plan}
use Rattle.pm_course.specs.FrameCourse.{asked_for, asking_for, is_turning, protect_in, source_in, turn, turning, untaken_at}
use Rattle.pm_course_laws.specs.Chains.{IsOrdered}
use Rattle.std.specs.Prelude.{nat_lt}
use Rattle.std.proofs.Math.Path.{fun_ext}
use Rattle.std.proofs.lemmas.Bool.{lt-ltb, or_left, or_right}
use Rattle.pm_table.specs.declared.operation.Operation.{Operation as Byte}
use Rattle.pm_table.specs.Cell.{is_cell}
use Rattle.pm_table.specs.Operation.{is_on, operation_of}
use Rattle.pm_model.specs.Commanded.{commanded, selected}
use Rattle.pm_device.specs.Held.{value_for}
use Rattle.pm_host.specs.declared.fault.HostFault.TheVariants as host
use Rattle.pm_host.specs.Possible.{has_room, is_listed}
use Rattle.pm_limits.specs.declared.fault.LimitFault.TheVariants.{MissingRegister}
use Rattle.pm_limits.specs.declared.output_limits.OutputLimits.TheVariants.{Unlimited}
use Rattle.pm_limits.specs.Guard.{guarded_order, operation_limit, unsure_fault}
use Rattle.pm_rail.specs.declared.apply_end.ApplyEnd.{ApplyEnd}
use Rattle.pm_rail.specs.declared.apply_end.ApplyEnd.TheVariants.{Reached}
use Rattle.pm_rail.specs.declared.apply_end.StopCause.TheVariants.{Spent}
use Rattle.pm_rail.specs.declared.next.Next.{Next}
use Rattle.pm_rail.specs.Course.{after_by, next_by}
use Rattle.pm_rail.specs.Lemmas.AskedFree.{asked-free}
use Rattle.pm_rail.specs.Lemmas.Says.{renewed-none, renewed-so}
use Rattle.pm_rail.specs.Plan.{commands_by}
use Rattle.pm_course_laws.specs.Chains.{ByteChain, ByteEnds, IsAskedFor, IsSwitched, byte_tries, none_yet, one_on}
use Rattle.pm_rail.specs.Course.{power_course_of}
use Rattle.pm_rail.specs.Laws.{CoursesEnd}
use Rattle.pm_rail.specs.Survey.{survey_of}
use Rattle.pm_course_laws.proofs.ByteReads.{ByteStep, Here, PowerKind, Tells, as-at, as-knows, begins-here, byte-step, byte_of, cells_for, checked, checks, learns, left_of, matters, nothing-here, operation-of, order-left, order-tells, power-kind, set_need, size-so, size_for, stray, turns_by}

-- ---- How far a course to a byte that leaves the output on is ----

-- a check is refused by nothing where no job is open and the register is there
free-check : (g : Guarded) (cell : Cell) → is_busy g.host ≡ false → is_cell g.host.setup.outputs cell ≡ true →
    missing_cell g.registers cell ≡ None → guard_fault g (Check cell) ≡ None
free-check g cell idle here there =
    ap₂ (λ (a b : Bool). first (of_host (first (rule a host.Busy ∷ rule (not b) host.UnknownOutput ∷ []))
    ∷ missing_cell g.registers cell ∷ []))
    idle here
    ∙ ap (λ (m : Option LimitFault). first (None ∷ m ∷ [])) there

-- none of four rules applies
four-none : (a b c d : Option LimitFault) → a ≡ None → b ≡ None → c ≡ None → d ≡ None → first (a ∷ b ∷ c ∷ d ∷ []) ≡ None
four-none None None None None p q r s = refl
four-none (Some x) b c d p q r s = cc
four-none None (Some x) c d p q r s = cc
four-none None None (Some x) d p q r s = cc
four-none None None None (Some x) p q r s = cc

-- a byte that leaves an output on is one that OPERATION takes
on-taken : (output byte : ℕ) → has_on byte ≡ true → cell_accepts (Out output Operation) byte ≡ true
on-taken output byte on = go (operation_of byte) refl on where
  go : (o : Option Byte) → operation_of byte ≡ o → option_map_or is_on o false ≡ true → is_some (operation_of byte) ≡ true
  go None e h = cc
  go (Some b) e h = ap is_some e

-- an order of it is refused by limits alone, where the register is there and OPERATION is known
free-order : (g : Guarded) (output byte word : ℕ) → is_busy g.host ≡ false → output < g.host.setup.outputs →
    has_register g.registers (selected_register byte) ≡ true → has_on byte ≡ true →
    possible_at g.host (Out output Operation) ≡ only word → limits_at g output ≡ Unlimited →
    guard_fault g (Order (Out output Operation) byte) ≡ None
free-order g output byte word idle here has on known none =
    ap (λ (l : OutputLimits). guarded_order g.registers l g.host (Out output Operation) byte) none
    ∙ four-none _ _ _ _ (of_free _ asks) (ap (λ (b : Bool). rule (not b) MissingRegister) has) judged (of_free _ order)
  where
    in_range : nat_lt output g.host.setup.outputs ≡ true
    in_range = lt-ltb output g.host.setup.outputs here

    asks : first (rule (is_busy g.host) host.Busy ∷ rule (not (nat_lt output g.host.setup.outputs)) host.UnknownOutput ∷ []) ≡ None
    asks = ap₂ (λ (a b : Bool). first (rule a host.Busy ∷ rule (not b) host.UnknownOutput ∷ [])) idle in_range

    of_free : (o : Option HostFault) → o ≡ None → of_host o ≡ None
    of_free o e = ap of_host e

    judged : operation_limit g.registers Unlimited g.host output byte ≡ None
    judged = ap (λ (b : Bool). rule (b && false) (unsure_fault Unlimited (format_at g.host output))) on

    room : has_room byte (only word) ≡ true
    room = or_right (is_listed byte (word ∷ [])) _ refl

    order : first (first (rule (is_busy g.host) host.Busy ∷ rule (not (nat_lt output g.host.setup.outputs)) host.UnknownOutput ∷ [])
        ∷ rule (not (cell_accepts (Out output Operation) byte)) host.BadWord
        ∷ rule (not (has_room byte (possible_at g.host (Out output Operation)))) host.TooUncertain ∷ []) ≡ None
    order = ap₂ (λ (a : Option HostFault) (b : Bool). first (a ∷ rule (not b) host.BadWord
        ∷ rule (not (has_room byte (possible_at g.host (Out output Operation)))) host.TooUncertain ∷ [])) asks (on-taken output byte on)
        ∙ ap (λ (p : Possible). first (None ∷ rule false host.BadWord ∷ rule (not (has_room byte p)) host.TooUncertain ∷ [])) known
        ∙ ap (λ (b : Bool). first (None ∷ rule false host.BadWord ∷ rule (not b) host.TooUncertain ∷ [])) room

-- an output whose other words stay commands what they say with this byte
switched-words : (output byte : ℕ) (old new : Pair) → output_words_of new.held output Operation ≡ byte → new.held.config ≡ old.held.config →
    ((other : Cell) → other ≢ Out output Operation → IsCell old.guard.host.setup.outputs other →
    word_at new.held.words other ≡ word_at old.held.words other) → output < old.guard.host.setup.outputs → IsSwitched output byte old new
unfolding commanded selected
switched-words output byte old new takes made others here = record {
  takes = takes;
  others = others;
  commands = ap₂ (λ (c : Config) (h : Held). commands_by (value_for c output) h) made
      (fun_ext (λ (q : Reg). each q (same_register Operation q) refl));
}
  where
    each : (q : Reg) (b : Bool) → same_register Operation q ≡ b →
        output_words_of new.held output q ≡ (if b then byte else output_words_of old.held output q)
    each q true e = ap (λ (o : Option Reg). word_of o) (other-place (Some Operation) (Some q) e) ∙ takes where
      word_of : Option Reg → ℕ
      word_of None = 0
      word_of (Some r) = output_words_of new.held output r
    each q false e = others (Out output q) (λ same. differs q e same) here where
      differs : (r : Reg) → same_register Operation r ≡ false → Out output r ≡ Out output Operation → ⊥
      differs r f same = let bad = sym f ∙ ap of_cell same in cc where
        of_cell : Cell → Bool
        of_cell (Out o x) = same_register Operation x
        of_cell Protect = false

module _ (laws : LawsOfSurveys) (output byte : ℕ) (turns_on : has_on byte ≡ true) (old : Pair) (extra : ℕ)
    (chosen_there : has_register old.guard.registers (selected_register byte) ≡ true)
    (allowed : is_allowed (word_at old.held.words Protect) (cell_code (Out output Operation)) ≡ true) where
  abbrev target : Reg
  target = selected_register byte

  abbrev held_byte : Pair → ℕ
  held_byte d = output_words_of d.held output Operation

  abbrev set_for : ℕ → Option Reg → Bool
  set_for word = cells_for (word == byte) (selected_register word) target

  abbrev most_for : ℕ → ℕ
  most_for word = size_for (word == byte)

  -- how many jobs its survey has to do
  abbrev need_of : Course → Pair → ℕ
  need_of course d = set_need (set_for (held_byte d)) course.survey d.guard.host

  -- How many tries are enough: for what is still to be read; after the order for one more survey too; and before it for the order besides.
  abbrev Enough : Course → Pair → ℕ → Type 0
  Enough course d spare =
      (((held_byte d == byte) ≡ true) × (course.ordered ≡ true) × (need_of course d + spare + 5 + extra ≤ course.survey.left))
      ⊎ ((((held_byte d == byte) ≡ true) × (course.ordered ≡ false) × (need_of course d + spare + extra ≤ course.survey.left))
      ⊎ (((held_byte d == byte) ≡ false) × (course.ordered ≡ false)
      × (d.held.words ≡ old.held.words) × (need_of course d + spare + 6 + extra ≤ course.survey.left)))

  -- how far the course is
  record OnByte (course : Course) (d : Pair) : Type 0 where
    spare : ℕ
    here : Here course.survey d.guard d.held spare (most_for (held_byte d))
    own : course.survey.output ≡ output
    byte_is : course.byte ≡ Some byte
    once : course.twice ≡ None
    part_is : d.guard.registers ≡ old.guard.registers
    limits_are : d.guard.limits ≡ old.guard.limits
    setup_is : d.guard.host.setup ≡ old.guard.host.setup
    made : d.held.config ≡ old.held.config
    others : (other : Cell) → other ≢ Out output Operation → IsCell old.guard.host.setup.outputs other →
        word_at d.held.words other ≡ word_at old.held.words other
    enough : Enough course d spare
    lived : HasLife d.guard.host d.held

  -- a course is as far as another with the same survey
  same-way : (x y : Course) (d : Pair) → y.survey ≡ x.survey → y.ordered ≡ x.ordered → y.byte ≡ x.byte →
      y.twice ≡ x.twice → OnByte x d → OnByte y d
  same-way x y d survey ordered byte' twice on = record {
    spare = on.spare;
    here = subst (λ (v : Survey). Here v d.guard d.held on.spare (most_for (held_byte d))) (sym survey) on.here;
    own = ap (λ (v : Survey). v.output) survey ∙ on.own;
    byte_is = byte' ∙ on.byte_is;
    once = twice ∙ on.once;
    part_is = on.part_is;
    limits_are = on.limits_are;
    setup_is = on.setup_is;
    made = on.made;
    others = on.others;
    enough = go on.enough;
    lived = on.lived;
  }
    where
      by : (P : Survey → Bool → Type 0) → P x.survey x.ordered → P y.survey y.ordered
      by P p = subst (λ (v : Survey). P v y.ordered) (sym survey) (subst (λ (o : Bool). P x.survey o) (sym ordered) p)

      go : Enough x d on.spare → Enough y d on.spare
      go e = by (λ (v : Survey) (o : Bool).
          (((held_byte d == byte) ≡ true) × (o ≡ true) × (set_need (set_for (held_byte d)) v d.guard.host + on.spare + 5 + extra ≤ v.left))
          ⊎ ((((held_byte d == byte) ≡ true) × (o ≡ false) × (set_need (set_for (held_byte d)) v d.guard.host + on.spare + extra ≤ v.left))
          ⊎ (((held_byte d == byte) ≡ false) × (o ≡ false)
          × (d.held.words ≡ old.held.words) × (set_need (set_for (held_byte d)) v d.guard.host + on.spare + 6 + extra ≤ v.left)))) e

  -- what matters is read
  within : (word : ℕ) (p : Option Reg) → matters (selected_register word) p ≡ true → set_for word p ≡ true
  within word p h = or_left (matters (selected_register word) p) _ h

  own-within : (v : Survey) (d : Pair) → v.output ≡ output → (p : Option Reg) → matters (selected_register (byte_of v d.held)) p ≡ true →
      set_for (held_byte d) p ≡ true
  own-within v d own p h = within (held_byte d) p (subst (λ (o : ℕ). matters
      (selected_register (output_words_of d.held o Operation)) p ≡ true) own h)

  few-for : (word : ℕ) → total (set_for word) ≤ most_for word
  few-for word = size-so (word == byte) word byte

  -- the format is to be learned again
  on-forgets : (course : Course) (d : Pair) → (on : OnByte course d) →
      Calm d.guard.host.known course.survey.output d.held.words
      × (stray d.guard.host.known course.survey.output course.survey.read + 1 ≤ on.spare) → OnByte (forgotten true course) d
  on-forgets course d on (calm, some) = record {
    spare = on.spare - 1;
    here = record {
      idle = on.here.idle;
      there = on.here.there;
      none = on.here.none;
      format = on.here.format;
      tells = record { whole = on.here.tells.whole; may = on.here.tells.may; calm = inl (calm, omega arith) };
    };
    own = on.own;
    byte_is = on.byte_is;
    once = on.once;
    part_is = on.part_is;
    limits_are = on.limits_are;
    setup_is = on.setup_is;
    made = on.made;
    others = on.others;
    enough = go on.enough;
    lived = on.lived;
  }
    where
      less : need_of (forgotten true course) d + (on.spare - 1) ≤ need_of course d + on.spare
      less = omega arith

      go : Enough course d on.spare → Enough (forgotten true course) d (on.spare - 1)
      go (inl (same, ordered, few)) = let l = less in inl (same, ordered, omega arith)
      go (inr (inl (same, unordered, few))) = let l = less in inr (inl (same, unordered, omega arith))
      go (inr (inr (other, unordered, kept, few))) = let l = less in inr (inr (other, unordered, kept, omega arith))

  -- a job that reads, and whether the format is to be learned again
  on-step : (course : Course) (before new : Pair) (after : Survey) (job : Job) (end : JobEnd) (again : Bool) → (on : OnByte course before) →
      after.output ≡ course.survey.output →
      ByteStep (set_for (held_byte before)) course.survey after job on.spare (most_for (held_byte before)) before new →
      Step job end before new → (again ≡ true → is_surprised job before ≡ true) →
      OnByte (forgotten again (record course { survey = after; ordered = course.ordered || false })) new
  on-step course before new after job end again on output-is step runs sur = by again sur where
    same-word : held_byte new ≡ held_byte before
    same-word = ap (λ (w : Words). word_at w (Out output Operation)) step.words

    or-false' : (b : Bool) → (b || false) ≡ b
    or-false' true = refl
    or-false' false = refl

    to-new : (P : ℕ → Type 0) → P (held_byte before) → P (held_byte new)
    to-new P p = subst P (sym same-word) p

    stepped-on : OnByte (record course { survey = after; ordered = course.ordered || false }) new
    stepped-on = record {
      spare = step.left;
      here = to-new (λ (w : ℕ). Here after new.guard new.held step.left (most_for w)) step.here;
      own = output-is ∙ on.own;
      byte_is = on.byte_is;
      once = on.once;
      part_is = runs.registers ∙ on.part_is;
      limits_are = runs.limits ∙ on.limits_are;
      setup_is = runs.kept ∙ on.setup_is;
      made = step.config ∙ on.made;
      others = λ other two there. ap (λ (w : Words). word_at w other) step.words ∙ on.others other two there;
      enough = go on.enough;
      lived = runs.lived;
    }
      where
        less : set_need (set_for (held_byte new)) after new.guard.host + step.left + 1 ≤ need_of course before + on.spare
        less = to-new (λ (w : ℕ). set_need (set_for w) after new.guard.host + step.left + 1 ≤ need_of course before + on.spare) step.less

        go : Enough course before on.spare → Enough (record course { survey = after; ordered = course.ordered || false }) new step.left
        go (inl (same, ordered, few)) = let l = less in let t = step.tries in
            inl (ap (λ (w : ℕ). w == byte) same-word ∙ same, or-false' course.ordered ∙ ordered, omega arith)
        go (inr (inl (same, unordered, few))) = let l = less in let t = step.tries in
            inr (inl (ap (λ (w : ℕ). w == byte) same-word ∙ same, or-false' course.ordered ∙ unordered, omega arith))
        go (inr (inr (other, unordered, kept, few))) = let l = less in let t = step.tries in
            inr (inr (ap (λ (w : ℕ). w == byte) same-word ∙ other, or-false' course.ordered ∙ unordered, step.words ∙ kept, omega arith))

    by : (b : Bool) → (b ≡ true → is_surprised job before ≡ true) →
        OnByte (forgotten b (record course { survey = after; ordered = course.ordered || false })) new
    by false s = same-way (record course { survey = after; ordered = course.ordered || false })
        (forgotten false (record course { survey = after; ordered = course.ordered || false })) new
        (unforgotten after) refl refl refl stepped-on
      where
        unforgotten : (v : Survey) → record v { learned = not false && v.learned } ≡ v
        unforgotten v = refl
    by true s = on-forgets (record course { survey = after; ordered = course.ordered || false }) new stepped-on (step.room (s refl))

  -- ---- What it says ----

  says-byte : (course : Course) (d : Pair) → OnByte course d → (limits : OutputLimits) →
      says d.guard.registers limits d.guard.host course
      ≡ survey_or_order d.guard.registers limits d.guard.host course (due_job d.guard.registers course.survey d.guard.host)
  says-byte course d on limits =
      ap (λ (b : Bool). if b then Ended (Stopped (Refused Busy)) else going d.guard.registers limits d.guard.host course course.twice)
      on.here.idle
      ∙ ap (λ (t : Option Differing). going d.guard.registers limits d.guard.host course t) on.once
      ∙ ap (λ (b : Option ℕ). going_to d.guard.registers limits d.guard.host course b) on.byte_is
      ∙ ap (λ (b : Bool). if b then survey_or_order d.guard.registers limits d.guard.host course
      (due_job d.guard.registers course.survey d.guard.host) else turning_off course byte) turns_on

  -- once nothing is due OPERATION is known to hold what it holds
  operation-sure : (course : Course) (d : Pair) → OnByte course d → due_job d.guard.registers course.survey d.guard.host ≡ None →
      is_none (known_word (Out course.survey.output Operation) (possible_at d.guard.host (Out course.survey.output Operation))) ≡ false
  operation-sure course d on free = known-is d.guard d.held course.survey 7
      (as-at course.survey d.guard d.held on.spare (most_for (held_byte d)) on.here) nothing
      (ap wanted_in on.here.none) free Operation refl refl

  operation-only : (course : Course) (d : Pair) → OnByte course d → due_job d.guard.registers course.survey d.guard.host ≡ None →
      possible_at d.guard.host (Out course.survey.output Operation) ≡ only (output_words_of d.held course.survey.output Operation)
  operation-only course d on free = true-of (as-knows on.here.tells) (Some Operation)
      (read-is d.guard d.held course.survey 7 (as-at course.survey d.guard d.held on.spare (most_for (held_byte d)) on.here) nothing
      (ap wanted_in on.here.none) free Operation refl refl) (none-some _ (operation-sure course d on free))

  operation-known : (course : Course) (d : Pair) → OnByte course d → due_job d.guard.registers course.survey d.guard.host ≡ None →
      is_operation_known d.guard.host course.survey.output byte ≡ (held_byte d == byte)
  operation-known course d on free =
      ap (λ (o : Option ℕ). option_map_or (λ word. word == byte) o false) known-word
      ∙ ap (λ (o : ℕ). output_words_of d.held o Operation == byte) on.own
    where
      known-word : known_word (Out course.survey.output Operation) (possible_at d.guard.host (Out course.survey.output Operation))
          ≡ Some (output_words_of d.held course.survey.output Operation)
      known-word = ap (known_word (Out course.survey.output Operation)) (operation-only course d on free)
          ∙ by (cell_accepts (Out course.survey.output Operation) (output_words_of d.held course.survey.output Operation))
          (sym (ap (λ (p : Possible). is_none (known_word (Out course.survey.output Operation) p)) (operation-only course d on free))
          ∙ operation-sure course d on free)
        where
          by : (b : Bool) → is_none (rule b (output_words_of d.held course.survey.output Operation)) ≡ false →
              rule b (output_words_of d.held course.survey.output Operation) ≡ Some (output_words_of d.held course.survey.output Operation)
          by true h = refl
          by false h = cc

  abbrev switch : PlanOrder
  switch = record { register = Operation; word = byte }

  -- what is ordered then
  abbrev due_order : Bool → Result (Option PlanOrder) PlanFault
  due_order b = if b then Ok None else Ok (Some switch)

  order-held : (course : Course) (d : Pair) → OnByte course d → (limits : OutputLimits) →
      due_job d.guard.registers course.survey d.guard.host ≡ None →
      order_next d.guard.registers limits d.guard.host course ≡ due_order (held_byte d == byte)
  order-held course d on limits free =
      ap (λ (b : Option ℕ). order_by d.guard.registers limits d.guard.host course.survey b) on.byte_is
      ∙ ap (λ (b : Bool). if b then Err Busy else power_next d.guard.registers d.guard.host course.survey byte) on.here.idle
      ∙ ap (λ (b : Bool). if b then (if is_surveyed d.guard.registers course.survey d.guard.host then Ok None
      else Err (NotKnown (Out course.survey.output (selected_register byte)))) else Ok (Some switch)) (operation-known course d on free)
      ∙ go (held_byte d == byte) refl
    where
      surveyed : held_byte d ≡ byte → is_surveyed d.guard.registers course.survey d.guard.host ≡ true
      surveyed same = ap₂ (λ (o : Option Job) (b : Bool). is_none o && not b) free
          (unstuck d.guard d.held course.survey 7 (as-at course.survey d.guard d.held on.spare (most_for (held_byte d)) on.here) nothing
          (ap wanted_in on.here.none) free refl
          (ap₂ (λ (p : PartRegisters) (o : ℕ). has_register p (selected_register (output_words_of d.held o Operation))) on.part_is on.own
          ∙ ap (λ (w : ℕ). has_register old.guard.registers (selected_register w)) same ∙ chosen_there))

      go : (b : Bool) → (held_byte d == byte) ≡ b →
          (if b then (if is_surveyed d.guard.registers course.survey d.guard.host then Ok None
          else Err (NotKnown (Out course.survey.output (selected_register byte)))) else Ok (Some switch)) ≡ due_order b
      go true e = ap (λ (b : Bool). if b then Ok None else Err (NotKnown (Out course.survey.output (selected_register byte))))
          (surveyed (grind (arith, nat_tests)))
      go false e = refl

  -- the course as it is asked
  renewed-way : (course : Course) (d : Pair) → OnByte course d →
      OnByte (renewed d.guard.registers (limits_at d.guard course.survey.output) d.guard.host course) d
  renewed-way course d on = go (is_carried_out d.guard.registers (limits_at d.guard course.survey.output) d.guard.host course) refl where
    begun : Here (once_more course).survey d.guard d.held on.spare (most_for (held_byte d))
        × (set_need (set_for (held_byte d)) (once_more course).survey d.guard.host ≤ most_for (held_byte d) + 1)
    begun = begins-here (once_more course).survey d.guard d.held on.spare (most_for (held_byte d))
        (set_for (held_byte d)) (few-for (held_byte d))
        on.here.idle on.here.there on.here.none on.here.format on.here.tells.whole (quiet on.here.tells.calm) refl
      where
        quiet : (Calm d.guard.host.known course.survey.output d.held.words
            × (stray d.guard.host.known course.survey.output course.survey.read ≤ on.spare))
            ⊎ (most_for (held_byte d) + 1 + stray d.guard.host.known course.survey.output course.survey.read ≤ on.spare) →
            Calm d.guard.host.known course.survey.output d.held.words ⊎ (most_for (held_byte d) + 1 ≤ on.spare)
        quiet (inl (calm, few)) = inl calm
        quiet (inr few) = inr (omega arith)

    again : Enough course d on.spare → course.ordered ≡ true → Enough (once_more course) d on.spare
    again (inl (same, ordered, few)) is =
        let five = begun.1 in
        let four-is : most_for (held_byte d) ≡ 4 = ap size_for same in
        inr (inl (same, refl, omega arith))
    again (inr (inl (same, unordered, few))) is = let bad = sym is ∙ unordered in cc
    again (inr (inr (other, unordered, kept, few))) is = let bad = sym is ∙ unordered in cc

    go : (b : Bool) → is_carried_out d.guard.registers (limits_at d.guard course.survey.output) d.guard.host course ≡ b →
        OnByte (if b then once_more course else course) d
    go false e = on
    go true e = record {
      spare = on.spare;
      here = begun.0;
      own = on.own;
      byte_is = on.byte_is;
      once = on.once;
      part_is = on.part_is;
      limits_are = on.limits_are;
      setup_is = on.setup_is;
      made = on.made;
      others = on.others;
      enough = again on.enough (first-of course.ordered _ e);
      lived = on.lived;
    }

  -- ---- Each job ----

  abbrev is_byte : Pair → Bool
  is_byte d = held_byte d == byte

  -- the course as it is asked, and the order of the byte
  abbrev asked-now : Course → Pair → Course
  asked-now course d = renewed d.guard.registers (limits_at d.guard course.survey.output) d.guard.host course

  abbrev order-of : Course → Job
  order-of course = Order (Out course.survey.output Operation) byte

  -- what is said, once the survey asks for nothing, and while it asks for a job
  ordered-by : (course : Course) (d : Pair) → OnByte course d → (limits : OutputLimits) →
      due_job d.guard.registers course.survey d.guard.host ≡ None →
      says d.guard.registers limits d.guard.host course ≡ ordering course (due_order (is_byte d))
  ordered-by course d on limits free =
      says-byte course d on limits
      ∙ ap (λ (o : Option Job). survey_or_order d.guard.registers limits d.guard.host course o) free
      ∙ ap (ordering course) (order-held course d on limits free)

  asks-by : (course : Course) (d : Pair) → OnByte course d → (limits : OutputLimits) (job : Job) →
      due_job d.guard.registers course.survey d.guard.host ≡ Some job →
      says d.guard.registers limits d.guard.host course ≡ taking course job
  asks-by course d on limits job due =
      says-byte course d on limits
      ∙ ap (λ (o : Option Job). survey_or_order d.guard.registers limits d.guard.host course o) due

  -- a job that is named: one of the survey, or the order of the byte while OPERATION holds another
  data Named (course : Course) (d : Pair) (job : Job) : Type 0 where
    reads : (course.survey.left == 0) ≡ false → due_job d.guard.registers course.survey d.guard.host ≡ Some job → Named course d job
    orders : (course.survey.left == 0) ≡ false → due_job d.guard.registers course.survey d.guard.host ≡ None → is_byte d ≡ false →
        order-of course ≡ job → Named course d job

  named : (course : Course) (d : Pair) (job : Job) → OnByte course d → (limits : OutputLimits) →
      says d.guard.registers limits d.guard.host course ≡ next.Job job → Named course d job
  named course d job on limits is = go (due_job d.guard.registers course.survey d.guard.host) refl where
    go : (o : Option Job) → due_job d.guard.registers course.survey d.guard.host ≡ o → Named course d job
    go (Some j) due =
        let t = taken course j job (sym (asks-by course d on limits j due) ∙ is) in
        reads t.0 (due ∙ ap (λ (x : Job). Some x) t.1)
    go None free = by (is_byte d) refl (sym (ordered-by course d on limits free) ∙ is) where
      by : (b : Bool) → is_byte d ≡ b → ordering course (due_order b) ≡ next.Job job → Named course d job
      by true e h = cc
      by false e h = let t = taken course (order-of course) job h in orders t.0 free e t.1

  -- no order is named of a course that gave one since its survey began
  unordered : (course : Course) (d : Pair) → OnByte course d → is_byte d ≡ false → course.ordered ≡ false
  unordered course d on other = go on.enough where
    go : Enough course d on.spare → course.ordered ≡ false
    go (inl (same, ordered, few)) = let bad = sym same ∙ other in cc
    go (inr (inl (same, none, few))) = none
    go (inr (inr (is, none, kept, few))) = none

  -- what is held of the cells that it reads is one that they take
  accepted-now : (course : Course) (d : Pair) (p : Option Reg) → OnByte course d →
      cell_accepts (cell_of course.survey.output p) (word_at d.held.words (cell_of course.survey.output p)) ≡ true
  accepted-now course d p on = accepts laws.origin (cell_of course.survey.output p) on.lived
      (in-range course.survey.output p on.lived on.here.there).1

  -- OPERATION isn't known to hold a byte that its cell doesn't take
  none-untaken : (course : Course) (d : Pair) → OnByte course d → source_in d.guard.host course ≡ None
  none-untaken course d on = go course.survey.read.operation refl where
    go : (b : Bool) → course.survey.read.operation ≡ b → (if b then untaken_at d.guard.host course.survey.output else None) ≡ None
    go false e = refl
    go true e = sole-taken (Out course.survey.output Operation) (output_words_of d.held course.survey.output Operation)
        (possible_at d.guard.host (Out course.survey.output Operation)) (on.here.tells.may (Some Operation) e)
        (accepted-now course d (Some Operation) on)

  unturned : (course : Course) (d : Pair) (o : ℕ) (r : Reg) → OnByte course d → is_turning d.guard.host course (Check (Out o r)) ≡ false
  unturned course d o Operation on = ap is_some (none-untaken course d on)
  unturned course d o VoutCommand on = refl
  unturned course d o VoutMax on = refl
  unturned course d o MarginHigh on = refl
  unturned course d o MarginLow on = refl
  unturned course d o VoutMin on = refl

  -- a job of the survey is asked for as it is
  survey-asked : (course r : Course) (d : Pair) (j job : Job) → OnByte course d →
      PowerKind r.survey d.guard.host (format_at d.guard.host r.survey.output) (selected_register (byte_of r.survey d.held)) j →
      asked_for d.guard.host course (Some byte) j ≡ Ok job → j ≡ job
  survey-asked course r d j job on kind is = one (sym same ∙ is) where
    off : (k : Job) → PowerKind r.survey d.guard.host (format_at d.guard.host r.survey.output)
        (selected_register (byte_of r.survey d.held)) k →
        is_turning d.guard.host course k ≡ false
    off k (learns why) = refl
    off k (checks q why) = unturned course d r.survey.output q on

    same : asked_for d.guard.host course (Some byte) j ≡ Ok j
    same = ap₂ (λ (a b : Bool). if a && b then turning course byte (protect_in d.guard.host course) else Ok j) turns_on (off j kind)

    one : ◌≡◌ {A = Result Job Refusal} (Ok j) (Ok job) → j ≡ job
    one e = cc

  never-refused : (course r : Course) (d : Pair) (j : Job) (refusal : Refusal) → OnByte course d →
      PowerKind r.survey d.guard.host (format_at d.guard.host r.survey.output) (selected_register (byte_of r.survey d.held)) j →
      asked_for d.guard.host course (Some byte) j ≡ Err refusal → ⊥
  never-refused course r d j refusal on kind is = bad (sym (same j kind) ∙ is) where
    same : (k : Job) → PowerKind r.survey d.guard.host (format_at d.guard.host r.survey.output)
        (selected_register (byte_of r.survey d.held)) k →
        asked_for d.guard.host course (Some byte) k ≡ Ok k
    same k (learns why) = ap (λ (a : Bool). if a && false then turning course byte (protect_in d.guard.host course) else Ok k) turns_on
    same k (checks q why) = ap₂ (λ (a b : Bool). if a && b then turning course byte (protect_in d.guard.host course) else Ok k) turns_on
        (unturned course d r.survey.output q on)

    bad : ◌≡◌ {A = Result Job Refusal} (Ok j) (Err refusal) → ⊥
    bad e = cc

  -- what is asked for in the place of the order: a check of WRITE_PROTECT or of the register that the byte selects; or it is the order
  data Turn (course : Course) (d : Pair) (job : Job) : Type 0 where
    protects : Check Protect ≡ job →
        (course.survey.read.protect ≡ true → is_none (known_word Protect (possible_at d.guard.host Protect)) ≡ true) → Turn course d job
    selects : Check (Out course.survey.output target) ≡ job → has_read course.survey.read target ≡ false → Turn course d job
    turns : order-of course ≡ job → Turn course d job

  -- the word that is known of WRITE_PROTECT is held, and allows the order
  protect-allows : (course : Course) (d : Pair) (protect : ℕ) → OnByte course d → protect_in d.guard.host course ≡ Some protect →
      is_allowed protect (register_code Operation) ≡ true
  protect-allows course d protect on is = go course.survey.read.protect refl is where
    one : (x : ℕ) → known_word Protect (only (word_at d.held.words Protect)) ≡ Some x → word_at d.held.words Protect ≡ x
    one x k = by (cell_accepts Protect (word_at d.held.words Protect)) k where
      by : (b : Bool) → rule b (word_at d.held.words Protect) ≡ Some x → word_at d.held.words Protect ≡ x
      by true m = cc
      by false m = cc

    go : (b : Bool) → course.survey.read.protect ≡ b →
        (if b then known_word Protect (possible_at d.guard.host Protect) else None) ≡ Some protect →
        is_allowed protect (register_code Operation) ≡ true
    go false e k = cc
    go true e k =
        let held = true-of (as-knows on.here.tells) None e (ap is_some k) in
        let word = one protect (sym (ap (known_word Protect) held) ∙ k) in
        subst (λ (w : ℕ). is_allowed w (register_code Operation) ≡ true)
        (sym (on.others Protect (λ same. cc) tt) ∙ word) allowed

  turn-of : (course : Course) (d : Pair) (job : Job) → OnByte course d → turning course byte (protect_in d.guard.host course) ≡ Ok job →
      Turn course d job
  turn-of course d job on is = go (protect_in d.guard.host course) refl is where
    lost : (b : Bool) (o : Option ℕ) → (if b then o else None) ≡ None → b ≡ true → is_none o ≡ true
    lost true None e h = refl
    lost true (Some w) e h = cc
    lost false o e h = cc

    by : (read : Bool) → has_read course.survey.read target ≡ read →
        ◌≡◌ {A = Result Job Refusal} (Ok (if read then order-of course else Check (Out course.survey.output target))) (Ok job) →
        Turn course d job
    by true e h = let same : order-of course ≡ job = cc in turns same
    by false e h = let same : Check (Out course.survey.output target) ≡ job = cc in selects same e

    allowing : (a : Bool) → (if a then Ok (turn course byte) else Err (refusal_of_plan (Protected Operation))) ≡ Ok job → Turn course d job
    allowing true h = by (has_read course.survey.read target) refl h
    allowing false h = cc

    go : (p : Option ℕ) → protect_in d.guard.host course ≡ p → turning course byte p ≡ Ok job → Turn course d job
    go None e h = let same : Check Protect ≡ job = cc in
        protects same (lost course.survey.read.protect (known_word Protect (possible_at d.guard.host Protect)) e)
    go (Some protect) e h = allowing (is_allowed protect (register_code Operation)) h

  turn-allowed : (course : Course) (d : Pair) (refusal : Refusal) → OnByte course d →
      turning course byte (protect_in d.guard.host course) ≡ Err refusal → ⊥
  turn-allowed course d refusal on is = go (protect_in d.guard.host course) refl is where
    allowing : (a : Bool) → a ≡ true → (if a then Ok (turn course byte) else Err (refusal_of_plan (Protected Operation))) ≡ Err refusal → ⊥
    allowing true e h = cc
    allowing false e h = cc

    go : (p : Option ℕ) → protect_in d.guard.host course ≡ p → turning course byte p ≡ Err refusal → ⊥
    go None e h = cc
    go (Some protect) e h = allowing (is_allowed protect (register_code Operation)) (protect-allows course d protect on e) h

  -- the order is turned
  order-turned : (course : Course) (d : Pair) → asked_for d.guard.host course (Some byte) (order-of course)
      ≡ turning course byte (protect_in d.guard.host course)
  order-turned course d = ap (λ (a : Bool). if a && true then turning course byte (protect_in d.guard.host course)
      else Ok (order-of course)) turns_on

  -- ---- What each leaves ----

  -- a job of the survey
  read-way : (course : Course) (before new : Pair) (j : Job) (end : JobEnd) (again : Bool) → OnByte course before →
      (course.survey.left == 0) ≡ false → due_job before.guard.registers course.survey before.guard.host ≡ Some j → (p : Option Wanted) →
      course.survey.plan ≡ p → Step j end before new → (again ≡ true → is_surprised j before ≡ true) → (o : Bool) →
      OnByte (forgotten again (told_of (record (naming course (next.Job j)) {
        survey = record (asking course.survey (Some j)) { plan = p };
        ordered = is_order j || (if is_order j then o else (course.ordered || is_order j));
      }) end)) new
  read-way course before new j end again on left due p plan runs sur o =
      subst (λ (q : Option Wanted). OnByte (forgotten again (told_of (record (naming course (next.Job j)) {
        survey = record (asking course.survey (Some j)) { plan = q };
        ordered = is_order j || (if is_order j then o else (course.ordered || is_order j));
      }) end)) new) plan
      (by j (power-kind before.guard.registers course.survey before.guard.host (byte_of course.survey before.held) on.here.none
      (operation-of on.here) j due) (asks-due before.guard.registers course.survey before.guard.host j left due) runs sur)
    where
      by : (k : Job) → PowerKind course.survey before.guard.host (format_at before.guard.host course.survey.output)
          (selected_register (byte_of course.survey before.held)) k → asks_in course.survey before.guard ≡ Some k → Step k end before new →
          (again ≡ true → is_surprised k before ≡ true) →
          OnByte (forgotten again (told_of (record (naming course (next.Job k)) {
            survey = record (asking course.survey (Some k)) { plan = course.survey.plan };
            ordered = is_order k || (if is_order k then o else (course.ordered || is_order k));
          }) end)) new
      by k (learns why) asks does s = on-step course before new (surveyed_by course.survey k end) k end again on
          (asked-output course.survey k end)
          (byte-step laws (set_for (held_byte before)) (most_for (held_byte before))
          (few-for (held_byte before)) course.survey before new k end
          on.spare on.lived (own-within course.survey before on.own) on.here asks does) does s
      by k (checks r why) asks does s = on-step course before new (surveyed_by course.survey k end) k end again on
          (asked-output course.survey k end)
          (byte-step laws (set_for (held_byte before)) (most_for (held_byte before))
          (few-for (held_byte before)) course.survey before new k end
          on.spare on.lived (own-within course.survey before on.own) on.here asks does) does s

  -- a check in the place of the order
  turned-way : (course : Course) (before new : Pair) (p : Option Reg) (end : JobEnd) (again : Bool) → OnByte course before →
      (course.survey.left == 0) ≡ false → is_byte before ≡ false → turns_by target p ≡ true →
      (has_at course.survey.read p ≡ true →
      is_none (known_word (cell_of course.survey.output p) (known_possible before.guard.host.known
      (cell_of course.survey.output p))) ≡ true) →
      Step (Check (cell_of course.survey.output p)) end before new →
      (again ≡ true → is_surprised (Check (cell_of course.survey.output p)) before ≡ true) →
      OnByte (forgotten again (record course {
        survey = surveyed_by course.survey (Check (cell_of course.survey.output p)) end;
        ordered = course.ordered || false;
      })) new
  turned-way course before new p end again on left other set lost runs sur =
      on-step course before new (surveyed_by course.survey (Check (cell_of course.survey.output p)) end)
      (Check (cell_of course.survey.output p)) end again on (asked-output course.survey (Check (cell_of course.survey.output p)) end)
      (checked laws (set_for (held_byte before)) (most_for (held_byte before)) (few-for (held_byte before))
      course.survey before new p end on.spare
      on.lived on.here (grind (arith, nat_tests)) lost
      (inl (or_right (matters (selected_register (held_byte before)) p) _ (ap₂ (λ (a b : Bool). not a && b) other set))) runs) runs sur

  -- the order
  order-way : (course : Course) (before new : Pair) (end : JobEnd) → OnByte course before → (course.survey.left == 0) ≡ false →
      is_byte before ≡ false → Step (order-of course) end before new →
      OnByte (record course {
        survey = record course.survey { asked = None; left = course.survey.left - 1 };
        ordered = true;
        done = true;
      }) new × (end ≡ Done)
  order-way course before new end on left other runs = (
    record {
      spare = on.spare;
      here = subst (λ (w : ℕ). Here after new.guard new.held on.spare (most_for w)) (sym takes)
          (subst (λ (b : Bool). Here after new.guard new.held on.spare (size_for b)) (sym itself) (record {
            idle = ap is_some is.idle;
            there = subst (λ (s : accepted.Setup). course.survey.output < s.outputs) (sym runs.kept) on.here.there;
            none = on.here.none;
            format = λ shape known'. on.here.format shape (same-format course.survey.output is.formats known')
                ∙ ap (λ (c : Config). shape_for c course.survey.output) (sym is.config);
            tells = subst (λ (k : Known). Tells course.survey.output course.survey.read k new.held.words on.spare 4) (sym is.known)
                (tells 4 (omega arith));
          }));
      own = on.own;
      byte_is = on.byte_is;
      once = on.once;
      part_is = runs.registers ∙ on.part_is;
      limits_are = runs.limits ∙ on.limits_are;
      setup_is = runs.kept ∙ on.setup_is;
      made = is.config ∙ on.made;
      others = λ one two there. is.others one (λ same. two (same ∙ ap (λ (o : ℕ). Out o Operation) on.own))
          (subst (λ (s : accepted.Setup). IsCell s.outputs one) (sym on.setup_is) there) ∙ on.others one two there;
      enough = enough on.enough;
      lived = runs.lived;
    },
    is.done,
  )
    where
      after : Survey
      after = record course.survey { asked = None; left = course.survey.left - 1 }

      own-word : output_words_of before.held course.survey.output Operation ≡ held_byte before
      own-word = ap (λ (o : ℕ). output_words_of before.held o Operation) on.own

      is : IsOrdered (Out course.survey.output Operation) byte before end new
      is = runs.did (subst (λ (w : ℕ). is_allowed w (cell_code (Out course.survey.output Operation)) ≡ true)
          (sym (on.others Protect (λ same. cc) tt)) allowed)

      takes : held_byte new ≡ byte
      takes = ap (λ (o : ℕ). output_words_of new.held o Operation) (sym on.own) ∙ is.takes

      itself : (byte == byte) ≡ true
      itself = eq-eqb byte byte refl

      same-format : (output : ℕ) {o : Option Shape} → new.guard.host.formats ≡ before.guard.host.formats →
          format_at new.guard.host output ≡ o → format_at before.guard.host output ≡ o
      same-format output same is = ap (λ (l : List (Option Shape)). slice_index_or l output None) (sym same) ∙ is

      differs : (q : Option Reg) → same_place (Some Operation) q ≡ false →
          cell_of course.survey.output q ≢ Out course.survey.output Operation
      differs q two same = two-cells laws.apart course.survey.output (Some Operation) q two (sym same)

      there' : (q : Option Reg) → IsCell before.guard.host.setup.outputs (cell_of course.survey.output q)
      there' (Some x) = on.here.there
      there' None = tt

      range : (course.survey.output < 8) × IsCell on.lived.config.count (cell_of course.survey.output (Some Operation))
      range = in-range course.survey.output (Some Operation) on.lived on.here.there

      taken' : cell_accepts (Out course.survey.output Operation) byte ≡ true
      taken' = ap (λ (w : ℕ). cell_accepts (Out course.survey.output Operation) w) (sym is.takes)
          ∙ accepts laws.origin (Out course.survey.output Operation) runs.lived (in-range course.survey.output (Some Operation) runs.lived
          (subst (λ (s : accepted.Setup). course.survey.output < s.outputs) (sym runs.kept) on.here.there)).1

      others-stay : (q : Option Reg) → same_place (Some Operation) q ≡ false →
          word_at new.held.words (cell_of course.survey.output q) ≡ word_at before.held.words (cell_of course.survey.output q)
      others-stay q two = is.others (cell_of course.survey.output q) (differs q two) (there' q)

      six : Tells course.survey.output course.survey.read before.guard.host.known before.held.words on.spare 6
      six = subst (λ (b : Bool). Tells course.survey.output course.survey.read before.guard.host.known
          before.held.words on.spare (size_for b))
          other on.here.tells

      tells : (fewer : ℕ) → fewer ≤ 6 → Tells course.survey.output course.survey.read (known_after (known_after before.guard.host.known
          (Put (Out course.survey.output Operation) byte)) (Good (Out course.survey.output Operation) byte)) new.held.words on.spare fewer
      tells fewer less = order-tells laws.apart laws.places course.survey.output range.0 course.survey.read before.guard.host.known
          before.held.words new.held.words on.spare 6 six byte taken' is.takes others-stay fewer less

      few : left_of (cells_for true target target) new.guard.host.known course.survey.output course.survey.read
          ≤ left_of (cells_for false (selected_register (held_byte before)) target) before.guard.host.known
          course.survey.output course.survey.read
      few = subst (λ (k : Known). left_of (cells_for true target target) k course.survey.output course.survey.read
          ≤ left_of (cells_for false (selected_register (held_byte before)) target) before.guard.host.known
          course.survey.output course.survey.read)
          (sym is.known)
          (order-left laws.apart laws.places course.survey.output range.0 course.survey.read before.guard.host.known
          before.held.words new.held.words on.spare 6 six byte taken' is.takes others-stay (selected_register (held_byte before)))

      learned : ◌≡◌ {A = ℕ} (cond (is_learned course.survey new.guard.host) 0 1) (cond (is_learned course.survey before.guard.host) 0 1)
      learned = ap (λ (l : List (Option Shape)). cond {A = ℕ} (course.survey.learned
          && is_some (slice_index_or l course.survey.output None)) 0 1) is.formats

      enough : Enough course before on.spare → Enough (record course { survey = after; ordered = true; done = true }) new on.spare
      enough (inl (same, ordered, many)) = let bad = sym same ∙ other in cc
      enough (inr (inl (same, unordered', many))) = let bad = sym same ∙ other in cc
      enough (inr (inr (different, unordered', kept, many))) =
          let less = few in
          let l = learned in
          let many' = subst (λ (b : Bool). cond (is_learned course.survey before.guard.host) 0 1
          + left_of (cells_for b (selected_register (held_byte before)) target) before.guard.host.known
          course.survey.output course.survey.read
          + on.spare + 6 + extra ≤ course.survey.left) other many in
          inl (
            ap (λ (w : ℕ). w == byte) takes ∙ itself,
            refl,
            subst (λ (w : ℕ). set_need (set_for w) after new.guard.host + on.spare + 5 + extra ≤ after.left) (sym takes)
                (subst (λ (b : Bool). set_need (cells_for b target target) after
                new.guard.host + on.spare + 5 + extra ≤ after.left) (sym itself)
                (omega arith)),
          )

  -- ---- All of them ----

  -- what a course is then, by the job that it asked for
  abbrev course-then : Course → Course → Job → Job → JobEnd → Bool → Course
  course-then course r named job end again = forgotten again (told_of (asking_for course (naming r (next.Job named)) named job) end)

  beside-false : (b : Bool) → b ≡ (b || false)
  beside-false true = refl
  beside-false false = refl

  -- the job in the place of the order
  order-asked : (course : Course) (before new : Pair) (job : Job) (end : JobEnd) (again : Bool) → OnByte course before →
      (course.survey.left == 0) ≡ false → is_byte before ≡ false → Turn course before job → Step job end before new →
      (again ≡ true → is_surprised job before ≡ true) → OnByte (course-then course course (order-of course) job end again) new
  order-asked course before new job end again on left other (protects is lost) runs sur =
      subst (λ (j : Job). OnByte (course-then course course (order-of course) j end again) new) is
      (same-way (forgotten again (record course {
        survey = surveyed_by course.survey (Check Protect) end;
        ordered = course.ordered || false;
      })) (course-then course course (order-of course) (Check Protect) end again) new refl (beside-false course.ordered) refl refl
      (turned-way course before new None end again on left other (or_right (same_place (Some target) None) true refl) lost
      (subst (λ (j : Job). Step j end before new) (sym is) runs) (λ e. ap (λ (j : Job). is_surprised j before) is ∙ sur e)))
  order-asked course before new job end again on left other (selects is unread) runs sur =
      subst (λ (j : Job). OnByte (course-then course course (order-of course) j end again) new) is
      (same-way (forgotten again (record course {
        survey = surveyed_by course.survey (Check (Out course.survey.output target)) end;
        ordered = course.ordered || false;
      })) (course-then course course (order-of course) (Check (Out course.survey.output target)) end again) new
      refl (beside-false course.ordered)
      refl refl
      (turned-way course before new (Some target) end again on left other (or_left (same_place (Some target) (Some target)) false
      (same-itself (Some target))) (λ read. let bad = sym read ∙ unread in cc)
      (subst (λ (j : Job). Step j end before new) (sym is) runs) (λ e. ap (λ (j : Job). is_surprised j before) is ∙ sur e)))
  order-asked course before new job end again on left other (turns is) runs sur =
      subst (λ (j : Job). OnByte (course-then course course (order-of course) j end again) new) is (by again (λ e. ap (λ (j : Job).
      is_surprised j before) is ∙ sur e))
    where
      ran : OnByte (record course {
        survey = record course.survey { asked = None; left = course.survey.left - 1 };
        ordered = true;
        done = true;
      }) new × (end ≡ Done)
      ran = order-way course before new end on left other (subst (λ (j : Job). Step j end before new) (sym is) runs)

      by : (b : Bool) → (b ≡ true → is_surprised (order-of course) before ≡ true) →
          OnByte (course-then course course (order-of course) (order-of course) end b) new
      by true e = let bad = e refl in cc
      by false e = subst (λ (k : JobEnd). OnByte (course-then course course (order-of course) (order-of course) k false) new) (sym ran.1)
          (same-way (record course {
            survey = record course.survey { asked = None; left = course.survey.left - 1 };
            ordered = true;
            done = true;
          }) (course-then course course (order-of course) (order-of course) Done false) new refl refl refl refl ran.0)

  -- the order is named of a course that isn't asked anew
  not-renewed : (course : Course) (d : Pair) → OnByte course d → is_byte d ≡ false → asked-now course d ≡ course
  not-renewed course d on other =
      renewed-none d.guard.registers (limits_at d.guard course.survey.output) d.guard.host course (unordered course d on other)

  step-way : (course : Course) (before new : Pair) (j job : Job) (end : JobEnd) (again : Bool) → OnByte course before →
      next_by before.guard course ≡ next.Job j → asked_for before.guard.host course (Some byte) j ≡ Ok job → Step job end before new →
      (again ≡ true → is_surprised job before ≡ true) →
      OnByte (forgotten again (told_of (asking_for course (after_by before.guard course) j job) end)) new
  step-way course before new j job end again on names asks runs sur =
      subst (λ (n : Next). OnByte (forgotten again (told_of (asking_for course (naming (asked-now course before) n) j job) end)) new)
      (sym names)
      (go (named (asked-now course before) before j way (limits_at before.guard course.survey.output) names))
    where
      way : OnByte (asked-now course before) before
      way = renewed-way course before on

      go : Named (asked-now course before) before j → OnByte (course-then course (asked-now course before) j job end again) new
      go (reads left due) =
          let same = survey-asked course (asked-now course before) before j job on
          (power-kind before.guard.registers (asked-now course before).survey
          before.guard.host (byte_of (asked-now course before).survey before.held) way.here.none (operation-of way.here) j due) asks in
          subst (λ (k : Job). OnByte (course-then course (asked-now course before) j k end again) new) same
          (read-way (asked-now course before) before new j end again way left due course.survey.plan
          (renewed-so (λ (c : Course). c.survey.plan ≡ course.survey.plan) before.guard.registers
          (limits_at before.guard course.survey.output)
          before.guard.host course refl refl)
          (subst (λ (k : Job). Step k end before new) (sym same) runs)
          (λ e. ap (λ (k : Job). is_surprised k before) same ∙ sur e) course.ordered)
      go (orders left free other is) =
          let same = not-renewed course before on other in
          subst (λ (r : Course). OnByte (course-then course r j job end again) new) (sym same)
          (subst (λ (k : Job). OnByte (course-then course course k job end again) new) (of-course is)
          (order-asked course before new job end again on (subst (λ (r : Course). (r.survey.left == 0) ≡ false) same left) other
          (turn-of course before job on (sym (order-turned course before)
          ∙ (ap (λ (k : Job). asked_for before.guard.host course (Some byte) k) (of-course is) ∙ asks))) runs sur))
        where
          of-course : order-of (asked-now course before) ≡ j → order-of course ≡ j
          of-course is = ap (λ (r : Course). order-of r) (sym (not-renewed course before on other)) ∙ is

  all-way : (begun : Course) (first : Pair) → OnByte begun first → (course : Course) (d : Pair) (n : ℕ) →
      ByteChain byte begun first course d n →
      OnByte course d
  all-way begun first on course d n none_yet = on
  all-way begun first on course d n (one_on before named job end middle last m again chain names asks does sur) =
      step-way before middle last named job end again (all-way begun first on before middle m chain) names asks does sur

  -- ---- The end ----

  none-zero : (n : ℕ) → (n == 0) ≡ true → n ≡ 0
  none-zero n h = grind (arith, nat_tests)

  -- tries are left while a job is due, or the order
  never-spent : (course : Course) (d : Pair) → (on : OnByte course d) → course.survey.left ≤ extra →
      (due_job d.guard.registers course.survey d.guard.host ≡ None → ⊥) ⊎ (is_byte d ≡ false) → ⊥
  never-spent course d on empty due = go on.enough due where
    free : need_of course d ≡ 0 → on.spare ≡ 0 → due_job d.guard.registers course.survey d.guard.host ≡ None
    free need spare = nothing-here course.survey d.guard d.held on.spare (most_for (held_byte d)) (set_for (held_byte d))
        (own-within course.survey d on.own) on.here need spare

    go : Enough course d on.spare → (due_job d.guard.registers course.survey d.guard.host ≡ None → ⊥) ⊎ (is_byte d ≡ false) → ⊥
    go (inl (same, ordered, few)) which = omega arith
    go (inr (inl (same, none, few))) (inl never) = never (free (omega arith) (omega arith))
    go (inr (inl (same, none, few))) (inr other) = let bad = sym same ∙ other in cc
    go (inr (inr (other, none, kept, few))) which = omega arith

  -- one try more is left than is to spare where a job is named
  left-named : (course : Course) (d : Pair) (job : Job) → OnByte course d → Named course d job → extra + 1 ≤ course.survey.left
  left-named course d job on is = go (compare course.survey.left extra) is where
    go : (course.survey.left ≤ extra) ⊎ (extra + 1 ≤ course.survey.left) → Named course d job → extra + 1 ≤ course.survey.left
    go (inr more) n = more
    go (inl few) (reads left due) = absurd (never-spent course d on few (inl (λ free. let bad : Some job ≡ None = sym due ∙ free in cc)))
    go (inl few) (orders left free other same) = absurd (never-spent course d on few (inr other))

    compare : (a b : ℕ) → (a ≤ b) ⊎ (b + 1 ≤ a)
    compare a b = by (nat_lt b a) refl where
      by : (t : Bool) → nat_lt b a ≡ t → (a ≤ b) ⊎ (b + 1 ≤ a)
      by true e = inr (grind (arith, nat_tests))
      by false e = inl (grind (arith, nat_tests))

  end-way : (course : Course) (d : Pair) (end : ApplyEnd) → OnByte course d → (limits : OutputLimits) →
      says d.guard.registers limits d.guard.host course ≡ Ended end → (end ≡ Reached) × (held_byte d ≡ byte)
  end-way course d end on limits is = go (due_job d.guard.registers course.survey d.guard.host) refl where
    go : (o : Option Job) → due_job d.guard.registers course.survey d.guard.host ≡ o → (end ≡ Reached) × (held_byte d ≡ byte)
    go (Some j) due = by (course.survey.left == 0) refl (sym (asks-by course d on limits j due) ∙ is) where
      by : (b : Bool) → (course.survey.left == 0) ≡ b → (if b then Ended (Stopped (Spent j)) else next.Job j) ≡ Ended end →
          (end ≡ Reached) × (held_byte d ≡ byte)
      by true empty e = absurd (never-spent course d on (let zero_left = none-zero course.survey.left empty in omega arith)
          (inl (λ free. let bad : Some j ≡ None = sym due ∙ free in cc)))
      by false empty e = cc
    go None free = by (is_byte d) refl (sym (ordered-by course d on limits free) ∙ is) where
      spent : (b : Bool) → (course.survey.left == 0) ≡ b → is_byte d ≡ false →
          (if b then Ended (Stopped (Spent (order-of course))) else next.Job (order-of course)) ≡ Ended end →
          (end ≡ Reached) × (held_byte d ≡ byte)
      spent true empty other e = absurd (never-spent course d on (let zero_left =
          none-zero course.survey.left empty in omega arith) (inr other))
      spent false empty other e = cc

      by : (b : Bool) → is_byte d ≡ b → ordering course (due_order b) ≡ Ended end → (end ≡ Reached) × (held_byte d ≡ byte)
      by true e h =
          let same : Reached ≡ end = cc in
          (sym same, grind (arith, nat_tests))
      by false e h = spent (course.survey.left == 0) refl e h

  -- ---- What it asks for ----

  renewed-left : (course : Course) (d : Pair) → (asked-now course d).survey.left ≡ course.survey.left
  renewed-left course d = renewed-so (λ (c : Course). c.survey.left ≡ course.survey.left) d.guard.registers
      (limits_at d.guard course.survey.output) d.guard.host course refl refl

  no-order : (v : Survey) (s : Summary) (format : Option Shape) (chosen : Reg) (job : Job) → PowerKind v s format chosen job → (d : Pair) →
      (cell : Cell) (word : ℕ) → job ≡ Order cell word → is_allowed (word_at d.held.words Protect) (cell_code cell) ≡ true
  no-order v s format chosen job (learns why) d cell word is = cc
  no-order v s format chosen job (checks r why) d cell word is = cc

  asked-so : (course : Course) (d : Pair) (j job : Job) → OnByte course d → Named (asked-now course d) d j →
      asked_for d.guard.host course (Some byte) j ≡ Ok job → IsAskedFor output byte old d job
  asked-so course d j job on (reads left due) asks =
      let way = renewed-way course d on in
      let kind = power-kind d.guard.registers (asked-now course d).survey d.guard.host (byte_of (asked-now course d).survey d.held)
      way.here.none (operation-of way.here) j due in
      subst (λ (k : Job). IsAskedFor output byte old d k) (survey-asked course (asked-now course d) d j job on kind asks) (record {
        allowed = no-order _ _ _ _ j kind d;
        free = inl (asked-free (asked-now course d).survey d.guard j way.here.idle way.here.there
            (asks-due d.guard.registers (asked-now course d).survey d.guard.host j left due));
      })
  asked-so course d j job on (orders left free other is) asks =
      by (turn-of course d job on (sym (order-turned course d)
      ∙ (ap (λ (k : Job). asked_for d.guard.host course (Some byte) k) (ap (λ (r : Course). order-of r) (sym same) ∙ is) ∙ asks)))
    where
      same : asked-now course d ≡ course
      same = not-renewed course d on other

      there : output < d.guard.host.setup.outputs
      there = subst (λ (o : ℕ). o < d.guard.host.setup.outputs) on.own on.here.there

      had : has_register d.guard.registers target ≡ true
      had = ap (λ (p : PartRegisters). has_register p target) on.part_is ∙ chosen_there

      kept : d.held.words ≡ old.held.words
      kept = go on.enough where
        go : Enough course d on.spare → d.held.words ≡ old.held.words
        go (inl (done, ordered, few)) = let bad = sym done ∙ other in cc
        go (inr (inl (done, none, few))) = let bad = sym done ∙ other in cc
        go (inr (inr (not-done, none, words, few))) = words

      ordered : IsAskedFor output byte old d (Order (Out output Operation) byte)
      ordered = record {
        allowed = λ cell word e.
            let code : cell_code (Out output Operation) ≡ cell_code cell = ap cell-of e in
            subst (λ (c : ℕ). is_allowed (word_at d.held.words Protect) c ≡ true) code
            (subst (λ (w : ℕ). is_allowed w (cell_code (Out output Operation)) ≡ true) (sym (on.others Protect (λ e'. cc) tt)) allowed);
        free = go (guard_fault d.guard (Order (Out output Operation) byte)) refl;
      }
        where
          cell-of : Job → ℕ
          cell-of (Order cell word) = cell_code cell
          cell-of k = 0

          known : possible_at d.guard.host (Out output Operation) ≡ only (held_byte d)
          known = subst (λ (o : ℕ). possible_at d.guard.host (Out o Operation) ≡ only (output_words_of d.held o Operation)) on.own
              (operation-only course d on (subst (λ (r : Course). due_job d.guard.registers r.survey d.guard.host ≡ None) same free))

          go : (f : Option LimitFault) → guard_fault d.guard (Order (Out output Operation) byte) ≡ f →
              (guard_fault d.guard (Order (Out output Operation) byte) ≡ None)
              ⊎ ((Order (Out output Operation) byte ≡ Order (Out output Operation) byte) × (d.held.words ≡ old.held.words)
              × (has_on byte ≡ true → limits_at d.guard output ≢ Unlimited))
          go None e = inl e
          go (Some fault) e = inr (
            refl,
            kept,
            λ on' unlimited.
                let bad = sym (free-order d.guard output byte (held_byte d) on.here.idle there had turns_on known unlimited) ∙ e in cc,
          )

      by : Turn course d job → IsAskedFor output byte old d job
      by (protects e lost) = subst (λ (k : Job). IsAskedFor output byte old d k) e (record {
        allowed = λ cell word bad. cc;
        free = inl (free-check d.guard Protect on.here.idle refl refl);
      })
      by (selects e unread) = subst (λ (k : Job). IsAskedFor output byte old d k) e (record {
        allowed = λ cell word bad. cc;
        free = inl (free-check d.guard (Out course.survey.output target) on.here.idle
            (lt-ltb course.survey.output d.guard.host.setup.outputs on.here.there) (ap (λ (b : Bool). rule (not b) MissingRegister) had));
      })
      by (turns e) = subst (λ (k : Job). IsAskedFor output byte old d k)
          (ap (λ (o : ℕ). Order (Out o Operation) byte) (sym on.own) ∙ e) ordered

  refused-never : (course : Course) (d : Pair) (j : Job) (refusal : Refusal) → OnByte course d → Named (asked-now course d) d j →
      asked_for d.guard.host course (Some byte) j ≡ Err refusal → ⊥
  refused-never course d j refusal on (reads left due) asks =
      let way = renewed-way course d on in
      never-refused course (asked-now course d) d j refusal on (power-kind d.guard.registers (asked-now course d).survey d.guard.host
      (byte_of (asked-now course d).survey d.held) way.here.none (operation-of way.here) j due) asks
  refused-never course d j refusal on (orders left free other is) asks =
      turn-allowed course d refusal on (sym (order-turned course d)
      ∙ (ap (λ (k : Job). asked_for d.guard.host course (Some byte) k)
      (ap (λ (r : Course). order-of r) (sym (not-renewed course d on other)) ∙ is) ∙ asks))

-- how many jobs were begun
bytes-few : CoursesEnd → {byte : ℕ} (begun : Course) (first : Pair) (course : Course) (d : Pair) (n : ℕ) →
    ByteChain byte begun first course d n →
    n + course.survey.left ≤ begun.survey.left
bytes-few ends begun first course d n none_yet = omega arith
bytes-few ends begun first course d n (one_on before named job end middle last m again chain names asks does sur) =
    let was = bytes-few ends begun first before middle m chain in
    let takes = ends.takes middle.guard.registers (limits_at middle.guard before.survey.output) middle.guard.host before named names in
    let told = ends.told (asking_for before (after_by middle.guard before) named job) end in
    omega arith

-- ---- A byte that leaves the output on ----

turns-on : LawsOfSurveys → CoursesEnd → (output byte tries n : ℕ) (old new : Pair) (course : Course) → has_on byte ≡ true →
    HasLife old.guard.host old.held → is_busy old.guard.host ≡ false → output < old.guard.host.setup.outputs →
    has_register old.guard.registers (selected_register byte) ≡ true →
    is_allowed (word_at old.held.words Protect) (cell_code (Out output Operation)) ≡ true →
    (most : ℕ) → (if output_words_of old.held output Operation == byte then 10 else 20) ≡ most → most ≤ tries →
    ByteChain byte (power_course_of output byte tries) old course new n → ByteEnds output byte most n old new course
turns-on laws ends output byte tries n old new course on has idle here there allowed most is enough' chain = record {
  few = let many = bytes-few ends (power_course_of output byte tries) old course new n chain in
      let left = over course new last.spare last.enough in omega arith;
  once = last.once;
  idle = last.here.idle;
  asks = λ j job names asks.
      let named' = the-named j names in
      let many = bytes-few ends (power_course_of output byte tries) old course new n chain in
      let left = left-named laws output byte on old (tries - most) there allowed (renewed new.guard.registers (limits_at new.guard
      course.survey.output) new.guard.host course) new j (way course new last) named' in
      let same = renewed-left laws output byte on old (tries - most) there allowed course new in
      (omega arith, asked-so laws output byte on old (tries - most) there allowed course new j job last named' asks);
  unrefused = λ j refusal names asks. refused-never laws output byte on old (tries - most) there allowed course new j
      refusal last (the-named j names) asks;
  ends = λ end says'.
      let e = end-way laws output byte on old (tries - most) there allowed
      (renewed new.guard.registers (limits_at new.guard course.survey.output)
      new.guard.host course) new end (way course new last) (limits_at new.guard course.survey.output) says' in
      (e.0, switched-words output byte old new e.1 last.made last.others here);
}
  where
    way : (c : Course) (d : Pair) → OnByte laws output byte on old (tries - most) there allowed c d →
        OnByte laws output byte on old (tries - most) there allowed
        (renewed d.guard.registers (limits_at d.guard c.survey.output) d.guard.host c) d
    way c d w = renewed-way laws output byte on old (tries - most) there allowed c d w

    start : Here (survey_of output None tries) old.guard old.held (size_for (output_words_of old.held output Operation == byte) + 1)
        (size_for (output_words_of old.held output Operation == byte))
        × (set_need
        (cells_for (output_words_of old.held output Operation == byte) (selected_register (output_words_of old.held output Operation))
        (selected_register byte)) (survey_of output None tries) old.guard.host ≤ size_for
        (output_words_of old.held output Operation == byte) + 1)
    start = begins-here (survey_of output None tries) old.guard old.held (size_for (output_words_of old.held output Operation == byte) + 1)
        (size_for (output_words_of old.held output Operation == byte))
        (cells_for (output_words_of old.held output Operation == byte)
        (selected_register (output_words_of old.held output Operation)) (selected_register byte))
        (size-so (output_words_of old.held output Operation == byte) (output_words_of old.held output Operation) byte) idle here refl
        (λ shape known'. true-format laws.lives has output shape known')
        (subst (λ (s : Summary). HasPlaces s.known) has.life.host_is
        (life-places has.config has.passes has.events)) (inr (omega arith)) refl

    begun : OnByte laws output byte on old (tries - most) there allowed (power_course_of output byte tries) old
    begun = record {
      spare = size_for (output_words_of old.held output Operation == byte) + 1;
      here = start.0;
      own = refl;
      byte_is = refl;
      once = refl;
      part_is = refl;
      limits_are = refl;
      setup_is = refl;
      made = refl;
      others = λ other two there'. refl;
      enough = go (output_words_of old.held output Operation == byte) refl is;
      lived = has;
    }
      where
        go : (b : Bool) → (output_words_of old.held output Operation == byte) ≡ b → (if b then 10 else 20) ≡ most →
            Enough laws output byte on old (tries - most) there allowed (power_course_of output byte tries) old
            (size_for (output_words_of old.held output Operation == byte) + 1)
        go true e m =
            let few = start.1 in
            let size : size_for (output_words_of old.held output Operation == byte) ≡ 4 = ap size_for e in
            inr (inl (e, refl, omega arith))
        go false e m =
            let few = start.1 in
            let size : size_for (output_words_of old.held output Operation == byte) ≡ 6 = ap size_for e in
            inr (inr (e, refl, refl, omega arith))

    last : OnByte laws output byte on old (tries - most) there allowed course new
    last = all-way laws output byte on old (tries - most) there allowed (power_course_of output byte tries) old begun course new n chain

    the-named : (j : Job) → next_by new.guard course ≡ next.Job j → Named laws output byte on old (tries - most) there allowed
        (renewed new.guard.registers (limits_at new.guard course.survey.output) new.guard.host course) new j
    the-named j names = named laws output byte on old (tries - most) there allowed (renewed new.guard.registers (limits_at new.guard
        course.survey.output) new.guard.host course) new j (way course new last) (limits_at new.guard course.survey.output) names

    over : (c : Course) (d : Pair) (spare : ℕ) → Enough laws output byte on old (tries - most) there allowed c d
        spare → tries - most ≤ c.survey.left
    over c d spare (inl (same, ordered, few)) = omega arith
    over c d spare (inr (inl (same, none, few))) = omega arith
    over c d spare (inr (inr (other, none, kept, few))) = omega arith

-- ---- A byte that turns the output off ----

module _ (output byte : ℕ) (off : has_on byte ≡ false) (old : Pair) (tries : ℕ)
    (allowed : is_allowed (word_at old.held.words Protect) (cell_code (Out output Operation)) ≡ true)
    (idle : is_busy old.guard.host ≡ false) (here : output < old.guard.host.setup.outputs) (some : 1 ≤ tries) where
  abbrev the_order : Job
  the_order = Order (Out output Operation) byte

  -- a course to this byte, with no order that differed twice
  record IsOff (course : Course) : Type 0 where
    own : course.survey.output ≡ output
    byte_is : course.byte ≡ Some byte
    once : course.twice ≡ None

  says-off : (course : Course) (d : Pair) (limits : OutputLimits) → IsOff course → is_busy d.guard.host ≡ false →
      says d.guard.registers limits d.guard.host course ≡ turning_off course byte
  says-off course d limits is quiet =
      ap (λ (b : Bool). if b then Ended (Stopped (Refused Busy)) else going d.guard.registers limits d.guard.host course course.twice) quiet
      ∙ ap (λ (t : Option Differing). going d.guard.registers limits d.guard.host course t) is.once
      ∙ ap (λ (b : Option ℕ). going_to d.guard.registers limits d.guard.host course b) is.byte_is
      ∙ ap (λ (b : Bool). if b then survey_or_order d.guard.registers limits d.guard.host course
      (due_job d.guard.registers course.survey d.guard.host) else turning_off course byte) off

  -- how far it is: it has begun, or the order was read back
  data Off : Course → Pair → ℕ → Type 0 where
    begins : Off (power_course_of output byte tries) old 0
    over : (course : Course) (d : Pair) → IsOff course → course.done ≡ true → is_busy d.guard.host ≡ false → IsSwitched output byte old d →
        Off course d 1

  -- what it says as it begins
  says-first : next_by old.guard (power_course_of output byte tries) ≡ next.Job the_order
  says-first =
      ap (λ (c : Course). says old.guard.registers (limits_at old.guard output) old.guard.host c)
      (renewed-none old.guard.registers (limits_at old.guard output) old.guard.host (power_course_of output byte tries) refl)
      ∙ (says-off (power_course_of output byte tries) old (limits_at old.guard output)
      (record { own = refl; byte_is = refl; once = refl }) idle
      ∙ ap (λ (b : Bool). if b then Ended (Stopped (Spent the_order)) else next.Job the_order) (left tries some))
    where
      left : (n : ℕ) → 1 ≤ n → (n == 0) ≡ false
      left n h = grind (arith, nat_tests)

  -- it has ended once the order was read back
  says-last : (course : Course) (d : Pair) → IsOff course → course.done ≡ true → is_busy d.guard.host ≡ false →
      next_by d.guard course ≡ Ended Reached
  says-last course d is done quiet =
      let both = renewed-so (λ (c : Course). IsOff c × (c.done ≡ true)) d.guard.registers
      (limits_at d.guard course.survey.output) d.guard.host
      course (is, done) (record { own = is.own; byte_is = is.byte_is; once = is.once }, done) in
      let asked = renewed d.guard.registers (limits_at d.guard course.survey.output) d.guard.host course in
      says-off asked d (limits_at d.guard course.survey.output) both.0 quiet
      ∙ ap (λ (b : Bool). if b then Ended Reached else taking asked (Order (Out asked.survey.output Operation) byte)) both.1

  -- nothing is asked for in the place of a job
  asked-off : (s : Summary) (course : Course) (j : Job) → asked_for s course (Some byte) j ≡ Ok j
  asked-off s course j = ap (λ (b : Bool). if b && is_turning s course j then turning course byte (protect_in s course) else Ok j) off

  one-job : (j : Job) → ◌≡◌ {A = Next} (next.Job the_order) (next.Job j) → the_order ≡ j
  one-job j e = cc

  off-step : (course : Course) (before new : Pair) (n : ℕ) (j job : Job) (end : JobEnd) (again : Bool) → Off course before n →
      next_by before.guard course ≡ next.Job j → asked_for before.guard.host course (Some byte) j ≡ Ok job → Step job end before new →
      (again ≡ true → is_surprised job before ≡ true) →
      Off (forgotten again (told_of (asking_for course (after_by before.guard course) j job) end)) new (n + 1)
  off-step course before new n j job end again (over c d is done quiet switched) names asks runs sur =
      let bad = sym (says-last c d is done quiet) ∙ names in cc
  off-step course before new n j job end again begins names asks runs sur =
      let is-order : the_order ≡ j = one-job j (sym says-first ∙ names) in
      let is-job : j ≡ job = one (sym (asked-off old.guard.host (power_course_of output byte tries) j) ∙ asks) in
      subst (λ (n : Next). Off (forgotten again (told_of (asking_for (power_course_of output byte tries)
      (naming (renewed old.guard.registers (limits_at old.guard output) old.guard.host (power_course_of output byte tries)) n) j job) end))
      new 1)
      (sym names)
      (subst (λ (r : Course). Off (forgotten again (told_of (asking_for (power_course_of output byte tries)
      (naming r (next.Job j)) j job) end)) new 1)
      (sym (renewed-none old.guard.registers (limits_at old.guard output) old.guard.host (power_course_of output byte tries) refl))
      (subst (λ (k : Job). Off (forgotten again (told_of (asking_for (power_course_of output byte tries)
      (naming (power_course_of output byte tries) (next.Job j)) j k) end)) new 1) is-job
      (subst (λ (k : Job). Off (forgotten again (told_of (asking_for (power_course_of output byte tries)
      (naming (power_course_of output byte tries) (next.Job k)) k k) end)) new 1) is-order
      (ran again (subst (λ (k : Job). Step k end old new) (sym (is-order ∙ is-job)) runs)
      (λ e. ap (λ (k : Job). is_surprised k old) (is-order ∙ is-job) ∙ sur e)))))
    where
      one : ◌≡◌ {A = Result Job Refusal} (Ok j) (Ok job) → j ≡ job
      one e = cc

      ran : (b : Bool) → Step the_order end old new → (b ≡ true → is_surprised the_order old ≡ true) →
          Off (forgotten b (told_of (asking_for (power_course_of output byte tries)
          (naming (power_course_of output byte tries) (next.Job the_order)) the_order the_order) end)) new 1
      ran true runs s = let bad = s refl in cc
      ran false runs s =
          let is : IsOrdered (Out output Operation) byte old end new = runs.did allowed in
          subst (λ (e : JobEnd). Off (forgotten false (told_of (asking_for (power_course_of output byte tries)
          (naming (power_course_of output byte tries) (next.Job the_order)) the_order the_order) e)) new 1) (sym is.done)
          (over _ new (record { own = refl; byte_is = refl; once = refl }) refl (ap is_some is.idle)
          (switched-words output byte old new is.takes is.config is.others here))

  whole-off : (course : Course) (d : Pair) (n : ℕ) → ByteChain byte (power_course_of output byte tries) old course d n → Off course d n
  whole-off course d n none_yet = begins
  whole-off course d n (one_on before named job end middle last m again chain names asks does sur) =
      off-step before middle last m named job end again (whole-off before middle m chain) names asks does sur

  off-ends : (course : Course) (d : Pair) (n : ℕ) → Off course d n → ByteEnds output byte 1 n old d course
  off-ends course d n begins = record {
    few = omega arith;
    once = refl;
    idle = idle;
    asks = λ j job names asks.
        let is : the_order ≡ job = one-job j (sym says-first ∙ names) ∙ one j job (sym (asked-off old.guard.host course j) ∙ asks) in
        (omega arith, subst (λ (k : Job). IsAskedFor output byte old old k) is ordered);
    unrefused = λ j refusal names asks. let bad = sym (asked-off old.guard.host course j) ∙ asks in never j refusal bad;
    ends = λ end says'. let bad = sym says-first ∙ says' in cc;
  }
    where
      one : (j job : Job) → ◌≡◌ {A = Result Job Refusal} (Ok j) (Ok job) → j ≡ job
      one j job e = cc

      never : (j : Job) (refusal : Refusal) → ◌≡◌ {A = Result Job Refusal} (Ok j) (Err refusal) → ⊥
      never j refusal e = cc

      cell-of : Job → ℕ
      cell-of (Order cell word) = cell_code cell
      cell-of k = 0

      ordered : IsAskedFor output byte old old the_order
      ordered = record {
        allowed = λ cell word' e. subst (λ (c : ℕ). is_allowed (word_at old.held.words Protect) c ≡ true) (ap cell-of e) allowed;
        free = go (guard_fault old.guard the_order) refl;
      }
        where
          go : (f : Option LimitFault) → guard_fault old.guard the_order ≡ f → (guard_fault old.guard the_order ≡ None)
              ⊎ ((the_order ≡ the_order) × (old.held.words ≡ old.held.words)
              × (has_on byte ≡ true → limits_at old.guard output ≢ Unlimited))
          go None e = inl e
          go (Some fault) e = inr (refl, refl, λ on. let bad = sym off ∙ on in cc)
  off-ends course d n (over c e is done quiet switched) = record {
    few = omega arith;
    once = is.once;
    idle = quiet;
    asks = λ j job names asks. let bad = sym (says-last c e is done quiet) ∙ names in cc;
    unrefused = λ j refusal names asks. let bad = sym (says-last c e is done quiet) ∙ names in cc;
    ends = λ end says'. (reached end (sym (says-last c e is done quiet) ∙ says'), switched);
  }
    where
      reached : (end : ApplyEnd) → ◌≡◌ {A = Next} (Ended Reached) (Ended end) → end ≡ Reached
      reached end h = let same : Reached ≡ end = cc in sym same

-- ---- Both ----

pub byte-ends : LawsOfSurveys → CoursesEnd → (output byte tries n : ℕ) (old new : Pair) (course : Course) →
    HasLife old.guard.host old.held →
    is_busy old.guard.host ≡ false → output < old.guard.host.setup.outputs →
    (has_on byte ≡ true → has_register old.guard.registers (selected_register byte) ≡ true) →
    is_allowed (word_at old.held.words Protect) (cell_code (Out output Operation)) ≡ true → byte_tries old.held output byte ≤ tries →
    ByteChain byte (power_course_of output byte tries) old course new n →
    ByteEnds output byte (byte_tries old.held output byte) n old new course
byte-ends laws ends output byte tries n old new course has idle here there allowed enough chain = go (has_on byte) refl enough where
  go : (b : Bool) → has_on byte ≡ b → (if b then (if output_words_of old.held output Operation == byte then 10 else 20) else 1) ≤ tries →
      ByteEnds output byte (if b then (if output_words_of old.held output Operation == byte then 10 else 20) else 1) n old new course
  go true on few = turns-on laws ends output byte tries n old new course on has idle here (there on) allowed _ refl few chain
  go false off few = off-ends output byte off old tries allowed idle here few course new n
      (whole-off output byte off old tries allowed idle here few course new n chain)
