-- What a course to a byte of OPERATION names, and when it has reached its end.
use Rattle.std.specs.Prelude.{◌≡◌, ◌⊎◌, ℕ, Bool, true, false, if◌then◌else◌, refl, Option, Some, None, Ok, Err}
use Rattle.std.proofs.Common.{inl, inr, sym, ◌∙◌, ap, subst}
use Rattle.pm_table.specs.declared.cell.Cell.TheVariants.{Out}
use Rattle.pm_table.specs.declared.reg.Reg.TheVariants.{Operation}
use Rattle.pm_table.specs.Operation.{selected_register}
use Rattle.pm_host.specs.declared.job.Job.{Job as Asked}
use Rattle.pm_host.specs.declared.job.Job.TheVariants.{Order}
use Rattle.pm_host.specs.Refusals.{is_busy}
use Rattle.pm_host.specs.Summary.{Summary}
use Rattle.pm_limits.specs.declared.part_registers.PartRegisters.{PartRegisters}
use Rattle.pm_limits.specs.declared.output_limits.OutputLimits.{OutputLimits}
use Rattle.pm_rail.specs.declared.fault.PlanFault.TheVariants.{Busy, NotKnown}
use Rattle.pm_rail.specs.declared.orders.PlanOrder.{PlanOrder}
use Rattle.pm_rail.specs.Survey.{is_surveyed, next_job}
use Rattle.pm_rail.specs.declared.apply_end.ApplyEnd.TheVariants.{Reached}
use Rattle.pm_rail.specs.declared.course.Course.{Course}
use Rattle.pm_rail.specs.declared.next.Next.{Next}
use Rattle.pm_rail.specs.declared.next.Next.TheVariants.{Job, Ended}
use Rattle.pm_rail.specs.Course.{is_operation_known, order_by, order_next, says}
use Rattle.pm_rail.specs.Lemmas.Says.{Said, asks-due, none-reached, off-job, off-reached, says_is_said, taken}
use Rattle.pm_rail.specs.Lemmas.Says.{says-busy, says-differs, says-due, says-missing, says-off, says-order}

-- a job that it names is one of its survey, or the order of OPERATION
pub data NamesPower (part : PartRegisters) (s : Summary) (course : Course) (byte : ℕ) : Asked → Type 0 where
  reads : (job : Asked) → next_job part course.survey s ≡ Some job → NamesPower part s course byte job
  orders : NamesPower part s course byte (Order (Out course.survey.output Operation) byte)

module _ (part : PartRegisters) (limits : OutputLimits) (s : Summary) (course : Course) (byte : ℕ) (power : course.byte ≡ Some byte) where
  abbrev the_order : PlanOrder
  the_order = record { register = Operation; word = byte }

  next-is : order_next part limits s course ≡ order_by part limits s course.survey (Some byte)
  next-is = ap (λ (b : Option ℕ). order_by part limits s course.survey b) power

  some-order : (order : PlanOrder) → order_next part limits s course ≡ Ok (Some order) → order ≡ the_order
  some-order order is = go (is_busy s) (is_operation_known s course.survey.output byte) (is_surveyed part course.survey s)
      (sym next-is ∙ is) where
        go : (busy known surveyed : Bool) → (if busy then Err Busy else (if known then (if surveyed then Ok None
            else Err (NotKnown (Out course.survey.output (selected_register byte)))) else Ok (Some the_order))) ≡ Ok (Some order) →
            order ≡ the_order
        go true known surveyed e = cc
        go false true true e = cc
        go false true false e = cc
        go false false surveyed e = cc

  none-left : order_next part limits s course ≡ Ok None →
      (is_operation_known s course.survey.output byte ≡ true) × (is_surveyed part course.survey s ≡ true)
  none-left is = go (is_busy s) (is_operation_known s course.survey.output byte) (is_surveyed part course.survey s)
      refl refl (sym next-is ∙ is) where
        go : (busy known surveyed : Bool) → is_operation_known s course.survey.output byte ≡ known → is_surveyed part course.survey s ≡ surveyed →
            (if busy then Err Busy else (if known then (if surveyed then Ok None
            else Err (NotKnown (Out course.survey.output (selected_register byte)))) else Ok (Some the_order))) ≡ Ok None →
            (is_operation_known s course.survey.output byte ≡ true) × (is_surveyed part course.survey s ≡ true)
        go true known surveyed k v e = cc
        go false true true k v e = (k, v)
        go false true false k v e = cc
        go false false surveyed k v e = cc

  pub power-job : (job : Asked) → says part limits s course ≡ Job job → NamesPower part s course byte job
  power-job job is = go (says_is_said part limits s course) is where
    go : {n : Next} → Said part limits s course n → n ≡ Job job → NamesPower part s course byte job
    go (says-busy b) e = cc
    go (says-differs d t) e = cc
    go (says-missing fault idle) e = cc
    go (says-off other idle b) e =
        let same : other ≡ byte = let both = sym b ∙ power in cc in
        subst (λ (x : Asked). NamesPower part s course byte x)
        (sym (ap (λ (w : ℕ). Order (Out course.survey.output Operation) w) same) ∙ (off-job course other job e).1) orders
    go (says-due j idle n) e =
        let t = taken course j job e in
        subst (λ (x : Asked). NamesPower part s course byte x) t.1 (reads j (asks-due part course.survey s j t.0 n))
    go (says-order (Err fault) idle n o) e = cc
    go (says-order (Ok None) idle n o) e = cc
    go (says-order (Ok (Some order)) idle n o) e =
        let t = taken course (Order (Out course.survey.output order.register) order.word) job e in
        subst (λ (x : Asked). NamesPower part s course byte x)
        (sym (ap (λ (x : PlanOrder). Order (Out course.survey.output x.register) x.word) (some-order order o)) ∙ t.1) orders

  -- the order was read back as it was given, if all is reached, or OPERATION is known to be the byte and the survey has ended
  -- by its own rule
  pub power-reached : says part limits s course ≡ Ended Reached → (course.done ≡ true)
      ⊎ ((is_operation_known s course.survey.output byte ≡ true) × (is_surveyed part course.survey s ≡ true))
  power-reached is = go (says_is_said part limits s course) is where
    go : {n : Next} → Said part limits s course n → n ≡ Ended Reached → (course.done ≡ true)
        ⊎ ((is_operation_known s course.survey.output byte ≡ true) × (is_surveyed part course.survey s ≡ true))
    go (says-busy b) e = cc
    go (says-differs d t) e = cc
    go (says-missing fault idle) e = cc
    go (says-off other idle b) e = inl (off-reached course other e)
    go (says-due j idle n) e = absurd (none-reached course j e)
    go (says-order (Err fault) idle n o) e = cc
    go (says-order (Ok None) idle n o) e = inr (none-left o)
    go (says-order (Ok (Some order)) idle n o) e = absurd (none-reached course _ e)
