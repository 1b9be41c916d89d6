-- A job that a course names takes a try, and is refused by nothing.
use Rattle.std.specs.Prelude.{true, ◌≡◌, ◌<◌, ◌-◌, ◌==◌, ℕ, false, refl, Some, None, Ok, Err}
use Rattle.std.proofs.Common.{arith, sym, ◌∙◌, ap, subst}
use Rattle.std.proofs.lemmas.Bool.Decides.{nat_tests}
use Rattle.pm_host.specs.declared.job.Job.{Job as Asked}
use Rattle.pm_host.specs.declared.job.JobEnd.{JobEnd}
use Rattle.pm_host.specs.Refusals.{is_busy}
use Rattle.pm_host.specs.Summary.{Summary}
use Rattle.pm_limits.specs.declared.part_registers.PartRegisters.{PartRegisters}
use Rattle.pm_limits.specs.declared.output_limits.OutputLimits.{OutputLimits}
use Rattle.pm_limits.specs.Guard.{Guarded, guard_fault, limits_at}
use Rattle.pm_rail.specs.declared.apply_end.ApplyEnd.TheVariants.{Reached}
use Rattle.pm_rail.specs.Laws.{PlansAreAccepted}
use Rattle.pm_rail.specs.Orders.{plan_of}
use Rattle.pm_rail.specs.Registers.{wants_of}
use Rattle.pm_rail.specs.Survey.{is_surveyed, wanted_in}
use Rattle.pm_rail.specs.declared.course.Course.{Course}
use Rattle.pm_rail.specs.declared.next.Next.{Next}
use Rattle.pm_rail.specs.declared.next.Next.TheVariants.{Ended, Job}
use Rattle.pm_rail.specs.Course.{after_next, is_order, naming, next_of, renewed, says, told_of}
use Rattle.pm_rail.specs.Lemmas.AskedFree.{asked-free}
use Rattle.pm_rail.specs.Lemmas.Says.{Names, Said, asks-so, ended-same, orders, reads, renewed-so, off-job, says_is_said, says-job, says-reached, says-read, taken}
use Rattle.pm_rail.specs.Lemmas.Says.{says-busy, says-differs, says-due, says-missing, says-off, says-order}

some-left : (left : ℕ) → (left == 0) ≡ false → 0 < left
some-left left h = grind (arith, nat_tests)

-- a job that is named finds a try
says-left : (part : PartRegisters) (limits : OutputLimits) (s : Summary) (course : Course) (job : Asked) →
    says part limits s course ≡ Job job → 0 < course.survey.left
says-left part limits s course job is = go (says_is_said part limits s course) is where
  go : {n : Next} → Said part limits s course n → n ≡ Job job → 0 < course.survey.left
  go (says-busy b) e = cc
  go (says-differs d t) e = cc
  go (says-missing fault idle) e = cc
  go (says-off byte idle b) e = some-left course.survey.left (off-job course byte job e).0
  go (says-due j idle n) e = some-left course.survey.left (taken course j job e).0
  go (says-order (Err fault) idle n o) e = cc
  go (says-order (Ok None) idle n o) e = cc
  go (says-order (Ok (Some order)) idle n o) e = some-left course.survey.left (taken course _ job e).0

pub takes : (part : PartRegisters) (limits : OutputLimits) (s : Summary) (course : Course) (job : Asked) →
    next_of part limits s course ≡ Job job → (after_next part limits s course).survey.left < course.survey.left
takes part limits s course job is =
    let r = renewed part limits s course in
    let same : r.survey.left ≡ course.survey.left =
    renewed-so (λ (c : Course). c.survey.left ≡ course.survey.left) part limits s course refl refl in
    let some = says-left part limits s r job is in
    let after : (after_next part limits s course).survey.left ≡ r.survey.left - 1 =
    ap (λ (n : Next). (naming r n).survey.left) is in
    omega arith

pub told-left : (course : Course) (end : JobEnd) → (told_of course end).survey.left ≡ course.survey.left
told-left course end = (ended-same course.survey course.survey.asked end).0

pub free : PlansAreAccepted → (g : Guarded) (course : Course) (job : Asked) → course.byte ≡ None →
    course.survey.output < g.host.setup.outputs →
    next_of g.registers (limits_at g course.survey.output) g.host course ≡ Job job → guard_fault g job ≡ None
free accepted g course job words there is = by named.1 where
  limits : OutputLimits
  limits = limits_at g course.survey.output

  r : Course
  r = renewed g.registers limits g.host course

  own : r.survey.output ≡ course.survey.output
  own = renewed-so (λ (c : Course). c.survey.output ≡ course.survey.output) g.registers limits g.host course refl refl

  in_range : r.survey.output < g.host.setup.outputs
  in_range = subst (λ (o : ℕ). o < g.host.setup.outputs) (sym own) there

  named : (is_busy g.host ≡ false) × Names g.registers limits g.host r job
  named = says-job g.registers limits g.host r
      (renewed-so (λ (c : Course). c.byte ≡ None) g.registers limits g.host course words words) job is

  by : {j : Asked} → Names g.registers limits g.host r j → guard_fault g j ≡ None
  by (reads j asks) = asked-free r.survey g j named.0 in_range asks
  by (orders order surveyed plan) = accepted g r.survey.output (wants_of (wanted_in r.survey.plan)) order.register order.word in_range refl
      (ap (λ (o : ℕ). plan_of g.registers g.host (limits_at g o) r.survey.output (wants_of (wanted_in r.survey.plan))) own ∙ plan)

-- ---- Of one to nothing ----

pub reads-only : (part : PartRegisters) (limits : OutputLimits) (s : Summary) (course : Course) (job : Asked) → course.byte ≡ None →
    course.survey.plan ≡ None → next_of part limits s course ≡ Job job → is_order job ≡ false
reads-only part limits s course job words nothing is =
    let r = renewed part limits s course in
    let words' = renewed-so (λ (c : Course). c.byte ≡ None) part limits s course words words in
    let nothing' = renewed-so (λ (c : Course). c.survey.plan ≡ None) part limits s course nothing nothing in
    asks-so (λ (j : Asked). is_order j ≡ false) part r.survey s refl (λ register has. refl) refl job
    (says-read part limits s r words' nothing' job is)

pub reached-surveyed : (part : PartRegisters) (limits : OutputLimits) (s : Summary) (course : Course) → course.byte ≡ None →
    next_of part limits s course ≡ Ended Reached → is_surveyed part (after_next part limits s course).survey s ≡ true
reached-surveyed part limits s course words is =
    let r = renewed part limits s course in
    let words' = renewed-so (λ (c : Course). c.byte ≡ None) part limits s course words words in
    ap (λ (n : Next). is_surveyed part (naming r n).survey s) is ∙ (says-reached part limits s r words' is).0
