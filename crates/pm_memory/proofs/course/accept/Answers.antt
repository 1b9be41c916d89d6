use Rattle.std.proofs.Common.{◌≡◌, ◌∙◌, Some, None, false, true, refl, subst, sym}
use Rattle.std.specs.Prelude.{nat_lt}
use Rattle.pm_limits.specs.declared.output_limits.OutputLimits.{OutputLimits}
use Rattle.pm_limits.specs.Guard.{limits_at}
use Rattle.pm_course.specs.Accept.{Accepts}
use Rattle.pm_memory.specs.Course.{accept_image, accept_number, guard_at, judged, no_course_to, no_host_to, no_output}
use Rattle.pm_memory.specs.Guard.{guard_of}
use Rattle.pm_memory.proofs.course.accept.Goals as goal

pub returns-in_default : goal.returns-in_default
returns-in_default c =
    let none : guard_of c.args.host.now ≡ None = rw (c.in_default.ensures.other) refl in
    no_host_to none

pub returns-in_default-course : goal.returns-in_default-course
returns-in_default-course c =
    let found : guard_of c.args.host.now ≡ Some (guard_at c.args.host.now c.in-Ok.stage) = rw (c.in-Ok.ensures.found) refl in
    no_course_to (guard_at c.args.host.now c.in-Ok.stage) found (sym c.course.ensures ∙ c.in_default-course.is)

pub returns-then-not-has_output : goal.returns-then-not-has_output
returns-then-not-has_output c =
    let g = guard_at c.args.host.now c.in-Ok.stage in
    let found : guard_of c.args.host.now ≡ Some g = rw (c.in-Ok.ensures.found) refl in
    let none : nat_lt c.in-Some.asked.course.survey.output c.args.host.now.host.state.outputs ≡ false =
    sym c.has_output.ensures ∙ c.if-not-has_output.true in
    rw (c.number.ensures.number) (no_output g c.in-Some.asked found (sym c.course.ensures ∙ c.in-Some.is) none)

pub returns-in-Ok-accept_in : goal.returns-in-Ok-accept_in
returns-in-Ok-accept_in c =
    let g = guard_at c.args.host.now c.in-Ok.stage in
    let was = c.in-Some.asked in
    let found : guard_of c.args.host.now ≡ Some g = rw (c.in-Ok.ensures.found) refl in
    let there : nat_lt was.course.survey.output c.args.host.now.host.state.outputs ≡ true =
    sym c.has_output.ensures ∙ c.if-not-has_output.false in
    let accepts : Accepts (limits_at g was.course.survey.output) g.host was c.args.microvolts c.accept_in.result c.accept_in.new.self =
    subst (λ (l : OutputLimits). Accepts l g.host was c.args.microvolts c.accept_in.result c.accept_in.new.self)
    c.limits-limits.ensures c.accept_in.ensures in
    let number : 0 ≡ accept_number c.accept_in.result = rw (c.in-Ok-accept_in.is) refl in
    let image : c.of.result ≡ accept_image c.args.course.now c.accept_in.result c.accept_in.new.self =
    rw (c.in-Ok-accept_in.is) c.of.ensures in
    judged g was c.accept_in.new.self c.accept_in.result 0 c.of.result found (sym c.course.ensures ∙ c.in-Some.is) there accepts number image

pub returns-in-Err : goal.returns-in-Err
returns-in-Err c =
    let g = guard_at c.args.host.now c.in-Ok.stage in
    let was = c.in-Some.asked in
    let found : guard_of c.args.host.now ≡ Some g = rw (c.in-Ok.ensures.found) refl in
    let there : nat_lt was.course.survey.output c.args.host.now.host.state.outputs ≡ true =
    sym c.has_output.ensures ∙ c.if-not-has_output.false in
    let accepts : Accepts (limits_at g was.course.survey.output) g.host was c.args.microvolts c.accept_in.result c.accept_in.new.self =
    subst (λ (l : OutputLimits). Accepts l g.host was c.args.microvolts c.accept_in.result c.accept_in.new.self)
    c.limits-limits.ensures c.accept_in.ensures in
    let number : c.in-Err.refusal.number ≡ accept_number c.accept_in.result = rw (c.in-Err.is) refl in
    let image : c.args.course.now ≡ accept_image c.args.course.now c.accept_in.result c.accept_in.new.self = rw (c.in-Err.is) refl in
    judged g was c.accept_in.new.self c.accept_in.result c.in-Err.refusal.number c.args.course.now found
    (sym c.course.ensures ∙ c.in-Some.is) there accepts number image
