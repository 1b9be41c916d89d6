use Rattle.std.proofs.Common.{◌≡◌, ◌∙◌, Option, Some, None, Ok, Err, true, false, ap, refl, rules, subst, sym}
use Rattle.std.specs.Prelude.{ℕ, ℤ, Result, option_map}
use Rattle.pm_num.specs.AnyFormat.{Shape, voltage_shape, shape_value}
use Rattle.pm_num.specs.Ratio.{Ratio}
use Rattle.pm_table.specs.declared.reg.Reg.{Reg}
use Rattle.pm_host.specs.Image.{held}
use Rattle.pm_host.specs.Refusals.{is_busy}
use Rattle.pm_host.specs.Summary.{Summary, format_at}
use Rattle.pm_rail.specs.Registers.{wants_of}
use Rattle.pm_course.specs.declared.course_end.Refusal.{Refusal}
use Rattle.pm_course.specs.declared.frame_course.FrameCourse.{FrameCourse}
use Rattle.pm_course.specs.Accept.{Takes, job_open, judged, near_refusal, no_format, no_plan, no_wish, not_known, taken_of, known_word_at}
use Rattle.pm_course.specs.Wishes.{voltage_of}
use Rattle.pm_course.proofs.frame_course.FrameCourse.accepted.Goals as goal

pub returns-then-is_some : goal.returns-then-is_some
returns-then-is_some c =
    let s = held c.args.stage c.args.host.now in
    let busy : is_busy s ≡ true = sym c.is_some.ensures ∙ c.if-is_some.true in
    subst (λ (r : Refusal). Takes c.args.limits.now s c.args.self.now c.args.tolerance (Err r)) (sym c.of_plan.ensures) (job_open busy)

pub returns-in_default : goal.returns-in_default
returns-in_default c =
    let s = held c.args.stage c.args.host.now in
    let idle : is_busy s ≡ false = sym c.is_some.ensures ∙ c.if-is_some.false in
    subst (λ (r : Refusal). Takes c.args.limits.now s c.args.self.now c.args.tolerance (Err r)) (sym c.nothing_near.ensures)
    (no_plan idle c.in_default.is)

pub returns-in_default-taken_of : goal.returns-in_default-taken_of
returns-in_default-taken_of c =
    let s = held c.args.stage c.args.host.now in
    let idle : is_busy s ≡ false = sym c.is_some.ensures ∙ c.if-is_some.false in
    subst (λ (r : Refusal). Takes c.args.limits.now s c.args.self.now c.args.tolerance (Err r))
    (sym c.nothing_near-in_default-taken_of.ensures)
    (no_wish c.in-Some.words idle c.in-Some.is (sym c.taken_of.ensures ∙ c.in_default-taken_of.is))

pub returns-in_default-voltage_format : goal.returns-in_default-voltage_format
returns-in_default-voltage_format c =
    let s = held c.args.stage c.args.host.now in
    let idle : is_busy s ≡ false = sym c.is_some.ensures ∙ c.if-is_some.false in
    let none : format_at s c.args.self.now.course.survey.output ≡ None = search rules in
    subst (λ (r : Refusal). Takes c.args.limits.now s c.args.self.now c.args.tolerance (Err r)) (sym c.of_plan-in_default-voltage_format.ensures)
    (no_format c.in-Some.words c.in-Some-taken_of.register idle c.in-Some.is (sym c.taken_of.ensures ∙ c.in-Some-taken_of.is) none)

pub returns-in_default-sole_at : goal.returns-in_default-sole_at
returns-in_default-sole_at c =
    let s = held c.args.stage c.args.host.now in
    let shape = voltage_shape c.in-Some-voltage_format.format in
    let register = c.in-Some-taken_of.register in
    let idle : is_busy s ≡ false = sym c.is_some.ensures ∙ c.if-is_some.false in
    let formed : format_at s c.args.self.now.course.survey.output ≡ Some shape = search rules in
    let none : known_word_at s c.args.self.now register ≡ None = sym c.sole_at.ensures ∙ c.in_default-sole_at.is in
    subst (λ (r : Refusal). Takes c.args.limits.now s c.args.self.now c.args.tolerance (Err r)) (sym c.of_plan-in_default-sole_at.ensures)
    (not_known c.in-Some.words register shape idle c.in-Some.is (sym c.taken_of.ensures ∙ c.in-Some-taken_of.is) formed none)

pub returns-in-Some-near_fault : goal.returns-in-Some-near_fault
returns-in-Some-near_fault c =
    let s = held c.args.stage c.args.host.now in
    let shape = voltage_shape c.in-Some-voltage_format.format in
    let register = c.in-Some-taken_of.register in
    let word = c.in-Some-sole_at.word in
    let aim = c.aim-aim.result in
    let idle : is_busy s ≡ false = sym c.is_some.ensures ∙ c.if-is_some.false in
    let formed : format_at s c.args.self.now.course.survey.output ≡ Some shape = search rules in
    let known : known_word_at s c.args.self.now register ≡ Some word = sym c.sole_at.ensures ∙ c.in-Some-sole_at.is in
    let refuses : near_refusal c.args.limits.now (shape_value shape word) register aim c.args.tolerance ≡ Some c.in-Some-near_fault.refusal =
    sym (c.near_fault.ensures ∙ ap (λ (v : Ratio). near_refusal c.args.limits.now v register aim c.args.tolerance) c.value_of-value.ensures)
    ∙ c.in-Some-near_fault.is in
    judged c.in-Some.words register shape word aim c.meaning-meaning.result (Err c.in-Some-near_fault.refusal) idle c.in-Some.is
    (sym c.taken_of.ensures ∙ c.in-Some-taken_of.is) formed known c.aim-aim.ensures c.meaning-meaning.ensures (rw refuses refl)

pub returns-in-None : goal.returns-in-None
returns-in-None c =
    let s = held c.args.stage c.args.host.now in
    let shape = voltage_shape c.in-Some-voltage_format.format in
    let register = c.in-Some-taken_of.register in
    let word = c.in-Some-sole_at.word in
    let aim = c.aim-aim.result in
    let idle : is_busy s ≡ false = sym c.is_some.ensures ∙ c.if-is_some.false in
    let formed : format_at s c.args.self.now.course.survey.output ≡ Some shape = search rules in
    let known : known_word_at s c.args.self.now register ≡ Some word = sym c.sole_at.ensures ∙ c.in-Some-sole_at.is in
    let passes : near_refusal c.args.limits.now (shape_value shape word) register aim c.args.tolerance ≡ None =
    sym (c.near_fault.ensures ∙ ap (λ (v : Ratio). near_refusal c.args.limits.now v register aim c.args.tolerance) c.value_of-value.ensures)
    ∙ c.in-None.is in
    judged c.in-Some.words register shape word aim c.meaning-meaning.result c.taking.result idle c.in-Some.is
    (sym c.taken_of.ensures ∙ c.in-Some-taken_of.is) formed known c.aim-aim.ensures c.meaning-meaning.ensures (rw passes c.taking.ensures)
