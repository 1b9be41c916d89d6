use Rattle.std.proofs.Common.{◌≡◌, ◌∙◌, ◌^◌, ℤ, pos, ◌+ℤ◌, Option, Some, true, nat_lt, unsigned_abs, ap, of_z, rules, subst, sym, to_z, w64}
use Rattle.std.specs.Prelude.{ℕ, Result}
use Rattle.pm_num.specs.declared.fault.NumFault.{NumFault}
use Rattle.pm_num.specs.AnyFormat.{voltage_shape, shape_value}
use Rattle.pm_num.specs.Ratio.{Ratio, IsMicroFloor, far_fault}
use Rattle.pm_course.specs.Accept.{IsFormed, beyond, far, means, meaning_by}
use Rattle.pm_course.proofs.accept.meaning.Goals as goal

pub returns-in-Err : goal.returns-in-Err
returns-in-Err c =
    let is : far_fault (shape_value (voltage_shape c.args.format.now) c.args.word) ≡ Some c.in-Err.field-0 =
    sym (ap (λ (v : Ratio). far_fault v) c.value_of.ensures) ∙ sym c.in-Err.ensures.fault in
    far c.in-Err.field-0 is

pub returns-in-Ok : goal.returns-in-Ok
returns-in-Ok c =
    let floor : IsMicroFloor (shape_value (voltage_shape c.args.format.now) c.args.word) c.in-Ok.below =
    subst (λ (v : Ratio). IsMicroFloor v c.in-Ok.below) c.value_of.ensures c.in-Ok.ensures.floor in
    let big : nat_lt (10 ^ 15) (unsigned_abs c.in-Ok.below) ≡ true = search rules in
    beyond c.in-Ok.below floor big

pub returns-in-Ok-2 : goal.returns-in-Ok-2
returns-in-Ok-2 c =
    let x = to_z w64 (of_z w64 c.in-Ok.below) in
    let shape = voltage_shape c.args.format.now in
    let read : x ≡ c.in-Ok.below = search rules in
    let more : to_z w64 (of_z w64 (x +ℤ pos 1)) ≡ x +ℤ pos 1 = search rules in
    let floor : IsMicroFloor (shape_value shape c.args.word) x =
    subst (λ (k : ℤ). IsMicroFloor (shape_value shape c.args.word) k) (sym read)
    (subst (λ (v : Ratio). IsMicroFloor v c.in-Ok.below) c.value_of.ensures c.in-Ok.ensures.floor) in
    let below : IsFormed shape c.args.register x c.word_for-first.result =
    record { fault = c.word_for-first.ensures.fault; word = c.word_for-first.ensures.word } in
    let above : IsFormed shape c.args.register (x +ℤ pos 1) c.word_for-second.result =
    subst (λ (k : ℤ). IsFormed shape c.args.register k c.word_for-second.result) more
    (record { fault = c.word_for-second.ensures.fault; word = c.word_for-second.ensures.word }) in
    means x c.word_for-first.result c.word_for-second.result c.chosen.result floor below above c.chosen.ensures
