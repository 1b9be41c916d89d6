use Rattle.std.proofs.Common.{◌≡◌, ◌≢◌, ◌∙◌, ◌↔◌, rules, sym, subst, Err, IfOk, ℤ, pos, w8, w16}
use Rattle.std.proofs.lemmas.Int.{to_z-of_z}
use Rattle.pm_num.specs.Formats.{IsDecimal}
use Rattle.pm_num.specs.Nearest.{one_rank}
use Rattle.pm_num.specs.Value.{direct_greatest, direct_least, direct_value, ulinear16_value}
use Rattle.pm_num.specs.declared.fault.NumFault.{NumFault}
use Rattle.pm_tool.specs.NumberText.{IsAnswer, Refuses, RefusesValue, rank_in, value_in}
use Rattle.pm_tool.specs.declared.numbers.question.FormatText.{FormatText}
use Rattle.pm_tool.specs.declared.numbers.question.FormatText.TheVariants.{Linear11, Ulinear16, Direct}
use Rattle.pm_tool.proofs.Texts.{direct_refused, refused_by_value, with_coefficients}
use Rattle.pm_tool.proofs.numbers.answer_to.Goals as goal

pub returns-in-Linear11-clause-refused : goal.returns-in-Linear11-clause-refused
returns-in-Linear11-clause-refused c =
    let asked = c.args.asked.asked in
    let r = c.answer_in.result in
    subst (λ (f : FormatText). (fault : NumFault)
    → (r ≡ Err fault) ↔ Refuses (record { format = f; asked = asked }) fault) (sym c.in-Linear11.is)
    (refused_by_value (record { format = Linear11; asked = asked }) tt (λ fault h. h) r c.answer_in.ensures.refused)

pub returns-in-Ulinear16-clause-refused : goal.returns-in-Ulinear16-clause-refused
returns-in-Ulinear16-clause-refused c =
    let asked = c.args.asked.asked in
    let r = c.answer_in-in-Ulinear16.result in
    let n = c.in-Ulinear16.n in
    let exponent : c.unwrap.result.n ≡ n = search rules in
    let by_value : (fault : NumFault) → (r ≡ Err fault) ↔ RefusesValue (ulinear16_value n 0) (ulinear16_value n 65535) asked fault =
    subst (λ (z : ℤ). (fault : NumFault)
    → (r ≡ Err fault) ↔ RefusesValue (ulinear16_value z 0)
    (ulinear16_value z 65535) asked fault) exponent c.answer_in-in-Ulinear16.ensures.refused in
    subst (λ (f : FormatText). (fault : NumFault)
    → (r ≡ Err fault) ↔ Refuses (record { format = f; asked = asked }) fault) (sym c.in-Ulinear16.is)
    (refused_by_value (record { format = Ulinear16 n; asked = asked }) tt (λ fault h. h) r by_value)

pub returns-in_ok-new-in-Direct-clause-answered : goal.returns-in_ok-new-in-Direct-clause-answered
returns-in_ok-new-in-Direct-clause-answered c =
    let asked = c.args.asked.asked in
    let result = c.answer_in-in-Direct.result in
    let d = c.in_ok-new-in-Direct.field-0 in
    let m = c.in-Direct.m in
    let b = c.in-Direct.b in
    let r = c.in-Direct.r in
    let is = c.in_ok-new-in-Direct.ensures.coefficients in
    let of_m : d.m ≡ m = is.slope ∙ to_z-of_z w16 m (search rules) in
    let of_b : d.b ≡ b = is.offset ∙ to_z-of_z w16 b (search rules) in
    let of_r : d.r ≡ r = is.decimal ∙ to_z-of_z w8 r (search rules) in
    let answered : IfOk result (IsAnswer (direct_value m b r) one_rank asked) =
    with_coefficients (λ x y z. IfOk result (IsAnswer (direct_value x y z) one_rank asked))
    of_m of_b of_r c.answer_in-in-Direct.ensures.answered in
    subst (λ (f : FormatText). IfOk result (IsAnswer (value_in f) (rank_in f) asked)) (sym c.in-Direct.is) answered

pub returns-in_ok-new-in-Direct-clause-refused : goal.returns-in_ok-new-in-Direct-clause-refused
returns-in_ok-new-in-Direct-clause-refused c =
    let asked = c.args.asked.asked in
    let result = c.answer_in-in-Direct.result in
    let d = c.in_ok-new-in-Direct.field-0 in
    let m = c.in-Direct.m in
    let b = c.in-Direct.b in
    let r = c.in-Direct.r in
    let is = c.in_ok-new-in-Direct.ensures.coefficients in
    let of_m : d.m ≡ m = is.slope ∙ to_z-of_z w16 m (search rules) in
    let of_b : d.b ≡ b = is.offset ∙ to_z-of_z w16 b (search rules) in
    let of_r : d.r ≡ r = is.decimal ∙ to_z-of_z w8 r (search rules) in
    let refused : (fault : NumFault) → (result ≡ Err fault) ↔ Refuses (record { format = Direct m b r; asked = asked }) fault =
    direct_refused m b r (subst (λ z. z ≢ pos 0) of_m d.slope) (subst IsDecimal of_r d.decimal) asked result
    (with_coefficients (λ x y z. (fault : NumFault)
    → (result ≡ Err fault) ↔ RefusesValue (direct_value x y z (direct_least x)) (direct_value x y z (direct_greatest x)) asked fault)
    of_m of_b of_r c.answer_in-in-Direct.ensures.refused) in
    subst (λ (f : FormatText). (fault : NumFault)
    → (result ≡ Err fault) ↔ Refuses (record { format = f; asked = asked }) fault) (sym c.in-Direct.is) refused
