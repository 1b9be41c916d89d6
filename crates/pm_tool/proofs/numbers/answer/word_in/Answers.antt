use Rattle.std.proofs.Common.{rules, ap, ℤ, w64, FitsSigned, to_z, of_z, ◌∙◌, ◌≡◌, ◌<◌, ◌≤◌, ◌^◌, ◌↔◌, refl, sym, subst, Err, IsOk, IfErr}
use Rattle.std.proofs.Common.{unsigned_abs}
use Rattle.std.proofs.lemmas.Int.{to_z-of_z}
use Rattle.pm_num.specs.Nearest.{IsOutside}
use Rattle.pm_num.specs.Ratio.{AtMost, IsBetween, Ratio, micros}
use Rattle.pm_tool.specs.NumberText.{RefusesValue}
use Rattle.pm_tool.specs.declared.numbers.question.Asked.{Asked}
use Rattle.pm_tool.proofs.Texts.{refused_outside}
use Rattle.pm_tool.proofs.numbers.answer.word_in.Goals as goal

pub returns-in_ok-micro-in-Nearest-clause-refused : goal.returns-in_ok-micro-in-Nearest-clause-refused
returns-in_ok-micro-in-Nearest-clause-refused g c =
    let f = c.args.format.now in
    let least = g.F.NumFormat.lowest f in
    let greatest = g.F.NumFormat.highest f in
    let met_least = g.met.F.NumFormat.least_met f in
    let met_greatest = g.met.F.NumFormat.greatest_met f in
    let dl = subst (λ (v : Ratio). 0 < v.den) met_least.2 (g.met.F.NumFormat.has_den f met_least.0 met_least.1) in
    let dg = subst (λ (v : Ratio). 0 < v.den) met_greatest.2 (g.met.F.NumFormat.has_den f met_greatest.0 met_greatest.1) in
    let order = subst (λ (v : Ratio). AtMost v greatest) met_least.2 (g.met.F.NumFormat.within f met_least.0 met_least.1).to_greatest in
    let k = c.in-Nearest.k in
    let micro = c.in_ok-micro-in-Nearest in
    let range : FitsSigned w64 k = search rules in
    let passed : to_z w64 (of_z w64 k) ≡ k = to_z-of_z w64 k range in
    let value : micro.field-0 ≡ micros k = micro.ensures.value ∙ ap micros passed in
    let small = subst (λ (z : ℤ). unsigned_abs z ≤ 10 ^ 15) passed (micro.ensures.size.0 refl) in
    let inside : IsOk c.nearest.result ↔ IsBetween least greatest (micros k) = subst (λ
    (x : Ratio). IsOk c.nearest.result ↔ IsBetween least greatest x) value c.nearest.ensures.inside in
    let out : IfErr c.nearest.result (IsOutside least greatest (micros k)) = subst (λ (x : Ratio). IfErr c.nearest.result
    (IsOutside least greatest x)) value c.nearest.ensures.refused in
    λ fault. subst (λ (asked : Asked). (c.nearest.result ≡ Err fault) ↔ RefusesValue least greatest asked fault) (sym c.in-Nearest.is)
    (refused_outside least greatest (record { least_den = dl; greatest_den = dg; order = order }) k small c.nearest.result inside out fault)
