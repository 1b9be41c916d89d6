use Rattle.std.proofs.Common.{◌≡◌, Option, ap, sym, subst, ◌∙◌}
use Rattle.std.specs.Option.{option_copied}
use Rattle.pm_rail.specs.declared.fault.PlanFault.{PlanFault}
use Rattle.pm_stairs.specs.declared.sequence.Sequence.{Sequence}
use Rattle.pm_stairs.specs.declared.sequence.Turn.{Turn}
use Rattle.pm_stairs.specs.declared.sequence.Turn.TheVariants as turn
use Rattle.pm_stairs.specs.Sequence.{Says, Turns, asks, at_once_of, refused_for, turned, turned_after, with_stairs}
use Rattle.pm_stairs.proofs.sequence.Sequence.asked.Goals as goal

pub returns-in-Some : goal.returns-in-Some
returns-in-Some g c =
    subst (λ (q : Sequence). Turns (g.S.Sight.guarded c.args.guard.now) (option_copied c.args.ahead) c.args.self.now turn.Again q)
    (sym c.begins_at_once.ensures)
    (at_once_of c.in-Some.step.now c.requires.due (sym c.off_at_once.ensures ∙ ap (λ o. option_copied o) c.in-Some.is))

pub returns : goal.returns
returns g c =
    let G = g.S.Sight.guarded c.args.guard.now in
    let q = c.args.self.now in
    let ahead = (option_copied c.args.ahead) in
    let said = c.said-said.result in
    let stairs = c.said-said.new.asked in
    let why = refused_for G q said in
    let why-is : c.refused_for-refused.result ≡ why =
    c.refused_for-refused.ensures ∙ ap (λ (w : Sequence). refused_for G w said) c.requires.same in
    let turn-is : c.goes.result ≡ turned ahead said why =
    c.goes.ensures.turn ∙ ap (λ (r : Option PlanFault). turned ahead said r) why-is in
    let after-is : c.goes.new.self ≡ turned_after ahead q said stairs why =
    c.goes.ensures.after
    ∙ ap (λ (w : Sequence). turned_after ahead (with_stairs (record q { stairs = stairs }) w.stairs) said stairs c.refused_for-refused.result)
    c.requires.same
    ∙ ap (λ (r : Option PlanFault). turned_after ahead q said stairs r) why-is in
    subst (λ (t : Turn). Turns G ahead q t c.goes.new.self) (sym turn-is)
    (subst (λ (new : Sequence). Turns G ahead q (turned ahead said why) new) (sym after-is)
    (asks said stairs c.requires.due (sym c.off_at_once.ensures ∙ ap (λ o. option_copied o) c.in_default.is)
    (subst (λ (w : Sequence). Says G ahead w said stairs) c.requires.same c.said-said.ensures)))
