use Rattle.std.proofs.Common.{◌≡◌, true, Some, ap, sym, rules, ◌∙◌}
use Rattle.std.specs.Prelude.{nat_lt}
use Rattle.pm_host.specs.Summary.{Summary}
use Rattle.pm_stairs.specs.WayBack.{goal_of_step}
use Rattle.pm_stairs.proofs.Seen.{back-none, back-some}
use Rattle.pm_stairs.proofs.way_back.way_back_fault.Goals as goal

pub returns-in-Some-plan_fault : goal.returns-in-Some-plan_fault
returns-in-Some-plan_fault g c =
    let back = c.args.back.now in
    let small : nat_lt back.output 8 ≡ true = search rules in
    let leads : goal_of_step (g.S.Sight.guarded c.args.guard.now).host back.output back.act ≡ Some c.in-Some.wanted =
    sym (ap (λ (s : Summary). goal_of_step s back.output back.act) c.state.ensures.state) ∙ sym c.goal.ensures ∙ c.in-Some.is in
    c.lasting.ensures ∙ sym (back-some (g.S.Sight.guarded c.args.guard.now) back c.in-Some.wanted c.in-Some-plan_fault.fault small leads
    (sym c.plan_fault.ensures ∙ c.in-Some-plan_fault.is))

pub returns-in-None-plan_fault : goal.returns-in-None-plan_fault
returns-in-None-plan_fault g c =
    let back = c.args.back.now in
    let small : nat_lt back.output 8 ≡ true = search rules in
    let leads : goal_of_step (g.S.Sight.guarded c.args.guard.now).host back.output back.act ≡ Some c.in-Some.wanted =
    sym (ap (λ (s : Summary). goal_of_step s back.output back.act) c.state.ensures.state) ∙ sym c.goal.ensures ∙ c.in-Some.is in
    sym (back-none (g.S.Sight.guarded c.args.guard.now) back c.in-Some.wanted small leads
    (sym c.plan_fault.ensures ∙ c.in-None-plan_fault.is))
