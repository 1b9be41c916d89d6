use Rattle.std.proofs.Common.{Option, ap, sym, subst, ◌∙◌}
use Rattle.std.specs.Option.{option_copied}
use Rattle.pm_stairs.specs.declared.stairs.Stairs.{Stairs}
use Rattle.pm_stairs.specs.declared.step.Step.{Step}
use Rattle.pm_stairs.specs.Sequence.{GoesApart, ahead_here, apart, here}
use Rattle.pm_stairs.specs.Stairs.{Goes}
use Rattle.pm_stairs.proofs.sequence.Sequence.said.Goals as goal

pub returns-in-Some : goal.returns-in-Some
returns-in-Some g c = apart c.in-Some.step.now c.next_apart.result c.next_apart.new.self
    (sym c.asked_apart.ensures ∙ ap (λ o. option_copied o) c.in-Some.is)
    (subst (λ (s : Stairs). GoesApart (g.S.Sight.guarded c.args.guard.now) c.args.self.now.tries c.in-Some.step.now s c.next_apart.result
    c.next_apart.new.self) c.requires c.next_apart.ensures)

pub returns-in-None : goal.returns-in-None
returns-in-None g c = here c.next.result c.next.new.self (sym c.asked_apart.ensures ∙ ap (λ o. option_copied o) c.in-None.is)
    (subst (λ (s : Stairs). Goes (g.S.Sight.guarded c.args.guard.now) c.args.self.now.tries (ahead_here c.args.self.now (option_copied c.args.ahead)) s
    c.next.result c.next.new.self) c.requires
    (subst (λ (o : Option Step). Goes (g.S.Sight.guarded c.args.guard.now) c.args.self.now.tries o c.args.asked.now c.next.result c.next.new.self)
    c.ahead_here.ensures c.next.ensures))
