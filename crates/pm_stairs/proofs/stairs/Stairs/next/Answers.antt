use Rattle.std.proofs.Common.{Option, ap, subst}
use Rattle.std.specs.Option.{option_copied}
use Rattle.pm_stairs.specs.declared.stairs.Move.{Move}
use Rattle.pm_stairs.specs.Stairs.{GoesUnder, all, first, restarted, under}
use Rattle.pm_stairs.proofs.stairs.Stairs.next.Goals as goal

pub returns-then-self : goal.returns-then-self
returns-then-self g c = restarted c.if-self.true

pub returns-in-Some : goal.returns-in-Some
returns-in-Some g c = under c.in-Some.said c.under.new.self c.if-self.false
    (subst (λ (o : Option Move). GoesUnder (g.S.Sight.guarded c.args.guard.now) c.args.self.now o c.under.new.self) c.in-Some.is
    c.under.ensures)

pub returns-in-Some-ahead : goal.returns-in-Some-ahead
returns-in-Some-ahead g c = first c.in-Some-ahead.step.now c.ahead.result c.under.new.self c.ahead.new.self c.if-self.false
    (subst (λ (o : Option Move). GoesUnder (g.S.Sight.guarded c.args.guard.now) c.args.self.now o c.under.new.self) c.in_default.is
    c.under.ensures)
    (ap (λ o. option_copied o) c.in-Some-ahead.is) c.ahead.ensures

pub returns-in-None : goal.returns-in-None
returns-in-None g c = all c.under.new.self c.if-self.false
    (subst (λ (o : Option Move). GoesUnder (g.S.Sight.guarded c.args.guard.now) c.args.self.now o c.under.new.self) c.in_default.is
    c.under.ensures)
    (ap (λ o. option_copied o) c.in-None.is)
