use Rattle.std.proofs.Common.{false, Option, Some, sym, subst, ◌∙◌}
use Rattle.pm_stairs.specs.declared.said.StepEnd.{StepEnd}
use Rattle.pm_stairs.specs.declared.stairs.Move.{Move}
use Rattle.pm_stairs.specs.declared.stairs.Move.TheVariants.{Stops}
use Rattle.pm_stairs.specs.declared.stairs.Under.{Under}
use Rattle.pm_stairs.specs.Stairs.{GoesUnder, absent, asks, free, under_after}
use Rattle.pm_stairs.proofs.stairs.Stairs.under.Goals as goal

pub returns-in_default : goal.returns-in_default
returns-in_default g c = free c.in_default.is

pub returns-then-not-are_there : goal.returns-then-not-are_there
returns-then-not-are_there g c =
    subst (λ (under : Option Under). GoesUnder (g.S.Sight.guarded c.args.guard.now) c.args.self.now (Some (Stops c.absent.result))
    (record c.args.self.now { under = under; reading = false })) c.in-Some.is
    (subst (λ (why : StepEnd). GoesUnder (g.S.Sight.guarded c.args.guard.now) c.args.self.now (Some (Stops why))
    (record c.args.self.now { reading = false }))
    (sym c.absent.ensures) (absent c.in-Some.under c.in-Some.is (sym c.are_there.ensures.is ∙ c.if-not-are_there.true)))

pub returns : goal.returns
returns g c =
    subst (λ (next : Option Move). GoesUnder (g.S.Sight.guarded c.args.guard.now) c.args.self.now next
    (under_after c.args.self.now c.in-Some.under.step c.ask-said.new.course)) (sym c.under_move.ensures)
    (asks c.in-Some.under c.ask-said.result c.ask-said.new.course c.in-Some.is c.ask-said.ensures)
