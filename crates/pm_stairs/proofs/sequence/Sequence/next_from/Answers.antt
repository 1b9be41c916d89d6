use Rattle.std.proofs.Common.{ℕ, sym, subst, ◌∙◌}
use Rattle.std.specs.Option.{option_copied}
use Rattle.pm_stairs.specs.declared.sequence.Turn.TheVariants as turn
use Rattle.pm_stairs.specs.Sequence.{Turns, elsewhere}
use Rattle.pm_stairs.proofs.sequence.Sequence.next_from.Goals as goal

pub returns : goal.returns
returns g c =
    subst (λ (d : ℕ). Turns (g.S.Sight.guarded c.args.guard.now) (option_copied c.args.ahead) c.args.self.now turn.Again
    (record c.args.self.now { host = d }))
    (sym c.host_due-due.ensures) (elsewhere (λ same. c.if-self-due.false (same ∙ sym c.host_due-due.ensures)))
