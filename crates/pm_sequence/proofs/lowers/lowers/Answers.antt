use Rattle.std.proofs.Common.{◌≡◌, true, rules, ◌∙◌, sym, ap, Option}
use Rattle.std.specs.Prelude.{nat_lt}
use Rattle.pm_stairs.specs.declared.stairs.Under.{Under}
use Rattle.pm_sequence.specs.Lowers.{lowers}
use Rattle.pm_sequence.proofs.SequenceFrames.{lowers-seen}
use Rattle.pm_sequence.proofs.lowers.lowers.Goals as goal

pub returns-else-under-ge8 : goal.returns-else-under-ge8
returns-else-under-ge8 g c =
    let small : nat_lt c.in-Some.under.step.output 8 ≡ true = search rules in
    (c.lowers_known.ensures ∙ lowers-seen (g.S.Sight.guarded c.args.guard.now) c.registers.result _ c.in-Some.under c.registers.ensures
    c.state.ensures.state small)
    ∙ sym (ap (λ (u : Option Under). lowers (g.S.Sight.guarded c.args.guard.now) u) c.in-Some.is)
