-- Nothing is known of the other cells if the word wasn't possible.
use Rattle.std.proofs.Common.{refl, rules}
use Rattle.pm_host.specs.Memory.{IsKnown}
use Rattle.pm_host.proofs.Memory.{surprised-known}
use Rattle.pm_host.proofs.knowledge.Knowledge.good.Goals as goal
use Rattle.pm_host.proofs.knowledge.Knowledge.good.Goals.{then-not-allows, else-not-allows}

pub returns-clause-written : goal.returns-clause-written
returns-clause-written c = λ is.
    let before : IsKnown c.if-not-allows.self = elim c.if-not-allows.branch [
      | then-not-allows w ↦ search (rules, surprised-known c.args.self.now is)
      | else-not-allows w ↦ search (rules, is)
    ] in
    c.set.ensures.written before c.only.ensures.written refl
