use Rattle.std.proofs.Common.{arith}
use Rattle.pm_text.proofs.Scenarios.{eight-are}
use Rattle.pm_text.proofs.scenario.usual_line.behind_eight.Goals as goal

pub returns-then-from_be_bytes-number : goal.returns-then-from_be_bytes-number
returns-then-from_be_bytes-number c =
    let parts = c.in_ok-first.ensures.cases in
    eight-are c.args.text.now c.in_ok-first.first.now c.in_ok-first.rest.now c.from_be_bytes.result c.args.number
    (omega (arith, parts.2)) parts.0 parts.1 (λ i. let byte = c.type_inv.text i in omega arith) c.from_be_bytes.ensures
    c.if-from_be_bytes-number.true
