use Rattle.std.proofs.Common.{rules}
use Rattle.std.proofs.lemmas.Int.{to_z-of_z}
use mir.Syntax.{w128}
use mir.Val.{SFits}
use Rattle.pm_text.proofs.Scenarios.{floor-is}
use Rattle.pm_text.proofs.report.outputs.microvolts.Goals as goal

pub returns-clause-value : goal.returns-clause-value
returns-clause-value c =
    let fits : SFits w128 c.floor_micro.result = search rules in
    let same = floor-is c.args.value c.floor_micro.result (search rules) c.floor_micro.ensures.reached c.floor_micro.ensures.greatest in
    simp to_z-of_z same
