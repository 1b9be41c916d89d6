use Rattle.std.proofs.Common.{ap, ap₂, ◌∙◌, map, set}
use Rattle.std.proofs.lemmas.List.{map-set}
use Rattle.pm_memory.specs.Guard.{limits_held}
use Rattle.pm_memory.specs.Memory.{limits_image}
use Rattle.pm_memory.proofs.guard_image.put.Goals as goal

pub returns-clause-held : goal.returns-clause-held
returns-clause-held c =
    map-set limits_held c.args.all.now c.from.result c.args.limits
    ∙ ap (λ at. set (map limits_held c.args.all.now) at (limits_held c.args.limits)) c.from.ensures

pub returns-clause-written : goal.returns-clause-written
returns-clause-written c = λ one are.
    let all = c.args.all.now in
    let at = c.from.result in
    let limits = c.args.limits in
    rw (map-set limits_held all at limits, map-set limits_image (map limits_held all) at (limits_held limits))
    (ap₂ (λ written one. set written at one) are one)
