use Rattle.std.proofs.Common.{◌∙◌, Option, Some, ap, sym}
use Rattle.pm_host.specs.declared.stage.Stage.{Stage}
use Rattle.pm_host.specs.Image.{held}
use Rattle.pm_limits.specs.Guard.{open_fault}
use Rattle.pm_limits.proofs.judgement.refuse_open.Goals as goal

pub returns-in-Some-Writes : goal.returns-in-Some-Writes
returns-in-Some-Writes c =
    let here = rw c.in-Some-Writes.is at c.in-Some-Writes.field-0-is in
    c.refuse_beyond.ensures
    ∙ ap (λ (stage : Option Stage). open_fault c.args.registers c.args.limits.now (held stage c.args.state.now) c.args.output)
    (sym (c.in-Some-Writes.is ∙ ap (λ (stage : Stage). Some stage) here))

pub returns-in-Some-Reads : goal.returns-in-Some-Reads
returns-in-Some-Reads c =
    let here = rw c.in-Some-Reads.is at c.in-Some-Reads.field-0-is in
    c.refuse_beyond-in-Some-Reads.ensures
    ∙ ap (λ (stage : Option Stage). open_fault c.args.registers c.args.limits.now (held stage c.args.state.now) c.args.output)
    (sym (c.in-Some-Reads.is ∙ ap (λ (stage : Stage). Some stage) here))
