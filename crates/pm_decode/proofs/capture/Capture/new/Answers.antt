use Rattle.pm_decode.proofs.Captures.{bounded_none}
use Rattle.pm_decode.proofs.capture.Capture.new.Goals as goal

pub invariant_of-result : goal.invariant_of-result
invariant_of-result c =
    (bounded_none c.args.options.now c.new.result c.new-2.result c.args.options.now.times c.new.ensures c.new-2.ensures, c.is_plain.ensures)
