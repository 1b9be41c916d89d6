use Rattle.std.proofs.Common.{sym, ◌∙◌}
use Rattle.pm_driver.proofs.Lives.{delivered}
use Rattle.pm_driver.proofs.buses.converter_end.deliver.Goals as goal

pub returns-then-is_legal_hearing-clause-is : goal.returns-then-is_legal_hearing-clause-is
returns-then-is_legal_hearing-clause-is c =
    delivered c.args.packet.now c.heard_bytes-bytes.result.now c.heard_ending-ending.result c.args.arrival.now c.args.device.now
    c.hear.new.self
    c.heard_bytes-bytes.ensures c.heard_ending-ending.ensures
    (sym c.is_legal_hearing.ensures ∙ c.if-is_legal_hearing.true) c.hear.ensures.after
