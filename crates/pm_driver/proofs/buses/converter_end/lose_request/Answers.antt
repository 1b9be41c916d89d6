use Rattle.std.proofs.Common.{length}
use Rattle.pm_driver.proofs.Lives.{lost-asked}
use Rattle.pm_driver.proofs.buses.converter_end.lose_request.Goals as goal

pub returns-clause-asked : goal.returns-clause-asked
returns-clause-asked c =
    lost-asked c.args.request.now (length c.args.answer.now) c.args.device.now c.hear.new.self c.requires c.hear.ensures.after
