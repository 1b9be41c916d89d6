use Rattle.pm_driver.proofs.buses.plans.read_without_restart.Goals as goal

pub returns-clause-never : goal.returns-clause-never
returns-clause-never c =
    c.reads_keep_never_restarts.ensures c.args.request.now c.args.answer.now c.read.new.answer c.args.driver.now c.read.new.self
    c.read.result
    c.read.ensures c.requires.never
