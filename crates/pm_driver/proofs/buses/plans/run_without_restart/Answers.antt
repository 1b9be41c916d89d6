use Rattle.pm_driver.proofs.buses.plans.run_without_restart.Goals as goal

pub returns-clause-never : goal.returns-clause-never
returns-clause-never c = c.never_restarts_stays.ensures c.args.job c.args.driver.now c.run.new.self c.run.result c.run.ensures c.requires
