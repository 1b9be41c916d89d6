use Rattle.pm_driver.proofs.Lives.{jobs-lead}
use Rattle.pm_driver.proofs.laws.jobs_lead.Goals as goal

pub returns : goal.returns
returns g c = jobs-lead c.laws_of_lives.ensures g.B.Bus.gives g.B.Bus.held g.B.Bus.restarts
