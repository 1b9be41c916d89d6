use Rattle.pm_driver.proofs.Jobs.{looks-lead}
use Rattle.pm_driver.proofs.laws.looks_lead.Goals as goal

pub returns : goal.returns
returns g c = looks-lead c.laws_of_lives.ensures g.B.Bus.gives g.B.Bus.held g.B.Bus.restarts
