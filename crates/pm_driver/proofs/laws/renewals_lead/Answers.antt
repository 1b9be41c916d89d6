use Rattle.pm_driver.proofs.Lives.{renewals-lead}
use Rattle.pm_driver.proofs.laws.renewals_lead.Goals as goal

pub returns : goal.returns
returns g c = renewals-lead c.laws_of_lives.ensures g.B.Bus.gives g.B.Bus.held g.B.Bus.restarts
