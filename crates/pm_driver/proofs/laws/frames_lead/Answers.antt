use Rattle.pm_driver.proofs.Jobs.{frames-lead}
use Rattle.pm_driver.proofs.laws.frames_lead.Goals as goal

pub returns : goal.returns
returns g c = frames-lead c.laws_of_lives.ensures g.B.Bus.gives g.B.Bus.held g.B.Bus.restarts
