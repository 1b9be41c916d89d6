use Rattle.std.proofs.Common.{subst}
use Rattle.pm_driver.specs.Driven.{IsTrueOf}
use Rattle.pm_driver.proofs.Lives.{true-of}
use Rattle.pm_driver.proofs.driver.Driver.laws.Goals as goal

pub returns : goal.returns
returns g c =
    subst (λ d. IsTrueOf d.guard.host (g.B.Bus.held d.bus)) c.self.view_is
    (true-of c.laws_of_lives.ensures c.self.inside.guard.host (g.B.Bus.held c.self.inside.bus) c.self.invariant)
