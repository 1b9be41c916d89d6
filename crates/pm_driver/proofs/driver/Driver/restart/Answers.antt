use Rattle.std.proofs.Common.{[], ◌∷◌, None, sym, subst}
use Rattle.pm_driver.specs.Acts.{Renewed}
use Rattle.pm_driver.specs.Driven.{HasLife}
use Rattle.pm_driver.proofs.Lives.{leads-lived}
use Rattle.pm_driver.proofs.driver.Driver.restart.Goals as goal

pub invariant_of-self : goal.invariant_of-self
invariant_of-self g c =
    subst (λ h. HasLife h (g.B.Bus.held c.self.inside.bus)) (sym c.restart.ensures.after)
    (leads-lived g.B.Bus.gives g.B.Bus.held g.B.Bus.restarts (Renewed ∷ []) None _ _ c.self.invariant
    (c.renewals_lead.ensures c.self.inside.guard.host c.self.inside.bus))
