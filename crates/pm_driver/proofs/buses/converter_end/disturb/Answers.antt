use Rattle.std.proofs.Common.{sym, subst}
use Rattle.pm_driver.specs.Disturbed.{IsDisturbed}
use Rattle.pm_driver.proofs.Lives.{restarted, undisturbed}
use Rattle.pm_driver.proofs.buses.converter_end.disturb.Goals as goal

pub returns-then-restarts-clause-is : goal.returns-then-restarts-clause-is
returns-then-restarts-clause-is c =
    subst (λ b. IsDisturbed c.args.device.now b c.restart.new.self) (sym c.if-restarts.true)
    (restarted c.args.device.now c.restart.new.self c.restart.ensures.after)

pub returns-else-restarts-clause-is : goal.returns-else-restarts-clause-is
returns-else-restarts-clause-is c =
    subst (λ b. IsDisturbed c.args.device.now b c.args.device.now) (sym c.if-restarts.false) (undisturbed c.args.device.now)
