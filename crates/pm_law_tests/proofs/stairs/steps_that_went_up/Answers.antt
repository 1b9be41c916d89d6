use Rattle.pm_law_tests.proofs.Uses.{found-lived}
use Rattle.pm_law_tests.proofs.stairs.steps_that_went_up.Goals as goal

pub returns : goal.returns
returns c = found-lived c.run_all.result _ _
    (λ lived spelled. c.stairs_hold_in_lives.ensures c.args.c c.args.passes _ spelled lived)
    c.run_all.ensures.lived c.run_all.ensures.sound
