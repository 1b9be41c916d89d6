use Rattle.pm_law_tests.proofs.Uses.{found-lived}
use Rattle.pm_law_tests.proofs.stairs.steps_that_went_back.Goals as goal

pub returns-clause-stops : goal.returns-clause-stops
returns-clause-stops c = found-lived c.run_all.result _ _
    (λ lived spelled part before step newest left sound stairs.
    c.stairs_go_back.ensures.there c.args.c c.args.passes part before _ step newest left spelled lived sound stairs)
    c.run_all.ensures.lived c.run_all.ensures.sound

pub returns-clause-back : goal.returns-clause-back
returns-clause-back c = found-lived c.run_all.result _ _
    (λ lived spelled part before stop step newest downs sound stairs are down over output register here.
    c.stairs_go_back.ensures.back c.args.c c.args.passes part before stop _ step newest downs spelled lived sound stairs are down over
    output register here)
    c.run_all.ensures.lived c.run_all.ensures.sound
