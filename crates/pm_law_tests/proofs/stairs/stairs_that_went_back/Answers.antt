use Rattle.pm_law_tests.proofs.Uses.{found-lived}
use Rattle.pm_law_tests.proofs.stairs.stairs_that_went_back.Goals as goal

pub returns : goal.returns
returns c = found-lived c.run_all.result _ _
    (λ lived spelled part steps before begun backs ahead stairs stop downs ups left back new g tries stop_lived up sound down at reached.
    c.climbs_come_back.ensures.back c.args.c c.args.passes part steps before begun backs ahead stairs stop downs ups left back new _ g tries
    spelled stop_lived lived up sound down at reached)
    c.run_all.ensures.lived c.run_all.ensures.sound
