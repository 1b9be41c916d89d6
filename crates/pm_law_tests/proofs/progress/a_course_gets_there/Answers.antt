use Rattle.std.proofs.Common.{subst}
use Rattle.std.specs.Prelude.{List}
use Rattle.pm_limits.specs.Part.{all_registers}
use Rattle.pm_rail.specs.Registers.{wants_of}
use Rattle.pm_world.specs.declared.event.Event.{Event}
use Rattle.pm_world.specs.Life.{now}
use Rattle.pm_world.specs.Lived.{IsLived}
use Rattle.pm_law_tests.proofs.Uses.{found-lived, few}
use Rattle.pm_law_tests.proofs.progress.a_course_gets_there.Goals as goal

pub returns : goal.returns
returns c = found-lived c.run_all.result _ _
    (λ lived spelled limits output words wanted voltages course own n later before is here means idle undisturbed.
    let law = c.frame_courses_get_there.ensures in
    let whole = law.whole words voltages (now c.args.c c.args.passes before).device output (wants_of wanted) in
    law.begins c.args.c c.args.passes all_registers limits output words wanted voltages 28 course own n later before
    spelled (subst (λ (es : List Event). IsLived c.args.c c.args.passes es) is lived) here means idle whole.0 whole.1
    (few _) undisturbed)
    c.run_all.ensures.lived c.run_all.ensures.sound
