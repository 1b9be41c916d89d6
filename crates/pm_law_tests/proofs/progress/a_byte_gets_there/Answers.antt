use Rattle.std.proofs.Common.{subst}
use Rattle.std.specs.Prelude.{List}
use Rattle.pm_table.specs.Operation.{selected_register}
use Rattle.pm_limits.specs.Part.{all_registers}
use Rattle.pm_world.specs.declared.event.Event.{Event}
use Rattle.pm_world.specs.Lived.{IsLived}
use Rattle.pm_law_tests.proofs.Uses.{found-lived, has-all, few-bytes}
use Rattle.pm_law_tests.proofs.progress.a_byte_gets_there.Goals as goal

pub returns : goal.returns
returns c = found-lived c.run_all.result _ _
    (λ lived spelled limits output byte course own n later before is here idle allowed undisturbed.
    c.frame_courses_get_there.ensures.switches c.args.c c.args.passes all_registers limits output byte 20 course own n later before spelled
    (subst (λ (es : List Event). IsLived c.args.c c.args.passes es) is lived) here idle (λ on. has-all (selected_register byte)) allowed
    (few-bytes _ _) undisturbed)
    c.run_all.ensures.lived c.run_all.ensures.sound
