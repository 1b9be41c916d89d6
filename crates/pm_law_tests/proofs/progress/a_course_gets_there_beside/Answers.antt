use Rattle.std.proofs.Common.{arith, subst}
use Rattle.std.specs.Prelude.{List}
use Rattle.pm_table.specs.Operation.{selected_register}
use Rattle.pm_limits.specs.Part.{all_registers}
use Rattle.pm_rail.specs.Registers.{wants_of}
use Rattle.pm_part_laws.specs.Happenings.{Happening, IsLifeBeside, beside}
use Rattle.pm_law_tests.proofs.Uses.{few, few-bytes, has-all}
use Rattle.pm_law_tests.proofs.progress.a_course_gets_there_beside.Goals as goal

pub returns-clause-wishes : goal.returns-clause-wishes
returns-clause-wishes g c limits output words wanted voltages course own n later before at here means idle undisturbed =
    let held = g.life.held in
    let passes = g.life.passes in
    let whole = c.frame_courses_get_there.ensures.whole words voltages (beside held passes before).device output (wants_of wanted) in
    c.frame_courses_get_there_beside.ensures.begins held passes all_registers limits output words wanted voltages 28 course own n later before
    (subst (λ (l : List Happening). IsLifeBeside held passes l) at c.requires.lived) here means idle whole.0 whole.1 (few _) undisturbed

pub returns-clause-bytes : goal.returns-clause-bytes
returns-clause-bytes g c limits output byte course own n later before at here idle allowed undisturbed =
    let held = g.life.held in
    let passes = g.life.passes in
    c.frame_courses_get_there_beside.ensures.switches held passes all_registers limits output byte 20 course own n later before
    (subst (λ (l : List Happening). IsLifeBeside held passes l) at c.requires.lived) here idle (λ on. has-all (selected_register byte)) allowed
    (few-bytes _ _) undisturbed

pub returns-clause-surveys : goal.returns-clause-surveys
returns-clause-surveys g c limits output course own n later before at here idle undisturbed =
    let held = g.life.held in
    let passes = g.life.passes in
    c.frame_courses_get_there_beside.ensures.surveys held passes all_registers limits output 10 course own n later before
    (subst (λ (l : List Happening). IsLifeBeside held passes l) at c.requires.lived) here idle (has-all _) (omega arith) undisturbed
