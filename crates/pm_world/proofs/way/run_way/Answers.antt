use Rattle.std.proofs.Common.{◌∙◌, ap, subst}
use Rattle.pm_world.specs.declared.way.Way.TheVariants.{Off}
use Rattle.pm_world.specs.Life.{AreTakenFrom, found_by, taken_events}
use Rattle.pm_world.specs.State.{State}
use Rattle.pm_world.specs.Way.{way_after}
use Rattle.pm_world.proofs.Events.{way-found, run-room}
use Rattle.pm_world.proofs.way.run_way.Goals as goal

pub returns-clause-way : goal.returns-clause-way
returns-clause-way c =
    let begins = c.in_ok-world.ensures in
    let events = taken_events c.args.events.now c.run_up-stop.result.0 in
    let all = subst (λ (s : State). AreTakenFrom s events) begins.made c.run_up-stop.ensures.all in
    c.run_up-stop.ensures.found
    ∙ (ap (λ (s : State). found_by (λ way event world. way_after world event way) Off s events) begins.made
    ∙ way-found c.lives_are_followed.ensures c.ways_are_followed.ensures c.args.c c.args.passes events begins.sound.0 begins.sound.1 all)

pub returns-clause-room : goal.returns-clause-room
returns-clause-room c = run-room c.args.c c.args.passes c.args.events.now c.run_up-stop.result.0
