use Rattle.std.proofs.Common.{true, sym, ◌∙◌, ap, subst}
use Rattle.pm_host.specs.Marks.{marks}
use Rattle.pm_world.specs.declared.openness.Openness.{Openness}
use Rattle.pm_world.specs.Life.{AreTakenFrom, found_by, life, taken_events}
use Rattle.pm_world.specs.OpenLists.{follows_open}
use Rattle.pm_world.specs.Setup.{setup_of}
use Rattle.pm_world.specs.State.{State}
use Rattle.pm_world.specs.Uncertainty.{since_restart}
use Rattle.pm_world.proofs.Events.{open-found}
use Rattle.pm_world.proofs.openness.run_open.Goals as goal

pub returns-clause-decides : goal.returns-clause-decides
returns-clause-decides c =
    let begins = c.in_ok-world.ensures in
    let events = taken_events c.args.events.now c.run_up-stop.result.0 in
    let all = subst (λ (s : State). AreTakenFrom s events) begins.made c.run_up-stop.ensures.all in
    let found = ap (λ (o : Openness). o.left) c.run_up-stop.ensures.found
    ∙ (ap (λ (s : State). (found_by follows_open (record { left = true }) s events).left) begins.made
    ∙ open-found c.lives_are_followed.ensures c.events_are_lived.ensures c.open_lists_are_followed.ensures c.args.c c.args.passes events
    begins.sound.0 begins.sound.1 all) in
    let told = marks (setup_of c.args.c c.args.passes) (since_restart (life c.args.c c.args.passes events).entries) in
    let test = c.open_lists_are_followed.ensures.test told in
    (λ is. test.0 (sym found ∙ is), λ opened. found ∙ test.1 opened)
