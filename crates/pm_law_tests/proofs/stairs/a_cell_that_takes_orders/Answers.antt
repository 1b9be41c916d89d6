use Rattle.std.proofs.Common.{◌≡◌, ◌⊎◌, ◌++◌, true, subst, sym}
use Rattle.std.specs.Prelude.{List}
use Rattle.pm_model.specs.Settings.{word_at}
use Rattle.pm_world.specs.declared.event.Event.{Event}
use Rattle.pm_world.specs.Lived.{IsLived}
use Rattle.pm_world.specs.Moves.{words_at}
use Rattle.pm_law_tests.proofs.Uses.{found-lived}
use Rattle.pm_law_tests.proofs.stairs.a_cell_that_takes_orders.Goals as goal

pub returns : goal.returns
returns c = found-lived c.run_all.result _ _
    (λ lived spelled cell allowed newer later before is here idle first second.
    subst (λ (es : List Event). (word_at (words_at c.args.c c.args.passes es) cell
    ≡ word_at (words_at c.args.c c.args.passes (later ++ before)) cell)
    ⊎ (allowed (word_at (words_at c.args.c c.args.passes es) cell) ≡ true)) (sym is)
    (c.cells_take_what_is_ordered.ensures.took c.args.c c.args.passes cell allowed newer later before
    (subst (λ (es : List Event). IsLived c.args.c c.args.passes es) is lived) here idle first second))
    c.run_all.ensures.lived c.run_all.ensures.sound
