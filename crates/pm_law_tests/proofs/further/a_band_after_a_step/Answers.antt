use Rattle.std.specs.Prelude.{◌∷◌, reverse}
use Rattle.pm_law_tests.proofs.Uses.{found-so}
use Rattle.pm_law_tests.proofs.further.a_band_after_a_step.Goals as goal

pub returns : goal.returns
returns c = found-so c.short_after_a_step.result
    (λ lived spelled short part band stands holds at.
    c.bands_are_held.ensures c.args.c c.args.passes part (c.args.more.now ∷ reverse c.args.events.now) c.args.output band
    spelled lived c.requires short stands holds at)
    c.short_after_a_step.ensures.lived c.short_after_a_step.ensures.spelled c.short_after_a_step.ensures.short
