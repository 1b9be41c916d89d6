use Rattle.std.proofs.Common.{List, [], sym, ◌∙◌, ap, subst}
use Rattle.pm_model.specs.Settings.{word_at}
use Rattle.pm_device.specs.Held.{Held}
use Rattle.pm_part_laws.specs.Happenings.{Happening, IsLifeBeside, beside}
use Rattle.pm_law_tests.proofs.beside.an_order_that_differs_beside.Goals as goal

pub returns : goal.returns
returns g c later before order read at asks alone steady ended =
    let held = g.life.held in
    let passes = g.life.passes in
    let so = c.differing_beside.ensures held passes [] later before order c.args.cell c.args.word read
    (subst (λ (l : List Happening). IsLifeBeside held passes l) at c.requires.lived) asks alone steady
    (ap (λ (l : List Happening). (beside held passes l).end) (sym at) ∙ ended) in (
      so.0,
      ap (λ (d : Held). word_at d.words c.args.cell) c.requires.device_is
          ∙ (ap (λ (l : List Happening). word_at (beside held passes l).device.words c.args.cell) at ∙ so.1),
    )
