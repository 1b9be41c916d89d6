use Rattle.std.proofs.Common.{List, ◌∙◌, ap, subst}
use Rattle.pm_model.specs.Settings.{word_at}
use Rattle.pm_device.specs.Held.{Held}
use Rattle.pm_host.specs.Summary.{Summary, standing_at}
use Rattle.pm_part_laws.specs.Happenings.{Happening, IsLifeBeside, beside}
use Rattle.pm_law_tests.proofs.beside.an_order_that_goes_through.Goals as goal

pub returns : goal.returns
returns g c frames before order arrivals acked at honest asks allowed whole =
    let held = g.life.held in
    let passes = g.life.passes in
    let led = c.requires in
    let cell = c.args.cell in
    let went = c.honest_orders_beside.ensures held passes frames before order cell c.args.word arrivals acked
    (subst (λ (l : List Happening). IsLifeBeside held passes l) at led.lived) honest asks allowed whole in (
      ap (λ (s : Summary). standing_at s cell) led.host_is
          ∙ (ap (λ (l : List Happening). standing_at (beside held passes l).host cell) at ∙ went.confirmed),
      ap (λ (d : Held). word_at d.words cell) led.device_is
          ∙ (ap (λ (l : List Happening). word_at (beside held passes l).device.words cell) at ∙ went.holds),
    )
