use Rattle.std.proofs.Common.{[], sym, subst}
use Rattle.pm_delivery.specs.declared.delivery.Delivery.{Delivery}
use Rattle.pm_sequence_laws.specs.Looks.{begins}
use Rattle.pm_law_tests.specs.Deliveries.{LookLife, LooksAt}
use Rattle.pm_law_tests.proofs.deliveries.a_look_that_begins.Goals as goal

pub returns : goal.returns
returns g c =
    let life : LookLife = record { held = g.life.held; passes = g.life.passes; later = []; before = g.life.happened } in
    subst (λ (d : Delivery). LooksAt life d c.args.device.now) (sym c.look_after.ensures)
    (record { look = begins c.args.delivery.now c.args.is_off c.args.lowers; here = c.requires.0; device_is = c.requires.1 })
