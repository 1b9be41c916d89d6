use Rattle.std.proofs.Common.{sym, ◌∙◌, subst}
use Rattle.std.specs.Prelude.{IsSomeAnd}
use Rattle.pm_frame.specs.Layout.{IsWrite}
use Rattle.pm_host.specs.Summary.{sending_in}
use Rattle.pm_world.proofs.HonestOrders.{heard-shown}
use Rattle.pm_world.proofs.way.hears_whole.Goals as goal

pub returns-in-Write : goal.returns-in-Write
returns-in-Write c =
    let h = c.args.host.now in
    let shown = subst (λ bytes. IsSomeAnd (sending_in h) (λ message. IsWrite h.setup.addr message bytes)) (sym c.as_slice.ensures.value)
    c.in-Write.ensures.1 in
    c.is_whole.ensures ∙ heard-shown h c.args.arrival.now c.as_slice.result.now shown
