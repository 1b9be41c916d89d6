use Rattle.std.proofs.Common.{ℕ, subst, sym}
use Rattle.pm_table.specs.Address.{IsAddress}
use Rattle.pm_law_tests.proofs.Uses.{made-begins}
use Rattle.pm_law_tests.proofs.drivers.a_host_that_begins_anew.Goals as goal

pub new-requires : goal.new-requires
new-requires g c = subst (λ (a : ℕ). IsAddress a) (sym c.requires.address)
    (c.lives_lead_on.ensures c.args.driver.now.guard.host (g.B.Bus.held c.args.driver.now.bus) c.laws.ensures.has c.requires.places).part.made.address

pub returns : goal.returns
returns g c = made-begins (g.B.Bus.held c.args.driver.now.bus) c.args.address c.args.outputs c.args.passes c.new.result
    (c.lives_lead_on.ensures c.args.driver.now.guard.host (g.B.Bus.held c.args.driver.now.bus) c.laws.ensures.has c.requires.places)
    c.requires.address c.requires.outputs c.new.ensures.made c.new.ensures.setup
