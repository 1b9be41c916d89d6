use Rattle.pm_law_tests.proofs.logs.a_voltage_that_stays.Goals as goal

pub returns-in-Ok : goal.returns-in-Ok
returns-in-Ok c = λ later before at output part least most spelled lived tells is short stands missing leaves.
    c.accepted_voltages_stay.ensures c.args.c c.args.passes later before c.args.acts.now c.args.claims.now at output part least most
    spelled lived tells c.in-Ok.ensures is short stands missing leaves
