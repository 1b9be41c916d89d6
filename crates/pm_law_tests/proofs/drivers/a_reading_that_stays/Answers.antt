use Rattle.std.specs.Prelude.{[]}
use Rattle.pm_law_tests.proofs.drivers.a_reading_that_stays.Goals as goal

pub returns : goal.returns
returns g c = λ cell counted was.
    c.restarts_are_counted.ensures [] c.carry_out.result (record { host = c.args.guard.now.host; bus = c.args.bus.now })
    (record { host = c.carry_out.new.guard.host; bus = c.carry_out.new.bus }) cell c.carry_out.ensures.leads counted was
