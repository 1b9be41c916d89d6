use Rattle.std.proofs.Common.{arith}
use Rattle.pm_table.specs.declared.reg.Reg.TheVariants.{MarginHigh, MarginLow, Operation, VoutCommand, VoutMax, VoutMin}
use Rattle.pm_device.specs.Held.{shape_for}
use Rattle.pm_law_tests.proofs.limits.a_part_within_limits.Goals as goal

pub returns : goal.returns
unfolding shape_for
returns c Operation voltage = cc
returns c VoutCommand voltage = record { from_least = omega arith; to_greatest = omega arith }
returns c MarginHigh voltage = record { from_least = omega arith; to_greatest = omega arith }
returns c MarginLow voltage = record { from_least = omega arith; to_greatest = omega arith }
returns c VoutMax voltage = omega arith
returns c VoutMin voltage = omega arith
