use Rattle.std.proofs.Common.{◌≡◌, drop}
use Rattle.pm_device.specs.Start.{bad_registers}
use Rattle.pm_device.proofs.config.faults.bad_registers.Given as goal

abbrev pub invariant-loop-output : goal.invariant-loop-output
invariant-loop-output l = bad_registers 0 l.outputs ≡ bad_registers l.output (drop l.output l.outputs)
