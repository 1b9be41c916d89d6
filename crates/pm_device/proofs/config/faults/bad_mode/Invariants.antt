use Rattle.std.proofs.Common.{◌≡◌, drop}
use Rattle.pm_device.specs.Start.{bad_mode}
use Rattle.pm_device.proofs.config.faults.bad_mode.Given as goal

abbrev pub invariant-loop-output : goal.invariant-loop-output
invariant-loop-output l = bad_mode 0 l.outputs ≡ bad_mode l.output (drop l.output l.outputs)
