use Rattle.std.proofs.Common.{ℕ, ◌<◌, ◌^◌}
use Rattle.pm_table.specs.Cell.{register_at}
use Rattle.pm_device.specs.Start.{register_start}
use Rattle.pm_world.proofs.laws.spell_words.Given as goal

abbrev pub invariant-loop-register : goal.invariant-loop-register
invariant-loop-register l = (number : ℕ) → number < l.register-index → register_start (register_at number) l.fn.start < 2 ^ 16
