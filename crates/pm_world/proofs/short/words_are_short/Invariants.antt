use Rattle.std.proofs.Common.{ℕ, ◌<◌, ◌^◌}
use Rattle.pm_table.specs.declared.cell.Cell.TheVariants.{Out}
use Rattle.pm_table.specs.Cell.{register_at}
use Rattle.pm_model.specs.Settings.{word_at}
use Rattle.pm_world.proofs.short.words_are_short.Given as goal

abbrev pub invariant-loop-register : goal.invariant-loop-register
invariant-loop-register l =
    (number : ℕ) → number < l.register-index → word_at l.fn.device.words (Out l.fn.output (register_at number)) < 2 ^ 16
