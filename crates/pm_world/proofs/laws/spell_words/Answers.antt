use Rattle.std.proofs.Common.{arith, ◌<◌, ◌^◌}
use Rattle.pm_device.specs.Start.{register_start}
use Rattle.pm_world.proofs.Events.{each}
use Rattle.pm_world.proofs.laws.spell_words.Goals as goal

pub returns : goal.returns
returns c = each (λ register. register_start register c.args.start < 2 ^ 16)
    (λ number below. c.loop-register.invariant number (omega (arith, below)))
