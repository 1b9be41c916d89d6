use Rattle.std.proofs.Common.{ℕ, ◌<◌, ◌^◌, get_or, map}
use Rattle.pm_table.specs.declared.reg.Reg.{Reg}
use Rattle.pm_device.specs.Start.{register_start}
use Rattle.pm_world.proofs.laws.spell.Given as goal

abbrev pub invariant-loop-start : goal.invariant-loop-start
invariant-loop-start l = record {
  modes : (k : ℕ) → k < l.start-index → get_or (map (λ start. start.mode) l.fn.c.starts) k 0 < 2 ^ 8;
  words : (register : Reg) (k : ℕ) → k < l.start-index → get_or (map (register_start register) l.fn.c.starts) k 0 < 2 ^ 16;
}
