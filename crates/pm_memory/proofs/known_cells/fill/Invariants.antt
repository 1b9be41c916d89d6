use Rattle.std.proofs.Common.{◌≡◌, None, drop, length}
use Rattle.pm_host.specs.Image.{held}
use Rattle.pm_memory.specs.Known.{AreKnown}
use Rattle.pm_memory.proofs.known_cells.fill.Given as goal

-- the cells before this one are known, and those behind the last are as they were
abbrev pub invariant-loop-number : goal.invariant-loop-number
invariant-loop-number l = record {
  known : AreKnown (held None l.state) l.number l.cells;
  rest : drop l.count l.cells ≡ drop l.count l.fn.cells;
  long : length l.cells ≡ 49;
}
