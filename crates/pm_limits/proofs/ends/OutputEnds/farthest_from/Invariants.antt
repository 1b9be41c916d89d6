use Rattle.std.proofs.Common.{◌≡◌, drop}
use Rattle.pm_num.specs.AnyFormat.{voltage_value}
use Rattle.pm_limits.specs.Ends.{farthest}
use Rattle.pm_limits.specs.OutputEnds.{selected_end_value}
use Rattle.pm_limits.proofs.ends.OutputEnds.farthest_from.Given as goal

-- what is left leads on from the farthest so far to that of all
abbrev pub invariant-loop-byte : goal.invariant-loop-byte
invariant-loop-byte l =
    farthest l.fn.side (selected_end_value l.fn.side (voltage_value l.fn.format) l.fn.self) l.farthest (drop l.byte-index l.others)
    ≡ farthest l.fn.side (selected_end_value l.fn.side (voltage_value l.fn.format) l.fn.self) l.fn.first l.others
