use Rattle.std.proofs.Common.{◌≡◌, drop}
use Rattle.pm_num.specs.AnyFormat.{voltage_value}
use Rattle.pm_limits.specs.Ends.{farthest}
use Rattle.pm_limits.proofs.ends.farthest_from.Given as goal

-- what is left leads on from the farthest so far to that of all
abbrev pub invariant-loop-word : goal.invariant-loop-word
invariant-loop-word l =
    farthest l.fn.side (voltage_value l.fn.format) l.farthest (drop l.word-index l.others)
    ≡ farthest l.fn.side (voltage_value l.fn.format) l.fn.first l.others
