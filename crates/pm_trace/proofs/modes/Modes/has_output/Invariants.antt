use Rattle.std.proofs.Common.{◌≡◌}
use Rattle.std.specs.List.{list_any}
use Rattle.pm_trace.specs.Modes.{is_entry_of}
use Rattle.pm_trace.proofs.modes.Modes.has_output.Given as goal

-- whether what is left has an entry of the address is whether all have one
abbrev pub invariant-loop-key : goal.invariant-loop-key
invariant-loop-key l = list_any (is_entry_of l.addr) l.key-iterator ≡ list_any (is_entry_of l.addr) l.fn.self.said
