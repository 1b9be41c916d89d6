use Rattle.std.proofs.Common.{◌≡◌, take}
use Rattle.pm_trace.specs.OpenLines.{plain_line}
use Rattle.pm_trace.proofs.decoder.open_line.OpenLine.of.Given as goal

-- the bytes so far were taken
abbrev pub invariant-loop-byte : goal.invariant-loop-byte
invariant-loop-byte l = l.open ≡ plain_line (take l.byte-index l.line)
