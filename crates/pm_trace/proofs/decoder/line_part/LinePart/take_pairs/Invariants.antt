use Rattle.std.proofs.Common.{◌≡◌, length}
use Rattle.std.specs.List.{fold}
use Rattle.pm_lines.specs.Pairs.{paired_bytes, behind_pairs}
use Rattle.pm_trace.specs.Parts.{part_takes}
use Rattle.pm_trace.proofs.decoder.line_part.LinePart.take_pairs.Given as goal

-- what the rest makes of the part as it is now, all digits make of it as it was
abbrev pub invariant-pairs : goal.invariant-pairs
invariant-pairs l = record {
  taken : fold part_takes l.self (paired_bytes l.rest) ≡ fold part_takes l.fn.self (paired_bytes l.digits);
  behind : behind_pairs l.rest ≡ behind_pairs l.digits;
}

abbrev pub decreases-pairs : goal.decreases-pairs
decreases-pairs l = length l.rest
