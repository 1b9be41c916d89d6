use Rattle.std.proofs.Common.{◌≡◌, ℕ, List, ◌++◌, length}
use Rattle.pm_lines.specs.Pairs.{behind_pairs, paired_bytes}
use Rattle.pm_lines.proofs.bytes.push_pairs.Given as goal

-- the bytes so far stand before those of the pairs that are left
abbrev pub invariant-pairs : goal.invariant-pairs
invariant-pairs l = record {
  all : l.bytes.items ++ paired_bytes l.rest ≡ l.fn.bytes.items ++ paired_bytes l.digits;
  behind : behind_pairs l.rest ≡ behind_pairs l.digits;
  kept : (more : List ℕ) × (l.bytes.items ≡ l.fn.bytes.items ++ more);
}

abbrev pub decreases-pairs : goal.decreases-pairs
decreases-pairs l = length l.rest
