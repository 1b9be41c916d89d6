use Rattle.std.proofs.Common.{◌≡◌, ◌≤◌, ◌++◌, length}
use Rattle.std.specs.Prelude.{option_map}
use Rattle.pm_lines.specs.Bytes.{word_bytes}
use Rattle.pm_text.proofs.scenario.frames.frame_of.Given as goal

-- the bytes so far stand before those of the digits that are left, and a frame may have as many
abbrev pub invariant-pairs : goal.invariant-pairs
invariant-pairs l = record {
  all : option_map (λ more. l.frame.items ++ more) (word_bytes l.digits) ≡ word_bytes l.word;
  room : length l.frame.items ≤ 16;
}

abbrev pub decreases-pairs : goal.decreases-pairs
decreases-pairs l = length l.digits
