use Rattle.std.proofs.Common.{◌≡◌, ◌+◌, ◌++◌, ◌≤◌, length}
use Rattle.pm_decode.specs.Capturing.{most_bytes, capture_with_bytes, told_of_capture}
use Rattle.pm_decode.proofs.capture.Capture.take.Given as goal

-- what is taken and said of the rest is what is left of what was to be
abbrev pub invariant-lines : goal.invariant-lines
invariant-lines l = record {
  kept : capture_with_bytes l.self l.rest ≡ capture_with_bytes l.fn.self l.bytes;
  told_of_capture : l.gathered ++ told_of_capture l.self l.rest ≡ l.fn.gathered ++ told_of_capture l.fn.self l.bytes;
  room : l.self.taken + length l.rest ≤ most_bytes l.self.options.long;
  fewer : length l.rest ≤ length l.bytes;
}

abbrev pub decreases-lines : goal.decreases-lines
decreases-lines l = length l.rest
