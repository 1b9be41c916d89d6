use Rattle.std.proofs.Common.{◌≡◌, ℕ, List, ◌++◌, length}
use Rattle.std.specs.Io.KnownBytes.{Appends}
use Rattle.pm_lines.proofs.sink.Sink.put.Given as goal

-- a prefix of the bytes was written, the rest is left, and no call failed
abbrev pub invariant-writes : goal.invariant-writes
invariant-writes g l =
    (front : List ℕ) × (l.bytes ≡ front ++ l.rest)
    × Appends (g.W.Write.contents l.fn.self.inner) (g.W.Write.contents l.self-inside.inner) front
    × (l.self-inside.failed ≡ l.fn.self.failed)

abbrev pub decreases-writes : goal.decreases-writes
decreases-writes g l = length l.rest
