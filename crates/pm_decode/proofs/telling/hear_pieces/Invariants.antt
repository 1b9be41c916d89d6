use Rattle.std.proofs.Common.{◌≡◌, ◌-◌, ℕ, List, false}
use Rattle.pm_decode.specs.Capturing.{most_bytes}
use Rattle.pm_decode.specs.WrittenCaptures.{Gathered}
use Rattle.pm_decode.proofs.telling.hear_pieces.Given as goal

-- what was read was taken, and what its lines say was written or is gathered
abbrev pub invariant-reads : goal.invariant-reads
invariant-reads g l = record {
  gathered :
      (front : List ℕ)
      × Gathered l.options (g.R.Read.remaining l.fn.reader.inner) (g.R.Read.remaining l.reader.inner)
      (g.W.Write.contents l.fn.writer.inner) (g.W.Write.contents l.writer.inner) front l.told l.capture;
  reads : l.reader.failed ≡ false;
  writes : l.writer.failed ≡ false;
}

abbrev pub decreases-reads : goal.decreases-reads
decreases-reads g l = most_bytes l.options.long - l.capture.taken
