use Rattle.std.proofs.Common.{◌≡◌, false, take}
use Rattle.std.specs.Prelude.{flat_map}
use Rattle.std.specs.Io.KnownBytes.{Appends}
use Rattle.pm_lines.proofs.sink.Sink.put_all.Given as goal

-- the pieces so far were written, and no call failed
abbrev pub invariant-pieces : goal.invariant-pieces
invariant-pieces g l = record {
  written :
      Appends (g.W.Write.contents l.fn.self.inner) (g.W.Write.contents l.self.inner)
      (flat_map (λ piece. piece.now) (take l.piece-index l.pieces));
  sound : l.self.failed ≡ false;
}
