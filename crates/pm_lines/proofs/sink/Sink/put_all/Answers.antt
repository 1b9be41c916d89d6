use Rattle.pm_lines.specs.Lemmas.Writing.{AppendsFront-later, flat_map-at, on_err}
use Rattle.pm_lines.proofs.sink.Sink.put_all.Goals as goal

pub returns-in_err-put-clause-front : goal.returns-in_err-put-clause-front
returns-in_err-put-clause-front g c =
    on_err c.from_residual.result _
    (AppendsFront-later _ _ _ _ _ _ _ (record {
      written = c.pieces.invariant.written;
      short = c.in_err-put.ensures.front;
      parts = flat_map-at _ c.args.pieces.now c.pieces.piece-index _ c.pieces-test.true;
    }))
