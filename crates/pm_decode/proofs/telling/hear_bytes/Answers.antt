use Rattle.std.proofs.lemmas.Result.{err_from_is_err_and}
use Rattle.pm_decode.proofs.Captures.{stops_memory, stops_too_long}
use Rattle.pm_decode.proofs.telling.hear_bytes.Goals as goal

pub returns-in_err-take-clause-stops : goal.returns-in_err-take-clause-stops
returns-in_err-take-clause-stops c =
    let p = err_from_is_err_and c.from_residual.result c.from_residual.ensures.1 in
    rw (p.1, p.2) (stops_memory c.args.capture.now c.args.gathered.now c.take.new.gathered c.args.bytes.now c.front.result.now
    c.room-room.result c.front.ensures c.in_err-take.ensures.front c.in_err-take.ensures.some)

pub returns-then-room-bytes-clause-stops : goal.returns-then-room-bytes-clause-stops
returns-then-room-bytes-clause-stops c =
    stops_too_long c.args.capture.now c.args.gathered.now c.take.new.gathered c.args.bytes.now c.front.result.now
    c.room-room.result c.front.ensures c.if-room-bytes.true (c.room-room.ensures.full c.if-room-bytes.true) c.in_ok-take.ensures.told
