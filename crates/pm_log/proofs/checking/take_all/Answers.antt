-- What the loop over the pieces of a log keeps, and what each way out of it comes to.
use Rattle.std.proofs.Common.{◌++◌, [], ap, rules, arith}
use Rattle.std.proofs.lemmas.Result.{err_from_is_err_and}
use Rattle.pm_log.specs.Texts.{Kept}
use Rattle.pm_log.proofs.Texts.{broken, grown, room_now, taken_more, taken_none}
use Rattle.pm_log.proofs.checking.take_all.Goals as goal

pub reads-init : goal.reads-init
reads-init g c =
    let none = ap (λ (k : Kept). k.taken) c.requires.fresh in
    record { taken = ([], taken_none _ _ c.args.log.now c.requires.fresh); sound = search rules; room = omega (arith, none) }

pub returns-in_err-take_piece-clause-breaks : goal.returns-in_err-take_piece-clause-breaks
returns-in_err-take_piece-clause-breaks g c =
    let p = err_from_is_err_and c.from_residual.result c.from_residual.ensures.1 in
    let (front, taken) = c.reads.invariant.taken in
    rw (p.1, p.2) (c.in_err-take_piece.ensures.failed, broken _ _ _ front _ taken _ _ c.in_err-take_piece.ensures.stops)

pub reads-smaller : goal.reads-smaller
reads-smaller g c =
    let (front, taken) = c.reads.invariant.taken in
    let piece = c.in_ok-take_piece.ensures.taken in
    let more = grown _ _ _ _ front _ _ taken _ piece in
    let room = piece.room in
    let count = piece.count_is in
    omega (arith, more, room, count, c.if-branch-eq0.false)

pub reads-preserved : goal.reads-preserved
reads-preserved g c =
    let (front, taken) = c.reads.invariant.taken in
    let piece = c.in_ok-take_piece.ensures.taken in
    let more = taken_more _ _ _ front _ taken _ _ _ piece in
    record {
      taken = (front ++ piece.bytes, more);
      sound = c.in_ok-take_piece.ensures.failed;
      room = room_now _ _ _ (front ++ piece.bytes) _ more;
    }
