use Rattle.std.proofs.Common.{sym, inr, refl}
use Rattle.std.proofs.lemmas.Result.{err_from_is_err_and}
use Rattle.pm_trace.proofs.Pieces.{feeds_open, feeds_ended, ends_new}
use Rattle.pm_trace.proofs.decoder.Decoder.take.Goals as goal

pub returns-in_err-end_line-clause-refused : goal.returns-in_err-end_line-clause-refused
returns-in_err-end_line-clause-refused c =
    let p = err_from_is_err_and c.from_residual-in_err-end_line.result c.from_residual-in_err-end_line.ensures.1 in
    rw (p.1, p.2) (inr (
      sym c.in_ok-room.ensures.refused,
      refl,
      ends_new c.args.self.now (record { begun_is = c.begin.ensures.begun; taken = c.in_ok-room.ensures.taken })
          c.take_bytes-fed.ensures c.if-fed.true
          c.in_err-end_line.ensures.memory,
    ))

pub returns-in_ok-end_line-clause-fed : goal.returns-in_ok-end_line-clause-fed
returns-in_ok-end_line-clause-fed c =
    feeds_ended c.args.self.now (record { begun_is = c.begin.ensures.begun; taken = c.in_ok-room.ensures.taken })
    c.take_bytes-fed.ensures c.if-fed.true _
    c.in_ok-end_line.ensures.ended

pub returns-else-fed-clause-fed : goal.returns-else-fed-clause-fed
returns-else-fed-clause-fed c =
    feeds_open c.args.self.now (record { begun_is = c.begin.ensures.begun; taken = c.in_ok-room.ensures.taken })
    c.take_bytes-fed.ensures c.if-fed.false
