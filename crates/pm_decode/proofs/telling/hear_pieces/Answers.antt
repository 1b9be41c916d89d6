-- What the loop over the pieces of a capture keeps, and what each way out of it comes to.
use Rattle.std.proofs.Common.{◌++◌, [], rules, arith}
use Rattle.std.proofs.lemmas.Result.{err_from_is_err_and}
use Rattle.pm_lines.specs.Engine.{over}
use Rattle.pm_decode.proofs.Captures.{due_at_fault, puts_all, read_at, why_at, broke_off, hears_at, lines_cut, stops_at, cut_off}
use Rattle.pm_decode.proofs.Captures.{gathered_more, gathered_none, grown_more, most_now, put_more}
use Rattle.pm_decode.proofs.telling.hear_pieces.Goals as goal

pub reads-init : goal.reads-init
reads-init g c = record {
  gathered = ([], gathered_none c.args.options.now _ _ c.args.told.now c.args.capture.now c.requires.empty c.requires.fresh);
  reads = search rules;
  writes = search rules;
}

pub returns-in_err-put_due-clause-broken : goal.returns-in_err-put_due-clause-broken
returns-in_err-put_due-clause-broken g c =
    let p = err_from_is_err_and c.from_residual.result c.from_residual.ensures.1 in
    let options = c.args.options.now in
    let (front, gathered) = c.reads.invariant.gathered in
    rw (p.1, p.2, c.in_err-put_due.ensures.fault) (
      tt,
      lines_cut options (over g.R.Read.remaining c.args.reader.now c.hear_piece-count.new.reader
          g.W.Write.contents c.args.writer.now c.put_due.new.writer) c.in_err-put_due.ensures.failed
          (cut_off options _ _ _ _ front _ c.reads.capture gathered _ c.hear_piece-count.new.told c.hear_piece-count.new.capture _
          c.hear_piece-count.result c.hear_piece-count.new.reader.failed c.hear_piece-count.ensures.told
          c.hear_piece-count.ensures.stops c.hear_piece-count.ensures.failed c.in_err-put_due.ensures.front),
    )

pub returns-in_err-count-clause-broken : goal.returns-in_err-count-clause-broken
returns-in_err-count-clause-broken g c =
    let p = err_from_is_err_and c.from_residual-in_err-count.result c.from_residual-in_err-count.ensures.1 in
    let options = c.args.options.now in
    let (front, gathered) = c.reads.invariant.gathered in
    let fault = c.in_err-count.field-0.0 in
    let was = c.in_err-count.was {u = tt} in
    let due = due_at_fault c.is_full.result c.hear_piece-count.result fault c.is_full.ensures was in
    rw (p.1, p.2) (broke_off options (over g.R.Read.remaining c.args.reader.now c.hear_piece-count.new.reader
    g.W.Write.contents c.args.writer.now c.put_due.new.writer) _ _ front _ c.hear_piece-count.new.told c.reads.capture gathered
    c.in_ok-put_due.ensures.failed (puts_all _ _ _ _ (c.in_ok-put_due.ensures.due due) c.in_ok-put_due.ensures.puts) fault
    (stops_at _ _ _ _ c.reads.capture c.hear_piece-count.result fault was c.hear_piece-count.ensures.stops)
    (why_at c.hear_piece-count.result fault _ was c.hear_piece-count.ensures.failed))

pub reads-smaller : goal.reads-smaller
reads-smaller g c =
    let options = c.args.options.now in
    let (front, gathered) = c.reads.invariant.gathered in
    let hears = hears_at _ _ _ _ _ _ c.hear_piece-count.result c.in_ok-count.field-0 (c.in_ok-count.was {u = tt})
    c.hear_piece-count.ensures.told in
    let grown = grown_more options _ _ _ _ front _ c.reads.capture gathered _ _ c.hear_piece-count.new.capture hears in
    let most = most_now options _ _ _ _ front _ c.reads.capture gathered in
    omega (arith, grown, most, hears.room, hears.count_is, c.if-branch-eq0.false)

pub reads-preserved : goal.reads-preserved
reads-preserved g c =
    let options = c.args.options.now in
    let (front, gathered) = c.reads.invariant.gathered in
    let was = c.in_ok-count.was {u = tt} in
    let hears = hears_at _ _ _ _ _ _ c.hear_piece-count.result c.in_ok-count.field-0 was c.hear_piece-count.ensures.told in
    let more = gathered_more options _ _ _ _ front _ c.reads.capture gathered _ _ c.hear_piece-count.new.capture hears in
    record {
      gathered = (front ++ hears.bytes, put_more options _ _ _ _ _ _ c.hear_piece-count.new.capture more _ _ c.in_ok-put_due.ensures.puts);
      reads = read_at c.hear_piece-count.result c.in_ok-count.field-0 _ was c.hear_piece-count.ensures.failed;
      writes = c.in_ok-put_due.ensures.failed;
    }
