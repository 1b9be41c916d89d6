use Rattle.std.proofs.Common.{◌<◌, ◌≤◌, ◌++◌, length, take, arith, length-append}
use Rattle.std.proofs.KnownBytes.{Consumes-trans}
use Rattle.std.proofs.lemmas.Result.{err_from_is_err_and}
use Rattle.pm_lines.proofs.LinesAndWords.{parted}
use Rattle.pm_lines.specs.Streams.{max_text}
use Rattle.pm_lines.proofs.text.read_text.Goals as goal

pub returns-then-count-len-clause-reads : goal.returns-then-count-len-clause-reads
returns-then-count-len-clause-reads g c =
    let more = take c.in_ok-count.count c.read.new.buf in
    let long : max_text < length (c.reads.text.items ++ more) =
    omega (arith, length-append c.reads.text.items more, c.in_ok-count.ensures.bound.1, c.reads.text.ok) in
    parted _ _ max_text (c.reads.text.items ++ more) long (Consumes-trans _ _ _ _ _ c.reads.invariant.given c.in_ok-count.ensures.bytes.0)

pub returns-in_err-extend_from_slice-clause-reads : goal.returns-in_err-extend_from_slice-clause-reads
returns-in_err-extend_from_slice-clause-reads g c =
    let p = err_from_is_err_and c.from_residual-in_err-extend_from_slice.result c.from_residual-in_err-extend_from_slice.ensures.1 in
    let more = take c.in_ok-count.count c.read.new.buf in
    let some : 0 < length (c.reads.text.items ++ more) =
    omega (arith, length-append c.reads.text.items more, c.in_ok-count.ensures.bound.1) in
    let short : length (c.reads.text.items ++ more) ≤ max_text =
    omega (arith, length-append c.reads.text.items more, c.in_ok-count.ensures.bound.1) in
    rw (p.1, p.2) (
      c.reads.text.items
          ++ more,
      some,
      short,
      Consumes-trans _ _ _ _ _ c.reads.invariant.given c.in_ok-count.ensures.bytes.0,
    )
