use Rattle.std.proofs.Common.{arith}
use Rattle.pm_decode.proofs.Shown.{carried_answered}
use Rattle.pm_decode.proofs.usual_packet.carried_read.Goals as goal

pub returns : goal.returns
returns c = carried_answered c.requests_are_exact.ensures c.answers_are_exact.ensures c.in_ok-addr.addr c.from_le_bytes.result
    c.pec_after.result c.args.write.now c.args.read.now (omega arith) (omega arith) (omega arith) (omega arith) (omega arith)
    c.in_ok-addr.ensures.address c.in_ok-addr.ensures.write (omega arith) (c.is_word_read.ensures.read c.if-not-is_word_read.false)
    (c.is_word_read.ensures.word c.if-not-is_word_read.false) (c.pec_after.ensures c.args.write.now c.pec.ensures)
    (omega arith) (omega arith) (omega arith)
