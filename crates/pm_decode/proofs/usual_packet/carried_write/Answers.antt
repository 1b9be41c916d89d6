use Rattle.std.proofs.Common.{arith}
use Rattle.pm_decode.proofs.Shown.{carried_written}
use Rattle.pm_decode.proofs.usual_packet.carried_write.Goals as goal

pub returns : goal.returns
returns c = carried_written c.writes_are_exact.ensures c.in_ok-addr.addr c.from_le_bytes.result c.pec.result c.args.write.now
    (omega arith) (omega arith) (omega arith) c.in_ok-addr.ensures.address c.in_ok-addr.ensures.write
    (c.is_word_written.ensures.written c.if-not-is_word_written.false) (c.is_word_written.ensures.word c.if-not-is_word_written.false)
    c.pec.ensures (omega arith) (omega arith) (omega arith)
