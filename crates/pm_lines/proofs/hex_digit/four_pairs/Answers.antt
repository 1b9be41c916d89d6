-- The four pairs that are read are those that stand first.
use Rattle.std.proofs.Common.{arith}
use Rattle.pm_lines.proofs.ReadDigits.{four_read}
use Rattle.pm_lines.proofs.hex_digit.four_pairs.Goals as goal

pub returns-else-not-are_bytes-clause-bytes : goal.returns-else-not-are_bytes-clause-bytes
returns-else-not-are_bytes-clause-bytes c =
    (four_read c.args.digits.now c.pair_value-first.result c.pair_value-second.result c.pair_value-third.result
    c.pair_value-fourth.result (omega arith) (omega arith) (omega arith) (omega arith) c.pair_value-first.ensures
    c.pair_value-second.ensures c.pair_value-third.ensures c.pair_value-fourth.ensures (c.are_bytes.ensures c.if-not-are_bytes.false)).0

pub returns-else-not-are_bytes-clause-rest : goal.returns-else-not-are_bytes-clause-rest
returns-else-not-are_bytes-clause-rest c =
    (four_read c.args.digits.now c.pair_value-first.result c.pair_value-second.result c.pair_value-third.result
    c.pair_value-fourth.result (omega arith) (omega arith) (omega arith) (omega arith) c.pair_value-first.ensures
    c.pair_value-second.ensures c.pair_value-third.ensures c.pair_value-fourth.ensures (c.are_bytes.ensures c.if-not-are_bytes.false)).1
