-- How pieces of a text go together: the rules by which a call that appends several pieces has its clause from those of
-- the calls `push_hex`, `push_signed`, `push_decimal` and of `push_str`, each of which says `text.new ≡ text.old ++ piece`.
use Rattle.std.proofs.Common.{append_assoc}
use Rattle.std.proofs.lemmas.Fmt.{decimal_digit}
use Rattle.std.proofs.lemmas.Int.{to_z-of_z}
use Rattle.std.proofs.lemmas.Result.{IfOk-equal}

pub ruleset joins = (append_assoc, IfOk-equal)

-- the rules of `joins` with signed numbers, as they are passed on to `push_signed`
pub ruleset signed_joins = (append_assoc, IfOk-equal, to_z-of_z)

-- the rules of `joins` with a number of one digit, whose text is that of its digit
pub ruleset digit_joins = (append_assoc, IfOk-equal, decimal_digit)
