use Rattle.std.proofs.Common.{◌≡◌, None, sym}
use Rattle.pm_frame.specs.PlainRead.{plain_read_fault}
use Rattle.pm_frame.proofs.Layouts.{plain_read_fault-spelled, plain_read_fault-found}
use Rattle.pm_frame.proofs.plain_read.read_plain.Goals as goal

pub returns-in_err-plain_checked-clause-accepts : goal.returns-in_err-plain_checked-clause-accepts
returns-in_err-plain_checked-clause-accepts c = λ payload h.
    let none = plain_read_fault-spelled c.args.addr c.args.code c.args.size payload c.args.got.now h in
    cc (c.in_err-plain_checked.ensures.fault)

pub returns-clause-payload : goal.returns-clause-payload
returns-clause-payload c =
    let none : plain_read_fault c.args.addr c.args.code c.args.size c.args.got.now ≡ None = sym c.in_ok-plain_checked.ensures.fault in
    plain_read_fault-found c.args.addr c.args.code c.args.size c.args.got.now none
