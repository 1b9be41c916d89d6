use Rattle.std.proofs.Common.{◌≡◌, None, sym, arith}
use Rattle.pm_frame.specs.Fault.{request_fault}
use Rattle.pm_frame.specs.View.{message_in}
use Rattle.pm_frame.proofs.Layouts.{request_fault-spelled, request_fault-found, message_in-request, request-whole}
use Rattle.pm_frame.proofs.received.read_request.Goals as goal

pub returns-in_err-requested-clause-accepts : goal.returns-in_err-requested-clause-accepts
returns-in_err-requested-clause-accepts c = λ message h. let none =
    request_fault-spelled c.args.addr message c.args.bytes.now h in cc (c.in_err-requested.ensures)

pub new-requires : goal.new-requires
new-requires c =
    let none : request_fault c.args.addr c.args.bytes.now ≡ None = sym c.in_ok-requested.ensures in
    request-whole c.args.addr (message_in c.args.bytes.now) c.args.bytes.now (request_fault-found c.args.addr c.args.bytes.now none)
    (λ i. omega (arith, c.type_inv.bytes i))

pub returns-clause-message : goal.returns-clause-message
returns-clause-message c =
    let none : request_fault c.args.addr c.args.bytes.now ≡ None = sym c.in_ok-requested.ensures in
    rw c.new.ensures (request_fault-found c.args.addr c.args.bytes.now none)

pub returns-clause-accepts : goal.returns-clause-accepts
returns-clause-accepts c = λ message h. rw c.new.ensures (message_in-request c.args.addr message c.args.bytes.now h)
