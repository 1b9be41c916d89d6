use Rattle.std.proofs.Common.{◌≡◌, None, sym, arith}
use Rattle.pm_frame.specs.Fault.{write_fault}
use Rattle.pm_frame.specs.Layout.{AreBytes}
use Rattle.pm_frame.specs.View.{message_in}
use Rattle.pm_frame.proofs.Layouts.{write_fault-spelled, write_fault-found, message_in-write, write-whole}
use Rattle.pm_frame.proofs.received.read_write.Goals as goal

pub returns-in_err-written-clause-accepts : goal.returns-in_err-written-clause-accepts
returns-in_err-written-clause-accepts c = λ message h. let none =
    write_fault-spelled c.args.addr message c.args.bytes.now h in cc (c.in_err-written.ensures)

pub new-requires : goal.new-requires
new-requires c =
    let none : write_fault c.args.addr c.args.bytes.now ≡ None = sym c.in_ok-written.ensures in
    let are_bytes : AreBytes c.args.bytes.now = λ i. omega (arith, c.type_inv.bytes i) in
    write-whole c.args.addr (message_in c.args.bytes.now) c.args.bytes.now
    (write_fault-found c.payloads_are_short.ensures c.args.addr c.args.bytes.now are_bytes none) are_bytes

pub returns-clause-message : goal.returns-clause-message
returns-clause-message c =
    let none : write_fault c.args.addr c.args.bytes.now ≡ None = sym c.in_ok-written.ensures in
    rw c.new.ensures (write_fault-found c.payloads_are_short.ensures c.args.addr c.args.bytes.now (λ i. omega (arith, c.type_inv.bytes i))
    none)

pub returns-clause-accepts : goal.returns-clause-accepts
returns-clause-accepts c = λ message h. rw c.new.ensures (message_in-write c.args.addr message c.args.bytes.now h)
