use Rattle.std.proofs.Common.{◌≡◌, None, sym}
use Rattle.pm_frame.specs.Fault.{answer_fault}
use Rattle.pm_frame.proofs.Layouts.{answer_fault-spelled, answer_fault-found}
use Rattle.pm_frame.proofs.received.read_answer.Goals as goal

pub returns-in_err-answer_checked-clause-accepts : goal.returns-in_err-answer_checked-clause-accepts
returns-in_err-answer_checked-clause-accepts c = λ payload h.
    let none = answer_fault-spelled c.args.addr c.args.request.now payload c.args.got.now h in cc (c.in_err-answer_checked.ensures.fault)

pub returns-clause-payload : goal.returns-clause-payload
returns-clause-payload c =
    let none : answer_fault c.args.addr c.args.request.now c.args.got.now ≡ None = sym c.in_ok-answer_checked.ensures.fault in
    rw c.payload_place.ensures (answer_fault-found c.args.addr c.args.request.now c.args.got.now c.requires.read c.requires.fits none)
