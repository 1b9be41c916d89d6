use Rattle.std.proofs.Common.{◌≡◌, None, sym}
use Rattle.pm_frame.specs.PagedRead.{paged_fault}
use Rattle.pm_frame.proofs.Layouts.{paged_fault-spelled, paged_fault-found}
use Rattle.pm_frame.proofs.paged_read.read_paged.Goals as goal

pub returns-in_err-paged_checked-clause-accepts : goal.returns-in_err-paged_checked-clause-accepts
returns-in_err-paged_checked-clause-accepts c = λ payload h.
    let none = paged_fault-spelled c.args.addr c.args.page c.args.code c.args.size payload c.args.got.now h in
    cc (c.in_err-paged_checked.ensures.fault)

pub returns-clause-payload : goal.returns-clause-payload
returns-clause-payload c =
    let none : paged_fault c.args.addr c.args.page c.args.code c.args.size c.args.got.now ≡ None = sym c.in_ok-paged_checked.ensures.fault in
    paged_fault-found c.args.addr c.args.page c.args.code c.args.size c.args.got.now none
