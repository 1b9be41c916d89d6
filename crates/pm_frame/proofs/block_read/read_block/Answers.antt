use Rattle.std.proofs.Common.{◌≡◌, None, sym}
use Rattle.pm_frame.specs.BlockRead.{block_fault}
use Rattle.pm_frame.proofs.Layouts.{block_fault-spelled, block_fault-found}
use Rattle.pm_frame.proofs.block_read.read_block.Goals as goal

pub returns-in_err-block_checked-clause-accepts : goal.returns-in_err-block_checked-clause-accepts
returns-in_err-block_checked-clause-accepts c = λ payload h.
    let none = block_fault-spelled c.args.addr c.args.code payload c.args.got.now h in cc (c.in_err-block_checked.ensures.fault)

pub returns-clause-payload : goal.returns-clause-payload
returns-clause-payload c =
    let none : block_fault c.args.addr c.args.code c.args.got.now ≡ None = sym c.in_ok-block_checked.ensures.fault in
    block_fault-found c.args.addr c.args.code c.args.got.now none
