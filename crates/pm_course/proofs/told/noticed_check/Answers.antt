use Rattle.std.proofs.Common.{◌∙◌, sym}
use Rattle.pm_host.specs.Messages.{cell_read}
use Rattle.pm_course.proofs.CourseFrames.{good-faultless}
use Rattle.pm_course.proofs.told.noticed_check.Goals as goal

pub returns-then-is_good-clause-fault : goal.returns-then-is_good-clause-fault
returns-then-is_good-clause-fault c = λ is. sym (good-faultless c.args.address (cell_read c.args.cell) c.args.bytes.now (sym is ∙ c.if-is_good.true))
