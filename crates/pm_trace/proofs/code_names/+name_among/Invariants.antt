use Rattle.std.proofs.Common.{length}
use Rattle.pm_trace.proofs.code_names.+name_among.Given as goal

abbrev pub decreases-name_among : goal.decreases-name_among
decreases-name_among l = length l.rows.now
