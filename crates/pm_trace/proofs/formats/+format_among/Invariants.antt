use Rattle.std.proofs.Common.{length}
use Rattle.pm_trace.proofs.formats.+format_among.Given as goal

abbrev pub decreases-format_among : goal.decreases-format_among
decreases-format_among l = length l.rest.now
