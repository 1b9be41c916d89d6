use Rattle.std.proofs.Common.{length}
use Rattle.pm_lines.proofs.number_text.+push_hex_number.Given as goal

abbrev pub decreases-push_hex_number : goal.decreases-push_hex_number
decreases-push_hex_number l = length l.bytes.now
