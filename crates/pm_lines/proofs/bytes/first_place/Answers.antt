use Rattle.std.proofs.Common.{◌==◌}
use Rattle.pm_lines.proofs.LinesAndWords.{first_is}
use Rattle.pm_lines.proofs.bytes.first_place.Goals as goal

pub returns : goal.returns
returns c = first_is (λ byte. byte == c.args.mark) c.args.bytes.now c.memchr.result c.memchr.ensures
